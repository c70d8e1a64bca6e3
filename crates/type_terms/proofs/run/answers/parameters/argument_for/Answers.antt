use Rattle.std.proofs.Common.{length, refl}
use Rattle.std.proofs.lemmas.Option.{slice_get_read}
use Rattle.type_terms.specs.Parameters.{LacksArgument}
use Rattle.tt_calls.proofs.ResultLaws.{passed}
use Rattle.type_terms.proofs.ParameterLaws.{argument-found, argument-untold, argument-unsuited}
use Rattle.type_terms.proofs.run.answers.parameters.argument_for.Goals as goal

pub returns-in_err-answer-in-Some-position_in-clause-err : goal.returns-in_err-answer-in-Some-position_in-clause-err
returns-in_err-answer-in-Some-position_in-clause-err c =
    let at = slice_get_read c.args.args.now (length c.args.args.now) c.index_of-index.result c.in-Some.arg.now refl c.in-Some.ensures.lookup.3.0 c.in-Some.ensures.lookup.1 in
    passed c.from_residual.result c.in_err-answer-in-Some-position_in.field-0.0 (LacksArgument c.args.earlier.now c.args.args.now c.args.parameter) c.from_residual.ensures.1
    (argument-untold c.args.earlier.now c.args.args.now c.args.parameter c.index_of-index.result c.in-Some.arg.now c.index_of-index.ensures at
    c.in-Some-position_in.position c.in-Some-position_in.ensures c.in_err-answer-in-Some-position_in.ensures.absent c.in_err-answer-in-Some-position_in.field-0.0 c.in_err-answer-in-Some-position_in.ensures.cause)

pub returns-in_ok-answer-in-Some-position_in-clause-ok : goal.returns-in_ok-answer-in-Some-position_in-clause-ok
returns-in_ok-answer-in-Some-position_in-clause-ok c =
    let at = slice_get_read c.args.args.now (length c.args.args.now) c.index_of-index.result c.in-Some.arg.now refl c.in-Some.ensures.lookup.3.0 c.in-Some.ensures.lookup.1 in
    argument-found c.args.earlier.now c.args.args.now c.args.parameter c.index_of-index.result c.in-Some.arg.now c.index_of-index.ensures at
    c.in-Some-position_in.position c.in-Some-position_in.ensures c.in_ok-answer-in-Some-position_in.answer.now c.in_ok-answer-in-Some-position_in.ensures.ok

pub returns-in-None-position_in-clause-err : goal.returns-in-None-position_in-clause-err
returns-in-None-position_in-clause-err c =
    let at = slice_get_read c.args.args.now (length c.args.args.now) c.index_of-index.result c.in-Some.arg.now refl c.in-Some.ensures.lookup.3.0 c.in-Some.ensures.lookup.1 in
    argument-unsuited c.args.earlier.now c.args.args.now c.args.parameter c.index_of-index.result c.in-Some.arg.now c.index_of-index.ensures at c.in-None-position_in.ensures
