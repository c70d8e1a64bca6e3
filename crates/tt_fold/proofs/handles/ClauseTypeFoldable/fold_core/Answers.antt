use Rattle.std.proofs.Common.{ap, ◌∙◌}
use Rattle.std.proofs.lemmas.Result.{err_from_is_err_and}
use Rattle.tt_kinds.specs.Kinds.{predicate_shape}
use Rattle.tt_interner.proofs.Growth.{IsPart-grows}
use Rattle.tt_fold.proofs.FoldSteps.{gives_no_clause}
use Rattle.tt_fold.proofs.ClauseSteps.{clause-inner, clause_fails, clause_ends, clause_folds}
use Rattle.tt_fold.proofs.handles.ClauseTypeFoldable.fold_core.Goals as goal

pub fold_core-requires-clause-value : goal.fold_core-requires-clause-value
fold_core-requires-clause-value g c =
    clause-inner _ c.args.self c.as_predicate-before.result c.as_predicate-before.ensures c.requires.value

pub returns-in_err-folded-clause-folds : goal.returns-in_err-folded-clause-folds
returns-in_err-folded-clause-folds g c =
    let p = err_from_is_err_and c.from_residual.result c.from_residual.ensures.1 in
    rw (p.1, p.2) (clause_fails c.args.self c.as_predicate-before.result c.as_predicate-before.ensures c.in_err-folded.ensures.folds)

pub check_stays_clause-requires-clause-before : goal.check_stays_clause-requires-clause-before
check_stays_clause-requires-clause-before g c =
    let part = clause-inner _ c.args.self c.as_predicate-before.result c.as_predicate-before.ensures c.requires.value in
    IsPart-grows _ _ c.in_ok-folded.ensures.folds.extends.rows (predicate_shape c.as_predicate-before.result) part

pub returns-in_err-check_stays_clause-clause-folds : goal.returns-in_err-check_stays_clause-clause-folds
returns-in_err-check_stays_clause-clause-folds g c =
    let p = err_from_is_err_and c.from_residual-in_err-check_stays_clause.result c.from_residual-in_err-check_stays_clause.ensures.1 in
    let part = clause-inner _ c.args.self c.as_predicate-before.result c.as_predicate-before.ensures c.requires.value in
    let h = c.in_err-check_stays_clause.ensures in
    let error = gives_no_clause {E = g.row.F-Error.Denot} g.F.Error.From.from_gives _ _ h.refusal p.2 in
    rw p.1 (clause_ends c.args.self c.as_predicate-before.result c.in_ok-folded.folded c.as_predicate-before.ensures part c.in_ok-folded.ensures.folds h.err.0 h.err.1 error)

pub returns-clause-folds : goal.returns-clause-folds
returns-clause-folds g c =
    let part = clause-inner _ c.args.self c.as_predicate-before.result c.as_predicate-before.ensures c.requires.value in
    let same = ap (λ clause. clause.number) c.from_number.ensures ∙ c.number.ensures in
    clause_folds c.args.self c.from_number.result c.as_predicate-before.result c.in_ok-folded.folded c.as_predicate-before.ensures same part c.in_ok-folded.ensures.folds c.in_ok-check_stays_clause.ensures.ok
