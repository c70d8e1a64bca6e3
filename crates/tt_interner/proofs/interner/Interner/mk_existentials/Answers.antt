-- the memory for the handles was refused, or their places are there
use Rattle.std.proofs.Common.{arith}
use Rattle.std.proofs.lemmas.Result.{err_from_is_err_and}
use Rattle.tt_interner.proofs.ExistentialSteps.{BuildsAll-memory}
use Rattle.tt_interner.proofs.interner.Interner.mk_existentials.Goals as goal

pub returns-in_err-places : goal.returns-in_err-places
returns-in_err-places c =
    let p = err_from_is_err_and c.from_residual.result c.from_residual.ensures.1 in
    rw (p.1, p.2) (BuildsAll-memory c.args.self.now c.args.predicates.now (omega arith))
