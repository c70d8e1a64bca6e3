use Rattle.std.proofs.Common.{refl}
use Rattle.tt_kinds.specs.Kinds.{clause_shape}
use Rattle.tt_calls.specs.CallForm.{one, a_clause}
use Rattle.tt_calls.specs.Told.{told_all, HasFullTable}
use Rattle.tt_calls.proofs.PartLaws.{part-passed}
use Rattle.tt_calls.proofs.ClauseLaws.{clause-part, no-clause, no-predicate}
use Rattle.tt_calls.proofs.build.clauses.clause_at.Goals as goal

pub returns-in_err-predicate-clause-part : goal.returns-in_err-predicate-clause-part
returns-in_err-predicate-clause-part c =
    let e = told_all c.args.cx.now.rows c.args.earlier.now in
    part-passed c.args.cx.now e (one (a_clause c.args.position)) clause_shape c.from_residual.result c.in_err-predicate.field-0.0 c.from_residual.ensures.1
    (no-predicate (HasFullTable c.args.cx.now) e c.args.position c.in_err-predicate.field-0.0 (c.in_err-predicate.ensures.part c.args.cx.now c.requires).err)

pub as_clause-requires : goal.as_clause-requires
as_clause-requires c = (c.in_ok-predicate.ensures.part c.args.cx.now c.requires).ok.part

pub returns-in-Some-clause-part : goal.returns-in-Some-clause-part
returns-in-Some-clause-part c = record {
  ok = rw (c.in-Some.ensures.0)
      (clause-part c.args.cx.now (told_all c.args.cx.now.rows c.args.earlier.now) c.args.position c.in_ok-predicate.predicate.number (c.in_ok-predicate.ensures.part c.args.cx.now c.requires).ok
      (rw (c.in-Some.ensures.0) at c.in-Some.ensures.1));
  err = tt;
}

pub returns-in-None-clause-part : goal.returns-in-None-clause-part
returns-in-None-clause-part c = record {
  ok = tt;
  err = no-clause (HasFullTable c.args.cx.now) c.args.cx.now (told_all c.args.cx.now.rows c.args.earlier.now) c.args.position c.in_ok-predicate.predicate.number _
      (c.in_ok-predicate.ensures.part c.args.cx.now c.requires).ok c.in-None.ensures refl;
}
