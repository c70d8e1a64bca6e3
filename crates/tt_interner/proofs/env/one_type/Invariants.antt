-- what was found, which is in range, and the rest of the clauses
use Rattle.std.proofs.Common.{◌<◌}
use Rattle.std.specs.Prelude.{IfSome}
use Rattle.tt_kinds.specs.declared.table.Table.TheVariants.{Types}
use Rattle.tt_interner.specs.Rows.{size}
use Rattle.tt_interner.proofs.EnvSteps.{IsSoFar}
use Rattle.tt_interner.proofs.env.one_type.Given as goal

abbrev pub invariant-loop-clause : goal.invariant-loop-clause
invariant-loop-clause l = IsSoFar l.cx.rows l.placeholder l.clauses l.found l.clause-index × IfSome l.found (λ t. t.number < size l.cx.rows Types)
