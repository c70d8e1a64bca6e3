use Rattle.std.proofs.Common.{inl, refl}
use Rattle.tt_kinds.specs.Reading.{outer_binder}
use Rattle.tt_fold.specs.Steps.{tree_by}
use Rattle.tt_fold.proofs.ShiftLaws.{closed}
use Rattle.tt_binder.specs.Shifted.{unshifted}
use Rattle.tt_binder.proofs.shifted.Shifted.shift.Goals.{then-under-eq0-via-then-under-eq0}
use Rattle.tt_binder.proofs.shifted.Shifted.shift.Goals.{then-under-eq0-via-else-under-eq0+then-not-has_escaping_bound_vars}
use Rattle.tt_binder.proofs.shifted.Shifted.shift.Goals as goal

pub returns-then-under-eq0-clause-result : goal.returns-then-under-eq0-clause-result
returns-then-under-eq0-clause-result g c = unshifted (elim c.then-under-eq0.branch [
  | then-under-eq0-via-then-under-eq0 w ↦ inl w.if-under-eq0.true
  | then-under-eq0-via-else-under-eq0+then-not-has_escaping_bound_vars w ↦
      closed c.args.under (outer_binder (tree_by g.T.TypeVisitable.shape c.args.cx.now.rows c.args.argument)) w.if-not-has_escaping_bound_vars.ensures.1
]) refl refl refl
