use Rattle.std.proofs.Common.{◌≡◌}
use Rattle.tt_calls.specs.declared.call.ClauseCall.TheVariants as clause
use Rattle.tt_calls.specs.CallForm.{region_ids}
use Rattle.tt_calls.proofs.IdLaws.{both-told, first-untold}
use Rattle.tt_calls.proofs.answers.ids.predicate_kind_is_declared.Goals as goal

pub returns-then-region_is_declared : goal.returns-then-region_is_declared
returns-then-region_is_declared c =
    let it = c.in-Clause-RegionOutlives in
    let inner : it.field-0 ≡ clause.RegionOutlives it.longer it.shorter = rw it.is at it.field-0-is in
    rw (it.is, inner)
    (both-told c.args.earlier.now (region_ids it.longer) (region_ids it.shorter) _ _ c.if-region_is_declared.true c.region_is_declared.ensures c.region_is_declared-then-region_is_declared.ensures)

pub returns-else-region_is_declared : goal.returns-else-region_is_declared
returns-else-region_is_declared c =
    let it = c.in-Clause-RegionOutlives in
    let inner : it.field-0 ≡ clause.RegionOutlives it.longer it.shorter = rw it.is at it.field-0-is in
    rw (it.is, inner) (first-untold c.args.earlier.now (region_ids it.longer) (region_ids it.shorter) _ c.if-region_is_declared.false c.region_is_declared.ensures)
