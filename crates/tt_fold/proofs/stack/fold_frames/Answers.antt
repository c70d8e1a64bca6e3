use Rattle.std.proofs.Common.{refl, arith}
use Rattle.std.proofs.lemmas.Result.{err_from_is_err_and}
use Rattle.tt_interner.proofs.Growth.{Extends-refl, Extends-trans}
use Rattle.tt_fold.specs.declared.stack.Begun.TheVariants as begun
use Rattle.tt_fold.proofs.FrameLaws.{frame-fits, frame-grows}
use Rattle.tt_fold.proofs.PartLaws.{one_tree}
use Rattle.tt_fold.proofs.ChildLaws.{absent_for, absent_walks, region_falls, region_for, region_walks}
use Rattle.tt_fold.proofs.GoingLaws.{stepped-frame, next_part, no_frames, going_starts, begun_fits, going_on}
use Rattle.tt_fold.proofs.GoingLaws.{going_stuck, going_child_fails, going_rebuild_fails, going_ends}
use Rattle.tt_fold.proofs.GoingLaws.{going_finish_fails, going_up, going_up_not_kept, rises, outer_frame, outer_result}
use Rattle.tt_fold.proofs.GoingLaws.{last_held, enough_values, total_on, total_past, total_up, next_stored, begun_types}
use Rattle.tt_fold.proofs.GoingLaws.{going_past, going_not_kept, past_result}
use Rattle.tt_fold.proofs.stack.fold_frames.Goals as goal

pub walk-init : goal.walk-init
walk-init g c = going_starts c.requires.owned c.requires.frame c.requires.start c.new-frames.ensures.items c.new-values.ensures.items

pub next_child-child-requires-clause-frame : goal.next_child-child-requires-clause-frame
next_child-child-requires-clause-frame g c = c.walk.invariant.holds.frame

pub overflow_add-frame : goal.overflow_add-frame
overflow_add-frame g c =
    let fits = frame-fits c.walk.invariant.holds.frame in
    omega (arith, fits, c.if-frame.true)

pub begin_stored-requires-clause-owned : goal.begin_stored-requires-clause-owned
begin_stored-requires-clause-owned g c = c.walk.invariant.is_owned

pub begin_stored-requires-clause-handle : goal.begin_stored-requires-clause-handle
begin_stored-requires-clause-handle g c = next_stored _ c.walk.invariant (rw c.in-Stored.is at c.next_child-child.ensures)

pub returns-in_err-begun-in-Types : goal.returns-in_err-begun-in-Types
returns-in_err-begun-in-Types g c =
    let p = err_from_is_err_and c.from_residual.result c.from_residual.ensures.1 in
    let next = rw c.in-Stored.is at c.next_child-child.ensures in
    let d = c.in_err-begun-in-Types.ensures.goes in
    rw (p.1, p.2) (going_child_fails _ c.walk.invariant next (one_tree _ _) d.extends d.is_owned d.outcome)

pub advance-requires-clause-frame : goal.advance-requires-clause-frame
advance-requires-clause-frame g c =
    stepped-frame (frame-grows c.in_ok-begun-in-Types.ensures.goes.extends.rows c.walk.invariant.holds.frame)

pub advance-requires-clause-begun : goal.advance-requires-clause-begun
advance-requires-clause-begun g c =
    begun_fits _ _ c.walk.invariant (rw c.in-Stored.is at c.next_child-child.ensures) c.in_ok-begun-in-Types.ensures.goes

pub walk-smaller-in-Continue-branch-2 : goal.walk-smaller-in-Continue-branch-2
walk-smaller-in-Continue-branch-2 g c =
    let next = rw c.in-Stored.is at c.next_child-child.ensures in
    total_on _ _ _ _ _ c.walk.invariant next c.in_ok-begun-in-Types.ensures.goes c.in_ok-advance-in-Types.ensures.advanced

pub walk-preserved-in-Continue-branch-2 : goal.walk-preserved-in-Continue-branch-2
walk-preserved-in-Continue-branch-2 g c =
    let next = rw c.in-Stored.is at c.next_child-child.ensures in
    going_on _ _ c.walk.invariant next c.in_ok-begun-in-Types.ensures.goes c.in_ok-advance-in-Types.ensures.advanced

pub returns-in_err-advance-in-Types : goal.returns-in_err-advance-in-Types
returns-in_err-advance-in-Types g c =
    let next = rw c.in-Stored.is at c.next_child-child.ensures in
    let p = err_from_is_err_and c.from_residual-in_err-advance-in-Types.result c.from_residual-in_err-advance-in-Types.ensures.1 in
    rw p.1 (going_stuck _ _ c.walk.invariant next c.in_ok-begun-in-Types.ensures.goes c.in_err-advance-in-Types.ensures.stuck p.2)

pub begin_other-requires-clause-owned : goal.begin_other-requires-clause-owned
begin_other-requires-clause-owned g c = c.walk.invariant.is_owned

pub begin_other-requires-clause-handle : goal.begin_other-requires-clause-handle
begin_other-requires-clause-handle g c = next_stored _ c.walk.invariant (rw c.in-Stored.is at c.next_child-child.ensures)

pub returns-in_err-begun-in_default : goal.returns-in_err-begun-in_default
returns-in_err-begun-in_default g c =
    let p = err_from_is_err_and c.from_residual-in_err-begun-in_default.result c.from_residual-in_err-begun-in_default.ensures.1 in
    let next = rw c.in-Stored.is at c.next_child-child.ensures in
    let d = c.in_err-begun-in_default.ensures.goes in
    rw (p.1, p.2) (going_child_fails _ c.walk.invariant next (one_tree _ _) d.extends d.is_owned d.outcome)

pub advance-requires-in_default-clause-frame : goal.advance-requires-in_default-clause-frame
advance-requires-in_default-clause-frame g c =
    stepped-frame (frame-grows c.in_ok-begun-in_default.ensures.goes.extends.rows c.walk.invariant.holds.frame)

pub advance-requires-in_default-clause-begun : goal.advance-requires-in_default-clause-begun
advance-requires-in_default-clause-begun g c =
    begun_fits _ _ c.walk.invariant (rw c.in-Stored.is at c.next_child-child.ensures) c.in_ok-begun-in_default.ensures.goes

pub walk-smaller-in-Continue-branch-5 : goal.walk-smaller-in-Continue-branch-5
walk-smaller-in-Continue-branch-5 g c =
    let next = rw c.in-Stored.is at c.next_child-child.ensures in
    total_on _ _ _ _ _ c.walk.invariant next c.in_ok-begun-in_default.ensures.goes c.in_ok-advance-in_default.ensures.advanced

pub walk-preserved-in-Continue-branch-5 : goal.walk-preserved-in-Continue-branch-5
walk-preserved-in-Continue-branch-5 g c =
    let next = rw c.in-Stored.is at c.next_child-child.ensures in
    going_on _ _ c.walk.invariant next c.in_ok-begun-in_default.ensures.goes c.in_ok-advance-in_default.ensures.advanced

pub returns-in_err-advance-in_default : goal.returns-in_err-advance-in_default
returns-in_err-advance-in_default g c =
    let next = rw c.in-Stored.is at c.next_child-child.ensures in
    let p = err_from_is_err_and c.from_residual-in_err-advance-in_default.result c.from_residual-in_err-advance-in_default.ensures.1 in
    rw p.1 (going_stuck _ _ c.walk.invariant next c.in_ok-begun-in_default.ensures.goes c.in_err-advance-in_default.ensures.stuck p.2)

pub list_frame-requires-clause-list : goal.list_frame-requires-clause-list
list_frame-requires-clause-list g c = next_stored _ c.walk.invariant (rw c.in-Stored.is at c.next_child-child.ensures)

pub list_frame-requires-clause-items : goal.list_frame-requires-clause-items
list_frame-requires-clause-items g c = rw c.in-TypeLists.is refl

pub walk-smaller-in-Continue-branch-3 : goal.walk-smaller-in-Continue-branch-3
walk-smaller-in-Continue-branch-3 g c =
    let next = rw c.in-Stored.is at c.next_child-child.ensures in
    total_on _ _ _ _ (begun.Inside _) c.walk.invariant next (begun_types _ c.walk.invariant next c.in-TypeLists.is c.list_frame.ensures) c.in_ok-advance-in-TypeLists.ensures.advanced

pub walk-preserved-in-Continue-branch-3 : goal.walk-preserved-in-Continue-branch-3
walk-preserved-in-Continue-branch-3 g c =
    let next = rw c.in-Stored.is at c.next_child-child.ensures in
    going_on _ (begun.Inside _) c.walk.invariant next (begun_types _ c.walk.invariant next c.in-TypeLists.is c.list_frame.ensures) c.in_ok-advance-in-TypeLists.ensures.advanced

pub returns-in_err-advance-in-TypeLists : goal.returns-in_err-advance-in-TypeLists
returns-in_err-advance-in-TypeLists g c =
    let next = rw c.in-Stored.is at c.next_child-child.ensures in
    let p = err_from_is_err_and c.from_residual-in_err-advance-in-TypeLists.result c.from_residual-in_err-advance-in-TypeLists.ensures.1 in
    rw p.1 (going_stuck _ (begun.Inside _) c.walk.invariant next (begun_types _ c.walk.invariant next c.in-TypeLists.is c.list_frame.ensures) c.in_err-advance-in-TypeLists.ensures.stuck p.2)

pub core_region-requires-clause-owned : goal.core_region-requires-clause-owned
core_region-requires-clause-owned g c = c.walk.invariant.is_owned

pub core_region-requires-clause-region : goal.core_region-requires-clause-region
core_region-requires-clause-region g c =
    let parts = next_part _ c.walk.invariant.holds.frame (rw c.in-Region.is at c.next_child-child.ensures) in
    parts.0

pub returns-in_err-new_region-in-Region : goal.returns-in_err-new_region-in-Region
returns-in_err-new_region-in-Region g c =
    let p = err_from_is_err_and c.from_residual-in_err-new_region-in-Region.result c.from_residual-in_err-new_region-in-Region.ensures.1 in
    let next = rw c.in-Region.is at c.next_child-child.ensures in
    let h = c.in_err-new_region-in-Region.ensures in
    rw (p.1, p.2) (going_child_fails _ c.walk.invariant next (one_tree _ _) h.extends h.owned (region_falls _ _ h.result))

pub keep-requires-clause-frame : goal.keep-requires-clause-frame
keep-requires-clause-frame g c = stepped-frame (frame-grows c.in_ok-new_region-in-Region.ensures.extends.rows c.walk.invariant.holds.frame)

pub keep-requires-clause-child : goal.keep-requires-clause-child
keep-requires-clause-child g c =
    past_result _ _ c.walk.invariant (rw c.in-Region.is at c.next_child-child.ensures) (region_for c.in_ok-new_region-in-Region.ensures.result.0)

pub walk-smaller-in-Continue-branch-7 : goal.walk-smaller-in-Continue-branch-7
walk-smaller-in-Continue-branch-7 g c =
    total_past _ c.walk.invariant (rw c.in-Region.is at c.next_child-child.ensures) c.in_ok-new_region-in-Region.ensures.extends

pub walk-preserved-in-Continue-branch-7 : goal.walk-preserved-in-Continue-branch-7
walk-preserved-in-Continue-branch-7 g c =
    let next = rw c.in-Region.is at c.next_child-child.ensures in
    let h = c.in_ok-new_region-in-Region.ensures in
    let k = c.in_ok-keep-in-Region.ensures in
    going_past _ _ c.walk.invariant next h.extends h.owned (region_for h.result.0) (region_walks _ _ _ _ h.result.1) k.wanted k.kept

pub returns-in_err-keep-in-Region : goal.returns-in_err-keep-in-Region
returns-in_err-keep-in-Region g c =
    let p = err_from_is_err_and c.from_residual-in_err-keep-in-Region.result c.from_residual-in_err-keep-in-Region.ensures.1 in
    let next = rw c.in-Region.is at c.next_child-child.ensures in
    let h = c.in_ok-new_region-in-Region.ensures in
    rw p.1 (going_not_kept _ _ c.walk.invariant next h.extends h.owned (region_for h.result.0) (region_walks _ _ _ _ h.result.1) c.in_err-keep-in-Region.ensures.failed p.2)

pub keep-requires-in-Absent-clause-frame : goal.keep-requires-in-Absent-clause-frame
keep-requires-in-Absent-clause-frame g c = stepped-frame c.walk.invariant.holds.frame

pub keep-requires-in-Absent-clause-child : goal.keep-requires-in-Absent-clause-child
keep-requires-in-Absent-clause-child g c =
    past_result _ _ c.walk.invariant (rw c.in-Absent.is at c.next_child-child.ensures) (absent_for _)

pub walk-smaller-in-Continue-branch-8 : goal.walk-smaller-in-Continue-branch-8
walk-smaller-in-Continue-branch-8 g c =
    total_past _ c.walk.invariant (rw c.in-Absent.is at c.next_child-child.ensures) (Extends-refl _)

pub walk-preserved-in-Continue-branch-8 : goal.walk-preserved-in-Continue-branch-8
walk-preserved-in-Continue-branch-8 g c =
    let next = rw c.in-Absent.is at c.next_child-child.ensures in
    let k = c.in_ok-keep-in-Absent.ensures in
    going_past _ _ c.walk.invariant next (Extends-refl _) c.walk.invariant.is_owned (absent_for _) (absent_walks _ _) k.wanted k.kept

pub returns-in_err-keep-in-Absent : goal.returns-in_err-keep-in-Absent
returns-in_err-keep-in-Absent g c =
    let p = err_from_is_err_and c.from_residual-in_err-keep-in-Absent.result c.from_residual-in_err-keep-in-Absent.ensures.1 in
    let next = rw c.in-Absent.is at c.next_child-child.ensures in
    rw p.1 (going_not_kept _ _ c.walk.invariant next (Extends-refl _) c.walk.invariant.is_owned (absent_for _) (absent_walks _ _) c.in_err-keep-in-Absent.ensures.failed p.2)

pub rebuild-requires-clause-owned : goal.rebuild-requires-clause-owned
rebuild-requires-clause-owned g c = c.walk.invariant.is_owned

pub rebuild-requires-clause-holds : goal.rebuild-requires-clause-holds
rebuild-requires-clause-holds g c = last_held c.walk.invariant c.if-frame.false

pub rebuild-requires-clause-full : goal.rebuild-requires-clause-full
rebuild-requires-clause-full g c = enough_values c.walk.invariant c.if-frame.false

pub returns-in_err-rebuilt : goal.returns-in_err-rebuilt
returns-in_err-rebuilt g c =
    let p = err_from_is_err_and c.from_residual-in_err-rebuilt.result c.from_residual-in_err-rebuilt.ensures.1 in
    let d = c.in_err-rebuilt.ensures.goes in
    rw (p.1, p.2) (going_rebuild_fails c.walk.invariant c.if-frame.false d.extends d.is_owned d.outcome)

pub returns-in-None : goal.returns-in-None
returns-in-None g c =
    let d = c.in_ok-rebuilt.ensures.goes in
    going_ends _ c.walk.invariant c.if-frame.false (no_frames _ c.in-None.ensures.variant.1) d.extends d.is_owned d.outcome.0 d.outcome.1

pub finish-requires-clause-before : goal.finish-requires-clause-before
finish-requires-clause-before g c = (frame-grows c.in_ok-rebuilt.ensures.goes.extends.rows c.walk.invariant.holds.frame).part

pub returns-in_err-value-in-Some : goal.returns-in_err-value-in-Some
returns-in_err-value-in-Some g c =
    let p = err_from_is_err_and c.from_residual-in_err-value-in-Some.result c.from_residual-in_err-value-in-Some.ensures.1 in
    let d = c.in_ok-rebuilt.ensures.goes in
    let f = c.in_err-value-in-Some.ensures in
    rw (p.1, p.2) (going_finish_fails _ _ c.in_ok-rebuilt.rebuilt c.walk.invariant c.if-frame.false c.in-Some.ensures.items d.extends f.extends f.is_owned d.outcome.1 f.outcome)

pub keep-requires-in-Some-clause-frame : goal.keep-requires-in-Some-clause-frame
keep-requires-in-Some-clause-frame g c =
    outer_frame _ _ c.walk.invariant c.in-Some.ensures.items (Extends-trans c.in_ok-rebuilt.ensures.goes.extends c.in_ok-value-in-Some.ensures.extends)

pub keep-requires-in-Some-clause-child : goal.keep-requires-in-Some-clause-child
keep-requires-in-Some-clause-child g c = outer_result _ _ _ c.walk.invariant c.in-Some.ensures.items c.in_ok-value-in-Some.ensures.outcome.0

pub walk-smaller : goal.walk-smaller
walk-smaller g c =
    total_up _ _ c.walk.invariant c.in-Some.ensures.items (Extends-trans c.in_ok-rebuilt.ensures.goes.extends c.in_ok-value-in-Some.ensures.extends)

pub walk-preserved : goal.walk-preserved
walk-preserved g c =
    let d = c.in_ok-rebuilt.ensures in
    let f = c.in_ok-value-in-Some.ensures in
    let k = c.in_ok-keep-in-Some.ensures in
    let r = rises {z = c.in_ok-rebuilt.rebuilt} c.walk.invariant c.if-frame.false c.in-Some.ensures.items d.goes.extends f.extends f.is_owned d.goes.outcome.1 f.outcome.1 f.outcome.0 in
    going_up c.walk.invariant r k.wanted d.values k.kept

pub returns-in_err-keep-in-Some : goal.returns-in_err-keep-in-Some
returns-in_err-keep-in-Some g c =
    let p = err_from_is_err_and c.from_residual-in_err-keep-in-Some.result c.from_residual-in_err-keep-in-Some.ensures.1 in
    let d = c.in_ok-rebuilt.ensures in
    let f = c.in_ok-value-in-Some.ensures in
    let r = rises {z = c.in_ok-rebuilt.rebuilt} c.walk.invariant c.if-frame.false c.in-Some.ensures.items d.goes.extends f.extends f.is_owned d.goes.outcome.1 f.outcome.1 f.outcome.0 in
    rw p.1 (going_up_not_kept c.walk.invariant r d.values c.in_err-keep-in-Some.ensures.failed p.2)
