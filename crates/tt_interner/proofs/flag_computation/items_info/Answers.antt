-- the rest of the list by its next part
use Rattle.std.proofs.Common.{sym, subst, arith}
use Rattle.tt_flags.specs.declared.flag_computation.FlagComputation.{FlagComputation}
use Rattle.tt_kinds.specs.Shape.{IsPart, fill, fill_all, item_shapes}
use Rattle.tt_interner.specs.Rows.{size, meaning}
use Rattle.tt_interner.specs.Stored.{IsInfo}
use Rattle.tt_interner.specs.Tables.{AreJoined}
use Rattle.tt_interner.proofs.InfoLaws.{parts_at, fill_all-drop, fill_all-past, joined_first, joined_next, joined_all}
use Rattle.tt_interner.proofs.flag_computation.items_info.Goals as goal

pub loop-item-init : goal.loop-item-init
loop-item-init g c = joined_first _ _ c.new-all.ensures

pub flags-requires : goal.flags-requires
flags-requires g c = subst (λ x. IsPart (size c.args.cx.now.rows) (g.T.Flags.flags_shape x)) (sym c.item-item.is) (parts_at g.T.Flags.flags_shape _ c.args.items.now c.loop-item.item-index c.item-item.result (omega arith) c.requires)

pub outer_exclusive_binder-requires : goal.outer_exclusive_binder-requires
outer_exclusive_binder-requires g c = subst (λ x. IsPart (size c.args.cx.now.rows) (g.T.Flags.flags_shape x)) (sym c.item-item.is) (parts_at g.T.Flags.flags_shape _ c.args.items.now c.loop-item.item-index c.item-item.result (omega arith) c.requires)

pub loop-item-preserved : goal.loop-item-preserved
loop-item-preserved g c =
    let f = meaning c.args.cx.now.rows in
    let next : FlagComputation = record { flags = c.flags.result; outer_exclusive_binder = c.outer_exclusive_binder.result } in
    let more = fill_all-drop g.T.Flags.flags_shape f c.args.items.now c.loop-item.item-index c.item-item.result (omega arith) in
    let whole = fill_all f (item_shapes g.T.Flags.flags_shape c.args.items.now) in
    rw c.joined-all.ensures (joined_next c.loop-item.all next _ _ whole
    (subst (λ ts. AreJoined c.loop-item.all ts whole) more c.loop-item.invariant)
    (subst (λ x. IsInfo next (fill f (g.T.Flags.flags_shape x))) c.item-item.is (record { flags = c.flags.ensures; outer = c.outer_exclusive_binder.ensures })))

pub returns : goal.returns
returns g c =
    let f = meaning c.args.cx.now.rows in
    let past = fill_all-past g.T.Flags.flags_shape f c.args.items.now c.loop-item.item-index (omega arith) in
    joined_all _ _ (subst (λ ts. AreJoined c.loop-item.all ts (fill_all f (item_shapes g.T.Flags.flags_shape c.args.items.now))) past c.loop-item.invariant)
