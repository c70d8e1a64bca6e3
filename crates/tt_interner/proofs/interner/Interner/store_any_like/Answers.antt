-- by the kind in the row
use Rattle.std.proofs.Common.{◌∙◌}
use Rattle.tt_interner.proofs.NodeSteps.{kind_there, is_node, like_parts, builds_like}
use Rattle.tt_interner.proofs.interner.Interner.store_any_like.Goals as goal

pub with_parts-kind-requires : goal.with_parts-kind-requires
with_parts-kind-requires c = rw (kind_there _ c.args.handle c.kind_at.result c.kind_at.ensures.table c.kind_at.ensures.row) at c.requires.like

pub store-requires : goal.store-requires
store-requires c =
    let k = c.kind_at in
    like_parts _ c.args.handle k.result c.with_parts-kind.result c.args.parts (is_node _ c.are_rows.ensures.are c.args.handle k.result k.ensures.table k.ensures.row) c.with_parts-kind.ensures.table c.with_parts-kind.ensures.form c.requires.parts

pub returns : goal.returns
returns c =
    let k = c.kind_at in
    let with = c.with_parts-kind in
    builds_like c.store.result c.args.self.now c.store.new.self c.args.handle k.result with.result c.args.parts (kind_there _ c.args.handle k.result k.ensures.table k.ensures.row) (with.ensures.table ∙ k.ensures.table) with.ensures.form c.store.ensures.builds c.store.ensures.table
