-- by the kind in the row
use Rattle.std.proofs.Common.{◌≡◌, ℕ, refl, ap, ◌∙◌}
use Rattle.tt_kinds.specs.Label.{Label, type_label}
use Rattle.tt_kinds.specs.Kinds.{ty_form, relabelled, kind_table}
use Rattle.tt_kinds.specs.declared.parts.Kind.{Kind}
use Rattle.tt_kinds.specs.declared.parts.Kind.TheVariants as kind
use Rattle.tt_interner.specs.Rows.{type_row}
use Rattle.tt_interner.specs.Stored.{IsAt}
use Rattle.tt_interner.proofs.NodeSteps.{kind_there, is_node, like_parts, builds_like, parts-relabelled}
use Rattle.tt_interner.proofs.NodeSteps.{refilled-relabelled}
use Rattle.tt_interner.proofs.interner.Interner.store_like.Goals as goal

pub with_parts-kind-requires : goal.with_parts-kind-requires
with_parts-kind-requires c =
    let k : Kind = kind.Ty c.kind.result.now in
    let table : kind_table k ≡ c.args.handle.table = rw c.in-Types.is refl in
    let at : IsAt c.args.self.now.rows (type_row c.kind.result.now) c.args.handle.number = rw c.typed.ensures c.kind.ensures.row in
    rw (kind_there _ c.args.handle k table at, parts-relabelled {K = Label ℕ} type_label (ty_form c.kind.result.now)) at c.requires.like

pub store-requires : goal.store-requires
store-requires c =
    let k : Kind = kind.Ty c.kind.result.now in
    let table : kind_table k ≡ c.args.handle.table = rw c.in-Types.is refl in
    let at : IsAt c.args.self.now.rows (type_row c.kind.result.now) c.args.handle.number = rw c.typed.ensures c.kind.ensures.row in
    let form = ap (relabelled type_label) c.with_parts-kind.ensures ∙ refilled-relabelled type_label c.args.parts (ty_form c.kind.result.now) in
    like_parts _ c.args.handle k (kind.Ty c.with_parts-kind.result) c.args.parts (is_node _ c.are_rows.ensures.are c.args.handle k table at) refl form c.requires.parts

pub returns-in-Types : goal.returns-in-Types
returns-in-Types c =
    let k : Kind = kind.Ty c.kind.result.now in
    let table : kind_table k ≡ c.args.handle.table = rw c.in-Types.is refl in
    let at : IsAt c.args.self.now.rows (type_row c.kind.result.now) c.args.handle.number = rw c.typed.ensures c.kind.ensures.row in
    let form = ap (relabelled type_label) c.with_parts-kind.ensures ∙ refilled-relabelled type_label c.args.parts (ty_form c.kind.result.now) in
    builds_like c.store.result c.args.self.now c.store.new.self c.args.handle k (kind.Ty c.with_parts-kind.result) c.args.parts (kind_there _ c.args.handle k table at) table form c.store.ensures.builds c.store.ensures.table
