use Rattle.std.proofs.Common.{◌≡◌, ◌-◌, zero, suc, Some, length, slice_get, sym, subst, arith}
use Rattle.tt_kinds.specs.Kinds.{child_shapes, handle_shape, kind_form, kind_sort, parts_shapes}
use Rattle.tt_kinds.specs.Shape.{AreParts}
use Rattle.tt_interner.specs.Children.{children_at}
use Rattle.tt_interner.specs.Owned.{tree_in}
use Rattle.tt_interner.specs.Rows.{meaning, size}
use Rattle.tt_interner.proofs.InfoLaws.{AreParts-append, form_has_parts}
use Rattle.unify.proofs.PairLaws.{child_parts}
use Rattle.unify.proofs.SolutionLaws.{stored_tree}
use Rattle.canonical.proofs.SearchSteps.{pushes_begin, pushes_items, pushes_next, pushes_parts}
use Rattle.canonical.proofs.search.push_parts.Goals as goal

pub loop-place-init : goal.loop-place-init
loop-place-init c =
    λ k is. pushes_begin c.args.cx.now c.args.pending.now.items (children_at c.args.cx.now.rows c.args.handle) k
    (omega (arith, is))

pub push_child-requires : goal.push_child-requires
push_child-requires c =
    child_parts (size c.args.cx.now.rows) (children_at c.args.cx.now.rows c.args.handle)
    (c.list_len-count.result - c.loop-place.place - 1) c.list_child.result c.list_child.ensures
    c.list_len-count.ensures.parts

pub loop-place-preserved : goal.loop-place-preserved
loop-place-preserved c = λ k is.
    let terms = c.args.cx.now in
    let cs = children_at terms.rows c.args.handle in
    let count : c.list_len-count.result ≡ length cs = c.list_len-count.ensures.len in
    let index : c.list_len-count.result - c.loop-place.place - 1 ≡ k = omega (arith, is, count) in
    pushes_next terms c.args.pending.now.items c.loop-place.pending.items c.push_child.new.pending.items cs k
    c.list_child.result
    (subst (λ n. slice_get cs n ≡ Some c.list_child.result) index c.list_child.ensures)
    (c.loop-place.invariant (suc k) (omega (arith, is))) c.in_ok-push_child.ensures

pub returns-then-has_items : goal.returns-then-has_items
returns-then-has_items c =
    let terms = c.args.cx.now in
    let is = stored_tree (meaning terms.rows) c.args.handle _ c.list_len-count.ensures.means in
    pushes_items terms c.args.pending.now.items c.loop-place.pending.items
    (tree_in terms.rows (handle_shape c.args.handle))
    c.args.handle.table (children_at terms.rows c.args.handle) is
    (c.loop-place.invariant zero (omega
    (arith, c.list_len-count.ensures.len, c.loop-place-test.false, c.loop-place.auto.place-end)))

pub push_child-requires-2 : goal.push_child-requires-2
push_child-requires-2 c =
    let rows = c.args.cx.now.rows in
    let all = form_has_parts (kind_sort c.node_kind.result) (size rows) (kind_form c.node_kind.result)
    c.node_kind.ensures.parts in
    (AreParts-append (size rows) (child_shapes c.parts-parts.result.first) (child_shapes c.parts-parts.result.second)
    (subst (λ p. AreParts (size rows) (parts_shapes p)) (sym c.parts-parts.ensures) all)).1

pub push_child-requires-3 : goal.push_child-requires-3
push_child-requires-3 c =
    let rows = c.args.cx.now.rows in
    let all = form_has_parts (kind_sort c.node_kind.result) (size rows) (kind_form c.node_kind.result)
    c.node_kind.ensures.parts in
    (AreParts-append (size rows) (child_shapes c.parts-parts.result.first) (child_shapes c.parts-parts.result.second)
    (subst (λ p. AreParts (size rows) (parts_shapes p)) (sym c.parts-parts.ensures) all)).0

pub returns : goal.returns
returns c =
    let terms = c.args.cx.now in
    let t = tree_in terms.rows (handle_shape c.args.handle) in
    let is = stored_tree (meaning terms.rows) c.args.handle _ c.node_kind.ensures.means in
    pushes_parts terms c.args.pending.now.items c.push_child-2.new.pending.items c.push_child-3.new.pending.items t
    c.node_kind.result c.parts-parts.result c.parts-parts.ensures is c.requires.plain
    c.in_ok-push_child-2.ensures c.in_ok-push_child-3.ensures
