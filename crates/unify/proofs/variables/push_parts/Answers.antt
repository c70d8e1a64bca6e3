use Rattle.std.proofs.Common.{◌≡◌, ◌<◌, ℕ, Some, List, length, slice_get, inl, inr, sym, subst, ap, ◌∙◌, arith}
use Rattle.std.proofs.lemmas.Bool.{cases_order}
use Rattle.std.proofs.lemmas.Option.{same_Some, slice_get_within}
use Rattle.tt_kinds.specs.Kinds.{child_shapes, handle_shape, kind_form, kind_sort, parts_shapes}
use Rattle.tt_kinds.specs.Shape.{AreParts}
use Rattle.tt_kinds.specs.declared.parts.Child.{Child}
use Rattle.tt_interner.specs.Children.{children_at}
use Rattle.tt_interner.specs.Rows.{meaning, size}
use Rattle.tt_interner.proofs.InfoLaws.{AreParts-append, form_has_parts}
use Rattle.tt_fold.specs.Steps.{tree_in}
use Rattle.unify.specs.Variables.{ChildListed}
use Rattle.unify.proofs.PairLaws.{child_parts}
use Rattle.unify.proofs.SolutionLaws.{stored_tree}
use Rattle.unify.proofs.VariableParts.{items_listed, list_without, parts_listed, parts_without}
use Rattle.unify.proofs.variables.push_parts.Goals as goal

pub push_child-requires-clause-child : goal.push_child-requires-clause-child
push_child-requires-clause-child c = child_parts _ _ c.loop-place.place c.list_child.result c.list_child.ensures c.list_len-place-end.ensures.parts

pub loop-place-preserved : goal.loop-place-preserved
loop-place-preserved c =
    let pushed = c.in_ok-push_child.ensures in
    record {
      stored = pushed.stored;
      keeps = λ u at. pushed.keeps u (c.loop-place.invariant.keeps u at);
      lists = λ found n below i d before at. elim (cases_order i c.loop-place.place) [
        | inl last ↦ (let there : Some c.list_child.result ≡ Some d =
            sym c.list_child.ensures ∙ ap (λ k. slice_get (children_at c.args.cx.now.rows c.args.handle) k) (sym last) ∙ at in
            subst (ChildListed found c.args.cx.now n) (same_Some c.list_child.result d there) (pushed.lists found n below))
        | inr apart ↦ elim apart [
          | inl earlier ↦ c.loop-place.invariant.lists found n (λ t there few. below t (pushed.keeps t there) few) i d earlier at
          | inr beyond ↦ absurd (omega (arith, before, beyond))
        ]
      ];
      from = λ u at. elim (pushed.from u at) [
        | inl old ↦ c.loop-place.invariant.from u old
        | inr own ↦ inr (c.loop-place.place, c.list_child.result, c.list_child.ensures, own)
      ];
    }

pub returns-then-has_items : goal.returns-then-has_items
returns-then-has_items c =
    let terms = c.args.cx.now in
    let cs = children_at terms.rows c.args.handle in
    let is = stored_tree (meaning terms.rows) c.args.handle _ c.list_len-place-end.ensures.means in
    record {
      stored = c.loop-place.invariant.stored;
      keeps = c.loop-place.invariant.keeps;
      lists = λ found n few below. items_listed found terms (tree_in terms.rows (handle_shape c.args.handle)) c.args.handle.table cs n is few
          (λ i d at. c.loop-place.invariant.lists found n below i d
          (let within : i < length cs = slice_get_within cs i d at in omega (arith, within, c.list_len-place-end.ensures.len, c.loop-place-test.false)) at);
      from = λ u at. elim (c.loop-place.invariant.from u at) [
        | inl old ↦ inl old
        | inr part ↦ inr (λ v without. list_without terms v (tree_in terms.rows (handle_shape c.args.handle)) c.args.handle.table cs is without part.0 part.1 part.2 u part.3)
      ];
    }

pub push_child-requires-2-clause-child : goal.push_child-requires-2-clause-child
push_child-requires-2-clause-child c =
    let rows = c.args.cx.now.rows in
    let all = form_has_parts (kind_sort c.node_kind.result) (size rows) (kind_form c.node_kind.result) c.node_kind.ensures.parts in
    (AreParts-append (size rows) (child_shapes c.parts-parts.result.first) (child_shapes c.parts-parts.result.second)
    (subst (λ p. AreParts (size rows) (parts_shapes p)) (sym c.parts-parts.ensures) all)).1

pub push_child-requires-3-clause-child : goal.push_child-requires-3-clause-child
push_child-requires-3-clause-child c =
    let rows = c.args.cx.now.rows in
    let all = form_has_parts (kind_sort c.node_kind.result) (size rows) (kind_form c.node_kind.result) c.node_kind.ensures.parts in
    (AreParts-append (size rows) (child_shapes c.parts-parts.result.first) (child_shapes c.parts-parts.result.second)
    (subst (λ p. AreParts (size rows) (parts_shapes p)) (sym c.parts-parts.ensures) all)).0

pub returns : goal.returns
returns c =
    let terms = c.args.cx.now in
    let t = tree_in terms.rows (handle_shape c.args.handle) in
    let is = stored_tree (meaning terms.rows) c.args.handle _ c.node_kind.ensures.means in
    let second = c.in_ok-push_child-2.ensures in
    let first = c.in_ok-push_child-3.ensures in
    record {
      stored = first.stored;
      keeps = λ u at. first.keeps u (second.keeps u at);
      lists = λ found n few below. parts_listed found terms t c.node_kind.result c.parts-parts.result n c.parts-parts.ensures is c.requires.plain few
          (first.lists found n below) (second.lists found n (λ u there fewer. below u (first.keeps u there) fewer));
      from = λ u at. elim (first.from u at) [
        | inl mid ↦ elim (second.from u mid) [
          | inl old ↦ inl old
          | inr own ↦ inr (λ v without. (parts_without terms v t c.node_kind.result c.parts-parts.result c.parts-parts.ensures is without).1 u own)
        ]
        | inr own ↦ inr (λ v without. (parts_without terms v t c.node_kind.result c.parts-parts.result c.parts-parts.ensures is without).0 u own)
      ];
    }
