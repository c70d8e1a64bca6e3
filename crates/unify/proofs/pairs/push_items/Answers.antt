use Rattle.std.proofs.Common.{◌≡◌, ◌-◌, inl, inr, ap, sym, subst, ◌∙◌, arith}
use Rattle.std.specs.Prelude.{slice_get}
use Rattle.std.proofs.lemmas.Bool.{cases_eq}
use Rattle.std.proofs.lemmas.Option.{same_Some, slice_get_past}
use Rattle.tt_interner.specs.Rows.{meaning}
use Rattle.tt_interner.specs.Children.{children_at}
use Rattle.unify.proofs.FormEqualities.{items_met, same_table}
use Rattle.unify.proofs.MismatchLaws.{lists_alike, other_table}
use Rattle.unify.specs.Comparison.{IsPairOf, NoPairs, PendingIn}
use Rattle.unify.proofs.PairLaws.{child_parts, equates_pushed, pairs_pushed}
use Rattle.unify.proofs.SolutionLaws.{stored_tree}
use Rattle.unify.proofs.TriangularForms.{items_linked}
use Rattle.unify.proofs.TriangularLoop.{items_pending, pair_of, pushed_kept, pushed_own}
use Rattle.unify.proofs.pairs.push_items.Goals.{then-ne-via-then-ne, then-ne-via-else-ne+then-len-other}
use Rattle.unify.proofs.pairs.push_items.Goals as goal

pub loop-place-preserved : goal.loop-place-preserved
loop-place-preserved c = record {
  owned = pairs_pushed c.args.cx.now c.loop-place.pairs.items c.push.new.self.items c.list_child.result c.list_child-in-loop-place.result c.in_ok-push.ensures.items c.loop-place.invariant.owned
      (child_parts _ _ (c.loop-place.place - 1) c.list_child.result c.list_child.ensures c.list_len-len.ensures.parts)
      (child_parts _ _ (c.loop-place.place - 1) c.list_child-in-loop-place.result c.list_child-in-loop-place.ensures c.list_len-other.ensures.parts);
  general = λ ρ same equates.
      let m = meaning c.args.cx.now.rows in
      equates_pushed ρ c.args.cx.now c.loop-place.pairs.items c.push.new.self.items c.list_child.result c.list_child-in-loop-place.result c.in_ok-push.ensures.items
      (c.loop-place.invariant.general ρ same equates)
      (items_met ρ m c.args.left c.args.right c.args.left.table c.args.right.table (children_at c.args.cx.now.rows c.args.left) (children_at c.args.cx.now.rows c.args.right)
      (same_table c.args.left.table c.args.right.table (sym c.ne.ensures ∙ c.if-ne.false))
      (stored_tree m c.args.left _ c.list_len-len.ensures.means) (stored_tree m c.args.right _ c.list_len-other.ensures.means) c.list_len-len.ensures.fit c.list_len-other.ensures.fit same
      (c.loop-place.place - 1) c.list_child.result c.list_child-in-loop-place.result c.list_child.ensures c.list_child-in-loop-place.ensures);
  others = λ t u at.
      subst (λ ps. PendingIn c.args.cx.now ps t u) (sym c.in_ok-push.ensures.items)
      (pushed_kept c.args.cx.now c.loop-place.pairs.items (pair_of c.list_child.result c.list_child-in-loop-place.result) t u (c.loop-place.invariant.others t u at));
  pending = λ i x y below at at' t u is.
      subst (λ ps. PendingIn c.args.cx.now ps t u) (sym c.in_ok-push.ensures.items)
      (elim (cases_eq i (c.loop-place.place - 1)) [
        | inl here ↦ pushed_own c.args.cx.now c.loop-place.pairs.items (pair_of c.list_child.result c.list_child-in-loop-place.result) t u
            (let first : x ≡ c.list_child.result = same_Some x c.list_child.result (sym at ∙ ap (slice_get (children_at c.args.cx.now.rows c.args.left)) here ∙ c.list_child.ensures) in
            let second : y ≡ c.list_child-in-loop-place.result = same_Some y c.list_child-in-loop-place.result (sym at' ∙ ap (slice_get (children_at c.args.cx.now.rows c.args.right)) here ∙ c.list_child-in-loop-place.ensures) in
            subst (λ z. IsPairOf c.args.cx.now (pair_of z c.list_child-in-loop-place.result) t u) first (subst (λ z. IsPairOf c.args.cx.now (pair_of x z) t u) second is))
        | inr other ↦ pushed_kept c.args.cx.now c.loop-place.pairs.items (pair_of c.list_child.result c.list_child-in-loop-place.result) t u
            (c.loop-place.invariant.pending i x y (omega (arith, below, other)) at at' t u is)
      ]);
}

pub loop-place-init : goal.loop-place-init
loop-place-init c = record {
  owned = c.requires.pairs;
  general = λ ρ same equates. equates;
  others = λ t u at. at;
  pending = λ i x y past at at' t u is.
      absurd (let none = slice_get_past (children_at c.args.cx.now.rows c.args.left) i (omega (arith, past, c.list_len-len.ensures.len)) in cc);
}

pub returns-clause-others : goal.returns-clause-others
returns-clause-others c = c.loop-place.invariant.others

pub returns-clause-parts : goal.returns-clause-parts
returns-clause-parts c = λ entries.
    let terms = c.args.cx.now in
    let m = meaning terms.rows in
    items_linked entries (PendingIn terms c.loop-place.pairs.items) NoPairs m c.args.left c.args.right c.args.left.table c.args.right.table
    (children_at terms.rows c.args.left) (children_at terms.rows c.args.right)
    (same_table c.args.left.table c.args.right.table (sym c.ne.ensures ∙ c.if-ne.false))
    (stored_tree m c.args.left _ c.list_len-len.ensures.means) (stored_tree m c.args.right _ c.list_len-other.ensures.means)
    (omega (arith, c.if-len-other.false, c.list_len-len.ensures.len, c.list_len-other.ensures.len))
    (λ i x y at at'.
    items_pending terms entries (PendingIn terms c.loop-place.pairs.items) NoPairs c.args.left.table c.args.right.table
    (children_at terms.rows c.args.left) (children_at terms.rows c.args.right) i x y at at'
    c.list_len-len.ensures.fit c.list_len-other.ensures.fit
    (c.loop-place.invariant.pending i x y (omega (arith, c.loop-place-test.false)) at at'))

pub returns-then-ne-clause-mismatch : goal.returns-then-ne-clause-mismatch
returns-then-ne-clause-mismatch c = λ is ρ same.
    let m = meaning c.args.cx.now.rows in
    let alike = lists_alike ρ m c.args.left c.args.right c.args.left.table c.args.right.table (children_at c.args.cx.now.rows c.args.left) (children_at c.args.cx.now.rows c.args.right)
    (stored_tree m c.args.left _ c.list_len-len.ensures.means) (stored_tree m c.args.right _ c.list_len-other.ensures.means) c.list_len-len.ensures.fit c.list_len-other.ensures.fit same in
    elim c.then-ne.branch [
      | then-ne-via-then-ne w ↦ other_table c.args.left.table c.args.right.table (sym c.ne.ensures ∙ w.if-ne.true) alike.0
      | then-ne-via-else-ne+then-len-other w ↦ omega (arith, w.if-len-other.true, c.list_len-len.ensures.len ∙ alike.1 ∙ sym c.list_len-other.ensures.len)
    ]
