-- The folds of vectors, from the folds of their values.
use Rattle.std.proofs.Common.{◌≡◌, List, [], ◌∷◌, ◌++◌, length, Ok, Err, refl, ap, sym, ◌∙◌, append_assoc, arith}
use Rattle.std.proofs.lemmas.List.{append-nil}
use Rattle.tt_kinds.specs.Label.{sequence_record, record_label}
use Rattle.tt_kinds.specs.Tree as tree
use Rattle.tt_kinds.specs.Tree.{Depth, Tree}
use Rattle.tt_kinds.specs.Shape as shape
use Rattle.tt_kinds.specs.Shape.{Shape, append, item_shapes, fill}
use Rattle.tt_interner.specs.Rows.{Row}
use Rattle.tt_interner.specs.Stored.{Terms}
use Rattle.tt_interner.proofs.Growth.{Extends-refl, Extends-trans, AreParts-grows, fill-grows, fill_all-grows}
use Rattle.tt_kinds.specs.Values.{sequence_shape}
use Rattle.tt_fold.specs.Walk.{Errors, Hooks, Walks, WalksAll, Fails, at_node, done, node_failed, here, stopped}
use Rattle.tt_fold.specs.Counts.{Standing}
use Rattle.tt_fold.specs.Steps.{Folds, IsPartOf, tree_in, IsPartBy, tree_by}
use Rattle.tt_fold.specs.Parts.{ArePartsOf, trees_in, FoldsValues}
use Rattle.tt_fold.specs.Stack.{joined_trees}
use Rattle.tt_fold.proofs.PartLaws.{one_part, right_parts, append_parts, append_trees, no_parts, no_trees, one_tree}
use Rattle.tt_fold.proofs.WalkLaws.{WalksAll-append, FailsAll-append, WalksAll-one}

-- a list of length 0 is empty
pub nil-from_length : {A : Type 0} (xs : List A) → length xs ≡ 0 → xs ≡ []
nil-from_length [] h = refl
nil-from_length (x ∷ xs) h = absurd (omega (arith, h))

module _ {T : Type 0} (of : T → Shape) where
  shapes-append : (xs ys : List T) → item_shapes of (xs ++ ys) ≡ append (item_shapes of xs) (item_shapes of ys)
  shapes-append [] ys = refl
  shapes-append (x ∷ xs) ys = ap (shape.also (of x)) (shapes-append xs ys)

  -- the trees of two lists of values, one after the other, are the trees of the first and then of the second
  pub trees-append : (rows : List Row) (xs ys : List T) → trees_in rows (item_shapes of (xs ++ ys)) ≡ joined_trees (trees_in rows (item_shapes of xs)) (trees_in rows (item_shapes of ys))
  trees-append rows xs ys = ap (trees_in rows) (shapes-append xs ys) ∙ append_trees rows (item_shapes of xs) (item_shapes of ys)

  -- the value after the front
  part-after : (rows : List Row) (front : List T) (x : T) (left : List T) → ArePartsOf rows (item_shapes of (front ++ x ∷ left)) → IsPartOf rows (of x)
  part-after rows front x left h =
      (right_parts rows (item_shapes of front) (item_shapes of (x ∷ left)) (rw (shapes-append front (x ∷ left)) at h)).0

  -- the values of a vector
  sequence-parts : (rows : List Row) (xs : List T) → IsPartOf rows (sequence_shape of xs) → ArePartsOf rows (item_shapes of xs)
  sequence-parts rows xs h = h.2

  -- a list of values is in range if each value is
  pub sequence-part : (rows : List Row) (xs : List T) → ArePartsOf rows (item_shapes of xs) → IsPartOf rows (sequence_shape of xs)
  sequence-part rows xs h = (refl, tt, h)

  sequence-tree : (rows : List Row) (xs : List T) → tree_in rows (sequence_shape of xs) ≡ tree.node (record_label sequence_record) (trees_in rows (item_shapes of xs))
  unfolding fill
  sequence-tree rows xs = refl

  module _ {M E S : Type 0} {owned : List Row → S → Type 0} {means : List Row → S → M} {H : Hooks (Standing M) E} where
    -- at the start no value of a list is folded, and all are left
    pub values_none : {terms : Terms} {s : S} {list values rest : List T} → owned terms.rows s → values ≡ [] → rest ≡ list
        → FoldsValues of owned means H terms s list values rest terms s
    values_none {terms} o empty all =
        rw (empty, all) (record { front = []; split = refl; extends = Extends-refl terms; is_owned = o; are_values = no_parts terms.rows; walked = rw (no_trees terms.rows) done })

    -- the next value of a list is in range if the list is
    pub value_part : {terms terms1 : Terms} {s s1 : S} {list values rest left : List T} {x : T}
        → IsPartOf terms.rows (sequence_shape of list) → FoldsValues of owned means H terms s list values rest terms1 s1 → rest ≡ x ∷ left → IsPartOf terms.rows (of x)
    value_part {terms} {list} {left} {x} parts p taken =
        let split : list ≡ p.front ++ x ∷ left = p.split ∙ ap (λ r. p.front ++ r) taken in
        part-after terms.rows p.front x left (rw split at (sequence-parts terms.rows list parts))

    -- if the next value of a list is folded, one more is folded and the others are left
    pub values_more : {terms terms1 terms2 : Terms} {s s1 s2 : S} {list values more rest left : List T} {x y : T} {other : Errors E}
        → IsPartOf terms.rows (sequence_shape of list) → FoldsValues of owned means H terms s list values rest terms1 s1 → rest ≡ x ∷ left
        → Folds owned means (IsPartBy of) (tree_by of) (Walks H) (Fails H other) terms1 s1 x (Ok y) terms2 s2
        → more ≡ values ++ y ∷ []
        → FoldsValues of owned means H terms s list more left terms2 s2
    values_more {terms} {terms2} {list} {values} {left} {x} {y} parts p taken d added =
        let split : list ≡ p.front ++ x ∷ left = p.split ∙ ap (λ r. p.front ++ r) taken in
        let o = rw (fill-grows _ _ p.extends.rows (of x) (value_part parts p taken)) at d.outcome in
        let before = rw (← fill_all-grows _ _ d.extends.rows (item_shapes of values) p.are_values) at p.walked in
        let one : WalksAll H _ (trees_in terms.rows (item_shapes of (x ∷ []))) (trees_in terms2.rows (item_shapes of (y ∷ []))) _ =
        rw (one_tree terms.rows (of x), one_tree terms2.rows (of y)) (WalksAll-one o.1) in
        rw added (record {
          front = p.front ++ x ∷ [];
          split = split ∙ sym (append_assoc p.front (x ∷ []) left);
          extends = Extends-trans p.extends d.extends;
          is_owned = d.is_owned;
          are_values = rw (shapes-append values (y ∷ [])) (append_parts terms2.rows (item_shapes of values) (item_shapes of (y ∷ [])) (AreParts-grows _ _ d.extends.rows (item_shapes of values) p.are_values) (one_part terms2.rows (of y) o.0));
          walked = rw (trees-append terms.rows p.front (x ∷ []), trees-append terms2.rows values (y ∷ [])) (WalksAll-append before one);
        })

    module _ {errors : Errors E} {V : Type 0} (items : V → List T) where
      -- the fold of a list fails if the fold of its next value fails
      pub value_fails : {terms terms1 terms2 : Terms} {s s1 s2 : S} {v : V} {values rest left : List T} {x : T} {e : E}
          → IsPartOf terms.rows (sequence_shape of (items v)) → FoldsValues of owned means H terms s (items v) values rest terms1 s1 → rest ≡ x ∷ left
          → Folds owned means (IsPartBy of) (tree_by of) (Walks H) (Fails H errors) terms1 s1 x (Err e) terms2 s2
          → Folds owned means (IsPartBy (λ v. sequence_shape of (items v))) (tree_by (λ v. sequence_shape of (items v))) (Walks H) (Fails H errors) terms s v (Err e) terms2 s2
      unfolding fill
      value_fails {terms} {v} {left} {x} parts p taken d =
          let split : items v ≡ p.front ++ x ∷ left = p.split ∙ ap (λ r. p.front ++ r) taken in
          let o = rw (fill-grows _ _ p.extends.rows (of x) (value_part parts p taken)) at d.outcome in
          let is : trees_in terms.rows (item_shapes of (items v)) ≡ joined_trees (trees_in terms.rows (item_shapes of p.front)) (trees_in terms.rows (item_shapes of (x ∷ left))) =
          ap (λ xs. trees_in terms.rows (item_shapes of xs)) split ∙ trees-append terms.rows p.front (x ∷ left) in
          record { extends = Extends-trans p.extends d.extends; is_owned = d.is_owned; outcome = rw (sequence-tree terms.rows (items v), is) (node_failed (FailsAll-append p.walked (λ h. h) (here o))) }

      -- the fold of a list fails before its next value if the memory for the results is refused
      pub values_stop : {terms terms1 : Terms} {s s1 : S} {v : V} {values rest : List T} {e : E}
          → FoldsValues of owned means H terms s (items v) values rest terms1 s1 → ((u : Tree Depth) → errors.unbuilt u e)
          → Folds owned means (IsPartBy (λ v. sequence_shape of (items v))) (tree_by (λ v. sequence_shape of (items v))) (Walks H) (Fails H errors) terms s v (Err e) terms1 s1
      values_stop {terms} {v} {rest} p b =
          let is : trees_in terms.rows (item_shapes of (items v)) ≡ joined_trees (trees_in terms.rows (item_shapes of p.front)) (trees_in terms.rows (item_shapes of rest)) =
          ap (λ xs. trees_in terms.rows (item_shapes of xs)) p.split ∙ trees-append terms.rows p.front rest in
          record { extends = p.extends; is_owned = p.is_owned; outcome = rw (sequence-tree terms.rows (items v), is) (node_failed (FailsAll-append p.walked (λ h. h) (stopped b))) }

      -- a list of which no value is left is folded to the list of the results
      pub values_fold : {terms terms1 : Terms} {s s1 : S} {v w : V} {rest : List T}
          → FoldsValues of owned means H terms s (items v) (items w) rest terms1 s1 → rest ≡ []
          → Folds owned means (IsPartBy (λ v. sequence_shape of (items v))) (tree_by (λ v. sequence_shape of (items v))) (Walks H) (Fails H errors) terms s v (Ok w) terms1 s1
      values_fold {terms} {terms1} {v} {w} p empty =
          let split : items v ≡ p.front = p.split ∙ ap (λ r. p.front ++ r) empty ∙ append-nil p.front in
          let walked = rw (← split) at p.walked in
          record {
            extends = p.extends;
            is_owned = p.is_owned;
            outcome = (sequence-part terms1.rows (items w) p.are_values, rw (sequence-tree terms.rows (items v), sequence-tree terms1.rows (items w)) (at_node walked (λ h. h)));
          }
