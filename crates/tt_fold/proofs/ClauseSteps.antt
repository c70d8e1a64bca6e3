-- The fold of a clause by itself, from the fold of its predicate.
use Rattle.std.proofs.Common.{inl, inr, ◌≡◌, ℕ, ◌<◌, List, Ok, Err, Bool, true, false, refl}
use Rattle.std.specs.Prelude.{IsTrue, not}
use Rattle.tt_kinds.specs.Label.{clause_label}
use Rattle.tt_kinds.specs.Tree.{also, none}
use Rattle.tt_kinds.specs.Shape.{fill, fill_all}
use Rattle.tt_kinds.specs.Kinds.{predicate_shape}
use Rattle.tt_kinds.specs.Values.{one_clause_shape}
use Rattle.tt_kinds.specs.Handle.{Clause}
use Rattle.tt_kinds.specs.Handle.{Predicate}
use Rattle.tt_kinds.specs.declared.table.Table.TheVariants.{Predicates}
use Rattle.tt_interner.specs.Clauses.{is_clause_tree, HasOther}
use Rattle.tt_interner.specs.Rows.{Row, size, meaning, Grows, IsClause}
use Rattle.tt_interner.specs.Stored.{Terms}
use Rattle.tt_interner.proofs.Growth.{IsPart-grows, fill-grows}
use Rattle.tt_fold.specs.Walk.{Errors, Hooks, Walks, at_node, done, next, Fails, node_failed, clause_lost, here}
use Rattle.tt_fold.specs.Counts.{Standing}
use Rattle.tt_fold.specs.Steps.{Folds, IsPartOf, IsPartBy, tree_by}

-- the predicate that a clause is occurs in it
pub clause-inner : (rows : List Row) (c : Clause) (p : Predicate) → p.number ≡ c.number → IsPartOf rows (one_clause_shape c) → IsPartOf rows (predicate_shape p)
clause-inner rows c p same h = rw same h.2.0

clause-part : (rows : List Row) (c : Clause) (p : Predicate) → c.number ≡ p.number → IsPartOf rows (predicate_shape p) → IsPartOf rows (one_clause_shape c)
clause-part rows c p same h = (refl, tt, (rw same h, tt))

-- a predicate is a clause where its tree is no other
no_other : (rows : List Row) (n : ℕ) → IsClause rows n → HasOther (also (meaning rows Predicates n) none) → ⊥
no_other rows n is h = elim h [ inl a ↦ (let never = rw is.clause at a in cc) | inr b ↦ b ]

an_other : (rows : List Row) (n : ℕ) → n < size rows Predicates → (IsClause rows n → ⊥) → HasOther (also (meaning rows Predicates n) none)
an_other rows n lt never = inl (by (is_clause_tree (meaning rows Predicates n)) refl)
  where
    by : (b : Bool) → is_clause_tree (meaning rows Predicates n) ≡ b → IsTrue (not (is_clause_tree (meaning rows Predicates n)))
    by true e = absurd (never (record { within = lt; clause = e }))
    by false e = rw e refl

is_clause : (rows : List Row) (n : ℕ) → n < size rows Predicates → (HasOther (also (meaning rows Predicates n) none) → ⊥) → IsClause rows n
is_clause rows n lt never = by (is_clause_tree (meaning rows Predicates n)) refl
  where
    by : (b : Bool) → is_clause_tree (meaning rows Predicates n) ≡ b → IsClause rows n
    by true e = record { within = lt; clause = e }
    by false e = absurd (never (inl (rw e refl)))

-- a predicate means what it meant among fewer rows
same_tree : (old rows : List Row) (p : Predicate) → IsPartOf old (predicate_shape p) → Grows old rows → meaning rows Predicates p.number ≡ meaning old Predicates p.number
unfolding fill
same_tree old rows p part g = fill-grows old rows g (predicate_shape p) part

in_table : (rows : List Row) (p : Predicate) → IsPartOf rows (predicate_shape p) → p.number < size rows Predicates
in_table rows p h = h

module _ {M E S : Type 0} {owned : List Row → S → Type 0} {means : List Row → S → M} {H : Hooks (Standing M) E} {errors : Errors E} where
  -- its predicate was not folded
  pub clause_fails : {terms terms1 : Terms} {s s1 : S} {e : E} (c : Clause) (p : Predicate) → p.number ≡ c.number
      → Folds owned means (IsPartBy predicate_shape) (tree_by predicate_shape) (Walks H) (Fails H errors) terms s p (Err e) terms1 s1
      → Folds owned means (IsPartBy one_clause_shape) (tree_by one_clause_shape) (Walks H) (Fails H errors) terms s c (Err e) terms1 s1
  unfolding fill fill_all
  clause_fails c p same d = record { extends = d.extends; is_owned = d.is_owned; outcome = rw (← same) (node_failed (here d.outcome)) }

  -- of a clause came a predicate that is none
  pub clause_ends : {terms terms1 : Terms} {s s1 : S} {e : E} {other : Errors E} (c : Clause) (p q : Predicate) → p.number ≡ c.number → IsPartOf terms.rows (predicate_shape p)
      → Folds owned means (IsPartBy predicate_shape) (tree_by predicate_shape) (Walks H) (Fails H other) terms s p (Ok q) terms1 s1
      → IsClause terms1.rows p.number → (IsClause terms1.rows q.number → ⊥) → errors.unwanted e
      → Folds owned means (IsPartBy one_clause_shape) (tree_by one_clause_shape) (Walks H) (Fails H errors) terms s c (Err e) terms1 s1
  unfolding fill fill_all
  clause_ends {terms} {terms1} c p q same part d was never b =
      let o = d.outcome in
      let before = rw (same_tree terms.rows terms1.rows p part d.extends.rows) at (no_other terms1.rows p.number was) in
      let after = an_other terms1.rows q.number (in_table terms1.rows q o.0) never in
      record { extends = d.extends; is_owned = d.is_owned; outcome = rw (← same) (clause_lost {l = clause_label} (next o.1 done) (before, after) b) }

  -- of a clause came a clause
  pub clause_folds : {terms terms1 : Terms} {s s1 : S} (c k : Clause) (p q : Predicate) → p.number ≡ c.number → k.number ≡ q.number → IsPartOf terms.rows (predicate_shape p)
      → Folds owned means (IsPartBy predicate_shape) (tree_by predicate_shape) (Walks H) (Fails H errors) terms s p (Ok q) terms1 s1
      → (IsClause terms1.rows p.number → IsClause terms1.rows q.number)
      → Folds owned means (IsPartBy one_clause_shape) (tree_by one_clause_shape) (Walks H) (Fails H errors) terms s c (Ok k) terms1 s1
  unfolding fill fill_all
  clause_folds {terms} {terms1} c k p q same new part d keeps =
      let o = d.outcome in
      let lt = in_table terms1.rows p (IsPart-grows _ _ d.extends.rows (predicate_shape p) part) in
      let is = same_tree terms.rows terms1.rows p part d.extends.rows in
      record {
        extends = d.extends;
        is_owned = d.is_owned;
        outcome = (
          clause-part terms1.rows k q new o.0,
          rw (← same, new) (at_node {l = clause_label} (next o.1 done) (λ lost. no_other terms1.rows q.number (keeps (is_clause terms1.rows p.number lt (rw is lost.0))) lost.1)),
        );
      }
