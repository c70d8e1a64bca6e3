-- The folds of boxes and of lists in other types than vectors, from the same of their contents.
use Rattle.std.proofs.Common.{◌≡◌, ℕ, List, Ok, Err}
use Rattle.tt_kinds.specs.Label.{RecordLabel}
use Rattle.tt_kinds.specs.Tree.{Depth, Tree}
use Rattle.tt_kinds.specs.Shape.{Shape, fill}
use Rattle.tt_kinds.specs.Values.{one_record}
use Rattle.tt_interner.specs.Rows.{Row}
use Rattle.tt_interner.specs.Stored.{Terms}
use Rattle.tt_interner.proofs.Growth.{Extends-refl}
use Rattle.tt_fold.specs.Walk.{Errors, Hooks, Walks, done, next, Fails, node_failed, node_not_built, stopped}
use Rattle.tt_fold.specs.Counts.{Standing}
use Rattle.tt_fold.specs.Steps.{Folds, IsPartBy, tree_by}

module _ {M E S : Type 0} {owned : List Row → S → Type 0} {means : List Row → S → M} {H : Hooks (Standing M) E} {errors : Errors E} where
  -- a record of one value that was folded, and isn't built again
  pub one_not_built : {T A : Type 0} (of : T → Shape) (a : A → Shape) (l : RecordLabel ℕ) {terms terms1 : Terms} {s s1 : S} {e : E} {other : Errors E}
      → (x : T) (u v : A) → of x ≡ one_record l (a u)
      → Folds owned means (IsPartBy a) (tree_by a) (Walks H) (Fails H other) terms s u (Ok v) terms1 s1
      → ((t : Tree Depth) → errors.unbuilt t e)
      → Folds owned means (IsPartBy of) (tree_by of) (Walks H) (Fails H errors) terms s x (Err e) terms1 s1
  unfolding fill
  one_not_built of a l x u v at_x d unbuilt =
      record { extends = d.extends; is_owned = d.is_owned; outcome = rw at_x (node_not_built (next d.outcome.1 done) (unbuilt _)) }

  -- a record of one value that isn't folded for want of memory
  pub one_stops : {T : Type 0} (of : T → Shape) (l : RecordLabel ℕ) (u : Shape) {terms : Terms} {s : S} {e : E} (x : T) → of x ≡ one_record l u
      → owned terms.rows s → ((t : Tree Depth) → errors.unbuilt t e)
      → Folds owned means (IsPartBy of) (tree_by of) (Walks H) (Fails H errors) terms s x (Err e) terms s
  unfolding fill
  one_stops of l u {terms} x at_x o unbuilt =
      record { extends = Extends-refl terms; is_owned = o; outcome = rw at_x (node_failed (stopped unbuilt)) }

  -- two values of one shape have one fold
  module _ {T A : Type 0} (of : T → Shape) (a : A → Shape) where
    -- if two values have one shape and the fold of one fails, so does the fold of the other
    pub same_fails : {terms terms1 : Terms} {s s1 : S} {e : E} (x : T) (u : A) → of x ≡ a u
        → Folds owned means (IsPartBy a) (tree_by a) (Walks H) (Fails H errors) terms s u (Err e) terms1 s1
        → Folds owned means (IsPartBy of) (tree_by of) (Walks H) (Fails H errors) terms s x (Err e) terms1 s1
    same_fails x u at_x d = record { extends = d.extends; is_owned = d.is_owned; outcome = rw at_x d.outcome }

    -- if two values have one shape, and so have two results, one is folded as the other is
    pub same_folds : {terms terms1 : Terms} {s s1 : S} (x y : T) (u v : A) → of x ≡ a u → of y ≡ a v
        → Folds owned means (IsPartBy a) (tree_by a) (Walks H) (Fails H errors) terms s u (Ok v) terms1 s1
        → Folds owned means (IsPartBy of) (tree_by of) (Walks H) (Fails H errors) terms s x (Ok y) terms1 s1
    same_folds x y u v at_x at_y d =
        record { extends = d.extends; is_owned = d.is_owned; outcome = (rw at_y d.outcome.0, rw (at_x, at_y) d.outcome.1) }
