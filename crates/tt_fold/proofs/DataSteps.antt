-- The folds of values without terms: what is data alone is walked without a hook, and stays. And the fold of a value by
-- the fold of another one of the same shape.
use Rattle.std.proofs.Common.{◌≡◌, List, Ok, Err}
use Rattle.tt_kinds.specs.Label.{record_label}
use Rattle.tt_kinds.specs.Shape.{Shape, Shapes, node, none, also, fill, fill_all}
use Rattle.tt_interner.specs.Rows.{Row}
use Rattle.tt_interner.specs.Stored.{Terms}
use Rattle.tt_interner.proofs.Growth.{Extends-refl}
use Rattle.tt_fold.specs.Walk.{Errors, Hooks, Walks, WalksAll, Fails, at_node, done, next}
use Rattle.tt_fold.specs.Counts.{Standing}
use Rattle.tt_fold.specs.Steps.{Folds, IsPartOf, IsPartBy, tree_in, tree_by}
use Rattle.tt_fold.specs.Parts.{trees_in}
use Rattle.tt_visit.specs.Data.{IsData, AreData}

module _ {M E : Type 0} {H : Hooks M E} (s : M) (rows : List Row) where
  mutual
    unfolding fill fill_all

    data_walks : (d : Shape) → IsData d → Walks H s (tree_in rows d) (tree_in rows d) s
    data_walks (node (record_label l) ss) h = at_node (all_walk ss h) (λ lost. lost)
    data_walks _ h = absurd h

    all_walk : (ds : Shapes) → AreData ds → WalksAll H s (trees_in rows ds) (trees_in rows ds) s
    all_walk none h = done
    all_walk (also d ds) h = next (data_walks d h.0) (all_walk ds h.1)

module _ {M E S T : Type 0} {owned : List Row → S → Type 0} {means : List Row → S → M} {H : Hooks (Standing M) E} {errors : Errors E} (of : T → Shape) where
  -- a value that is data alone is folded to itself
  pub data_folds : {terms : Terms} {s : S} (x : T) → IsData (of x) → IsPartOf terms.rows (of x) → owned terms.rows s
      → Folds owned means (IsPartBy of) (tree_by of) (Walks H) (Fails H errors) terms s x (Ok x) terms s
  data_folds {terms} x is part o = record { extends = Extends-refl terms; is_owned = o; outcome = (part, data_walks _ terms.rows (of x) is) }

module _ {M E S T A : Type 0} {owned : List Row → S → Type 0} {means : List Row → S → M} {H : Hooks (Standing M) E} {errors : Errors E} (of : T → Shape) (a : A → Shape) where
  -- the fold of a value fails if the fold of another one of its shape fails
  pub alike_fails : {terms terms1 : Terms} {s s1 : S} {e : E} (x : T) (u : A) → of x ≡ a u
      → Folds owned means (IsPartBy a) (tree_by a) (Walks H) (Fails H errors) terms s u (Err e) terms1 s1
      → Folds owned means (IsPartBy of) (tree_by of) (Walks H) (Fails H errors) terms s x (Err e) terms1 s1
  alike_fails x u at_x d = record { extends = d.extends; is_owned = d.is_owned; outcome = rw at_x d.outcome }

  -- a value is folded to one whose shape another one of its own shape is folded to
  pub alike_folds : {terms terms1 : Terms} {s s1 : S} (x y : T) (u v : A) → of x ≡ a u → of y ≡ a v
      → Folds owned means (IsPartBy a) (tree_by a) (Walks H) (Fails H errors) terms s u (Ok v) terms1 s1
      → Folds owned means (IsPartBy of) (tree_by of) (Walks H) (Fails H errors) terms s x (Ok y) terms1 s1
  alike_folds x y u v at_x at_y d = record { extends = d.extends; is_owned = d.is_owned; outcome = rw (at_x, at_y) d.outcome }
