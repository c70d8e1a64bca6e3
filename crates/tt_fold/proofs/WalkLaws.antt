-- The walks of two parts of a list make the walk of the whole, and the parts' walk makes the walk of their term.
use Rattle.std.proofs.Common.{◌≡◌, ℕ, List, None}
use Rattle.tt_kinds.specs.Label.{Sort, Label}
use Rattle.tt_kinds.specs.Tree as tree
use Rattle.tt_kinds.specs.Tree.{Depth, Tree, Forest}
use Rattle.tt_kinds.specs.Shape.{fill}
use Rattle.tt_kinds.specs.Kinds.{Form, param, bound, plain, under, form_parts, form_binder, form_shape, kind_form}
use Rattle.tt_kinds.specs.Kinds.{kind_sort, kind_shape}
use Rattle.tt_kinds.specs.declared.parts.Child.TheVariants as child
use Rattle.tt_kinds.specs.declared.parts.Kind.{Kind}
use Rattle.tt_interner.specs.Rows.{Row}
use Rattle.tt_fold.specs.Walk.{Hooks, Errors, Wanted, HasUnwanted, Walks, WalksAll, done, next, FailsAll, here, later}
use Rattle.tt_fold.specs.Walk.{stopped, no_clause, WalksInside, in_term, in_param, in_bound}
use Rattle.tt_fold.specs.Steps.{tree_in}
use Rattle.tt_fold.specs.Parts.{IsChildless}
use Rattle.tt_fold.specs.Stack.{joined_trees}
use Rattle.tt_fold.proofs.WantedLaws.{none-wanted, first-unwanted, later-unwanted}

-- the walks of two lists of trees in turn are a walk of both lists, one after the other
pub WalksAll-append : {M E : Type 0} {H : Hooks M E} {s s1 s2 : M} {ts us vs ws : Forest Depth}
    → WalksAll H s ts us s1 → WalksAll H s1 vs ws s2 → WalksAll H s (joined_trees ts vs) (joined_trees us ws) s2
WalksAll-append done b = b
WalksAll-append (next a more) b = next a (WalksAll-append more b)

module _ {M E : Type 0} {H : Hooks M E} {errors : Errors E} where
  -- a failure in trees is one behind other trees too, if these are walked to results that are wanted
  pub FailsAll-append : {w : Wanted} {s s1 s2 : M} {ts us vs : Forest Depth} {e : E}
      → WalksAll H s ts us s1 → (HasUnwanted w us → ⊥) → FailsAll H errors w s1 vs e s2 → FailsAll H errors w s (joined_trees ts vs) e s2
  FailsAll-append done fit b = b
  FailsAll-append {w} (next {u} {us} a more) fit b =
      later a (λ h. fit (first-unwanted w u us h)) (FailsAll-append more (λ h. fit (later-unwanted w u us h)) b)

  -- a failure in a list is one of a longer list
  pub FailsAll-before : {w : Wanted} {s s1 : M} {ts : Forest Depth} {e : E} (us : Forest Depth)
      → FailsAll H errors w s ts e s1 → FailsAll H errors w s (joined_trees ts us) e s1
  FailsAll-before us (stopped b) = stopped b
  FailsAll-before us (here f) = here f
  FailsAll-before us (no_clause w bad b) = no_clause w bad b
  FailsAll-before us (later w fit f) = later w fit (FailsAll-before us f)

-- one tree
pub WalksAll-one : {M E : Type 0} {H : Hooks M E} {s s' : M} {t u : Tree Depth} → Walks H s t u s' → WalksAll H s (tree.also t tree.none) (tree.also u tree.none) s'
WalksAll-one w = next w done

-- a term without children
leaf_form : {M E : Type 0} (H : Hooks M E) (s : M) (rows : List Row) (o : Sort) (f : Form (Label ℕ))
    → form_binder f ≡ None → (form_parts f).first ≡ child.Absent → (form_parts f).second ≡ child.Absent
    → WalksInside H s (tree_in rows (form_shape o f)) (tree_in rows (form_shape o f)) s
unfolding fill
leaf_form H s rows o (param i name) b p q = in_param
leaf_form H s rows o (bound d e) b p q = in_bound
leaf_form H s rows o (plain l r) b p q = rw (p, q) (in_term done (none-wanted _))
leaf_form H s rows o (under l vars m r) b p q = absurd (cc)

-- inside a term without children or binder there is a walk that changes neither the term nor the state
pub walks_leaf : {M E : Type 0} (H : Hooks M E) (s : M) (rows : List Row) (k : Kind) → IsChildless (form_binder (kind_form k)) (form_parts (kind_form k))
    → WalksInside H s (tree_in rows (kind_shape k)) (tree_in rows (kind_shape k)) s
walks_leaf H s rows k h = leaf_form H s rows (kind_sort k) (kind_form k) h.binder h.first h.second
