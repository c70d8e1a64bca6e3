-- The variables in a type, and how far a search for them is that looks at each type once.
use Rattle.std.specs.Prelude.{◌≡◌, ◌<◌, ◌⊎◌, ℕ, suc, List, [], ◌∷◌, Contains, ⊤}
use Rattle.tt_kinds.specs.Tree.{Depth, Tree, none, also}
use Rattle.tt_kinds.specs.Kinds.{handle_shape, ty_shape}
use Rattle.tt_kinds.specs.Handle.{Ty}
use Rattle.tt_kinds.specs.TermTable.{term_table}
use Rattle.tt_kinds.specs.declared.handle.AnyHandle.{AnyHandle}
use Rattle.tt_kinds.specs.declared.parts.Child.{Child}
use Rattle.tt_interner.specs.Rows.{size}
use Rattle.tt_interner.specs.Stored.{Terms}
use Rattle.tt_fold.specs.Steps.{tree_in}
use Rattle.unify.specs.Pairs.{child_trees}
use Rattle.unify.specs.Substitution.{variable_in, IsWithout}
use Rattle.unify.specs.Triangular.{weight, Holds}

-- each variable in the tree is in the list
abbrev pub ListsAll : List ℕ → Tree Depth → Type 0
ListsAll found t = (v : ℕ) → Contains found v ⊎ IsWithout v t

-- trees
abbrev pub Trees : Type 1
Trees = Tree Depth → Type 0

-- each variable in those of the trees that have fewer than n nodes is in the list
abbrev pub ListsBelow : List ℕ → ℕ → Trees → Type 0
ListsBelow found n P = (t : Tree Depth) → P t → weight t < n → ListsAll found t

-- the handles are the interner's
abbrev pub AreStored : Terms → List AnyHandle → Type 0
AreStored terms [] = ⊤
AreStored terms (h ∷ hs) = (h.number < size terms.rows (term_table h.table)) × AreStored terms hs

-- the tree is that of one of the handles
abbrev pub TreeIn : Terms → List AnyHandle → Trees
TreeIn terms [] t = ⊥
TreeIn terms (h ∷ hs) t = (t ≡ tree_in terms.rows (handle_shape h)) ⊎ TreeIn terms hs t

-- the tree is that of one of the types
abbrev pub TypeTreeIn : Terms → List Ty → Trees
TypeTreeIn terms [] t = ⊥
TypeTreeIn terms (ty ∷ tys) t = (t ≡ tree_in terms.rows (ty_shape ty)) ⊎ TypeTreeIn terms tys t

-- the trees of the child, which has fewer than n nodes
abbrev pub ChildListed : List ℕ → Terms → ℕ → Child → Type 0
ChildListed found terms n c = (t : Tree Depth) → child_trees terms c ≡ also t none → weight t < n → ListsAll found t

-- the later handles are the earlier ones, and the child if it is a row
pub record PushesChild (terms : Terms) (old : List AnyHandle) (c : Child) (new : List AnyHandle) : Type 0 where
  pub stored : AreStored terms new
  pub keeps : (t : Tree Depth) → TreeIn terms old t → TreeIn terms new t
  pub lists : (found : List ℕ) (n : ℕ) → ListsBelow found n (TreeIn terms new) → ChildListed found terms n c
  pub from : (t : Tree Depth) → TreeIn terms new t → TreeIn terms old t ⊎ (child_trees terms c ≡ also t none)

-- the later handles are the earlier ones and the parts of this tree
pub record PushesParts (terms : Terms) (old : List AnyHandle) (t : Tree Depth) (new : List AnyHandle) : Type 0 where
  pub stored : AreStored terms new
  pub keeps : (u : Tree Depth) → TreeIn terms old u → TreeIn terms new u
  pub lists : (found : List ℕ) (n : ℕ) → weight t < suc n → ListsBelow found n (TreeIn terms new) → ListsAll found t
  pub from : (u : Tree Depth) → TreeIn terms new u
      → TreeIn terms old u ⊎ ((v : ℕ) → IsWithout v t → IsWithout v u)

-- how far the search is: what is pending, which types were seen, and which variables were found
pub record Visits (terms : Terms) (root : Tree Depth) (pending : List AnyHandle) (seen : List Ty) (found : List ℕ)
    : Type 0 where
  pub rests : (all : List ℕ) → ((v : ℕ) → Contains found v → Contains all v) → (n : ℕ)
      → ListsBelow all n (TreeIn terms pending) → ListsBelow all n (TypeTreeIn terms seen)
      → ListsBelow all (suc n) (TypeTreeIn terms seen)
  pub begins : (all : List ℕ) → ((v : ℕ) → Contains found v → Contains all v)
      → ((n : ℕ) → ListsBelow all n (TreeIn terms pending)) → ((n : ℕ) → ListsBelow all n (TypeTreeIn terms seen))
      → ListsAll all root
  pub only : (v : ℕ) → Contains found v → Holds v root
  pub within : (t : Tree Depth) → TreeIn terms pending t → (v : ℕ) → IsWithout v root → IsWithout v t
