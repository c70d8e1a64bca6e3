-- Tables of bindings: their entries, and what they store.
use Rattle.std.proofs.Common.{◌≡◌, refl, ℕ, zero, suc, ◌<◌, List, [], ◌∷◌, ◌++◌, length, get_or, set, Option, Some}
use Rattle.std.proofs.Common.{None, sym, ap, ◌∙◌}
use Rattle.std.proofs.lemmas.List.{get_or-set_same, get_or-set_other}
use Rattle.tt_kinds.specs.Tree.{Depth, Tree, Forest}
use Rattle.tt_kinds.specs.Shape.{Meaning, fill, fill_all, item_shapes}
use Rattle.tt_kinds.specs.Kinds.{ty_shape}
use Rattle.tt_kinds.specs.Values.{option_shape}
use Rattle.tt_kinds.specs.Handle.{Ty}
use Rattle.tt_interner.specs.Rows.{meaning}
use Rattle.tt_interner.specs.Owned.{IsOwned}
use Rattle.tt_interner.specs.Stored.{Terms, Extends}
use Rattle.tt_interner.proofs.Growth.{Extends-trans, fill-grows}
use Rattle.unify.specs.Bindings.{table_shape, entry_binding, binding_at, read, stored}
use Rattle.unify.specs.Triangular.{Binds}

-- the trees of entries
abbrev pub entry_trees : Meaning → List (Option Ty) → Forest Depth
entry_trees m xs = fill_all m (item_shapes (option_shape ty_shape) xs)

-- the tree that an entry binds
abbrev pub bound_tree : Meaning → Option Ty → Option (Tree Depth)
bound_tree m None = None
bound_tree m (Some t) = Some (fill m (ty_shape t))

-- an entry's tree binds what the entry binds
pub entry_is : (m : Meaning) (o : Option Ty) → entry_binding (fill m (option_shape ty_shape o)) ≡ bound_tree m o
unfolding fill
entry_is m None = refl
entry_is m (Some t) = refl

-- the binding of a variable is in the variable's entry
entry_at : (m : Meaning) (xs : List (Option Ty)) (v : ℕ) → binding_at (entry_trees m xs) v ≡ bound_tree m (get_or xs v None)
unfolding fill
entry_at m [] v = refl
entry_at m (x ∷ xs) zero = entry_is m x
entry_at m (x ∷ xs) (suc v) = entry_at m xs v

-- a table binds a variable to the tree of the type in the variable's entry, if there is one
pub reads : (terms : Terms) (xs : List (Option Ty)) (v : ℕ) → stored terms xs v ≡ bound_tree (meaning terms.rows) (get_or xs v None)
unfolding fill
reads terms xs v = entry_at (meaning terms.rows) xs v

-- whatever the interner builds, a table stays the same substitution
pub stored_stays : (terms new : Terms) (xs : List (Option Ty)) → Extends terms new → IsOwned table_shape terms xs → stored new xs ≡ stored terms xs
stored_stays terms new xs extends owned = ap read (fill-grows terms.rows new.rows extends.rows (table_shape xs) owned)

-- a table with one more variable binds what it bound
pub pushed_at : (xs : List (Option Ty)) (v : ℕ) → get_or (xs ++ None ∷ []) v None ≡ get_or xs v None
pushed_at [] zero = refl
pushed_at [] (suc v) = refl
pushed_at (x ∷ xs) zero = refl
pushed_at (x ∷ xs) (suc v) = pushed_at xs v

-- so it is the same substitution
pub stored_pushed : (terms : Terms) (xs : List (Option Ty)) (v : ℕ) → stored terms (xs ++ None ∷ []) v ≡ stored terms xs v
stored_pushed terms xs v = reads terms (xs ++ None ∷ []) v ∙ ap (bound_tree (meaning terms.rows)) (pushed_at xs v) ∙ sym (reads terms xs v)

-- a variable that is bound in a table's entry is bound in what the table stores
pub set_binds : (terms : Terms) (xs : List (Option Ty)) (v : ℕ) (t : Ty) → v < length xs → get_or xs v None ≡ None
    → Binds (stored terms xs) v (fill (meaning terms.rows) (ty_shape t)) (stored terms (set xs v (Some t)))
set_binds terms xs v t inside free = record {
  free = reads terms xs v ∙ ap (bound_tree (meaning terms.rows)) free;
  own = reads terms (set xs v (Some t)) v
      ∙ ap (bound_tree (meaning terms.rows)) (get_or-set_same xs v (Some t) None inside);
  others = λ w other.
      reads terms (set xs v (Some t)) w
      ∙ ap (bound_tree (meaning terms.rows)) (get_or-set_other xs v w (Some t) None other)
      ∙ sym (reads terms xs w);
}

-- what grew and grows again has grown; under this name an attribute can cite it
pub extends_further : {a b c : Terms} → Extends a b → Extends b c → Extends a c
extends_further = Extends-trans
