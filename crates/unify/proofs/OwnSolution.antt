-- The bindings of a table solve themselves, and are an assignment to its variables alone.
use Rattle.std.proofs.Common.{◌≡◌, refl, ℕ, zero, suc, ◌≤◌, List, [], ◌∷◌, length, get_or, Option, Some, None}
use Rattle.std.proofs.Common.{sym, subst, ap, ◌∙◌, arith}
use Rattle.tt_kinds.specs.Label.{Name, Label, TypeLabel, type_label, infer_type, type_sort}
use Rattle.tt_kinds.specs.declared.ty_kind.InferTy.TheVariants.{TyVar}
use Rattle.tt_kinds.specs.Tree as tree
use Rattle.tt_kinds.specs.Tree.{Depth, Tree, Forest}
use Rattle.tt_kinds.specs.declared.table.Table.TheVariants.{Types}
use Rattle.tt_kinds.specs.Shape.{Meaning, fill}
use Rattle.tt_kinds.specs.Kinds.{Form, param, bound, plain, under, form_shape, relabelled, ty_form, ty_shape}
use Rattle.tt_kinds.specs.Values.{option_shape}
use Rattle.tt_kinds.specs.Handle.{Ty}
use Rattle.tt_interner.specs.Owned.{IsOwned, AreOwned}
use Rattle.tt_interner.specs.Rows.{Row, type_row, row_shape, row_table, meaning, AreRows}
use Rattle.tt_interner.specs.Stored.{Terms}
use Rattle.tt_interner.proofs.OwnedLaws.{some_owned}
use Rattle.tt_interner.proofs.Trees.{row_within, Means-row}
use Rattle.tt_fold.specs.Steps.{tree_in}
use Rattle.unify.specs.Substitution.{Substitution, variable_of, apply, apply_all, assign, assign_all}
use Rattle.unify.specs.Substitution.{as_assignment, IsType}
use Rattle.unify.specs.Bindings.{stored}
use Rattle.unify.proofs.SubstitutionLaws.{same_binding}
use Rattle.unify.proofs.BindingsLaws.{bound_tree, reads}
use Rattle.unify.proofs.OccursLaws.{IsProper, AreProper, type_proper}

module _ (σ : Substitution) where
  term_assigned : (l : Label Name) (ts : Forest Depth) → ((v : ℕ) → variable_of l ≡ Some v → ts ≡ tree.none)
      → assign_all (as_assignment σ) ts ≡ apply_all σ ts → assign (as_assignment σ) (tree.term l ts) ≡ apply σ (tree.term l ts)
  term_assigned (type_label (infer_type (TyVar v))) ts bare below = let empty : ts ≡ tree.none = bare v refl in rw empty refl
  term_assigned l ts bare below = ap (tree.term l) below

  mutual
    -- the assignment of bindings does what the bindings do, where no variable has contents
    pub assigned_applies : (t : Tree Depth) → IsProper t → assign (as_assignment σ) t ≡ apply σ t
    assigned_applies (tree.param o i name) proper = refl
    assigned_applies (tree.bound o d e) proper = refl
    assigned_applies (tree.region r) proper = refl
    assigned_applies (tree.term l ts) proper = term_assigned l ts proper.0 (all_apply ts proper.1)
    assigned_applies (tree.node l ts) proper = ap (tree.node l) (all_apply ts proper)
    assigned_applies (tree.binder vs t) proper = ap (tree.binder vs) (assigned_applies t proper)

    all_apply : (ts : Forest Depth) → AreProper ts → assign_all (as_assignment σ) ts ≡ apply_all σ ts
    all_apply tree.none proper = refl
    all_apply (tree.also t ts) proper = rw (assigned_applies t proper.0, all_apply ts proper.1) refl

module _ (terms : Terms) (entries : List (Option Ty)) (are : AreRows terms.rows) where
  pub entry_proper : (v : ℕ) (o : Option Ty) → get_or entries v None ≡ o → (r : Tree Depth) → stored terms entries v ≡ Some r → IsProper r
  entry_proper v None e r is =
      let nothing : stored terms entries v ≡ None = reads terms entries v ∙ ap (bound_tree (meaning terms.rows)) e in
      absurd (cc)
  entry_proper v (Some t) e r is =
      let some : stored terms entries v ≡ Some (tree_in terms.rows (ty_shape t)) = reads terms entries v ∙ ap (bound_tree (meaning terms.rows)) e in
      subst IsProper (same_binding (tree_in terms.rows (ty_shape t)) r (sym some ∙ is)) (type_proper terms.rows are t)

form_is_type : (m : Meaning) (f : Form TypeLabel) → IsType (fill m (form_shape type_sort (relabelled type_label f)))
unfolding fill
form_is_type m (param i name) = refl
form_is_type m (bound d e) = refl
form_is_type m (plain l p) = refl
form_is_type m (under l vars r p) = refl

row_is_type : (m : Meaning) (r : Row) → row_table r ≡ Types → IsType (fill m (row_shape r))
row_is_type m (type_row k) e = form_is_type m (ty_form k)
row_is_type m r e = absurd (cc)

-- a type's tree is a type
pub tree_is_type : (terms : Terms) (t : Ty) → AreRows terms.rows → IsOwned ty_shape terms t → IsType (tree_in terms.rows (ty_shape t))
unfolding fill
tree_is_type terms t are owned =
    let at = row_within terms.rows Types t.number owned in
    let means = Means-row terms.rows are Types t.number at.0 at.1 in
    subst IsType (sym means.tree) (row_is_type (meaning terms.rows) at.0 means.same_table)

pub entry_inside : (terms : Terms) (xs : List (Option Ty)) (v : ℕ) (t : Ty) → get_or xs v None ≡ Some t → AreOwned (option_shape ty_shape) terms xs → IsOwned ty_shape terms t
entry_inside terms [] v t e owned = absurd (cc)
entry_inside terms (x ∷ xs) zero t e owned = some_owned ty_shape terms x t e owned.0
entry_inside terms (x ∷ xs) (suc v) t e owned = entry_inside terms xs v t e owned.1

pub past_end : (xs : List (Option Ty)) (v : ℕ) → length xs ≤ v → get_or xs v None ≡ None
past_end [] v h = refl
past_end (x ∷ xs) zero h = absurd (omega (arith, h))
past_end (x ∷ xs) (suc v) h = past_end xs v (omega (arith, h))
