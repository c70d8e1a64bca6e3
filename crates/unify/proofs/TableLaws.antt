-- Tables of triangular bindings, and the substitutions that they are.
use Rattle.std.proofs.Common.{◌≡◌, refl, ℕ, ◌≤◌, List, [], ◌∷◌, ◌++◌, length, get_or, Option, Some, None, sym, subst}
use Rattle.std.proofs.Common.{ap, ◌∙◌}
use Rattle.tt_kinds.specs.Tree.{Depth, Tree}
use Rattle.tt_kinds.specs.Shape.{fill}
use Rattle.tt_kinds.specs.Kinds.{ty_shape}
use Rattle.tt_kinds.specs.Values.{option_shape}
use Rattle.tt_kinds.specs.Handle.{Ty}
use Rattle.tt_interner.specs.Rows.{meaning, AreRows}
use Rattle.tt_interner.specs.Owned.{IsOwned}
use Rattle.tt_interner.specs.Stored.{Terms, Extends}
use Rattle.tt_interner.proofs.Growth.{IsPart-grows}
use Rattle.tt_interner.proofs.OwnedLaws.{push_owned}
use Rattle.tt_fold.specs.Steps.{tree_in}
use Rattle.unify.specs.Substitution.{Substitution, Assignment, variable_tree, as_assignment, or_else, apply, assign}
use Rattle.unify.specs.Substitution.{IsIdempotent, Refines, Solves, IsOwn, IsType}
use Rattle.unify.specs.Bindings.{table_shape, stored, values, AreEntries}
use Rattle.unify.specs.Triangular.{resolved, AreClosed, Represents, IsAcyclic, BindsBelow, model}
use Rattle.unify.proofs.BindingsLaws.{bound_tree, reads, stored_pushed, stored_stays}
use Rattle.unify.proofs.OccursLaws.{AllProper, type_proper}
use Rattle.unify.proofs.OwnSolution.{assigned_applies, entry_proper, past_end, entry_inside, tree_is_type}
use Rattle.unify.proofs.TriangularLaws.{model_represents, model_solved, model_refines, model_types, idempotent}
use Rattle.unify.proofs.TriangularLaws.{entries_solved, acyclic_alike, model_alike}
use Rattle.unify.proofs.TriangularPairs.{own_solves}

-- past its end a table binds nothing
pub few : (terms : Terms) (xs : List (Option Ty)) → BindsBelow (length xs) (stored terms xs)
few terms xs v past = reads terms xs v ∙ ap (bound_tree (meaning terms.rows)) (past_end xs v past)

module _ (terms : Terms) (xs : List (Option Ty)) (table : AreEntries terms xs) where
  -- a table's entries represent the substitution that the table is
  pub table_represents : Represents (stored terms xs) (values terms xs)
  table_represents =
      model_represents table.acyclic.rank (stored terms xs) table.acyclic.falls (length xs) (few terms xs)

  -- so a resolved type has no bound variable
  pub table_idempotent : IsIdempotent (values terms xs)
  table_idempotent =
      idempotent table.acyclic.rank (stored terms xs) table.acyclic.falls (values terms xs) table_represents

  -- what solves the entries as equations solves the table, and the other way round
  pub table_solved : (ρ : Assignment) → Solves ρ (stored terms xs) → Solves ρ (values terms xs)
  table_solved ρ solves =
      model_solved table.acyclic.rank (stored terms xs) table.acyclic.falls (values terms xs) table_represents ρ
      solves

  pub stored_solved : (ρ : Assignment) → Solves ρ (values terms xs) → Solves ρ (stored terms xs)
  stored_solved ρ solves = entries_solved (stored terms xs) (values terms xs) table_represents ρ solves

-- whatever the interner builds, a table stays the same substitution
pub values_stay : (terms new : Terms) (xs : List (Option Ty)) → Extends terms new → IsOwned table_shape terms xs
    → values new xs ≡ values terms xs
values_stay terms new xs extends owned =
    ap (model (length xs)) (stored_stays terms new xs extends owned)

-- and a table stays a table
pub entries_stay : (terms new : Terms) (xs : List (Option Ty)) → Extends terms new → AreEntries terms xs → AreEntries new xs
entries_stay terms new xs extends table = record {
  owned = IsPart-grows terms.rows new.rows extends.rows (table_shape xs) table.owned;
  acyclic = subst IsAcyclic (sym (stored_stays terms new xs extends table.owned)) table.acyclic;
  closed = subst AreClosed (sym (stored_stays terms new xs extends table.owned)) table.closed;
}

-- a table without variables is a table
pub no_entries : (terms : Terms) → AreEntries terms []
unfolding fill
no_entries terms = record {
  owned = (refl, tt, tt);
  acyclic = record { rank = λ v. 0; falls = λ v t is. absurd (cc) };
  closed = λ v t is. absurd (cc);
}

module _ (terms : Terms) (xs : List (Option Ty)) (table : AreEntries terms xs) where
  -- a table with one more variable is a table
  pub pushed_entries : AreEntries terms (xs ++ None ∷ [])
  unfolding fill
  pushed_entries = record {
    owned = (refl, tt, push_owned (option_shape ty_shape) terms xs None table.owned.2 (refl, tt, tt));
    acyclic = acyclic_alike (stored terms xs) (stored terms (xs ++ None ∷ []))
        (λ v. sym (stored_pushed terms xs v)) table.acyclic;
    closed = λ v t is. table.closed v t (sym (stored_pushed terms xs v) ∙ is);
  }

  -- and the same substitution
  pub pushed_same : (v : ℕ) → values terms (xs ++ None ∷ []) v ≡ values terms xs v
  pushed_same v =
      sym (model_alike (stored terms xs) (stored terms (xs ++ None ∷ [])) (λ w. sym (stored_pushed terms xs w))
      (length xs) (length (xs ++ None ∷ [])) (few terms xs) (few terms (xs ++ None ∷ [])) table.acyclic v)

-- entries that have all of the earlier ones refine them
pub entries_refine : (terms : Terms) (xs ys : List (Option Ty)) → AreEntries terms xs → AreEntries terms ys
    → ((v : ℕ) (t : Tree Depth) → stored terms xs v ≡ Some t → stored terms ys v ≡ Some t)
    → Refines (values terms xs) (values terms ys)
entries_refine terms xs ys table later kept =
    model_refines table.acyclic.rank (stored terms xs) table.acyclic.falls (values terms xs)
    (table_represents terms xs table) (stored terms ys) (values terms ys) (table_represents terms ys later) kept

module _ (terms : Terms) (xs : List (Option Ty)) (are : AreRows terms.rows) (table : AreEntries terms xs) where
  proper : AllProper (stored terms xs)
  proper v r is = entry_proper terms xs are v (get_or xs v None) refl r is

  -- a table's bindings, as an assignment, solve the table
  pub values_solve : Solves (as_assignment (values terms xs)) (values terms xs)
  values_solve =
      table_solved terms xs table (as_assignment (values terms xs))
      (own_solves (stored terms xs) (values terms xs) (table_represents terms xs table) proper)

  entry_is_type : (v : ℕ) (o : Option Ty) → get_or xs v None ≡ o → (r : Tree Depth) → stored terms xs v ≡ Some r
      → IsType r
  entry_is_type v None e r is =
      let none : stored terms xs v ≡ None = reads terms xs v ∙ ap (bound_tree (meaning terms.rows)) e in
      absurd (cc)
  entry_is_type v (Some t) e r is =
      let some : stored terms xs v ≡ Some (tree_in terms.rows (ty_shape t)) =
      reads terms xs v ∙ ap (bound_tree (meaning terms.rows)) e in
      let one : tree_in terms.rows (ty_shape t) ≡ r = cc in
      subst IsType one (tree_is_type terms t are (entry_inside terms xs v t e table.owned.2))

  value_is_type : (v : ℕ) (o : Option (Tree Depth)) → values terms xs v ≡ o
      → IsType (or_else o (variable_tree v))
  value_is_type v None e = refl
  value_is_type v (Some r) e =
      model_types table.acyclic.rank (stored terms xs) table.acyclic.falls (values terms xs)
      (table_represents terms xs table) (λ w t is. entry_is_type w (get_or xs w None) refl t is) v r e

  left_alone : (v : ℕ) → length xs ≤ v → values terms xs v ≡ None
  left_alone v past = table_represents terms xs table v ∙ ap (resolved (values terms xs)) (few terms xs v past)

  -- they are an assignment to the table's variables alone
  pub values_own : IsOwn (length xs) (as_assignment (values terms xs))
  values_own = record {
    types = λ v. value_is_type v (values terms xs v) refl;
    leaves = λ v past. ap (λ o. or_else o (variable_tree v)) (left_alone v past);
  }

  -- two types that resolve to one have a unifier that is an assignment to the table's variables alone
  pub resolved_unify : (left right : Ty)
      → apply (values terms xs) (tree_in terms.rows (ty_shape left))
      ≡ apply (values terms xs) (tree_in terms.rows (ty_shape right))
      → assign (as_assignment (values terms xs)) (tree_in terms.rows (ty_shape left))
      ≡ assign (as_assignment (values terms xs)) (tree_in terms.rows (ty_shape right))
  resolved_unify left right same =
      let σ : Substitution = values terms xs in
      assigned_applies σ (tree_in terms.rows (ty_shape left)) (type_proper terms.rows are left) ∙ same
      ∙ sym (assigned_applies σ (tree_in terms.rows (ty_shape right)) (type_proper terms.rows are right))

  -- two types that whatever solves the entries makes equal resolve to one
  pub resolve_alike : (left right : Ty)
      → ((ρ : Assignment) → Solves ρ (stored terms xs)
      → assign ρ (tree_in terms.rows (ty_shape left)) ≡ assign ρ (tree_in terms.rows (ty_shape right)))
      → apply (values terms xs) (tree_in terms.rows (ty_shape right))
      ≡ apply (values terms xs) (tree_in terms.rows (ty_shape left))
  resolve_alike left right same =
      let σ : Substitution = values terms xs in
      let own : Solves (as_assignment σ) (stored terms xs) =
      own_solves (stored terms xs) σ (table_represents terms xs table) proper in
      sym (assigned_applies σ (tree_in terms.rows (ty_shape right)) (type_proper terms.rows are right))
      ∙ sym (same (as_assignment σ) own)
      ∙ assigned_applies σ (tree_in terms.rows (ty_shape left)) (type_proper terms.rows are left)
