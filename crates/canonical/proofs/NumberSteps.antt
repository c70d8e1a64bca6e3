-- Numbers are put in place of variables.
use Rattle.std.proofs.Common.{◌≡◌, ℕ, List, [], true, false, Option, Some, None, get_or, sym, subst, ap, ◌∙◌, ◌⊎◌}
use Rattle.std.proofs.Common.{inl, inr}
use Rattle.std.specs.Prelude.{eqb, Result, Ok, Err, IfOk}
use Rattle.std.proofs.lemmas.Bool.{cases_Bool, cases_eq, eqb-true, true≢false}
use Rattle.std.proofs.lemmas.Option.{same_Some}
use Rattle.std.specs.Cmp.{nat_eq_equiv}
use Rattle.tt_kinds.specs.Tree.{Depth, Tree}
use Rattle.tt_kinds.specs.Shape.{fill}
use Rattle.tt_kinds.specs.Kinds.{ty_shape}
use Rattle.tt_kinds.specs.Handle.{Ty}
use Rattle.tt_kinds.specs.declared.ty_kind.TyKind.TheVariants as ty
use Rattle.tt_kinds.specs.declared.ty_kind.InferTy.TheVariants.{TyVar}
use Rattle.tt_kinds.specs.declared.table.Table.TheVariants.{Types}
use Rattle.tt_interner.specs.Owned.{IsOwned, tree_in}
use Rattle.tt_interner.specs.Rows.{Row, type_row, meaning, row_shape}
use Rattle.tt_interner.specs.Stored.{Terms, Extends}
use Rattle.tt_interner.proofs.Growth.{IsPart-grows}
use Rattle.unify.specs.Substitution.{Substitution, apply, variable_tree}
use Rattle.unify.proofs.SubstitutionLaws.{apply_alike}
use Rattle.unify.specs.Bindings.{stored, table_shape}
use Rattle.unify.proofs.BindingsLaws.{bound_tree, reads, stored_stays}
use Rattle.unify.proofs.MemoLaws.{Puts, entries_owned}
use Rattle.unify.proofs.OwnSolution.{entry_inside}
use Rattle.canonical.specs.Canonical.{numbered}
use Rattle.canonical.specs.Numbers.{with_binding}

-- a variable that was stored has the variable's tree
pub number_tree : (old new : List Row) (t : Ty) (n : ℕ)
    → meaning new Types t.number ≡ fill (meaning old) (row_shape (type_row (ty.Infer (TyVar n))))
    → tree_in new (ty_shape t) ≡ variable_tree n
unfolding fill
number_tree old new t n means = means

-- no number is put before the first one
pub none_stored : (terms : Terms) (v : ℕ) → stored terms [] v ≡ numbered [] v
none_stored terms v = reads terms [] v

pub none_owned : (terms : Terms) → IsOwned table_shape terms []
none_owned terms = entries_owned terms [] (λ w q is. absurd (cc))

module _ (old new : Terms) (entries later : List (Option Ty)) (v n : ℕ) (r : Ty) (extends : Extends old new)
    (owned : IsOwned table_shape old entries) (puts : Puts entries v r later) where
  -- one more number is put
  pub put_binds : tree_in new.rows (ty_shape r) ≡ variable_tree n → (w : ℕ)
      → stored new later w ≡ with_binding (stored old entries) v (variable_tree n) w
  put_binds is w = by (cases_Bool (eqb w v))
    where
      by : (eqb w v ≡ true) ⊎ (eqb w v ≡ false)
          → stored new later w ≡ with_binding (stored old entries) v (variable_tree n) w
      by (inl alike) =
          rw alike (
          reads new later w ∙ ap (λ x. bound_tree (meaning new.rows) (get_or later x None)) (eqb-true w v alike)
          ∙ ap (bound_tree (meaning new.rows)) puts.own ∙ ap Some is)
      by (inr other) =
          let apart : w ≡ v → ⊥ = λ same. true≢false
          (sym (subst (λ x. eqb w x ≡ true) same (nat_eq_equiv.refl w)) ∙ other) in
          rw other (
          reads new later w ∙ ap (bound_tree (meaning new.rows)) (puts.others w apart) ∙ sym (reads new entries w)
          ∙ ap (λ σ. σ w) (stored_stays old new entries extends owned))

  -- and the table is the interner's
  pub put_owned : IsOwned ty_shape new r → IsOwned table_shape new later
  put_owned own = entries_owned new later (λ w q is. by w q is (cases_eq w v))
    where
      grown : IsOwned table_shape new entries
      grown = IsPart-grows old.rows new.rows extends.rows (table_shape entries) owned

      by : (w : ℕ) (q : Ty) → get_or later w None ≡ Some q → (w ≡ v) ⊎ (w ≡ v → ⊥) → IsOwned ty_shape new q
      by w q is (inl same) =
          let one : Some r ≡ Some q = sym puts.own ∙ ap (λ u. get_or later u None) (sym same) ∙ is in
          subst (IsOwned ty_shape new) (same_Some r q one) own
      by w q is (inr apart) = entry_inside new entries w q (sym (puts.others w apart) ∙ is) grown.2

-- the outcome of a fold, by a substitution that binds alike, of the same tree
pub outcome_numbered : {T E : Type 0} (tree_of : T → Tree Depth) (σ τ : Substitution) (t u : Tree Depth)
    (r : Result T E)
    → ((v : ℕ) → σ v ≡ τ v) → t ≡ u → IfOk r (λ x. tree_of x ≡ apply σ t) → IfOk r (λ x. tree_of x ≡ apply τ u)
outcome_numbered tree_of σ τ t u (Ok x) alike same h = h ∙ apply_alike σ τ alike t ∙ ap (apply τ) same
outcome_numbered tree_of σ τ t u (Err e) alike same h = tt
