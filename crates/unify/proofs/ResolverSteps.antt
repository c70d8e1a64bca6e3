-- What a resolver answers, from what it tests.
use Rattle.std.proofs.Common.{◌≡◌, refl, ℕ, ◌<◌, List, [], ◌∷◌, length, get_or, Option, Some, None, Bool}
use Rattle.std.proofs.Common.{false, ◌↔◌, IsTrue, sym, ap, ◌∙◌, MatchOption, IfSome}
use Rattle.std.proofs.Common.{inl, inr}
use Rattle.std.proofs.lemmas.Bool.{cases_lt, true≢false}
use Rattle.std.proofs.lemmas.List.{get_or_default, get_or_past}
use Rattle.tt_flags.specs.TypeFlags.{has_ty_infer}
use Rattle.tt_kinds.specs.Scan.{scan}
use Rattle.tt_kinds.specs.Tree as tree
use Rattle.tt_kinds.specs.Tree.{Depth, Tree}
use Rattle.tt_kinds.specs.Kinds.{ty_shape}
use Rattle.tt_kinds.specs.Values.{option_shape}
use Rattle.tt_kinds.specs.Handle.{Ty}
use Rattle.tt_interner.specs.Rows.{meaning}
use Rattle.tt_interner.specs.Owned.{IsOwned}
use Rattle.tt_interner.specs.Stored.{Terms}
use Rattle.tt_interner.proofs.OwnedLaws.{some_owned}
use Rattle.tt_visit.specs.HasTypeFlags.{Meets}
use Rattle.tt_fold.specs.Steps.{tree_in}
use Rattle.tt_fold.specs.Walk.{keep}
use Rattle.tt_fold.proofs.KeptLaws.{misses}
use Rattle.unify.specs.Substitution.{Substitution, variable_in}
use Rattle.unify.specs.Bindings.{read, stored}
use Rattle.unify.specs.Resolver.{binding, Resolves, kept}
use Rattle.unify.proofs.SubstitutionLaws.{no_variable, variable_bound}
use Rattle.unify.proofs.BindingsLaws.{bound_tree, reads}
use Rattle.unify.proofs.FlagLaws.{unflagged_stays}

-- a type without inference variables is kept
pub keeps_unflagged : (table t : Tree Depth) (found : Bool) → IsTrue found ↔ Meets has_ty_infer (scan t) → found ≡ false → Resolves table t keep
keeps_unflagged table t found exact not_found = kept (unflagged_stays (read table) t (misses has_ty_infer (scan t) found exact not_found))

-- what is no variable has no binding
pub unbound_other : (σ : Substitution) (t : Tree Depth) → variable_in t ≡ None → binding σ t ≡ None
unbound_other σ (tree.term l ts) h = no_variable σ l h
unbound_other σ (tree.param o i name) h = refl
unbound_other σ (tree.bound o d e) h = refl
unbound_other σ (tree.region r) h = refl
unbound_other σ (tree.node l ts) h = refl
unbound_other σ (tree.binder vs t) h = refl

-- a variable's binding is the substitution's
pub binding_at_variable : (σ : Substitution) (t : Tree Depth) (v : ℕ) → variable_in t ≡ Some v → binding σ t ≡ σ v
binding_at_variable σ (tree.term l ts) v h = variable_bound σ l v h
binding_at_variable σ (tree.param o i name) v h = absurd (cc)
binding_at_variable σ (tree.bound o d e) v h = absurd (cc)
binding_at_variable σ (tree.region r) v h = absurd (cc)
binding_at_variable σ (tree.node l ts) v h = absurd (cc)
binding_at_variable σ (tree.binder vs t) v h = absurd (cc)

-- the item past the end
outside_or : {T : Type 0} (xs : List T) (i : ℕ) (d : T) → (i < length xs → ⊥) → get_or xs i d ≡ d
outside_or xs i d h = get_or_past xs i d (elim (cases_lt i (length xs)) [ inl less ↦ absurd (h less) | inr past ↦ past ])

-- what an entry says of a variable's binding
abbrev pub EntrySays : Terms → Substitution → Tree Depth → Option Ty → Type 0
EntrySays terms σ t o = MatchOption o (binding σ t ≡ None) (λ b. binding σ t ≡ Some (tree_in terms.rows (ty_shape b)))

pub entry_says : (terms : Terms) (σ : Substitution) (t : Tree Depth) (o : Option Ty) → binding σ t ≡ bound_tree (meaning terms.rows) o → EntrySays terms σ t o
entry_says terms σ t None h = h
entry_says terms σ t (Some b) h = h

-- the binding of a variable is in its entry
pub says_entry : (terms : Terms) (xs : List (Option Ty)) (t : Tree Depth) (v : ℕ) (o : Option Ty) → variable_in t ≡ Some v → v < length xs → o ≡ get_or xs v o
    → EntrySays terms (stored terms xs) t o
says_entry terms xs t v o is inside at =
    let entry : get_or xs v None ≡ o = get_or_default xs v None o inside ∙ sym at in
    entry_says terms (stored terms xs) t o
    (binding_at_variable (stored terms xs) t v is ∙ reads terms xs v ∙ ap (bound_tree (meaning terms.rows)) entry)

-- a variable without an entry isn't bound
pub says_none : (terms : Terms) (xs : List (Option Ty)) (t : Tree Depth) (v : ℕ) → variable_in t ≡ Some v → (v < length xs → ⊥) → binding (stored terms xs) t ≡ None
says_none terms xs t v is outside =
    binding_at_variable (stored terms xs) t v is ∙ reads terms xs v ∙ ap (bound_tree (meaning terms.rows)) (outside_or xs v None outside)

-- the binding in an entry that is the interner's is the interner's
pub entry_owned : (terms : Terms) (o : Option Ty) → IsOwned (option_shape ty_shape) terms o → IfSome o (λ b. IsOwned ty_shape terms b)
entry_owned terms None owned = tt
entry_owned terms (Some b) owned = some_owned ty_shape terms (Some b) b refl owned
