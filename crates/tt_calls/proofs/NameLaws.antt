-- The names and the variables of binders, over plain variables.
use Rattle.std.proofs.Common.{◌≡◌, ℕ, List, [], ◌∷◌, ◌++◌, map, Result, Ok, Err, refl, ap, ◌∙◌}
use Rattle.std.specs.Prelude.{IsErrAnd}
use Rattle.std.proofs.lemmas.List.{map-append}
use Rattle.tt_index.specs.declared.refusal.Refusal.{Refusal}
use Rattle.tt_kinds.specs.Label.{VarKind, var_list_label}
use Rattle.tt_kinds.specs.Tree.{node, none}
use Rattle.tt_kinds.specs.Bound.{var_kind}
use Rattle.tt_kinds.specs.Shape.{Sizes, fill, name_of, vars_of, rename_kind, AreNamedKinds, IsNamedKind}
use Rattle.tt_kinds.specs.Kinds.{vars_row_shape}
use Rattle.tt_kinds.specs.declared.bound.BoundVariableKind.{BoundVariableKind}
use Rattle.tt_kinds.specs.Handle.{BoundVarKinds}
use Rattle.tt_interner.specs.Rows.{vars_row, size, meaning}
use Rattle.tt_interner.specs.Stored.{Terms, Extends, Builds}
use Rattle.tt_interner.proofs.Growth.{HasParts-grows, row-grows}
use Rattle.tt_calls.specs.declared.call.VariableCall.{VariableCall}
use Rattle.tt_calls.specs.CallForm.{variable_kind}
use Rattle.tt_calls.specs.Told.{HasFullTable}
use Rattle.tt_calls.specs.Build.{IsUnbuiltPart, IsVariableOf, GivesVariable, AreVariablesOf, GivesVariables}
use Rattle.tt_calls.specs.Build.{FillsVariables}
use Rattle.tt_calls.proofs.BuildLaws.{unstored, Builds-extends}

-- an error that is passed on is a variable's refusal, if it is a reason why the variable was not built
pub variable-passed : (terms : Terms) (ids : ℕ → ℕ) (c : VariableCall) (result : Result BoundVariableKind Refusal) (r : Refusal) → IsErrAnd result (λ x. x ≡ r)
    → IsUnbuiltPart (HasFullTable terms) [] [] ⊥ r → GivesVariable terms ids c result
variable-passed terms ids c (Ok k) r h u = absurd h
variable-passed terms ids c (Err x) r h u = record { ok = tt; err = rw h u }

-- an error that is passed on is the refusal of a list of variables, if it is a reason why the list was not built
pub variables-passed : (terms : Terms) (ids : ℕ → ℕ) (cs : List VariableCall) (result : Result BoundVarKinds Refusal) (r : Refusal) → IsErrAnd result (λ x. x ≡ r)
    → IsUnbuiltPart (HasFullTable terms) [] [] ⊥ r → GivesVariables terms ids cs result
variables-passed terms ids cs (Ok k) r h u = absurd h
variables-passed terms ids cs (Err x) r h u = record { ok = tt; err = rw h u }

-- an error that is passed on is the refusal of variables in order, if it is a reason why they were not built
pub vars-passed : {R : Type 0} (terms : Terms) (ids : ℕ → ℕ) (cs : List VariableCall) (vs : List BoundVariableKind) (result : Result R Refusal) (r : Refusal) → IsErrAnd result (λ x. x ≡ r)
    → IsUnbuiltPart (HasFullTable terms) [] [] ⊥ r → FillsVariables terms ids cs vs result
vars-passed terms ids cs vs (Ok k) r h u = absurd h
vars-passed terms ids cs vs (Err x) r h u = record { ok = tt; err = rw h u }

-- one variable more
kinds-append : (size : Sizes) (vs : List (VarKind ℕ)) (v : VarKind ℕ) → AreNamedKinds size vs → IsNamedKind size v → AreNamedKinds size (vs ++ v ∷ [])
kinds-append size [] v h k = (k, tt)
kinds-append size (w ∷ vs) v h k = (h.0, kinds-append size vs v h.1 k)

-- what more rows leave as it is
kinds-grow : (old new : Terms) (vs : List BoundVariableKind) → Extends old new → AreNamedKinds (size old.rows) (map var_kind vs)
    → AreNamedKinds (size new.rows) (map var_kind vs)
kinds-grow old new vs x h = (HasParts-grows old.rows new.rows x.rows (vars_row_shape vs) (h, tt)).0

kinds-still : (old new : Terms) (vs : List BoundVariableKind) → Extends old new → AreNamedKinds (size old.rows) (map var_kind vs)
    → map (rename_kind (name_of (meaning new.rows))) (map var_kind vs) ≡ map (rename_kind (name_of (meaning old.rows))) (map var_kind vs)
unfolding fill
kinds-still old new vs x h = ap vars_of (row-grows old.rows new.rows x.rows (vars_row_shape vs) (h, tt))

-- the variables of no calls are an empty list
pub variables-nothing : (terms : Terms) (ids : ℕ → ℕ) → AreVariablesOf terms ids [] []
variables-nothing terms ids = record { parts = tt; means = refl }

-- the variables built so far, and the next one, built among more rows, are the variables that calls name so far
pub variables-more : (old new : Terms) (ids : ℕ → ℕ) (cs : List VariableCall) (vs : List BoundVariableKind) (c : VariableCall) (v : BoundVariableKind)
    → Extends old new → AreVariablesOf old ids cs vs → IsVariableOf new ids c v → AreVariablesOf new ids (cs ++ c ∷ []) (vs ++ v ∷ [])
variables-more old new ids cs vs c v x h k = record {
  parts = rw (map-append var_kind vs (v ∷ [])) (kinds-append (size new.rows) (map var_kind vs) (var_kind v) (kinds-grow old new vs x h.parts) k.part);
  means = rw (map-append var_kind vs (v ∷ []), map-append (rename_kind (name_of (meaning new.rows))) (map var_kind vs) (var_kind v ∷ []), map-append (variable_kind ids) cs (c ∷ []), kinds-still old new vs x h.parts, h.means, k.means) refl;
}

-- the stored list of variables
pub variables-built : (old new : Terms) (ids : ℕ → ℕ) (cs : List VariableCall) (vs : List BoundVariableKind) (result : Result BoundVarKinds Refusal)
    → AreVariablesOf old ids cs vs → Builds result (λ l. l.number) old new (vars_row vs) → GivesVariables new ids cs result
unfolding fill
variables-built old new ids cs vs (Ok l) h b = record {
  ok = record {
    in_range = b.in_range;
    means = b.means ∙ ap (λ ks. node (var_list_label ks) none) h.means;
  };
  err = tt;
}
variables-built old new ids cs vs (Err r) h b = record {
  ok = tt;
  err = unstored old new (Builds-extends (Err r) (λ l. l.number) old new (vars_row vs) b) (vars_row vs) [] [] ⊥ (λ d. d) r b.cause;
}
