-- The remembered shifts of arguments.
use Rattle.std.specs.Prelude.{◌≡◌, ◌≢◌, ◌⊎◌, ℕ, ◌<◌, List, [], ◌∷◌, Bool, ◌&&◌, nat_eq, Some, None, ⊤}
use Rattle.std.specs.Map.{lookup}
use Rattle.indexmap.specs.IndexMap.{insert_entry}
use Rattle.tt_kinds.specs.Label.{Sort, type_sort, const_sort}
use Rattle.tt_kinds.specs.Tree.{Depth, Tree}
use Rattle.tt_kinds.specs.Argument.{Argument, argument}
use Rattle.tt_kinds.specs.Plain.{shift_tree}
use Rattle.tt_kinds.specs.Reading.{outer_binder}
use Rattle.tt_kinds.specs.Count.{moving_types}
use Rattle.tt_kinds.specs.Shape.{Shape}
use Rattle.tt_kinds.specs.Kinds.{ty_shape, const_shape}
use Rattle.tt_kinds.specs.declared.generic_arg.GenericArgKind.{GenericArgKind}
use Rattle.tt_kinds.specs.Handle.{Const}
use Rattle.tt_kinds.specs.Handle.{Ty}
use Rattle.tt_interner.specs.Rows.{Row}
use Rattle.tt_interner.specs.Stored.{Terms}
use Rattle.tt_fold.specs.Memory.{OwnsMemos}
use Rattle.tt_fold.specs.Places.{CountsPairs}
use Rattle.tt_fold.specs.Steps.{IsPartBy, tree_by}
use Rattle.tt_fold.specs.declared.memory.Place.{Place}
use Rattle.tt_interner.specs.Arguments.{AreArguments, arguments}
use Rattle.tt_binder.specs.declared.shifted.ParamAt.{ParamAt}

-- a parameter of the index under k binders
abbrev pub param_at : ℕ → ℕ → ParamAt
param_at index k = record { index = index; under = k }

-- the indices and the numbers of binders are the same
abbrev pub same_param : ParamAt → ParamAt → Bool
same_param p q = nat_eq p.index q.index && nat_eq p.under q.under

module _ {T : Type 0} (shape : T → Shape) where
  -- The argument of a parameter, shifted past the binders above the parameter: the argument itself if there are no
  -- binders or it has no variable to shift, and otherwise the remembered shift, or a new shift, which is remembered.
  pub data Shifts (old : Terms) (x : T) (p : ParamAt) (es fs : List (ParamAt × T)) (new : Terms) (y : T) : Type 0 where
    unshifted : (p.under ≡ 0) ⊎ (outer_binder (tree_by shape old.rows x) ≡ 0) → y ≡ x → fs ≡ es → new ≡ old
        → Shifts old x p es fs new y
    found : lookup (same_param p) es ≡ Some y → fs ≡ es → new ≡ old → Shifts old x p es fs new y
    made : 0 < p.under → lookup (same_param p) es ≡ None → IsPartBy shape new.rows y
        → tree_by shape new.rows y ≡ shift_tree 0 p.under (tree_by shape old.rows x)
        → CountsPairs (moving_types 0 (tree_by shape old.rows x)) old.counters.shift_descents
        new.counters.shift_descents
        → fs ≡ insert_entry same_param es p y → Shifts old x p es fs new y

  -- the shift for a parameter is among the rows, and is the parameter's argument shifted past the binders above it
  pub record IsShift (rows : List Row) (args : List (Argument Depth)) (sort : Sort) (e : ParamAt × T) : Type 0 where
    pub value : Tree Depth
    pub given : argument args sort e.0.index ≡ Some value
    pub part : IsPartBy shape rows e.1
    pub shifted : tree_by shape rows e.1 ≡ shift_tree 0 e.0.under value

  -- the same for all remembered shifts
  abbrev pub OwnsShifts : List Row → List (Argument Depth) → Sort → List (ParamAt × T) → Type 0
  OwnsShifts rows args sort [] = ⊤
  OwnsShifts rows args sort (e ∷ es) = IsShift rows args sort e × OwnsShifts rows args sort es

-- a folder's handles are among the rows: its arguments, its memory, and its shifts; and there is an argument
abbrev pub OwnsArguments : {S : Type 0} → (List Row → S → List GenericArgKind) → (List Row → S → Type 0) → List Row → S
    → List (Place × Ty) → List (ParamAt × Ty) → List (ParamAt × Const) → Type 0
OwnsArguments items owns rows x memory types consts = owns rows x
    × AreArguments rows (items rows x)
    × (items rows x ≢ [])
    × OwnsMemos rows memory
    × OwnsShifts ty_shape rows (arguments rows (items rows x)) type_sort types
    × OwnsShifts const_shape rows (arguments rows (items rows x)) const_sort consts
