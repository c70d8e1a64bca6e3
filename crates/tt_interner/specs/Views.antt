-- Views of stored lists.
use Rattle.std.specs.Prelude.{◌≡◌, ℕ, ◌+◌, ◌-◌, ◌<◌, ◌≤◌, List, length, Some, slice_get}
use Rattle.tt_kinds.specs.Handle.{Ty}
use Rattle.tt_kinds.specs.declared.generic_arg.GenericArgKind.{GenericArgKind}
use Rattle.tt_kinds.specs.declared.view.FnInputTys.{FnInputTys}
use Rattle.tt_kinds.specs.declared.view.GenericArgsSlice.{GenericArgsSlice}
use Rattle.tt_kinds.specs.declared.table.Table.TheVariants.{Types}
use Rattle.tt_interner.specs.Rows.{Row, tys_row, args_row, size}
use Rattle.tt_interner.specs.Stored.{IsAt}

-- the view's list is stored, and is not empty
abbrev pub AreInputs : List Row → FnInputTys → Type 0
AreInputs rows view = (items : List Ty) × IsAt rows (tys_row items) view.inputs_and_output.number × (0 < length items)

-- the view's list is stored, and has a type at the index and one after it
abbrev pub HasInput : List Row → FnInputTys → ℕ → Type 0
HasInput rows view index = (items : List Ty) × IsAt rows (tys_row items) view.inputs_and_output.number
    × (index + 1 < length items)

-- the type is the last of the view's list, and in range
pub record IsOutput (rows : List Row) (view : FnInputTys) (output : Ty) : Type 0 where
  pub items : List Ty
  pub stored : IsAt rows (tys_row items) view.inputs_and_output.number
  pub last : slice_get items (length items - 1) ≡ Some output
  pub in_range : output.number < size rows Types

-- the type is at the index of the view's list, not the last, and in range
pub record IsInput (rows : List Row) (view : FnInputTys) (index : ℕ) (input : Ty) : Type 0 where
  pub items : List Ty
  pub stored : IsAt rows (tys_row items) view.inputs_and_output.number
  pub at : slice_get items index ≡ Some input
  pub before_output : index + 1 < length items
  pub in_range : input.number < size rows Types

-- the view's list is stored, and all of the view's places are in it
abbrev pub LiesInList : List Row → GenericArgsSlice → Type 0
LiesInList rows view = (items : List GenericArgKind) × IsAt rows (args_row items) view.args.number
    × (view.start + view.len ≤ length items)
