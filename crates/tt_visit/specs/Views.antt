-- The items of views of stored lists.
use Rattle.std.specs.Prelude.{◌≡◌, ◌++◌, ◌∷◌, [], List, length}
use Rattle.tt_kinds.specs.Handle.{Ty}
use Rattle.tt_kinds.specs.declared.generic_arg.GenericArgKind.{GenericArgKind}
use Rattle.tt_kinds.specs.declared.view.FnInputTys.{FnInputTys}
use Rattle.tt_kinds.specs.declared.view.GenericArgsSlice.{GenericArgsSlice}
use Rattle.tt_interner.specs.Rows.{Row, tys_row, args_row}
use Rattle.tt_interner.specs.Stored.{IsAt}

-- the types are the view's list without the last
pub record HoldsInputs (rows : List Row) (view : FnInputTys) (inputs : List Ty) : Type 0 where
  pub output : Ty
  pub stored : IsAt rows (tys_row (inputs ++ output ∷ [])) view.inputs_and_output.number

-- the arguments are those at the view's places in its list
pub record HoldsArgs (rows : List Row) (view : GenericArgsSlice) (args : List GenericArgKind) : Type 0 where
  pub before : List GenericArgKind
  pub after : List GenericArgKind
  pub stored : IsAt rows (args_row (before ++ (args ++ after))) view.args.number
  pub start : length before ≡ view.start
  pub len : length args ≡ view.len
