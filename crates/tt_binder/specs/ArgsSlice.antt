-- The arguments of a view of a stored list.
use Rattle.std.specs.Prelude.{List, take, drop}
use Rattle.tt_kinds.specs.declared.generic_arg.GenericArgKind.{GenericArgKind}
use Rattle.tt_kinds.specs.declared.view.GenericArgsSlice.{GenericArgsSlice}
use Rattle.tt_interner.specs.Rows.{Row}
use Rattle.tt_interner.specs.Arguments.{args_at}

-- the arguments at the view's places, or as many of them as are in its list
abbrev pub args_in : List Row → GenericArgsSlice → List GenericArgKind
args_in rows view = take view.len (drop view.start (args_at rows view.args))
