-- What a generic argument is, by its kind.
use Rattle.std.specs.Prelude.{Option, Some, None}
use Rattle.tt_kinds.specs.Handle.{Ty}
use Rattle.tt_kinds.specs.Handle.{Const}
use Rattle.tt_kinds.specs.declared.generic_arg.GenericArgKind.{GenericArgKind}
use Rattle.tt_kinds.specs.declared.generic_arg.GenericArgKind.TheVariants as arg

-- the type, if the argument is a type
abbrev pub type_of : GenericArgKind → Option Ty
type_of (arg.«Type» t) = Some t
type_of _ = None

-- the constant, if the argument is a constant
abbrev pub const_of : GenericArgKind → Option Const
const_of (arg.Const c) = Some c
const_of _ = None
