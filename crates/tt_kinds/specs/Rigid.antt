-- Types whose form is known, and inference variables whose value is known.
use Rattle.std.specs.Prelude.{⊤}
use Rattle.tt_kinds.specs.declared.ty_kind.TyKind.{TyKind}
use Rattle.tt_kinds.specs.declared.ty_kind.TyKind.TheVariants as ty
use Rattle.tt_kinds.specs.declared.ty_kind.IntVarValue.{IntVarValue}
use Rattle.tt_kinds.specs.declared.ty_kind.IntVarValue.TheVariants as int
use Rattle.tt_kinds.specs.declared.ty_kind.FloatVarValue.{FloatVarValue}
use Rattle.tt_kinds.specs.declared.ty_kind.FloatVarValue.TheVariants as float

-- the type is no alias, no parameter, no placeholder, no error, and no bound or inference variable
abbrev pub IsRigid : TyKind → Type 0
IsRigid (ty.Alias a) = ⊥
IsRigid (ty.Param p) = ⊥
IsRigid (ty.Bound i b) = ⊥
IsRigid (ty.Placeholder p) = ⊥
IsRigid (ty.Infer i) = ⊥
IsRigid (ty.Error e) = ⊥
IsRigid _ = ⊤

-- the variable's integer type is known
abbrev pub IsKnownInt : IntVarValue → Type 0
IsKnownInt int.Unknown = ⊥
IsKnownInt _ = ⊤

-- the variable's floating point type is known
abbrev pub IsKnownFloat : FloatVarValue → Type 0
IsKnownFloat float.Unknown = ⊥
IsKnownFloat (float.Known f) = ⊤
