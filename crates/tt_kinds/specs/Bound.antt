-- Bound variables: the index as it is written, and the variable's entry.
use Rattle.std.specs.Prelude.{ℕ, ◌<◌, ⊤}
use Rattle.tt_index.specs.Greatest.{greatest}
use Rattle.tt_kinds.specs.Label.{RegionName, anonymous, printed, named, environment, VarKind, region_variable}
use Rattle.tt_kinds.specs.Label.{type_variable, const_variable, Entry}
use Rattle.tt_kinds.specs.Tree.{Depth, at, canonical}
use Rattle.tt_kinds.specs.declared.bound.BoundVarIndexKind.{BoundVarIndexKind}
use Rattle.tt_kinds.specs.declared.bound.BoundVarIndexKind.TheVariants.{Bound, Canonical}
use Rattle.tt_kinds.specs.declared.bound.BoundRegionKind.{BoundRegionKind}
use Rattle.tt_kinds.specs.declared.bound.BoundRegionKind.TheVariants as region_kind
use Rattle.tt_kinds.specs.declared.bound.BoundVariableKind.{BoundVariableKind}
use Rattle.tt_kinds.specs.declared.bound.BoundVariableKind.TheVariants as variable
use Rattle.tt_kinds.specs.declared.bound.BoundRegion.{BoundRegion}
use Rattle.tt_kinds.specs.declared.bound.BoundTy.{BoundTy}
use Rattle.tt_kinds.specs.declared.bound.BoundConst.{BoundConst}

-- the index as a tree has it
abbrev pub depth : BoundVarIndexKind → Depth
depth (Bound d) = at d
depth Canonical = canonical

-- the index is below the greatest
abbrev pub IsBelowGreatest : Depth → Type 0
IsBelowGreatest (at d) = d < greatest
IsBelowGreatest canonical = ⊤

-- the name of a bound region
abbrev pub region_name : BoundRegionKind → RegionName ℕ
region_name region_kind.Anon = anonymous
region_name (region_kind.NamedForPrinting s) = printed s.number
region_name (region_kind.Named d) = named d.number
region_name region_kind.ClosureEnv = environment

-- a variable of a binder's list
abbrev pub var_kind : BoundVariableKind → VarKind ℕ
var_kind (variable.Ty k) = type_variable k
var_kind (variable.Region k) = region_variable (region_name k)
var_kind variable.Const = const_variable

-- a bound region: its place in the binder's list, and its name
abbrev pub region_entry : BoundRegion → Entry ℕ
region_entry b = record { var = b.var; kind = region_variable (region_name b.kind) }

-- a bound type: its place in the binder's list, and its name
abbrev pub ty_entry : BoundTy → Entry ℕ
ty_entry b = record { var = b.var; kind = type_variable b.kind }

-- a bound constant: its place in the binder's list
abbrev pub const_entry : {N : Type 0} → BoundConst → Entry N
const_entry b = record { var = b.var; kind = const_variable }
