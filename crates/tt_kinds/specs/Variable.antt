-- The variables of a binder's list, by what they represent.
use Rattle.std.specs.Prelude.{⊤, Option, Some, None}
use Rattle.tt_kinds.specs.declared.id.DefId.{DefId}
use Rattle.tt_kinds.specs.declared.bound.BoundRegionKind.{BoundRegionKind}
use Rattle.tt_kinds.specs.declared.bound.BoundRegionKind.TheVariants.{Named}
use Rattle.tt_kinds.specs.declared.bound.BoundVariableKind.{BoundVariableKind}
use Rattle.tt_kinds.specs.declared.bound.BoundVariableKind.TheVariants as variable

-- the variable represents a region
abbrev pub IsRegionVariable : BoundVariableKind → Type 0
IsRegionVariable (variable.Region k) = ⊤
IsRegionVariable _ = ⊥

-- the variable represents a type
abbrev pub IsTypeVariable : BoundVariableKind → Type 0
IsTypeVariable (variable.Ty k) = ⊤
IsTypeVariable _ = ⊥

-- the variable represents a constant
abbrev pub IsConstVariable : BoundVariableKind → Type 0
IsConstVariable variable.Const = ⊤
IsConstVariable _ = ⊥

-- the declaration of a bound region, if it has one
abbrev pub region_id : BoundRegionKind → Option DefId
region_id (Named d) = Some d
region_id _ = None
