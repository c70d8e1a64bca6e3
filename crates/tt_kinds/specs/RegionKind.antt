-- Regions that can be built.
use Rattle.std.specs.Prelude.{ℕ, ⊤}
use Rattle.tt_kinds.specs.Bound.{depth, IsBelowGreatest}
use Rattle.tt_kinds.specs.declared.bound.BoundVarIndexKind.TheVariants.{Bound}
use Rattle.tt_kinds.specs.declared.bound.BoundRegion.{BoundRegion}
use Rattle.tt_kinds.specs.declared.region_kind.RegionKind.{RegionKind}
use Rattle.tt_kinds.specs.declared.region_kind.RegionKind.TheVariants.{ReEarlyParam, ReBound, ReLateParam, ReStatic}
use Rattle.tt_kinds.specs.declared.region_kind.RegionKind.TheVariants.{ReVar, RePlaceholder, ReErased, ReError}

-- a bound region's index is below the greatest
abbrev pub IsShallow : RegionKind → Type 0
IsShallow (ReEarlyParam p) = ⊤
IsShallow (ReBound i b) = IsBelowGreatest (depth i)
IsShallow (ReLateParam p) = ⊤
IsShallow ReStatic = ⊤
IsShallow (ReVar v) = ⊤
IsShallow (RePlaceholder p) = ⊤
IsShallow ReErased = ⊤
IsShallow (ReError e) = ⊤

-- the region bound by the binder of this index
abbrev pub region_bound_at : ℕ → BoundRegion → RegionKind
region_bound_at d b = ReBound (Bound d) b
