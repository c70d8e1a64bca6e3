-- the slice has no flag of region variables
use Rattle.std.proofs.Common.{◌≡◌, ℕ, Bool, false}
use Rattle.std.specs.Prelude.{◌↔◌, IsTrue}
use Rattle.tt_kinds.specs.Label.{region_var}
use Rattle.tt_kinds.specs.Scan.{scan}
use Rattle.tt_kinds.specs.Tree.{Depth, Tree, region}
use Rattle.tt_visit.specs.HasTypeFlags.{Meets}
use Rattle.tt_fold.specs.Stands.{StandsIn}
use Rattle.tt_fold.proofs.KeptLaws.{misses, no_region_var-by_flag}
use Rattle.fold_tests.proofs.tests.fitting.a_slice_is_walked_holds.Goals as goal

-- a tree without the flag of region variables holds none
holds_none : (t : Tree Depth) (found : Bool) → IsTrue found ↔ Meets 0x10 (scan t) → found ≡ false → (x : ℕ) → StandsIn (region (region_var x)) t → ⊥
holds_none t found exact none = no_region_var-by_flag t (misses 0x10 (scan t) found exact none)

pub walked-requires-clause-lacks : goal.walked-requires-clause-lacks
walked-requires-clause-lacks c = holds_none _ _ c.has_infer_regions.ensures c.if-has_infer_regions.false
