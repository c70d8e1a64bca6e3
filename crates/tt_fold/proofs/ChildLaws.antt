-- A child by its cases: nothing, a region, or a stored term or list.
use Rattle.std.proofs.Common.{◌≡◌, List, refl, ap}
use Rattle.tt_kinds.specs.Parts.{a_stored}
use Rattle.tt_kinds.specs.Kinds.{handle_shape, region_shape}
use Rattle.tt_kinds.specs.declared.handle.AnyHandle.{AnyHandle}
use Rattle.tt_kinds.specs.declared.parts.Child.TheVariants as child
use Rattle.tt_kinds.specs.declared.region_kind.RegionKind.{RegionKind}
use Rattle.tt_interner.specs.Rows.{Row, meaning}
use Rattle.tt_visit.proofs.VisitSteps.{root-region}
use Rattle.tt_fold.specs.Walk.{Hooks, Errors, Walks, WalksAll, Fails, at_region, region_failed, done}
use Rattle.tt_fold.specs.Steps.{IsPartOf, tree_in}
use Rattle.tt_fold.specs.Parts.{child_trees, handle_tree, IsChildFor, IsStoredFor}
use Rattle.tt_fold.proofs.PartLaws.{no_parts, no_trees, one_part, one_tree}
use Rattle.tt_fold.proofs.WalkLaws.{WalksAll-one}

-- a stored child that became another is a child that became another
pub stored_for : {rows : List Row} {c y : AnyHandle} → IsStoredFor c rows y → IsChildFor (child.Stored c) rows (child.Stored y)
stored_for h = record { owned = (h.owned, tt); like = ap a_stored h.like }

-- a region may become any other
pub region_for : {rows : List Row} {x y : RegionKind} → IsPartOf rows (region_shape y) → IsChildFor (child.Region x) rows (child.Region y)
region_for {rows} {y} part = record { owned = one_part rows (region_shape y) part; like = refl }

-- an absent child stays absent
pub absent_for : (rows : List Row) → IsChildFor child.Absent rows child.Absent
absent_for rows = record { owned = no_parts rows; like = refl }

module _ {M E : Type 0} {H : Hooks M E} where
  -- the walk of a stored term or list is one of the trees of a child
  pub stored_walks : (rows rows' : List Row) (c y : AnyHandle) {s s' : M}
      → Walks H s (handle_tree rows c) (handle_tree rows' y) s' → WalksAll H s (child_trees rows (child.Stored c)) (child_trees rows' (child.Stored y)) s'
  stored_walks rows rows' c y w = rw (one_tree rows (handle_shape c), one_tree rows' (handle_shape y)) (WalksAll-one w)

  -- so is the answer of the hook at a region
  pub region_walks : (rows rows' : List Row) (x y : RegionKind) {s s' : M}
      → H.on_region s (tree_in rows (region_shape x)) (tree_in rows' (region_shape y)) s' → WalksAll H s (child_trees rows (child.Region x)) (child_trees rows' (child.Region y)) s'
  region_walks rows rows' x y h =
      rw (one_tree rows (region_shape x), one_tree rows' (region_shape y)) (WalksAll-one (at_region (root-region (meaning rows) x) h))

  -- an absent child has no tree to be walked
  pub absent_walks : (rows rows' : List Row) {s : M} → WalksAll H s (child_trees rows child.Absent) (child_trees rows' child.Absent) s
  absent_walks rows rows' = rw (no_trees rows, no_trees rows') done

  -- the walk of a region fails where the hook at the region fails
  pub region_falls : {errors : Errors E} (rows : List Row) (x : RegionKind) {s s' : M} {e : E}
      → H.region_fails errors.unbuilt s (tree_in rows (region_shape x)) e s' → Fails H errors s (tree_in rows (region_shape x)) e s'
  region_falls rows x h = region_failed (root-region (meaning rows) x) h
