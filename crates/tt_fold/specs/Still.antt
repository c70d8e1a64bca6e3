-- The trees at which a fold leaves the interner unchanged.
use Rattle.std.specs.Prelude.{◌≡◌, List, ⊤}
use Rattle.tt_kinds.specs.Tree.{Depth, Tree}
use Rattle.tt_kinds.specs.Shape.{Shape, param, bound, region, stored}
use Rattle.tt_interner.specs.Rows.{Row}
use Rattle.tt_interner.specs.Stored.{Terms}
use Rattle.tt_visit.specs.Root.{hooked, table_root}
use Rattle.tt_fold.specs.Walk.{descend, Hooks}
use Rattle.tt_fold.specs.Counts.{Standing, stands}
use Rattle.tt_fold.specs.Steps.{tree_in}

-- the shape is one region, or one stored term that has a hook
abbrev pub IsAlone : Shape → Type 0
IsAlone (param s i name) = ⊤
IsAlone (bound s d e) = ⊤
IsAlone (region r) = ⊤
IsAlone (stored t n) = table_root t ≡ hooked
IsAlone _ = ⊥

-- the walk does not enter the tree: the hook there never answers `descend`, and leaves the interner unchanged
pub record EndsAt {M E : Type 0} (H : Hooks M E) (touches_nothing : Tree Depth → Type 0) (s : M) (t : Tree Depth)
    : Type 0 where
  pub ends : (s' : M) → H.on_term s t descend s' → ⊥
  pub still : touches_nothing t

-- if the shape is one region or one term, and the walk does not enter it, the interner is unchanged
abbrev pub StaysStill : {M E S : Type 0} → Hooks (Standing M) E → (List Row → S → Tree Depth → Type 0)
    → (List Row → S → M) → Shape → Terms → S → Terms → Type 0
StaysStill H touches_nothing means shape terms s terms' =
    IsAlone shape → EndsAt H (touches_nothing terms.rows s) (stands means terms s) (tree_in terms.rows shape)
    → terms' ≡ terms
