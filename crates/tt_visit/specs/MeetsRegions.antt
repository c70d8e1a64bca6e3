-- The hooks of the visitor that looks for regions at which a fold of regions calls its closure.
use Rattle.std.specs.Prelude.{◌≡◌, ◌≢◌, ℕ, ◌+◌, ◌-◌, ◌<◌, ◌≤◌, Bool, true, [], ⊤}
use Rattle.tt_index.specs.Greatest.{greatest}
use Rattle.tt_kinds.specs.Label.{Sort, region_sort, type_sort, const_sort}
use Rattle.tt_kinds.specs.Tree.{Depth, Tree, Forest, param, bound, region, term, node, binder, none, also}
use Rattle.tt_kinds.specs.Reading.{outer_binder}
use Rattle.tt_kinds.specs.Scan.{scan}
use Rattle.tt_kinds.specs.Met.{met}
use Rattle.tt_visit.specs.HasTypeFlags.{Misses, Meets}
use Rattle.tt_visit.specs.Visit.{Visits}
use Rattle.tt_visit.specs.declared.visitor.Next.{Next}
use Rattle.tt_visit.specs.declared.visitor.Next.TheVariants.{Skip, Descend}
use Rattle.tt_visit.specs.declared.meets_regions.MetRegion.{MetRegion}

-- no region is met in the tree under k binders
abbrev pub MeetsNone : ℕ → Tree Depth → Type 0
MeetsNone k t = met k t ≡ []

-- a region is met in the tree under k binders
abbrev pub MeetsSome : ℕ → Tree Depth → Type 0
MeetsSome k t = met k t ≢ []

-- where the search is: under how many binders of the value, and whether it skipped a binder's value
pub record RegionSearch : Type 0 where
  pub depth : ℕ
  pub skipped : Bool

-- a term is skipped only if no region is met in it, and entered only if its regions are bound and it reaches past k
abbrev pub RegionSearchLooks : ℕ → Tree Depth → Next → Type 0
RegionSearchLooks k t Skip = MeetsNone k t
RegionSearchLooks k t Descend = Misses 0x220000 (scan t) × Meets 0x40000 (scan t) × (k < outer_binder t)

-- a binder is entered with one more binder to count, and skipped if there is no index for it
abbrev pub RegionSearchEnters : RegionSearch → Next → RegionSearch → Type 0
RegionSearchEnters s Descend s' = s' ≡ record { depth = s.depth + 1; skipped = s.skipped }
RegionSearchEnters s Skip s' = (greatest ≤ s.depth) × (s' ≡ record { depth = s.depth; skipped = true })

-- a term in which a region is met breaks the visit, or is entered if only a walk of its bound regions decides that
abbrev pub meets_hooks : Visits RegionSearch MetRegion
meets_hooks = record {
  on_region = λ s t s'. (s' ≡ s) × MeetsNone s.depth t;
  region_breaks = λ s t b s'. (s' ≡ s) × MeetsSome s.depth t;
  on_error = λ s e s'. s' ≡ s;
  error_breaks = λ s e b s'. ⊥;
  on_term = λ s t next s'. (s' ≡ s) × RegionSearchLooks s.depth t next;
  term_breaks = λ s t b s'. (s' ≡ s) × MeetsSome s.depth t;
  enter = λ s vs next s'. RegionSearchEnters s next s';
  enter_breaks = λ s vs b s'. ⊥;
  leave = λ s vs s'. s' ≡ record { depth = s.depth - 1; skipped = s.skipped };
}

-- a region's condition, which no other variable has to meet
abbrev pub OfRegion : Sort → Type 0 → Type 0
OfRegion region_sort condition = condition
OfRegion type_sort condition = ⊤
OfRegion const_sort condition = ⊤

abbrev mutual
  -- each bound region of the tree, however deep it is, has an index below the greatest
  pub AreInRange : Tree Depth → Type 0
  AreInRange (param s i name) = ⊤
  AreInRange (bound s d e) = OfRegion s (outer_binder (bound s d e) ≤ greatest)
  AreInRange (region r) = ⊤
  AreInRange (term l ts) = AreInRange_all ts
  AreInRange (node l ts) = AreInRange_all ts
  AreInRange (binder vs t) = AreInRange t

  pub AreInRange_all : Forest Depth → Type 0
  AreInRange_all none = ⊤
  AreInRange_all (also t ts) = AreInRange t × AreInRange_all ts

-- nothing breaks, a term is skipped only where no bound region occurs in it, and each region's index is in range
abbrev pub region_range_hooks : Visits ⊤ MetRegion
region_range_hooks = record {
  on_region = λ s t s'. outer_binder t ≤ greatest;
  region_breaks = λ s t b s'. ⊥;
  on_error = λ s e s'. ⊤;
  error_breaks = λ s e b s'. ⊥;
  on_term = λ s t next s'. next ≡ Skip → Misses 0x40000 (scan t);
  term_breaks = λ s t b s'. ⊥;
  enter = λ s vs next s'. next ≡ Descend;
  enter_breaks = λ s vs b s'. ⊥;
  leave = λ s vs s'. ⊤;
}
