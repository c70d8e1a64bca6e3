-- The hooks of a folder that replaces regions alone.
use Rattle.std.specs.Prelude.{◌≡◌, ⊤}
use Rattle.tt_kinds.specs.Tree.{Depth, Tree}
use Rattle.tt_fold.specs.Walk.{Hooks, descend}

-- What the one hook of such a folder may do: M is the meaning of the folder's state, and E the type of its errors. The
-- relation that `region_fails` takes says which errors mean that which tree is not built.
pub record RegionHooks (M E : Type 0) : Type 1 where
  -- state, region, answer, state
  pub on_region : M → Tree Depth → Tree Depth → M → Type 0
  pub region_fails : (Tree Depth → E → Type 0) → M → Tree Depth → E → M → Type 0

-- the hook without a promise
abbrev pub no_region_promise : {M E : Type 0} → RegionHooks M E
no_region_promise = record {
  on_region = λ s t r s'. ⊤;
  region_fails = λ unbuilt s t e s'. ⊤;
}

-- the hook that never fails: the relation holds of the state, the region and the answer, and the state stays
abbrev pub never_fails : {M E : Type 0} → (M → Tree Depth → Tree Depth → Type 0) → RegionHooks M E
never_fails R = record {
  on_region = λ s t r s'. R s t r × (s' ≡ s);
  region_fails = λ unbuilt s t e s'. ⊥;
}

-- the hooks of a folder that enters each term, keeps each rebuilt term, and keeps its state at binders
abbrev pub only_regions : {M E : Type 0} → RegionHooks M E → Hooks M E
only_regions H = record {
  on_region = H.on_region;
  region_fails = H.region_fails;
  on_term = λ s t a s'. (a ≡ descend) × (s' ≡ s);
  term_fails = λ unbuilt s t e s'. ⊥;
  after_term = λ s t u r s'. (r ≡ u) × (s' ≡ s);
  after_fails = λ unbuilt s t u e s'. ⊥;
  enter = λ s vs s'. s' ≡ s;
  enter_fails = λ unbuilt s vs e s'. ⊥;
  leave = λ s vs s'. s' ≡ s;
  leave_fails = λ unbuilt s vs e s'. ⊥;
}
