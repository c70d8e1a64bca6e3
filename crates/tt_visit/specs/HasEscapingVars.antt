-- The hooks of the visitors that look at how far out variables are bound.
use Rattle.std.specs.Prelude.{◌≡◌, ℕ, ◌+◌, ◌-◌, ◌<◌, ◌≤◌, Bool, true, ⊤}
use Rattle.tt_index.specs.Greatest.{greatest}
use Rattle.tt_kinds.specs.Tree.{Depth, Tree, Forest, param, bound, region, term, node, binder, none, also}
use Rattle.tt_kinds.specs.Reading.{outer_binder}
use Rattle.tt_visit.specs.Root.{Root, hooked, term_root}
use Rattle.tt_visit.specs.Visit.{Visits}
use Rattle.tt_visit.specs.declared.visitor.Next.{Next}
use Rattle.tt_visit.specs.declared.visitor.Next.TheVariants.{Skip, Descend}
use Rattle.tt_visit.specs.declared.has_escaping_vars.FoundEscapingVars.{FoundEscapingVars}

-- a search for variables bound by the binder of this index or further out, and whether it skipped a binder's value
pub record Search : Type 0 where
  pub outer_index : ℕ
  pub skipped : Bool

-- a binder is entered with one more binder to count, and skipped if there is no index for it
abbrev pub SearchEnters : Search → Next → Search → Type 0
SearchEnters s Descend s' = s' ≡ record { outer_index = s.outer_index + 1; skipped = s.skipped }
SearchEnters s Skip s' = (greatest ≤ s.outer_index) × (s' ≡ record { outer_index = s.outer_index; skipped = true })

-- a value that reaches far enough out breaks the visit, and no term with a hook is entered
abbrev pub search_hooks : Visits Search FoundEscapingVars
search_hooks = record {
  on_region = λ s t s'. (s' ≡ s) × (outer_binder t ≤ s.outer_index);
  region_breaks = λ s t b s'. (s' ≡ s) × (s.outer_index < outer_binder t);
  on_error = λ s e s'. s' ≡ s;
  error_breaks = λ s e b s'. ⊥;
  on_term = λ s t next s'. (s' ≡ s) × (next ≡ Skip) × (outer_binder t ≤ s.outer_index);
  term_breaks = λ s t b s'. (s' ≡ s) × (s.outer_index < outer_binder t);
  enter = λ s vs next s'. SearchEnters s next s';
  enter_breaks = λ s vs b s'. ⊥;
  leave = λ s vs s'. s' ≡ record { outer_index = s.outer_index - 1; skipped = s.skipped };
}

-- nothing breaks, and each index is in range
abbrev pub range_hooks : Visits ⊤ FoundEscapingVars
range_hooks = record {
  on_region = λ s t s'. outer_binder t ≤ greatest;
  region_breaks = λ s t b s'. ⊥;
  on_error = λ s e s'. ⊤;
  error_breaks = λ s e b s'. ⊥;
  on_term = λ s t next s'. (next ≡ Skip) × (outer_binder t ≤ greatest);
  term_breaks = λ s t b s'. ⊥;
  enter = λ s vs next s'. next ≡ Descend;
  enter_breaks = λ s vs b s'. ⊥;
  leave = λ s vs s'. ⊤;
}

-- a condition on a term with a hook, and one on a term without
abbrev pub ByHook : Root → Type 0 → Type 0 → Type 0
ByHook hooked whole inside = whole
ByHook _ whole inside = inside

abbrev mutual
  -- no region and no term with a hook of the tree reaches past the greatest index
  pub InRange : Tree Depth → Type 0
  InRange (param s i name) = ⊤
  InRange (bound s d e) = outer_binder (bound s d e) ≤ greatest
  InRange (region r) = ⊤
  InRange (term l ts) = ByHook (term_root l) (outer_binder (term l ts) ≤ greatest) (InRange_all ts)
  InRange (node l ts) = InRange_all ts
  InRange (binder vs t) = InRange t

  pub InRange_all : Forest Depth → Type 0
  InRange_all none = ⊤
  InRange_all (also t ts) = InRange t × InRange_all ts
