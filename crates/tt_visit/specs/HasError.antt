-- The hooks of the visitor that looks for the token of an error, and the token that it finds.
use Rattle.std.specs.Prelude.{◌≡◌, ℕ, Option, Some, None, ⊤}
use Rattle.std.specs.Option.{option_or}
use Rattle.tt_flags.specs.TypeFlags.{has_error}
use Rattle.tt_kinds.specs.Label.{Name, FreeRegion, error_region}
use Rattle.tt_kinds.specs.Tree.{Depth, Tree, Forest, param, bound, region, term, node, binder, none, also}
use Rattle.tt_kinds.specs.Scan.{scan}
use Rattle.tt_kinds.specs.declared.error_guaranteed.ErrorGuaranteed.{ErrorGuaranteed}
use Rattle.tt_visit.specs.Root.{error_of}
use Rattle.tt_visit.specs.Visit.{Visits}
use Rattle.tt_visit.specs.HasTypeFlags.{Misses}
use Rattle.tt_visit.specs.declared.visitor.Next.TheVariants.{Skip, Descend}

-- the token of a region's error, if it has one
abbrev pub error_of_region : FreeRegion Name → Option ℕ
error_of_region (error_region e) = Some e
error_of_region _ = None

abbrev mutual
  -- the first token of an error in the tree: a node's own comes before its children's
  pub first_error : Tree Depth → Option ℕ
  first_error (param s i name) = None
  first_error (bound s d e) = None
  first_error (region r) = error_of_region r
  first_error (term l ts) = option_or (error_of l) (first_error_among ts)
  first_error (node l ts) = option_or (error_of l) (first_error_among ts)
  first_error (binder vs t) = first_error t

  -- the first token of an error in trees in order
  pub first_error_among : Forest Depth → Option ℕ
  first_error_among none = None
  first_error_among (also t ts) = option_or (first_error t) (first_error_among ts)

-- a token breaks the visit, and only terms without an error flag are skipped
abbrev pub error_hooks : Visits ⊤ ErrorGuaranteed
error_hooks = record {
  on_region = λ s t s'. first_error t ≡ None;
  region_breaks = λ s t b s'. first_error t ≡ Some b.0;
  on_error = λ s e s'. ⊥;
  error_breaks = λ s e b s'. e ≡ b.0;
  on_term = λ s t next s'. next ≡ Skip → Misses has_error (scan t);
  term_breaks = λ s t b s'. ⊥;
  enter = λ s vs next s'. next ≡ Descend;
  enter_breaks = λ s vs b s'. ⊥;
  leave = λ s vs s'. ⊤;
}
