-- The values that arguments leave as they are.
use Rattle.std.specs.Prelude.{◌≡◌, true, false, ⊤}
use Rattle.tt_kinds.specs.Tree.{Depth, Tree}
use Rattle.tt_kinds.specs.Param.{holds_param}
use Rattle.tt_kinds.specs.Cause.{IsUntouched}
use Rattle.tt_visit.specs.Visit.{Visits}
use Rattle.tt_visit.specs.declared.visitor.Next.{Next}
use Rattle.tt_visit.specs.declared.visitor.Next.TheVariants.{Skip, Descend}
use Rattle.tt_binder.specs.Instantiation.{IsTypeOrClause, IsInnerConst}

-- the visit skips a type, a predicate or a list of clauses without parameters, and enters a constant that is not a
-- parameter
pub data Passes : Tree Depth → Next → Type 0 where
  passed_by : {t : Tree Depth} → IsTypeOrClause t → holds_param t ≡ false → Passes t Skip
  entered : {t : Tree Depth} → IsInnerConst t → Passes t Descend

-- the visitor's hooks: the visit breaks at the first region or term that arguments don't leave as it is
abbrev pub untouched_visits : Visits (Unit {0}) (Unit {0})
untouched_visits = record {
  on_region = λ s t s'. IsUntouched t;
  region_breaks = λ s t b s'. IsUntouched t → ⊥;
  on_error = λ s e s'. ⊤;
  error_breaks = λ s e b s'. ⊥;
  on_term = λ s t next s'. Passes t next;
  term_breaks = λ s t b s'. holds_param t ≡ true;
  enter = λ s vs next s'. next ≡ Descend;
  enter_breaks = λ s vs b s'. ⊥;
  leave = λ s vs s'. ⊤;
}
