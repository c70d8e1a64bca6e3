-- The hooks of the visitor that looks for flags: its state is the mask.
use Rattle.std.specs.Prelude.{◌≡◌, ◌≢◌, ℕ, bit_and}
use Rattle.tt_flags.specs.TypeFlags.{has_error}
use Rattle.tt_kinds.specs.Label.{list_flags}
use Rattle.tt_kinds.specs.Scan.{scan}
use Rattle.tt_visit.specs.Visit.{Visits}
use Rattle.tt_visit.specs.declared.visitor.Next.TheVariants.{Skip, Descend}
use Rattle.tt_visit.specs.declared.has_type_flags.FoundFlags.{FoundFlags}

-- none of the flags is in the mask
abbrev pub Misses : ℕ → ℕ → Type 0
Misses mask flags = bit_and mask flags ≡ 0

-- one of the flags is in the mask
abbrev pub Meets : ℕ → ℕ → Type 0
Meets mask flags = bit_and mask flags ≢ 0

-- a value with a flag of the mask breaks the visit, and no term with a hook is entered
abbrev pub flag_hooks : Visits ℕ FoundFlags
flag_hooks = record {
  on_region = λ s t s'. (s' ≡ s) × Misses s (scan t);
  region_breaks = λ s t b s'. (s' ≡ s) × Meets s (scan t);
  on_error = λ s e s'. (s' ≡ s) × Misses s has_error;
  error_breaks = λ s e b s'. (s' ≡ s) × Meets s has_error;
  on_term = λ s t next s'. (s' ≡ s) × (next ≡ Skip) × Misses s (scan t);
  term_breaks = λ s t b s'. (s' ≡ s) × Meets s (scan t);
  enter = λ s vs next s'. (s' ≡ s) × (next ≡ Descend) × Misses s (list_flags vs);
  enter_breaks = λ s vs b s'. (s' ≡ s) × Meets s (list_flags vs);
  leave = λ s vs s'. s' ≡ s;
}
