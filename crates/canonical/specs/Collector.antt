-- The hooks of the visitor that collects the variables of a value.
use Rattle.std.specs.Prelude.{◌≡◌, ℕ, List, true, false, ⊤}
use Rattle.tt_visit.specs.Types.{is_type_tree}
use Rattle.tt_visit.specs.Visit.{Visits}
use Rattle.tt_visit.specs.declared.visitor.Next.TheVariants.{Skip, Descend}
use Rattle.canonical.specs.Canonical.{collect}

-- a type's variables are collected, and its contents are skipped; all else is entered
abbrev pub collecting : {B : Type 0} → Visits (List ℕ) B
collecting = record {
  on_region = λ s t s'. s' ≡ s;
  region_breaks = λ s t b s'. ⊤;
  on_error = λ s e s'. s' ≡ s;
  error_breaks = λ s e b s'. ⊤;
  on_term = λ s t next s'. (is_type_tree t ≡ true → (next ≡ Skip) × (s' ≡ collect t s))
      × (is_type_tree t ≡ false → (next ≡ Descend) × (s' ≡ s));
  term_breaks = λ s t b s'. ⊤;
  enter = λ s vs next s'. (next ≡ Descend) × (s' ≡ s);
  enter_breaks = λ s vs b s'. ⊤;
  leave = λ s vs s'. s' ≡ s;
}
