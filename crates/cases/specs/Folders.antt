-- The hooks of the folders of routines.
use Rattle.std.specs.Prelude.{⊤}
use Rattle.tt_fold.specs.Walk.{Hooks}

-- the hooks without a promise
abbrev pub no_promise : {M E : Type 0} → Hooks M E
no_promise = record {
  on_region = λ s t r s'. ⊤;
  region_fails = λ unbuilt s t e s'. ⊤;
  on_term = λ s t a s'. ⊤;
  term_fails = λ unbuilt s t e s'. ⊤;
  after_term = λ s t u r s'. ⊤;
  after_fails = λ unbuilt s t u e s'. ⊤;
  enter = λ s vs s'. ⊤;
  enter_fails = λ unbuilt s vs e s'. ⊤;
  leave = λ s vs s'. ⊤;
  leave_fails = λ unbuilt s vs e s'. ⊤;
}
