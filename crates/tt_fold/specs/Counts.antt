-- The interner's counts together with a folder's state.
use Rattle.std.specs.Prelude.{◌≡◌, List}
use Rattle.tt_interner.specs.Rows.{Row}
use Rattle.tt_interner.specs.Stored.{Counters, Terms}
use Rattle.tt_fold.specs.Walk.{Hooks}

-- the meaning of a folder's state, and the interner's counts
pub record Standing (M : Type 0) : Type 0 where
  pub state : M
  pub counters : Counters

-- the meaning of the folder's state in the interner, with the interner's counts
abbrev pub stands : {M S : Type 0} → (List Row → S → M) → Terms → S → Standing M
stands means terms s = record { state = means terms.rows s; counters = terms.counters }

-- the relation holds of the states, and the counts stay
abbrev pub Quietly : {M : Type 0} → (M → M → Type 0) → Standing M → Standing M → Type 0
Quietly R s s' = R s.state s'.state × (s'.counters ≡ s.counters)

-- the hooks of a folder that leaves the counts as they are
abbrev pub keeps_counters : {M E : Type 0} → Hooks M E → Hooks (Standing M) E
keeps_counters H = record {
  on_region = λ s t r s'. Quietly (λ m m'. H.on_region m t r m') s s';
  region_fails = λ unbuilt s t e s'. Quietly (λ m m'. H.region_fails unbuilt m t e m') s s';
  on_term = λ s t a s'. Quietly (λ m m'. H.on_term m t a m') s s';
  term_fails = λ unbuilt s t e s'. Quietly (λ m m'. H.term_fails unbuilt m t e m') s s';
  after_term = λ s t u r s'. Quietly (λ m m'. H.after_term m t u r m') s s';
  after_fails = λ unbuilt s t u e s'. Quietly (λ m m'. H.after_fails unbuilt m t u e m') s s';
  enter = λ s vs s'. Quietly (λ m m'. H.enter m vs m') s s';
  enter_fails = λ unbuilt s vs e s'. Quietly (λ m m'. H.enter_fails unbuilt m vs e m') s s';
  leave = λ s vs s'. Quietly (λ m m'. H.leave m vs m') s s';
  leave_fails = λ unbuilt s vs e s'. Quietly (λ m m'. H.leave_fails unbuilt m vs e m') s s';
}
