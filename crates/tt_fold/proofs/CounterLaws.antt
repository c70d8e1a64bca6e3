-- A folder that never counts walks as if there were no counts, and leaves them.
use Rattle.std.proofs.Common.{◌≡◌, List, Result, Ok, Err, MatchResult, refl, ◌∙◌}
use Rattle.std.proofs.lemmas.Result.{MatchResult-weaker}
use Rattle.tt_kinds.specs.Tree.{Depth, Tree, Forest}
use Rattle.tt_interner.specs.Rows.{Row}
use Rattle.tt_interner.specs.Stored.{Terms}
use Rattle.tt_fold.specs.Walk.{Hooks, Errors, Walks, Descends, WalksInside, WalksAll, at_region, replaced, kept}
use Rattle.tt_fold.specs.Walk.{descended, passed, rebuilt, at_node, at_binder, in_term, in_param, in_bound, done, next}
use Rattle.tt_fold.specs.Walk.{Fails, DescentFails, InsideFails, FailsAll, region_failed, term_failed, descent_failed}
use Rattle.tt_fold.specs.Walk.{enter_failed, under_failed, leave_failed, node_failed, node_not_built, clause_lost}
use Rattle.tt_fold.specs.Walk.{passed_failed, inside_failed, not_built, after_failed, in_term_failed, stopped, here}
use Rattle.tt_fold.specs.Walk.{later, no_clause, Wanted}
use Rattle.tt_fold.specs.Counts.{Standing, Quietly, keeps_counters}
use Rattle.tt_fold.specs.Steps.{Folds}

module _ {M E : Type 0} (H : Hooks M E) where
  mutual
    -- a folder that never counts walks as it does without counts, and the counts stay
    pub walks-quietly : {s s' : Standing M} {t r : Tree Depth} → Walks (keeps_counters H) s t r s' → Quietly (λ m m'. Walks H m t r m') s s'
    walks-quietly (at_region is h) = (at_region is h.0, h.1)
    walks-quietly (replaced is h) = (replaced is h.0, h.1)
    walks-quietly (kept is h) = (kept is h.0, h.1)
    walks-quietly (descended is h d) = let p = descends-quietly d in (descended is h.0 p.0, p.1 ∙ h.1)
    walks-quietly (passed is w) = let p = inside-quietly w in (passed is p.0, p.1)
    walks-quietly (at_node w fit) = let p = all-quietly w in (at_node p.0 fit, p.1)
    walks-quietly (at_binder enter w leave) = let p = walks-quietly w in (at_binder enter.0 p.0 leave.0, leave.1 ∙ p.1 ∙ enter.1)

    descends-quietly : {s s' : Standing M} {t r : Tree Depth} → Descends (keeps_counters H) s t r s' → Quietly (λ m m'. Descends H m t r m') s s'
    descends-quietly (rebuilt w h) = let p = inside-quietly w in (rebuilt p.0 h.0, h.1 ∙ p.1)

    pub inside-quietly : {s s' : Standing M} {t r : Tree Depth} → WalksInside (keeps_counters H) s t r s' → Quietly (λ m m'. WalksInside H m t r m') s s'
    inside-quietly (in_term w fit) = let p = all-quietly w in (in_term p.0 fit, p.1)
    inside-quietly in_param = (in_param, refl)
    inside-quietly in_bound = (in_bound, refl)

    pub all-quietly : {s s' : Standing M} {ts us : Forest Depth} → WalksAll (keeps_counters H) s ts us s' → Quietly (λ m m'. WalksAll H m ts us m') s s'
    all-quietly done = (done, refl)
    all-quietly (next w more) = let p = walks-quietly w in let q = all-quietly more in (next p.0 q.0, q.1 ∙ p.1)

module _ {M E : Type 0} (H : Hooks M E) (errors : Errors E) where
  mutual
    -- a folder that never counts fails as it does without counts, and the counts stay
    pub fails-quietly : {s s' : Standing M} {t : Tree Depth} {e : E} → Fails (keeps_counters H) errors s t e s' → Quietly (λ m m'. Fails H errors m t e m') s s'
    fails-quietly (region_failed is h) = (region_failed is h.0, h.1)
    fails-quietly (term_failed is h) = (term_failed is h.0, h.1)
    fails-quietly (descent_failed is h d) = let p = descent_fails-quietly d in (descent_failed is h.0 p.0, p.1 ∙ h.1)
    fails-quietly (passed_failed is d) = let p = inside_fails-quietly d in (passed_failed is p.0, p.1)
    fails-quietly (enter_failed h) = (enter_failed h.0, h.1)
    fails-quietly (under_failed h d) = let p = fails-quietly d in (under_failed h.0 p.0, p.1 ∙ h.1)
    fails-quietly (leave_failed h w l) = let p = walks-quietly H w in (leave_failed h.0 p.0 l.0, l.1 ∙ p.1 ∙ h.1)
    fails-quietly (node_failed d) = let p = fails_all-quietly d in (node_failed p.0, p.1)
    fails-quietly (node_not_built w u) = let p = all-quietly H w in (node_not_built p.0 u, p.1)
    fails-quietly (clause_lost w lost b) = let p = all-quietly H w in (clause_lost p.0 lost b, p.1)

    descent_fails-quietly : {s s' : Standing M} {t : Tree Depth} {e : E} → DescentFails (keeps_counters H) errors s t e s' → Quietly (λ m m'. DescentFails H errors m t e m') s s'
    descent_fails-quietly (inside_failed d) = let p = inside_fails-quietly d in (inside_failed p.0, p.1)
    descent_fails-quietly (after_failed w h) = let p = inside-quietly H w in (after_failed p.0 h.0, h.1 ∙ p.1)

    inside_fails-quietly : {s s' : Standing M} {t : Tree Depth} {e : E} → InsideFails (keeps_counters H) errors s t e s' → Quietly (λ m m'. InsideFails H errors m t e m') s s'
    inside_fails-quietly (in_term_failed d) = let p = fails_all-quietly d in (in_term_failed p.0, p.1)
    inside_fails-quietly (not_built w u) = let p = inside-quietly H w in (not_built p.0 u, p.1)

    fails_all-quietly : {w : Wanted} {s s' : Standing M} {ts : Forest Depth} {e : E} → FailsAll (keeps_counters H) errors w s ts e s' → Quietly (λ m m'. FailsAll H errors w m ts e m') s s'
    fails_all-quietly (stopped u) = (stopped u, refl)
    fails_all-quietly (here d) = let p = fails-quietly d in (here p.0, p.1)
    fails_all-quietly (no_clause w bad b) = let p = walks-quietly H w in (no_clause p.0 bad b, p.1)
    fails_all-quietly (later w fit d) = let p = walks-quietly H w in let q = fails_all-quietly d in (later p.0 fit q.0, q.1 ∙ p.1)

either_way : {T E C : Type 0} (r : Result T E) → MatchResult r (λ _. C) (λ _. C) → C
either_way (Ok y) h = h
either_way (Err e) h = h

-- a fold by such a folder leaves the counts, whatever comes of it
pub fold-keeps_counters : {M E S T : Type 0} (owned : List Row → S → Type 0) (means : List Row → S → M) (owns : List Row → T → Type 0) (tree : List Row → T → Tree Depth)
    (H : Hooks M E) (errors : Errors E) (terms terms' : Terms) (s s' : S) (x : T) (r : Result T E)
    → Folds owned means owns tree (Walks (keeps_counters H)) (Fails (keeps_counters H) errors) terms s x r terms' s'
    → terms'.counters ≡ terms.counters
fold-keeps_counters owned means owns tree H errors terms terms' s s' x r d =
    either_way r (MatchResult-weaker r d.outcome (λ y h. (walks-quietly H h.1).1) (λ e h. (fails-quietly H errors h).1))
