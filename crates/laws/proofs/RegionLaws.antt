-- Folds of regions by closures that return each region as it is, and by folders.
use Rattle.std.proofs.Common.{◌≡◌, ℕ, List, [], ◌∷◌, refl, ap, subst, ◌∙◌}
use Rattle.std.specs.Prelude.{Result, Ok, Err, IfOk, MatchResult, map}
use Rattle.tt_index.specs.declared.refusal.Refusal.{Refusal}
use Rattle.tt_kinds.specs.Label.{Name}
use Rattle.tt_kinds.specs.Laws.{MetPlacedAgain}
use Rattle.tt_kinds.specs.Met.{Met, placed}
use Rattle.tt_kinds.specs.Tree.{Depth, Tree}
use Rattle.tt_kinds.specs.declared.region_kind.RegionKind.{RegionKind}
use Rattle.tt_interner.specs.Stored.{Counters}
use Rattle.tt_fold.specs.Counts.{Standing, keeps_counters}
use Rattle.tt_fold.specs.RegionFolder.{RegionCall, AreMade, Places, answered, asked, region_tree}
use Rattle.tt_fold.specs.RegionFolder.{Asking, RegionFoldersPlace, region_hooks}
use Rattle.tt_fold.specs.Walk.{Walks}

module _ {F : Type 0} (step : F → RegionKind → ℕ → RegionKind → F → Type 0) (names : ℕ → Name)
    (itself : (p : F) (r : RegionKind) (k : ℕ) (a : RegionKind) (q : F) → step p r k a q → a ≡ r) where
  -- the answers are the regions that were asked
  answered-itself : (calls : List RegionCall) (f last : F) → AreMade step f calls last → answered names calls ≡ map (λ m. m.standing) (asked names calls)
  answered-itself [] f last made = refl
  answered-itself (c ∷ calls) f last made =
      let first = ap (region_tree names) (itself f c.region c.depth c.answer made.0 made.1) in
      let rest = answered-itself calls made.0 last made.2 in
      λ i. first i ∷ rest i

  -- a fold by a closure that answers the region itself keeps the tree, by the law
  pub keeps-tree : {T : Type 0} → MetPlacedAgain → (result : Result T Refusal) (f last : F) (t : Tree Depth) (u : T → Tree Depth)
      → IfOk result (λ r. Places step names f t (u r) last) → IfOk result (λ r. u r ≡ t)
  keeps-tree law (Ok r) f last t u h =
      h.are_placed ∙ ap (placed 0 t) (answered-itself h.calls f last h.made ∙ ap (map (λ (m : Met). m.standing)) h.are_met) ∙ law 0 t
  keeps-tree law (Err e) f last t u h = tt

module _ {F : Type 0} (step : F → RegionKind → ℕ → RegionKind → F → Type 0) (names : ℕ → Name) (counters : Counters) where
  -- the state of a folder of regions, with the counts
  abbrev from : F → ℕ → Standing (Asking F)
  from g k = record { state = record { closure = g; under = k; names = names }; counters = counters }

  -- a walk of a new folder of regions places the answers of its closure, by the law
  pub folder-places : {T : Type 0} → RegionFoldersPlace step → (result : Result T Refusal) (f g : F) (k : ℕ) (t : Tree Depth) (u : T → Tree Depth) (s' : Standing (Asking F))
      (owns : T → Type 0) (fails : Refusal → Type 0) → g ≡ f → k ≡ 0
      → MatchResult result (λ r. owns r × Walks (keeps_counters (region_hooks step)) (from g k) t (u r) s') fails
      → IfOk result (λ r. (last : F) × Places step names f t (u r) last)
  folder-places law (Ok r) f g k t u s' owns fails is_f is_0 h = (
    s'.state.closure,
    law names f counters t (u r) s'
        (subst (λ m. Walks (keeps_counters (region_hooks step)) (from f m) t (u r) s') is_0 (subst (λ q. Walks (keeps_counters (region_hooks step)) (from q k) t (u r) s') is_f h.1)),
  )
  folder-places law (Err e) f g k t u s' owns fails is_f is_0 h = tt
