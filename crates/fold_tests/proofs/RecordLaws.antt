-- What a closure recorded that notes each of its calls, after a fold of regions.
use Rattle.std.proofs.Common.{◌≡◌, ℕ, List, [], ◌∷◌, ◌++◌, Bool, false, Result, Ok, Err, IfOk, IfErr, append-nil}
use Rattle.std.proofs.Common.{append_assoc, refl, sym, ap, ◌∙◌}
use Rattle.std.specs.Prelude.{map}
use Rattle.std.proofs.lemmas.List.{map-append}
use Rattle.tt_index.specs.declared.refusal.Refusal.{Refusal}
use Rattle.tt_kinds.specs.Label.{Name}
use Rattle.tt_kinds.specs.Tree.{Depth, Tree}
use Rattle.tt_kinds.specs.Met.{Met, met}
use Rattle.tt_kinds.specs.declared.region_kind.RegionKind.{RegionKind}
use Rattle.tt_interner.specs.Stored.{Terms}
use Rattle.tt_fold.specs.RegionFolder.{RegionCall, AreMade, Places, PlacesSome, asked, region_tree}
use Rattle.tt_fold.proofs.RegionAnswers.{after_calls}

-- A closure's state has a log behind a reference of this name; a call puts its entry at the end, or the log is lost.
module _ {F X : Type 0} (step : F → RegionKind → ℕ → RegionKind → F → Type 0) (name : F → ℕ) (log : F → List X) (lost : F → Bool) (entry : RegionKind → ℕ → X)
    (notes : (p : F) (r : RegionKind) (k : ℕ) (a : RegionKind) (q : F) → step p r k a q
    → (name q ≡ name p) × (lost q ≡ false → (lost p ≡ false) × (log q ≡ log p ++ (entry r k ∷ [])))) where
  abbrev entries : List RegionCall → List X
  entries calls = map (λ c. entry c.region c.depth) calls

  abbrev Noted : F → List RegionCall → F → Type 0
  Noted f calls p = (name p ≡ name f) × (lost p ≡ false → log p ≡ log f ++ entries calls)

  noted : (f : F) (calls : List RegionCall) (q : F) → AreMade step f calls q → Noted f calls q
  noted f calls q made =
      after_calls step (Noted f)
      (λ before c p s i e.
      let n = notes p c.region c.depth c.answer s e in (
        n.0 ∙ i.0,
        λ whole.
            let m = n.1 whole in
            m.1 ∙ ap (λ xs. xs ++ (entry c.region c.depth ∷ [])) (i.1 m.0) ∙ append_assoc (log f) (entries before) _
            ∙ ap (λ xs. log f ++ xs) (sym (map-append _ before (c ∷ []))),
      ))
      calls f q (refl, λ whole. sym (append-nil (log f))) made

  module _ (names : ℕ → Name) (seen : X → Met) (is_seen : (r : RegionKind) (k : ℕ) → seen (entry r k) ≡ record { standing = region_tree names r; under = k }) where
    entries-asked : (calls : List RegionCall) → map seen (entries calls) ≡ asked names calls
    entries-asked [] = refl
    entries-asked (c ∷ calls) = let first = is_seen c.region c.depth in let rest = entries-asked calls in λ i. first i ∷ rest i

    -- after a fold of a value with this tree the log has its old entries and exactly the regions met, in order
    pub fold-noted : {T : Type 0} (f q : F) (t : Tree Depth) (terms : Terms) (u : T → Tree Depth) (result : Result T Refusal)
        → IfOk result (λ y. Places step names f t (u y) q) → IfErr result (λ e. PlacesSome step names terms f t e q)
        → (name q ≡ name f) × IfOk result (λ y. lost q ≡ false → map seen (log q) ≡ map seen (log f) ++ met 0 t)
    fold-noted f q t terms u (Ok y) h refused =
        let n = noted f h.calls q h.made in (
          n.0,
          λ whole.
              ap (map seen) (n.1 whole) ∙ map-append seen (log f) (entries h.calls) ∙ ap (λ xs. map seen (log f) ++ xs) (entries-asked h.calls ∙ h.are_met),
        )
    fold-noted f q t terms u (Err e) placed h = ((noted f h.calls q h.made).0, tt)
