-- What a caller of `fold_regions` and `fold_regions_with` shows of its closure, and what it learns of the calls.
use Rattle.std.proofs.Common.{◌≡◌, ℕ, List, [], ◌∷◌, ◌++◌, append-nil, append_assoc, refl, subst}
use Rattle.tt_kinds.specs.declared.region_kind.RegionKind.{RegionKind}
use Rattle.tt_fold.specs.RegionFolder.{HasName, RegionCall, AreMade, AnswersEach, AnswersRegions}

-- A closure answers regions of the interner where an invariant says so that holds of it, and that each call keeps.
module _ {F : Type 0} (step : F → RegionKind → ℕ → RegionKind → F → Type 0) (symbols : ℕ) (I : F → Type 0)
    (keeps : (f : F) (r : RegionKind) (k : ℕ) (a : RegionKind) (g : F) → I f → HasName symbols r → step f r k a g → HasName symbols a × I g) where
  each_by : (calls : List (RegionKind × ℕ)) (f : F) → I f → AnswersEach step symbols f calls
  each_by [] f i = tt
  each_by (c ∷ calls) f i = λ named a g s. let next = keeps f c.0 c.1 a g i named s in (next.0, each_by calls g next.1)

  pub answers_by : (f : F) → I f → AnswersRegions step symbols f
  answers_by f i = record { at = λ calls. each_by calls f i }

module _ {F : Type 0} (step : F → RegionKind → ℕ → RegionKind → F → Type 0) (symbols : ℕ) (f : F) where
  -- so does one whose answer has a name wherever the region has one, whatever state it is in
  pub answers_always : ((p : F) (r : RegionKind) (k : ℕ) (a : RegionKind) (q : F) → HasName symbols r → step p r k a q → HasName symbols a) → AnswersRegions step symbols f
  answers_always always = answers_by step symbols (λ p. Unit {0}) (λ p r k a q i named s. (always p r k a q named s, tt)) f tt

  -- and one that a call leaves as it was, if its answers have names
  pub answers_unchanged : ((r : RegionKind) (k : ℕ) (a : RegionKind) (q : F) → HasName symbols r → step f r k a q → HasName symbols a × (q ≡ f)) → AnswersRegions step symbols f
  answers_unchanged answers =
      answers_by step symbols (λ p. p ≡ f) (λ p r k a q is named s. answers r k a q named (subst (λ p'. step p' r k a q) is s)) f refl

-- what shows it of most closures: `#[tactic(auto, using(tt_fold::proofs::RegionAnswers::region_answers))]`
pub ruleset region_answers = (answers_always, answers_unchanged)

-- What holds before the calls, and of the calls with one more wherever it holds of the ones before, holds of all that
-- were made.
module _ {F : Type 0} (step : F → RegionKind → ℕ → RegionKind → F → Type 0) (I : List RegionCall → F → Type 0)
    (next : (before : List RegionCall) (c : RegionCall) (p q : F) → I before p → step p c.region c.depth c.answer q → I (before ++ (c ∷ [])) q) where
  after_more : (before calls : List RegionCall) (p q : F) → I before p → AreMade step p calls q → I (before ++ calls) q
  after_more before [] p q i made = subst (I (before ++ [])) made (rw (append-nil before) i)
  after_more before (c ∷ calls) p q i made =
      subst (λ all. I all q) (append_assoc before (c ∷ []) calls) (after_more (before ++ (c ∷ [])) calls made.0 q (next before c p made.0 i made.1) made.2)

  -- what holds before the calls and is kept by each of them holds after all that were made
  pub after_calls : (calls : List RegionCall) (p q : F) → I [] p → AreMade step p calls q → I calls q
  after_calls calls p q i made = after_more [] calls p q i made
