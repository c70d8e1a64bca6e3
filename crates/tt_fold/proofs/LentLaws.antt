-- What the calls of a closure show of the closure that each of them calls once, behind a reference.
use Rattle.std.proofs.Common.{◌≡◌, ℕ, List, [], ◌∷◌, Result, Ok, Err, IfOk, IfErr, ap, sym, subst, ◌∙◌}
use Rattle.tt_index.specs.declared.refusal.Refusal.{Refusal}
use Rattle.tt_kinds.specs.Shape.{Shape}
use Rattle.tt_kinds.specs.declared.region_kind.RegionKind.{RegionKind}
use Rattle.tt_interner.specs.Stored.{Terms}
use Rattle.tt_fold.specs.Steps.{tree_by}
use Rattle.tt_fold.specs.RegionFolder.{RegionCall, names_in, AreMade, AnswersEach, AnswersRegions, Places, PlacesSome}
use Rattle.tt_fold.proofs.RegionFolderSteps.{IsFolded}

-- what a fold with a closure shows of the one that it calls: some calls took that one to its end, behind the same
-- reference
pub record IsPassed {F G T : Type 0} (step : F → RegionKind → ℕ → RegionKind → F → Type 0) (inner : G → F) (name : G → ℕ) (shape : T → Shape) (p : G) (terms : Terms) (x : T) (result : Result T Refusal) (terms' : Terms) (q : G) : Type 0 where
  pub folded : IsFolded step shape (inner p) terms x result terms' (inner q)
  pub calls : List RegionCall
  pub made : AreMade step (inner p) calls (inner q)
  pub same_name : name q ≡ name p

-- The outer closure's state has the inner one behind a reference of this name, and each call calls the inner one once.
module _ {F G : Type 0} (step : F → RegionKind → ℕ → RegionKind → F → Type 0) (outer : G → RegionKind → ℕ → RegionKind → G → Type 0)
    (inner : G → F) (name : G → ℕ)
    (passes : (p : G) (r : RegionKind) (k : ℕ) (a : RegionKind) (q : G) → outer p r k a q → step (inner p) r k a (inner q) × (name q ≡ name p)) where
  each_passed : (symbols : ℕ) (calls : List (RegionKind × ℕ)) (p : G) → AnswersEach step symbols (inner p) calls → AnswersEach outer symbols p calls
  each_passed symbols [] p h = tt
  each_passed symbols (c ∷ calls) p h = λ named a q e.
      let one = h named a (inner q) (passes p c.0 c.1 a q e).0 in (one.0, each_passed symbols calls q one.1)

  -- the outer closure answers regions where the inner one does
  pub answers-passed : (symbols : ℕ) (p : G) → AnswersRegions step symbols (inner p) → AnswersRegions outer symbols p
  answers-passed symbols p h = record { at = λ calls. each_passed symbols calls p (h.at calls) }

  made-passed : (calls : List RegionCall) (p q : G) → AreMade outer p calls q → AreMade step (inner p) calls (inner q) × (name q ≡ name p)
  made-passed [] p q made = (ap inner made, ap name (sym made))
  made-passed (c ∷ calls) p q made =
      let one = passes p c.region c.depth c.answer made.0 made.1 in
      let rest = made-passed calls made.0 q made.2 in
      ((inner made.0, one.0, rest.0), rest.1 ∙ one.1)

  passed : {T : Type 0} (shape : T → Shape) (p q : G) (terms terms' : Terms) (x : T) (result : Result T Refusal) → IsFolded outer shape p terms x result terms' q
      → IsPassed step inner name shape p terms x result terms' q
  passed shape p q terms terms' x (Ok y) h =
      let m = made-passed h.placed.calls p q h.placed.made in
      record {
        folded = record { placed = record { calls = h.placed.calls; made = m.0; are_met = h.placed.are_met; are_placed = h.placed.are_placed }; err = tt };
        calls = h.placed.calls;
        made = m.0;
        same_name = m.1;
      }
  passed shape p q terms terms' x (Err e) h =
      let m = made-passed h.err.calls p q h.err.made in
      record {
        folded = record { placed = tt; err = record { calls = h.err.calls; rest = h.err.rest; made = m.0; are_first = h.err.are_first; refused = h.err.refused } };
        calls = h.err.calls;
        made = m.0;
        same_name = m.1;
      }

  -- what a fold with the outer closure shows of the inner one
  pub fold-passed : {T : Type 0} (shape : T → Shape) (p start q : G) (terms terms' : Terms) (x : T) (result : Result T Refusal) → p ≡ start
      → IsFolded outer shape p terms x result terms' q → IsPassed step inner name shape start terms x result terms' q
  fold-passed shape p start q terms terms' x result is h = subst (λ s. IsPassed step inner name shape s terms x result terms' q) is (passed shape p q terms terms' x result h)

-- what is promised of the state that the calls left is promised of some state
pub some-last : {F T : Type 0} (step : F → RegionKind → ℕ → RegionKind → F → Type 0) (shape : T → Shape) (f : F) (terms : Terms) (x : T) (result : Result T Refusal) (terms' : Terms) (last : F)
    → IsFolded step shape f terms x result terms' last
    → IfOk result (λ y. (g : F) × Places step (names_in terms.rows) f (tree_by shape terms.rows x) (tree_by shape terms'.rows y) g)
    × IfErr result (λ e. (g : F) × PlacesSome step (names_in terms.rows) terms' f (tree_by shape terms.rows x) e g)
some-last step shape f terms x (Ok y) terms' last h = ((last, h.placed), tt)
some-last step shape f terms x (Err e) terms' last h = (tt, (last, h.err))
