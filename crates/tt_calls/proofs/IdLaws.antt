-- The ids that calls name, over plain variables.
use Rattle.std.proofs.Common.{◌≡◌, ◌<◌, ◌++◌, ℕ, zero, suc, List, [], ◌∷◌, length, Bool, true, false}
use Rattle.std.proofs.Common.{Option, Some, None, Result, Ok, Err, refl, ◌∙◌, arith}
use Rattle.std.specs.Prelude.{IfOk, IfErr, MatchOption}
use Rattle.std.specs.Option.{is_some}
use Rattle.std.specs.Result.{is_ok}
use Rattle.std.specs.Bool.{MatchBool}
use Rattle.std.specs.List.{All, AllWithin, HoldsAt}
use Rattle.tt_index.specs.declared.refusal.Refusal.{Refusal}
use Rattle.tt_kinds.specs.declared.declaration.DeclarationSort.{DeclarationSort}
use Rattle.tt_kinds.specs.declared.id.DefId.{DefId}
use Rattle.tt_interner.specs.Rows.{Row}
use Rattle.tt_calls.specs.declared.answer.Answer.{Answer}
use Rattle.tt_calls.specs.declared.answer.Answer.TheVariants as answer
use Rattle.tt_calls.specs.declared.call.Call.{Call}
use Rattle.tt_calls.specs.declared.call.Call.TheVariants as call
use Rattle.tt_calls.specs.CallForm.{Named, all_positions, an_id, any_id, args_ids, ty_ids, const_ids, predicate_ids}
use Rattle.tt_calls.specs.CallForm.{declared_ids, declared_positions, arg_items, args_part, ty_call_form}
use Rattle.tt_calls.specs.CallForm.{const_call_form, predicate_call_form, form_positions, items_positions}
use Rattle.tt_calls.specs.CallForm.{part_positions}
use Rattle.tt_calls.specs.Told.{Told, told, told_all}
use Rattle.tt_calls.specs.Means.{as_id, id_at, number_at, id_positions, AreTerms, NamesTerms}
use Rattle.tt_calls.specs.Build.{IsAnswerAt, IsIdAt, HasNoId, TellsIds}
use Rattle.tt_calls.proofs.PartLaws.{AreTerms-append, AreTerms-first, AreTerms-second}

-- the answer is no id
no-id : (a : Answer) → ((s : DeclarationSort) (d : DefId) → a ≡ answer.Id s d → ⊥) → (rows : List Row) → as_id (Some (told rows a)) ≡ None
no-id (answer.Id s d) f rows = absurd (f s d refl)
no-id _ f rows = refl

-- there is no id at a position whose answer is no id
pub no-id-at : (earlier : List Answer) (p : ℕ) (a : Answer) → IsAnswerAt earlier p a → ((s : DeclarationSort) (d : DefId) → a ≡ answer.Id s d → ⊥)
    → (rows : List Row) → id_at (told_all rows earlier) p ≡ None
no-id-at earlier p a at f rows = at.is_id rows ∙ no-id a f rows

-- what is at a position that has to tell an id of the sort, or of any
module _ (earlier : List Answer) (p : ℕ) where
  -- a position tells an id of the sort if the look-up of such an id succeeds
  pub sort-told : (s : DeclarationSort) (r : Result DefId Refusal) → IfOk r (λ d. IsIdAt earlier p s d.number) → IfErr r (λ e. HasNoId earlier p s) → TellsIds earlier (an_id s p) (is_ok r)
  sort-told s (Ok d) h k = record { tells = λ rows. rw (h rows) (λ t. (refl, tt), λ a. refl) }
  sort-told s (Err e) h k = record { tells = λ rows. (λ t. absurd (cc), λ a. absurd (k rows a.0)) }

  -- a position tells an id if the look-up of an id of any sort succeeds
  pub any-told : (r : Option (DeclarationSort × DefId)) → MatchOption r ((rows : List Row) → id_at (told_all rows earlier) p ≡ None) (λ d. IsIdAt earlier p d.0 d.1.number)
      → TellsIds earlier (any_id p) (is_some r)
  any-told (Some d) h = record { tells = λ rows. rw (h rows) (λ t. (tt, tt), λ a. refl) }
  any-told None h = record { tells = λ rows. rw (h rows) (λ t. absurd (cc), λ a. absurd a.0) }

-- what is at the positions of two lists
module _ (earlier : List Answer) (ms ns : List Named) where
  -- if the first positions tell what is wanted, a test of the other ones is right for all of them
  pub both-told : (a b : Bool) → a ≡ true → TellsIds earlier ms a → TellsIds earlier ns b → TellsIds earlier (ms ++ ns) b
  both-told a b t h k = record {
    tells = λ rows.
        let e = told_all rows earlier in
        (λ u. AreTerms-append e ms ns ((h.tells rows).0 t) ((k.tells rows).0 u), λ w. (k.tells rows).1 (AreTerms-second e ms ns w));
  }

  -- a test of the first positions that is false is right for all of them
  pub first-untold : (a : Bool) → a ≡ false → TellsIds earlier ms a → TellsIds earlier (ms ++ ns) a
  first-untold a f h = record { tells = λ rows. (λ t. absurd (cc), λ w. (h.tells rows).1 (AreTerms-first (told_all rows earlier) ms ns w)) }

  -- a test of the other positions that is false is right for all of them
  second-untold : TellsIds earlier ns false → TellsIds earlier (ms ++ ns) false
  second-untold h = record { tells = λ rows. (λ t. absurd (cc), λ a. (h.tells rows).1 (AreTerms-second (told_all rows earlier) ms ns a)) }

-- what is at the positions that the items of a list name
module _ {X : Type 0} (names : X → List Named) (earlier : List Answer) where
  each-told : (xs : List X) → All (λ x. TellsIds earlier (names x) true) xs → TellsIds earlier (all_positions names xs) true
  each-told [] h = record { tells = λ rows. (λ t. tt, λ a. refl) }
  each-told (x ∷ xs) h =
      both-told earlier (names x) (all_positions names xs) true true refl (h 0 x (omega arith)) (each-told xs (λ k d l. h (suc k) d (omega (arith, l))))

  one-untold : (xs : List X) (k : ℕ) → k < length xs → HoldsAt (λ x. TellsIds earlier (names x) false) xs k → TellsIds earlier (all_positions names xs) false
  one-untold [] k l h = absurd (omega (arith, l))
  one-untold (x ∷ xs) zero l h = first-untold earlier (names x) (all_positions names xs) false refl (h x)
  one-untold (x ∷ xs) (suc k) l h = second-untold earlier (names x) (all_positions names xs) (one-untold xs k (omega (arith, l)) h)

  -- a test of each item is right for all of them
  pub all-told : (xs : List X) (b : Bool)
      → MatchBool b (AllWithin (λ x. TellsIds earlier (names x) true) xs 0 (length xs)) ((k : ℕ) × (k < length xs) × HoldsAt (λ x. TellsIds earlier (names x) false) xs k)
      → TellsIds earlier (all_positions names xs) b
  all-told xs true h = each-told xs (λ k d l. h k d (omega arith) l)
  all-told xs false h = one-untold xs h.0 h.1 h.2

-- the ids are among what the call names
pub ids-named : (e : List Told) (c : Call) → NamesTerms e c → AreTerms e (id_positions c)
ids-named e (call.Ty k) h = AreTerms-first e (ty_ids k) (form_positions (ty_call_form (number_at e) k)) h
ids-named e (call.Const k) h = AreTerms-first e (const_ids k) (form_positions (const_call_form (number_at e) k)) h
ids-named e (call.Predicate k) h = AreTerms-first e (predicate_ids k) (form_positions (predicate_call_form (number_at e) k)) h
ids-named e (call.Args args) h = AreTerms-first e (args_ids args.items) (part_positions (args_part args.items)) h
ids-named e (call.Instantiate p args) h = AreTerms-first e (args_ids args.items) (items_positions (arg_items args.items)) h.1
ids-named e (call.Declare d) h = AreTerms-first e (declared_ids d.kind) (declared_positions d.kind) h
ids-named e _ h = tt
