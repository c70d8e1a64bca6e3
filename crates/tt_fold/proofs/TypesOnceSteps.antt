-- What a folder of types that remembers answers, and what it notes.
use Rattle.std.proofs.Common.{◌≡◌, ◌⊎◌, inl, inr, List, [], ◌∷◌, Result, Ok, Err, MatchResult, true, refl, sym}
use Rattle.std.proofs.Common.{ap, ◌∙◌}
use Rattle.std.proofs.lemmas.Bool.{cases_Bool, true≢false}
use Rattle.std.specs.Prelude.{⊤, IfErr, IfOk}
use Rattle.tt_index.specs.declared.refusal.Refusal.{Refusal}
use Rattle.tt_kinds.specs.Tree.{Depth, Tree}
use Rattle.tt_kinds.specs.Count.{TypeAt}
use Rattle.tt_kinds.specs.Kinds.{ty_shape}
use Rattle.tt_kinds.specs.Handle.{Ty, any_handle}
use Rattle.tt_kinds.specs.declared.handle.AnyHandle.{AnyHandle}
use Rattle.tt_kinds.specs.declared.table.TermTable.TheVariants as terms_of
use Rattle.indexmap.specs.IndexMap.{insert_entry}
use Rattle.tt_interner.specs.Rows.{Row}
use Rattle.tt_interner.specs.Stored.{Counters, Terms, Extends}
use Rattle.tt_visit.specs.Types.{is_type_tree}
use Rattle.tt_fold.specs.Walk.{Errors, Fails, Walks}
use Rattle.tt_fold.specs.Counts.{Standing, stands}
use Rattle.tt_fold.specs.Steps.{IsErrorOfUnbuilt, OwnsStep, answer_of, tree_in}
use Rattle.tt_fold.specs.Memory.{memo_at, memos, place_of, same_place, type_at, OwnsMemos}
use Rattle.tt_fold.specs.Places.{IsIn}
use Rattle.tt_fold.specs.Remember.{Memo, State, places}
use Rattle.tt_fold.specs.Parts.{handle_tree}
use Rattle.tt_fold.specs.Types.{TypeHooks, AnswersType}
use Rattle.tt_fold.specs.TypesOnce.{IsMeaning, answered, Noted, recalling, steadily, CallsOnce, FailsOnce}
use Rattle.tt_fold.specs.declared.folder.Step.{Step}
use Rattle.tt_fold.specs.declared.memory.Place.{Place}
use Rattle.tt_fold.proofs.MemoryLaws.{memos-still, noted_memos}
use Rattle.tt_fold.proofs.NoteLaws.{same-place}
use Rattle.tt_fold.proofs.PlaceLaws.{IsIn-append, IsIn-only}
use Rattle.tt_fold.proofs.TypesOnceLaws.{Stays, Recalls, does, fails}
use Rattle.tt_fold.proofs.TypesOnceCalls.{calls_once, fails_once}

-- what the state means of a folder that remembers these, with the interner's counts
abbrev pub recalls : {M : Type 0} → List Row → M → List (Place × Ty) → Counters → Standing (State M ⊤)
recalls rows m es c = record { state = record { rule = m; under = 0; kept = tt; memory = memos rows es }; counters = c }

-- the folder's own answer
pub own_answer : {M E S : Type 0} (means : List Row → S → M) (H : TypeHooks (Standing M) E) (gives : Refusal → E → Type 0) (terms terms1 : Terms) (s s1 : S)
    (es : List (Place × Ty)) (ty : Ty) (r : Result (Step Ty) E) → Extends terms terms1 → OwnsMemos terms.rows es
    → (IsIn (type_at terms.rows ty 0) (places (memos terms.rows es)) → ⊥) → is_type_tree (tree_in terms.rows (ty_shape ty)) ≡ true
    → AnswersType means H gives terms s ty r terms1 s1
    → MatchResult r
    (λ p. OwnsStep ty_shape terms1.rows p
    × (recalling means H).on_term (recalls terms.rows (means terms.rows s) es terms.counters) (tree_in terms.rows (ty_shape ty)) (answer_of ty_shape terms1.rows p)
    (recalls terms1.rows (means terms1.rows s1) es terms1.counters))
    (λ e. (recalling means H).term_fails (IsErrorOfUnbuilt gives terms1) (recalls terms.rows (means terms.rows s) es terms.counters) (tree_in terms.rows (ty_shape ty)) e
    (recalls terms1.rows (means terms1.rows s1) es terms1.counters))
own_answer means H gives terms terms1 s s1 es ty (Ok p) extends owns new is h =
    rw (memos-still terms.rows terms1.rows es extends.rows owns) (h.0, (λ _. answered {q = stands means terms1 s1} new (record { rows = terms1.rows; folder = s1; same = refl }) h.1, λ other. absurd (true≢false (sym is ∙ other))))
own_answer means H gives terms terms1 s s1 es ty (Err e) extends owns new is h = (is, (stands means terms1 s1, h, refl))

-- a type that is noted is known, and a type that was known still is
noted_new : (rows : List Row) (t after : Ty) (es : List (Place × Ty)) → IsIn (type_at rows t 0) (places (memos rows (insert_entry same_place es (place_of t 0) after)))
noted_new rows t after [] = inl refl
noted_new rows t after (e ∷ es) = elim (cases_Bool (same_place (place_of t 0) e.0)) [
  | inl is ↦ (let place = same-place (place_of t 0) e.0 is in rw is (inl (ap (λ p. type_at rows p.ty p.under) place)))
  | inr other ↦ rw other (inr (noted_new rows t after es))
]

noted_before : (rows : List Row) (t after : Ty) (p : TypeAt) (es : List (Place × Ty)) → IsIn p (places (memos rows es))
    → IsIn p (places (memos rows (insert_entry same_place es (place_of t 0) after)))
noted_before rows t after p [] h = absurd h
noted_before rows t after p (e ∷ es) h = elim (cases_Bool (same_place (place_of t 0) e.0)) [
  | inl is ↦ rw is h
  | inr other ↦ rw other (elim h [ inl first ↦ inl first | inr later ↦ inr (noted_before rows t after p es later) ])
]

-- what is noted
pub noted_type : {M E S : Type 0} (means : List Row → S → M) (H : TypeHooks (Standing M) E) (rows : List Row) (m : M) (c : Counters) (es fs : List (Place × Ty)) (before after : Ty)
    → fs ≡ insert_entry same_place es (place_of before 0) after
    → Noted means H (recalls rows m es c) (tree_in rows (ty_shape before)) (tree_in rows (ty_shape after)) (recalls rows m fs c)
noted_type means H rows m c es fs before after is = record {
  rule = refl;
  counters = refl;
  each = λ n h. each n (subst_memos n h);
  noted = rw is (noted_new rows before after es);
  older = λ p h. rw is (noted_before rows before after p es h);
}
  where
    subst_memos : (n : Memo) → IsIn n (memos rows fs) → IsIn n (memos rows (insert_entry same_place es (place_of before 0) after))
    subst_memos n h = rw is at h

    each : (n : Memo) → IsIn n (memos rows (insert_entry same_place es (place_of before 0) after)) → (n ≡ memo_at rows before 0 after) ⊎ IsIn n (memos rows es)
    each n h = elim (noted_memos rows before 0 after es) [
      | inl last ↦ elim (IsIn-append n (memos rows es) (memo_at rows before 0 after ∷ []) (rw last at h)) [ inl older ↦ inr older | inr new ↦ inl (IsIn-only n (memo_at rows before 0 after) new) ]
      | inr there ↦ there.1 n h
    ]

-- the same of terms that are types
pub noted_stored : {M E S : Type 0} (means : List Row → S → M) (H : TypeHooks (Standing M) E) (rows : List Row) (m : M) (c : Counters) (es fs : List (Place × Ty)) (x y : AnyHandle) (before after : Ty)
    → x ≡ any_handle terms_of.Types before → y ≡ any_handle terms_of.Types after → fs ≡ insert_entry same_place es (place_of before 0) after
    → Noted means H (recalls rows m es c) (handle_tree rows x) (handle_tree rows y) (recalls rows m fs c)
noted_stored means H rows m c es fs x y before after is is_after put = rw (is, is_after) (noted_type means H rows m c es fs before after put)

-- the meaning of a folder's state is one
pub its-meaning : {M S : Type 0} (means : List Row → S → M) (rows : List Row) (folder : S) → IsMeaning means (means rows folder)
its-meaning means rows folder = record { rows = rows; folder = folder; same = refl }

-- what is so where nothing is remembered yet
starts : {M E S : Type 0} (means : List Row → S → M) (H : TypeHooks (Standing M) E) (steady : Stays means H) (rows : List Row) (folder : S) (es : List (Place × Ty)) (c : Counters)
    → es ≡ [] → Recalls means H steady (means rows folder) (its-meaning means rows folder) (recalls rows (means rows folder) es c)
starts means H steady rows folder es c none = record { rule = refl; knows = λ n h. absurd (rw none at h) }

-- a fold that begins with no memory gives what one without memory gives, and has no type taken apart twice
module _ {M E S T : Type 0} (means : List Row → S → M) (H : TypeHooks (Standing M) E) (steady : Stays means H) (errors : Errors E) (rows : List Row) (folder : S)
    (es : List (Place × Ty)) (c : Counters) (none : es ≡ []) where
  pub record Plain (t : Tree Depth) (tree : T → Tree Depth) (result : Result T E) (c' : Counters) : Type 0 where
    pub ok : IfOk result (λ y. Walks (steadily H (means rows folder)) tt t (tree y) tt)
    pub err : IfErr result (λ e. Fails (steadily H (means rows folder)) errors tt t e tt)
    pub ok_once : IfOk result (λ y. CallsOnce H (means rows folder) t c c')
    pub err_once : IfErr result (λ e. FailsOnce H (means rows folder) errors.unbuilt t c e c')

  -- the outcome of a fold that began with an empty memory is one without memory, and no type is taken apart twice
  pub plain : (owns : T → Type 0) (t : Tree Depth) (tree : T → Tree Depth) (result : Result T E) (s' : Standing (State M ⊤))
      → MatchResult result (λ y. owns y × Walks (recalling means H) (recalls rows (means rows folder) es c) t (tree y) s')
      (λ e. Fails (recalling means H) errors (recalls rows (means rows folder) es c) t e s')
      → Plain t tree result s'.counters
  plain owns t tree (Ok y) s' h = record {
    ok = (does means H steady (means rows folder) (its-meaning means rows folder) h.1 (starts means H steady rows folder es c none)).plain;
    err = tt;
    ok_once = calls_once means H steady (means rows folder) (its-meaning means rows folder) errors h.1 refl;
    err_once = tt;
  }
  plain owns t tree (Err e) s' h = record {
    ok = tt;
    err = fails means H steady (means rows folder) (its-meaning means rows folder) errors h (starts means H steady rows folder es c none);
    ok_once = tt;
    err_once = fails_once means H steady (means rows folder) (its-meaning means rows folder) errors h refl;
  }
