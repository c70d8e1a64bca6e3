-- What a folder's memory says of trees.
use Rattle.std.proofs.Common.{MatchOption, ◌≡◌, ◌⊎◌, ℕ, inl, inr, List, [], ◌∷◌, ◌++◌, Option, Some, None, Bool, true}
use Rattle.std.proofs.Common.{false, cond, nat_eq, refl, sym, ap, ◌∙◌}
use Rattle.std.proofs.lemmas.Bool.{cases_Bool, eq-eqb}
use Rattle.std.specs.Map.{lookup}
use Rattle.indexmap.specs.IndexMap.{insert_entry}
use Rattle.tt_kinds.specs.Kinds.{ty_shape}
use Rattle.tt_kinds.specs.Handle.{Ty}
use Rattle.tt_kinds.specs.declared.table.Table.TheVariants.{Types}
use Rattle.tt_interner.specs.Rows.{Row, meaning}
use Rattle.tt_interner.specs.Laws.{AreInterned}
use Rattle.tt_fold.specs.Steps.{IsPartOf, tree_in}
use Rattle.tt_fold.specs.Places.{IsIn}
use Rattle.tt_interner.specs.Stored.{Counters}
use Rattle.tt_fold.specs.Counts.{Standing}
use Rattle.tt_fold.specs.Remember.{Memo, State, Task, places, AfterTerm, noted, noted_again}
use Rattle.tt_fold.specs.Memory.{place_of, same_place, type_at, memo_at, memos, OwnsMemos}
use Rattle.tt_fold.specs.declared.memory.Place.{Place}
pub use Rattle.tt_fold.specs.MemoryGrowth.{memos-still, OwnsMemos-still}
use Rattle.tt_fold.proofs.NoteLaws.{same-place}
use Rattle.tt_fold.proofs.PartLaws.{in_range, stored_tree}
use Rattle.tt_fold.proofs.TypeLaws.{is-type}

found : (x y : Ty) (b : Bool) (rest : Option Ty) → cond b (Some x) rest ≡ Some y → ((b ≡ true) × (x ≡ y)) ⊎ (rest ≡ Some y)
found x y true rest h = inl (refl, cc)
found x y false rest h = inr h

missing : (x : Ty) (b : Bool) (rest : Option Ty) → cond b (Some x) rest ≡ None → (b ≡ false) × (rest ≡ None)
missing x true rest h = absurd (cc)
missing x false rest h = (refl, h)

-- what is found is remembered, and its handle is in range
pub memo_found : (rows : List Row) (es : List (Place × Ty)) (t : Ty) (k : ℕ) (after : Ty) → lookup (same_place (place_of t k)) es ≡ Some after
    → IsIn (memo_at rows t k after) (memos rows es)
memo_found rows [] t k after h = absurd (cc)
memo_found rows (e ∷ es) t k after h = elim (found e.1 after (same_place (place_of t k) e.0) (lookup (same_place (place_of t k)) es) h) [
  | inl is ↦ inl (let place = same-place (place_of t k) e.0 is.0 in ap (λ p. memo_at rows p.ty p.under after) place ∙ ap (λ r. memo_at rows e.0.ty e.0.under r) (sym is.1))
  | inr rest ↦ inr (memo_found rows es t k after rest)
]

-- if the handles in the memory name rows, a result that is found in it names one
pub found_owned : (rows : List Row) (es : List (Place × Ty)) (t : Ty) (k : ℕ) (after : Ty) → OwnsMemos rows es → lookup (same_place (place_of t k)) es ≡ Some after
    → IsPartOf rows (ty_shape after)
found_owned rows [] t k after owns h = absurd (cc)
found_owned rows (e ∷ es) t k after owns h = elim (found e.1 after (same_place (place_of t k) e.0) (lookup (same_place (place_of t k)) es) h) [
  | inl is ↦ rw (← is.1) owns.1
  | inr rest ↦ found_owned rows es t k after owns.2 rest
]

-- a tree that isn't found by its handle isn't remembered
pub not_remembered : (rows : List Row) (es : List (Place × Ty)) (t : Ty) (k : ℕ) → AreInterned rows → IsPartOf rows (ty_shape t) → OwnsMemos rows es
    → lookup (same_place (place_of t k)) es ≡ None → IsIn (type_at rows t k) (places (memos rows es)) → ⊥
not_remembered rows [] t k interned part owns h m = m
not_remembered rows (e ∷ es) t k interned part owns h m =
    let none = missing e.1 (same_place (place_of t k) e.0) (lookup (same_place (place_of t k)) es) h in
    elim m [
      | inl same ↦ at_first none.0 same
      | inr later ↦ not_remembered rows es t k interned part owns.2 none.1 later
    ]
  where
    at_first : same_place (place_of t k) e.0 ≡ false → type_at rows t k ≡ type_at rows e.0.ty e.0.under → ⊥
    at_first other same =
        let trees : tree_in rows (ty_shape t) ≡ tree_in rows (ty_shape e.0.ty) = ap (λ p. p.standing) same in
        let meanings : meaning rows Types t.number ≡ meaning rows Types e.0.ty.number = sym (stored_tree rows Types t.number) ∙ trees ∙ stored_tree rows Types e.0.ty.number in
        let number : t.number ≡ e.0.ty.number = (interned Types t.number e.0.ty.number (in_range rows Types t.number part) (in_range rows Types e.0.ty.number owns.0)).0 meanings in
        let under : k ≡ e.0.under = ap (λ p. p.under) same in
        let yes_type : nat_eq t.number e.0.ty.number ≡ true = eq-eqb t.number e.0.ty.number number in
        let yes_under : nat_eq k e.0.under ≡ true = eq-eqb k e.0.under under in
        let never : true ≡ false = rw (yes_type, yes_under) at other in
        cc

-- what a look-up answers, over trees
pub remembered_or_not : (rows : List Row) (es : List (Place × Ty)) (t : Ty) (k : ℕ) (result : Option Ty) → AreInterned rows → IsPartOf rows (ty_shape t) → OwnsMemos rows es
    → result ≡ lookup (same_place (place_of t k)) es
    → MatchOption result
    (IsIn (type_at rows t k) (places (memos rows es)) → ⊥)
    (λ after. IsPartOf rows (ty_shape after) × IsIn (memo_at rows t k after) (memos rows es))
remembered_or_not rows es t k None interned part owns h = not_remembered rows es t k interned part owns (sym h)
remembered_or_not rows es t k (Some after) interned part owns h = (found_owned rows es t k after owns (sym h), memo_found rows es t k after (sym h))

-- what is there after a note is the note, or was there
module _ (rows : List Row) (t : Ty) (k : ℕ) (after : Ty) where
  -- if the handles in a memory and in a note are in range, they are in the memory with the note
  pub note_owned : (es : List (Place × Ty)) → IsPartOf rows (ty_shape t) → IsPartOf rows (ty_shape after) → OwnsMemos rows es → OwnsMemos rows (insert_entry same_place es (place_of t k) after)
  note_owned [] part result owns = (part, result, tt)
  note_owned (e ∷ es) part result owns = elim (cases_Bool (same_place (place_of t k) e.0)) [
    | inl is ↦ rw is (owns.0, result, owns.2)
    | inr other ↦ rw other (owns.0, owns.1, note_owned es part result owns.2)
  ]

  -- a new place goes last, and one that is there gets what is noted
  pub noted_memos : (es : List (Place × Ty)) → (memos rows (insert_entry same_place es (place_of t k) after) ≡ memos rows es ++ memo_at rows t k after ∷ [])
      ⊎ (IsIn (type_at rows t k) (places (memos rows es))
      × ((m : Memo) → IsIn m (memos rows (insert_entry same_place es (place_of t k) after)) → (m ≡ memo_at rows t k after) ⊎ IsIn m (memos rows es)))
  noted_memos [] = inl refl
  noted_memos (e ∷ es) = elim (cases_Bool (same_place (place_of t k) e.0)) [
    | inl is ↦ (let place = same-place (place_of t k) e.0 is in rw is (inr (
      inl (ap (λ p. type_at rows p.ty p.under) place),
      λ m h. elim h [ inl new ↦ inl (new ∙ ap (λ p. memo_at rows p.ty p.under after) (sym place)) | inr old ↦ inr (inr old) ],
    )))
    | inr other ↦ rw other (elim (noted_memos es) [
      | inl last ↦ inl (ap (λ ms. memo_at rows e.0.ty e.0.under e.1 ∷ ms) last)
      | inr there ↦ inr (inr there.0, λ m h. elim h [ inl first ↦ inr (inl first) | inr later ↦ elim (there.1 m later) [ inl new ↦ inl new | inr old ↦ inr (inr old) ] ])
    ])
  ]

-- the state of a folder that remembers these
abbrev pub remembers : {R K : Type 0} → List Row → R → ℕ → K → List (Place × Ty) → Counters → Standing (State R K)
remembers rows q k kept es c = record { state = record { rule = q; under = k; kept = kept; memory = memos rows es }; counters = c }

-- the hook that comes after a type notes what came of it
pub type_noted : {R K : Type 0} (T : Task R K) (rows : List Row) (q : R) (k : ℕ) (kept : K) (c : Counters) (es fs : List (Place × Ty)) (before after : Ty)
    → IsPartOf rows (ty_shape before) → fs ≡ insert_entry same_place es (place_of before k) after
    → AfterTerm T (remembers rows q k kept es c) (tree_in rows (ty_shape before)) (tree_in rows (ty_shape after)) (tree_in rows (ty_shape after)) (remembers rows q k kept fs c)
type_noted T rows q k kept c es fs before after part is = rw is (elim (noted_memos rows before k after es) [
  | inl last ↦ rw last (noted (is-type rows before part))
  | inr there ↦ noted_again (is-type rows before part) there.0 there.1
])
