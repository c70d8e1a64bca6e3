-- What the notes of a folder's memory are as entries of a map.
use Rattle.std.proofs.Common.{◌≡◌, ℕ, zero, suc, ◌<◌, ◌≤◌, inl, inr, List, [], ◌∷◌, ◌++◌, length, drop, slice_index_or}
use Rattle.std.proofs.Common.{slice_set, position, Some, None, true, false, cond, nat_eq, nat_lt, refl, sym, ap, ◌∙◌}
use Rattle.std.proofs.Common.{arith, append_assoc}
use Rattle.std.proofs.lemmas.Bool.{cases_Bool, eqb-true, ltb-false}
use Rattle.std.proofs.lemmas.List.{append-nil, length-map, length-set, take_at}
use Rattle.std.proofs.lemmas.List.Sums.{fails_before_first}
use Rattle.std.proofs.lemmas.List.Quantifiers.{position-Some}
use Rattle.std.specs.List.{AllByRecursion, IsDistinct, position_or_len, refill}
use Rattle.std.specs.Map.{lookup, keys_of}
use Rattle.indexmap.specs.IndexMap.{insert_all, insert_entry}
use Rattle.tt_fold.specs.Memory.{same_place}
use Rattle.tt_fold.specs.Notes.{note_entries}
use Rattle.tt_kinds.specs.Handle.{Ty}
use Rattle.tt_fold.specs.declared.memory.Place.{Place}
use Rattle.tt_fold.specs.declared.memory.Note.{Note}
use Rattle.tt_kinds.specs.Handle.{handle}

-- places that are told the same are the same
pub same-place : (p q : Place) → same_place p q ≡ true → p ≡ q
same-place p q h = elim (cases_Bool (nat_eq p.ty.number q.ty.number)) [
  | inl t ↦ at_type t
  | inr other ↦ absurd (let no : false ≡ true = rw other at h in cc)
]
  where
    at_type : nat_eq p.ty.number q.ty.number ≡ true → p ≡ q
    at_type t =
        let number : p.ty.number ≡ q.ty.number = eqb-true p.ty.number q.ty.number t in
        let under : p.under ≡ q.under = eqb-true p.under q.under (rw t at h) in
        ap (λ n. record { ty = handle n; under = p.under }) number ∙ ap (λ k. record { ty = q.ty; under = k }) under

other-place : (p q : Place) → same_place p q ≡ false → same_place q p ≡ false
other-place p q other = elim (cases_Bool (same_place q p)) [
  | inl same ↦ (let place : q ≡ p = same-place q p same in cc)
  | inr apart ↦ apart
]

-- entries put into a map one after another are all of them, where no two have one place
among_rest : (P : Place → Type 0) (done rest : List (Place × Ty)) (e : Place × Ty) → AllByRecursion P (keys_of (done ++ e ∷ rest)) → P e.0
among_rest P [] rest e all = all.0
among_rest P (x ∷ done) rest e all = among_rest P done rest e all.1

put_last : (done rest : List (Place × Ty)) (e : Place × Ty) → IsDistinct same_place (keys_of (done ++ e ∷ rest)) → insert_entry same_place done e.0 e.1 ≡ done ++ e ∷ []
unfolding IsDistinct
put_last [] rest e distinct = refl
put_last (x ∷ done) rest e distinct =
    let apart = among_rest (λ y. same_place x.0 y ≡ false) done rest e distinct.0 in
    rw (other-place x.0 e.0 apart) (ap (λ es. x ∷ es) (put_last done rest e distinct.1))

put_after : (done es : List (Place × Ty)) → IsDistinct same_place (keys_of (done ++ es)) → insert_all same_place done es ≡ done ++ es
put_after done [] distinct = sym (append-nil done)
put_after done (e ∷ es) distinct =
    let again = append_assoc done (e ∷ []) es in
    rw (put_last done es e distinct) (put_after (done ++ e ∷ []) es (rw again distinct) ∙ again)

all_put : (es : List (Place × Ty)) → IsDistinct same_place (keys_of es) → insert_all same_place [] es ≡ es
all_put es distinct = put_after [] es distinct

-- a note leaves no place twice
all_noted : (P : Place → Type 0) (es : List (Place × Ty)) (p : Place) (after : Ty) → AllByRecursion P (keys_of es) → P p → AllByRecursion P (keys_of (insert_entry same_place es p after))
all_noted P [] p after all new = (new, tt)
all_noted P (e ∷ es) p after all new = elim (cases_Bool (same_place p e.0)) [
  | inl is ↦ rw is all
  | inr other ↦ rw other (all.0, all_noted P es p after all.1 new)
]

-- if the places of entries are distinct, they are distinct after one more is noted
pub distinct_noted : (es : List (Place × Ty)) (p : Place) (after : Ty) → IsDistinct same_place (keys_of es) → IsDistinct same_place (keys_of (insert_entry same_place es p after))
unfolding IsDistinct
distinct_noted [] p after distinct = (tt, tt)
distinct_noted (e ∷ es) p after distinct = elim (cases_Bool (same_place p e.0)) [
  | inl is ↦ rw is distinct
  | inr other ↦ rw other (all_noted (λ y. same_place e.0 y ≡ false) es p after distinct.0 (other-place p e.0 other), distinct_noted es p after distinct.1)
]

-- and none fewer
length_noted : (es : List (Place × Ty)) (p : Place) (after : Ty) → length es ≤ length (insert_entry same_place es p after)
length_noted [] p after = omega arith
length_noted (e ∷ es) p after = elim (cases_Bool (same_place p e.0)) [
  | inl is ↦ rw is (omega arith)
  | inr other ↦ rw other (let rest : length es ≤ length (insert_entry same_place es p after) = length_noted es p after in omega (arith, rest))
]

-- where a place is first found
record IsFirst (notes : List Note) (p : Place) (i : ℕ) (d : Note) : Type 0 where
  pub within : i < length notes
  pub here : same_place p (slice_index_or notes i d).place ≡ true
  pub before : (k : ℕ) → k < i → same_place p (slice_index_or notes k d).place ≡ false

IsFirst-rest : (n : Note) (notes : List Note) (p : Place) (i : ℕ) (d : Note) → IsFirst (n ∷ notes) p (suc i) d → IsFirst notes p i d
IsFirst-rest n notes p i d first = record {
  within = omega (arith, first.within);
  here = first.here;
  before = λ k h. first.before (suc k) (omega (arith, h));
}

first_found : (notes : List Note) (p : Place) (i : ℕ) (d : Note) → position (λ n. same_place p n.place) notes ≡ Some i → IsFirst notes p i d
first_found notes p i d h = let at = position-Some (λ n. same_place p n.place) notes i d h in record { within = at.0; here = at.1; before = at.2 }

found_after : (notes : List Note) (p : Place) (i : ℕ) (d : Note) → IsFirst notes p i d → Some (slice_index_or notes i d).after ≡ lookup (same_place p) (note_entries notes)
found_after [] p i d first = absurd (omega (arith, first.within))
found_after (n ∷ notes) p zero d first = rw first.here refl
found_after (n ∷ notes) p (suc i) d first = rw (first.before 0 (omega arith)) (found_after notes p i d (IsFirst-rest n notes p i d first))

set_after : (notes : List Note) (p : Place) (i : ℕ) (d : Note) (after : Ty) → IsFirst notes p i d
    → note_entries (slice_set notes i (record { place = (slice_index_or notes i d).place; after = after })) ≡ insert_entry same_place (note_entries notes) p after
set_after [] p i d after first = absurd (omega (arith, first.within))
set_after (n ∷ notes) p zero d after first = rw first.here refl
set_after (n ∷ notes) p (suc i) d after first =
    rw (first.before 0 (omega arith)) (ap (λ es. (n.place, n.after) ∷ es) (set_after notes p i d after (IsFirst-rest n notes p i d first)))

-- a slice that is written back whole is what is there
written_back : {X : Type 0} (xs ws : List X) → length xs ≡ length ws → refill (length xs) xs ws ≡ ws
written_back xs ws same = take_at ws (drop (length ws) xs) (length xs) (sym same)

-- the note of a place that is there
pub written_again : (notes lent : List Note) (p : Place) (i : ℕ) (d : Note) (after : Ty) → lent ≡ notes → position (λ n. same_place p n.place) notes ≡ Some i
    → note_entries (refill (length notes) notes (slice_set lent i (record { place = (slice_index_or lent i d).place; after = after }))) ≡ insert_entry same_place (note_entries notes) p after
written_again notes lent p i d after is h =
    let n : Note = record { place = (slice_index_or notes i d).place; after = after } in
    let same : length notes ≡ length (slice_set notes i n) = sym (length-set notes i n) in
    rw is (ap note_entries (written_back notes (slice_set notes i n) same) ∙ set_after notes p i d after (first_found notes p i d h))

-- where it isn't found
abbrev IsAbsent : List Note → Place → Type 0
IsAbsent notes p = AllByRecursion (λ n. same_place p n.place ≡ false) notes

absent_each : (notes : List Note) (p : Place) → ((k : ℕ) (d : Note) → k < length notes → same_place p (slice_index_or notes k d).place ≡ false) → IsAbsent notes p
absent_each [] p each = tt
absent_each (n ∷ notes) p each = (each 0 n (omega arith), absent_each notes p (λ k d h. each (suc k) d (omega (arith, h))))

none_found : (n i : ℕ) → cond (nat_lt i n) (Some i) None ≡ None → n ≤ i
none_found n i h = elim (cases_Bool (nat_lt i n)) [
  | inl there ↦ absurd (let no : Some i ≡ None = rw there at h in cc)
  | inr beyond ↦ ltb-false i n beyond
]

not_found : (notes : List Note) (p : Place) → position (λ n. same_place p n.place) notes ≡ None → IsAbsent notes p
not_found notes p h =
    let beyond = none_found (length notes) (position_or_len (λ n. same_place p n.place) notes) h in
    absent_each notes p (λ k d within. fails_before_first (λ n. same_place p n.place) notes k d (omega (arith, beyond, within)))

absent_after : (notes : List Note) (p : Place) → IsAbsent notes p → None ≡ lookup (same_place p) (note_entries notes)
absent_after [] p absent = refl
absent_after (n ∷ notes) p absent = rw absent.0 (absent_after notes p absent.1)

noted_new : (notes : List Note) (p : Place) (after : Ty) → IsAbsent notes p
    → note_entries (notes ++ record { place = p; after = after } ∷ []) ≡ insert_entry same_place (note_entries notes) p after
noted_new [] p after absent = refl
noted_new (n ∷ notes) p after absent = rw absent.0 (ap (λ es. (n.place, n.after) ∷ es) (noted_new notes p after absent.1))

-- what a look-up in the notes gives
pub found : (notes lent : List Note) (p : Place) (i : ℕ) (d : Note) → lent ≡ notes → position (λ n. same_place p n.place) notes ≡ Some i
    → Some (slice_index_or lent i d).after ≡ lookup (same_place p) (note_entries notes)
found notes lent p i d is h = rw is (found_after notes p i d (first_found notes p i d h))

-- a place that has no note is not found among the entries
pub missing : (notes : List Note) (p : Place) → position (λ n. same_place p n.place) notes ≡ None → None ≡ lookup (same_place p) (note_entries notes)
missing notes p h = absent_after notes p (not_found notes p h)

-- the places in an empty list of entries are distinct
pub none_distinct : IsDistinct same_place (keys_of (note_entries []))
unfolding IsDistinct
none_distinct = tt

-- adding a note of a new place at the end is putting its entry into the map
pub noted_last : (notes : List Note) (p : Place) (after : Ty) → position (λ n. same_place p n.place) notes ≡ None
    → note_entries (notes ++ record { place = p; after = after } ∷ []) ≡ insert_entry same_place (note_entries notes) p after
noted_last notes p after h = noted_new notes p after (not_found notes p h)

-- a note beside those that were put into a map
module _ (notes : List Note) (p : Place) (after : Ty) (m new : List (Place × Ty)) (distinct : IsDistinct same_place (keys_of (note_entries notes)))
    (put : m ≡ insert_all same_place [] (note_entries notes)) (one_more : new ≡ insert_entry same_place m p after) where
  -- a map of the notes with one more is the notes' entries with this one
  pub noted_in_map : new ≡ insert_entry same_place (note_entries notes) p after
  noted_in_map = one_more ∙ ap (λ es. insert_entry same_place es p after) (put ∙ all_put (note_entries notes) distinct)

  -- the map with one more has no fewer entries than there are notes
  pub as_many_in_map : length notes ≤ length new
  as_many_in_map =
      let rise : length (note_entries notes) ≤ length (insert_entry same_place (note_entries notes) p after) = length_noted (note_entries notes) p after in
      let many : length (note_entries notes) ≡ length notes = length-map notes (λ n. (n.place, n.after)) in
      rw noted_in_map (omega (arith, rise, many))
