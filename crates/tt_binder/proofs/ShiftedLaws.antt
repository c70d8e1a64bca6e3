-- What is kept of shifted arguments serves where it is found, and is added to.
use Rattle.std.proofs.Common.{◌≡◌, ℕ, ◌≤◌, ◌⊎◌, inl, inr, List, [], ◌∷◌, ◌++◌, Option, Some, None, true, false, nat_eq}
use Rattle.std.proofs.Common.{refl, sym, ap, subst, ◌∙◌, arith}
use Rattle.std.proofs.lemmas.Bool.{cases_Bool, eqb-true, eq-eqb}
use Rattle.std.specs.Map.{lookup, keys_of}
use Rattle.std.specs.Prelude.{IsSome, slice_get}
use Rattle.indexmap.specs.IndexMap.{insert_entry}
use Rattle.tt_kinds.specs.Label.{Name, Sort, region_sort, type_sort, const_sort}
use Rattle.tt_kinds.specs.Tree.{Depth, Tree, param}
use Rattle.tt_kinds.specs.Argument.{Argument, same_sort, of_sort, argument}
use Rattle.tt_kinds.specs.Plain.{shift_tree}
use Rattle.tt_kinds.specs.Count.{moving_types}
use Rattle.tt_kinds.specs.Shape.{Shape}
use Rattle.tt_interner.specs.Rows.{Row, Grows}
use Rattle.tt_interner.specs.Stored.{Counters, Terms}
use Rattle.tt_fold.specs.Places.{IsIn, CountsPairs}
use Rattle.tt_fold.specs.Steps.{IsPartBy, tree_by}
use Rattle.tt_fold.proofs.PlaceLaws.{IsIn-append, IsIn-left, IsIn-right}
use Rattle.tt_fold.proofs.ShiftLaws.{stays}
use Rattle.tt_binder.specs.Shifted.{param_at, same_param, Shifts, unshifted, found, made, IsShift, OwnsShifts}
use Rattle.tt_binder.specs.Sharing.{IsParamIn, moving_of, moving_at}
use Rattle.tt_binder.specs.Instantiation.{Args, Kept, IsArgument, IsKeptNow, PutsArgument, as_it_is, shifted_now}
use Rattle.tt_binder.specs.ArgumentLaws.{OwnsShifts-still}
use Rattle.tt_binder.specs.declared.shifted.ParamAt.{ParamAt}
use Rattle.tt_binder.proofs.HookLaws.{given_done}

same-param : (p q : ParamAt) → same_param p q ≡ true → p ≡ q
same-param p q h = elim (cases_Bool (nat_eq p.index q.index)) [
  | inl is ↦ at_index is
  | inr other ↦ absurd (let never : false ≡ true = rw other at h in cc)
]
  where
    at_index : nat_eq p.index q.index ≡ true → p ≡ q
    at_index is =
        let index : p.index ≡ q.index = eqb-true p.index q.index is in
        let under : p.under ≡ q.under = eqb-true p.under q.under (rw is at h) in
        ap (λ n. record { index = n; under = p.under }) index ∙ ap (λ k. record { index = q.index; under = k }) under

param-same : (p : ParamAt) → same_param p p ≡ true
param-same p = rw (eq-eqb p.index p.index refl, eq-eqb p.under p.under refl) refl

module _ {T : Type 0} (p : ParamAt) where
  -- what isn't found isn't kept
  new_key : (es : List (ParamAt × T)) → lookup (same_param p) es ≡ None → IsIn p (keys_of es) → ⊥
  new_key [] h m = m
  new_key (e ∷ es) h m = elim (cases_Bool (same_param p e.0)) [
    | inl is_same ↦ absurd (let never = rw is_same at h in cc)
    | inr other ↦ elim m [
      | inl is ↦ absurd (let is_same : same_param p e.0 ≡ true = rw (← is) (param-same p) in cc)
      | inr later ↦ new_key es (rw other at h) later
    ]
  ]

  -- what is added is kept, and what was kept
  added_key : (y : T) (es : List (ParamAt × T)) → IsIn p (keys_of (insert_entry same_param es p y))
  added_key y [] = inl refl
  added_key y (e ∷ es) = elim (cases_Bool (same_param p e.0)) [
    | inl is_same ↦ rw is_same (inl (same-param p e.0 is_same))
    | inr other ↦ rw other (inr (added_key y es))
  ]

  older_key : (y : T) (es : List (ParamAt × T)) (q : ParamAt) → IsIn q (keys_of es) → IsIn q (keys_of (insert_entry same_param es p y))
  older_key y [] q h = absurd h
  older_key y (e ∷ es) q h = elim (cases_Bool (same_param p e.0)) [
    | inl is_same ↦ rw is_same h
    | inr other ↦ rw other (elim h [ inl first ↦ inl first | inr later ↦ inr (older_key y es q later) ])
  ]

  kept_now : (y : T) (es : List (ParamAt × T)) → lookup (same_param p) es ≡ None → IsKeptNow p (keys_of es) (keys_of (insert_entry same_param es p y))
  kept_now y es h = record { new = new_key es h; there = added_key y es; older = older_key y es }

module _ {T : Type 0} (shape : T → Shape) (rows : List Row) (args : Args) (sort : Sort) where
  -- what is found is the parameter's argument, shifted
  found_shift : (p : ParamAt) (y : T) (es : List (ParamAt × T)) → OwnsShifts shape rows args sort es → lookup (same_param p) es ≡ Some y → IsShift shape rows args sort (p, y)
  found_shift p y [] owns h = absurd (cc)
  found_shift p y (e ∷ es) owns h = elim (cases_Bool (same_param p e.0)) [
    | inl is_same ↦ at_first is_same
    | inr other ↦ found_shift p y es owns.1 (rw other at h)
  ]
    where
      at_first : same_param p e.0 ≡ true → IsShift shape rows args sort (p, y)
      at_first is_same =
          let first = rw is_same at h in
          let value : e.1 ≡ y = cc in
          subst (λ q. IsShift shape rows args sort (q, y)) (sym (same-param p e.0 is_same)) (subst (λ v. IsShift shape rows args sort (e.0, v)) value owns.0)

  added_owned : (p : ParamAt) (y : T) (es : List (ParamAt × T)) → IsShift shape rows args sort (p, y) → OwnsShifts shape rows args sort es
      → OwnsShifts shape rows args sort (insert_entry same_param es p y)
  added_owned p y [] is owns = (is, tt)
  added_owned p y (e ∷ es) is owns = elim (cases_Bool (same_param p e.0)) [
    | inl is_same ↦ rw is_same (subst (λ q. IsShift shape rows args sort (q, y)) (same-param p e.0 is_same) is, owns.1)
    | inr other ↦ rw other (owns.0, added_owned p y es is owns.1)
  ]

  -- for what is kept there is an argument of the sort
  kept_given : (p : ParamAt) (es : List (ParamAt × T)) → OwnsShifts shape rows args sort es → IsIn p (keys_of es) → (v : Tree Depth) × (argument args sort p.index ≡ Some v)
  kept_given p [] owns h = absurd h
  kept_given p (e ∷ es) owns (inl is) = rw is (owns.0.value, owns.0.given)
  kept_given p (e ∷ es) owns (inr h) = kept_given p es owns.1 h

-- a value of an argument is all that a shift of it can take apart
moving-of : (s : Sort) (o : Option (Argument Depth)) (t : Tree Depth) → of_sort s o ≡ Some t → moving_of o ≡ moving_types 0 t
moving-of s None t h = absurd (cc)
moving-of s (Some a) t h = elim (cases_Bool (same_sort s a.sort)) [
  | inl is_same ↦ (let value = rw is_same at h in let is : a.value ≡ t = cc in ap (moving_types 0) is)
  | inr other ↦ absurd (let never = rw other at h in cc)
]

-- past no binder nothing is touched
pub shift_still : {T : Type 0} (shape : T → Shape) (old new : Terms) (p : ParamAt) (x y : T) (es fs : List (ParamAt × T)) → p.under ≡ 0 → Shifts shape old x p es fs new y → new ≡ old
shift_still shape old new p x y es fs none (unshifted stay same kept still) = still
shift_still shape old new p x y es fs none (found there kept still) = still
shift_still shape old new p x y es fs none (made below there part tree pairs kept) = absurd (omega (arith, none, below))

-- what an argument's shift promises, of parameters of its sort
module _ {T : Type 0} (shape : T → Shape) (old new : Terms) (args : Args) (sort : Sort) (index k : ℕ) (x y : T) (es fs : List (ParamAt × T)) where
  -- once a parameter's argument is shifted, all remembered shifts are right among the new rows
  pub shift_owned : Grows old.rows new.rows → argument args sort index ≡ Some (tree_by shape old.rows x) → OwnsShifts shape old.rows args sort es
      → Shifts shape old x (param_at index k) es fs new y → OwnsShifts shape new.rows args sort fs
  shift_owned g a owns (unshifted stay same kept still) = rw kept (OwnsShifts-still shape old.rows new.rows args sort es g owns)
  shift_owned g a owns (found there kept still) = rw kept (OwnsShifts-still shape old.rows new.rows args sort es g owns)
  shift_owned g a owns (made below there part tree pairs kept) =
      let is : IsShift shape new.rows args sort (param_at index k, y) = record { value = tree_by shape old.rows x; given = a; part = part; shifted = tree } in
      rw kept (added_owned shape new.rows args sort (param_at index k) y es is (OwnsShifts-still shape old.rows new.rows args sort es g owns))

  -- the argument takes the parameter's place
  placed : (name : Name) (v r : Tree Depth) → argument args sort index ≡ Some v → r ≡ shift_tree 0 k v → IsArgument args k (param sort index name) r
  placed name v r a is = let d = given_done args k sort index name v r a is in record { param = tt; plain = d.plain; allows = d.allows }

  -- the shifted argument is in range
  pub shift_part : IsPartBy shape old.rows x → OwnsShifts shape old.rows args sort es → Shifts shape old x (param_at index k) es fs new y → IsPartBy shape new.rows y
  shift_part part owns (unshifted stay same kept still) = rw (same, still) part
  shift_part part owns (found there kept still) = rw still (found_shift shape old.rows args sort (param_at index k) y es owns there).part
  shift_part part owns (made below there made_part tree pairs kept) = made_part

  same_counters : (c c' : Counters) → c'.descents ≡ c.descents → c' ≡ record { descents = c.descents; shift_descents = c'.shift_descents }
  same_counters c c' same = ap (λ n. record { descents = n; shift_descents = c'.shift_descents }) same

  -- a parameter's argument is put in its place once it is shifted past the binders above
  pub shift_puts : (name : Name) → argument args sort index ≡ Some (tree_by shape old.rows x) → OwnsShifts shape old.rows args sort es
      → new.counters.descents ≡ old.counters.descents → old.counters.shift_descents ≤ new.counters.shift_descents → Shifts shape old x (param_at index k) es fs new y
      → PutsArgument args k (param sort index name) (tree_by shape new.rows y) (keys_of es) old.counters (keys_of fs) new.counters
  shift_puts name a owns descents more (unshifted stay same kept still) =
      let tree : tree_by shape old.rows x ≡ shift_tree 0 k (tree_by shape old.rows x) = sym (stays k (tree_by shape old.rows x) stay) in
      rw (same, kept, still) (as_it_is (placed name (tree_by shape old.rows x) (tree_by shape old.rows x) a tree))
  shift_puts name a owns descents more (found there kept still) =
      let is = found_shift shape old.rows args sort (param_at index k) y es owns there in
      rw (kept, still) (as_it_is (placed name is.value (tree_by shape old.rows y) is.given is.shifted))
  shift_puts name a owns descents more (made below there part tree pairs kept) =
      let among = moving-of sort (slice_get args index) (tree_by shape old.rows x) a in
      let counted : CountsPairs (moving_at args index) old.counters.shift_descents new.counters.shift_descents = rw among pairs in
      rw kept (subst (λ c. PutsArgument args k (param sort index name) (tree_by shape new.rows y) (keys_of es) old.counters (keys_of (insert_entry same_param es (param_at index k) y)) c)
      (sym (same_counters old.counters new.counters descents))
      (shifted_now index new.counters.shift_descents (placed name (tree_by shape old.rows x) (tree_by shape new.rows y) a tree) (refl, refl) below (kept_now (param_at index k) y es there) more counted))

-- two sorts of which one argument is are one
sorts-same : (s s' : Sort) → same_sort s s' ≡ true → s ≡ s'
sorts-same region_sort region_sort h = refl
sorts-same region_sort type_sort h = cc
sorts-same region_sort const_sort h = cc
sorts-same type_sort region_sort h = cc
sorts-same type_sort type_sort h = refl
sorts-same type_sort const_sort h = cc
sorts-same const_sort region_sort h = cc
sorts-same const_sort type_sort h = cc
sorts-same const_sort const_sort h = refl

sort_of : (s : Sort) (o : Option (Argument Depth)) (v : Tree Depth) → of_sort s o ≡ Some v → (a : Argument Depth) × (o ≡ Some a) × (s ≡ a.sort)
sort_of s None v h = absurd (cc)
sort_of s (Some a) v h = elim (cases_Bool (same_sort s a.sort)) [
  | inl is_same ↦ (a, refl, sorts-same s a.sort is_same)
  | inr other ↦ absurd (let never = rw other at h in cc)
]

one_sort : (s s' : Sort) (o : Option (Argument Depth)) (v v' : Tree Depth) → of_sort s o ≡ Some v → of_sort s' o ≡ Some v' → s ≡ s'
one_sort s s' o v v' h h' =
    let a = sort_of s o v h in
    let b = sort_of s' o v' h' in
    let same : a.0 ≡ b.0 = some_same a.0 b.0 (sym a.1 ∙ b.1) in
    a.2 ∙ ap (λ c. c.sort) same ∙ sym b.2
  where
    some_same : (a b : Argument Depth) → Some a ≡ Some b → a ≡ b
    some_same a b e = cc

some_value : (o : Option (Tree Depth)) → IsSome o → (v : Tree Depth) × (o ≡ Some v)
some_value None h = absurd (cc)
some_value (Some v) h = (v, refl)

-- what is put for a parameter is its argument, shifted past the binders above it
pub put_argument : {args : Args} {k : ℕ} {t r : Tree Depth} {kept kept' : Kept} {c c' : Counters} → PutsArgument args k t r kept c kept' c' → IsArgument args k t r
put_argument (as_it_is is) = is
put_argument (shifted_now i n is place below now more pairs) = is

-- beside what is kept of another sort, before it or after it
module _ (args : Args) (k : ℕ) (t r : Tree Depth) (beside : Kept) (apart : (i : ℕ) → IsParamIn (param_at i k) k t → IsIn (param_at i k) beside → ⊥) (all : Kept → Kept)
    (from : (ks : Kept) (q : ParamAt) → IsIn q (all ks) → IsIn q ks ⊎ IsIn q beside) (into : (ks : Kept) (q : ParamAt) → IsIn q ks ⊎ IsIn q beside → IsIn q (all ks)) where
  puts_beside : {kept kept' : Kept} {c c' : Counters} → PutsArgument args k t r kept c kept' c' → PutsArgument args k t r (all kept) c (all kept') c'
  puts_beside (as_it_is is) = as_it_is is
  puts_beside (shifted_now {kept} {kept'} i n is place below now more pairs) = shifted_now {kept' = all kept'} i n is place below (record {
    new = λ h. elim (from kept (param_at i k) h) [ inl a ↦ now.new a | inr b ↦ apart i place b ];
    there = into kept' (param_at i k) (inl now.there);
    older = λ q h. elim (from kept q h) [ inl a ↦ into kept' q (inl (now.older q a)) | inr b ↦ into kept' q (inr b) ];
  }) more pairs

module _ (args : Args) (k : ℕ) (t r : Tree Depth) (beside : Kept) (apart : (i : ℕ) → IsParamIn (param_at i k) k t → IsIn (param_at i k) beside → ⊥) {kept kept' : Kept} {c c' : Counters} where
  -- an argument is put alike with further shifts remembered behind, if none of them is its parameter's
  pub puts_before : PutsArgument args k t r kept c kept' c' → PutsArgument args k t r (kept ++ beside) c (kept' ++ beside) c'
  puts_before puts = puts_beside args k t r beside apart (λ ks. ks ++ beside) (λ ks q h. IsIn-append q ks beside h)
      (λ ks q h. elim h [ inl a ↦ IsIn-left q ks beside a | inr b ↦ IsIn-right q ks beside b ]) puts

  -- an argument is put alike with further shifts remembered in front, if none of them is its parameter's
  pub puts_after : PutsArgument args k t r kept c kept' c' → PutsArgument args k t r (beside ++ kept) c (beside ++ kept') c'
  puts_after puts = puts_beside args k t r beside apart (λ ks. beside ++ ks) (λ ks q h. elim (IsIn-append q beside ks h) [ inl b ↦ inr b | inr a ↦ inl a ])
      (λ ks q h. elim h [ inl a ↦ IsIn-right q beside ks a | inr b ↦ IsIn-left q beside ks b ]) puts

-- what is kept of another sort is kept for no parameter of this one
pub kept_apart : {T : Type 0} (shape : T → Shape) (rows : List Row) (args : Args) (sort other : Sort) (index : ℕ) (name : Name) (k : ℕ) (es : List (ParamAt × T)) {r : Tree Depth}
    {kept kept' : Kept} {c c' : Counters} → (sort ≡ other → ⊥) → OwnsShifts shape rows args other es → PutsArgument args k (param sort index name) r kept c kept' c'
    → (i : ℕ) → IsParamIn (param_at i k) k (param sort index name) → IsIn (param_at i k) (keys_of es) → ⊥
kept_apart shape rows args sort other index name k es apart owns puts i is h =
    let a = some_value (argument args sort index) (put_argument puts).allows.answered in
    let b = kept_given shape rows args other (param_at i k) es owns h in
    apart (one_sort sort other (slice_get args index) a.0 b.0 a.1 (rw is.0 b.1))
