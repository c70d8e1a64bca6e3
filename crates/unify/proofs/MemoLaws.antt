-- A type is resolved by a memo of resolved bindings, which is filled in rising ranks.
use Rattle.std.proofs.Common.{arith, ◌≡◌, refl, ℕ, ◌<◌, List, length, get_or, Option, Some, None, sym, subst, ap, ◌∙◌}
use Rattle.std.proofs.Common.{◌⊎◌, inl, inr, Contains, take, drop, drop-cons, zero, suc, [], ◌+◌, ◌++◌, ◌∷◌, IfSome}
use Rattle.std.proofs.Common.{Bool, true, false}
use Rattle.std.specs.Map.{lookup}
use Rattle.std.proofs.lemmas.Bool.{cases_Bool, cases_eq, true≢false}
use Rattle.std.proofs.lemmas.List.{take-append-drop, take_more}
use Rattle.std.proofs.lemmas.List.Elements.{Contains-push_cases}
use Rattle.std.proofs.lemmas.Option.{same_Some}
use Rattle.tt_kinds.specs.Tree.{Depth, Tree}
use Rattle.tt_kinds.specs.Shape.{fill}
use Rattle.tt_kinds.specs.Kinds.{ty_shape}
use Rattle.tt_kinds.specs.Values.{option_shape}
use Rattle.tt_kinds.specs.Handle.{Ty}
use Rattle.tt_interner.specs.Rows.{meaning}
use Rattle.tt_interner.specs.Owned.{AreOwned, IsOwned}
use Rattle.tt_interner.specs.Stored.{Terms, Extends}
use Rattle.tt_interner.proofs.Growth.{IsPart-grows, fill-grows}
use Rattle.tt_interner.proofs.OwnedLaws.{owned_some}
use Rattle.tt_fold.specs.Steps.{tree_in}
use Rattle.unify.specs.Substitution.{apply, IsWithout}
use Rattle.unify.specs.Bindings.{table_shape, stored, values, AreEntries}
use Rattle.unify.specs.Memo.{put, entries_in, Settles, AreSettled, IsReady, IsReadyAt, IsSettledTo}
use Rattle.unify.specs.Search.{IsOrder}
use Rattle.unify.specs.Triangular.{resolved, IsChild}
use Rattle.unify.specs.Variables.{ListsAll}
use Rattle.unify.proofs.BindingsLaws.{bound_tree, reads, stored_stays}
use Rattle.unify.proofs.SubstitutionLaws.{resolved_stays}
use Rattle.unify.proofs.TriangularLaws.{applies_same}
use Rattle.unify.proofs.TriangularCycles.{settled_by}
use Rattle.unify.proofs.OwnSolution.{entry_inside}
use Rattle.unify.proofs.TableLaws.{entries_stay, table_represents, values_stay}
use Rattle.unify.proofs.TriangularSteps.{is_without}

-- the later entries have this type as the variable's entry, and the others of the earlier ones
pub record Puts (memo : List (Option Ty)) (v : ℕ) (r : Ty) (later : List (Option Ty)) : Type 0 where
  pub own : get_or later v None ≡ Some r
  pub others : (w : ℕ) → (w ≡ v → ⊥) → get_or later w None ≡ get_or memo w None

put_own : (xs : List (Option Ty)) (v : ℕ) (t : Ty) → get_or (put xs v t) v None ≡ Some t
put_own [] zero t = refl
put_own [] (suc v) t = put_own [] v t
put_own (x ∷ xs) zero t = refl
put_own (x ∷ xs) (suc v) t = put_own xs v t

put_others : (xs : List (Option Ty)) (v w : ℕ) (t : Ty) → (w ≡ v → ⊥) → get_or (put xs v t) w None ≡ get_or xs w None
put_others [] zero zero t apart = absurd (apart refl)
put_others [] zero (suc w) t apart = refl
put_others [] (suc v) zero t apart = refl
put_others [] (suc v) (suc w) t apart = put_others [] v w t (λ same. apart (ap suc same))
put_others (x ∷ xs) zero zero t apart = absurd (apart refl)
put_others (x ∷ xs) zero (suc w) t apart = refl
put_others (x ∷ xs) (suc v) zero t apart = refl
put_others (x ∷ xs) (suc v) (suc w) t apart = put_others xs v w t (λ same. apart (ap suc same))

-- a map of variables that tells variables apart by `eq`, which says what is equal
module _ (eq : ℕ → ℕ → Bool) (same : (a : ℕ) → eq a a ≡ true) (exact : (a b : ℕ) → eq a b ≡ true → a ≡ b) where
  -- a variable's entry is what the map has of the variable
  pub found_at : (ps : List (ℕ × Ty)) (v : ℕ) → get_or (entries_in ps) v None ≡ lookup (eq v) ps
  found_at [] v = refl
  found_at (p ∷ ps) v = elim (cases_Bool (eq v p.0)) [
    | inl alike ↦ rw (alike, exact v p.0 alike) (put_own (entries_in ps) p.0 p.1)
    | inr other ↦ rw other (put_others (entries_in ps) p.0 v p.1
        (λ is. true≢false (sym (subst (λ w. eq v w ≡ true) is (same v)) ∙ other)) ∙ found_at ps v)
  ]

  -- an insertion puts the type, and keeps the others
  pub inserted : (ps qs : List (ℕ × Ty)) (v : ℕ) (r : Ty) → lookup (eq v) qs ≡ Some r
      → ((w : ℕ) → eq v w ≡ false → lookup (eq w) qs ≡ lookup (eq w) ps) → Puts (entries_in ps) v r (entries_in qs)
  inserted ps qs v r own others = record {
    own = found_at qs v ∙ own;
    others = λ w apart. found_at qs w ∙ others w (distinct w apart) ∙ sym (found_at ps w);
  }
    where
      distinct : (w : ℕ) → (w ≡ v → ⊥) → eq v w ≡ false
      distinct w apart = elim (cases_Bool (eq v w)) [
        | inl alike ↦ absurd (apart (sym (exact v w alike)))
        | inr other ↦ other
      ]

-- entries that are the interner's one by one are the interner's
pub entries_owned : (terms : Terms) (xs : List (Option Ty))
    → ((w : ℕ) (q : Ty) → get_or xs w None ≡ Some q → IsOwned ty_shape terms q) → IsOwned table_shape terms xs
unfolding fill
entries_owned terms xs all = (refl, tt, by xs all)
  where
    by : (xs : List (Option Ty)) → ((w : ℕ) (q : Ty) → get_or xs w None ≡ Some q → IsOwned ty_shape terms q)
        → AreOwned (option_shape ty_shape) terms xs
    by [] all = tt
    by (None ∷ xs) all = ((refl, tt, tt), by xs (λ w. all (suc w)))
    by (Some q ∷ xs) all = (owned_some ty_shape terms q (all zero q refl), by xs (λ w. all (suc w)))

-- what the map has of a variable is the interner's
pub noted_owned : (terms : Terms) (xs : List (Option Ty)) (v : ℕ) (o : Option Ty) → get_or xs v None ≡ o
    → IsOwned table_shape terms xs → IfSome o (λ b. IsOwned ty_shape terms b)
noted_owned terms xs v None is owned = tt
noted_owned terms xs v (Some b) is owned = entry_inside terms xs v b is owned.2

-- whatever the interner builds, a memo stays one
pub settles_grown : (terms new : Terms) (xs memo : List (Option Ty)) → Extends terms new → AreEntries terms xs
    → Settles terms xs memo → Settles new xs memo
settles_grown terms new xs memo extends table settles = record {
  owned = IsPart-grows terms.rows new.rows extends.rows (table_shape memo) settles.owned;
  settled = λ v r is.
      let old = sym (ap (λ σ. σ v) (stored_stays terms new memo extends settles.owned)) ∙ is in
      ap (λ σ. σ v) (values_stay terms new xs extends table.owned) ∙ settles.settled v r old;
}

module _ (terms : Terms) (xs memo : List (Option Ty)) (settles : Settles terms xs memo) where
  -- what the memo has is settled
  pub settled_same : (v : ℕ) (o : Option (Tree Depth)) → stored terms memo v ≡ o → values terms xs v ≡ None
      ⊎ ((r : Tree Depth) × (stored terms memo v ≡ Some r)) → stored terms memo v ≡ values terms xs v
  settled_same v (Some r) e h = e ∙ sym (settles.settled v r e)
  settled_same v None e (inl none) = e ∙ sym none
  settled_same v None e (inr some) = absurd (let has = some.1 in cc)

  -- where each variable in a type is settled, the type is resolved by one fold
  pub ready_resolves : (t : Tree Depth) → IsReady terms xs memo t
      → apply (stored terms memo) t ≡ apply (values terms xs) t
  ready_resolves t ready = applies_same (stored terms memo) (values terms xs) t ready

  module _ (table : AreEntries terms xs) (v : ℕ) (t r : Ty) (later : List (Option Ty)) (puts : Puts memo v r later)
      (at : get_or xs v None ≡ Some t) (ready : IsReady terms xs memo (tree_in terms.rows (ty_shape t)))
      (owned : IsOwned ty_shape terms r)
      (folded : tree_in terms.rows (ty_shape r) ≡ apply (stored terms memo) (tree_in terms.rows (ty_shape t))) where
    here : stored terms xs v ≡ Some (tree_in terms.rows (ty_shape t))
    here = reads terms xs v ∙ ap (bound_tree (meaning terms.rows)) at

    value : Some (tree_in terms.rows (ty_shape r)) ≡ values terms xs v
    value =
        ap Some folded
        ∙ settled_by (stored terms xs) (stored terms memo) (values terms xs) (table_represents terms xs table) v
        (tree_in terms.rows (ty_shape t)) here ready

    own : stored terms later v ≡ Some (tree_in terms.rows (ty_shape r))
    own = reads terms later v ∙ ap (bound_tree (meaning terms.rows)) puts.own

    other : (w : ℕ) → (w ≡ v → ⊥) → stored terms later w ≡ stored terms memo w
    other w apart =
        reads terms later w ∙ ap (bound_tree (meaning terms.rows)) (puts.others w apart) ∙ sym (reads terms memo w)

    put_owned : (w : ℕ) (q : Ty) → get_or later w None ≡ Some q → (w ≡ v) ⊎ (w ≡ v → ⊥) → IsOwned ty_shape terms q
    put_owned w q is (inl same) =
        let one : Some r ≡ Some q = sym puts.own ∙ ap (λ u. get_or later u None) (sym same) ∙ is in
        subst (IsOwned ty_shape terms) (same_Some r q one) owned
    put_owned w q is (inr apart) = entry_inside terms memo w q (sym (puts.others w apart) ∙ is) settles.owned.2

    put_settled : (w : ℕ) (q : Tree Depth) → stored terms later w ≡ Some q → (w ≡ v) ⊎ (w ≡ v → ⊥)
        → values terms xs w ≡ Some q
    put_settled w q is (inl same) =
        ap (values terms xs) same ∙ sym value ∙ sym own ∙ ap (stored terms later) (sym same) ∙ is
    put_settled w q is (inr apart) = settles.settled w q (sym (other w apart) ∙ is)

    -- the fold of a variable's entry is the variable's binding
    pub settles_next : Settles terms xs later
    settles_next = record {
      owned = entries_owned terms later (λ w q is. put_owned w q is (cases_eq w v));
      settled = λ w q is. put_settled w q is (cases_eq w v);
    }

    -- then the variable is settled, too
    pub own_settled : stored terms later v ≡ values terms xs v
    own_settled = own ∙ value

    kept_by : (u : ℕ) → stored terms memo u ≡ values terms xs u → (u ≡ v) ⊎ (u ≡ v → ⊥)
        → stored terms later u ≡ values terms xs u
    kept_by u was (inl same) = subst (λ w. stored terms later w ≡ values terms xs w) (sym same) own_settled
    kept_by u was (inr apart) = other u apart ∙ was

    -- and the others stay so
    pub kept_settled : (u : ℕ) → stored terms memo u ≡ values terms xs u → stored terms later u ≡ values terms xs u
    kept_settled u was = kept_by u was (cases_eq u v)

module _ (terms new : Terms) (xs memo : List (Option Ty)) (extends : Extends terms new) (table : AreEntries terms xs)
    (settles : Settles terms xs memo) where
  memo_stays : (u : ℕ) → stored new memo u ≡ stored terms memo u
  memo_stays u = ap (λ σ. σ u) (stored_stays terms new memo extends settles.owned)

  table_stays : (u : ℕ) → values new xs u ≡ values terms xs u
  table_stays u = ap (λ σ. σ u) (values_stay terms new xs extends table.owned)

  kept_grown : (u : ℕ) → stored terms memo u ≡ values terms xs u → stored new memo u ≡ values new xs u
  kept_grown u was = memo_stays u ∙ was ∙ sym (table_stays u)

  -- a variable without a binding is settled from the start
  pub settled_unbound : (v : ℕ) → get_or xs v None ≡ None → IsSettledTo terms new xs memo memo v
  settled_unbound v at = record {
    settles = settles_grown terms new xs memo extends table settles;
    own = kept_grown v (
        settled_same terms xs memo settles v (stored terms memo v) refl
        (inl (table_represents terms xs table v
        ∙ ap (resolved (values terms xs)) (reads terms xs v ∙ ap (bound_tree (meaning terms.rows)) at))));
    kept = kept_grown;
  }

  module _ (v : ℕ) (t r : Ty) (later : List (Option Ty)) (puts : Puts memo v r later)
      (at : get_or xs v None ≡ Some t) (ready : IsReadyAt terms xs memo v) (owned : IsOwned ty_shape new r)
      (folded : tree_in new.rows (ty_shape r) ≡ apply (stored terms memo) (tree_in terms.rows (ty_shape t))) where
    tree_stays : tree_in new.rows (ty_shape t) ≡ tree_in terms.rows (ty_shape t)
    tree_stays =
        fill-grows terms.rows new.rows extends.rows (ty_shape t) (entry_inside terms xs v t at table.owned.2)

    is_bound : stored terms xs v ≡ Some (tree_in terms.rows (ty_shape t))
    is_bound = reads terms xs v ∙ ap (bound_tree (meaning terms.rows)) at

    ready_grown : IsReady new xs memo (tree_in new.rows (ty_shape t))
    ready_grown u = elim (ready (tree_in terms.rows (ty_shape t)) is_bound u) [
      | inl was ↦ inl (kept_grown u was)
      | inr lacks ↦ inr (subst (IsWithout u) (sym tree_stays) lacks)
    ]

    folded_grown : tree_in new.rows (ty_shape r) ≡ apply (stored new memo) (tree_in new.rows (ty_shape t))
    folded_grown =
        folded ∙ ap (λ σ. apply σ (tree_in terms.rows (ty_shape t)))
        (sym (stored_stays terms new memo extends settles.owned)) ∙ ap (apply (stored new memo)) (sym tree_stays)

    -- a variable with a binding is settled by the fold of the binding
    pub settled_bound : IsSettledTo terms new xs memo later v
    settled_bound =
        let grown = settles_grown terms new xs memo extends table settles in
        let entries = entries_stay terms new xs extends table in
        record {
          settles = settles_next new xs memo grown entries v t r later puts at ready_grown owned folded_grown;
          own = own_settled new xs memo grown entries v t r later puts at ready_grown owned folded_grown;
          kept = λ u was.
              kept_settled new xs memo grown entries v t r later puts at ready_grown owned folded_grown u
              (kept_grown u was);
        }

-- the part of an order in front of a place, the variable there, and the part behind
parts_at : (order : List ℕ) (place v : ℕ) → place < length order → get_or order place v ≡ v
    → order ≡ take place order ++ v ∷ drop (suc place) order
parts_at order place v inside is =
    let behind : drop place order ≡ v ∷ drop (suc place) order =
    drop-cons order place v inside ∙ ap (λ x. x ∷ drop (suc place) order) is in
    sym (take-append-drop place order) ∙ ap (λ rest. take place order ++ rest) behind

module _ (terms : Terms) (xs memo : List (Option Ty)) (settles : Settles terms xs memo) (order : List ℕ)
    (ordered : IsOrder (IsChild (stored terms xs)) order) (place v : ℕ) (inside : place < length order)
    (is : get_or order place v ≡ v) (done : AreSettled terms xs memo (take place order)) where
  ready_by : (t : Tree Depth) → stored terms xs v ≡ Some t → (u : ℕ) → IsWithout u t ⊎ (IsWithout u t → ⊥)
      → (stored terms memo u ≡ values terms xs u) ⊎ IsWithout u t
  ready_by t at u (inl lacks) = inr lacks
  ready_by t at u (inr held) =
      inl (done u (ordered (take place order) (drop (suc place) order) v u (parts_at order place v inside is)
      (t, (at, held))))

  -- the variables in the binding of the next variable of an order are settled
  pub next_ready : (t : Tree Depth) → stored terms xs v ≡ Some t → IsReady terms xs memo t
  next_ready t at u = ready_by t at u (is_without u t)

module _ (start terms : Terms) (xs memo : List (Option Ty)) (extends : Extends start terms) (table : AreEntries start xs)
    (order : List ℕ) (ordered : IsOrder (IsChild (stored start xs)) order) (settles : Settles terms xs memo)
    (place v : ℕ) (inside : place < length order) (is : get_or order place v ≡ v)
    (done : AreSettled terms xs memo (take place order)) where
  ordered_still : IsOrder (IsChild (stored terms xs)) order
  ordered_still = subst (λ σ. IsOrder (IsChild σ) order) (sym (stored_stays start terms xs extends table.owned)) ordered

  -- the next variable of an order is ready
  pub ready_at : IsReadyAt terms xs memo v
  ready_at t at = next_ready terms xs memo settles order ordered_still place v inside is done t at

  -- once this variable is settled, too, the order is settled up to here
  pub settled_to : (new : Terms) (later : List (Option Ty)) → IsSettledTo terms new xs memo later v
      → AreSettled new xs later (take (place + 1) order)
  settled_to new later next u at =
      let more : take (place + 1) order ≡ take place order ++ v ∷ [] =
      take_more order place v inside ∙ ap (λ x. take place order ++ x ∷ []) is in
      elim (Contains-push_cases (take place order) v u (subst (λ vs. Contains vs u) more at)) [
        | inl old ↦ next.kept u (done u old)
        | inr same ↦ subst (λ w. stored new later w ≡ values new xs w) same next.own
      ]

-- a type whose variables are listed and settled is ready
pub listed_ready : (terms : Terms) (xs memo : List (Option Ty)) (starts order : List ℕ) (t : Tree Depth)
    → ListsAll starts t → ((v : ℕ) → Contains starts v → Contains order v) → AreSettled terms xs memo order
    → IsReady terms xs memo t
listed_ready terms xs memo starts order t lists there done v = elim (lists v) [
  | inl at ↦ inl (done v (there v at))
  | inr lacks ↦ inr lacks
]

-- so one fold by a memo that has all variables of a type resolves the type
pub resolves : (start mid : Terms) (xs memo : List (Option Ty)) (starts order : List ℕ) (ty : Ty) → Extends start mid
    → AreEntries start xs → IsOwned ty_shape start ty → ListsAll starts (tree_in start.rows (ty_shape ty))
    → ((v : ℕ) → Contains starts v → Contains order v) → Settles mid xs memo → AreSettled mid xs memo order
    → apply (stored mid memo) (tree_in mid.rows (ty_shape ty)) ≡ apply (values start xs) (tree_in start.rows (ty_shape ty))
resolves start mid xs memo starts order ty extends table owned lists there settles done =
    let same : tree_in mid.rows (ty_shape ty) ≡ tree_in start.rows (ty_shape ty) =
    fill-grows start.rows mid.rows extends.rows (ty_shape ty) owned in
    let ready = listed_ready mid xs memo starts order (tree_in start.rows (ty_shape ty)) lists there done in
    ap (apply (stored mid memo)) same
    ∙ ready_resolves mid xs memo settles (tree_in start.rows (ty_shape ty)) ready
    ∙ ap (λ σ. apply σ (tree_in start.rows (ty_shape ty))) (values_stay start mid xs extends table.owned)

-- a memo of nothing changes no tree
pub nothing_noted : (terms : Terms) (ps : List (ℕ × Ty)) (t : Tree Depth) → length ps ≡ 0
    → t ≡ apply (stored terms (entries_in ps)) t
nothing_noted terms [] t none = sym (resolved_stays (stored terms []) t (λ v r is.
    absurd (let free : stored terms [] v ≡ None = reads terms [] v in cc)))
nothing_noted terms (p ∷ ps) t none = absurd (omega (arith, none))

-- before the first variable nothing is settled, and nothing has to be
pub first_settles : (terms : Terms) (xs : List (Option Ty)) → Settles terms xs []
unfolding fill
first_settles terms xs = record {
  owned = (refl, tt, tt);
  settled = λ v r at. absurd (let free : stored terms [] v ≡ None = reads terms [] v in cc);
}
