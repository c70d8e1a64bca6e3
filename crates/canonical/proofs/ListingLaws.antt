-- No variable is listed twice.
use Rattle.std.proofs.Common.{◌≡◌, refl, ℕ, zero, suc, ◌+◌, ◌<◌, List, [], ◌∷◌, ◌++◌, true, false, Option, Some, None}
use Rattle.std.proofs.Common.{length, take, drop, get_or, slice_get, sym, subst, ap, ◌∙◌, ◌⊎◌, inl, inr, arith}
use Rattle.std.specs.Prelude.{eqb, option_map}
use Rattle.std.specs.List.{list_any}
use Rattle.std.specs.Cmp.{nat_eq_equiv}
use Rattle.std.proofs.lemmas.Bool.{cases_Bool, eqb-true, or_left, or_right, or_parts}
use Rattle.std.proofs.lemmas.List.{length-take-le, take-append-drop, take_more}
use Rattle.std.proofs.lemmas.Option.{same_Some, slice_get_within, slice_get-get_or}
use Rattle.tt_kinds.specs.Tree as tree
use Rattle.tt_kinds.specs.Tree.{Depth, Tree, Forest}
use Rattle.unify.specs.Substitution.{variable_of, variable_tree}
use Rattle.canonical.specs.Canonical.{noted, collect, collect_all, variables, place, numbered, IsListedOnce}
use Rattle.canonical.specs.Numbers.{with_binding}
use Rattle.canonical.specs.Search.{Has}
use Rattle.canonical.proofs.CanonicalLaws.{found_place}

-- a variable keeps its place in a longer list
pub place_kept : (vs us : List ℕ) (v : ℕ) → Has vs v → place (vs ++ us) v ≡ place vs v
place_kept [] us v h = absurd (cc)
place_kept (w ∷ vs) us v h = elim (cases_Bool (eqb v w)) [
  | inl alike ↦ rw alike refl
  | inr other ↦ rw other (ap (option_map (λ n. suc n)) (place_kept vs us v (rw other at h)))
]

-- a new variable gets the next place
pub place_last : (vs : List ℕ) (v : ℕ) → list_any (eqb v) vs ≡ false → place (vs ++ v ∷ []) v ≡ Some (length vs)
place_last [] v h = rw (nat_eq_equiv.refl v) refl
place_last (w ∷ vs) v h =
    let apart = or_parts (eqb v w) (list_any (eqb v) vs) h in
    rw (apart.0, place_last vs v apart.1) refl

-- and no other one gets it
pub place_other : (vs : List ℕ) (v w : ℕ) → eqb w v ≡ false → place (vs ++ v ∷ []) w ≡ place vs w
place_other [] v w apart = rw apart refl
place_other (x ∷ vs) v w apart = elim (cases_Bool (eqb w x)) [
  | inl alike ↦ rw alike refl
  | inr other ↦ rw other (ap (option_map (λ n. suc n)) (place_other vs v w apart))
]

has_at : (vs : List ℕ) (k v : ℕ) → slice_get vs k ≡ Some v → Has vs v
has_at [] k v at = absurd (cc)
has_at (w ∷ vs) zero v at =
    or_left (eqb v w) (list_any (eqb v) vs) (subst (λ x. eqb v x ≡ true) (sym (same_Some w v at)) (nat_eq_equiv.refl v))
has_at (w ∷ vs) (suc k) v at = or_right (eqb v w) (list_any (eqb v) vs) (has_at vs k v at)

at_last : (vs : List ℕ) (v k w : ℕ) → slice_get (vs ++ v ∷ []) k ≡ Some w
    → (slice_get vs k ≡ Some w) ⊎ ((k ≡ length vs) × (v ≡ w))
at_last [] v zero w at = inr (refl, same_Some v w at)
at_last [] v (suc k) w at = absurd (cc)
at_last (x ∷ vs) v zero w at = inl at
at_last (x ∷ vs) v (suc k) w at = elim (at_last vs v k w at) [
  | inl old ↦ inl old
  | inr last ↦ inr (ap suc last.0, last.1)
]

once_more : (vs : List ℕ) (v : ℕ) → list_any (eqb v) vs ≡ false → IsListedOnce vs → IsListedOnce (vs ++ v ∷ [])
once_more vs v new once k w at = elim (at_last vs v k w at) [
  | inl old ↦ place_kept vs (v ∷ []) w (has_at vs k w old) ∙ once k w old
  | inr last ↦ subst (λ x. place (vs ++ v ∷ []) x ≡ Some k) last.1 (place_last vs v new ∙ ap Some (sym last.0))
]

noted_once : (o : Option ℕ) (found : List ℕ) → IsListedOnce found → IsListedOnce (noted o found)
noted_once None found once = once
noted_once (Some v) found once = elim (cases_Bool (list_any (eqb v) found)) [
  | inl old ↦ rw old once
  | inr new ↦ rw new (once_more found v new once)
]

mutual
  collect_once : (t : Tree Depth) (found : List ℕ) → IsListedOnce found → IsListedOnce (collect t found)
  collect_once (tree.param s i name) found once = once
  collect_once (tree.bound s d e) found once = once
  collect_once (tree.region r) found once = once
  collect_once (tree.term l ts) found once =
      all_once ts (noted (variable_of l) found) (noted_once (variable_of l) found once)
  collect_once (tree.node l ts) found once = all_once ts found once
  collect_once (tree.binder vs t) found once = collect_once t found once

  all_once : (ts : Forest Depth) (found : List ℕ) → IsListedOnce found → IsListedOnce (collect_all ts found)
  all_once tree.none found once = once
  all_once (tree.also t ts) found once = all_once ts (collect t found) (collect_once t found once)

-- the variables of a tree are listed once
pub variables_once : (t : Tree Depth) → IsListedOnce (variables t)
variables_once t = collect_once t [] (λ k v at. absurd (cc))

-- a variable isn't among those before it
fresh : (vs : List ℕ) (k v : ℕ) → k < length vs → slice_get vs k ≡ Some v → IsListedOnce vs
    → list_any (eqb v) (take k vs) ≡ false
fresh vs k v inside at once = by (cases_Bool (list_any (eqb v) (take k vs)))
  where
    by : (list_any (eqb v) (take k vs) ≡ true) ⊎ (list_any (eqb v) (take k vs) ≡ false)
        → list_any (eqb v) (take k vs) ≡ false
    by (inr new) = new
    by (inl old) =
        let found = found_place (take k vs) v old in
        let early : found.0 < length (take k vs) = slice_get_within (take k vs) found.0 v found.2 in
        let long : length (take k vs) ≡ k = length-take-le k vs (omega arith) in
        let here : Some found.0 ≡ Some k = sym found.1 ∙ sym (place_kept (take k vs) (drop k vs) v old)
        ∙ ap (λ us. place us v) (take-append-drop k vs) ∙ once k v at in
        let same : found.0 ≡ k = same_Some found.0 k here in
        absurd (omega (arith, early, long, same))

-- the numbers of the first variables, with one more
pub numbered_more : (vs : List ℕ) (k v d : ℕ) → k < length vs → get_or vs k d ≡ v → IsListedOnce vs → (w : ℕ)
    → with_binding (numbered (take k vs)) v (variable_tree k) w ≡ numbered (take (k + 1) vs) w
numbered_more vs k v d inside is once w =
    by (cases_Bool (eqb w v))
    ∙ sym (ap (λ us. numbered us w) (take_more vs k d inside ∙ ap (λ x. take k vs ++ x ∷ []) is))
  where
    at : slice_get vs k ≡ Some v
    at = slice_get-get_or vs k d inside ∙ ap Some is

    long : length (take k vs) ≡ k
    long = length-take-le k vs (omega arith)

    own : numbered (take k vs ++ v ∷ []) v ≡ Some (variable_tree k)
    own = ap (option_map variable_tree) (place_last (take k vs) v (fresh vs k v inside at once) ∙ ap Some long)

    by : (eqb w v ≡ true) ⊎ (eqb w v ≡ false)
        → with_binding (numbered (take k vs)) v (variable_tree k) w ≡ numbered (take k vs ++ v ∷ []) w
    by (inl alike) = rw alike (sym (ap (numbered (take k vs ++ v ∷ [])) (eqb-true w v alike) ∙ own))
    by (inr other) = rw other (ap (option_map variable_tree) (sym (place_other (take k vs) v w other)))
