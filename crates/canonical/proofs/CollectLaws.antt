-- Which variables a walk over a tree collects.
use Rattle.std.proofs.Common.{◌≡◌, refl, ℕ, List, [], ◌∷◌, ◌++◌, true, false, Option, Some, None, sym, subst, ap, ◌∙◌}
use Rattle.std.proofs.Common.{◌⊎◌, inl, inr}
use Rattle.std.specs.Prelude.{eqb, ◌||◌}
use Rattle.std.specs.List.{list_any}
use Rattle.std.proofs.lemmas.Bool.{cases_Bool, eqb-true, or_left, or_right}
use Rattle.std.proofs.lemmas.List.Folds.{list_any-append}
use Rattle.std.proofs.lemmas.Option.{same_Some}
use Rattle.std.specs.Cmp.{nat_eq_equiv}
use Rattle.tt_kinds.specs.Tree as tree
use Rattle.tt_kinds.specs.Tree.{Depth, Tree, Forest}
use Rattle.unify.specs.Substitution.{variable_of, AreWithout}
use Rattle.canonical.specs.Canonical.{noted, collect, collect_all}
use Rattle.canonical.specs.Search.{Has, Knows}

-- the same for trees in order
abbrev pub KnowsAll : List ℕ → Forest Depth → Type 0
KnowsAll found ts = (v : ℕ) → Has found v ⊎ AreWithout v ts

-- what is in a list is in a longer one
pub has_more : (xs ys : List ℕ) (v : ℕ) → Has xs v → Has (xs ++ ys) v
has_more xs ys v h = list_any-append (eqb v) xs ys ∙ or_left (list_any (eqb v) xs) (list_any (eqb v) ys) h

-- a variable that is noted stays, and so do others
pub noted_keeps : (o : Option ℕ) (found : List ℕ) (v : ℕ) → Has found v → Has (noted o found) v
noted_keeps None found v h = h
noted_keeps (Some w) found v h = elim (cases_Bool (list_any (eqb w) found)) [
  | inl old ↦ rw old h
  | inr new ↦ rw new (has_more found (w ∷ []) v h)
]

same_last : (v : ℕ) → (eqb v v || false) ≡ true
same_last v = or_left (eqb v v) false (nat_eq_equiv.refl v)

pub noted_has : (o : Option ℕ) (found : List ℕ) (v : ℕ) → o ≡ Some v → Has (noted o found) v
noted_has None found v is = absurd (cc)
noted_has (Some w) found v is =
    let same : w ≡ v = same_Some w v is in
    subst (λ x. Has (noted (Some x) found) v) (sym same) (by (cases_Bool (list_any (eqb v) found)))
  where
    by : (list_any (eqb v) found ≡ true) ⊎ (list_any (eqb v) found ≡ false) → Has (noted (Some v) found) v
    by (inl old) = rw old old
    by (inr new) = rw new (list_any-append (eqb v) found (v ∷ []) ∙ or_right (list_any (eqb v) found) _ (same_last v))

mutual
  -- what was collected stays
  pub collect_keeps : (t : Tree Depth) (found : List ℕ) (v : ℕ) → Has found v → Has (collect t found) v
  collect_keeps (tree.param s i name) found v h = h
  collect_keeps (tree.bound s d e) found v h = h
  collect_keeps (tree.region r) found v h = h
  collect_keeps (tree.term l ts) found v h =
      all_keep ts (noted (variable_of l) found) v (noted_keeps (variable_of l) found v h)
  collect_keeps (tree.node l ts) found v h = all_keep ts found v h
  collect_keeps (tree.binder vs t) found v h = collect_keeps t found v h

  pub all_keep : (ts : Forest Depth) (found : List ℕ) (v : ℕ) → Has found v → Has (collect_all ts found) v
  all_keep tree.none found v h = h
  all_keep (tree.also t ts) found v h = all_keep ts (collect t found) v (collect_keeps t found v h)

both : {A B : Type 0} (found : List ℕ) (v : ℕ) → Has found v ⊎ A → Has found v ⊎ B → Has found v ⊎ (A × B)
both found v (inl there) second = inl there
both found v first (inl there) = inl there
both found v (inr a) (inr b) = inr (a, b)

-- the label is no variable that isn't in the list
own_known : (o : Option ℕ) (found : List ℕ) (v : ℕ) → Has (noted o found) v ⊎ (o ≡ Some v → ⊥)
own_known None found v = inr (λ is. cc)
own_known (Some w) found v = elim (cases_Bool (eqb v w)) [
  | inl alike ↦ inl (noted_has (Some w) found v (ap Some (sym (eqb-true v w alike))))
  | inr other ↦ inr (λ is. let same : w ≡ v = same_Some w v is in
      let alike : eqb v w ≡ true = subst (λ x. eqb v x ≡ true) (sym same) (nat_eq_equiv.refl v) in cc)
]

earlier : {A : Type 0} (t : Tree Depth) (found : List ℕ) (v : ℕ) → Has found v ⊎ A → Has (collect t found) v ⊎ A
earlier t found v (inl there) = inl (collect_keeps t found v there)
earlier t found v (inr a) = inr a

earlier_all : {A : Type 0} (ts : Forest Depth) (found : List ℕ) (v : ℕ) → Has found v ⊎ A
    → Has (collect_all ts found) v ⊎ A
earlier_all ts found v (inl there) = inl (all_keep ts found v there)
earlier_all ts found v (inr a) = inr a

mutual
  -- each variable of the tree is collected
  pub collect_knows : (t : Tree Depth) (found : List ℕ) → Knows (collect t found) t
  collect_knows (tree.param s i name) found v = inr tt
  collect_knows (tree.bound s d e) found v = inr tt
  collect_knows (tree.region r) found v = inr tt
  collect_knows (tree.term l ts) found v =
      both (collect_all ts (noted (variable_of l) found)) v
      (earlier_all ts (noted (variable_of l) found) v (own_known (variable_of l) found v))
      (all_knows ts (noted (variable_of l) found) v)
  collect_knows (tree.node l ts) found v = all_knows ts found v
  collect_knows (tree.binder vs t) found v = collect_knows t found v

  pub all_knows : (ts : Forest Depth) (found : List ℕ) → KnowsAll (collect_all ts found) ts
  all_knows tree.none found v = inr tt
  all_knows (tree.also t ts) found v =
      both (collect_all ts (collect t found)) v (earlier_all ts (collect t found) v (collect_knows t found v))
      (all_knows ts (collect t found) v)

noted_stays : (o : Option ℕ) (found : List ℕ) → ((v : ℕ) → Has found v ⊎ (o ≡ Some v → ⊥)) → noted o found ≡ found
noted_stays None found h = refl
noted_stays (Some w) found h = elim (h w) [ inl there ↦ rw there refl | inr other ↦ absurd (other refl) ]

mutual
  -- a tree whose variables are in the list adds none
  pub collect_stays : (t : Tree Depth) (found : List ℕ) → Knows found t → collect t found ≡ found
  collect_stays (tree.param s i name) found h = refl
  collect_stays (tree.bound s d e) found h = refl
  collect_stays (tree.region r) found h = refl
  collect_stays (tree.term l ts) found h =
      let own : noted (variable_of l) found ≡ found = noted_stays (variable_of l) found
      (λ v. elim (h v) [ inl there ↦ inl there | inr p ↦ inr p.0 ]) in
      ap (collect_all ts) own ∙ all_stay ts found (λ v. elim (h v) [ inl there ↦ inl there | inr p ↦ inr p.1 ])
  collect_stays (tree.node l ts) found h = all_stay ts found h
  collect_stays (tree.binder vs t) found h = collect_stays t found h

  pub all_stay : (ts : Forest Depth) (found : List ℕ) → KnowsAll found ts → collect_all ts found ≡ found
  all_stay tree.none found h = refl
  all_stay (tree.also t ts) found h =
      ap (collect_all ts) (collect_stays t found (λ v. elim (h v) [ inl there ↦ inl there | inr p ↦ inr p.0 ]))
      ∙ all_stay ts found (λ v. elim (h v) [ inl there ↦ inl there | inr p ↦ inr p.1 ])

-- and keeps its variables in a longer list
pub knows_more : (t u : Tree Depth) (found : List ℕ) → Knows found t → Knows (collect u found) t
knows_more t u found h v = earlier u found v (h v)
