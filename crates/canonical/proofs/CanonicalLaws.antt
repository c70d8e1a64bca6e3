-- Two trees have one canonical tree exactly if each is the other one with its variables renamed.
use Rattle.std.proofs.Common.{◌≡◌, refl, ℕ, suc, List, [], ◌∷◌, ◌++◌, true, false, Option, Some, None, sym, subst, ap}
use Rattle.std.proofs.Common.{◌∙◌, ◌⊎◌, inl, inr, map}
use Rattle.std.specs.Prelude.{◌↔◌, ⊤, eqb, option_map, unwrap_or, slice_get}
use Rattle.std.specs.List.{list_any}
use Rattle.std.specs.Cmp.{nat_eq_equiv}
use Rattle.std.proofs.lemmas.Bool.{cases_Bool, eqb-true}
use Rattle.tt_kinds.specs.Label.{Name, Label}
use Rattle.tt_kinds.specs.Tree as tree
use Rattle.tt_kinds.specs.Tree.{Depth, Tree, Forest}
use Rattle.unify.specs.Substitution.{Substitution, apply, apply_all, every, bound_to, or_else, variable_of}
use Rattle.unify.specs.Substitution.{variable_tree, IsWithout, AreWithout}
use Rattle.unify.proofs.OccursLaws.{IsProper, AreProper}
use Rattle.unify.proofs.SubstitutionLaws.{no_variable, variable_bound}
use Rattle.canonical.specs.Canonical.{noted, collect, collect_all, variables, place, canonical, originals, rename}
use Rattle.canonical.specs.Canonical.{AreRenamed}
use Rattle.canonical.specs.Search.{Has}
use Rattle.canonical.proofs.CollectLaws.{collect_knows}
use Rattle.canonical.proofs.RenameLaws.{applied_alike, rename_all, variable_label, renamed_fixed, renamed_stays}
use Rattle.canonical.proofs.RenameLaws.{renamed_term, renamed_twice, renamed_variable}

-- a variable that is bound to a variable, or itself if it isn't bound
abbrev pub or_own : Option ℕ → ℕ → ℕ
or_own o v = unwrap_or o v

-- the number that a variable gets, or the variable itself if it isn't in the list
abbrev pub number_of : List ℕ → ℕ → ℕ
number_of vs v = or_own (place vs v) v

-- the variable in place of which a number is, or the number itself if there is none
abbrev pub original_of : List ℕ → ℕ → ℕ
original_of vs k = or_own (slice_get vs k) k

-- on a proper tree, a substitution of variables for variables is a renaming
module _ (o : ℕ → Option ℕ) where
  abbrev σ : Substitution
  σ v = option_map variable_tree (o v)

  abbrev r : ℕ → ℕ
  r v = or_own (o v) v

  bound_term : (l : Label Name) (ts : Forest Depth) (v : ℕ) → variable_of l ≡ Some v
      → ((w : ℕ) → variable_of l ≡ Some w → ts ≡ tree.none) → (p : Option ℕ) → o v ≡ p
      → apply σ (tree.term l ts) ≡ rename r (tree.term l ts)
  bound_term l ts v is bare (Some w) e =
      let at : bound_to σ l ≡ Some (variable_tree w) = variable_bound σ l v is ∙ ap (option_map variable_tree) e in
      ap (λ b. or_else b (tree.term l (apply_all σ ts))) at
      ∙ sym (renamed_variable r l ts v is ∙ ap (λ p. variable_tree (or_own p v)) e)
  bound_term l ts v is bare None e =
      let at : bound_to σ l ≡ None = variable_bound σ l v is ∙ ap (option_map variable_tree) e in
      ap (λ b. or_else b (tree.term l (apply_all σ ts))) at
      ∙ ap (λ us. tree.term l (apply_all σ us)) (bare v is) ∙ ap (λ k. tree.term k tree.none) (variable_label l v is)
      ∙ sym (renamed_variable r l ts v is ∙ ap (λ p. variable_tree (or_own p v)) e)

  renames_term : (l : Label Name) (ts : Forest Depth) (q : Option ℕ) → variable_of l ≡ q
      → ((v : ℕ) → variable_of l ≡ Some v → ts ≡ tree.none) → apply_all σ ts ≡ rename_all r ts
      → apply σ (tree.term l ts) ≡ rename r (tree.term l ts)
  renames_term l ts None is bare below =
      ap (λ b. or_else b (tree.term l (apply_all σ ts))) (no_variable σ l is) ∙ ap (tree.term l) below
      ∙ sym (renamed_term r l ts is)
  renames_term l ts (Some v) is bare below = bound_term l ts v is bare (o v) refl

  mutual
    pub applied_renames : (t : Tree Depth) → IsProper t → apply σ t ≡ rename r t
    applied_renames (tree.param s i name) proper = refl
    applied_renames (tree.bound s d e) proper = refl
    applied_renames (tree.region x) proper = refl
    applied_renames (tree.term l ts) proper = renames_term l ts (variable_of l) refl proper.0 (all_rename ts proper.1)
    applied_renames (tree.node l ts) proper = ap (tree.node l) (all_rename ts proper)
    applied_renames (tree.binder vs t) proper = ap (tree.binder vs) (applied_renames t proper)

    all_rename : (ts : Forest Depth) → AreProper ts → apply_all σ ts ≡ rename_all r ts
    all_rename tree.none proper = refl
    all_rename (tree.also t ts) proper = rw (applied_renames t proper.0, all_rename ts proper.1) refl

-- renaming keeps trees proper
module _ (r : ℕ → ℕ) where
  proper_term : (l : Label Name) (ts : Forest Depth) (o : Option ℕ) → variable_of l ≡ o
      → ((v : ℕ) → variable_of l ≡ Some v → ts ≡ tree.none) → AreProper (rename_all r ts)
      → IsProper (rename r (tree.term l ts))
  proper_term l ts None is bare below =
      subst IsProper (sym (renamed_term r l ts is)) ((λ v some. absurd (cc)), below)
  proper_term l ts (Some v) is bare below =
      subst IsProper (sym (renamed_variable r l ts v is)) ((λ w some. refl), tt)

  mutual
    pub renamed_proper : (t : Tree Depth) → IsProper t → IsProper (rename r t)
    renamed_proper (tree.param s i name) proper = tt
    renamed_proper (tree.bound s d e) proper = tt
    renamed_proper (tree.region x) proper = tt
    renamed_proper (tree.term l ts) proper = proper_term l ts (variable_of l) refl proper.0 (all_proper ts proper.1)
    renamed_proper (tree.node l ts) proper = all_proper ts proper
    renamed_proper (tree.binder vs t) proper = renamed_proper t proper

    all_proper : (ts : Forest Depth) → AreProper ts → AreProper (rename_all r ts)
    all_proper tree.none proper = tt
    all_proper (tree.also t ts) proper = (renamed_proper t proper.0, all_proper ts proper.1)

-- the canonical tree of a proper tree is the tree, renamed
pub canonical_renames : (t : Tree Depth) → IsProper t → canonical t ≡ rename (number_of (variables t)) t
canonical_renames t proper = applied_renames (place (variables t)) t proper

-- a variable in the list has a place, at which it is
pub found_place : (vs : List ℕ) (v : ℕ) → Has vs v → (k : ℕ) × (place vs v ≡ Some k) × (slice_get vs k ≡ Some v)
found_place [] v h = absurd (cc)
found_place (w ∷ vs) v h = elim (cases_Bool (eqb v w)) [
  | inl alike ↦ (0, rw alike refl, ap Some (sym (eqb-true v w alike)))
  | inr other ↦ (let rest = found_place vs v (rw other at h) in (suc rest.0, rw (other, rest.1) refl, rest.2))
]

place_some : (vs : List ℕ) (v : ℕ) → Has vs v → place vs v ≡ None → ⊥
place_some vs v h none = let found = (found_place vs v h).1 in cc

-- and the original of its number is the variable
pub place_back : (vs : List ℕ) (v : ℕ) → Has vs v → original_of vs (number_of vs v) ≡ v
place_back vs v h =
    let found = found_place vs v h in
    let number : number_of vs v ≡ found.0 = ap (λ p. or_own p v) found.1 in
    ap (original_of vs) number ∙ ap (λ p. or_own p found.0) found.2

-- the numbers are what the variables were renamed to
pub restored : (t : Tree Depth) → IsProper t → apply (originals (variables t)) (canonical t) ≡ t
restored t proper =
    let vs = variables t in
    let n = number_of (variables t) in
    let o = original_of (variables t) in
    ap (apply (originals vs)) (canonical_renames t proper)
    ∙ applied_renames (slice_get vs) (rename n t) (renamed_proper n t proper)
    ∙ renamed_twice n o t
    ∙ renamed_stays (λ v. o (n v)) t proper (λ v. elim (collect_knows t [] v) [
      | inl there ↦ inl (place_back vs v there)
      | inr without ↦ inr without
    ])

-- a tree is one with the same canonical tree, renamed
pub renamed_from : (t u : Tree Depth) → IsProper t → IsProper u → canonical t ≡ canonical u
    → t ≡ rename (λ v. original_of (variables t) (number_of (variables u) v)) u
renamed_from t u proper proper' same =
    let n = number_of (variables u) in
    let o = original_of (variables t) in
    sym (restored t proper) ∙ ap (apply (originals (variables t))) (same ∙ canonical_renames u proper')
    ∙ applied_renames (slice_get (variables t)) (rename n u) (renamed_proper n u proper')
    ∙ renamed_twice n o u

-- trees with one canonical tree are each other, with their variables renamed
pub sound : (t u : Tree Depth) → IsProper t → IsProper u → canonical t ≡ canonical u → AreRenamed t u
sound t u proper proper' same = record {
  there = λ v. original_of (variables u) (number_of (variables t) v);
  back = λ v. original_of (variables t) (number_of (variables u) v);
  to = renamed_from u t proper' proper (sym same);
  from = renamed_from t u proper proper' same;
}

-- a renaming r that s undoes
module _ (r s : ℕ → ℕ) where
  -- each variable of the list is renamed back
  abbrev Undoes : List ℕ → Type 0
  Undoes [] = ⊤
  Undoes (v ∷ vs) = (s (r v) ≡ v) × Undoes vs

  undoes_more : (vs : List ℕ) (v : ℕ) → Undoes vs → s (r v) ≡ v → Undoes (vs ++ v ∷ [])
  undoes_more [] v h own = (own, tt)
  undoes_more (w ∷ vs) v h own = (h.0, undoes_more vs v h.1 own)

  -- variables are equal exactly if their new names are
  eqb_renamed : (v w : ℕ) → s (r v) ≡ v → s (r w) ≡ w → eqb (r v) (r w) ≡ eqb v w
  eqb_renamed v w hv hw = elim (cases_Bool (eqb v w)) [
    | inl alike ↦ (let same : v ≡ w = eqb-true v w alike in
        let there : eqb (r v) (r w) ≡ true = subst (λ x. eqb (r v) (r x) ≡ true) same (nat_eq_equiv.refl (r v)) in
        there ∙ sym alike)
    | inr other ↦ by (cases_Bool (eqb (r v) (r w))) other
  ]
    where
      by : (eqb (r v) (r w) ≡ true) ⊎ (eqb (r v) (r w) ≡ false) → eqb v w ≡ false → eqb (r v) (r w) ≡ eqb v w
      by (inr apart) other = apart ∙ sym other
      by (inl same) other =
          let one : v ≡ w = sym hv ∙ ap s (eqb-true (r v) (r w) same) ∙ hw in
          let alike : eqb v w ≡ true = subst (λ x. eqb v x ≡ true) one (nat_eq_equiv.refl v) in
          absurd (cc)

  any_renamed : (vs : List ℕ) (v : ℕ) → Undoes vs → s (r v) ≡ v
      → list_any (eqb (r v)) (map r vs) ≡ list_any (eqb v) vs
  any_renamed [] v h own = refl
  any_renamed (w ∷ vs) v h own = rw (eqb_renamed v w own h.0, any_renamed vs v h.1 own) refl

  place_renamed : (vs : List ℕ) (v : ℕ) → Undoes vs → s (r v) ≡ v → place (map r vs) (r v) ≡ place vs v
  place_renamed [] v h own = refl
  place_renamed (w ∷ vs) v h own = rw (eqb_renamed v w own h.0, place_renamed vs v h.1 own) refl

  map_more : (vs : List ℕ) (v : ℕ) → map r vs ++ r v ∷ [] ≡ map r (vs ++ v ∷ [])
  map_more [] v = refl
  map_more (w ∷ vs) v = ap (λ us. r w ∷ us) (map_more vs v)

  -- the variables of a tree are renamed back
  abbrev Restores : Tree Depth → Type 0
  Restores t = (v : ℕ) → (s (r v) ≡ v) ⊎ IsWithout v t

  abbrev RestoresAll : Forest Depth → Type 0
  RestoresAll ts = (v : ℕ) → (s (r v) ≡ v) ⊎ AreWithout v ts

  noted_undoes : (o : Option ℕ) (found : List ℕ) → Undoes found → ((v : ℕ) → o ≡ Some v → s (r v) ≡ v)
      → Undoes (noted o found)
  noted_undoes None found h own = h
  noted_undoes (Some v) found h own = elim (cases_Bool (list_any (eqb v) found)) [
    | inl old ↦ rw old h
    | inr new ↦ rw new (undoes_more found v h (own v refl))
  ]

  noted_renamed : (v : ℕ) (found : List ℕ) → Undoes found → s (r v) ≡ v
      → noted (Some (r v)) (map r found) ≡ map r (noted (Some v) found)
  noted_renamed v found h own = elim (cases_Bool (list_any (eqb v) found)) [
    | inl old ↦ rw (any_renamed found v h own, old) refl
    | inr new ↦ rw (any_renamed found v h own, new) (map_more found v)
  ]

  own_restored : (l : Label Name) (ts : Forest Depth) → Restores (tree.term l ts) → (v : ℕ) → variable_of l ≡ Some v
      → s (r v) ≡ v
  own_restored l ts h v is = elim (h v) [ inl same ↦ same | inr p ↦ absurd (p.0 is) ]

  mutual
    collect_undoes : (t : Tree Depth) (found : List ℕ) → Undoes found → Restores t → Undoes (collect t found)
    collect_undoes (tree.param x i name) found h k = h
    collect_undoes (tree.bound x d e) found h k = h
    collect_undoes (tree.region x) found h k = h
    collect_undoes (tree.term l ts) found h k =
        all_undo ts (noted (variable_of l) found) (noted_undoes (variable_of l) found h (own_restored l ts k))
        (λ v. elim (k v) [ inl same ↦ inl same | inr p ↦ inr p.1 ])
    collect_undoes (tree.node l ts) found h k = all_undo ts found h k
    collect_undoes (tree.binder vs t) found h k = collect_undoes t found h k

    all_undo : (ts : Forest Depth) (found : List ℕ) → Undoes found → RestoresAll ts → Undoes (collect_all ts found)
    all_undo tree.none found h k = h
    all_undo (tree.also t ts) found h k =
        all_undo ts (collect t found)
        (collect_undoes t found h (λ v. elim (k v) [ inl same ↦ inl same | inr p ↦ inr p.0 ]))
        (λ v. elim (k v) [ inl same ↦ inl same | inr p ↦ inr p.1 ])

  collected_term : (l : Label Name) (ts : Forest Depth) (found : List ℕ) (o : Option ℕ) → variable_of l ≡ o
      → ((v : ℕ) → variable_of l ≡ Some v → ts ≡ tree.none) → Undoes found → Restores (tree.term l ts)
      → (Undoes (noted (variable_of l) found)
      → collect_all (rename_all r ts) (map r (noted (variable_of l) found)) ≡ map r
      (collect_all ts (noted (variable_of l) found)))
      → collect (rename r (tree.term l ts)) (map r found) ≡ map r (collect (tree.term l ts) found)
  collected_term l ts found None is bare h k below =
      let there = ap (λ t. collect t (map r found)) (renamed_term r l ts is) in
      let one : noted (variable_of l) (map r found) ≡ map r (noted (variable_of l) found) = rw is refl in
      there ∙ ap (collect_all (rename_all r ts)) one
      ∙ below (noted_undoes (variable_of l) found h (own_restored l ts k))
  collected_term l ts found (Some v) is bare h k below =
      let own = own_restored l ts k v is in
      ap (λ t. collect t (map r found)) (renamed_variable r l ts v is)
      ∙ noted_renamed v found h own
      ∙ ap (λ o. map r (noted o found)) (sym is)
      ∙ ap (λ us. map r (collect_all us (noted (variable_of l) found))) (sym (bare v is))

  mutual
    -- the variables of a renamed tree are the renamed variables
    collected : (t : Tree Depth) (found : List ℕ) → IsProper t → Undoes found → Restores t
        → collect (rename r t) (map r found) ≡ map r (collect t found)
    collected (tree.param x i name) found proper h k = refl
    collected (tree.bound x d e) found proper h k = refl
    collected (tree.region x) found proper h k = refl
    collected (tree.term l ts) found proper h k =
        collected_term l ts found (variable_of l) refl proper.0 h k
        (λ more. all_collected ts (noted (variable_of l) found) proper.1 more
        (λ v. elim (k v) [ inl same ↦ inl same | inr p ↦ inr p.1 ]))
    collected (tree.node l ts) found proper h k = all_collected ts found proper h k
    collected (tree.binder vs t) found proper h k = collected t found proper h k

    all_collected : (ts : Forest Depth) (found : List ℕ) → AreProper ts → Undoes found → RestoresAll ts
        → collect_all (rename_all r ts) (map r found) ≡ map r (collect_all ts found)
    all_collected tree.none found proper h k = refl
    all_collected (tree.also t ts) found proper h k =
        let here : Restores t = λ v. elim (k v) [ inl same ↦ inl same | inr p ↦ inr p.0 ] in
        ap (collect_all (rename_all r ts)) (collected t found proper.0 h here)
        ∙ all_collected ts (collect t found) proper.1 (collect_undoes t found h here)
        (λ v. elim (k v) [ inl same ↦ inl same | inr p ↦ inr p.1 ])

  -- a renamed tree has the canonical tree of the tree itself
  pub renamed_canonical : (t : Tree Depth) → IsProper t → Restores t → canonical (rename r t) ≡ canonical t
  renamed_canonical t proper k =
      let vs = variables t in
      let listed : variables (rename r t) ≡ map r (variables t) = collected t [] proper tt k in
      let undoes = collect_undoes t [] tt k in
      canonical_renames (rename r t) (renamed_proper r t proper)
      ∙ ap (λ us. rename (number_of us) (rename r t)) listed
      ∙ renamed_twice r (number_of (map r vs)) t
      ∙ applied_alike (every (λ v. variable_tree (number_of (map r vs) (r v))))
      (every (λ v. variable_tree (number_of vs v))) t (alike undoes)
      ∙ sym (canonical_renames t proper)
    where
      one : (v : ℕ) → Undoes (variables t) → Has (variables t) v → s (r v) ≡ v → (p : Option ℕ)
          → place (variables t) v ≡ p → number_of (map r (variables t)) (r v) ≡ number_of (variables t) v
      one v h there own (Some k) e =
          ap (λ p. or_own p (r v)) (place_renamed (variables t) v h own ∙ e) ∙ sym (ap (λ p. or_own p v) e)
      one v h there own None e = absurd (place_some (variables t) v there e)

      alike : Undoes (variables t) → (v : ℕ)
          → (Some (variable_tree (number_of (map r (variables t)) (r v))) ≡ Some
          (variable_tree (number_of (variables t) v))) ⊎ IsWithout v t
      alike h v = elim (k v) [
        | inl own ↦ elim (collect_knows t [] v) [
          | inl there ↦ inl (ap (λ n. Some (variable_tree n)) (one v h there own (place (variables t) v) refl))
          | inr without ↦ inr without
        ]
        | inr without ↦ inr without
      ]

-- trees that are each other with their variables renamed have one canonical tree
pub complete : (t u : Tree Depth) → IsProper t → AreRenamed t u → canonical t ≡ canonical u
complete t u proper renamed =
    let fixed : rename (λ v. renamed.back (renamed.there v)) t ≡ t
    = sym (renamed_twice renamed.there renamed.back t) ∙ ap (rename renamed.back) (sym renamed.to) ∙ sym renamed.from in
    sym (ap canonical renamed.to ∙ renamed_canonical renamed.there renamed.back t proper
    (renamed_fixed (λ v. renamed.back (renamed.there v)) t proper fixed))

-- two trees have one canonical tree exactly if each is the other one with its variables renamed
pub one_canonical : (t u : Tree Depth) → IsProper t → IsProper u → (canonical t ≡ canonical u) ↔ AreRenamed t u
one_canonical t u proper proper' = (sound t u proper proper', complete t u proper)
