-- The walk that skips nothing: it gives the plain result, or it ends at a refusal that it heeds.
use Rattle.std.proofs.Common.{inl, inr, ◌≡◌, ℕ, suc, ◌+◌, ◌-◌, ◌<◌, List, refl, sym, ap, subst, ◌∙◌, arith, Bool, true}
use Rattle.std.proofs.Common.{false}
use Rattle.std.specs.Prelude.{◌⊎◌, ⊤, IsTrue, Option, Some, None, Result, Ok, Err, slice_get, if◌then◌else◌}
use Rattle.std.proofs.lemmas.Bool.{cases_lt}
use Rattle.tt_index.specs.Greatest.{greatest}
use Rattle.tt_index.specs.declared.refusal.Refusal.{Refusal}
use Rattle.tt_index.specs.declared.refusal.Refusal.TheVariants.{GreatestIndex, ArgKind, RegionVariable}
use Rattle.tt_kinds.specs.Label.{Name, Sort, region_sort, type_sort, const_sort, VarKind, Entry, Label, type_label}
use Rattle.tt_kinds.specs.Label.{FreeRegion, static_region, region_var}
use Rattle.tt_kinds.specs.Tree.{Depth, Place, own, outer, apart, Tree, Forest, param, bound, region, term, node, binder}
use Rattle.tt_kinds.specs.Tree.{none, also}
use Rattle.tt_kinds.specs.Reading.{read, FitsAt, FitsUnder, FitsUnder_all}
use Rattle.tt_kinds.specs.Argument.{Argument, same_sort, of_sort}
use Rattle.tt_kinds.specs.Plain.{shift_tree, shifted_or, given_under, inst_tree, inst_forest}
use Rattle.tt_visit.specs.Root.{a_region, hooked, unhooked, term_root}
use Rattle.tt_fold.specs.Walk.{replace, keep, descend, IsRegion, IsTerm, IsPassed, Walks, Descends, WalksInside}
use Rattle.tt_fold.specs.Walk.{WalksAll, at_region, replaced, kept, descended, passed, rebuilt, at_node, at_binder}
use Rattle.tt_fold.specs.Walk.{in_term, in_param, in_bound, done, next, Fails, DescentFails, InsideFails, FailsAll}
use Rattle.tt_fold.specs.Walk.{region_failed, term_failed, descent_failed, passed_failed, enter_failed, under_failed}
use Rattle.tt_fold.specs.Walk.{leave_failed, node_failed, node_not_built, clause_lost, LosesClause, stopped}
use Rattle.tt_fold.specs.Walk.{inside_failed, not_built, after_failed, in_term_failed, here, later, no_clause, Wanted}
use Rattle.tt_fold.specs.Walk.{any_trees, wanted_in, HasUnwanted}
use Rattle.tt_fold.proofs.WantedLaws.{first-unwanted, later-unwanted, unwanted-list}
use Rattle.tt_fold.proofs.ClauseLaws.{KeepsClauses, KeepsClauses_all, list_before, rebuild-keeps_clause}
use Rattle.tt_binder.specs.Unpruned.{Replacing, further_in, further_out, value_of, value_for, value_or, become}
use Rattle.tt_binder.specs.Unpruned.{IsValueRefusal, IsLeafRefusal, IsBinderRefusal, HeedsNone, answer, unpruned_hooks}
use Rattle.tt_binder.specs.Unpruned.{all_built}

abbrev mutual
  -- the walk of the tree comes to a leaf or a binder that is refused
  pub Meets : Replacing → Tree Depth → Refusal → Type 0
  Meets m (param s i name) e = IsLeafRefusal m (param s i name) e
  Meets m (bound s d x) e = ⊥
  Meets m (region r) e = IsLeafRefusal m (region r) e
  Meets m (term l ts) e = Meets_all m ts e
  Meets m (node l ts) e = Meets_all m ts e
  Meets m (binder vs t) e = IsBinderRefusal m e ⊎ Meets (further_in m) t e

  -- the same for trees in order
  pub Meets_all : Replacing → Forest Depth → Refusal → Type 0
  Meets_all m none e = ⊥
  Meets_all m (also t ts) e = Meets m t e ⊎ Meets_all m ts e

abbrev mutual
  -- each term in the tree is of a table of terms
  pub IsRooted : Tree Depth → Type 0
  IsRooted (param s i name) = ⊤
  IsRooted (bound s d x) = ⊤
  IsRooted (region r) = ⊤
  IsRooted (term l ts) = ((term_root l ≡ hooked) ⊎ (term_root l ≡ unhooked)) × IsRooted_all ts
  IsRooted (node l ts) = IsRooted_all ts
  IsRooted (binder vs t) = IsRooted t

  -- the same for trees in order
  pub IsRooted_all : Forest Depth → Type 0
  IsRooted_all none = ⊤
  IsRooted_all (also t ts) = IsRooted t × IsRooted_all ts

-- a parameter's place in the plain result
placed_in : (o : Option (Argument Depth)) (s : Sort) (i : ℕ) (name : Name) (k : ℕ) → value_or (param s i name) k (value_of s i o) ≡ shifted_or (of_sort s o) k s i name
placed_in None s i name k = refl
placed_in (Some a) s i name k = by (same_sort s a.sort)
  where
    by : (b : Bool) → value_or (param s i name) k (if b then Ok a.value else Err (ArgKind i)) ≡ shifted_or (if b then Some a.value else None) k s i name
    by true = refl
    by false = refl

-- a parameter becomes what plain instantiation makes of it
pub param_placed : (m : Replacing) (s : Sort) (i : ℕ) (name : Name) → become m (param s i name) ≡ inst_tree m.under m.args (param s i name)
param_placed m s i name = placed_in (slice_get m.args i) s i name m.under

-- a region is a leaf
no_region : (l : Label Name) → term_root l ≡ a_region → ⊥
no_region (type_label l) is = cc
no_region _ is = cc

region_placed : (m : Replacing) (t : Tree Depth) → IsRegion t → become m t ≡ inst_tree m.under m.args t
region_placed m (param s i name) is = param_placed m s i name
region_placed m (bound s d x) is = refl
region_placed m (region r) is = refl
region_placed m (term l ts) is = absurd (no_region l is)
region_placed m (node l ts) is = absurd (no_region_node l is)
  where
    no_region_node : (l : Label Name) → IsRegion (node l ts) → ⊥
    no_region_node (type_label l) is = cc
    no_region_node _ is = cc
region_placed m (binder vs t) is = absurd (cc)

-- a leaf that is refused is met
leaf_met : (m : Replacing) (t : Tree Depth) (e : Refusal) → IsLeafRefusal m t e → Meets m t e
leaf_met m (param s i name) e h = h
leaf_met m (bound s d x) e h = h
leaf_met m (region r) e h = h
leaf_met m (term l ts) e h = absurd h
leaf_met m (node l ts) e h = absurd h
leaf_met m (binder vs t) e h = absurd h

region_leaf : (m : Replacing) (t : Tree Depth) (e : Refusal) → IsRegion t → Meets m t e → IsLeafRefusal m t e
region_leaf m (param s i name) e is h = h
region_leaf m (bound s d x) e is h = h
region_leaf m (region r) e is h = h
region_leaf m (term l ts) e is h = absurd (no_region l is)
region_leaf m (node l ts) e is h = absurd (no_region_node l is)
  where
    no_region_node : (l : Label Name) → IsRegion (node l ts) → ⊥
    no_region_node (type_label l) is = cc
    no_region_node _ is = cc
region_leaf m (binder vs t) e is h = absurd (cc)

-- what is gone into
abbrev IsInner : Tree Depth → Type 0
IsInner (param s i name) = ⊥
IsInner _ = ⊤

gone_inner : (m : Replacing) (t : Tree Depth) → descend ≡ answer m t → IsInner t
gone_inner m (param s i name) h = cc
gone_inner m _ h = tt

passed_inner : (t : Tree Depth) → IsPassed t → IsInner t
passed_inner (param region_sort i name) is = cc
passed_inner (param type_sort i name) is = cc
passed_inner (param const_sort i name) is = cc
passed_inner _ is = tt

never_kept : (m : Replacing) (t : Tree Depth) → keep ≡ answer m t → ⊥
never_kept m (param s i name) h = cc
never_kept m _ h = cc

-- a term that is replaced is a parameter, with its value
data IsReplaced (m : Replacing) : Tree Depth → Tree Depth → Type 0 where
  by_value : {s : Sort} {i : ℕ} {name : Name} {r : Tree Depth} → r ≡ become m (param s i name) → IsReplaced m (param s i name) r

is_replaced : (m : Replacing) (t r : Tree Depth) → replace r ≡ answer m t → IsReplaced m t r
is_replaced m (param s i name) r h = by_value (cc)
is_replaced m _ r h = cc

both : {t u : Tree Depth} {ts us : Forest Depth} → t ≡ u → ts ≡ us → also t ts ≡ also u us
both p q = cc

-- one binder in, and out again
in_and_out : (m m1 m2 m' : Replacing) → m1 ≡ further_in m → m2 ≡ m1 → m' ≡ further_out m2 → m' ≡ m
in_and_out m m1 m2 m' enter stays leave =
    let back : suc m.under - 1 ≡ m.under = omega arith in
    leave ∙ ap further_out (stays ∙ enter) ∙ ap (λ k. record { args = m.args; under = k }) back

module _ (heeded : Refusal → Bool) where
  -- the walk leaves its state, and gives the plain result, where nothing is met that it heeds
  pub record Does (m : Replacing) (t r : Tree Depth) (m' : Replacing) : Type 0 where
    pub stays : m' ≡ m
    pub plain : r ≡ inst_tree m.under m.args t
    pub clean : HeedsNone heeded (Meets m t)

  record DoesAll (m : Replacing) (ts us : Forest Depth) (m' : Replacing) : Type 0 where
    stays : m' ≡ m
    plain : us ≡ inst_forest m.under m.args ts
    clean : HeedsNone heeded (Meets_all m ts)

  done_replaced : (m : Replacing) (t r : Tree Depth) → IsReplaced m t r → r ≡ inst_tree m.under m.args t
  done_replaced m t r (by_value {s} {i} {name} is) = is ∙ param_placed m s i name

  replaced_clean : (m : Replacing) (t r : Tree Depth) → IsReplaced m t r → HeedsNone heeded (IsLeafRefusal m t) → HeedsNone heeded (Meets m t)
  replaced_clean m t r (by_value is) clean = clean

  mutual
    -- a walk without flags that ends well gives the plain result, leaves its state and met nothing that it heeds
    pub does : {m m' : Replacing} {t r : Tree Depth} → Walks (unpruned_hooks heeded) m t r m' → Does m t r m'
    does {m} {m'} {t} {r} (at_region is h) =
        record { stays = h.0; plain = h.1 ∙ region_placed m t is; clean = λ e heeds met. h.2 e heeds (region_leaf m t e is met) }
    does {m} {m'} {t} {r} (replaced is h) =
        let given = is_replaced m t r h.1 in
        record { stays = h.0; plain = done_replaced m t r given; clean = replaced_clean m t r given h.2 }
    does {m} {m'} {t} (kept is h) = absurd (never_kept m t h.1)
    does {m} {m'} {t} {r} (descended {s1} is h d) = does_rebuilt m d h.0 (gone_inner m t h.1)
    does {m} {m'} {t} (passed is w) = does_inside w (passed_inner t is)
    does (at_node {l} w fit) = let n = does_all w in record { stays = n.stays; plain = ap (node l) n.plain; clean = n.clean }
    does {m} {m'} (at_binder {s1} {s2} {vs} {t} {u} enter w leave) =
        let n : Does s1 t u s2 = does w in
        let stays = n.stays in
        let plain : u ≡ inst_tree (suc m.under) m.args t = subst (λ q. u ≡ inst_tree q.under q.args t) enter.0 n.plain in
        let clean : HeedsNone heeded (Meets (further_in m) t) = subst (λ q. HeedsNone heeded (Meets q t)) enter.0 n.clean in
        record {
          stays = in_and_out m s1 s2 m' enter.0 stays leave;
          plain = ap (binder vs) plain;
          clean = λ e heeds met. elim met [ inl deep ↦ enter.1 e heeds deep | inr within ↦ clean e heeds within ];
        }

    does_rebuilt : {m1 m' : Replacing} {t r : Tree Depth} (m : Replacing) → Descends (unpruned_hooks heeded) m1 t r m' → m1 ≡ m → IsInner t → Does m t r m'
    does_rebuilt {m1} {m'} {t} {r} m (rebuilt {s1} {u} w after) same inner =
        let n : Does m1 t u s1 = does_inside w inner in
        subst (λ q. Does q t r m') same (record { stays = after.0 ∙ n.stays; plain = after.1 ∙ n.plain; clean = n.clean })

    does_inside : {m m' : Replacing} {t u : Tree Depth} → WalksInside (unpruned_hooks heeded) m t u m' → IsInner t → Does m t u m'
    does_inside (in_term {l} w fit) inner = let n = does_all w in record { stays = n.stays; plain = ap (term l) n.plain; clean = n.clean }
    does_inside in_param inner = absurd inner
    does_inside in_bound inner = record { stays = refl; plain = refl; clean = λ e heeds met. met }

    does_all : {m m' : Replacing} {ts us : Forest Depth} → WalksAll (unpruned_hooks heeded) m ts us m' → DoesAll m ts us m'
    does_all done = record { stays = refl; plain = refl; clean = λ e heeds met. met }
    does_all {m} {m'} (next {s1} {t} {u} {ts} {us} w more) =
        let first : Does m t u s1 = does w in
        let after : DoesAll s1 ts us m' = does_all more in
        let rest : DoesAll m ts us m' = subst (λ q. DoesAll q ts us m') first.stays after in
        record {
          stays = rest.stays;
          plain = both first.plain rest.plain;
          clean = λ e heeds met. elim met [ inl a ↦ first.clean e heeds a | inr b ↦ rest.clean e heeds b ];
        }

-- what has to come of the children comes of them
module _ (args : List (Argument Depth)) (k : ℕ) where
  abbrev Comes : Wanted → Forest Depth → Type 0
  Comes w ts = HasUnwanted w (inst_forest k args ts) → ⊥

  comes_first : (w : Wanted) (t : Tree Depth) (ts : Forest Depth) → Comes w (also t ts) → Comes w (also t none)
  comes_first w t ts fit bad = fit (first-unwanted w (inst_tree k args t) (inst_forest k args ts) bad)

  comes_later : (w : Wanted) (t : Tree Depth) (ts : Forest Depth) → Comes w (also t ts) → Comes w ts
  comes_later w t ts fit bad = fit (later-unwanted w (inst_tree k args t) (inst_forest k args ts) bad)

  comes_inside : (l : Label Name) (ts : Forest Depth) → KeepsClauses (term l ts) → Comes (wanted_in l) ts
  comes_inside l ts keeps bad = keeps.0 (list_before (λ j d. d) (given_under args) k l ts (unwanted-list l (inst_forest k args ts) bad))

  comes_any : (ts : Forest Depth) → Comes any_trees ts
  comes_any ts bad = bad

module _ (heeded : Refusal → Bool) where
  -- a refusal is met, and heeded
  abbrev pub MeetsHeeded : Replacing → Tree Depth → Refusal → Type 0
  MeetsHeeded m t e = IsTrue (heeded e) × Meets m t e

  abbrev MeetsHeeded_all : Replacing → Forest Depth → Refusal → Type 0
  MeetsHeeded_all m ts e = IsTrue (heeded e) × Meets_all m ts e

  mutual
    -- a refusal at which the walk ends is met, and heeded
    pub met_at_end : {m m' : Replacing} {t : Tree Depth} {e : Refusal} → Fails (unpruned_hooks heeded) all_built m t e m' → KeepsClauses t → MeetsHeeded m t e
    met_at_end {m} {m'} {t} {e} (region_failed is h) keeps = (h.1, leaf_met m t e h.2)
    met_at_end {m} {m'} {t} {e} (term_failed is h) keeps = (h.1, leaf_met m t e h.2)
    met_at_end {m} {m'} {t} {e} (descent_failed {s1} is h d) keeps = subst (λ q. MeetsHeeded q t e) h.0 (met_rebuilt d keeps)
    met_at_end (passed_failed is d) keeps = met_inside d keeps
    met_at_end (enter_failed h) keeps = (h.1, inl h.2)
    met_at_end {m} {m'} (under_failed {s1} {vs} {t} {e} enter d) keeps =
        let n : MeetsHeeded (further_in m) t e = subst (λ q. MeetsHeeded q t e) enter.0 (met_at_end d keeps) in
        (n.0, inr n.1)
    met_at_end (leave_failed enter w h) keeps = absurd h
    met_at_end {m} (node_failed {l} {ts} d) keeps = met_among d (comes_any m.args m.under ts) keeps
    met_at_end (node_not_built w b) keeps = absurd b
    met_at_end {m} (clause_lost {l} {ts} w lost b) keeps =
        let never = subst (λ vs. LosesClause l ts vs) (does_all heeded w).plain lost in
        absurd (rebuild-keeps_clause (λ j d. d) (given_under m.args) m.under l ts never)

    met_rebuilt : {m m' : Replacing} {t : Tree Depth} {e : Refusal} → DescentFails (unpruned_hooks heeded) all_built m t e m' → KeepsClauses t → MeetsHeeded m t e
    met_rebuilt (inside_failed d) keeps = met_inside d keeps
    met_rebuilt (after_failed w h) keeps = absurd h

    met_inside : {m m' : Replacing} {t : Tree Depth} {e : Refusal} → InsideFails (unpruned_hooks heeded) all_built m t e m' → KeepsClauses t → MeetsHeeded m t e
    met_inside {m} (in_term_failed {l} {ts} d) keeps = met_among d (comes_inside m.args m.under l ts keeps) keeps.1
    met_inside (not_built w b) keeps = absurd b

    met_among : {w : Wanted} {m m' : Replacing} {ts : Forest Depth} {e : Refusal} → FailsAll (unpruned_hooks heeded) all_built w m ts e m' → Comes m.args m.under w ts → KeepsClauses_all ts
        → MeetsHeeded_all m ts e
    met_among (stopped b) fit keeps = absurd (b (region static_region))
    met_among (here d) fit keeps = let n = met_at_end d keeps.0 in (n.0, inl n.1)
    met_among {w} {m} (no_clause {t} {u} {ts} g bad b) fit keeps =
        let plain = (does heeded g).plain in
        absurd (comes_first m.args m.under w t ts fit (subst (λ v. HasUnwanted w (also v none)) plain bad))
    met_among {w} {m} {m'} (later {s1} {t} {u} {ts} {e} g good d) fit keeps =
        let stays = (does heeded g).stays in
        let rest : Comes s1.args s1.under w ts = subst (λ q. Comes q.args q.under w ts) (sym stays) (comes_later m.args m.under w t ts fit) in
        let n : MeetsHeeded_all m ts e = subst (λ q. MeetsHeeded_all q ts e) stays (met_among d rest keeps.1) in
        (n.0, inr n.1)

-- whether a reading fits can be told
pair_or : {A B : Type 0} → A ⊎ (A → ⊥) → B ⊎ (B → ⊥) → (A × B) ⊎ (A × B → ⊥)
pair_or (inl a) (inl b) = inl (a, b)
pair_or (inl a) (inr never) = inr (λ h. never h.1)
pair_or (inr never) other = inr (λ h. never h.0)

below_or : (n m : ℕ) → (n < m) ⊎ (n < m → ⊥)
below_or n m = elim (cases_lt n m) [ inl h ↦ inl h | inr h ↦ inr (λ g. omega (arith, h, g)) ]

place_fits_or : (k : ℕ) (p : Place) → FitsAt k p ⊎ (FitsAt k p → ⊥)
place_fits_or k (own d) = inl tt
place_fits_or k (outer j) = below_or (j + k) greatest
place_fits_or k apart = inl tt

mutual
  -- a reading fits under a number of binders, or it doesn't
  pub fits_or : (k : ℕ) (r : Tree Place) → FitsUnder k r ⊎ (FitsUnder k r → ⊥)
  fits_or k (param s i name) = inl tt
  fits_or k (bound s p x) = place_fits_or k p
  fits_or k (region r) = inl tt
  fits_or k (term l rs) = all_fit_or k rs
  fits_or k (node l rs) = all_fit_or k rs
  fits_or k (binder vs r) = pair_or (below_or k greatest) (fits_or (suc k) r)

  all_fit_or : (k : ℕ) (rs : Forest Place) → FitsUnder_all k rs ⊎ (FitsUnder_all k rs → ⊥)
  all_fit_or k none = inl tt
  all_fit_or k (also r rs) = pair_or (fits_or k r) (all_fit_or k rs)

module _ (heeded : Refusal → Bool) where
  -- one of the refusals is heeded, or none is
  data Looks (why : Refusal → Type 0) : Type 0 where
    passes : HeedsNone heeded why → Looks why
    stops : (e : Refusal) → IsTrue (heeded e) → why e → Looks why

  looks_one : (why : Refusal → Type 0) (e : Refusal) → ((r : Refusal) → why r → r ≡ e) → why e → Looks why
  looks_one why e one stands = by (heeded e) refl
    where
      by : (b : Bool) → heeded e ≡ b → Looks why
      by true heeds = stops e heeds stands
      by false unheeded = passes (λ r heeds h. let same = one r h in let heeds_it : IsTrue (heeded e) = subst (λ x. IsTrue (heeded x)) same heeds in cc)

  looks_at_value : (k : ℕ) (value : Result (Tree Depth) Refusal) → Looks (IsValueRefusal k value)
  looks_at_value k (Ok t) = elim (fits_or k (read k (shift_tree 0 k t))) [
    | inl fits ↦ passes (λ e heeds h. h.1 fits)
    | inr unfit ↦ looks_one (IsValueRefusal k (Ok t)) GreatestIndex (λ r h. h.0) (refl, unfit)
  ]
  looks_at_value k (Err e) = looks_one (IsValueRefusal k (Err e)) e (λ r h. h) refl

  looks_at_region : (m : Replacing) (r : FreeRegion Name) → Looks (IsLeafRefusal m (region r))
  looks_at_region m (region_var x) = looks_one (λ e. e ≡ RegionVariable x) (RegionVariable x) (λ r h. h) refl
  looks_at_region m _ = passes (λ e heeds h. h)

  looks_at_binder : (m : Replacing) → Looks (IsBinderRefusal m)
  looks_at_binder m = elim (cases_lt m.under greatest) [
    | inl low ↦ passes (λ e heeds h. omega (arith, low, h.1))
    | inr deep ↦ looks_one (IsBinderRefusal m) GreatestIndex (λ r h. h.0) (refl, deep)
  ]

  -- the walk gives the plain result, or ends
  pub data Goes (m : Replacing) (t : Tree Depth) : Type 0 where
    goes : Walks (unpruned_hooks heeded) m t (inst_tree m.under m.args t) m → Goes m t
    ends : (e : Refusal) (m' : Replacing) → Fails (unpruned_hooks heeded) all_built m t e m' → Goes m t

  data GoesAll (w : Wanted) (m : Replacing) (ts : Forest Depth) : Type 0 where
    all_go : WalksAll (unpruned_hooks heeded) m ts (inst_forest m.under m.args ts) m → GoesAll w m ts
    one_ends : (e : Refusal) (m' : Replacing) → FailsAll (unpruned_hooks heeded) all_built w m ts e m' → GoesAll w m ts

  region_goes : (m : Replacing) (t : Tree Depth) → IsRegion t → Looks (IsLeafRefusal m t) → Goes m t
  region_goes m t is (passes clean) = goes (at_region is (refl, sym (region_placed m t is), clean))
  region_goes m t is (stops e heeds h) = ends e m (region_failed is (refl, heeds, h))

  param_goes : (m : Replacing) (s : Sort) (i : ℕ) (name : Name) → IsTerm (param s i name) → Looks (IsLeafRefusal m (param s i name)) → Goes m (param s i name)
  param_goes m s i name is (passes clean) = goes (replaced is (refl, ap replace (sym (param_placed m s i name)), clean))
  param_goes m s i name is (stops e heeds h) = ends e m (term_failed is (refl, heeds, h))

  bound_goes : (m : Replacing) (s : Sort) (d : Depth) (x : Entry Name) → IsTerm (bound s d x) → Goes m (bound s d x)
  bound_goes m s d x is = goes (descended is (refl, refl, λ e heeds h. h) (rebuilt in_bound (refl, refl)))

  hooked_goes : (m : Replacing) (l : Label Name) (ts : Forest Depth) → term_root l ≡ hooked → Comes m.args m.under (wanted_in l) ts → GoesAll (wanted_in l) m ts → Goes m (term l ts)
  hooked_goes m l ts is fit (all_go w) = goes (descended is (refl, refl, λ e heeds h. h) (rebuilt (in_term w fit) (refl, refl)))
  hooked_goes m l ts is fit (one_ends e m' d) = ends e m' (descent_failed is (refl, refl, λ e heeds h. h) (inside_failed (in_term_failed d)))

  passed_goes : (m : Replacing) (l : Label Name) (ts : Forest Depth) → term_root l ≡ unhooked → Comes m.args m.under (wanted_in l) ts → GoesAll (wanted_in l) m ts → Goes m (term l ts)
  passed_goes m l ts is fit (all_go w) = goes (passed is (in_term w fit))
  passed_goes m l ts is fit (one_ends e m' d) = ends e m' (passed_failed is (in_term_failed d))

  node_goes : (m : Replacing) (l : Label Name) (ts : Forest Depth) → GoesAll any_trees m ts → Goes m (node l ts)
  node_goes m l ts (all_go w) = goes (at_node w (rebuild-keeps_clause (λ j d. d) (given_under m.args) m.under l ts))
  node_goes m l ts (one_ends e m' d) = ends e m' (node_failed d)

  under_goes : (m : Replacing) (vs : List (VarKind Name)) (t : Tree Depth) → HeedsNone heeded (IsBinderRefusal m) → Goes (further_in m) t → Goes m (binder vs t)
  under_goes m vs t clean (goes w) = goes (at_binder (refl, clean) w (sym (in_and_out m (further_in m) (further_in m) (further_out (further_in m)) refl refl refl)))
  under_goes m vs t clean (ends e m' d) = ends e m' (under_failed (refl, clean) d)

  binder_goes : (m : Replacing) (vs : List (VarKind Name)) (t : Tree Depth) → Looks (IsBinderRefusal m) → Goes (further_in m) t → Goes m (binder vs t)
  binder_goes m vs t (passes clean) inside = under_goes m vs t clean inside
  binder_goes m vs t (stops e heeds h) inside = ends e m (enter_failed (refl, heeds, h))

  next_goes : (w : Wanted) (m : Replacing) (t : Tree Depth) (ts : Forest Depth) → Comes m.args m.under w (also t none) → Goes m t → GoesAll w m ts → GoesAll w m (also t ts)
  next_goes w m t ts fit (ends e m' d) rest = one_ends e m' (here d)
  next_goes w m t ts fit (goes g) (all_go more) = all_go (next g more)
  next_goes w m t ts fit (goes g) (one_ends e m' d) = one_ends e m' (later g fit d)

  mutual
    -- it does one of both
    pub either : (m : Replacing) (t : Tree Depth) → IsRooted t → KeepsClauses t → Goes m t
    either m (param region_sort i name) rooted keeps = region_goes m (param region_sort i name) refl (looks_at_value m.under (value_for m region_sort i))
    either m (param type_sort i name) rooted keeps = param_goes m type_sort i name refl (looks_at_value m.under (value_for m type_sort i))
    either m (param const_sort i name) rooted keeps = param_goes m const_sort i name refl (looks_at_value m.under (value_for m const_sort i))
    either m (bound region_sort d x) rooted keeps = region_goes m (bound region_sort d x) refl (passes (λ e heeds h. h))
    either m (bound type_sort d x) rooted keeps = bound_goes m type_sort d x refl
    either m (bound const_sort d x) rooted keeps = bound_goes m const_sort d x refl
    either m (region r) rooted keeps = region_goes m (region r) refl (looks_at_region m r)
    either m (term l ts) rooted keeps =
        let fit = comes_inside m.args m.under l ts keeps in
        let inside = each_goes (wanted_in l) m ts rooted.1 keeps.1 fit in
        elim rooted.0 [ inl is ↦ hooked_goes m l ts is fit inside | inr is ↦ passed_goes m l ts is fit inside ]
    either m (node l ts) rooted keeps = node_goes m l ts (each_goes any_trees m ts rooted keeps (comes_any m.args m.under ts))
    either m (binder vs t) rooted keeps = binder_goes m vs t (looks_at_binder m) (either (further_in m) t rooted keeps)

    each_goes : (w : Wanted) (m : Replacing) (ts : Forest Depth) → IsRooted_all ts → KeepsClauses_all ts → Comes m.args m.under w ts → GoesAll w m ts
    each_goes w m none rooted keeps fit = all_go done
    each_goes w m (also t ts) rooted keeps fit =
        next_goes w m t ts (comes_first m.args m.under w t ts fit) (either m t rooted.0 keeps.0) (each_goes w m ts rooted.1 keeps.1 (comes_later m.args m.under w t ts fit))
