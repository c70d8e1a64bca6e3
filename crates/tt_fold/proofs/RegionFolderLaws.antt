-- A folder of regions asks about exactly the regions that are met, and places the answers.
use Rattle.std.proofs.Common.{◌≡◌, ℕ, suc, ◌+◌, ◌-◌, inl, inr, Bool, true, false, List, [], ◌∷◌, ◌++◌, length, take}
use Rattle.std.proofs.Common.{refl, sym, ap, subst, ◌∙◌, arith, append_assoc}
use Rattle.std.specs.Prelude.{nat_lt, if◌then◌else◌, IsTrue, not}
use Rattle.std.proofs.lemmas.List.{map-append, append-nil, length-map, length-append}
use Rattle.std.proofs.Math.Seq.{take-append-add}
use Rattle.tt_index.specs.declared.refusal.Refusal.{Refusal}
use Rattle.tt_index.specs.declared.refusal.Refusal.TheVariants.{GreatestIndex}
use Rattle.tt_kinds.specs.Label.{Name, Sort, region_sort, type_sort, const_sort, Entry, Label, type_label, const_label}
use Rattle.tt_kinds.specs.Label.{pattern_label, predicate_label, existential_label, clause_list_label, list_label}
use Rattle.tt_kinds.specs.Label.{record_label, clause_label}
use Rattle.tt_kinds.specs.Tree.{Depth, at, canonical, Tree, param, bound, region, term, node, binder, Forest, none}
use Rattle.tt_kinds.specs.Tree.{also}
use Rattle.tt_kinds.specs.Met.{Met, met_leaf, met, met_all, placed_leaf, placed, placed_all}
use Rattle.tt_kinds.specs.declared.region_kind.RegionKind.{RegionKind}
use Rattle.tt_kinds.proofs.MetLaws.{placed_all-append}
use Rattle.tt_interner.specs.Stored.{IsNoClauseList}
use Rattle.tt_interner.specs.Clauses.{is_clause_part, is_clause_inside, is_clause_tree, HasOther}
use Rattle.tt_visit.specs.Root.{a_region, hooked, unhooked}
use Rattle.tt_fold.specs.Walk.{Errors, Hooks, IsRegion, IsTerm, IsPassed, Walks, Descends, WalksInside, WalksAll}
use Rattle.tt_fold.specs.Walk.{at_region, replaced, kept, descended, passed, rebuilt, at_node, at_binder, in_term}
use Rattle.tt_fold.specs.Walk.{in_param, in_bound, done, next, Fails, DescentFails, InsideFails, FailsAll}
use Rattle.tt_fold.specs.Walk.{region_failed, term_failed, descent_failed, enter_failed, under_failed, leave_failed}
use Rattle.tt_fold.specs.Walk.{node_failed, node_not_built, clause_lost, passed_failed, inside_failed, not_built}
use Rattle.tt_fold.specs.Walk.{after_failed, in_term_failed, stopped, here, later, no_clause, Wanted, any_trees}
use Rattle.tt_fold.specs.Walk.{clause_trees, wanted_in, HasUnwanted, LosesClause}
use Rattle.tt_fold.specs.Stands.{StandsIn, StandsAmong, itself, in_term as stands_in_term, in_node as stands_in_node}
use Rattle.tt_fold.specs.Stands.{in_binder as stands_in_binder, in_first, in_later}
use Rattle.tt_fold.specs.RegionFolder.{RegionCall, asked, answered, region_tree, Asking, BindersFit, BindersFit_all}
use Rattle.tt_fold.specs.RegionFolder.{AreMade, region_hooks}
use Rattle.tt_fold.proofs.ClauseLaws.{KeepsClauses, KeepsClauses_all}
use Rattle.tt_fold.proofs.WantedLaws.{first-unwanted, later-unwanted, unwanted-list}

-- no list of two parts is empty unless both are
first-empty : {X : Type 0} (xs ys : List X) → xs ++ ys ≡ [] → xs ≡ []
first-empty [] ys h = refl
first-empty (x ∷ xs) ys h = cc

second-empty : {X : Type 0} (xs ys : List X) → xs ++ ys ≡ [] → ys ≡ []
second-empty [] ys h = h
second-empty (x ∷ xs) ys h = cc

-- a tree in which no region is met stays, whatever the answers
mutual
  -- a tree in which no region is met stays as it is, whatever the answers are
  pub placed-none : (k : ℕ) (t : Tree Depth) (answers : List (Tree Depth)) → met k t ≡ [] → placed k t answers ≡ t
  placed-none k (param s i name) answers h = ap (λ ms. placed_leaf ms (param s i name) answers) h
  placed-none k (bound s d e) answers h = ap (λ ms. placed_leaf ms (bound s d e) answers) h
  placed-none k (region r) answers h = cc
  placed-none k (term l ts) answers h = ap (term l) (placed_all-none k ts answers h)
  placed-none k (node l ts) answers h = ap (node l) (placed_all-none k ts answers h)
  placed-none k (binder vs t) answers h = ap (binder vs) (placed-none (suc k) t answers h)

  placed_all-none : (k : ℕ) (ts : Forest Depth) (answers : List (Tree Depth)) → met_all k ts ≡ [] → placed_all k ts answers ≡ ts
  placed_all-none k none answers h = refl
  placed_all-none k (also t ts) answers h =
      let first = first-empty (met k t) (met_all k ts) h in
      let second = second-empty (met k t) (met_all k ts) h in
      joined (placed-none k t _ first) (placed_all-none k ts _ second)
    where
      joined : {a : Tree Depth} {b : Forest Depth} → a ≡ t → b ≡ ts → also a b ≡ also t ts
      joined p q = cc

-- no term and no list is a region
no_region-term : (l : Label Name) (ts : Forest Depth) → IsRegion (term l ts) → ⊥
no_region-term (type_label l) ts is = cc
no_region-term (const_label l) ts is = cc
no_region-term predicate_label ts is = cc
no_region-term clause_list_label ts is = cc
no_region-term (pattern_label l) ts is = cc
no_region-term existential_label ts is = cc
no_region-term _ ts is = cc

no_region-node : (l : Label Name) (ts : Forest Depth) → IsRegion (node l ts) → ⊥
no_region-node (list_label t) ts is = cc
no_region-node (record_label l) ts is = cc
no_region-node _ ts is = cc

-- a region that is met is replaced by the first answer
placed-met : (k : ℕ) (t : Tree Depth) (m : Met) (a : Tree Depth) (answers : List (Tree Depth)) → IsRegion t → met k t ≡ m ∷ [] → placed k t (a ∷ answers) ≡ a
placed-met k (param s i name) m a answers is h = ap (λ ms. placed_leaf ms (param s i name) (a ∷ answers)) h
placed-met k (bound s d e) m a answers is h = ap (λ ms. placed_leaf ms (bound s d e) (a ∷ answers)) h
placed-met k (region r) m a answers is h = refl
placed-met k (term l ts) m a answers is h = absurd (no_region-term l ts is)
placed-met k (node l ts) m a answers is h = absurd (no_region-node l ts is)
placed-met k (binder vs t) m a answers is h = absurd (let never : IsRegion (binder vs t) = is in cc)

-- no region is met in a leaf that is none
no_region-param : (k : ℕ) (s : Sort) (i : ℕ) (name : Name) → (IsRegion (param s i name) → ⊥) → met k (param s i name) ≡ []
no_region-param k region_sort i name other = absurd (other refl)
no_region-param k type_sort i name other = refl
no_region-param k const_sort i name other = refl

no_region-bound : (k : ℕ) (s : Sort) (d : Depth) (e : Entry Name) → (IsRegion (bound s d e) → ⊥) → met k (bound s d e) ≡ []
no_region-bound k region_sort d e other = absurd (other refl)
no_region-bound k type_sort (at d) e other = either (nat_lt d k)
  where
    either : (b : Bool) → (if b then [] else met_leaf type_sort (bound type_sort (at d) e) k) ≡ []
    either true = refl
    either false = refl
no_region-bound k type_sort canonical e other = refl
no_region-bound k const_sort (at d) e other = either (nat_lt d k)
  where
    either : (b : Bool) → (if b then [] else met_leaf const_sort (bound const_sort (at d) e) k) ≡ []
    either true = refl
    either false = refl
no_region-bound k const_sort canonical e other = refl

-- what is a term is no region
term-other : (t : Tree Depth) → IsTerm t → IsRegion t → ⊥
term-other t is other = let never : hooked ≡ a_region = sym is ∙ other in cc

passed-other : (t : Tree Depth) → IsPassed t → IsRegion t → ⊥
passed-other t is other = let never : unhooked ≡ a_region = sym is ∙ other in cc

-- answers in their places leave a clause one
placed-clause_part : (k : ℕ) (t : Tree Depth) (answers : List (Tree Depth)) → is_clause_part t ≡ true → is_clause_part (placed k t answers) ≡ true
placed-clause_part k (node (record_label m) ts) answers h = h
placed-clause_part k _ answers h = cc

placed-clause_inside : (k : ℕ) (ts : Forest Depth) (answers : List (Tree Depth)) → is_clause_inside ts ≡ true → is_clause_inside (placed_all k ts answers) ≡ true
placed-clause_inside k (also (binder vs t) none) answers h = placed-clause_part (suc k) t _ h
placed-clause_inside k _ answers h = cc

placed-clause : (k : ℕ) (t : Tree Depth) (answers : List (Tree Depth)) → is_clause_tree t ≡ true → is_clause_tree (placed k t answers) ≡ true
placed-clause k (term predicate_label ts) answers h = placed-clause_inside k ts answers h
placed-clause k _ answers h = cc

-- so what is unwanted after it was so before
unwanted-before : (w : Wanted) (k : ℕ) (t : Tree Depth) (answers : List (Tree Depth)) → HasUnwanted w (also (placed k t answers) none) → HasUnwanted w (also t none)
unwanted-before any_trees k t answers h = h
unwanted-before clause_trees k t answers h = elim h [ inl a ↦ by (is_clause_tree t) refl a | inr b ↦ absurd b ]
  where
    by : (b : Bool) → is_clause_tree t ≡ b → IsTrue (not (is_clause_tree (placed k t answers))) → HasUnwanted clause_trees (also t none)
    by true e a = let never = rw (placed-clause k t answers e) at a in cc
    by false e a = inl (rw e refl)

-- nor does a clause by itself become another tree
others-before : (k : ℕ) (ts : Forest Depth) (answers : List (Tree Depth)) → HasOther (placed_all k ts answers) → HasOther ts
others-before k none answers h = h
others-before k (also t ts) answers h = elim h [
  | inl a ↦ first-unwanted clause_trees t ts (unwanted-before clause_trees k t _ (inl a))
  | inr b ↦ inr (others-before k ts _ b)
]

placed-keeps_clause : (k : ℕ) (l : Label Name) (ts : Forest Depth) (answers : List (Tree Depth)) → LosesClause l ts (placed_all k ts answers) → ⊥
placed-keeps_clause k clause_label ts answers h = h.0 (others-before k ts answers h.1)
placed-keeps_clause k _ ts answers h = h

-- why a walk ended after the answers, where `Stands` relates the walk to the tree with answers placed, and Fit says
-- that its binders fit
pub data Why (unbuilt : Tree Depth → Refusal → Type 0) (Stands : Tree Depth → List (Tree Depth) → Type 0) (Fit : Type 0) (answers : List (Tree Depth)) (e : Refusal) : Type 0 where
  all_unbuilt : ((u : Tree Depth) → unbuilt u e) → Why unbuilt Stands Fit answers e
  one_unbuilt : (u : Tree Depth) → ((more : List (Tree Depth)) → Stands u (answers ++ more)) → (IsNoClauseList u → ⊥) → unbuilt u e → Why unbuilt Stands Fit answers e
  too_deep : e ≡ GreatestIndex → (Fit → ⊥) → Why unbuilt Stands Fit answers e

why-weaker : {unbuilt : Tree Depth → Refusal → Type 0} {Stands Stands' : Tree Depth → List (Tree Depth) → Type 0} {Fit Fit' : Type 0} {answers answers' : List (Tree Depth)} {e : Refusal}
    → ((u : Tree Depth) → ((more : List (Tree Depth)) → Stands u (answers ++ more)) → (more : List (Tree Depth)) → Stands' u (answers' ++ more)) → (Fit' → Fit)
    → Why unbuilt Stands Fit answers e → Why unbuilt Stands' Fit' answers' e
why-weaker f g (all_unbuilt b) = all_unbuilt b
why-weaker f g (one_unbuilt u h fine b) = one_unbuilt u (f u h) fine b
why-weaker f g (too_deep is h) = too_deep is (λ fits. h (g fits))

-- a list of clauses that was walked holds clauses alone
list-unwanted : (l : Label Name) (us : Forest Depth) → IsNoClauseList (term l us) → HasUnwanted (wanted_in l) us
list-unwanted clause_list_label us h = h
list-unwanted _ us h = absurd h

inside-fine : {M : Type 0} {H : Hooks M Refusal} {s s' : M} {t u : Tree Depth} → WalksInside H s t u s' → IsNoClauseList u → ⊥
inside-fine (in_term {l} {us} w fit) bad = fit (list-unwanted l us bad)
inside-fine in_param bad = bad
inside-fine in_bound bad = bad

module _ {F : Type 0} (step : F → RegionKind → ℕ → RegionKind → F → Type 0) where
  AreMade-append : (f : F) (xs ys : List RegionCall) (g h : F) → AreMade step f xs g → AreMade step g ys h → AreMade step f (xs ++ ys) h
  AreMade-append f [] ys g h p q = rw p q
  AreMade-append f (x ∷ xs) ys g h p q = (p.0, p.1, AreMade-append p.0 xs ys g h p.2 q)

  -- the walk asks about the regions met in t, and r has the answers in their places
  pub record Asked (s : Asking F) (t r : Tree Depth) (s' : Asking F) : Type 0 where
    pub calls : List RegionCall
    pub made : AreMade step s.closure calls s'.closure
    pub are_met : asked s.names calls ≡ met s.under t
    pub are_placed : (more : List (Tree Depth)) → r ≡ placed s.under t (answered s.names calls ++ more)
    pub under : s'.under ≡ s.under
    pub names : s'.names ≡ s.names

  record AskedAll (s : Asking F) (ts us : Forest Depth) (s' : Asking F) : Type 0 where
    calls : List RegionCall
    made : AreMade step s.closure calls s'.closure
    are_met : asked s.names calls ≡ met_all s.under ts
    are_placed : (more : List (Tree Depth)) → us ≡ placed_all s.under ts (answered s.names calls ++ more)
    under : s'.under ≡ s.under
    names : s'.names ≡ s.names

  -- nothing is asked about a tree in which no region is met
  asks_none : (s s' : Asking F) (t : Tree Depth) → met s.under t ≡ [] → s' ≡ s → Asked s t t s'
  asks_none s s' t h same = record {
    calls = [];
    made = sym (ap (λ p. p.closure) same);
    are_met = sym h;
    are_placed = λ more. sym (placed-none s.under t more h);
    under = ap (λ p. p.under) same;
    names = ap (λ p. p.names) same;
  }

  answers-count : (s : Asking F) (calls : List RegionCall) (ms : List Met) → asked s.names calls ≡ ms → length (answered s.names calls) ≡ length ms
  answers-count s calls ms h =
      length-map calls (λ c. region_tree s.names c.answer) ∙ sym (length-map calls (λ c. record { standing = region_tree s.names c.region; under = c.depth })) ∙ ap length h

  -- the answers for a tree and for those after it
  answers-append : (s : Asking F) (xs ys : List RegionCall) (more : List (Tree Depth))
      → answered s.names (xs ++ ys) ++ more ≡ answered s.names xs ++ (answered s.names ys ++ more)
  answers-append s xs ys more =
      ap (λ l. l ++ more) (map-append (λ c. region_tree s.names c.answer) xs ys) ∙ append_assoc (answered s.names xs) (answered s.names ys) more

  asked-append : (s : Asking F) (xs ys : List RegionCall) → asked s.names (xs ++ ys) ≡ asked s.names xs ++ asked s.names ys
  asked-append s xs ys = map-append (λ c. record { standing = region_tree s.names c.region; under = c.depth }) xs ys

  -- the trees after the first are placed by the answers after those for it
  placed-next : (s : Asking F) (t : Tree Depth) (ts : Forest Depth) (xs ys : List RegionCall) (more : List (Tree Depth)) → asked s.names xs ≡ met s.under t
      → placed_all s.under (also t ts) (answered s.names (xs ++ ys) ++ more) ≡ also (placed s.under t (answered s.names xs)) (placed_all s.under ts (answered s.names ys ++ more))
  placed-next s t ts xs ys more h =
      ap (placed_all s.under (also t ts)) (answers-append s xs ys more)
      ∙ placed_all-append s.under t ts (answered s.names xs) (answered s.names ys ++ more) (answers-count s xs (met s.under t) h)

  also-is : {t u : Tree Depth} {ts us : Forest Depth} → t ≡ u → ts ≡ us → also t ts ≡ also u us
  also-is p q = cc

  mutual
    -- a walk asks about exactly the regions that are met, in order, and puts the answers in their places
    pub asks : {s s' : Asking F} {t r : Tree Depth} → Walks (region_hooks step) s t r s' → Asked s t r s'
    asks {s} {s'} (at_region {t} {r} is (inl (h, a))) = record {
      calls = record { region = a.region; depth = s.under; answer = a.answer } ∷ [];
      made = (s'.closure, a.stepped, refl);
      are_met = ap (λ x. record { standing = x; under = s.under } ∷ []) (sym a.is_region) ∙ sym h;
      are_placed = λ more. a.is_answer ∙ sym (placed-met s.under t (record { standing = t; under = s.under }) (region_tree s.names a.answer) more is h);
      under = a.under;
      names = a.names;
    }
    asks {s} {s'} (at_region {t} {r} is (inr (h, same, stays))) = rw stays (asks_none s s' t h same)
    asks (replaced is h) = absurd (elim h.1 [ inl a ↦ cc | inr b ↦ (let never = b.0 in cc) ])
    asks {s} {s'} (kept {t} is h) = elim h.1 [ inl a ↦ absurd (cc) | inr b ↦ asks_none s s' t b.1 h.0 ]
    asks (descended {t} is h d) = rw h.0 at (asks_descent d (term-other t is))
    asks (passed {t} is w) = asks_inside w (passed-other t is)
    asks {s} (at_node {l} w fit) =
        let m = asks_all w in
        record { calls = m.calls; made = m.made; are_met = m.are_met; are_placed = λ more. ap (node l) (m.are_placed more); under = m.under; names = m.names }
    asks {s} (at_binder {vs} enter w leave) =
        let m = rw enter at (asks w) in
        record {
          calls = m.calls;
          made = rw leave m.made;
          are_met = m.are_met;
          are_placed = λ more. ap (binder vs) (m.are_placed more);
          under = ap (λ p. p.under) leave ∙ ap (λ n. n - 1) m.under ∙ less_one s.under;
          names = ap (λ p. p.names) leave ∙ m.names;
        }
      where
        less_one : (n : ℕ) → suc n - 1 ≡ n
        less_one n = omega arith

    asks_descent : {s s' : Asking F} {t r : Tree Depth} → Descends (region_hooks step) s t r s' → (IsRegion t → ⊥) → Asked s t r s'
    asks_descent (rebuilt w after) other = rw (after.0, after.1) (asks_inside w other)

    asks_inside : {s s' : Asking F} {t r : Tree Depth} → WalksInside (region_hooks step) s t r s' → (IsRegion t → ⊥) → Asked s t r s'
    asks_inside (in_term {l} w fit) other =
        let m = asks_all w in
        record { calls = m.calls; made = m.made; are_met = m.are_met; are_placed = λ more. ap (term l) (m.are_placed more); under = m.under; names = m.names }
    asks_inside {s} (in_param {o} {i} {name}) other = asks_none s s (param o i name) (no_region-param s.under o i name other) refl
    asks_inside {s} (in_bound {o} {d} {e}) other = asks_none s s (bound o d e) (no_region-bound s.under o d e other) refl

    asks_all : {s s' : Asking F} {ts us : Forest Depth} → WalksAll (region_hooks step) s ts us s' → AskedAll s ts us s'
    asks_all done = record { calls = []; made = refl; are_met = refl; are_placed = λ more. refl; under = refl; names = refl }
    asks_all {s} {s'} (next {s1} {t} {u} {ts} {us} w more) =
        let m = asks w in
        let n = asks_all more in
        let met_more : asked s.names n.calls ≡ met_all s.under ts =
        subst (λ names. asked names n.calls ≡ met_all s.under ts) m.names (subst (λ k. asked s1.names n.calls ≡ met_all k ts) m.under n.are_met) in
        record {
          calls = m.calls ++ n.calls;
          made = AreMade-append s.closure m.calls n.calls s1.closure s'.closure m.made n.made;
          are_met = asked-append s m.calls n.calls ∙ ap (λ l. l ++ asked s.names n.calls) m.are_met ∙ ap (λ l. met s.under t ++ l) met_more;
          are_placed = λ rest.
              let first : u ≡ placed s.under t (answered s.names m.calls) = m.are_placed [] ∙ ap (placed s.under t) (append-nil (answered s.names m.calls)) in
              let second : us ≡ placed_all s.under ts (answered s.names n.calls ++ rest) =
              subst (λ names. us ≡ placed_all s.under ts (answered names n.calls ++ rest)) m.names
              (subst (λ k. us ≡ placed_all k ts (answered s1.names n.calls ++ rest)) m.under (n.are_placed rest)) in
              also-is first second ∙ sym (placed-next s t ts m.calls n.calls rest m.are_met);
          under = n.under ∙ m.under;
          names = n.names ∙ m.names;
        }

  module _ (errors : Errors Refusal) where
    -- the walk asks about the first regions met in t, and then ends
    pub record AskedSome (s : Asking F) (t : Tree Depth) (e : Refusal) (s' : Asking F) : Type 0 where
      pub calls : List RegionCall
      pub rest : List Met
      pub made : AreMade step s.closure calls s'.closure
      pub are_first : asked s.names calls ++ rest ≡ met s.under t
      pub why : Why errors.unbuilt (λ u answers. StandsIn u (placed s.under t answers)) (BindersFit s.under t) (answered s.names calls) e

    record AskedSomeAll (s : Asking F) (ts : Forest Depth) (e : Refusal) (s' : Asking F) : Type 0 where
      calls : List RegionCall
      rest : List Met
      made : AreMade step s.closure calls s'.closure
      are_first : asked s.names calls ++ rest ≡ met_all s.under ts
      why : Why errors.unbuilt (λ u answers. StandsAmong u (placed_all s.under ts answers)) (BindersFit_all s.under ts) (answered s.names calls) e

    -- the first answers for a tree among others
    first-answers : (s : Asking F) (t : Tree Depth) (calls : List RegionCall) (rest : List Met) (more : List (Tree Depth)) → asked s.names calls ++ rest ≡ met s.under t
        → take (length (met s.under t)) (answered s.names calls ++ more) ≡ answered s.names calls ++ take (length rest) more
    first-answers s t calls rest more h =
        let count : length (met s.under t) ≡ length (answered s.names calls) + length rest =
        sym (ap length h) ∙ length-append (asked s.names calls) rest ∙ ap (λ n. n + length rest) (sym (answers-count s calls (asked s.names calls) refl)) in
        rw count (take-append-add (answered s.names calls) more (length rest))

    mutual
      -- a walk that fails asked about the first of the regions that are met, and about no others
      pub asks_some : {s s' : Asking F} {t : Tree Depth} {e : Refusal} → Fails (region_hooks step) errors s t e s' → KeepsClauses t → AskedSome s t e s'
      asks_some (region_failed is h) keeps = absurd h
      asks_some (term_failed is h) keeps = absurd h
      asks_some (descent_failed {t} is h d) keeps = rw h.0 at (some_descent d (term-other t is) keeps)
      asks_some (passed_failed {t} is d) keeps = some_inside d (passed-other t is) keeps
      asks_some {s} (enter_failed {t} h) keeps = record {
        calls = [];
        rest = met (suc s.under) t;
        made = sym (ap (λ p. p.closure) h.0);
        are_first = refl;
        why = too_deep h.1 (λ fits. omega (arith, fits.0, h.2));
      }
      asks_some (under_failed enter d) keeps =
          let m = rw enter at (asks_some d keeps) in
          record { calls = m.calls; rest = m.rest; made = m.made; are_first = m.are_first; why = why-weaker (λ u h more. stands_in_binder (h more)) (λ fits. fits.1) m.why }
      asks_some (leave_failed enter w h) keeps = absurd h
      asks_some (node_failed d) keeps =
          let m = some_all d (λ bad. bad) keeps in
          record { calls = m.calls; rest = m.rest; made = m.made; are_first = m.are_first; why = why-weaker (λ u h more. stands_in_node (h more)) (λ fits. fits) m.why }
      asks_some {s} (node_not_built {l} {ts} {us} w b) keeps =
          let m = asks_all w in
          record {
            calls = m.calls;
            rest = [];
            made = m.made;
            are_first = append-nil (asked s.names m.calls) ∙ m.are_met;
            why = one_unbuilt (node l us) (λ more. subst (λ vs. StandsIn (node l us) (node l vs)) (m.are_placed more) itself) (λ bad. bad) b;
          }
      asks_some {s} (clause_lost {l} {ts} w lost b) keeps =
          let m = asks_all w in
          absurd (placed-keeps_clause s.under l ts _ (subst (λ vs. LosesClause l ts vs) (m.are_placed []) lost))

      some_descent : {s s' : Asking F} {t : Tree Depth} {e : Refusal} → DescentFails (region_hooks step) errors s t e s' → (IsRegion t → ⊥) → KeepsClauses t → AskedSome s t e s'
      some_descent (inside_failed d) other keeps = some_inside d other keeps
      some_descent (after_failed w a) other keeps = absurd a

      some_inside : {s s' : Asking F} {t : Tree Depth} {e : Refusal} → InsideFails (region_hooks step) errors s t e s' → (IsRegion t → ⊥) → KeepsClauses t → AskedSome s t e s'
      some_inside (in_term_failed {l} {ts} d) other keeps =
          let m = some_all d (λ bad. keeps.0 (unwanted-list l ts bad)) keeps.1 in
          record { calls = m.calls; rest = m.rest; made = m.made; are_first = m.are_first; why = why-weaker (λ u h more. stands_in_term (h more)) (λ fits. fits) m.why }
      some_inside {s} (not_built {t} {u} w b) other keeps =
          let m = asks_inside w other in
          record {
            calls = m.calls;
            rest = [];
            made = m.made;
            are_first = append-nil (asked s.names m.calls) ∙ m.are_met;
            why = one_unbuilt u (λ more. subst (λ v. StandsIn u v) (m.are_placed more) itself) (inside-fine w) b;
          }

      some_all : {w : Wanted} {s s' : Asking F} {ts : Forest Depth} {e : Refusal} → FailsAll (region_hooks step) errors w s ts e s' → (HasUnwanted w ts → ⊥) → KeepsClauses_all ts
          → AskedSomeAll s ts e s'
      some_all {s} {ts} (stopped b) fine keeps = record { calls = []; rest = met_all s.under ts; made = refl; are_first = refl; why = all_unbuilt b }
      some_all {s} (here {t} {ts} d) fine keeps =
          let m = asks_some d keeps.0 in
          record {
            calls = m.calls;
            rest = m.rest ++ met_all s.under ts;
            made = m.made;
            are_first = sym (append_assoc (asked s.names m.calls) m.rest (met_all s.under ts)) ∙ ap (λ l. l ++ met_all s.under ts) m.are_first;
            why = why-weaker (λ u h more. in_first (rw (first-answers s t m.calls m.rest more m.are_first) (h (take (length m.rest) more)))) (λ fits. fits.0) m.why;
          }
      some_all {w} (no_clause {t} {u} {ts} g bad b) fine keeps =
          let m = asks g in
          let before = unwanted-before w _ t _ (subst (λ v. HasUnwanted w (also v none)) (m.are_placed []) bad) in
          absurd (fine (first-unwanted w t ts before))
      some_all {w} {s} {s'} {e} (later {s1} {t} {u} {ts} g fit d) fine keeps =
          let a = asks g in
          let m = some_all d (λ bad. fine (later-unwanted w t ts bad)) keeps.1 in
          let first_more : asked s.names m.calls ++ m.rest ≡ met_all s.under ts =
          subst (λ names. asked names m.calls ++ m.rest ≡ met_all s.under ts) a.names (subst (λ k. asked s1.names m.calls ++ m.rest ≡ met_all k ts) a.under m.are_first) in
          let why : Why errors.unbuilt (λ v answers. StandsAmong v (placed_all s.under ts answers)) (BindersFit_all s.under ts) (answered s.names m.calls) e =
          subst (λ names. Why errors.unbuilt (λ v answers. StandsAmong v (placed_all s.under ts answers)) (BindersFit_all s.under ts) (answered names m.calls) e) a.names
          (subst (λ k. Why errors.unbuilt (λ v answers. StandsAmong v (placed_all k ts answers)) (BindersFit_all k ts) (answered s1.names m.calls) e) a.under m.why) in
          record {
            calls = a.calls ++ m.calls;
            rest = m.rest;
            made = AreMade-append s.closure a.calls m.calls s1.closure s'.closure a.made m.made;
            are_first = ap (λ l. l ++ m.rest) (asked-append s a.calls m.calls) ∙ append_assoc (asked s.names a.calls) (asked s.names m.calls) m.rest
                ∙ ap (λ l. l ++ (asked s.names m.calls ++ m.rest)) a.are_met ∙ ap (λ l. met s.under t ++ l) first_more;
            why = why-weaker (λ v h more. rw (placed-next s t ts a.calls m.calls more a.are_met) (in_later (h more))) (λ fits. fits.1) why;
          }
