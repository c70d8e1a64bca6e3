-- What the hooks of a folder that remembers results may do, for any task.
use Rattle.std.specs.Prelude.{◌≡◌, ℕ, suc, ◌-◌, ◌≤◌, ◌⊎◌, List, [], ◌∷◌, ◌++◌, map, IsTrue, true, false}
use Rattle.tt_index.specs.Greatest.{greatest}
use Rattle.tt_index.specs.declared.refusal.Refusal.{Refusal}
use Rattle.tt_index.specs.declared.refusal.Refusal.TheVariants.{Memory, GreatestIndex}
use Rattle.tt_kinds.specs.Label.{Name, Sort, Entry, is_type}
use Rattle.tt_kinds.specs.Tree.{Depth, Tree, Forest, param, bound, region, term, node, binder}
use Rattle.tt_kinds.specs.Count.{TypeAt}
use Rattle.tt_interner.specs.Stored.{Counters}
use Rattle.tt_visit.specs.Types.{is_type_tree}
use Rattle.tt_fold.specs.Walk.{Hooks, Answer, replace, keep, descend}
use Rattle.tt_fold.specs.Counts.{Standing}
use Rattle.tt_fold.specs.Places.{IsIn}
use Rattle.tt_fold.specs.Leaves.{with_leaves, with_leaves_all}

-- a type that was taken apart under a number of binders, and its result
pub record Memo : Type 0 where
  pub place : TypeAt
  pub result : Tree Depth

-- the state of a folder that remembers: its rule, how many binders it entered, what it keeps besides, and what it
-- remembers
pub record State (R K : Type 0) : Type 0 where
  pub rule : R
  pub under : ℕ
  pub kept : K
  pub memory : List Memo

-- the types whose results are remembered, each with the number of binders above it
abbrev pub places : List Memo → List TypeAt
places memory = map (λ m. m.place) memory

module _ {R K : Type 0} where
  -- a tree, with the number of binders that the folder entered
  abbrev pub here : State R K → Tree Depth → TypeAt
  here s t = record { standing = t; under = s.under }

  -- the same with the tree's result
  abbrev pub memo : State R K → Tree Depth → Tree Depth → Memo
  memo s t r = record { place = here s t; result = r }

  -- the state with another memory
  abbrev pub with_memory : State R K → List Memo → State R K
  with_memory s memory = record { rule = s.rule; under = s.under; kept = s.kept; memory = memory }

  -- the state one binder further in
  abbrev pub deeper : Standing (State R K) → Standing (State R K)
  deeper s = record {
    state = record { rule = s.state.rule; under = suc s.state.under; kept = s.state.kept; memory = s.state.memory };
    counters = s.counters;
  }

  -- the state one binder further out
  abbrev pub shallower : Standing (State R K) → Standing (State R K)
  shallower s = record {
    state = record { rule = s.state.rule; under = s.state.under - 1; kept = s.state.kept; memory = s.state.memory };
    counters = s.counters;
  }

  -- the state with other counts
  abbrev pub with_counts : Standing (State R K) → Counters → Standing (State R K)
  with_counts s c = record { state = s.state; counters = c }

  -- the state that keeps something else, with other counts
  abbrev pub spent : Standing (State R K) → K → Counters → Standing (State R K)
  spent s kept c = record {
    state = record { rule = s.state.rule; under = s.state.under; kept = kept; memory = s.state.memory };
    counters = c;
  }

  -- the state that remembers one more type
  abbrev pub noting : Standing (State R K) → Tree Depth → Tree Depth → Standing (State R K)
  noting s t r = record { state = with_memory s.state (s.state.memory ++ memo s.state t r ∷ []); counters = s.counters }

-- The task of a folder that remembers: R is the type of its rule, and K the type of what it keeps besides its memory.
pub record Task (R K : Type 0) : Type 1 where
  -- what takes the place of a bound variable, and of a parameter, under a number of binders
  pub variable : R → ℕ → Sort → Depth → Entry Name → Tree Depth
  pub parameter : R → ℕ → Sort → ℕ → Name → Tree Depth
  -- a further condition, which a tree under a number of binders meets if it isn't refused
  pub Allows : R → ℕ → Tree Depth → Type 0
  -- the term is entered
  pub IsEntered : R → ℕ → Tree Depth → Type 0
  -- the type has to be taken apart, if it isn't remembered
  pub IsTodo : R → ℕ → Tree Depth → Type 0
  -- the term is replaced at once: state, term, answer, and what is kept and the counts afterwards
  pub Gives : Standing (State R K) → Tree Depth → Tree Depth → K → Counters → Type 0
  -- why a region is refused
  pub RegionFails : (Tree Depth → Refusal → Type 0) → R → ℕ → Tree Depth → Refusal → Type 0
  -- why the hook fails at a term, and the state afterwards
  pub TermFails : (Tree Depth → Refusal → Type 0) → Standing (State R K) → Tree Depth → Refusal → Standing (State R K)
      → Type 0
  -- why a tree under a number of binders is refused even if all can be built and all indices fit
  pub IsCause : R → ℕ → Tree Depth → Refusal → Type 0
  -- the counts after one more descent into a type, the count of these descents, and how the counts may change
  pub count : Counters → Counters
  pub amount : Counters → ℕ
  pub Rises : Counters → Counters → Type 0

module _ {R K : Type 0} (T : Task R K) where
  -- the result of the rule for a tree under k binders
  abbrev pub made : R → ℕ → Tree Depth → Tree Depth
  made q k t = with_leaves (T.variable q) (T.parameter q) k t

  abbrev pub made_all : R → ℕ → Forest Depth → Forest Depth
  made_all q k ts = with_leaves_all (T.variable q) (T.parameter q) k ts

  -- the rule under k binders allows the tree, and gives this result
  pub record Done (q : R) (k : ℕ) (t r : Tree Depth) : Type 0 where
    pub plain : r ≡ made q k t
    pub allows : T.Allows q k t

  -- the tree is a type with parts that has to be taken apart
  abbrev pub IsTaken : R → ℕ → Tree Depth → Type 0
  IsTaken q k (param s i name) = ⊥
  IsTaken q k (bound s d e) = ⊥
  IsTaken q k (region r) = ⊥
  IsTaken q k (term l ts) = IsTrue (is_type l) × T.IsTodo q k (term l ts)
  IsTaken q k (node l ts) = ⊥
  IsTaken q k (binder vs t) = ⊥

  -- the state with one more descent counted
  abbrev pub one_more : Standing (State R K) → Standing (State R K)
  one_more s = with_counts s (T.count s.counters)

  -- the answer of the hook before a term's children
  pub data OnTerm : Standing (State R K) → Tree Depth → Answer → Standing (State R K) → Type 0 where
    -- the term is replaced at once
    given : {s : Standing (State R K)} {t r : Tree Depth} {kept : K} {c : Counters} → T.Gives s t r kept c
        → OnTerm s t (replace r) (spent s kept c)
    -- the result of the type under as many binders is remembered
    remembered : {s : Standing (State R K)} {t r : Tree Depth} → IsIn (memo s.state t r) s.state.memory
        → OnTerm s t (replace r) s
    -- the rule leaves the term as it is
    left_alone : {s : Standing (State R K)} {t : Tree Depth} → Done s.state.rule s.state.under t t → OnTerm s t keep s
    -- a type that isn't remembered is taken apart, and counted
    taken_apart : {s : Standing (State R K)} {t : Tree Depth} → IsTaken s.state.rule s.state.under t
        → (IsIn (here s.state t) (places s.state.memory) → ⊥)
        → OnTerm s t descend (one_more s)
    -- another term is entered
    gone_into : {s : Standing (State R K)} {t : Tree Depth} → is_type_tree t ≡ false
        → T.IsEntered s.state.rule s.state.under t → OnTerm s t descend s

  -- the hook after a term's children: it returns the term's result
  pub data AfterTerm : Standing (State R K) → Tree Depth → Tree Depth → Tree Depth → Standing (State R K) → Type 0 where
    -- the result of a type is remembered
    noted : {s : Standing (State R K)} {t r : Tree Depth} → is_type_tree t ≡ true → AfterTerm s t r r (noting s t r)
    -- the type was remembered before: its earlier result may be replaced
    noted_again : {s : Standing (State R K)} {t r : Tree Depth} {memory : List Memo} → is_type_tree t ≡ true
        → IsIn (here s.state t) (places s.state.memory)
        → ((m : Memo) → IsIn m memory → (m ≡ memo s.state t r) ⊎ IsIn m s.state.memory)
        → AfterTerm s t r r (record { state = with_memory s.state memory; counters = s.counters })
    -- another term isn't remembered
    not_noted : {s : Standing (State R K)} {t r : Tree Depth} → is_type_tree t ≡ false → AfterTerm s t r r s

  -- the hooks of a folder that has this task, and remembers types
  abbrev pub remembering : Hooks (Standing (State R K)) Refusal
  remembering = record {
    on_region = λ s t r s'. (s' ≡ s) × Done s.state.rule s.state.under t r;
    region_fails = λ unbuilt s t e s'. (s' ≡ s) × T.RegionFails unbuilt s.state.rule s.state.under t e;
    on_term = OnTerm;
    term_fails = T.TermFails;
    after_term = AfterTerm;
    -- the memory for the entry is refused, and the term's result is lost
    after_fails = λ unbuilt s t u e s'. (s' ≡ s) × (e ≡ Memory) × unbuilt u e;
    enter = λ s vs s'. s' ≡ deeper s;
    enter_fails = λ unbuilt s vs e s'. (s' ≡ s) × (e ≡ GreatestIndex) × (greatest ≤ s.state.under);
    leave = λ s vs s'. s' ≡ shallower s;
    leave_fails = λ unbuilt s vs e s'. ⊥;
  }
