-- The hooks of a folder that replaces types and remembers their results.
use Rattle.std.specs.Prelude.{◌≡◌, ◌⊎◌, List, [], ◌∷◌, true, false, ⊤}
use Rattle.tt_kinds.specs.Tree.{Depth, Tree}
use Rattle.tt_kinds.specs.Count.{TypeAt}
use Rattle.tt_kinds.specs.Shape.{Shape}
use Rattle.tt_interner.specs.Rows.{Row}
use Rattle.tt_interner.specs.Stored.{Counters}
use Rattle.tt_visit.specs.Data.{no_handles}
use Rattle.tt_visit.specs.Types.{is_type_tree}
use Rattle.tt_fold.specs.Walk.{Hooks, Answer, replace, descend}
use Rattle.tt_fold.specs.Counts.{Standing}
use Rattle.tt_fold.specs.Places.{IsIn, AreDistinct}
use Rattle.tt_fold.specs.Remember.{Memo, State, places}
use Rattle.tt_fold.specs.Stands.{StandsIn}
use Rattle.tt_fold.specs.Types.{TypeHooks, only_types}

-- the meaning of a folder's state with the interner's counts
abbrev pub with_counters : {M : Type 0} → M → Counters → Standing M
with_counters m c = record { state = m; counters = c }

-- equal states with equal memories are equal
pub recalls-same : {M : Type 0} {m m1 : M} {memory memory1 : List Memo} → m1 ≡ m → memory1 ≡ memory
    → ◌≡◌ {A = State M ⊤} (record { rule = m1; under = 0; kept = tt; memory = memory1 })
    (record { rule = m; under = 0; kept = tt; memory = memory })
recalls-same same known = cc

-- the folder's state means the same after each answer, so its result depends on the type alone
abbrev pub KeepsState : {M E : Type 0} → TypeHooks (Standing M) E → Type 0
KeepsState {M} H = (s s' : Standing M) (t : Tree Depth) (a : Answer) → H.on_type s t a s' → s'.state ≡ s.state

-- the folder's state has only one meaning, since it holds no handles, or means the same after each answer
abbrev pub IsSteady : {M E S : Type 0} → (S → Shape) → TypeHooks (Standing M) E → Type 0
IsSteady {M} {E} {S} shape H = ((s : S) → shape s ≡ no_handles) ⊎ KeepsState H

-- m is what a state of the folder means, among some rows
pub record IsMeaning {M S : Type 0} (means : List Row → S → M) (m : M) : Type 0 where
  pub rows : List Row
  pub folder : S
  pub same : m ≡ means rows folder

-- a type, as it is remembered: no hook depends on binders, so none are counted
abbrev pub noted_at : Tree Depth → TypeAt
noted_at t = record { standing = t; under = 0 }

-- a type and its result, as they are remembered
abbrev pub noted_with : Tree Depth → Tree Depth → Memo
noted_with t r = record { place = noted_at t; result = r }

-- the type occurs in the tree
pub record IsTypeOf (t u : Tree Depth) : Type 0 where
  pub is_type : is_type_tree u ≡ true
  pub occurs : StandsIn u t

module _ {M E : Type 0} (H : TypeHooks (Standing M) E) (m : M) where
  -- what the hook may do in the state m, whatever the counts are
  abbrev pub steady_types : TypeHooks ⊤ E
  steady_types = record {
    on_type = λ s t a s'. (c : Counters) × (c' : Counters) × H.on_type (with_counters m c) t a (with_counters m c');
    type_fails = λ unbuilt s t e s'. (c : Counters) × (s_end : Standing M)
        × H.type_fails unbuilt (with_counters m c) t e s_end;
  }

  -- the hooks of a folder that replaces types alone, by this hook
  abbrev pub steadily : Hooks ⊤ E
  steadily = only_types steady_types

  -- All calls of the hook, one after the other, took the counts from c to c'. The list has the types at which the hook
  -- answered `descend`, one for each such answer.
  pub data Calls : Counters → List (Tree Depth) → Counters → Type 0 where
    no_more : {c : Counters} → Calls c [] c
    takes_apart : {c c1 c' : Counters} {t : Tree Depth} {ts : List (Tree Depth)}
        → H.on_type (with_counters m c) t descend (with_counters m c1) → Calls c1 ts c' → Calls c (t ∷ ts) c'
    goes_on : {c c1 c' : Counters} {t : Tree Depth} {a : Answer} {ts : List (Tree Depth)}
        → (a ≡ descend → ⊥) → H.on_type (with_counters m c) t a (with_counters m c1) → Calls c1 ts c' → Calls c ts c'

  -- The hook's calls took the counts from c to c', and no type was taken apart twice. The list has the types that were
  -- taken apart, and each of them occurs in the tree.
  pub record CallsOnce (t : Tree Depth) (c c' : Counters) : Type 0 where
    pub types : List (Tree Depth)
    pub calls : Calls c types c'
    pub distinct : AreDistinct types
    pub each : (u : Tree Depth) → IsIn u types → IsTypeOf t u

  -- the hook was called once more, at a type of the tree, and failed with the error
  pub record FailsAt (unbuilt : Tree Depth → E → Type 0) (t : Tree Depth) (c : Counters) (e : E) (c' : Counters)
      : Type 0 where
    pub type : Tree Depth
    pub of_tree : IsTypeOf t type
    pub end : Standing M
    pub fails : H.type_fails unbuilt (with_counters m c) type e end
    pub counters : c' ≡ end.counters

  -- the same as `CallsOnce` for a fold that an error ends: one more call may have failed with this error
  pub record FailsOnce (unbuilt : Tree Depth → E → Type 0) (t : Tree Depth) (c : Counters) (e : E) (c' : Counters)
      : Type 0 where
    pub before : Counters
    pub once : CallsOnce t c before
    pub last : (c' ≡ before) ⊎ FailsAt unbuilt t before e c'

module _ {M E S : Type 0} (means : List Row → S → M) (H : TypeHooks (Standing M) E) where
  -- the answer at a type: its remembered result, or the folder's own answer if none is remembered
  pub data OnType : Standing (State M ⊤) → Tree Depth → Answer → Standing (State M ⊤) → Type 0 where
    recalled : {s : Standing (State M ⊤)} {t r : Tree Depth} → IsIn (noted_with t r) s.state.memory
        → OnType s t (replace r) s
    answered : {s : Standing (State M ⊤)} {t : Tree Depth} {a : Answer} {q : Standing M}
        → (IsIn (noted_at t) (places s.state.memory) → ⊥)
        → IsMeaning means q.state → H.on_type (with_counters s.state.rule s.counters) t a q
        → OnType s t a (record {
          state = record {
            rule = q.state;
            under = s.state.under;
            kept = s.state.kept;
            memory = s.state.memory;
          };
          counters = q.counters;
        })

  -- the result of a type is noted: nothing else is newly remembered, and no type is forgotten
  pub record Noted (s : Standing (State M ⊤)) (t r : Tree Depth) (s' : Standing (State M ⊤)) : Type 0 where
    pub rule : s'.state.rule ≡ s.state.rule
    pub counters : s'.counters ≡ s.counters
    pub each : (m : Memo) → IsIn m s'.state.memory → (m ≡ noted_with t r) ⊎ IsIn m s.state.memory
    pub noted : IsIn (noted_at t) (places s'.state.memory)
    pub older : (p : TypeAt) → IsIn p (places s.state.memory) → IsIn p (places s'.state.memory)

  -- the hooks of a folder that replaces types and remembers their results
  abbrev pub recalling : Hooks (Standing (State M ⊤)) E
  recalling = record {
    on_region = λ s t r s'. (r ≡ t) × (s' ≡ s);
    region_fails = λ unbuilt s t e s'. ⊥;
    on_term = λ s t a s'. (is_type_tree t ≡ true → OnType s t a s')
        × (is_type_tree t ≡ false → (a ≡ descend) × (s' ≡ s));
    term_fails = λ unbuilt s t e s'. (is_type_tree t ≡ true)
        × ((s_end : Standing M) × H.type_fails unbuilt (with_counters s.state.rule s.counters) t e s_end
        × (s'.counters ≡ s_end.counters));
    after_term = λ s t u r s'. (r ≡ u) × (is_type_tree t ≡ true → Noted s t r s') × (is_type_tree t ≡ false → s' ≡ s);
    after_fails = λ unbuilt s t u e s'. (s'.counters ≡ s.counters) × unbuilt u e;
    enter = λ s vs s'. s' ≡ s;
    enter_fails = λ unbuilt s vs e s'. ⊥;
    leave = λ s vs s'. s' ≡ s;
    leave_fails = λ unbuilt s vs e s'. ⊥;
  }
