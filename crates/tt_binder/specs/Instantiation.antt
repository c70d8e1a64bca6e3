-- The fold of trees by the argument folder.
use Rattle.std.specs.Prelude.{◌≡◌, ℕ, ◌<◌, ◌≤◌, List, [], Bool, true, false, IsTrue, ⊤}
use Rattle.std.specs.Bool.{OnTrue}
use Rattle.tt_index.specs.declared.refusal.Refusal.{Refusal}
use Rattle.tt_index.specs.declared.refusal.Refusal.TheVariants.{GreatestIndex}
use Rattle.tt_kinds.specs.Label.{Name, Sort, const_sort, Label, const_label, is_type_or_clause}
use Rattle.tt_kinds.specs.Count.{is_type_sort}
use Rattle.tt_kinds.specs.Tree.{Depth, Tree, param, bound, term}
use Rattle.tt_kinds.specs.Reading.{read, FitsUnder}
use Rattle.tt_kinds.specs.Argument.{Argument}
use Rattle.tt_kinds.specs.Plain.{given_under, inst_tree}
use Rattle.tt_kinds.specs.Param.{IsAnswered, IsGeneric_among}
use Rattle.tt_kinds.specs.Cause.{HidesRegionVars, Cause}
use Rattle.tt_interner.specs.Stored.{Counters, counted}
use Rattle.tt_fold.specs.Counts.{Standing}
use Rattle.tt_fold.specs.Stands.{StandsIn}
use Rattle.tt_fold.specs.Walk.{Hooks}
use Rattle.tt_fold.specs.Places.{IsIn, CountsPairs}
use Rattle.tt_fold.specs.Leaves.{reindexed}
use Rattle.tt_fold.specs.Remember.{State, Task, Done, remembering}
use Rattle.tt_binder.specs.Shifted.{param_at}
use Rattle.tt_binder.specs.Sharing.{IsParamIn, moving_at}
use Rattle.tt_binder.specs.declared.shifted.ParamAt.{ParamAt}

-- the arguments of the folder, and the parameters whose shifted arguments it remembers
abbrev pub Args : Type 0
Args = List (Argument Depth)

abbrev pub Kept : Type 0
Kept = List ParamAt

-- the meaning of the folder's state: the arguments, how many binders it entered, its shifts, and its memory
abbrev pub Instantiation : Type 0
Instantiation = State Args Kept

-- the state of a new folder: no binder is entered, and nothing is remembered
abbrev pub at_first : Args → Instantiation
at_first args = record { rule = args; under = 0; kept = []; memory = [] }

-- each parameter has an argument, and no region variable is exposed
pub record IsInstantiable (args : Args) (t : Tree Depth) : Type 0 where
  pub answered : IsAnswered args t
  pub hides : HidesRegionVars t

-- why a leaf under k binders is refused: for a cause; or, if there are binders to shift past, because a tree in the
-- shifted argument isn't built, or because the shifted argument doesn't fit
pub data LeafRefuses (unbuilt : Tree Depth → Refusal → Type 0) (args : Args) (k : ℕ) (t : Tree Depth) (e : Refusal)
    : Type 0 where
  for_cause : Cause t args e → LeafRefuses unbuilt args k t e
  shift_unbuilt : 0 < k → (u : Tree Depth) → StandsIn u (inst_tree k args t) → unbuilt u e
      → LeafRefuses unbuilt args k t e
  shift_too_far : 0 < k → e ≡ GreatestIndex → (FitsUnder k (read k (inst_tree k args t)) → ⊥)
      → LeafRefuses unbuilt args k t e

-- the shifter's count may be n after an argument's shift: it stays if the argument is placed under no binder
abbrev pub IsShiftCount : Standing Instantiation → ℕ → Type 0
IsShiftCount s n = (s.counters.shift_descents ≤ n) × (s.state.under ≡ 0 → n ≡ s.counters.shift_descents)

-- the tree is a type, a predicate or a list of clauses
abbrev pub IsTypeOrClause : Tree Depth → Type 0
IsTypeOrClause (param s i name) = IsTrue (is_type_sort s)
IsTypeOrClause (bound s d e) = IsTrue (is_type_sort s)
IsTypeOrClause (term l ts) = IsTrue (is_type_or_clause l)
IsTypeOrClause _ = ⊥

-- the label is a label of a constant
abbrev pub is_const : Label Name → Bool
is_const (const_label l) = true
is_const _ = false

-- the tree is a constant that is not a parameter
abbrev pub IsInnerConst : Tree Depth → Type 0
IsInnerConst (bound s d e) = s ≡ const_sort
IsInnerConst (term l ts) = IsTrue (is_const l)
IsInnerConst _ = ⊥

-- neither count falls
pub record Rises (c c' : Counters) : Type 0 where
  pub descents : c.descents ≤ c'.descents
  pub shift_descents : c.shift_descents ≤ c'.shift_descents

-- the tree is entered: a bound variable, or a term; a type, a predicate or a list of clauses only if it holds a
-- parameter
abbrev pub IsGoneInto : Tree Depth → Type 0
IsGoneInto (bound s d e) = ⊤
IsGoneInto (term l ts) = OnTrue (is_type_or_clause l) (IsGeneric_among ts)
IsGoneInto _ = ⊥

-- the type holds a parameter, and is not one
abbrev pub IsGenericTerm : Tree Depth → Type 0
IsGenericTerm (term l ts) = IsGeneric_among ts
IsGenericTerm _ = ⊥

-- the tree is a parameter
abbrev pub IsAnyParam : Tree Depth → Type 0
IsAnyParam (param o i name) = ⊤
IsAnyParam _ = ⊥

-- a parameter's argument takes the parameter's place, shifted past the k binders above it
pub record IsArgument (args : Args) (k : ℕ) (t r : Tree Depth) : Type 0 where
  pub param : IsAnyParam t
  pub plain : r ≡ inst_tree k args t
  pub allows : IsInstantiable args t

-- a shift is remembered for the parameter from now on, and was not before
pub record IsKeptNow (p : ParamAt) (kept kept' : Kept) : Type 0 where
  pub new : IsIn p kept → ⊥
  pub there : IsIn p kept'
  pub older : (q : ParamAt) → IsIn q kept → IsIn q kept'

-- the argument replaces the parameter at once: unshifted, as remembered, or shifted now, which the shifter counts
pub data PutsArgument (args : Args) (k : ℕ) (t r : Tree Depth) : Kept → Counters → Kept → Counters → Type 0 where
  as_it_is : {kept : Kept} {c : Counters} → IsArgument args k t r → PutsArgument args k t r kept c kept c
  shifted_now : {kept kept' : Kept} {c : Counters} (i n : ℕ) → IsArgument args k t r → IsParamIn (param_at i k) k t
      → 0 < k → IsKeptNow (param_at i k) kept kept'
      → c.shift_descents ≤ n → CountsPairs (moving_at args i) c.shift_descents n
      → PutsArgument args k t r kept c kept' (record { descents = c.descents; shift_descents = n })

-- the task of replacing parameters by arguments, in which each type that holds a parameter is taken apart
abbrev pub instantiation : Task Args Kept
instantiation = record {
  variable = λ args. reindexed (λ j d. d);
  parameter = given_under;
  Allows = λ args k t. IsInstantiable args t;
  IsEntered = λ args k t. IsGoneInto t;
  IsTodo = λ args k t. IsGenericTerm t;
  Gives = λ s t r kept c. PutsArgument s.state.rule s.state.under t r s.state.kept s.counters kept c;
  RegionFails = LeafRefuses;
  TermFails = λ unbuilt s t e s'. (s'.counters.descents ≡ s.counters.descents)
      × IsShiftCount s s'.counters.shift_descents
      × LeafRefuses unbuilt s.state.rule s.state.under t e;
  IsCause = λ args k t e. Cause t args e;
  count = λ c. record { descents = counted c.descents; shift_descents = c.shift_descents };
  amount = λ c. c.descents;
  Rises = Rises;
}

-- the result is the tree instantiated, each parameter has an argument, and no region variable is exposed
abbrev pub Instantiates : Args → ℕ → Tree Depth → Tree Depth → Type 0
Instantiates args k t r = Done instantiation args k t r

-- the folder's hooks
abbrev pub arg_hooks : Hooks (Standing Instantiation) Refusal
arg_hooks = remembering instantiation

-- the tree is a parameter under no binder: its argument replaces it unshifted
abbrev pub IsOpenParam : ℕ → Tree Depth → Type 0
IsOpenParam binders_passed (param o i name) = binders_passed ≡ 0
IsOpenParam binders_passed _ = ⊥
