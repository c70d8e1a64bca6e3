-- The walk of an instantiation that skips nothing, and its result.
use Rattle.std.specs.Prelude.{◌≡◌, ◌≢◌, ◌↔◌, ◌==◌, ℕ, suc, ◌-◌, ◌≤◌, List, [], Bool, true, false, IsTrue, if◌then◌else◌}
use Rattle.std.specs.Prelude.{Option, Some, None, Result, Ok, Err, slice_get}
use Rattle.tt_index.specs.Greatest.{greatest}
use Rattle.tt_index.specs.declared.refusal.Refusal.{Refusal}
use Rattle.tt_index.specs.declared.refusal.Refusal.TheVariants.{Memory, TableFull, GreatestIndex, NoArguments}
use Rattle.tt_index.specs.declared.refusal.Refusal.TheVariants.{ArgOutOfRange, ArgKind, RegionVariable, NotAClause}
use Rattle.tt_index.specs.declared.refusal.Refusal.TheVariants.{NoSuchAnswer}
use Rattle.tt_kinds.specs.Label.{Sort, region_var}
use Rattle.tt_kinds.specs.Tree.{Depth, Tree, param, region}
use Rattle.tt_kinds.specs.Reading.{read, FitsUnder, Fits}
use Rattle.tt_kinds.specs.Range.{IndicesFitIn}
use Rattle.tt_kinds.specs.Fitting.{BindersFit}
use Rattle.tt_kinds.specs.Argument.{Argument, same_sort, put, readings}
use Rattle.tt_kinds.specs.Plain.{shift_tree}
use Rattle.tt_kinds.specs.Cause.{Cause}
use Rattle.tt_kinds.specs.Shape.{Shape}
use Rattle.tt_interner.specs.Rows.{Row, AreRows}
use Rattle.tt_fold.specs.Steps.{IsPartOf, tree_in}
use Rattle.tt_fold.specs.Stands.{StandsIn}
use Rattle.tt_fold.specs.Walk.{Answer, replace, descend, Hooks, Walks, Errors, Fails}
use Rattle.tt_binder.specs.Instance.{IsPlain}

-- the arguments, and how many binders were entered
pub record Replacing : Type 0 where
  pub args : List (Argument Depth)
  pub under : ℕ

-- the state outside of all binders
abbrev pub outside : List (Argument Depth) → Replacing
outside args = record { args = args; under = 0 }

-- the state one binder further in
abbrev pub further_in : Replacing → Replacing
further_in m = record { args = m.args; under = suc m.under }

-- the state one binder further out
abbrev pub further_out : Replacing → Replacing
further_out m = record { args = m.args; under = m.under - 1 }

-- the value at a parameter's index: an argument of the parameter's sort, or why there is none
abbrev pub value_of : Sort → ℕ → Option (Argument Depth) → Result (Tree Depth) Refusal
value_of s i None = Err (ArgOutOfRange i)
value_of s i (Some a) = if same_sort s a.sort then Ok a.value else Err (ArgKind i)

-- a parameter's value, or why it has none
abbrev pub value_for : Replacing → Sort → ℕ → Result (Tree Depth) Refusal
value_for m s i = value_of s i (slice_get m.args i)

-- the value, shifted past k binders, in the place of the leaf, which stays if there is no value
abbrev pub value_or : Tree Depth → ℕ → Result (Tree Depth) Refusal → Tree Depth
value_or leaf k (Ok t) = shift_tree 0 k t
value_or leaf k (Err e) = leaf

-- the result of a leaf: its value replaces a parameter, and any other leaf stays
abbrev pub become : Replacing → Tree Depth → Tree Depth
become m (param s i name) = value_or (param s i name) m.under (value_for m s i)
become m t = t

-- why a value isn't placed under k binders: there is none, for this reason, or it doesn't fit when it is shifted past
-- them
abbrev pub IsValueRefusal : ℕ → Result (Tree Depth) Refusal → Refusal → Type 0
IsValueRefusal k (Ok t) e = (e ≡ GreatestIndex) × (FitsUnder k (read k (shift_tree 0 k t)) → ⊥)
IsValueRefusal k (Err r) e = e ≡ r

-- why a leaf is refused: for a parameter's value, or as a region variable
abbrev pub IsLeafRefusal : Replacing → Tree Depth → Refusal → Type 0
IsLeafRefusal m (param s i name) e = IsValueRefusal m.under (value_for m s i) e
IsLeafRefusal m (region (region_var x)) e = e ≡ RegionVariable x
IsLeafRefusal m _ e = ⊥

-- why a binder is refused: the binders around it are as many as an index can count
abbrev pub IsBinderRefusal : Replacing → Refusal → Type 0
IsBinderRefusal m e = (e ≡ GreatestIndex) × (greatest ≤ m.under)

-- none of the refusals for which there is a reason is heeded
abbrev pub HeedsNone : (Refusal → Bool) → (Refusal → Type 0) → Type 0
HeedsNone heeded why = (e : Refusal) → IsTrue (heeded e) → why e → ⊥

-- a parameter is replaced, and every other term is entered
abbrev pub answer : Replacing → Tree Depth → Answer
answer m (param s i name) = replace (become m (param s i name))
answer m _ = descend

-- The hooks of a folder that skips nothing and uses no flag. The walk ends at a refusal that the folder heeds, and goes
-- on at any other.
abbrev pub unpruned_hooks : (Refusal → Bool) → Hooks Replacing Refusal
unpruned_hooks heeded = record {
  on_region = λ m t r m'. (m' ≡ m) × (r ≡ become m t) × HeedsNone heeded (IsLeafRefusal m t);
  region_fails = λ unbuilt m t e m'. (m' ≡ m) × IsTrue (heeded e) × IsLeafRefusal m t e;
  on_term = λ m t a m'. (m' ≡ m) × (a ≡ answer m t) × HeedsNone heeded (IsLeafRefusal m t);
  term_fails = λ unbuilt m t e m'. (m' ≡ m) × IsTrue (heeded e) × IsLeafRefusal m t e;
  after_term = λ m t u r m'. (m' ≡ m) × (r ≡ u);
  after_fails = λ unbuilt m t u e m'. ⊥;
  enter = λ m vs m'. (m' ≡ further_in m) × HeedsNone heeded (IsBinderRefusal m);
  enter_fails = λ unbuilt m vs e m'. (m' ≡ m) × IsTrue (heeded e) × IsBinderRefusal m e;
  leave = λ m vs m'. m' ≡ further_out m;
  leave_fails = λ unbuilt m vs e m'. ⊥;
}

-- the meaning of errors in a fold in which all building calls succeed: there is memory for all, and room in each table
abbrev pub all_built : Errors Refusal
all_built = record { unbuilt = λ u e. ⊥; unwanted = λ e. e ≡ NotAClause }

-- the walk of a tree, from outside of each binder, gives the other tree
abbrev pub GivesUnpruned : (Refusal → Bool) → List (Argument Depth) → Tree Depth → Tree Depth → Type 0
GivesUnpruned heeded args t r = (m : Replacing) × Walks (unpruned_hooks heeded) (outside args) t r m

-- the walk ends at the refusal
abbrev pub FailsUnpruned : (Refusal → Bool) → List (Argument Depth) → Tree Depth → Refusal → Type 0
FailsUnpruned heeded args t e = (m : Replacing) × Fails (unpruned_hooks heeded) all_built (outside args) t e m

-- why plain replacement is refused, if all can be built: a cause holds, or the plain result doesn't fit
abbrev pub IsPlainReason : List (Argument Depth) → Tree Depth → Refusal → Type 0
IsPlainReason args t GreatestIndex = Fits (put (readings args) (read 0 t)) → ⊥
IsPlainReason args t e = Cause t args e

-- the two refusals are the same
abbrev pub only : Refusal → Refusal → Bool
only Memory Memory = true
only TableFull TableFull = true
only GreatestIndex GreatestIndex = true
only NoArguments NoArguments = true
only (ArgOutOfRange i) (ArgOutOfRange j) = i == j
only (ArgKind i) (ArgKind j) = i == j
only (RegionVariable x) (RegionVariable y) = x == y
only NotAClause NotAClause = true
only NoSuchAnswer NoSuchAnswer = true
only _ _ = false

-- A walk that skips nothing has the same tree and the same refusals as plain replacement with its causes, whatever the
-- walk heeds.
pub record IsUnseen (args : List (Argument Depth)) (t : Tree Depth) : Type 0 where
  -- the walk gives a tree exactly if the tree is the plain result and no heeded refusal has a reason
  pub gives : (heeded : Refusal → Bool) (r : Tree Depth) → GivesUnpruned heeded args t r ↔ IsPlain args t r
      × HeedsNone heeded (IsPlainReason args t)
  -- a refusal at which the walk ends is heeded and has a reason
  pub refused : (heeded : Refusal → Bool) (e : Refusal) → FailsUnpruned heeded args t e → IsTrue (heeded e)
      × IsPlainReason args t e
  -- if a heeded refusal has a reason, the walk ends at a refusal
  pub ends : (heeded : Refusal → Bool) (e : Refusal) → IsTrue (heeded e) → IsPlainReason args t e → (found : Refusal)
      × FailsUnpruned heeded args t found
  -- a walk that heeds one refusal alone ends at this refusal exactly if the refusal has a reason
  pub meets : (e : Refusal) → FailsUnpruned (only e) args t e ↔ IsPlainReason args t e

-- no region inference variable occurs in the tree, exposed or hidden
abbrev pub HoldsNoRegionVar : Tree Depth → Type 0
HoldsNoRegionVar t = (x : ℕ) → StandsIn (region (region_var x)) t → ⊥

-- The walk over the tree of an interner's value that skips nothing gives the tree that plain replacement gives, and
-- ends for the same reasons. The premises: there is an argument, the value holds no region variable, its binders fit,
-- and so do the indices that it has beside its handles.
abbrev pub PruningIsUnseen : Type 0
PruningIsUnseen = (rows : List Row) (args : List (Argument Depth)) (s : Shape) → AreRows rows → IsPartOf rows s
    → args ≢ []
    → HoldsNoRegionVar (tree_in rows s) → IndicesFitIn s → BindersFit 0 (tree_in rows s)
    → IsUnseen args (tree_in rows s)
