-- The fold of trees by the folder that opens a binder.
use Rattle.std.specs.Prelude.{◌≡◌, ℕ, ◌<◌, ◌≤◌, ◌-◌, List, nat_lt, if◌then◌else◌, ⊤}
use Rattle.tt_index.specs.declared.refusal.Refusal.{Refusal}
use Rattle.tt_index.specs.declared.refusal.Refusal.TheVariants.{GreatestIndex}
use Rattle.tt_kinds.specs.Label.{type_sort, const_sort}
use Rattle.tt_kinds.specs.Tree.{Depth, Tree}
use Rattle.tt_kinds.specs.Reading.{read, keep, outer_binder, FitsUnder}
use Rattle.tt_kinds.specs.Kinds.{ty_shape, const_shape}
use Rattle.tt_kinds.specs.Handle.{Ty, Const}
use Rattle.tt_kinds.specs.declared.bound.BoundVarIndexKind.{BoundVarIndexKind}
use Rattle.tt_kinds.specs.declared.bound.BoundVarIndexKind.TheVariants.{Bound, Canonical}
use Rattle.tt_kinds.specs.declared.generic_arg.GenericArgKind.{GenericArgKind}
use Rattle.tt_interner.specs.Rows.{Row}
use Rattle.tt_interner.specs.Stored.{counted}
use Rattle.tt_fold.specs.Counts.{Standing}
use Rattle.tt_fold.specs.Stands.{StandsIn}
use Rattle.tt_fold.specs.Walk.{Hooks}
use Rattle.tt_fold.specs.Memory.{memos, OwnsMemos}
use Rattle.tt_fold.specs.Remember.{State, Task, remembering}
use Rattle.tt_fold.specs.Shift.{IsVariable}
use Rattle.tt_fold.specs.declared.memory.Place.{Place}
use Rattle.tt_interner.specs.Arguments.{AreArguments, arguments}
use Rattle.tt_binder.specs.Shifted.{OwnsShifts}
use Rattle.tt_binder.specs.Instantiation.{Args, Rises}
use Rattle.tt_binder.specs.Opening.{open_variable, open_tree, IsGiven, OpeningCause}
use Rattle.tt_binder.specs.declared.shifted.ParamAt.{ParamAt}

-- the meaning of the folder's state: the arguments, how many binders it entered, and its memory
abbrev pub Opening : Type 0
Opening = State Args ⊤

-- the state with these arguments under k binders
abbrev pub opening_state : List Row → List GenericArgKind → ℕ → List (Place × Ty) → Opening
opening_state rows items k memory = record {
  rule = arguments rows items;
  under = k;
  kept = tt;
  memory = memos rows memory;
}

-- the index that a variable under k binders of the contents has outside of the opened binder, if it isn't this binder's
-- own
abbrev pub index_outside : ℕ → BoundVarIndexKind → BoundVarIndexKind
index_outside k (Bound d) = Bound (if nat_lt d k then d else d - 1)
index_outside k Canonical = Canonical

-- r is the opened tree of t, which is under k binders, and each own variable of the opened binder has an argument
pub record OpensTree (args : Args) (k : ℕ) (t r : Tree Depth) : Type 0 where
  pub plain : r ≡ open_tree k args t
  pub given : IsGiven args k t

-- why a tree under k binders isn't opened: for a cause, because a tree in the opened tree isn't built, or because the
-- opened tree doesn't fit
pub data OpeningRefuses (unbuilt : Tree Depth → Refusal → Type 0) (args : Args) (k : ℕ) (t : Tree Depth) (e : Refusal)
    : Type 0 where
  for_cause : OpeningCause args k t e → OpeningRefuses unbuilt args k t e
  not_built : (u : Tree Depth) → StandsIn u (open_tree k args t) → unbuilt u e → OpeningRefuses unbuilt args k t e
  too_great : e ≡ GreatestIndex → (FitsUnder k (read k (open_tree k args t)) → ⊥) → OpeningRefuses unbuilt args k t e

-- the task of opening a binder, in which each type with a variable that is bound by the binder or outside of it is
-- taken apart
abbrev pub opening : Task Args ⊤
opening = record {
  variable = open_variable;
  parameter = λ args. keep;
  Allows = IsGiven;
  IsEntered = λ args k t. IsVariable t → ⊥;
  IsTodo = λ args k t. k < outer_binder t;
  Gives = λ s t r kept c. IsVariable t × OpensTree s.state.rule s.state.under t r × (c.descents ≡ s.counters.descents)
      × (s.counters.shift_descents ≤ c.shift_descents);
  RegionFails = OpeningRefuses;
  TermFails = λ unbuilt s t e s'. (s'.counters.descents ≡ s.counters.descents)
      × (s.counters.shift_descents ≤ s'.counters.shift_descents)
      × OpeningRefuses unbuilt s.state.rule s.state.under t e;
  IsCause = OpeningCause;
  count = λ c. record { descents = counted c.descents; shift_descents = c.shift_descents };
  amount = λ c. c.descents;
  Rises = Rises;
}

-- the folder's hooks
abbrev pub opening_hooks : Hooks (Standing Opening) Refusal
opening_hooks = remembering opening

-- the folder's handles are among the rows: its arguments, its memory, and its shifts
abbrev pub OwnsOpener : {S : Type 0} → (List Row → S → List GenericArgKind) → (List Row → S → Type 0) → List Row → S
    → List (Place × Ty) → List (ParamAt × Ty) → List (ParamAt × Const) → Type 0
OwnsOpener items owns rows x memory types consts = owns rows x
    × AreArguments rows (items rows x)
    × OwnsMemos rows memory
    × OwnsShifts ty_shape rows (arguments rows (items rows x)) type_sort types
    × OwnsShifts const_shape rows (arguments rows (items rows x)) const_sort consts
