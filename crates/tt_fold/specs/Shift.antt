-- The shifter's task, and the promise of a shift.
use Rattle.std.specs.Prelude.{◌≡◌, [], ℕ, ◌+◌, ◌≤◌, ◌<◌, ◌⊎◌, List, Option, Some, None, nat_lt, if◌then◌else◌, length}
use Rattle.std.specs.Prelude.{⊤}
use Rattle.tt_index.specs.Greatest.{greatest}
use Rattle.tt_index.specs.declared.refusal.Refusal.{Refusal}
use Rattle.tt_index.specs.declared.refusal.Refusal.TheVariants.{Memory, TableFull, GreatestIndex}
use Rattle.tt_kinds.specs.Tree.{Depth, Tree, bound}
use Rattle.tt_kinds.specs.Matched.{MatchedUnder}
use Rattle.tt_kinds.specs.Reading.{read, move, outer_binder, Fits, FitsUnder, keep as keep_parameter}
use Rattle.tt_kinds.specs.Shape.{Meaning, fill}
use Rattle.tt_kinds.specs.Kinds.{region_shape}
use Rattle.tt_kinds.specs.declared.bound.BoundTy.{BoundTy}
use Rattle.tt_kinds.specs.declared.bound.BoundConst.{BoundConst}
use Rattle.tt_kinds.specs.declared.bound.BoundVarIndexKind.{BoundVarIndexKind}
use Rattle.tt_kinds.specs.declared.bound.BoundVarIndexKind.TheVariants.{Bound, Canonical}
use Rattle.tt_kinds.specs.declared.parts.Kind.{Kind}
use Rattle.tt_kinds.specs.declared.parts.Kind.TheVariants as kind
use Rattle.tt_kinds.specs.declared.ty_kind.TyKind.{TyKind}
use Rattle.tt_kinds.specs.declared.ty_kind.TyKind.TheVariants as ty
use Rattle.tt_kinds.specs.declared.const_kind.ConstKind.{ConstKind}
use Rattle.tt_kinds.specs.declared.const_kind.ConstKind.TheVariants as const
use Rattle.tt_kinds.specs.declared.region_kind.RegionKind.{RegionKind}
use Rattle.tt_kinds.specs.declared.region_kind.RegionKind.TheVariants.{ReEarlyParam, ReBound, ReLateParam, ReStatic}
use Rattle.tt_kinds.specs.declared.region_kind.RegionKind.TheVariants.{ReVar, RePlaceholder, ReErased, ReError}
use Rattle.tt_kinds.specs.Plain.{shifted, shift_tree}
use Rattle.tt_kinds.specs.Count.{moving_types}
use Rattle.tt_kinds.specs.Handle.{Ty}
use Rattle.tt_interner.specs.Rows.{Row}
use Rattle.tt_interner.specs.Stored.{Counters, Terms, counted}
use Rattle.tt_fold.specs.Leaves.{reindexed}
use Rattle.tt_fold.specs.Remember.{State, Task}
use Rattle.tt_fold.specs.Memory.{memos}
use Rattle.tt_fold.specs.declared.memory.Place.{Place}
use Rattle.tt_fold.specs.Stands.{IsPartUnbuilt}

-- how much is added, and how many binders were entered
pub record Shift : Type 0 where
  pub amount : ℕ
  pub under : ℕ

-- the index of a variable under k binders, with n added if its binder is none of them
abbrev pub moved_index : ℕ → ℕ → BoundVarIndexKind → BoundVarIndexKind
moved_index n k (Bound d) = Bound (if nat_lt d k then d else n + d)
moved_index n k Canonical = Canonical

-- the index and the variable, if the type is a bound type
abbrev pub bound_ty_in : TyKind → Option (BoundVarIndexKind × BoundTy)
bound_ty_in (ty.Bound i b) = Some (i, b)
bound_ty_in _ = None

-- the same for a kind of any table
abbrev pub bound_ty_of : Kind → Option (BoundVarIndexKind × BoundTy)
bound_ty_of (kind.Ty k) = bound_ty_in k
bound_ty_of _ = None

-- the index and the variable, if the constant is a bound constant
abbrev pub bound_const_in : ConstKind → Option (BoundVarIndexKind × BoundConst)
bound_const_in (const.Bound i b) = Some (i, b)
bound_const_in _ = None

-- the same for a kind of any table
abbrev pub bound_const_of : Kind → Option (BoundVarIndexKind × BoundConst)
bound_const_of (kind.Const k) = bound_const_in k
bound_const_of _ = None

-- the variable's binder is none of the k around it
abbrev pub IsOuter : ℕ → BoundVarIndexKind → Type 0
IsOuter k (Bound d) = k ≤ d
IsOuter k Canonical = ⊥

-- the index with n added is above the greatest, and the variable's binder is none of the k around it
abbrev pub IsPast : ℕ → ℕ → BoundVarIndexKind → Type 0
IsPast n k (Bound d) = (k ≤ d) × (greatest < d + n)
IsPast n k Canonical = ⊥

-- the region under k binders, with n added to its index if its binder is none of them
abbrev pub moved_region : ℕ → ℕ → RegionKind → RegionKind
moved_region n k (ReEarlyParam p) = ReEarlyParam p
moved_region n k (ReBound i b) = ReBound (moved_index n k i) b
moved_region n k (ReLateParam p) = ReLateParam p
moved_region n k ReStatic = ReStatic
moved_region n k (ReVar v) = ReVar v
moved_region n k (RePlaceholder p) = RePlaceholder p
moved_region n k ReErased = ReErased
moved_region n k (ReError e) = ReError e

-- the region, shifted by n: its reading is moved by n, and fits
pub record IsShiftedRegion (f : Meaning) (n : ℕ) (region shifted : RegionKind) : Type 0 where
  pub plain : read 0 (fill f (region_shape shifted)) ≡ move n (read 0 (fill f (region_shape region)))
  pub tree : fill f (region_shape shifted) ≡ shift_tree 0 n (fill f (region_shape region))
  pub fits : Fits (move n (read 0 (fill f (region_shape region))))

-- the meaning of the shifter's state: its amount is the rule, and it keeps nothing besides
abbrev pub shift_state : ℕ → ℕ → List Row → List (Place × Ty) → State ℕ ⊤
shift_state n k rows es = record { rule = n; under = k; kept = tt; memory = memos rows es }

-- the shifter's amount, and how many binders it entered
abbrev pub shift_of : State ℕ ⊤ → Shift
shift_of s = record { amount = s.rule; under = s.under }

-- the tree under the binders that the shifter entered, shifted
abbrev pub moved_tree : Shift → Tree Depth → Tree Depth
moved_tree s t = shift_tree s.under s.amount t

-- the shifted tree does not fit
abbrev pub IsTooFar : Shift → Tree Depth → Type 0
IsTooFar s t = FitsUnder s.under (read s.under (moved_tree s t)) → ⊥

-- the tree is a bound variable
abbrev pub IsVariable : Tree Depth → Type 0
IsVariable (bound s d e) = ⊤
IsVariable _ = ⊥

-- the counts with one more descent of the shifter
abbrev pub count_shift : Counters → Counters
count_shift c = record { descents = c.descents; shift_descents = counted c.shift_descents }

-- the shifter's count doesn't fall, and the other count stays
pub record ShiftsCount (c c' : Counters) : Type 0 where
  pub descents : c'.descents ≡ c.descents
  pub up : c.shift_descents ≤ c'.shift_descents

-- the refusal is `GreatestIndex`, for this cause
abbrev pub IsTooGreat : Refusal → Type 0 → Type 0
IsTooGreat e cause = (e ≡ GreatestIndex) × cause

-- The shifter's task, with the amount as its rule: a bound variable is shifted at once, and other terms are entered. A
-- type with a variable that is bound outside of the entered binders has to be taken apart.
abbrev pub shifting : Task ℕ ⊤
shifting = record {
  variable = λ n. reindexed (shifted n);
  parameter = λ n. keep_parameter;
  Allows = λ n k t. ⊤;
  IsEntered = λ n k t. IsVariable t → ⊥;
  IsTodo = λ n k t. k < outer_binder t;
  Gives = λ s t r kept c. IsVariable t × (r ≡ moved_tree (shift_of s.state) t) × (c ≡ s.counters);
  RegionFails = λ unbuilt n k t e. IsTooGreat e (IsTooFar (record { amount = n; under = k }) t);
  TermFails = λ unbuilt s t e s'. (s' ≡ s) × (IsTooGreat e (IsTooFar (shift_of s.state) t)
      ⊎ unbuilt (moved_tree (shift_of s.state) t) e);
  IsCause = λ n k t e. ⊥;
  count = count_shift;
  amount = λ c. c.shift_descents;
  Rises = ShiftsCount;
}

-- the number of places of a tree at which a type with a variable to be shifted occurs
abbrev pub moving_positions : Tree Depth → ℕ
moving_positions t = length (moving_types 0 t)

-- Why a shift of the tree by n ends with a refusal: memory was refused, a term or a list of the shifted tree would be a
-- new row of a table that is full, or the moved reading does not fit.
abbrev pub IsShiftRefusal : Terms → ℕ → Tree Depth → Refusal → Type 0
IsShiftRefusal terms n t Memory = ⊤
IsShiftRefusal terms n t TableFull = IsPartUnbuilt terms (shift_tree 0 n t) TableFull
IsShiftRefusal terms n t GreatestIndex = Fits (move n (read 0 t)) → ⊥
IsShiftRefusal terms n t _ = ⊥

-- the shifted tree, shifted again by m, is the tree shifted by the sum
abbrev pub ShiftsOn : ℕ → Tree Depth → Tree Depth → Type 0
ShiftsOn n t r = (m : ℕ) → shift_tree 0 m r ≡ shift_tree 0 (m + n) t

-- r is no other tree's shift by n
abbrev pub ComesOf : ℕ → Tree Depth → Tree Depth → Type 0
ComesOf n t r = (u : Tree Depth) → shift_tree 0 n u ≡ r → u ≡ t

-- if the tree's own variables match their binders' lists, the shifted tree's do
abbrev pub KeepsMatched : Tree Depth → Tree Depth → Type 0
KeepsMatched t r = MatchedUnder [] (read 0 t) → MatchedUnder [] (read 0 r)

-- shifts in turn are one shift by the sum
abbrev pub ShiftsAddUp : Type 0
ShiftsAddUp = (m n : ℕ) (t : Tree Depth) → shift_tree 0 m (shift_tree 0 n t) ≡ shift_tree 0 (m + n) t

-- different trees stay different when they are shifted
abbrev pub ShiftsKeepApart : Type 0
ShiftsKeepApart = (n : ℕ) (t u : Tree Depth) → shift_tree 0 n t ≡ shift_tree 0 n u → t ≡ u
