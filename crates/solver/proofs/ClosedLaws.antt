-- Trees without a variable bound outside of them: they read the same under any binders, and stay so where parameters or
-- inference variables are replaced.
use Rattle.std.proofs.Common.{◌≡◌, ℕ, List, refl, ap, sym, ◌∙◌, max, arith}
use Rattle.std.specs.Prelude.{Option, Some, None, Bool, true, false, if◌then◌else◌, unwrap_or, slice_get}
use Rattle.tt_kinds.specs.Label.{Name, Sort}
use Rattle.tt_kinds.specs.Tree.{Depth, Place, Tree, param, bound, region, term, node, binder, Forest, none, also}
use Rattle.tt_kinds.specs.Argument.{Argument, same_sort, of_sort, put, put_all}
use Rattle.tt_kinds.specs.Reading.{read, greatest_reach, greatest_reach_all}
use Rattle.tt_kinds.proofs.OuterLaws.{shift_tree-closed}
use Rattle.tt_kinds.proofs.ReadingLaws.{read-shift_tree-past}
use Rattle.unify.specs.Substitution.{Assignment, GivesClosed, variable_of}
use Rattle.unify.specs.Triangular.{IsClosed}
use Rattle.solver.specs.Answers.{assigned, all_assigned, at_variable}

-- a closed tree reads the same under any binders
pub closed_read : (k : ℕ) (t : Tree Depth) → IsClosed t → read k t ≡ read 0 t
closed_read k t closed = ap (read k) (sym (shift_tree-closed 0 k t closed)) ∙ read-shift_tree-past k t

left_none : (m n : ℕ) → max m n ≡ 0 → m ≡ 0
left_none m n h = omega (arith, h)

right_none : (m n : ℕ) → max m n ≡ 0 → n ≡ 0
right_none m n h = omega (arith, h)

both_none : (m n : ℕ) → m ≡ 0 → n ≡ 0 → max m n ≡ 0
both_none m n h e = omega (arith, h, e)

-- no value of the arguments has a variable bound outside of it
abbrev pub HoldNone : List (Argument Place) → Type 0
HoldNone args = (k : ℕ) (a : Argument Place) → slice_get args k ≡ Some a → greatest_reach a.value ≡ 0

module _ (args : List (Argument Place)) (closed : HoldNone args) where
  chosen_reaches : (b : Bool) (a : Argument Place) (s : Sort) (i : ℕ) (name : Name) → greatest_reach a.value ≡ 0
      → greatest_reach (unwrap_or (if b then Some a.value else None) (param s i name)) ≡ 0
  chosen_reaches true a s i name h = h
  chosen_reaches false a s i name h = refl

  found_reaches : (o : Option (Argument Place)) (s : Sort) (i : ℕ) (name : Name)
      → ((a : Argument Place) → o ≡ Some a → greatest_reach a.value ≡ 0)
      → greatest_reach (unwrap_or (of_sort s o) (param s i name)) ≡ 0
  found_reaches None s i name h = refl
  found_reaches (Some a) s i name h = chosen_reaches (same_sort s a.sort) a s i name (h a refl)

  mutual
    -- a reading stays closed where closed arguments replace its parameters
    pub put_closed : (r : Tree Place) → greatest_reach r ≡ 0 → greatest_reach (put args r) ≡ 0
    put_closed (param s i name) h = found_reaches (slice_get args i) s i name (closed i)
    put_closed (bound s p e) h = h
    put_closed (region r) h = refl
    put_closed (term l rs) h = put_all_closed rs h
    put_closed (node l rs) h = put_all_closed rs h
    put_closed (binder vs r) h = put_closed r h

    put_all_closed : (rs : Forest Place) → greatest_reach_all rs ≡ 0 → greatest_reach_all (put_all args rs) ≡ 0
    put_all_closed none h = refl
    put_all_closed (also r rs) h = both_none (greatest_reach (put args r)) (greatest_reach_all (put_all args rs))
        (put_closed r (left_none (greatest_reach r) (greatest_reach_all rs) h))
        (put_all_closed rs (right_none (greatest_reach r) (greatest_reach_all rs) h))

module _ (ρ : Assignment) (closed : GivesClosed ρ) where
  variable_reaches : (o : Option ℕ) (r : Tree Place) → greatest_reach r ≡ 0 → greatest_reach (at_variable ρ o r) ≡ 0
  variable_reaches (Some v) r h = closed v
  variable_reaches None r h = h

  mutual
    -- a reading stays closed where closed trees replace its variables
    pub assigned_closed : (r : Tree Place) → greatest_reach r ≡ 0 → greatest_reach (assigned ρ r) ≡ 0
    assigned_closed (param s i name) h = refl
    assigned_closed (bound s p e) h = h
    assigned_closed (region r) h = refl
    assigned_closed (term l rs) h = variable_reaches (variable_of l) (term l (all_assigned ρ rs)) (all_assigned_closed rs h)
    assigned_closed (node l rs) h = all_assigned_closed rs h
    assigned_closed (binder vs r) h = assigned_closed r h

    all_assigned_closed : (rs : Forest Place) → greatest_reach_all rs ≡ 0 → greatest_reach_all (all_assigned ρ rs) ≡ 0
    all_assigned_closed none h = refl
    all_assigned_closed (also r rs) h = both_none (greatest_reach (assigned ρ r)) (greatest_reach_all (all_assigned ρ rs))
        (assigned_closed r (left_none (greatest_reach r) (greatest_reach_all rs) h))
        (all_assigned_closed rs (right_none (greatest_reach r) (greatest_reach_all rs) h))
