-- The promise of a call of instantiate, as one record for values of every type.
use Rattle.std.specs.Prelude.{ℕ, List, Result, Ok, false, ◌≡◌, ◌≤◌, ◌+◌, IfOk, IfErr, OnOk}
use Rattle.tt_index.specs.declared.refusal.Refusal.{Refusal}
use Rattle.tt_kinds.specs.Label.{Name, Sort}
use Rattle.tt_kinds.specs.Tree.{Depth, param}
use Rattle.tt_kinds.specs.Param.{holds_param, IsAnswered}
use Rattle.tt_kinds.specs.Argument.{Argument}
use Rattle.tt_kinds.specs.Cause.{Cause}
use Rattle.tt_kinds.specs.Count.{generic_types, place_count}
use Rattle.tt_kinds.specs.Shape.{Shape, stored}
use Rattle.tt_kinds.specs.Values.{one_clause_shape}
use Rattle.tt_kinds.specs.declared.binder.Unnormalized.{Unnormalized}
use Rattle.tt_kinds.specs.Handle.{Clause}
use Rattle.tt_kinds.specs.declared.table.Table.{Table}
use Rattle.tt_kinds.specs.declared.table.Table.TheVariants.{Types}
use Rattle.tt_interner.specs.Stored.{Terms, Extends}
use Rattle.tt_fold.specs.Places.{CountsPairs}
use Rattle.tt_fold.specs.Steps.{IsPartBy, tree_by}
use Rattle.tt_binder.specs.Sharing.{CountsShifts}
use Rattle.tt_binder.specs.Instance.{IsPlain, HasNoCause, Composes, Commutes, StaysMatched, LeavesNoParam, IsReason}
use Rattle.tt_binder.specs.Instance.{ComesBack, IsOfClauses}

-- the value is returned, and the interner is unchanged
abbrev pub IsBack : {T : Type 0} → T → Terms → Result (Unnormalized T) Refusal → Terms → Type 0
IsBack value old result new = (result ≡ Ok (record { value = value })) × (new ≡ old)

-- the promise of the call with these arguments for a value; the interner is `old` before, `new` afterwards
pub record InstancePromise {T : Type 0} (shape : T → Shape) (args : List (Argument Depth)) (value : T) (old : Terms)
    (result : Result (Unnormalized T) Refusal) (new : Terms) : Type 0 where
  -- every earlier handle keeps its meaning
  pub extends : Extends old new
  -- neither count falls
  pub descents : old.counters.descents ≤ new.counters.descents
  pub shift_descents : old.counters.shift_descents ≤ new.counters.shift_descents
  -- at most one descent for each place of a type that holds a parameter and is not one
  pub positions : OnOk result (new.counters.descents ≤ old.counters.descents + place_count
      (tree_by shape old.rows value))
  -- at most one descent for each pair of such a type and a number of binders above it
  pub pairs : OnOk result (CountsPairs (generic_types 0 (tree_by shape old.rows value)) old.counters.descents
      new.counters.descents)
  -- each argument is shifted at most once past each number of binders, and each shift takes a type apart at most once
  -- under each number of binders
  pub shifts : OnOk result (CountsShifts args (tree_by shape old.rows value) old.counters.shift_descents
      new.counters.shift_descents)
  -- the handles of the result are the interner's
  pub in_range : IfOk result (λ u. IsPartBy shape new.rows u.value)
  -- the result is plain replacement
  pub plain : IfOk result (λ u. IsPlain args (tree_by shape old.rows value) (tree_by shape new.rows u.value))
  -- replacement composes, and commutes with moving
  pub composes : IfOk result (λ u. Composes args (tree_by shape old.rows value) (tree_by shape new.rows u.value))
  pub commutes : IfOk result (λ u. Commutes args (tree_by shape old.rows value) (tree_by shape new.rows u.value))
  -- variables match their binders' lists if they did before
  pub matched : IfOk result (λ u. StaysMatched args (tree_by shape old.rows value) (tree_by shape new.rows u.value))
  -- no parameter is left if the arguments hold none
  pub closed : IfOk result (λ u. LeavesNoParam args (tree_by shape new.rows u.value))
  -- if the call succeeds, each parameter of the value has an argument of its sort
  pub answered : OnOk result (IsAnswered args (tree_by shape old.rows value))
  -- if the call succeeds, there is no cause to refuse it
  pub no_cause : OnOk result (HasNoCause args (tree_by shape old.rows value))
  -- if the call is refused, there is a reason
  pub err : IfErr result (IsReason new args (tree_by shape old.rows value))
  -- a value with nothing to replace and nothing to refuse is returned unchanged
  pub same : ComesBack args (tree_by shape old.rows value) → IsBack value old result new
  -- so is each type, predicate, clause and list of clauses without a parameter
  pub same_type : (n : ℕ) → shape value ≡ stored Types n → holds_param (tree_by shape old.rows value) ≡ false
      → IsBack value old result new
  pub same_clauses : (table : Table) (n : ℕ) → IsOfClauses table → shape value ≡ stored table n
      → holds_param (tree_by shape old.rows value) ≡ false → IsBack value old result new
  pub same_clause : (clause : Clause) → shape value ≡ one_clause_shape clause
      → holds_param (tree_by shape old.rows value) ≡ false → IsBack value old result new
  -- a parameter is refused only if it has no argument of its sort, and the interner is unchanged
  pub parameter : (s : Sort) (i : ℕ) (name : Name) → tree_by shape old.rows value ≡ param s i name
      → IfErr result (Cause (param s i name) args)
  pub parameter_still : (s : Sort) (i : ℕ) (name : Name) → tree_by shape old.rows value ≡ param s i name → new ≡ old
