-- What rules out the causes of a refusal.
use Rattle.std.proofs.Common.{◌≡◌, ℕ, ◌≤◌, List, length, arith}
use Rattle.std.specs.Prelude.{⊤, Option, Some, None, slice_get, IsSome, IsSomeAnd, IsTrue, not, Bool, true, false}
use Rattle.std.specs.Prelude.{if◌then◌else◌}
use Rattle.std.proofs.lemmas.Option.{slice_get_past}
use Rattle.tt_kinds.specs.Label.{Sort}
use Rattle.tt_kinds.specs.Tree.{Depth, Tree}
use Rattle.tt_kinds.specs.Argument.{Argument, same_sort, of_sort, argument}
use Rattle.tt_kinds.specs.Param.{IsAnswered}
use Rattle.tt_kinds.proofs.ParamLaws.{HasParam-never}
use Rattle.tt_kinds.specs.Cause.{HasOtherSort, HidesRegionVars, Cause}
use Rattle.tt_index.specs.declared.refusal.Refusal.{Refusal}
use Rattle.tt_index.specs.declared.refusal.Refusal.TheVariants.{Memory, TableFull, GreatestIndex, NoArguments}
use Rattle.tt_index.specs.declared.refusal.Refusal.TheVariants.{ArgOutOfRange, ArgKind, RegionVariable, NotAClause}
use Rattle.tt_index.specs.declared.refusal.Refusal.TheVariants.{NoSuchAnswer}

-- an argument past the end of the list is none, and so is one of another sort
argument-past : {J : Type 0} (args : List (Argument J)) (s : Sort) (i : ℕ) → length args ≤ i → IsSome (argument args s i) → ⊥
argument-past {J = J} args s i h g = absent (slice_get args i) (slice_get_past args i h) g
  where
    absent : (o : Option (Argument J)) → o ≡ None → IsSome (of_sort s o) → ⊥
    absent None e x = cc
    absent (Some a) e x = cc

argument-other : {J : Type 0} (args : List (Argument J)) (s : Sort) (i : ℕ) → HasOtherSort args s i → IsSome (argument args s i) → ⊥
argument-other {J = J} args s i h g = other (slice_get args i) h g
  where
    different : (b : Bool) (a : Argument J) → IsTrue (not b) → IsSome (if b then Some a.value else None) → ⊥
    different true a x y = cc
    different false a x y = cc

    other : (o : Option (Argument J)) → IsSomeAnd o (λ a. IsTrue (not (same_sort s a.sort))) → IsSome (of_sort s o) → ⊥
    other None x y = x
    other (Some a) x y = different (same_sort s a.sort) a x y

module _ (args : List (Argument Depth)) (t : Tree Depth) (answered : IsAnswered args t) where
  -- where each parameter has its argument, none of the causes that speak of parameters holds
  pub Cause-no_arguments : Cause t args NoArguments → ⊥
  Cause-no_arguments h = HasParam-never (λ s i. ⊤) (λ s i. IsSome (argument args s i)) (λ s i x y. argument-past args s i (rw h.0 (omega arith)) y) t h.1 answered

  -- where each parameter has its argument, none has an index past the last argument
  pub Cause-out_of_range : (index : ℕ) → Cause t args (ArgOutOfRange index) → ⊥
  Cause-out_of_range index h = HasParam-never (λ s i. i ≡ index) (λ s i. IsSome (argument args s i)) (λ s i x y. argument-past args s i (rw x h.2) y) t h.1 answered

  -- where each parameter has its argument, none has an argument of another sort at its index
  pub Cause-kind : (index : ℕ) → Cause t args (ArgKind index) → ⊥
  Cause-kind index h = HasParam-never (λ s i. (i ≡ index) × HasOtherSort args s i) (λ s i. IsSome (argument args s i)) (λ s i x y. argument-other args s i x.1 y) t h answered

-- where each parameter has its argument and no region variable is exposed, no cause holds
pub Cause-never : (args : List (Argument Depth)) (t : Tree Depth) → IsAnswered args t → HidesRegionVars t → (e : Refusal) → Cause t args e → ⊥
Cause-never args t answered hides Memory h = h
Cause-never args t answered hides TableFull h = h
Cause-never args t answered hides GreatestIndex h = h
Cause-never args t answered hides NotAClause h = h
Cause-never args t answered hides NoSuchAnswer h = h
Cause-never args t answered hides NoArguments h = Cause-no_arguments args t answered h
Cause-never args t answered hides (ArgOutOfRange index) h = Cause-out_of_range args t answered index h
Cause-never args t answered hides (ArgKind index) h = Cause-kind args t answered index h
Cause-never args t answered hides (RegionVariable x) h = hides x h.1
