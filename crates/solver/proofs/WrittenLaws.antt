-- Goals that could be declared, by what the library says of flags, outer binders and instances.
use Rattle.std.proofs.Common.{◌≡◌, ℕ, suc, ◌<◌, List, length, get_or, refl, ap, subst, arith}
use Rattle.std.specs.Prelude.{Option, Some, None, Bool, false, ◌↔◌, IsSome, IsTrue, not, slice_get}
use Rattle.std.proofs.lemmas.Option.{slice_get_within, slice_get-get_or}
use Rattle.tt_flags.specs.TypeFlags.{has_infer}
use Rattle.tt_kinds.specs.Argument.{Argument, argument, of_sort, readings}
use Rattle.tt_kinds.specs.Label.{Name, Sort, Label, flags_of_label, list_flags, type_label, infer_type, type_sort, region_sort, const_sort}
use Rattle.tt_kinds.specs.Param.{IsAnswered}
use Rattle.tt_kinds.specs.Reading.{outer_binder, read, read_all}
use Rattle.tt_kinds.specs.Scan.{scan, scan_all}
use Rattle.tt_kinds.specs.Tree as tree
use Rattle.tt_kinds.specs.Tree.{Depth, Tree, Forest}
use Rattle.tt_kinds.specs.declared.ty_kind.InferTy.TheVariants.{TyVar}
use Rattle.tt_kinds.proofs.PutLaws.{EachParam-then, IsAnswered-read}
use Rattle.tt_visit.specs.HasTypeFlags.{Meets, Misses}
use Rattle.tt_visit.proofs.HasTypeFlagsLaws.{bits-left, bits-right}
use Rattle.unify.specs.Substitution.{variable_of}
use Rattle.tt_kinds.specs.Handle.{GenericArgs}
use Rattle.tt_kinds.specs.Values.{trait_predicate_shape}
use Rattle.tt_kinds.specs.declared.predicate.TraitPredicate.{TraitPredicate}
use Rattle.tt_interner.specs.Owned.{tree_by}
use Rattle.tt_interner.specs.Stored.{Terms}
use Rattle.tt_fold.proofs.KeptLaws.{misses}
use Rattle.solver.specs.Derivations.{AreArguments}
use Rattle.solver.specs.Program.{argument_trees, goal_in}
use Rattle.solver.specs.Written.{IsGround, AreGround, IsWrittenGoal}
use Rattle.solver.proofs.ArgumentLaws.{none_outside}

-- a variable has the flag
no_variable : (l : Label Name) → Misses has_infer (flags_of_label l) → variable_of l ≡ None
no_variable (type_label (infer_type (TyVar v))) h = absurd (cc)
no_variable l h = refl

mutual
  -- no inference variable is in the reading of a tree without the flag
  pub unflagged_ground : (k : ℕ) (t : Tree Depth) → Misses has_infer (scan t) → IsGround (read k t)
  unflagged_ground k (tree.param s i name) h = tt
  unflagged_ground k (tree.bound s d e) h = tt
  unflagged_ground k (tree.region r) h = tt
  unflagged_ground k (tree.term l ts) h = (
    no_variable l (bits-left has_infer (flags_of_label l) (scan_all ts) h),
    all_ground k ts (bits-right has_infer (flags_of_label l) (scan_all ts) h),
  )
  unflagged_ground k (tree.node l ts) h = all_ground k ts (bits-right has_infer (flags_of_label l) (scan_all ts) h)
  unflagged_ground k (tree.binder vs t) h = unflagged_ground (suc k) t (bits-right has_infer (list_flags vs) (scan t) h)

  all_ground : (k : ℕ) (ts : Forest Depth) → Misses has_infer (scan_all ts) → AreGround (read_all k ts)
  all_ground k tree.none h = tt
  all_ground k (tree.also t ts) h =
      (unflagged_ground k t (bits-left has_infer (scan t) (scan_all ts) h), all_ground k ts (bits-right has_infer (scan t) (scan_all ts) h))

sort_of : (s : Sort) (a : Argument Depth) → a.sort ≡ type_sort → IsSome (of_sort s (Some a)) → s ≡ type_sort
sort_of type_sort a is h = refl
sort_of region_sort a is h = absurd (cc)
sort_of const_sort a is h = absurd (cc)

some_of : (s : Sort) (a : Argument Depth) → a.sort ≡ type_sort → s ≡ type_sort → IsSome (of_sort s (Some a))
some_of s a is same = rw (same, is) refl

module _ (n : ℕ) (args others : List (Argument Depth)) (are : AreArguments n args) (as-well : AreArguments n others) where
  answered_at : (s : Sort) (i : ℕ) (o : Option (Argument Depth)) → slice_get args i ≡ o → IsSome (of_sort s o)
      → IsSome (argument others s i)
  answered_at s i None at h = absurd (cc)
  answered_at s i (Some a) at h =
      let below = slice_get_within args i a at in
      let there : i < length others = let p = are.counted in let q = as-well.counted in omega (arith, below, p, q) in
      let found = slice_get-get_or others i a there in
      let b = get_or others i a in
      rw found (some_of s b (as-well.each i b found).sorted (sort_of s a (are.each i a at).sorted h))

  -- what these arguments answer, others answer
  pub answered_alike : (t : Tree Depth) → IsAnswered args t → IsAnswered (readings others) (read 0 t)
  answered_alike t h = IsAnswered-read others 0 t
      (EachParam-then (λ s i. IsSome (argument args s i)) (λ s i. IsSome (argument others s i))
      (λ s i. answered_at s i (slice_get args i) refl) t h)

-- a goal without inference variables, and without variables bound outside of it, whose instance could be made
pub written_goal : (terms : Terms) (args : GenericArgs) (goal bound : TraitPredicate) → bound ≡ goal
    → (infer : Bool) → IsTrue infer ↔ Meets has_infer (scan (tree_by trait_predicate_shape terms.rows goal)) → infer ≡ false
    → (escapes : Bool) → IsTrue escapes ↔ (0 < outer_binder (tree_by trait_predicate_shape terms.rows goal)) → escapes ≡ false
    → IsAnswered (argument_trees terms args) (tree_by trait_predicate_shape terms.rows bound)
    → (n : ℕ) → AreArguments n (argument_trees terms args) → IsWrittenGoal n (goal_in terms goal)
written_goal terms args goal bound same infer infers none_infers escapes outside none_escapes answered n are =
    let t = tree_by trait_predicate_shape terms.rows goal in
    record {
      ground = unflagged_ground 0 t (misses has_infer (scan t) infer infers none_infers);
      closed = none_outside escapes (outer_binder t) outside (ap not none_escapes);
      answered = λ others as-well. answered_alike n (argument_trees terms args) others are as-well t
          (subst (λ g. IsAnswered (argument_trees terms args) (tree_by trait_predicate_shape terms.rows g)) same answered);
    }
