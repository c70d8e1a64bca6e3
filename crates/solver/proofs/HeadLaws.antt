-- An implementation's goals with a variable in place of each parameter, and what they become at arguments.
use Rattle.std.proofs.Common.{◌≡◌, ◌+◌, ◌≤◌, ℕ, zero, suc, List, [], ◌∷◌, length, refl, ap, sym, ◌∙◌, subst, arith}
use Rattle.std.specs.Prelude.{Option, Some, None, slice_get}
use Rattle.std.proofs.lemmas.Option.{slice_get_within}
use Rattle.tt_kinds.specs.Argument.{Argument, change_value, change_values, put, readings}
use Rattle.tt_kinds.specs.Label.{type_sort}
use Rattle.tt_kinds.specs.Reading.{outer_binder, read}
use Rattle.tt_kinds.specs.Tree.{Depth, Place, Tree, param, bound, region, term, node, binder, Forest, none, also}
use Rattle.tt_kinds.proofs.ReadingLaws.{read-injective}
use Rattle.unify.specs.Substitution.{Assignment, IsOwn, IsType, Solves, Substitution, apply, assign, variable_tree}
use Rattle.unify.proofs.UnificationLaws.{solution_factors}
use Rattle.solver.specs.Answers.{IsAssignment, assigned, all_assigned}
use Rattle.solver.specs.Derivations.{AreArguments, IsTypeArgument, instance_of}
use Rattle.solver.specs.Refutation.{variables_from}
use Rattle.solver.specs.Written.{AreGround, IsGround, IsWrittenGoal}
use Rattle.solver.proofs.AssignLaws.{assigned_put, read_assign}
use Rattle.solver.proofs.DerivationLaws.{readings_change}

module _ (ρ : Assignment) where
  mutual
    -- a goal without variables stays what it is
    pub ground_stays : (r : Tree Place) → IsGround r → assigned ρ r ≡ r
    ground_stays (param s i name) h = refl
    ground_stays (bound s p e) h = refl
    ground_stays (region r) h = refl
    ground_stays (term l rs) h = rw (h.0, all_ground_stay rs h.1) refl
    ground_stays (node l rs) h = ap (node l) (all_ground_stay rs h)
    ground_stays (binder vs r) h = ap (binder vs) (ground_stays r h)

    all_ground_stay : (rs : Forest Place) → AreGround rs → all_assigned ρ rs ≡ rs
    all_ground_stay none h = refl
    all_ground_stay (also r rs) h = rw (ground_stays r h.0, all_ground_stay rs h.1) refl

counted_from : (v n : ℕ) → length (variables_from v n) ≡ n
counted_from v zero = refl
counted_from v (suc n) = ap suc (counted_from (suc v) n)

variable_argument : (v n k : ℕ) (a : Argument Depth) → slice_get (variables_from v n) k ≡ Some a → IsTypeArgument a
variable_argument v zero k a at = absurd (cc)
variable_argument v (suc n) zero a at =
    let same : record { sort = type_sort; value = variable_tree v } ≡ a = cc in
    subst IsTypeArgument same (record { sorted = refl; type = refl; closed = refl })
variable_argument v (suc n) (suc k) a at = variable_argument (suc v) n k a at

-- variables are arguments
pub variables_are_arguments : (v n : ℕ) → AreArguments n (variables_from v n)
variables_are_arguments v n = record { counted = counted_from v n; each = variable_argument v n }

-- what a variable becomes: the argument of its number, or itself
abbrev pub given : Option (Argument Depth) → ℕ → Tree Depth
given (Some a) v = a.value
given None v = variable_tree v

-- each variable becomes the argument of its number
abbrev pub as_given : List (Argument Depth) → Assignment
as_given args v = given (slice_get args v) v

argument_is : (a : Argument Depth) (t : Tree Depth) → a.sort ≡ type_sort → t ≡ a.value → record { sort = type_sort; value = t } ≡ a
argument_is a t sorted is = rw (is, sym sorted) refl

module _ (ρ : Assignment) where
  -- the variables from this one on become the arguments
  become : (v : ℕ) (args : List (Argument Depth)) → ((k : ℕ) (a : Argument Depth) → slice_get args k ≡ Some a → a.sort ≡ type_sort)
      → ((k w : ℕ) (a : Argument Depth) → slice_get args k ≡ Some a → w ≡ v + k → ρ w ≡ a.value)
      → change_values (assign ρ) (variables_from v (length args)) ≡ args
  become v [] sorted values = refl
  become v (a ∷ args) sorted values =
      let first : change_value (assign ρ) (record { sort = type_sort; value = variable_tree v }) ≡ a =
      argument_is a (ρ v) (sorted zero a refl) (values zero v a refl (omega arith)) in
      let rest = become (suc v) args (λ k. sorted (suc k)) (λ k w b at is. values (suc k) w b at (omega (arith, is))) in
      rw (first, rest) refl

module _ (ρ : Assignment) (is : IsAssignment ρ) (v n : ℕ) (args : List (Argument Depth)) (are : AreArguments n args)
    (gives : (k w : ℕ) (a : Argument Depth) → slice_get args k ≡ Some a → w ≡ v + k → ρ w ≡ a.value) where
  all_become : change_values (assign ρ) (variables_from v n) ≡ args
  all_become = subst (λ m. change_values (assign ρ) (variables_from v m) ≡ args) are.counted
      (become ρ v args (λ k a at. (are.each k a at).sorted) gives)

  -- an instance at variables that are assigned the arguments becomes the instance at the arguments
  pub instance_assigned : (r : Tree Place) → IsWrittenGoal n r → assigned ρ (instance_of (variables_from v n) r) ≡ instance_of args r
  instance_assigned r goal =
      let fresh = variables_from v n in
      assigned_put ρ (readings fresh) r goal.ground (goal.answered fresh (variables_are_arguments v n))
      ∙ ap (λ xs. put xs r) (sym (readings_change (assign ρ) (assigned ρ) (read_assign ρ is 0) fresh) ∙ ap readings all_become)

module _ (n : ℕ) (args : List (Argument Depth)) (are : AreArguments n args) where
  given_type : (o : Option (Argument Depth)) (v : ℕ) → ((a : Argument Depth) → o ≡ Some a → IsTypeArgument a) → IsType (given o v)
  given_type (Some a) v h = (h a refl).type
  given_type None v h = refl

  given_closed : (o : Option (Argument Depth)) (v : ℕ) → ((a : Argument Depth) → o ≡ Some a → IsTypeArgument a)
      → outer_binder (given o v) ≡ 0
  given_closed (Some a) v h = (h a refl).closed
  given_closed None v h = refl

  given_past : (o : Option (Argument Depth)) (v : ℕ) → slice_get args v ≡ o → n ≤ v → given o v ≡ variable_tree v
  given_past (Some a) v at past =
      absurd (let within = slice_get_within args v a at in let many = are.counted in omega (arith, within, many, past))
  given_past None v at past = refl

  given_is : (o : Option (Argument Depth)) (v : ℕ) (a : Argument Depth) → o ≡ Some a → given o v ≡ a.value
  given_is (Some b) v a is = let same : b ≡ a = cc in ap (λ (x : Argument Depth). x.value) same
  given_is None v a is = absurd (cc)

  -- a variable becomes the argument of its number
  pub given_at : (v k : ℕ) (a : Argument Depth) → slice_get args k ≡ Some a → v ≡ k → as_given args v ≡ a.value
  given_at v k a at is = given_is (slice_get args v) v a (ap (slice_get args) is ∙ at)

  -- the arguments for the first n variables are types without a variable bound outside of them
  pub given_assignment : IsAssignment (as_given args)
  given_assignment = record {
    types = λ v. given_type (slice_get args v) v (are.each v);
    closed = λ v. given_closed (slice_get args v) v (are.each v);
  }

  pub given_own : IsOwn n (as_given args)
  given_own = record {
    types = λ v. given_type (slice_get args v) v (are.each v);
    leaves = λ v. given_past (slice_get args v) v refl;
  }

  -- an instance at variables becomes the instance at the arguments
  pub instance_becomes : (r : Tree Place) → IsWrittenGoal n r
      → assigned (as_given args) (instance_of (variables_from 0 n) r) ≡ instance_of args r
  instance_becomes = instance_assigned (as_given args) given_assignment 0 n args are
      (λ k w a at is. given_at w k a at (let same : w ≡ k = omega (arith, is) in same))

  -- so a goal that is an instance of the head is made equal to the head with variables
  pub head_equated : (goal head : Tree Depth) (h : Tree Place) → IsGround (read 0 goal) → IsWrittenGoal n h
      → read 0 head ≡ instance_of (variables_from 0 n) h → read 0 goal ≡ instance_of args h
      → assign (as_given args) goal ≡ assign (as_given args) head
  head_equated goal head h ground written plain is =
      let ρ = as_given args in
      read-injective 0 (assign ρ goal) (assign ρ head)
      (read_assign ρ given_assignment 0 goal ∙ ground_stays ρ (read 0 goal) ground ∙ is
      ∙ sym (read_assign ρ given_assignment 0 head ∙ ap (assigned ρ) plain ∙ instance_becomes h written))

-- what is resolved and has no variables left is what each solution makes of it
pub resolved_becomes : (ρ : Assignment) (σ : Substitution) (t resolved : Tree Depth) (r : Tree Place) → IsAssignment ρ → Solves ρ σ
    → IsGround (read 0 resolved) → resolved ≡ apply σ t → read 0 t ≡ r → assigned ρ r ≡ read 0 resolved
resolved_becomes ρ σ t resolved r is solves ground plain reads =
    ap (assigned ρ) (sym reads) ∙ sym (read_assign ρ is 0 t) ∙ ap (read 0) (sym (solution_factors ρ σ solves t) ∙ ap (assign ρ) (sym plain))
    ∙ read_assign ρ is 0 resolved ∙ ground_stays ρ (read 0 resolved) ground
