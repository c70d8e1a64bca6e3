-- What is derived stays derived where parameters or inference variables are replaced, and with further implementations.
use Rattle.std.proofs.Common.{◌≡◌, ℕ, zero, suc, List, [], ◌∷◌, ◌++◌, map, refl, ap, sym, ◌∙◌, subst}
use Rattle.std.specs.Prelude.{Option, Some, None, Bool, true, false, if◌then◌else◌, slice_get, option_map}
use Rattle.std.proofs.lemmas.Option.{slice_get-map}
use Rattle.tt_kinds.specs.Label.{Name, Sort, type_sort, region_sort, const_sort}
use Rattle.tt_kinds.specs.Tree.{Depth, Place, Tree, param, bound, region, term, node, binder}
use Rattle.tt_kinds.specs.Argument.{Argument, same_sort, of_sort, put, change_value, change_values, readings}
use Rattle.tt_kinds.specs.Plain.{given_under, inst_tree, shift_tree, shifted_or}
use Rattle.tt_kinds.specs.Reading.{read, greatest_reach}
use Rattle.tt_kinds.proofs.PutLaws.{put-put, read-inst_tree}
use Rattle.unify.specs.Substitution.{Assignment, IsType, assign}
use Rattle.unify.specs.Triangular.{IsClosed}
use Rattle.solver.specs.Answers.{IsAssignment, assigned}
use Rattle.solver.specs.Derivations.{Implementation, IsTypeArgument, AreArguments, Derives, assumed, implemented, instance_of}
use Rattle.solver.specs.Written.{IsWrittenGoal, AreWritten}
use Rattle.solver.specs.Stable.{ArePlain, AreStable}
use Rattle.solver.proofs.AssignLaws.{assign_type, assigned_put, read_assign}
use Rattle.solver.proofs.ClosedLaws.{HoldNone, assigned_closed, put_closed}
use Rattle.solver.proofs.OutcomeLaws.{as_many, found_map}

pub readings_change : (f : Tree Depth → Tree Depth) (g : Tree Place → Tree Place) → ((t : Tree Depth) → read 0 (f t) ≡ g (read 0 t))
    → (args : List (Argument Depth)) → readings (change_values f args) ≡ change_values g (readings args)
readings_change f g h [] = refl
readings_change f g h (a ∷ args) = rw (h a.value, readings_change f g h args) refl

changed_at : (f : Tree Depth → Tree Depth) → ((a : Argument Depth) → IsTypeArgument a → IsTypeArgument (change_value f a))
    → (b : Argument Depth) (o : Option (Argument Depth)) → ((a : Argument Depth) → o ≡ Some a → IsTypeArgument a)
    → option_map (change_value f) o ≡ Some b → IsTypeArgument b
changed_at f keeps b None h is = absurd (cc)
changed_at f keeps b (Some a) h is =
    let same : change_value f a ≡ b = cc in
    subst IsTypeArgument same (keeps a (h a refl))

-- arguments stay arguments where each stays a type
arguments_stay : (f : Tree Depth → Tree Depth) → ((a : Argument Depth) → IsTypeArgument a → IsTypeArgument (change_value f a))
    → (n : ℕ) (args : List (Argument Depth)) → AreArguments n args → AreArguments n (change_values f args)
arguments_stay f keeps n args are = record {
  counted = as_many (change_value f) args ∙ are.counted;
  each = λ k b at. changed_at f keeps b (slice_get args k) (are.each k) (sym (slice_get-map (change_value f) args k) ∙ at);
}

-- `change` changes an instance of a written goal in the arguments alone, and `inner` is what it does to an argument
module _ (impls : List Implementation) (change : Tree Place → Tree Place) (inner : Tree Depth → Tree Depth)
    (reads : (t : Tree Depth) → read 0 (inner t) ≡ change (read 0 t))
    (keeps : (a : Argument Depth) → IsTypeArgument a → IsTypeArgument (change_value inner a))
    (commutes : (n : ℕ) (args : List (Argument Depth)) → AreArguments n args → (r : Tree Place) → IsWrittenGoal n r
    → change (put (readings args) r) ≡ put (change_values change (readings args)) r) (written : AreWritten impls) where
  commuted : (n : ℕ) (args : List (Argument Depth)) → AreArguments n args → (r : Tree Place) → IsWrittenGoal n r
      → change (instance_of args r) ≡ instance_of (change_values inner args) r
  commuted n args are r goal = commutes n args are r goal ∙ ap (λ a. put a r) (sym (readings_change inner change reads args))

  -- what is derived is derived where it is changed
  pub stays : {assumptions : List (Tree Place)} {goal : Tree Place} → Derives impls assumptions goal
      → Derives impls (map change assumptions) (change goal)
  stays {assumptions} {goal} (assumed k at) = assumed k (found_map change assumptions k goal at)
  stays {assumptions} {goal} (implemented k i at args are is conditions) =
      implemented k i at (change_values inner args) (arguments_stay inner keeps i.params args are)
      (ap change is ∙ commuted i.params args are i.head (written k i at).head)
      (λ j c there. subst (Derives impls (map change assumptions))
      (commuted i.params args are c ((written k i at).conditions j c there)) (stays (conditions j c there)))

is_type_sort : (s : Sort) → same_sort type_sort s ≡ true → s ≡ type_sort
is_type_sort type_sort h = refl
is_type_sort region_sort h = absurd (cc)
is_type_sort const_sort h = absurd (cc)

shifted_type : (k n : ℕ) (t : Tree Depth) → IsType t → IsType (shift_tree k n t)
shifted_type k n (param s i name) h = h
shifted_type k n (bound s d e) h = h
shifted_type k n (term l ts) h = h
shifted_type k n (region r) h = absurd h
shifted_type k n (node l ts) h = absurd h
shifted_type k n (binder vs t) h = absurd h

module _ (later : List (Argument Depth)) (plain : ArePlain later) where
  value_type : (a : Argument Depth) (b : Bool) (i : ℕ) (name : Name) → same_sort type_sort a.sort ≡ b
      → (a.sort ≡ type_sort → IsType a.value) → IsType (shifted_or (if b then Some a.value else None) 0 type_sort i name)
  value_type a true i name e h = shifted_type 0 0 a.value (h (is_type_sort a.sort e))
  value_type a false i name e h = refl

  given_type : (o : Option (Argument Depth)) (i : ℕ) (name : Name)
      → ((a : Argument Depth) → o ≡ Some a → a.sort ≡ type_sort → IsType a.value)
      → IsType (shifted_or (of_sort type_sort o) 0 type_sort i name)
  given_type None i name h = refl
  given_type (Some a) i name h = value_type a (same_sort type_sort a.sort) i name refl (h a refl)

  -- a type stays a type where arguments replace its parameters
  inst_type : (t : Tree Depth) → IsType t → IsType (inst_tree 0 later t)
  inst_type (param s i name) h =
      subst (λ x. IsType (given_under later 0 x i name)) (sym h) (given_type (slice_get later i) i name (λ a at. (plain i a at).1))
  inst_type (bound s d e) h = h
  inst_type (term l ts) h = h
  inst_type (region r) h = absurd h
  inst_type (node l ts) h = absurd h
  inst_type (binder vs t) h = absurd h

  reading_closed : (a : Argument Place) (o : Option (Argument Depth)) → ((b : Argument Depth) → o ≡ Some b → IsClosed b.value)
      → option_map (change_value (read 0)) o ≡ Some a → greatest_reach a.value ≡ 0
  reading_closed a None h is = absurd (cc)
  reading_closed a (Some b) h is =
      let same : change_value (read 0) b ≡ a = cc in
      subst (λ (x : Argument Place). greatest_reach x.value ≡ 0) same (h b refl)

  closed_readings : HoldNone (readings later)
  closed_readings k a at = reading_closed a (slice_get later k) (λ b there. (plain k b there).0)
      (sym (slice_get-map (change_value (read 0)) later k) ∙ at)

  inst_argument : (a : Argument Depth) → IsTypeArgument a → IsTypeArgument (change_value (inst_tree 0 later) a)
  inst_argument a is = record {
    sorted = is.sorted;
    type = inst_type a.value is.type;
    closed = ap greatest_reach (read-inst_tree 0 later a.value) ∙ put_closed (readings later) closed_readings (read 0 a.value) is.closed;
  }

module _ (ρ : Assignment) (is-assignment : IsAssignment ρ) where
  assign_argument : (a : Argument Depth) → IsTypeArgument a → IsTypeArgument (change_value (assign ρ) a)
  assign_argument a is = record {
    sorted = is.sorted;
    type = assign_type ρ is-assignment a.value is.type;
    closed = ap greatest_reach (read_assign ρ is-assignment 0 a.value) ∙ assigned_closed ρ is-assignment.closed (read 0 a.value) is.closed;
  }

-- an item is found where further items follow
pub found_before : {X : Type 0} (xs more : List X) (k : ℕ) (x : X) → slice_get xs k ≡ Some x → slice_get (xs ++ more) k ≡ Some x
found_before [] more k x at = absurd (cc)
found_before (y ∷ xs) more zero x at = at
found_before (y ∷ xs) more (suc k) x at = found_before xs more k x at

module _ (impls more : List Implementation) where
  with_more : {assumptions : List (Tree Place)} {goal : Tree Place} → Derives impls assumptions goal → Derives (impls ++ more) assumptions goal
  with_more (assumed k at) = assumed k at
  with_more (implemented k i at args are is conditions) =
      implemented k i (found_before impls more k i at) args are is (λ j c there. with_more (conditions j c there))

pub stable : (impls : List Implementation) → AreWritten impls → AreStable impls
stable impls written = record {
  parameters = λ assumptions goal later plain derived. stays impls (put (readings later)) (inst_tree 0 later) (read-inst_tree 0 later)
      (inst_argument later plain) (λ n args are r goal. put-put (readings later) (readings args) r (goal.answered args are)) written derived;
  variables = λ assumptions goal derived ρ is. stays impls (assigned ρ) (assign ρ) (read_assign ρ is 0) (assign_argument ρ is)
      (λ n args are r goal. assigned_put ρ (readings args) r goal.ground (goal.answered args are)) written derived;
  further = λ assumptions goal more derived. with_more impls more derived;
}
