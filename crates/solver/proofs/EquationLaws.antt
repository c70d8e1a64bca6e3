-- What makes two goals equal makes their arguments equal, and what a comparison of arguments finds out.
use Rattle.std.proofs.Common.{◌≡◌, ◌+◌, ◌≤◌, ℕ, zero, suc, List, [], ◌∷◌, ◌++◌, length, map, refl, ap, sym, ◌∙◌, subst, arith}
use Rattle.std.specs.Prelude.{Some, Bool, true, not, IsSome, IsTrue, slice_get}
use Rattle.std.proofs.Math.Dec.{eqb}
use Rattle.std.proofs.lemmas.Bool.{eq-eqb, true≢false}
use Rattle.tt_kinds.specs.Argument.{Argument}
use Rattle.tt_kinds.specs.Handle.{GenericArgs, Ty}
use Rattle.tt_kinds.specs.GenericArg.{type_of}
use Rattle.tt_kinds.specs.Kinds.{arg_shape, ty_shape}
use Rattle.tt_kinds.specs.Label.{type_sort}
use Rattle.tt_kinds.specs.Shape.{fill, fill_all, item_shapes}
use Rattle.tt_kinds.specs.Tree.{Depth, Tree}
use Rattle.tt_kinds.specs.Values.{trait_predicate_shape}
use Rattle.tt_kinds.specs.declared.generic_arg.GenericArgKind.{GenericArgKind}
use Rattle.tt_kinds.specs.declared.generic_arg.GenericArgKind.TheVariants as arg
use Rattle.tt_kinds.specs.declared.predicate.TraitPredicate.{TraitPredicate}
use Rattle.tt_kinds.specs.declared.table.Table.TheVariants.{ArgLists}
use Rattle.tt_kinds.proofs.ReadingLaws.{read-injective}
use Rattle.tt_interner.specs.Arguments as rows
use Rattle.tt_interner.specs.Owned.{AreOwned, IsOwned, tree_by, tree_in}
use Rattle.tt_interner.specs.Reads.{Reads}
use Rattle.tt_interner.specs.Rows.{AreRows, args_row, meaning, row_shape}
use Rattle.tt_interner.specs.Stored.{Extends, IsAt, Terms}
use Rattle.tt_interner.proofs.Growth.{fill-grows}
use Rattle.tt_interner.proofs.OwnedLaws.{found_owned}
use Rattle.tt_interner.proofs.Trees.{distinct}
use Rattle.tt_binder.specs.ArgumentLaws.{arguments-still}
use Rattle.unify.specs.Faults.{IsEscapes, IsMismatch, IsOccurs}
use Rattle.unify.specs.Substitution.{Assignment, HasNoClosedUnifier, HasNoOwnUnifier, HasNoUnifier, IsOwn, Solves, Substitution}
use Rattle.unify.specs.Substitution.{assign, assign_all, variable_in, variable_tree}
use Rattle.unify.specs.declared.fault.Fault.{Fault}
use Rattle.unify.specs.declared.fault.Fault.TheVariants as fault
use Rattle.unify.proofs.LinkLaws.{proper_variable}
use Rattle.unify.proofs.OccursLaws.{type_proper}
use Rattle.solver.specs.Derivations.{instance_of}
use Rattle.solver.specs.Program.{goal_in}
use Rattle.solver.specs.Refutation.{AreTypes, EquatesArgs, EquatesGoals, EquatesItems, IsForced, IsOwnSolution, variables_from}

-- numbers of which a test says that they differ do
pub numbers_differ : (n m : ℕ) → not (eqb n m) ≡ true → n ≡ m → ⊥
numbers_differ n m differ same = true≢false (sym differ ∙ ap not (eq-eqb n m same))

-- the goal with these numbers
abbrev goal_of : ℕ → ℕ → TraitPredicate
goal_of n m = record { trait_ref = record { def_id = record { number = n; of = record {} }; args = record { number = m; of = record {} } } }

-- two goals of one tree are one
pub goals_tell : (terms : Terms) → AreRows terms.rows → (a b : TraitPredicate) → IsOwned trait_predicate_shape terms a
    → IsOwned trait_predicate_shape terms b → goal_in terms a ≡ goal_in terms b → a ≡ b
unfolding fill
goals_tell terms are a b p q same =
    let trees = read-injective 0 (tree_by trait_predicate_shape terms.rows a) (tree_by trait_predicate_shape terms.rows b) same in
    let number : a.trait_ref.def_id.number ≡ b.trait_ref.def_id.number = cc in
    let lists : meaning terms.rows ArgLists a.trait_ref.args.number ≡ meaning terms.rows ArgLists b.trait_ref.args.number = cc in
    let args = (distinct terms.rows are).numbers ArgLists ArgLists a.trait_ref.args.number b.trait_ref.args.number p.2.0 q.2.0 lists in
    ap (λ n. goal_of n a.trait_ref.args.number) number ∙ ap (goal_of b.trait_ref.def_id.number) args

-- what makes two goals equal makes them goals about one trait
pub one_trait : (ρ : Assignment) (terms : Terms) (left right : TraitPredicate) → EquatesGoals terms left right ρ
    → left.trait_ref.def_id.number ≡ right.trait_ref.def_id.number
unfolding fill
one_trait ρ terms left right same = cc

-- a goal is an instance of goals about the same trait alone
pub instance_of_one_trait : (terms : Terms) (args : List (Argument Depth)) (goal declared : TraitPredicate)
    → goal_in terms goal ≡ instance_of args (goal_in terms declared) → declared.trait_ref.def_id.number ≡ goal.trait_ref.def_id.number
unfolding fill
instance_of_one_trait terms args goal declared is = cc

module _ (ρ : Assignment) (terms : Terms) where
  first_or_later : (x y : GenericArgKind) (xs ys : List GenericArgKind) → EquatesArgs terms x y ρ → EquatesItems terms xs ys ρ
      → EquatesItems terms (x ∷ xs) (y ∷ ys) ρ
  first_or_later x y xs ys first later zero a b at there =
      let same : x ≡ a = cc in
      let also_same : y ≡ b = cc in
      subst (λ z. EquatesArgs terms z b ρ) same (subst (λ z. EquatesArgs terms x z ρ) also_same first)
  first_or_later x y xs ys first later (suc k) a b at there = later k a b at there

  equated_items : (xs ys : List GenericArgKind)
      → assign_all ρ (fill_all (meaning terms.rows) (item_shapes arg_shape xs)) ≡ assign_all ρ (fill_all (meaning terms.rows) (item_shapes arg_shape ys))
      → (length xs ≡ length ys) × EquatesItems terms xs ys ρ
  unfolding fill
  equated_items [] [] same = (refl, λ k a b at. absurd (cc))
  equated_items [] (y ∷ ys) same = absurd (cc)
  equated_items (x ∷ xs) [] same = absurd (cc)
  equated_items (x ∷ xs) (y ∷ ys) same =
      let first : EquatesArgs terms x y ρ = cc in
      let more : assign_all ρ (fill_all (meaning terms.rows) (item_shapes arg_shape xs))
      ≡ assign_all ρ (fill_all (meaning terms.rows) (item_shapes arg_shape ys)) = cc in
      let rest = equated_items xs ys more in
      (ap suc rest.0, first_or_later x y xs ys first rest.1)

  -- what makes two goals equal makes their arguments equal
  pub goals_equated : (left right : TraitPredicate) (lefts rights : List GenericArgKind)
      → Reads terms.rows ArgLists left.trait_ref.args.number (args_row lefts)
      → Reads terms.rows ArgLists right.trait_ref.args.number (args_row rights) → EquatesGoals terms left right ρ
      → (length lefts ≡ length rights) × EquatesItems terms lefts rights ρ
  unfolding fill
  goals_equated left right lefts rights read-left read-right same =
      let lists : assign ρ (meaning terms.rows ArgLists left.trait_ref.args.number)
      ≡ assign ρ (meaning terms.rows ArgLists right.trait_ref.args.number) = cc in
      let items : assign ρ (fill (meaning terms.rows) (row_shape (args_row lefts))) ≡ assign ρ (fill (meaning terms.rows) (row_shape (args_row rights))) =
      ap (assign ρ) (sym read-left.means) ∙ lists ∙ ap (assign ρ) read-right.means in
      equated_items lefts rights (cc)

-- no fault but a refusal comes where a solution makes the two types equal
pub no_fault : (n : ℕ) (σ : Substitution) (t u : Tree Depth) (f : Fault) → (IsOccurs f → HasNoUnifier σ t u)
    → (IsMismatch f → HasNoOwnUnifier n σ t u) → (IsEscapes f → HasNoClosedUnifier σ t u)
    → ((r : _) → f ≡ fault.Refused r → ⊥) → (ρ : Assignment) → IsOwnSolution n σ ρ → assign ρ t ≡ assign ρ u → ⊥
no_fault n σ t u fault.Mismatch occurs mismatch escapes refused ρ is same = mismatch tt ρ is.own is.solves same
no_fault n σ t u (fault.Occurs v x) occurs mismatch escapes refused ρ is same = occurs tt ρ is.solves same
no_fault n σ t u (fault.Escapes v x) occurs mismatch escapes refused ρ is same = escapes tt ρ is.closed is.solves same
no_fault n σ t u (fault.Refused r) occurs mismatch escapes refused ρ is same = refused r refl

-- a solution of bindings is one for more variables
pub own_further : (n m : ℕ) (σ : Substitution) (ρ : Assignment) → n ≤ m → IsOwnSolution n σ ρ → Solves ρ σ → IsOwn m ρ
own_further n m σ ρ more is solves = record { types = is.own.types; leaves = λ v past. is.own.leaves v (omega (arith, more, past)) }

-- a type's tree is its tree as an argument
pub arg_type : (m : Terms) (a : GenericArgKind) (ty : Ty) → type_of a ≡ Some ty → tree_in m.rows (arg_shape a) ≡ tree_in m.rows (ty_shape ty)
unfolding fill
arg_type m (arg.Lifetime r) ty is = absurd (cc)
arg_type m (arg.«Type» t) ty is = let same : t ≡ ty = cc in ap (λ x. tree_in m.rows (ty_shape x)) same
arg_type m (arg.Const k) ty is = absurd (cc)

-- how far a comparison of lists is: a solution that makes all items equal solves what is bound
abbrev pub ForcesItems : ℕ → Substitution → Terms → List GenericArgKind → List GenericArgKind → Substitution → Type 0
ForcesItems n σ terms lefts rights later = AreTypes lefts → AreTypes rights → (ρ : Assignment) → IsOwnSolution n σ ρ
    → EquatesItems terms lefts rights ρ → Solves ρ later

-- the next two items
pub item_forced : (old between : Terms) (n m : ℕ) (σ current later : Substitution) (lefts rights : List GenericArgKind) (k : ℕ)
    (a b : GenericArgKind) (found : Bool) → Extends old between → n ≤ m → AreOwned arg_shape old lefts → AreOwned arg_shape old rights
    → slice_get lefts k ≡ Some a → slice_get rights k ≡ Some b → ForcesItems n σ old lefts rights current
    → (IsSome (type_of a) → IsSome (type_of b) → IsForced m current (EquatesArgs between a b) found later)
    → AreTypes lefts → AreTypes rights → (ρ : Assignment) → IsOwnSolution n σ ρ → EquatesItems old lefts rights ρ
    → IsTrue found × Solves ρ later
item_forced old between n m σ current later lefts rights k a b found extends more ls rs at there forces forced tl tr ρ is equates =
    let solves = forces tl tr ρ is equates in
    forced (tl k a at) (tr k b there) ρ
    (record { own = own_further n m σ ρ more is is.solves; closed = is.closed; solves = solves })
    (ap (assign ρ) (fill-grows old.rows between.rows extends.rows (arg_shape a) (found_owned arg_shape old lefts k a at ls))
    ∙ equates k a b at there
    ∙ sym (ap (assign ρ) (fill-grows old.rows between.rows extends.rows (arg_shape b) (found_owned arg_shape old rights k b there rs))))

-- an argument for a variable
abbrev pub variable_argument : ℕ → Argument Depth
variable_argument v = record { sort = type_sort; value = variable_tree v }

-- one more variable
pub one_variable_more : (v n w : ℕ) → w ≡ v + n → variables_from v n ++ variable_argument w ∷ [] ≡ variables_from v (suc n)
one_variable_more v zero w is = let same : w ≡ v = omega (arith, is) in ap (λ x. variable_argument x ∷ []) same
one_variable_more v (suc n) w is = ap (λ xs. variable_argument v ∷ xs) (one_variable_more (suc v) n w (omega (arith, is)))

-- a type that is a variable is an argument for this variable
pub variable_is_argument : (terms : Terms) (a : GenericArgKind) (ty : Ty) (v : ℕ) → AreRows terms.rows → type_of a ≡ Some ty
    → variable_in (tree_in terms.rows (ty_shape ty)) ≡ Some v → rows.argument_of terms.rows a ≡ variable_argument v
variable_is_argument terms (arg.Lifetime r) ty v are is found = absurd (cc)
variable_is_argument terms (arg.«Type» t) ty v are is found =
    let same : t ≡ ty = cc in
    let tree : tree_in terms.rows (arg_shape (arg.«Type» t)) ≡ variable_tree v =
    arg_type terms (arg.«Type» t) ty is ∙ proper_variable (tree_in terms.rows (ty_shape ty)) v (type_proper terms.rows are ty) found in
    ap (λ x. record { sort = type_sort; value = x }) tree
variable_is_argument terms (arg.Const k) ty v are is found = absurd (cc)

-- the arguments of a list that was just made are its items
pub made_arguments : (terms : Terms) (args : GenericArgs) (items : List GenericArgKind) → IsAt terms.rows (args_row items) args.number
    → rows.args_at terms.rows args ≡ items
made_arguments terms args items at = ap rows.row_args at

map_pushed : {X Y : Type 0} (f : X → Y) (xs : List X) (x : X) → map f (xs ++ x ∷ []) ≡ map f xs ++ f x ∷ []
map_pushed f [] x = refl
map_pushed f (y ∷ xs) x = ap (λ ys. f y ∷ ys) (map_pushed f xs x)

-- the variables that were made, and one more
pub variables_next : (old new : Terms) (v n w : ℕ) (items : List GenericArgKind) (x : GenericArgKind) → Extends old new
    → AreOwned arg_shape old items → rows.arguments old.rows items ≡ variables_from v n → w ≡ v + n
    → rows.argument_of new.rows x ≡ variable_argument w → rows.arguments new.rows (items ++ x ∷ []) ≡ variables_from v (suc n)
variables_next old new v n w items x extends owned are is one =
    map_pushed (rows.argument_of new.rows) items x
    ∙ ap (λ xs. xs ++ rows.argument_of new.rows x ∷ []) (arguments-still old.rows new.rows items items extends.rows refl owned ∙ are)
    ∙ ap (λ a. variables_from v n ++ a ∷ []) one ∙ one_variable_more v n w is

-- and the list of them
pub variables_made : (old new : Terms) (args : GenericArgs) (items : List GenericArgKind) (v n : ℕ) → Extends old new
    → AreOwned arg_shape old items → IsAt new.rows (args_row items) args.number → rows.arguments old.rows items ≡ variables_from v n
    → rows.arguments new.rows (rows.args_at new.rows args) ≡ variables_from v n
variables_made old new args items v n extends owned at are =
    ap (rows.arguments new.rows) (made_arguments new args items at) ∙ arguments-still old.rows new.rows items items extends.rows refl owned ∙ are
