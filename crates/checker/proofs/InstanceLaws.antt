-- Types that were compared with instances of written ones, and the rules.
use Rattle.std.proofs.Common.{◌≡◌, ℕ, suc, ◌<◌, List, length, Some, sym, subst, ap, ◌∙◌, inl, inr}
use Rattle.std.specs.Prelude.{slice_get}
use Rattle.tt_kinds.specs.Argument.{Argument}
use Rattle.tt_kinds.specs.Handle.{GenericArgs, Ty}
use Rattle.tt_kinds.specs.Kinds.{args_shape, ty_shape}
use Rattle.tt_kinds.specs.Tree.{Depth, Tree}
use Rattle.tt_interner.specs.Owned.{IsOwned}
use Rattle.tt_interner.specs.Stored.{Terms, Extends}
use Rattle.tt_interner.proofs.OwnedLaws.{found_owned}
use Rattle.tt_fold.specs.Steps.{tree_in}
use Rattle.tt_interner.specs.Arguments.{AreArguments, args_at}
use Rattle.tt_binder.specs.ArgumentLaws.{args_at-grows, arguments-still}
use Rattle.tt_binder.specs.Instance.{IsPlain}
use Rattle.checker_syntax.specs.declared.program.DataType.{DataType}
use Rattle.checker.specs.Items.{AdtId}
use Rattle.checker.specs.Scope.{IsScope, argument_trees, around}
use Rattle.checker.specs.TypeTrees.{data_type_of}
use Rattle.checker.specs.Typing.{AreTypeArguments, Around, Fits, IsInstance, Writes, values}
use Rattle.checker.specs.declared.scope.Scope.{Scope}
use Rattle.checker.proofs.ListLaws.{below_next}
use Rattle.checker.proofs.ScopeLaws.{around_stays}
use Rattle.checker.proofs.TreeLaws.{tree_at, tree_stays}
use Rattle.checker.proofs.WrittenLaws.{number_at}

-- the type is the instance of the written one of this number
abbrev pub IsInstanceOf : Terms → Scope → GenericArgs → ℕ → Ty → Type 0
IsInstanceOf terms scope args number ty = (declared : Tree Depth)
    × Writes (around terms scope) number declared
    × IsPlain (argument_trees terms args) declared (tree_in terms.rows (ty_shape ty))

module _ (old new : Terms) (scope : Scope) (args : GenericArgs) (extends : Extends old new) (h : IsScope old scope)
    (owned : IsOwned args_shape old args) (are : AreArguments old.rows (args_at old.rows args)) where
  -- the trees of arguments stay
  pub arguments_stay : argument_trees new args ≡ argument_trees old args
  arguments_stay = arguments-still old.rows new.rows (args_at old.rows args) (args_at new.rows args) extends.rows
      (args_at-grows old.rows new.rows args extends.rows owned) are

  -- an instance of a written type stays one
  pub instance_stays : (number : ℕ) (ty : Ty) → IsOwned ty_shape old ty → IsInstanceOf new scope args number ty
      → IsInstanceOf old scope args number ty
  instance_stays number ty mine is = (
    is.0,
    subst (λ A. Writes A number is.0) (around_stays old new scope extends h) is.1,
    subst (λ a. IsPlain a is.0 (tree_in old.rows (ty_shape ty))) arguments_stay
        (subst (λ t. IsPlain (argument_trees new args) is.0 t) (tree_stays old new ty extends mine) is.2),
  )

  -- an operand of the instance's type fits
  pub operand_fits : (number w n : ℕ) (found : Ty) → n < number → slice_get scope.types.now n ≡ Some found
      → IsInstanceOf new scope args w found
      → Fits (around old scope) number (argument_trees old args) w n
  operand_fits number w n found before there is =
      let mine = found_owned ty_shape old scope.types.now n found there h.types in
      let stays = instance_stays w found mine is in
      (stays.0, tree_in old.rows (ty_shape found), stays.1, (before, tree_at old scope.types.now n found there), stays.2)

-- an instance that was made is the plain one
pub instance_made : (old new : Terms) (scope : Scope) (args : GenericArgs) (number : ℕ) (declared bound value result : Ty)
    → Writes (around old scope) number (tree_in old.rows (ty_shape declared)) → bound ≡ declared → result ≡ value
    → IsPlain (argument_trees old args) (tree_in old.rows (ty_shape bound)) (tree_in new.rows (ty_shape value))
    → (x : Tree Depth) × Writes (around old scope) number x × IsPlain (argument_trees old args) x (tree_in new.rows (ty_shape result))
instance_made old new scope args number declared bound value result there same is plain = (
  tree_in old.rows (ty_shape declared),
  there,
  subst (λ x. IsPlain (argument_trees old args) (tree_in old.rows (ty_shape declared)) (tree_in new.rows (ty_shape x))) (sym is)
      (subst (λ x. IsPlain (argument_trees old args) (tree_in old.rows (ty_shape x)) (tree_in new.rows (ty_shape value))) same plain),
)

-- a type that is the instance that was made
pub instance_found : (old new : Terms) (scope : Scope) (args : GenericArgs) (number : ℕ) (made ty : Ty) → Extends old new
    → IsOwned ty_shape old ty → made ≡ ty
    → ((x : Tree Depth) × Writes (around old scope) number x × IsPlain (argument_trees old args) x (tree_in new.rows (ty_shape made)))
    → IsInstanceOf old scope args number ty
instance_found old new scope args number made ty extends mine same is = (
  is.0,
  is.1,
  subst (λ t. IsPlain (argument_trees old args) is.0 t)
      (ap (λ x. tree_in new.rows (ty_shape x)) same ∙ tree_stays old new ty extends mine) is.2,
)

-- a type that is the data type of this number, at its arguments
pub data_type_found : (terms : Terms) (scope : Scope) (args : GenericArgs) (k : ℕ) (item : DataType) (id declared : AdtId) (ty : Ty)
    → slice_get scope.program.now.«data».items k ≡ Some item → slice_get scope.declared.now.data_types.items k ≡ Some declared
    → id ≡ declared → AreTypeArguments (argument_trees terms args) (length item.params.items)
    → tree_in terms.rows (ty_shape ty) ≡ data_type_of id.number (values (argument_trees terms args))
    → IsInstance (around terms scope) k item (argument_trees terms args) (tree_in terms.rows (ty_shape ty))
data_type_found terms scope args k item id declared ty there named same arguments is = record {
  id = declared.number;
  there = there;
  named = number_at scope.declared.now.data_types.items k declared named;
  arguments = arguments;
  is = is ∙ ap (λ i. data_type_of i.number (values (argument_trees terms args))) same;
}

-- the operands below a number fit
abbrev pub AreFitBelow : Around → ℕ → List (Argument Depth) → List ℕ → List ℕ → ℕ → Type 0
AreFitBelow A i args ws ns count = (k w n : ℕ) → k < count → slice_get ws k ≡ Some w → slice_get ns k ≡ Some n → Fits A i args w n

-- and so do those below the next one
pub fit_next : (A : Around) (i : ℕ) (args : List (Argument Depth)) (ws ns : List ℕ) (count w n : ℕ) → AreFitBelow A i args ws ns count
    → slice_get ws count ≡ Some w → slice_get ns count ≡ Some n → Fits A i args w n → AreFitBelow A i args ws ns (suc count)
fit_next A i args ws ns count w n below written there fits k v m less at of_k =
    elim (below_next k count less) [
      | inl older ↦ below k v m older at of_k
      | inr same ↦ (let first : w ≡ v = let p = ap (slice_get ws) same in cc in
          let second : n ≡ m = let p = ap (slice_get ns) same in cc in
          subst (λ x. Fits A i args x m) first (subst (λ x. Fits A i args w x) second fits))
    ]
