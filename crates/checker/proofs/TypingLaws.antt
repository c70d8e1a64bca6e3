-- Types that were compared, and the rules.
use Rattle.std.proofs.Common.{◌≡◌, ℕ, suc, ◌<◌, List, Option, Some, None, sym, subst, ap, ◌∙◌, inl, inr}
use Rattle.std.specs.Prelude.{IfSome, slice_get}
use Rattle.tt_kinds.specs.Handle.{Ty}
use Rattle.tt_kinds.specs.Kinds.{ty_shape}
use Rattle.tt_interner.specs.Owned.{IsOwned}
use Rattle.tt_interner.specs.Stored.{Terms, Extends}
use Rattle.tt_fold.specs.Steps.{tree_in}
use Rattle.checker_syntax.specs.declared.program.Expression.{Expression}
use Rattle.checker_syntax.specs.declared.program.Expression.TheVariants as of
use Rattle.checker.specs.Scope.{IsScope, around}
use Rattle.checker.specs.TypeTrees.{reference_to}
use Rattle.checker.specs.Typing.{Around, HasType, IsFormed, IsItemOf, IsKnown, IsTyped, Reaches, Writes, binding, dereference, item}
use Rattle.checker.specs.declared.scope.Scope.{Scope}
use Rattle.checker.proofs.ListLaws.{below_next}
use Rattle.checker.proofs.ScopeLaws.{around_stays}
use Rattle.checker.proofs.TreeLaws.{tree_at, tree_stays}

-- a type that is the one that was built has its rule
pub same_typed : (A : Around) (old new : Terms) (number : ℕ) (e : Expression) (expected ty : Ty) → Extends old new
    → IsOwned ty_shape old ty → expected ≡ ty
    → IsTyped A number (tree_in new.rows (ty_shape expected)) e → IsTyped A number (tree_in old.rows (ty_shape ty)) e
same_typed A old new number e expected ty extends owned same typed =
    subst (λ t. IsTyped A number t e) (ap (λ x. tree_in new.rows (ty_shape x)) same ∙ tree_stays old new ty extends owned) typed

-- the type of an expression, by its rule
pub has_type : (terms : Terms) (scope : Scope) (number : ℕ) (e : Expression) (ty : Ty) → slice_get scope.types.now number ≡ Some ty
    → IsKnown (tree_in terms.rows (ty_shape ty)) → IsFormed (around terms scope) (tree_in terms.rows (ty_shape ty)) → IsTyped (around terms scope) number (tree_in terms.rows (ty_shape ty)) e
    → HasType (around terms scope) number e
has_type terms scope number e ty there known formed typed = record {
  type = tree_in terms.rows (ty_shape ty);
  there = tree_at terms scope.types.now number ty there;
  known = known;
  formed = formed;
  typed = typed;
}

-- a variable has its value's type, and the written one
pub let_typed : (terms : Terms) (scope : Scope) (number init : ℕ) (annotation : Option ℕ) (found ty : Ty) → init < number
    → slice_get scope.types.now init ≡ Some found → found ≡ ty
    → IfSome annotation (λ w. (d : Ty) × Writes (around terms scope) w (tree_in terms.rows (ty_shape d)) × (d ≡ ty))
    → IsTyped (around terms scope) number (tree_in terms.rows (ty_shape ty)) (of.Let init annotation)
let_typed terms scope number init (Some w) found ty before there same written =
    binding (before, tree_at terms scope.types.now init ty (there ∙ ap Some same))
    (subst (λ x. Writes (around terms scope) w (tree_in terms.rows (ty_shape x))) written.2 written.1)
let_typed terms scope number init None found ty before there same written =
    binding (before, tree_at terms scope.types.now init ty (there ∙ ap Some same)) tt

-- what a reference refers to
pub dereference_typed : (old new : Terms) (scope : Scope) (number value : ℕ) (found expected ty : Ty) → value < number
    → slice_get scope.types.now value ≡ Some found
    → Extends old new → IsOwned ty_shape old found → found ≡ expected
    → tree_in new.rows (ty_shape expected) ≡ reference_to (tree_in old.rows (ty_shape ty))
    → IsTyped (around old scope) number (tree_in old.rows (ty_shape ty)) (of.Dereference value)
dereference_typed old new scope number value found expected ty before there extends owned same built =
    let here = sym (tree_stays old new found extends owned) ∙ ap (λ x. tree_in new.rows (ty_shape x)) same ∙ built in
    dereference (before, tree_at old scope.types.now value found there ∙ ap Some here)

-- an item of a tuple, out of references
pub item_typed : (terms : Terms) (scope : Scope) (number value k : ℕ) (found whole expected ty : Ty) → value < number
    → slice_get scope.types.now value ≡ Some found
    → Reaches (tree_in terms.rows (ty_shape found)) (tree_in terms.rows (ty_shape whole))
    → IsItemOf k (tree_in terms.rows (ty_shape whole)) (tree_in terms.rows (ty_shape expected)) → expected ≡ ty
    → IsTyped (around terms scope) number (tree_in terms.rows (ty_shape ty)) (of.Item value k)
item_typed terms scope number value k found whole expected ty before there reaches of_tuple same =
    item (before, tree_at terms scope.types.now value found there) reaches
    (subst (λ x. IsItemOf k (tree_in terms.rows (ty_shape whole)) (tree_in terms.rows (ty_shape x))) same of_tuple)

-- the expressions below a number have their types
abbrev pub AreTypedBelow : Around → List Expression → ℕ → Type 0
AreTypedBelow A es n = (i : ℕ) (e : Expression) → i < n → slice_get es i ≡ Some e → HasType A i e

-- and so have those below the next one
pub typed_next : (A : Around) (es : List Expression) (n : ℕ) (e : Expression) → AreTypedBelow A es n → slice_get es n ≡ Some e
    → HasType A n e → AreTypedBelow A es (suc n)
typed_next A es n e below at has i d less is =
    elim (below_next i n less) [
      | inl older ↦ below i d older is
      | inr same ↦ (let this : d ≡ e = let p = ap (slice_get es) same in cc in
          subst (λ k. HasType A k d) (sym same) (subst (HasType A n) (sym this) has))
    ]

-- what is around stays, as the type of an expression says it
pub has_type_stays : (old new : Terms) (scope : Scope) (number : ℕ) (e : Expression) → Extends old new → IsScope old scope
    → HasType (around new scope) number e → HasType (around old scope) number e
has_type_stays old new scope number e extends h has = subst (λ A. HasType A number e) (around_stays old new scope extends h) has
