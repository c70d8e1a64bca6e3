-- Calls, data type expressions and fields that were compared, and the rules.
use Rattle.std.proofs.Common.{◌≡◌, ℕ, ◌<◌, List, length, map, Some, subst}
use Rattle.std.specs.Prelude.{slice_get}
use Rattle.tt_kinds.specs.Handle.{GenericArgs, Ty}
use Rattle.tt_kinds.specs.Kinds.{args_shape, ty_shape}
use Rattle.tt_interner.specs.Owned.{IsOwned}
use Rattle.tt_interner.specs.Stored.{Terms, Extends}
use Rattle.tt_fold.specs.Steps.{tree_in}
use Rattle.tt_interner.specs.Arguments.{AreArguments, args_at}
use Rattle.checker_syntax.specs.declared.program.DataType.{DataType}
use Rattle.checker_syntax.specs.declared.program.Field.{Field}
use Rattle.checker_syntax.specs.declared.program.Function.{Function}
use Rattle.checker_syntax.specs.declared.program.Span.{Span}
use Rattle.checker_syntax.specs.declared.program.Expression.TheVariants as of
use Rattle.checker.specs.Scope.{IsScope, argument_trees, around}
use Rattle.checker.specs.Typing.{AreFormed, AreTypeArguments, Fit, HasField, IsInstance, IsTyped, Reaches, call, data_type}
use Rattle.checker.specs.Typing.{field, values}
use Rattle.checker.specs.Written.{part}
use Rattle.checker.specs.declared.scope.Scope.{Scope}
use Rattle.checker.proofs.InstanceLaws.{IsInstanceOf, instance_stays}
use Rattle.checker.proofs.TreeLaws.{tree_at}

-- a call has its output's instance
pub call_typed : (old new : Terms) (scope : Scope) (args : GenericArgs) → Extends old new → IsScope old scope
    → IsOwned args_shape old args → AreArguments old.rows (args_at old.rows args)
    → (number f : ℕ) (s : Span) (item : Function) (ty : Ty) (numbers : List ℕ)
    → slice_get scope.program.now.functions.items f ≡ Some item → AreTypeArguments (argument_trees old args) (length item.params.items)
    → AreFormed (around old scope) (values (argument_trees old args)) → numbers ≡ part scope.body.now.operands.items s → Fit (around old scope) number (argument_trees old args) item.inputs.items numbers
    → IsOwned ty_shape old ty → IsInstanceOf new scope args item.output ty
    → IsTyped (around old scope) number (tree_in old.rows (ty_shape ty)) (of.Call f s)
call_typed old new scope args extends h owned are number f s item ty numbers there counted formed same fit mine is =
    let stays = instance_stays old new scope args extends h owned are item.output ty mine is in
    call there counted formed
    (subst (λ ns. Fit (around old scope) number (argument_trees old args) item.inputs.items ns) same fit) stays.1 stays.2

-- a data type expression has the data type
pub data_typed : (old : Terms) (scope : Scope) (args : GenericArgs) (number k : ℕ) (s : Span) (item : DataType) (ty : Ty) (ws numbers : List ℕ)
    → IsInstance (around old scope) k item (argument_trees old args) (tree_in old.rows (ty_shape ty))
    → ws ≡ map (λ f. f.ty) item.fields.items → numbers ≡ part scope.body.now.operands.items s
    → Fit (around old scope) number (argument_trees old args) ws numbers
    → IsTyped (around old scope) number (tree_in old.rows (ty_shape ty)) (of.Data k s)
data_typed old scope args number k s item ty ws numbers is fields same fit =
    data_type is (subst (λ xs. Fit (around old scope) number (argument_trees old args) xs (part scope.body.now.operands.items s)) fields
    (subst (λ ns. Fit (around old scope) number (argument_trees old args) ws ns) same fit))

-- a field of this name that has the type
pub field_found : (old new : Terms) (scope : Scope) (args : GenericArgs) (item : DataType) (k name : ℕ) (found : Field) (ty : Ty)
    → new ≡ old
    → slice_get item.fields.items k ≡ Some found → found.name ≡ name → IsInstanceOf new scope args found.ty ty
    → HasField (around old scope) item (argument_trees old args) name (tree_in old.rows (ty_shape ty))
field_found old new scope args item k name found ty same there named is =
    let here = subst (λ terms. IsInstanceOf terms scope args found.ty ty) same is in
    record { number = k; field = found; declared = here.0; there = there; named = named; written = here.1; plain = here.2 }

-- a field has its written type's instance
pub field_typed : (old : Terms) (scope : Scope) (args : GenericArgs) (number n name k : ℕ) (found whole ty : Ty) (item : DataType)
    → n < number → slice_get scope.types.now n ≡ Some found
    → Reaches (tree_in old.rows (ty_shape found)) (tree_in old.rows (ty_shape whole))
    → IsInstance (around old scope) k item (argument_trees old args) (tree_in old.rows (ty_shape whole))
    → HasField (around old scope) item (argument_trees old args) name (tree_in old.rows (ty_shape ty))
    → IsTyped (around old scope) number (tree_in old.rows (ty_shape ty)) (of.Field n name)
field_typed old scope args number n name k found whole ty item before there reaches is has =
    field (before, tree_at old scope.types.now n found there) reaches is has
