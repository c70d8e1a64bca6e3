-- The variable that a type's kind is.
use Rattle.std.proofs.Common.{◌≡◌, refl, List, ap, ◌∙◌}
use Rattle.tt_kinds.specs.Shape.{Meaning, fill}
use Rattle.tt_kinds.specs.Kinds.{ty_kind_shape, ty_shape}
use Rattle.tt_kinds.specs.Handle.{Ty}
use Rattle.tt_kinds.specs.declared.ty_kind.TyKind.{TyKind}
use Rattle.tt_kinds.specs.declared.ty_kind.TyKind.TheVariants as ty
use Rattle.tt_kinds.specs.declared.ty_kind.InferTy.TheVariants.{TyVar}
use Rattle.tt_kinds.specs.declared.table.Table.TheVariants.{Types}
use Rattle.tt_interner.specs.Rows.{Row, type_row, meaning, row_shape}
use Rattle.tt_interner.specs.Reads.{Reads}
use Rattle.tt_fold.specs.Steps.{tree_in}
use Rattle.unify.specs.Substitution.{variable_in}
use Rattle.unify.specs.Resolver.{kind_variable}

-- a kind's tree is a variable exactly where the kind is one
tree_variable : (m : Meaning) (k : TyKind) → variable_in (fill m (ty_kind_shape k)) ≡ kind_variable k
unfolding fill
tree_variable m (ty.Infer (TyVar v)) = refl
tree_variable m k = refl

-- and so is the type's tree
pub type_variable : (rows : List Row) (t : Ty) (k : TyKind) → Reads rows Types t.number (type_row k) → variable_in (tree_in rows (ty_shape t)) ≡ kind_variable k
unfolding fill
type_variable rows t k reads = ap variable_in reads.means ∙ tree_variable (meaning rows) k

-- the tree of a kind that was stored
pub stored_variable : (old new : List Row) (t : Ty) (k : TyKind) → meaning new Types t.number ≡ fill (meaning old) (row_shape (type_row k)) → variable_in (tree_in new (ty_shape t)) ≡ kind_variable k
unfolding fill
stored_variable old new t k means = ap variable_in means ∙ tree_variable (meaning old) k
