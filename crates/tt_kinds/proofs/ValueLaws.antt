-- The terms of a declaration.
use Rattle.std.proofs.Common.{ℕ}
use Rattle.tt_kinds.specs.Shape as shape
use Rattle.tt_kinds.specs.Shape.{Shapes}
use Rattle.tt_kinds.specs.Values.{declared_shapes}
use Rattle.tt_kinds.specs.declared.declaration.DeclarationKind.{DeclarationKind}
use Rattle.tt_kinds.specs.declared.declaration.DeclarationKind.TheVariants as kind
use Rattle.tt_kinds.specs.declared.table.Table.TheVariants.{TypeLists, VarLists}

-- a declaration has no terms, but for the lists of a function's signature
pub declared_by : (P : Shapes → Type 0) → P shape.none → ((vars tys : ℕ) → P (shape.also (shape.stored VarLists vars) (shape.also (shape.stored TypeLists tys) shape.none))) → (k : DeclarationKind) → P (declared_shapes k)
declared_by P none lists (kind.Fn sig) = lists sig.value.bound_vars.number sig.value.value.inputs_and_output.number
declared_by P none lists _ = none
