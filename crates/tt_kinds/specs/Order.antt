-- The orders of inference variables and directions.
use Rattle.std.specs.Prelude.{◌≡◌, ℕ}
use Rattle.std.specs.Ordering.{nat_cmp, ordering_then}
use Rattle.std.specs.declared.cmp.Ordering.{Ordering}
use Rattle.tt_kinds.specs.declared.const_kind.InferConst.{InferConst}
use Rattle.tt_kinds.specs.declared.const_kind.InferConst.TheVariants as constant
use Rattle.tt_kinds.specs.declared.predicate_kind.AliasRelationDirection.{AliasRelationDirection}
use Rattle.tt_kinds.specs.declared.predicate_kind.AliasRelationDirection.TheVariants.{Equate, Subtype}
use Rattle.tt_kinds.specs.declared.ty_kind.InferTy.{InferTy}
use Rattle.tt_kinds.specs.declared.ty_kind.InferTy.TheVariants as variable

-- the comparison orders two values by their places, and by their numbers where the places are one
abbrev pub OrdersByBoth : {A : Type 0} → (A → ℕ) → (A → ℕ) → (A → A → Ordering) → Type 0
OrdersByBoth {A} place number cmp = (a b : A) → cmp a b ≡ ordering_then (nat_cmp (place a) (place b)) (nat_cmp (number a) (number b))

-- the place of the kind of a type's inference variable
abbrev pub infer_ty_place : InferTy → ℕ
infer_ty_place (variable.TyVar n) = 0
infer_ty_place (variable.IntVar n) = 1
infer_ty_place (variable.FloatVar n) = 2
infer_ty_place (variable.FreshTy n) = 3
infer_ty_place (variable.FreshIntTy n) = 4
infer_ty_place (variable.FreshFloatTy n) = 5

-- the number of a type's inference variable
abbrev pub infer_ty_number : InferTy → ℕ
infer_ty_number (variable.TyVar n) = n
infer_ty_number (variable.IntVar n) = n
infer_ty_number (variable.FloatVar n) = n
infer_ty_number (variable.FreshTy n) = n
infer_ty_number (variable.FreshIntTy n) = n
infer_ty_number (variable.FreshFloatTy n) = n

-- the place of the kind of a constant's inference variable
abbrev pub infer_const_place : InferConst → ℕ
infer_const_place (constant.Var n) = 0
infer_const_place (constant.Fresh n) = 1

-- the number of a constant's inference variable
abbrev pub infer_const_number : InferConst → ℕ
infer_const_number (constant.Var n) = n
infer_const_number (constant.Fresh n) = n

-- equating comes before subtyping
abbrev pub direction_place : AliasRelationDirection → ℕ
direction_place Equate = 0
direction_place Subtype = 1
