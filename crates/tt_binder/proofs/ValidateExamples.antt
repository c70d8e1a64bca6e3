-- Small types under a binder, and whether their variables agree with its list.
use Rattle.std.proofs.Common.{List, [], ◌∷◌, refl}
use Rattle.tt_kinds.specs.Label.{Name, region_sort, type_sort, anonymous, named, VarKind, region_variable}
use Rattle.tt_kinds.specs.Label.{type_variable}
use Rattle.tt_kinds.specs.Tree.{Depth, at, Tree, bound, binder}
use Rattle.tt_kinds.specs.declared.bound.BoundTyKind.TheVariants as bound_ty
use Rattle.tt_fold.proofs.ShiftExamples.{reference_at}
use Rattle.tt_binder.specs.Validate.{Agrees}

-- lists of one type without a name, and of one region without a name
abbrev one_type : List (VarKind Name)
one_type = type_variable bound_ty.Anon ∷ []

abbrev one_region : List (VarKind Name)
one_region = region_variable anonymous ∷ []

-- `^0`, and the region `'^0.0`
abbrev bound_type : Tree Depth
bound_type = bound type_sort (at 0) (record { var = 0; kind = type_variable bound_ty.Anon })

abbrev near : Tree Depth
near = bound region_sort (at 0) (record { var = 0; kind = region_variable anonymous })

-- a value under a binder of one more region, in which there is `&'^1.0 i32`
abbrev under_region : Tree Depth
under_region = binder one_region (reference_at 1)

-- a bound type agrees with a list of one type
type_agrees : Agrees one_type 0 bound_type
type_agrees is = refl

-- a bound region disagrees with a list of one type
region_disagrees : Agrees one_type 0 near → ⊥
region_disagrees h = let never = h refl in cc

-- a number that is not below the length of the list disagrees
second_disagrees : Agrees one_type 0 (bound type_sort (at 0) (record { var = 1; kind = type_variable bound_ty.Anon })) → ⊥
second_disagrees h = let never = h refl in cc

-- a region disagrees with a region of another name
name_disagrees : Agrees (region_variable (named 3) ∷ []) 0 near → ⊥
name_disagrees h = let never = h refl in cc

-- under one more binder the outer binder's variables have the index 1, and agree with its list
inner_agrees : Agrees one_region 0 under_region
inner_agrees = (λ is. refl, (tt, tt))

-- the outer binder's variables disagree with an empty list
none_disagrees : Agrees [] 0 under_region → ⊥
none_disagrees h = let never = h.0 refl in cc

-- the inner binder's variables of index 0 take no part
own_agrees : Agrees [] 0 (binder one_region near)
own_agrees is = let never = is in cc
