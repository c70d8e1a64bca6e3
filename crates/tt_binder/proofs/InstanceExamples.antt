-- Small types that an instantiation returns unchanged, and one for whose refusal there are two causes.
use Rattle.std.proofs.Common.{inl, inr, [], ◌∷◌, refl, arith}
use Rattle.tt_index.specs.declared.refusal.Refusal.TheVariants.{ArgOutOfRange, ArgKind}
use Rattle.tt_index.specs.declared.qualifier.Mutability.TheVariants as mutability
use Rattle.tt_kinds.specs.Label.{region_sort, type_sort, static_region, region_var, ref_type, type_label}
use Rattle.tt_kinds.specs.Tree.{Depth, Tree, param, region, term, none, also}
use Rattle.tt_kinds.specs.Argument.{Argument}
use Rattle.tt_kinds.specs.Cause.{Cause}
use Rattle.tt_fold.proofs.ShiftExamples.{i32}
use Rattle.tt_binder.specs.Instance.{ComesBack}
use Rattle.tt_binder.proofs.SharingExamples.{parameter, one, tuple}

-- a reference to `i32` whose region is a region variable
abbrev hidden : Tree Depth
hidden = term (type_label (ref_type mutability.«Not»)) (also (region (region_var 0)) (also i32 none))

-- a region variable in a type without parameters is hidden, so the type comes back
comes_back : ComesBack (one i32) hidden
comes_back = record { no_param = refl; hides = inr (λ x h. elim h.0 [ inl a ↦ a | inr b ↦ elim b [ inl c ↦ c | inr d ↦ d ] ]) }

-- such a type comes back also where there are no arguments
comes_back_without : ComesBack [] hidden
comes_back_without = record { no_param = refl; hides = inl refl }

-- a pair of two parameters, and a region as the one argument
abbrev two_parameters : Tree Depth
two_parameters = tuple (also parameter (also (param type_sort 1 []) none))

abbrev a_region : Argument Depth
a_region = record { sort = region_sort; value = region static_region }

-- a region where two types are wanted is of another sort, and one too few: either cause may be named
two_causes : Cause two_parameters (a_region ∷ []) (ArgKind 0) × Cause two_parameters (a_region ∷ []) (ArgOutOfRange 1)
two_causes = (inl (inl (refl, refl)), ((λ e. cc), inl (inr (inl refl)), omega arith))
