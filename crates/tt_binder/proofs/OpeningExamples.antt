-- Small types, opened.
use Rattle.std.proofs.Common.{inl, inr, ◌≡◌, ℕ, [], ◌∷◌, refl, ap, arith}
use Rattle.tt_index.specs.declared.qualifier.Mutability.TheVariants as mutability
use Rattle.tt_index.specs.declared.refusal.Refusal.TheVariants.{NoArguments, ArgOutOfRange, ArgKind}
use Rattle.tt_kinds.specs.Label.{region_sort, anonymous, region_variable, static_region, ref_type, type_label}
use Rattle.tt_kinds.specs.Tree.{Depth, at, Tree, bound, region, term, none, also}
use Rattle.tt_kinds.specs.Reading.{greatest_reach}
use Rattle.tt_kinds.specs.Argument.{Argument}
use Rattle.tt_fold.proofs.ShiftExamples.{i32}
use Rattle.tt_binder.specs.Opening.{open_tree, IsOpened, OpeningCause}
use Rattle.tt_binder.proofs.SharingExamples.{one, tuple, pointer}

-- a region that is the variable of this number and index
abbrev variable_at : ℕ → ℕ → Tree Depth
variable_at d i = bound region_sort (at d) (record { var = i; kind = region_variable anonymous })

-- a reference to `i32` with a region
abbrev reference_to : Tree Depth → Tree Depth
reference_to r = term (type_label (ref_type mutability.«Not»)) (also r (also i32 none))

-- a region, as an argument
abbrev region_arg : Tree Depth → Argument Depth
region_arg r = record { sort = region_sort; value = r }

abbrev a_static : Tree Depth
a_static = region static_region

-- the binder's variable becomes its argument
one_region : open_tree 0 (region_arg a_static ∷ []) (reference_to (variable_at 0 0)) ≡ reference_to a_static
one_region = refl

-- two variables become two arguments, by their numbers
two_regions : open_tree 0 (region_arg a_static ∷ region_arg (variable_at 3 0) ∷ []) (tuple (also (reference_to (variable_at 0 1)) (also (reference_to (variable_at 0 0)) none)))
    ≡ tuple (also (reference_to (variable_at 3 0)) (also (reference_to a_static) none))
two_regions = refl

-- under a further binder the argument is shifted, and that binder's own variable stays
under_another : open_tree 0 (region_arg (variable_at 0 0) ∷ []) (pointer (also (reference_to (variable_at 1 0)) (also (reference_to (variable_at 0 0)) none)))
    ≡ pointer (also (reference_to (variable_at 1 0)) (also (reference_to (variable_at 0 0)) none))
under_another = refl

-- a variable from outside loses the binder
from_outside : open_tree 0 (region_arg a_static ∷ []) (tuple (also (reference_to (variable_at 1 0)) (also (pointer (also (reference_to (variable_at 2 5)) none)) none)))
    ≡ tuple (also (reference_to (variable_at 0 0)) (also (pointer (also (reference_to (variable_at 1 5)) none)) none))
from_outside = refl

-- the same on readings: the contents are read under the binder, and the result outside of it
reads_plain : IsOpened (region_arg (variable_at 0 0) ∷ []) (pointer (also (reference_to (variable_at 1 0)) (also (reference_to (variable_at 2 1)) none)))
    (pointer (also (reference_to (variable_at 1 0)) (also (reference_to (variable_at 1 1)) none)))
reads_plain = refl

-- no argument is captured in what is read
captured : IsOpened (region_arg (variable_at 0 0) ∷ []) (pointer (also (reference_to (variable_at 1 0)) none)) (pointer (also (reference_to (variable_at 0 0)) none)) → ⊥
captured h = let never : 0 ≡ 1 = ap greatest_reach h in omega (arith, never)

-- no variable becomes the argument of another number
other_number : IsOpened (region_arg a_static ∷ region_arg (variable_at 3 0) ∷ []) (reference_to (variable_at 0 1)) (reference_to a_static) → ⊥
other_number h = let never : 0 ≡ 4 = ap greatest_reach h in omega (arith, never)

-- no arguments: refused
no_arguments : OpeningCause [] 0 (reference_to (variable_at 0 0)) NoArguments
no_arguments = (refl, inl refl)

-- fewer arguments than the number of the variable: refused with the number
too_few : OpeningCause (region_arg a_static ∷ []) 0 (reference_to (variable_at 0 1)) (ArgOutOfRange 1)
too_few = ((λ e. cc), inl (refl, refl), omega arith)

-- a type for a region: refused with the number
other_sort : OpeningCause (one i32) 0 (reference_to (variable_at 0 0)) (ArgKind 0)
other_sort = inl (refl, refl, refl)

-- the variable of another binder wants no argument
not_its_own : OpeningCause [] 0 (pointer (also (reference_to (variable_at 0 0)) none)) NoArguments → ⊥
not_its_own h = elim h.1 [
  | inl under ↦ elim under [ inl list ↦ elim list [ inl first ↦ elim first [ inl is ↦ omega (arith, is) | inr rest ↦ elim rest [ inl a ↦ a | inr b ↦ b ] ] | inr nothing ↦ nothing ] | inr nothing ↦ nothing ]
  | inr nothing ↦ nothing
]
