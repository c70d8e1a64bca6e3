-- The flags that each query asks for, and queries of small values.
use Rattle.std.proofs.Common.{◌≡◌, ℕ, List, [], ◌∷◌, map, Some, None, refl}
use Rattle.std.specs.Prelude.{bit_and, codes}
use Rattle.tt_flags.specs.TypeFlags.{has_ty_param, has_ct_param, has_ty_infer, has_re_infer, has_ct_infer}
use Rattle.tt_flags.specs.TypeFlags.{has_ty_placeholder, has_re_placeholder, has_ct_placeholder, has_free_local_regions}
use Rattle.tt_flags.specs.TypeFlags.{has_ty_projection, has_ty_free_alias, has_ty_opaque, has_ty_inherent}
use Rattle.tt_flags.specs.TypeFlags.{has_ct_projection, has_non_region_error, has_re_error, has_free_regions}
use Rattle.tt_flags.specs.TypeFlags.{has_re_bound, has_ty_bound, has_ct_bound, has_re_erased, has_ty_fresh}
use Rattle.tt_flags.specs.TypeFlags.{has_ct_fresh, has_ty_coro, union_of}
use Rattle.tt_index.specs.declared.numeric.UintTy.TheVariants.{U32}
use Rattle.tt_index.specs.declared.qualifier.Mutability.TheVariants as mutability
use Rattle.tt_kinds.specs.Label.{region_sort, anonymous, region_variable, error_region, error_type, uint_type, ref_type}
use Rattle.tt_kinds.specs.Label.{type_label, pair_record, record_label, error_label}
use Rattle.tt_kinds.specs.Reading.{outer_binder}
use Rattle.tt_kinds.specs.Scan.{scan}
use Rattle.tt_kinds.specs.Tree.{Depth, at, Tree, bound, region, term, node, binder, none, also}
use Rattle.tt_visit.specs.HasError.{first_error}

-- a query, its mask, and the flags in the mask
abbrev Row : Type 0
Row = List ℕ × ℕ × List ℕ

-- the mask of each row is the union of its flags
abbrev AreMasks : List Row → Type 0
AreMasks rows = map (λ (r : Row). r.1) rows ≡ map (λ (r : Row). union_of r.2) rows

-- the mask of each query is the union of the flags that it asks for
masks : AreMasks (
    (codes "has_aliases", 0x7C00, has_ty_projection ∷ has_ty_free_alias ∷ has_ty_opaque ∷ has_ty_inherent ∷ has_ct_projection ∷ [])
    ∷ (codes "has_opaque_types", 0x1000, has_ty_opaque ∷ [])
    ∷ (codes "has_coroutines", 0x2000000, has_ty_coro ∷ [])
    ∷ (codes "references_error", 0x18000, has_non_region_error ∷ has_re_error ∷ [])
    ∷ (codes "has_non_region_error", 0x8000, has_non_region_error ∷ [])
    ∷ (codes "has_non_region_param", 0x5, has_ty_param ∷ has_ct_param ∷ [])
    ∷ (codes "has_infer_regions", 0x10, has_re_infer ∷ [])
    ∷ (codes "has_infer_types", 0x8, has_ty_infer ∷ [])
    ∷ (codes "has_non_region_infer", 0x28, has_ty_infer ∷ has_ct_infer ∷ [])
    ∷ (codes "has_infer", 0x38, has_ty_infer ∷ has_re_infer ∷ has_ct_infer ∷ [])
    ∷ (codes "has_placeholders", 0x1C0, has_ty_placeholder ∷ has_re_placeholder ∷ has_ct_placeholder ∷ [])
    ∷ (codes "has_non_region_placeholders", 0x140, has_ty_placeholder ∷ has_ct_placeholder ∷ [])
    ∷ (codes "has_regions", 0x260000, has_free_regions ∷ has_re_bound ∷ has_re_erased ∷ [])
    ∷ (codes "has_free_regions", 0x20000, has_free_regions ∷ [])
    ∷ (codes "has_erased_regions", 0x200000, has_re_erased ∷ [])
    ∷ (codes "has_erasable_regions", 0x20000, has_free_regions ∷ [])
    ∷ (codes "has_bound_regions", 0x40000, has_re_bound ∷ [])
    ∷ (codes "has_non_region_bound_vars", 0x180000, has_ty_bound ∷ has_ct_bound ∷ [])
    ∷ (codes "has_bound_vars", 0x1C0000, has_re_bound ∷ has_ty_bound ∷ has_ct_bound ∷ [])
    ∷ (
      codes "still_further_specializable",
      0x16D,
      has_ty_param ∷ has_ct_param ∷ has_ty_infer ∷ has_ct_infer ∷ has_ty_placeholder ∷ has_ct_placeholder ∷ [],
    )
    -- the flags of values that don't mean the same everywhere
    ∷ (
      codes "is_global",
      0xE0036D,
      has_ty_param ∷ has_ct_param ∷ has_ty_infer ∷ has_ct_infer ∷ has_ty_placeholder ∷ has_ct_placeholder
          ∷ has_free_local_regions ∷ has_re_erased ∷ has_ty_fresh ∷ has_ct_fresh ∷ [],
    )
    ∷ [])
masks = refl

-- `u32`, and a reference to it
abbrev u32 : Tree Depth
u32 = term (type_label (uint_type U32)) none

abbrev reference : Tree Depth → Tree Depth
reference r = term (type_label (ref_type mutability.«Not»)) (also r (also u32 none))

-- `&'e7 u32`, whose region is an error, and a type that is the error 3
abbrev of_an_error : Tree Depth
of_an_error = reference (region (error_region 7))

abbrev an_error : Tree Depth
an_error = term (type_label (error_type 3)) none

abbrev pair : Tree Depth → Tree Depth → Tree Depth
pair t s = node (record_label pair_record) (also t (also s none))

-- the first error of a pair is its region's, and the flag of other errors is set too
first_of_pair : (first_error (pair of_an_error an_error) ≡ Some 7) × (bit_and 0x8000 (scan (pair of_an_error an_error)) ≡ 0x8000)
first_of_pair = (refl, refl)

-- of the reference alone the first error is its region's, and the flag of other errors is not set
first_of_reference : (first_error of_an_error ≡ Some 7) × (bit_and 0x8000 (scan of_an_error) ≡ 0)
first_of_reference = (refl, refl)

-- a token by itself has the flags of both sorts, and without an error there is no token
first_of_token : (first_error (node (error_label 3) none) ≡ Some 3) × (scan (node (error_label 3) none) ≡ 0x18000) × (first_error u32 ≡ None)
first_of_token = (refl, refl, refl)

-- a reference whose region is bound three binders out
abbrev far_reference : Tree Depth
far_reference = reference (bound region_sort (at 2) (record { var = 0; kind = region_variable anonymous }))

-- a reference whose region is bound three binders out reaches three, and with a binder around it two; `u32` reaches
-- none
reaches : (outer_binder far_reference ≡ 3) × (outer_binder (binder [] far_reference) ≡ 2) × (outer_binder u32 ≡ 0)
reaches = (refl, refl, refl)

-- a binder that binds something has a flag, and one of no variables none
binder_flags : (scan (binder (region_variable anonymous ∷ []) u32) ≡ 0x1000000) × (scan (binder [] u32) ≡ 0)
binder_flags = (refl, refl)
