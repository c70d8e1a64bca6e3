-- The numbers of the flags and of their masks, under the names of the constants of `TypeFlags`.
use Rattle.std.specs.Prelude.{ℕ, List, [], ◌∷◌, codes}
use Rattle.std.specs.Int.RustNames.{bit_or}

-- a type parameter occurs
abbrev pub has_ty_param : ℕ
has_ty_param = 0x1

-- an early-bound region parameter occurs
abbrev pub has_re_param : ℕ
has_re_param = 0x2

-- a constant parameter occurs
abbrev pub has_ct_param : ℕ
has_ct_param = 0x4

-- a type inference variable occurs
abbrev pub has_ty_infer : ℕ
has_ty_infer = 0x8

-- a region inference variable occurs
abbrev pub has_re_infer : ℕ
has_re_infer = 0x10

-- a constant inference variable occurs
abbrev pub has_ct_infer : ℕ
has_ct_infer = 0x20

-- a placeholder type occurs
abbrev pub has_ty_placeholder : ℕ
has_ty_placeholder = 0x40

-- a placeholder region occurs
abbrev pub has_re_placeholder : ℕ
has_re_placeholder = 0x80

-- a placeholder constant occurs
abbrev pub has_ct_placeholder : ℕ
has_ct_placeholder = 0x100

-- a region occurs that is local to one function or one inference context
abbrev pub has_free_local_regions : ℕ
has_free_local_regions = 0x200

-- a projection of an associated type occurs
abbrev pub has_ty_projection : ℕ
has_ty_projection = 0x400

-- a free type alias occurs
abbrev pub has_ty_free_alias : ℕ
has_ty_free_alias = 0x800

-- an opaque type occurs
abbrev pub has_ty_opaque : ℕ
has_ty_opaque = 0x1000

-- an inherent associated type occurs
abbrev pub has_ty_inherent : ℕ
has_ty_inherent = 0x2000

-- an unevaluated constant occurs
abbrev pub has_ct_projection : ℕ
has_ct_projection = 0x4000

-- a type or constant error occurs
abbrev pub has_non_region_error : ℕ
has_non_region_error = 0x8000

-- a region error occurs
abbrev pub has_re_error : ℕ
has_re_error = 0x10000

-- a region occurs that is neither bound nor erased
abbrev pub has_free_regions : ℕ
has_free_regions = 0x20000

-- a bound region occurs
abbrev pub has_re_bound : ℕ
has_re_bound = 0x40000

-- a bound type occurs
abbrev pub has_ty_bound : ℕ
has_ty_bound = 0x80000

-- a bound constant occurs
abbrev pub has_ct_bound : ℕ
has_ct_bound = 0x100000

-- an erased region occurs
abbrev pub has_re_erased : ℕ
has_re_erased = 0x200000

-- a freshened type inference variable occurs
abbrev pub has_ty_fresh : ℕ
has_ty_fresh = 0x400000

-- a freshened constant inference variable occurs
abbrev pub has_ct_fresh : ℕ
has_ct_fresh = 0x800000

-- a binder with a nonempty list of variables occurs, whether or not they are used
abbrev pub has_binder_vars : ℕ
has_binder_vars = 0x1000000

-- a coroutine type occurs
abbrev pub has_ty_coro : ℕ
has_ty_coro = 0x2000000

-- a bound variable of a canonical query occurs
abbrev pub has_canonical_bound : ℕ
has_canonical_bound = 0x4000000

-- a parameter of any kind: has_ty_param, has_re_param, has_ct_param
abbrev pub has_param : ℕ
has_param = 0x7

-- an inference variable of any kind: has_ty_infer, has_re_infer, has_ct_infer
abbrev pub has_infer : ℕ
has_infer = 0x38

-- a placeholder of any kind: has_ty_placeholder, has_re_placeholder, has_ct_placeholder
abbrev pub has_placeholder : ℕ
has_placeholder = 0x1c0

-- what could be normalized further: an alias of any kind or an unevaluated constant
abbrev pub has_alias : ℕ
has_alias = 0x7c00

-- an error of any kind: has_non_region_error, has_re_error
abbrev pub has_error : ℕ
has_error = 0x18000

-- a bound variable of any kind: has_re_bound, has_ty_bound, has_ct_bound
abbrev pub has_bound_vars : ℕ
has_bound_vars = 0x1c0000

-- a region of any kind: has_free_regions, has_re_bound, has_re_erased
abbrev pub has_regions : ℕ
has_regions = 0x260000

-- a name local to one function or one inference context: a type or constant parameter, inference variable, placeholder
-- or freshened variable, a free local region or an erased region
abbrev pub has_free_local_names : ℕ
has_free_local_names = 0xe0036d

-- a type or constant parameter, placeholder or inference variable, whose replacement could change which impl a
-- specialization selects
abbrev pub still_further_specializable : ℕ
still_further_specializable = 0x16d

-- the flags of all these sets together
abbrev pub union_of : List ℕ → ℕ
union_of [] = 0
union_of (flags ∷ rest) = bit_or flags (union_of rest)

-- the flags in the order of their bits, and then the masks, each the union of its flags
abbrev pub flag_table : List (List ℕ × ℕ)
flag_table =
    (codes "HAS_TY_PARAM", has_ty_param) ∷
    (codes "HAS_RE_PARAM", has_re_param) ∷
    (codes "HAS_CT_PARAM", has_ct_param) ∷
    (codes "HAS_TY_INFER", has_ty_infer) ∷
    (codes "HAS_RE_INFER", has_re_infer) ∷
    (codes "HAS_CT_INFER", has_ct_infer) ∷
    (codes "HAS_TY_PLACEHOLDER", has_ty_placeholder) ∷
    (codes "HAS_RE_PLACEHOLDER", has_re_placeholder) ∷
    (codes "HAS_CT_PLACEHOLDER", has_ct_placeholder) ∷
    (codes "HAS_FREE_LOCAL_REGIONS", has_free_local_regions) ∷
    (codes "HAS_TY_PROJECTION", has_ty_projection) ∷
    (codes "HAS_TY_FREE_ALIAS", has_ty_free_alias) ∷
    (codes "HAS_TY_OPAQUE", has_ty_opaque) ∷
    (codes "HAS_TY_INHERENT", has_ty_inherent) ∷
    (codes "HAS_CT_PROJECTION", has_ct_projection) ∷
    (codes "HAS_NON_REGION_ERROR", has_non_region_error) ∷
    (codes "HAS_RE_ERROR", has_re_error) ∷
    (codes "HAS_FREE_REGIONS", has_free_regions) ∷
    (codes "HAS_RE_BOUND", has_re_bound) ∷
    (codes "HAS_TY_BOUND", has_ty_bound) ∷
    (codes "HAS_CT_BOUND", has_ct_bound) ∷
    (codes "HAS_RE_ERASED", has_re_erased) ∷
    (codes "HAS_TY_FRESH", has_ty_fresh) ∷
    (codes "HAS_CT_FRESH", has_ct_fresh) ∷
    (codes "HAS_BINDER_VARS", has_binder_vars) ∷
    (codes "HAS_TY_CORO", has_ty_coro) ∷
    (codes "HAS_CANONICAL_BOUND", has_canonical_bound) ∷
    (codes "HAS_PARAM", union_of (has_ty_param ∷ has_re_param ∷ has_ct_param ∷ [])) ∷
    (codes "HAS_INFER", union_of (has_ty_infer ∷ has_re_infer ∷ has_ct_infer ∷ [])) ∷
    (codes "HAS_PLACEHOLDER", union_of (has_ty_placeholder ∷ has_re_placeholder ∷ has_ct_placeholder ∷ [])) ∷ (
      codes "HAS_ALIAS",
      union_of (has_ty_projection ∷ has_ty_free_alias ∷ has_ty_opaque ∷ has_ty_inherent
          ∷ has_ct_projection ∷ []),
    ) ∷
    (codes "HAS_ERROR", union_of (has_non_region_error ∷ has_re_error ∷ [])) ∷
    (codes "HAS_BOUND_VARS", union_of (has_re_bound ∷ has_ty_bound ∷ has_ct_bound ∷ [])) ∷
    (codes "HAS_REGIONS", union_of (has_free_regions ∷ has_re_bound ∷ has_re_erased ∷ [])) ∷ (
      codes "HAS_FREE_LOCAL_NAMES",
      union_of (has_ty_param ∷ has_ct_param ∷ has_ty_infer ∷ has_ct_infer
          ∷ has_ty_placeholder ∷ has_ct_placeholder ∷ has_ty_fresh ∷ has_ct_fresh ∷ has_free_local_regions
          ∷ has_re_erased
          ∷ []),
    ) ∷ (
      codes "STILL_FURTHER_SPECIALIZABLE",
      union_of (has_ty_param ∷ has_ct_param ∷ has_ty_infer ∷ has_ct_infer
          ∷ has_ty_placeholder ∷ has_ct_placeholder ∷ []),
    ) ∷ []
