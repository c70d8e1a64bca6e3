-- The flags of a tree: what a scan of all its nodes finds.
use Rattle.std.specs.Prelude.{ℕ, bit_or}
use Rattle.tt_flags.specs.TypeFlags.{has_free_regions, has_re_erased, has_ty_param, has_ct_param, has_re_bound}
use Rattle.tt_flags.specs.TypeFlags.{has_ty_bound, has_ct_bound, has_canonical_bound}
use Rattle.tt_kinds.specs.Label.{Name, Sort, region_sort, type_sort, const_sort, FreeRegion, static_region}
use Rattle.tt_kinds.specs.Label.{erased_region, region_var, error_region, late_param_region, placeholder_region}
use Rattle.tt_kinds.specs.Label.{list_flags, flags_of_label}
use Rattle.tt_kinds.specs.Tree.{Depth, at, canonical, Tree, param, bound, region, term, node, binder, Forest, none}
use Rattle.tt_kinds.specs.Tree.{also}

-- a parameter
abbrev pub param_flags : Sort → ℕ
param_flags region_sort = 0x20202
param_flags type_sort = has_ty_param
param_flags const_sort = has_ct_param

-- a bound variable
abbrev pub bound_flags : Sort → ℕ
bound_flags region_sort = has_re_bound
bound_flags type_sort = has_ty_bound
bound_flags const_sort = has_ct_bound

-- the further flag of a canonical variable
abbrev pub index_flags : Depth → ℕ
index_flags (at d) = 0
index_flags canonical = has_canonical_bound

-- a region that is neither an early parameter nor bound
abbrev pub region_flags : FreeRegion Name → ℕ
region_flags static_region = has_free_regions
region_flags erased_region = has_re_erased
region_flags (region_var x) = 0x20210
region_flags (error_region e) = 0x30000
region_flags (late_param_region d r) = 0x20200
region_flags (placeholder_region u v r) = 0x20280

abbrev mutual
  -- the union of the flags of all nodes and leaves
  pub scan : Tree Depth → ℕ
  scan (param s i name) = param_flags s
  scan (bound s d e) = bit_or (bound_flags s) (index_flags d)
  scan (region r) = region_flags r
  scan (term l ts) = bit_or (flags_of_label l) (scan_all ts)
  scan (node l ts) = bit_or (flags_of_label l) (scan_all ts)
  scan (binder vs t) = bit_or (list_flags vs) (scan t)

  pub scan_all : Forest Depth → ℕ
  scan_all none = 0
  scan_all (also t ts) = bit_or (scan t) (scan_all ts)
