-- Flags and outer binders of kinds with their contents, written by hand. A kind has its own flags and the ones of its
-- children; of its children's outer binders it has the greatest, one less under its binder; and a binder that binds
-- something has the flag 0x1000000.
use Rattle.std.proofs.Common.{◌≡◌, ℕ, zero, suc, List, [], ◌∷◌, map, true, refl}
use Rattle.tt_index.specs.declared.qualifier.Mutability.TheVariants as mutability
use Rattle.tt_kinds.specs.declared.alias.AliasTyKind.TheVariants as alias
use Rattle.tt_kinds.specs.declared.binder.Binder.{Binder}
use Rattle.tt_kinds.specs.declared.bound.BoundRegion.{BoundRegion}
use Rattle.tt_kinds.specs.declared.bound.BoundRegionKind.TheVariants as bound_region
use Rattle.tt_kinds.specs.declared.bound.BoundTyKind.TheVariants as bound_ty
use Rattle.tt_kinds.specs.declared.bound.BoundVarIndexKind.TheVariants.{Bound, Canonical}
use Rattle.tt_kinds.specs.declared.const_kind.ConstKind.TheVariants as const
use Rattle.tt_kinds.specs.declared.const_kind.InferConst.TheVariants.{Var}
use Rattle.tt_kinds.specs.declared.const_kind.ValTreeKind.TheVariants as valtree
use Rattle.tt_kinds.specs.declared.parts.Kind.{Kind}
use Rattle.tt_kinds.specs.declared.parts.Kind.TheVariants as kind
use Rattle.tt_kinds.specs.declared.pattern.PatternKind.TheVariants as pattern
use Rattle.tt_kinds.specs.declared.predicate.BoundConstness.TheVariants as constness
use Rattle.tt_kinds.specs.declared.predicate_kind.AliasRelationDirection.TheVariants as direction
use Rattle.tt_kinds.specs.declared.predicate_kind.ClauseKind.TheVariants as clause
use Rattle.tt_kinds.specs.declared.predicate_kind.PredicateKind.{PredicateKind}
use Rattle.tt_kinds.specs.declared.predicate_kind.PredicateKind.TheVariants as predicate
use Rattle.tt_kinds.specs.declared.region_kind.RegionKind.TheVariants.{ReEarlyParam, ReBound, ReLateParam, ReStatic}
use Rattle.tt_kinds.specs.declared.region_kind.RegionKind.TheVariants.{ReVar, RePlaceholder, ReErased, ReError}
use Rattle.tt_kinds.specs.declared.table.Table.TheVariants.{Types, Consts, Patterns, Predicates, TypeLists, ConstLists}
use Rattle.tt_kinds.specs.declared.table.Table.TheVariants.{ArgLists, PatternLists, ExistentialLists, VarLists}
use Rattle.tt_kinds.specs.declared.ty_kind.InferTy.TheVariants.{TyVar}
use Rattle.tt_kinds.specs.declared.ty_kind.TyKind.TheVariants as ty
use Rattle.tt_kinds.specs.Handle.{handle, BoundExistentialPredicates, BoundVarKinds}
use Rattle.tt_kinds.specs.Id.{id_of}
use Rattle.tt_kinds.specs.Kinds.{kind_shape, region_shape, clauses_row_shape}
use Rattle.tt_kinds.specs.Label.{Name, type_sort, const_sort, region_sort, RecordLabel, anonymous, VarKind}
use Rattle.tt_kinds.specs.Label.{region_variable, type_variable, const_variable, infer_type, infer_const, range_pattern}
use Rattle.tt_kinds.specs.Label.{not_null_pattern, well_formed_record, const_evaluatable_record}
use Rattle.tt_kinds.specs.Label.{existential_trait_record, existential_projection_record, auto_trait_record, Label}
use Rattle.tt_kinds.specs.Label.{type_label, const_label, pattern_label, predicate_label, existential_label, list_label}
use Rattle.tt_kinds.specs.Label.{var_list_label, text_label, record_label}
use Rattle.tt_kinds.specs.Reading.{outer_binder}
use Rattle.tt_kinds.specs.Scan.{scan}
use Rattle.tt_kinds.specs.Shape.{Shape, Meaning, fill}
use Rattle.tt_kinds.specs.Tree.{Depth, at, Tree, param, bound, term, node, binder, Forest, none, also}
use Rattle.tt_kinds.proofs.KindExamples.{t, u, c, d, p, tys, args, consts, pats, existentials, type_term, const_term}
use Rattle.tt_kinds.proofs.KindExamples.{bound as under_vars, a_type, a_const, placeholder, alias_of, value_of}
use Rattle.tt_kinds.proofs.KindExamples.{of_predicate, of_clause, trait_ref, alias_term}

-- one tree, and two
abbrev one : Tree Depth → Forest Depth
one x = also x none

abbrev two : Tree Depth → Tree Depth → Forest Depth
two x y = also x (one y)

-- `T` and `^2`
abbrev parameter : Tree Depth
parameter = param type_sort 0 []

abbrev far_type : Tree Depth
far_type = bound type_sort (at 2) (record { var = 1; kind = type_variable bound_ty.Anon })

-- `^4` and `?0`, which are constants
abbrev far_const : Tree Depth
far_const = bound const_sort (at 4) (record { var = 1; kind = const_variable })

abbrev unknown_const : Tree Depth
unknown_const = term (const_label (infer_const (Var 0))) none

-- `^4..?0`, and the pattern of all but the null pointer
abbrev far_range : Tree Depth
far_range = term (pattern_label range_pattern) (two far_const unknown_const)

abbrev not_null : Tree Depth
not_null = term (pattern_label not_null_pattern) none

-- `[?0, '^6]`
abbrev far_args : Tree Depth
far_args = node (list_label ArgLists) (two (term (type_label (infer_type (TyVar 0))) none)
    (bound region_sort (at 6) (record { var = 0; kind = region_variable anonymous })))

-- a binder's list of one region, and a value under a binder of some variables as a row
abbrev one_region : List (VarKind Name)
one_region = region_variable anonymous ∷ []

abbrev under : Label Name → List (VarKind Name) → RecordLabel Name → Forest Depth → Tree Depth
under l vs m ts = term l (one (binder vs (node (record_label m) ts)))

-- the trees of handles
abbrev world : Meaning
world Types zero = parameter
world Types (suc n) = far_type
world Consts zero = far_const
world Consts (suc n) = unknown_const
world Patterns n = far_range
world Predicates zero = under predicate_label one_region well_formed_record (one parameter)
world Predicates (suc n) = under predicate_label [] const_evaluatable_record (one far_const)
world TypeLists n = node (list_label TypeLists) (two parameter far_type)
world ConstLists n = node (list_label ConstLists) (two far_const unknown_const)
world ArgLists n = far_args
world PatternLists n = node (list_label PatternLists) (two not_null far_range)
world ExistentialLists zero = node (list_label ExistentialLists)
    (two (under existential_label one_region (existential_trait_record 0) (one far_args)) (under existential_label [] (auto_trait_record 0) none))
world ExistentialLists (suc n) = node (list_label ExistentialLists)
    (two (under existential_label [] (existential_projection_record 0) (two far_args far_const)) (under existential_label one_region (auto_trait_record 0) none))
world VarLists zero = node (var_list_label one_region) none
world VarLists (suc n) = node (var_list_label []) none
world _ n = node (text_label []) none

-- flags and an outer binder, and what a scan of a shape's tree finds
abbrev info : ℕ → ℕ → ℕ × ℕ
info flags reach = (flags, reach)

abbrev info_of : Shape → ℕ × ℕ
info_of s = info (scan (fill world s)) (outer_binder (fill world s))

-- each of these has these flags, and reaches so far
abbrev Agree : {K : Type 0} → (K → Shape) → List (K × ℕ × ℕ) → Type 0
Agree shape_of rows = map (λ r. info_of (shape_of r.0)) rows ≡ map (λ r. info r.1 r.2) rows

abbrev AreRows : {K : Type 0} → (K → Kind) → List (K × ℕ × ℕ) → Type 0
AreRows of_table = Agree (λ k. kind_shape (of_table k))

-- the unnamed region of number 0
abbrev a_region : BoundRegion
a_region = record { var = 0; kind = bound_region.Anon }

-- the flags of each kind of region, and how far it reaches
regions : Agree region_shape (
    (ReEarlyParam (record { index = 0; name = handle 0 }), 0x20202, 0)
    ∷ (ReBound (Bound 4) a_region, 0x40000, 5)
    ∷ (ReBound Canonical a_region, 0x4040000, 0)
    ∷ (ReLateParam (record { scope = record { number = 0 }; kind = bound_region.Anon }), 0x20200, 0)
    ∷ (ReStatic, 0x20000, 0)
    ∷ (ReVar 6, 0x20210, 0)
    ∷ (RePlaceholder (placeholder a_region), 0x20280, 0)
    ∷ (ReErased, 0x200000, 0)
    ∷ (ReError (record { 0 = 3 }), 0x30000, 0)
    ∷ [])
unfolding fill
regions = refl

-- a type and a constant that are parameters, bound, or canonical: their flags, and how far they reach
leaves : (AreRows kind.Ty (
    (ty.Param (record { index = 0; name = handle 0 }), 0x1, 0)
    ∷ (ty.Bound (Bound 2) a_type, 0x80000, 3)
    ∷ (ty.Bound Canonical a_type, 0x4080000, 0)
    ∷ []))
    × (AreRows kind.Const (
    (const.Param (record { index = 0; name = handle 0 }), 0x4, 0)
    ∷ (const.Bound (Bound 4) a_const, 0x100000, 5)
    ∷ (const.Bound Canonical a_const, 0x4100000, 0)
    ∷ []))
unfolding fill
leaves = (refl, refl)

-- another list of existential predicates, and a binder's list of no variables
abbrev projections : BoundExistentialPredicates
projections = handle 1

abbrev no_vars : BoundVarKinds
no_vars = handle 1

abbrev under_none : {T : Type 0} → T → Binder T
under_none x = record { value = x; bound_vars = no_vars }

-- types with their contents: their flags, and how far they reach
types : AreRows kind.Ty (
    (ty.Adt (id_of 0) args, 0x40008, 7)
    ∷ (ty.FnDef (id_of 0) args, 0x40008, 7)
    ∷ (ty.Coroutine (id_of 0) args, 0x2040008, 7)
    ∷ (ty.CoroutineWitness (id_of 0) args, 0x40008, 7)
    ∷ (alias_of (alias.Projection (id_of 0)), 0x40408, 7)
    ∷ (alias_of (alias.Opaque (id_of 0)), 0x41008, 7)
    ∷ (ty.Array u c, 0x180000, 5)
    ∷ (ty.Pat t p, 0x100021, 5)
    ∷ (ty.Slice u, 0x80000, 3)
    ∷ (ty.RawPtr u mutability.Mut, 0x80000, 3)
    ∷ (ty.Ref (ReBound (Bound 3) a_region) u mutability.«Not», 0xC0000, 4)
    ∷ (ty.Tuple tys, 0x80001, 3)
    ∷ (ty.FnPtr (under_vars (record { inputs_and_output = tys })) (record { fn_sig_kind = record { flags = 0; splat = 65535 } }), 0x1080001, 2)
    ∷ (ty.UnsafeBinder (record { 0 = under_vars u }), 0x1080000, 2)
    ∷ (ty.UnsafeBinder (record { 0 = under_none u }), 0x80000, 2)
    ∷ (ty.Dynamic existentials ReErased, 0x1240008, 6)
    ∷ (ty.Dynamic projections (ReBound (Bound 8) a_region), 0x1140008, 9)
    ∷ [])
unfolding fill
types = refl

-- constants with their contents
constants : AreRows kind.Const (
    (const.Unevaluated (record { def = id_of 0; args = args }), 0x44008, 7)
    ∷ (value_of (valtree.Leaf (record { bits = 7; size = 1 })), 0x1, 0)
    ∷ (value_of (valtree.Branch consts), 0x100021, 5)
    ∷ (const.Expr (record { tag = 5; args = args }), 0x40008, 7)
    ∷ [])
unfolding fill
constants = refl

-- patterns with their contents
patterns : AreRows kind.Pat (
    (pattern.Range d c, 0x100020, 5)
    ∷ (pattern.Range d d, 0x20, 0)
    ∷ (pattern.Or pats, 0x100020, 5)
    ∷ (pattern.NotNull, 0, 0)
    ∷ [])
unfolding fill
patterns = refl

-- clauses under a binder of one region
clauses : AreRows of_clause (
    (clause.Trait (record { trait_ref = trait_ref }), 0x1040008, 6)
    ∷ (clause.HostEffect (record { trait_ref = trait_ref; constness = constness.Maybe }), 0x1040008, 6)
    ∷ (clause.RegionOutlives (record { 0 = ReBound (Bound 1) a_region; 1 = ReStatic }), 0x1060000, 1)
    ∷ (clause.TypeOutlives (record { 0 = u; 1 = ReStatic }), 0x10A0000, 2)
    ∷ (clause.Projection (record { projection_term = alias_term; term = type_term t }), 0x1040009, 6)
    ∷ (clause.ConstArgHasType c u, 0x1180000, 4)
    ∷ (clause.WellFormed (type_term u), 0x1080000, 2)
    ∷ (clause.WellFormed (const_term c), 0x1100000, 4)
    ∷ (clause.ConstEvaluatable c, 0x1100000, 4)
    ∷ (clause.UnstableFeature (handle 0), 0x1000000, 0)
    ∷ [])
unfolding fill
clauses = refl

-- other predicates under that binder
predicates : AreRows of_predicate (
    (predicate.DynCompatible (id_of 0), 0x1000000, 0)
    ∷ (predicate.Ambiguous, 0x1000000, 0)
    ∷ (predicate.Subtype (record { a_is_expected = true; a = t; b = u }), 0x1080001, 2)
    ∷ (predicate.Coerce (record { a = t; b = u }), 0x1080001, 2)
    ∷ (predicate.ConstEquate c d, 0x1100020, 4)
    ∷ (predicate.NormalizesTo (record { alias = alias_term; term = const_term c }), 0x1140008, 6)
    ∷ (predicate.AliasRelate (type_term u) (const_term d) direction.Equate, 0x1080020, 2)
    ∷ [])
unfolding fill
predicates = refl

-- a predicate under a binder of no variables
abbrev unbound : PredicateKind → Kind
unbound k = kind.Predicate (under_none k)

-- under a binder of no variables there is no flag of a binder; a list of clauses has the flags of all, and the greatest
-- of their outer binders
clause_lists : (AreRows unbound ((predicate.Clause (clause.ConstEvaluatable c), 0x100000, 4) ∷ []))
    × (Agree clauses_row_shape ((handle 0 ∷ handle 1 ∷ [], 0x1100001, 4) ∷ []))
unfolding fill
clause_lists = (refl, refl)
