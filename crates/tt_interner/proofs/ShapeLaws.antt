-- A shape tells its row.
use Rattle.std.proofs.Common.{◌≡◌, ℕ, zero, suc, List, [], ◌∷◌, Some, refl, sym, ap, ◌∙◌}
use Rattle.std.specs.Prelude.{map}
use Rattle.tt_kinds.specs.declared.bound.BoundVarIndexKind.{BoundVarIndexKind}
use Rattle.tt_kinds.specs.declared.bound.BoundVarIndexKind.TheVariants.{Bound as BoundIndex, Canonical}
use Rattle.tt_kinds.specs.declared.bound.BoundRegionKind.{BoundRegionKind}
use Rattle.tt_kinds.specs.declared.bound.BoundRegionKind.TheVariants as region_kind
use Rattle.tt_kinds.specs.declared.bound.BoundTyKind.{BoundTyKind}
use Rattle.tt_kinds.specs.declared.bound.BoundTyKind.TheVariants as ty_var_kind
use Rattle.tt_kinds.specs.declared.bound.BoundVariableKind.{BoundVariableKind}
use Rattle.tt_kinds.specs.declared.bound.BoundVariableKind.TheVariants as variable
use Rattle.tt_kinds.specs.declared.region_kind.RegionKind.{RegionKind}
use Rattle.tt_kinds.specs.declared.region_kind.RegionKind.TheVariants.{ReEarlyParam, ReBound, ReLateParam, ReStatic}
use Rattle.tt_kinds.specs.declared.region_kind.RegionKind.TheVariants.{ReVar, RePlaceholder, ReErased, ReError}
use Rattle.tt_kinds.specs.declared.generic_arg.GenericArgKind.{GenericArgKind}
use Rattle.tt_kinds.specs.declared.generic_arg.GenericArgKind.TheVariants as arg
use Rattle.tt_kinds.specs.declared.term.Term.{Term}
use Rattle.tt_kinds.specs.declared.term.TermKind.{TermKind}
use Rattle.tt_kinds.specs.declared.term.TermKind.TheVariants as term_kind
use Rattle.tt_kinds.specs.Handle.{Ty}
use Rattle.tt_kinds.specs.declared.ty_kind.TyKind.{TyKind}
use Rattle.tt_kinds.specs.declared.ty_kind.TyKind.TheVariants as ty
use Rattle.tt_kinds.specs.declared.const_kind.ValTreeKind.{ValTreeKind}
use Rattle.tt_kinds.specs.declared.const_kind.ValTreeKind.TheVariants as valtree
use Rattle.tt_kinds.specs.declared.const_kind.ConstKind.{ConstKind}
use Rattle.tt_kinds.specs.declared.const_kind.ConstKind.TheVariants as const
use Rattle.tt_kinds.specs.declared.pattern.PatternKind.{PatternKind}
use Rattle.tt_kinds.specs.declared.pattern.PatternKind.TheVariants as pattern
use Rattle.tt_kinds.specs.declared.predicate.OutlivesPredicate.{OutlivesPredicate}
use Rattle.tt_kinds.specs.declared.predicate_kind.ClauseKind.{ClauseKind}
use Rattle.tt_kinds.specs.declared.predicate_kind.ClauseKind.TheVariants as clause
use Rattle.tt_kinds.specs.declared.predicate_kind.AliasRelationDirection.{AliasRelationDirection}
use Rattle.tt_kinds.specs.declared.predicate_kind.PredicateKind.{PredicateKind}
use Rattle.tt_kinds.specs.declared.predicate_kind.PredicateKind.TheVariants as predicate
use Rattle.tt_kinds.specs.declared.existential.ExistentialPredicate.{ExistentialPredicate}
use Rattle.tt_kinds.specs.declared.existential.ExistentialPredicate.TheVariants as existential
use Rattle.tt_kinds.specs.declared.table.Table.{Table}
use Rattle.tt_kinds.specs.declared.table.Table.TheVariants.{Types, Consts, TypeLists, ConstLists, PatternLists}
use Rattle.tt_kinds.specs.declared.table.Table.TheVariants.{ExistentialLists, AssumptionLists, VarLists, Symbols}
use Rattle.tt_kinds.specs.Label.{Sort, type_sort, const_sort, RegionName, anonymous, printed, named, environment}
use Rattle.tt_kinds.specs.Label.{VarKind, region_variable, type_variable, const_variable, FreeRegion, static_region}
use Rattle.tt_kinds.specs.Label.{erased_region, region_var, error_region, late_param_region, placeholder_region}
use Rattle.tt_kinds.specs.Label.{TypeLabel, bool_type, char_type, int_type, uint_type, float_type, str_type, never_type}
use Rattle.tt_kinds.specs.Label.{placeholder_type, infer_type, error_type, ref_type, raw_ptr_type, slice_type}
use Rattle.tt_kinds.specs.Label.{tuple_type, fn_ptr_type, foreign_type, adt_type, fn_def_type, array_type, pat_type}
use Rattle.tt_kinds.specs.Label.{unsafe_binder_type, dynamic_type, closure_type, coroutine_closure_type, coroutine_type}
use Rattle.tt_kinds.specs.Label.{coroutine_witness_type, alias_type, ConstLabel, infer_const, placeholder_const}
use Rattle.tt_kinds.specs.Label.{unevaluated_const, leaf_const, branch_const, error_const, expr_const, PatternLabel}
use Rattle.tt_kinds.specs.Label.{range_pattern, or_pattern, not_null_pattern, RecordLabel, trait_record}
use Rattle.tt_kinds.specs.Label.{host_effect_record, region_outlives_record, type_outlives_record, projection_record}
use Rattle.tt_kinds.specs.Label.{const_has_type_record, well_formed_record, const_evaluatable_record}
use Rattle.tt_kinds.specs.Label.{unstable_feature_record, dyn_compatible_record, subtype_record, coerce_record}
use Rattle.tt_kinds.specs.Label.{const_equate_record, ambiguous_record, normalizes_to_record, alias_relate_record}
use Rattle.tt_kinds.specs.Label.{existential_trait_record, existential_projection_record, auto_trait_record, Label}
use Rattle.tt_kinds.specs.Label.{type_label, const_label, pattern_label, predicate_label, existential_label}
use Rattle.tt_kinds.specs.Label.{clause_list_label, list_label, var_list_label, text_label, declaration_label}
use Rattle.tt_kinds.specs.Label.{definition_label, record_label, error_label, clause_label, label_table}
use Rattle.tt_kinds.specs.Tree as tree
use Rattle.tt_kinds.specs.Tree.{Depth, at, canonical}
use Rattle.tt_kinds.specs.Bound.{depth, region_name, var_kind}
use Rattle.tt_kinds.specs.Parts.{term_child}
use Rattle.tt_kinds.specs.Shape.{Shape, Shapes, param, bound, region, term, node, binder, stored, none, also, append}
use Rattle.tt_kinds.specs.Shape.{Meaning, fill, name_of, text_of, vars_of, item_shapes, sort_table}
use Rattle.tt_kinds.specs.Kinds as form
use Rattle.tt_kinds.specs.Kinds.{Form, ty_form, const_form, form_shape, relabelled, value_form, clause_form}
use Rattle.tt_kinds.specs.Kinds.{predicate_form, existential_form, parts_shapes, child_shapes, ty_kind_shape}
use Rattle.tt_kinds.specs.Kinds.{const_kind_shape, pattern_kind_shape, region_shape, ty_shape, const_shape, arg_shape}
use Rattle.tt_kinds.specs.Kinds.{pat_shape, existential_shape, clause_shape}
use Rattle.tt_kinds.specs.Values.{assumption_shape, item_label, declared_shapes}
use Rattle.tt_kinds.specs.Label.{ItemLabel, trait_item, assoc_ty_item, inherent_item, fn_item, plain_item}
use Rattle.tt_kinds.specs.declared.declaration.DeclarationKind.{DeclarationKind}
use Rattle.tt_kinds.specs.declared.declaration.DeclarationKind.TheVariants as item
use Rattle.tt_kinds.specs.declared.declaration.DeclarationSort.{DeclarationSort}
use Rattle.tt_kinds.specs.declared.declaration.DeclarationSort.TheVariants as sort
use Rattle.tt_kinds.specs.declared.fn_sig.FnSig.{FnSig}
use Rattle.tt_kinds.specs.declared.fn_sig.FnSigKind.{FnSigKind}
use Rattle.tt_kinds.specs.declared.binder.Binder.{Binder}
use Rattle.tt_kinds.specs.declared.binder.EarlyBinder.{EarlyBinder}
use Rattle.tt_interner.specs.Rows.{Row, type_row, const_row, pat_row, predicate_row, existential_row, clauses_row}
use Rattle.tt_interner.specs.Rows.{tys_row, consts_row, args_row, pats_row, vars_row, existentials_row, assumptions_row}
use Rattle.tt_interner.specs.Rows.{text_row, declared_row, defined_row, row_table, row_shape}
use Rattle.tt_interner.proofs.Fill.{tree_table, label_table-rename}
use Rattle.tt_kinds.specs.Id.{id_of}
use Rattle.tt_kinds.specs.Handle.{handle}

-- the index of a variable, as a kind has it
abbrev index_from : Depth → BoundVarIndexKind
index_from (at d) = BoundIndex d
index_from canonical = Canonical

abbrev name_from : RegionName ℕ → BoundRegionKind
name_from anonymous = region_kind.Anon
name_from (printed n) = region_kind.NamedForPrinting (handle n)
name_from (named d) = region_kind.Named (record { number = d })
name_from environment = region_kind.ClosureEnv

abbrev free_from : FreeRegion ℕ → RegionKind
free_from static_region = ReStatic
free_from erased_region = ReErased
free_from (region_var v) = ReVar v
free_from (error_region e) = ReError (record { 0 = e })
free_from (late_param_region d r) = ReLateParam (record { scope = record { number = d }; kind = name_from r })
free_from (placeholder_region u v r) = RePlaceholder (record { universe = u; bound = record { var = v; kind = name_from r } })

abbrev ty_var_from : VarKind ℕ → BoundTyKind
ty_var_from (type_variable k) = k
ty_var_from _ = ty_var_kind.Anon

abbrev region_var_from : VarKind ℕ → BoundRegionKind
region_var_from (region_variable r) = name_from r
region_var_from _ = region_kind.Anon

abbrev var_from : VarKind ℕ → BoundVariableKind
var_from (region_variable r) = variable.Region (name_from r)
var_from (type_variable k) = variable.Ty k
var_from const_variable = variable.Const

abbrev region_from : Shape → RegionKind
region_from (param s i name) = ReEarlyParam (record { index = i; name = handle name })
region_from (bound s d e) = ReBound (index_from d) (record { var = e.var; kind = region_var_from e.kind })
region_from (region r) = free_from r
region_from _ = ReErased

abbrev part_at : ℕ → Shapes → Shape
part_at n none = region erased_region
part_at zero (also s ss) = s
part_at (suc n) (also s ss) = part_at n ss

abbrev number_from : Shape → ℕ
number_from (stored t n) = n
number_from _ = 0

abbrev number_at : ℕ → Shapes → ℕ
number_at n ss = number_from (part_at n ss)

abbrev vars_from : Shape → ℕ
vars_from (binder n s) = n
vars_from _ = 0

abbrev parts_under : Shape → Shapes
parts_under (binder n (node l ss)) = ss
parts_under _ = none

abbrev record_under : Shape → RecordLabel ℕ
record_under (binder n (node (record_label m) ss)) = m
record_under _ = ambiguous_record

abbrev arg_from : Shape → GenericArgKind
arg_from (stored Consts n) = arg.Const (handle n)
arg_from (stored t n) = arg.«Type» (handle n)
arg_from s = arg.Lifetime (region_from s)

abbrev term_from : Shape → Term
term_from (stored Consts n) = record { kind = term_kind.Const (handle n) }
term_from s = record { kind = term_kind.Ty (handle (number_from s)) }

abbrev items_from : {T : Type 0} → (Shape → T) → Shapes → List T
items_from item none = []
items_from item (also s ss) = item s ∷ items_from item ss

abbrev kind_from : TypeLabel → Shapes → TyKind
kind_from bool_type ss = ty.Bool
kind_from char_type ss = ty.Char
kind_from (int_type i) ss = ty.Int i
kind_from (uint_type i) ss = ty.Uint i
kind_from (float_type f) ss = ty.Float f
kind_from str_type ss = ty.Str
kind_from never_type ss = ty.Never
kind_from (placeholder_type p) ss = ty.Placeholder p
kind_from (infer_type i) ss = ty.Infer i
kind_from (error_type e) ss = ty.Error (record { 0 = e })
kind_from (ref_type m) ss = ty.Ref (region_from (part_at 0 ss)) (handle (number_at 1 ss)) m
kind_from (raw_ptr_type m) ss = ty.RawPtr (handle (number_at 0 ss)) m
kind_from slice_type ss = ty.Slice (handle (number_at 0 ss))
kind_from tuple_type ss = ty.Tuple (handle (number_at 0 ss))
kind_from (fn_ptr_type h) ss =
    ty.FnPtr (record { value = record { inputs_and_output = handle (number_at 0 (parts_under (part_at 0 ss))) }; bound_vars = handle (vars_from (part_at 0 ss)) }) h
kind_from (foreign_type d) ss = ty.Foreign (id_of d)
kind_from (fn_def_type d) ss = ty.FnDef (id_of d) (handle (number_at 0 ss))
kind_from (adt_type d) ss = ty.Adt (id_of d) (handle (number_at 0 ss))
kind_from array_type ss = ty.Array (handle (number_at 0 ss)) (handle (number_at 1 ss))
kind_from pat_type ss = ty.Pat (handle (number_at 0 ss)) (handle (number_at 1 ss))
kind_from unsafe_binder_type ss =
    ty.UnsafeBinder (record { 0 = record { value = handle (number_at 0 (parts_under (part_at 0 ss))); bound_vars = handle (vars_from (part_at 0 ss)) } })
kind_from dynamic_type ss = ty.Dynamic (handle (number_at 0 ss)) (region_from (part_at 1 ss))
kind_from (closure_type d) ss = ty.Closure (id_of d) (handle (number_at 0 ss))
kind_from (coroutine_closure_type d) ss = ty.CoroutineClosure (id_of d) (handle (number_at 0 ss))
kind_from (coroutine_type d) ss = ty.Coroutine (id_of d) (handle (number_at 0 ss))
kind_from (coroutine_witness_type d) ss = ty.CoroutineWitness (id_of d) (handle (number_at 0 ss))
kind_from (alias_type k) ss = ty.Alias (record { args = handle (number_at 0 ss); kind = k })

abbrev value_from : Shapes → ValTreeKind → ConstKind
value_from ss k = const.Value (record { ty = handle (number_at 0 ss); valtree = record { kind = k } })

abbrev const_from : ConstLabel → Shapes → ConstKind
const_from (infer_const i) ss = const.Infer i
const_from (placeholder_const p) ss = const.Placeholder p
const_from (unevaluated_const d) ss = const.Unevaluated (record { def = id_of d; args = handle (number_at 0 ss) })
const_from (leaf_const bits size) ss = value_from ss (valtree.Leaf (record { bits = bits; size = size }))
const_from branch_const ss = value_from ss (valtree.Branch (handle (number_at 1 ss)))
const_from (error_const e) ss = const.Error (record { 0 = e })
const_from (expr_const tag) ss = const.Expr (record { tag = tag; args = handle (number_at 0 ss) })

abbrev pattern_from : PatternLabel → Shapes → PatternKind
pattern_from range_pattern ss = pattern.Range (handle (number_at 0 ss)) (handle (number_at 1 ss))
pattern_from or_pattern ss = pattern.Or (handle (number_at 0 ss))
pattern_from not_null_pattern ss = pattern.NotNull

abbrev predicate_from : RecordLabel ℕ → Shapes → PredicateKind
predicate_from (trait_record d) ss = predicate.Clause (clause.Trait (record { trait_ref = record { def_id = id_of d; args = handle (number_at 0 ss) } }))
predicate_from (host_effect_record d c) ss =
    predicate.Clause (clause.HostEffect (record { trait_ref = record { def_id = id_of d; args = handle (number_at 0 ss) }; constness = c }))
predicate_from region_outlives_record ss = predicate.Clause (clause.RegionOutlives (record { 0 = region_from (part_at 0 ss); 1 = region_from (part_at 1 ss) }))
predicate_from type_outlives_record ss = predicate.Clause (clause.TypeOutlives (record { 0 = handle (number_at 0 ss); 1 = region_from (part_at 1 ss) }))
predicate_from (projection_record d) ss =
    predicate.Clause (clause.Projection (record { projection_term = record { args = handle (number_at 0 ss); def_id = record { number = d } }; term = term_from (part_at 1 ss) }))
predicate_from const_has_type_record ss = predicate.Clause (clause.ConstArgHasType (handle (number_at 0 ss)) (handle (number_at 1 ss)))
predicate_from well_formed_record ss = predicate.Clause (clause.WellFormed (term_from (part_at 0 ss)))
predicate_from const_evaluatable_record ss = predicate.Clause (clause.ConstEvaluatable (handle (number_at 0 ss)))
predicate_from (unstable_feature_record n) ss = predicate.Clause (clause.UnstableFeature (handle n))
predicate_from (dyn_compatible_record d) ss = predicate.DynCompatible (id_of d)
predicate_from (subtype_record b) ss = predicate.Subtype (record { a_is_expected = b; a = handle (number_at 0 ss); b = handle (number_at 1 ss) })
predicate_from coerce_record ss = predicate.Coerce (record { a = handle (number_at 0 ss); b = handle (number_at 1 ss) })
predicate_from const_equate_record ss = predicate.ConstEquate (handle (number_at 0 ss)) (handle (number_at 1 ss))
predicate_from (normalizes_to_record d) ss =
    predicate.NormalizesTo (record { alias = record { args = handle (number_at 0 ss); def_id = record { number = d } }; term = term_from (part_at 1 ss) })
predicate_from (alias_relate_record r) ss = predicate.AliasRelate (term_from (part_at 0 ss)) (term_from (part_at 1 ss)) r
predicate_from _ ss = predicate.Ambiguous

abbrev existential_from : RecordLabel ℕ → Shapes → ExistentialPredicate
existential_from (existential_trait_record d) ss = existential.Trait (record { def_id = id_of d; args = handle (number_at 0 ss) })
existential_from (existential_projection_record d) ss =
    existential.Projection (record { def_id = record { number = d }; args = handle (number_at 0 ss); term = term_from (part_at 1 ss) })
existential_from (auto_trait_record d) ss = existential.AutoTrait (id_of d)
existential_from _ ss = existential.AutoTrait (id_of 0)

abbrev assumption_from : Shape → OutlivesPredicate GenericArgKind
assumption_from (node l ss) = record { 0 = arg_from (part_at 0 ss); 1 = region_from (part_at 1 ss) }
assumption_from _ = record { 0 = arg.Lifetime ReStatic; 1 = ReStatic }

abbrev list_from : Table → Shapes → Row
list_from TypeLists ss = tys_row (items_from (λ s. handle (number_from s)) ss)
list_from ConstLists ss = consts_row (items_from (λ s. handle (number_from s)) ss)
list_from PatternLists ss = pats_row (items_from (λ s. handle (number_from s)) ss)
list_from ExistentialLists ss = existentials_row (items_from (λ s. handle (number_from s)) ss)
list_from AssumptionLists ss = assumptions_row (items_from assumption_from ss)
list_from _ ss = args_row (items_from arg_from ss)

abbrev sig_from : FnSigKind → Shapes → EarlyBinder (Binder FnSig)
sig_from k ss = record { value = record { value = record { inputs_and_output = handle (number_at 1 ss); fn_sig_kind = k }; bound_vars = handle (number_at 0 ss) } }

abbrev plain_from : DeclarationSort → DeclarationKind
plain_from sort.Impl = item.Impl
plain_from sort.Adt = item.Adt
plain_from sort.Opaque = item.Opaque
plain_from sort.Free = item.Free
plain_from sort.Foreign = item.Foreign
plain_from sort.Closure = item.Closure
plain_from sort.CoroutineClosure = item.CoroutineClosure
plain_from sort.Coroutine = item.Coroutine
plain_from sort.Const = item.Const
plain_from _ = item.Param

abbrev item_from : ItemLabel → Shapes → DeclarationKind
item_from (trait_item params) ss = item.Trait params
item_from (assoc_ty_item d) ss = item.AssocTy (id_of d)
item_from (inherent_item d) ss = item.Inherent (id_of d)
item_from (fn_item k) ss = item.Fn (sig_from k ss)
item_from (plain_item s) ss = plain_from s

abbrev label_from : Label ℕ → Shapes → Row
label_from (type_label l) ss = type_row (kind_from l ss)
label_from (const_label l) ss = const_row (const_from l ss)
label_from (pattern_label l) ss = pat_row (pattern_from l ss)
label_from predicate_label ss = predicate_row (record { value = predicate_from (record_under (part_at 0 ss)) (parts_under (part_at 0 ss)); bound_vars = handle (vars_from (part_at 0 ss)) })
label_from existential_label ss = existential_row (record { value = existential_from (record_under (part_at 0 ss)) (parts_under (part_at 0 ss)); bound_vars = handle (vars_from (part_at 0 ss)) })
label_from clause_list_label ss = clauses_row (items_from (λ s. handle (number_from s)) ss)
label_from (list_label t) ss = list_from t ss
label_from (var_list_label vs) ss = vars_row (map var_from vs)
label_from (text_label bytes) ss = text_row bytes
label_from (declaration_label i k n) ss = declared_row i (record { kind = item_from k ss; name = handle n })
label_from (definition_label i vs) ss = defined_row i vs
label_from (record_label l) ss = text_row []
label_from (error_label e) ss = text_row []
label_from clause_label ss = text_row []

abbrev param_from : Sort → ℕ → ℕ → Row
param_from const_sort i name = const_row (const.Param (record { index = i; name = handle name }))
param_from s i name = type_row (ty.Param (record { index = i; name = handle name }))

abbrev row_from : Shape → Row
row_from (param s i name) = param_from s i name
row_from (bound const_sort d e) = const_row (const.Bound (index_from d) (record { var = e.var }))
row_from (bound s d e) = type_row (ty.Bound (index_from d) (record { var = e.var; kind = ty_var_from e.kind }))
row_from (term l ss) = label_from l ss
row_from (node l ss) = label_from l ss
row_from _ = text_row []

index_from-depth : (i : BoundVarIndexKind) → index_from (depth i) ≡ i
index_from-depth (BoundIndex d) = refl
index_from-depth Canonical = refl

name_back : (k : BoundRegionKind) → name_from (region_name k) ≡ k
name_back region_kind.Anon = refl
name_back (region_kind.NamedForPrinting n) = refl
name_back (region_kind.Named d) = refl
name_back region_kind.ClosureEnv = refl

region_from-region_shape : (r : RegionKind) → region_from (region_shape r) ≡ r
region_from-region_shape (ReEarlyParam p) = refl
region_from-region_shape (ReBound i b) =
    let indices = index_from-depth i in let names = name_back b.kind in
    λ j. ReBound (indices j) (record { var = b.var; kind = names j })
region_from-region_shape (ReLateParam p) = ap (λ k. ReLateParam (record { scope = p.scope; kind = k })) (name_back p.kind)
region_from-region_shape ReStatic = refl
region_from-region_shape (ReVar v) = refl
region_from-region_shape (RePlaceholder p) = ap (λ k. RePlaceholder (record { universe = p.universe; bound = record { var = p.bound.var; kind = k } })) (name_back p.bound.kind)
region_from-region_shape ReErased = refl
region_from-region_shape (ReError e) = refl

arg_from-region_shape : (r : RegionKind) → arg_from (region_shape r) ≡ arg.Lifetime (region_from (region_shape r))
arg_from-region_shape (ReEarlyParam p) = refl
arg_from-region_shape (ReBound i b) = refl
arg_from-region_shape (ReLateParam p) = refl
arg_from-region_shape ReStatic = refl
arg_from-region_shape (ReVar v) = refl
arg_from-region_shape (RePlaceholder p) = refl
arg_from-region_shape ReErased = refl
arg_from-region_shape (ReError e) = refl

arg_from-arg_shape : (a : GenericArgKind) → arg_from (arg_shape a) ≡ a
arg_from-arg_shape (arg.«Type» t) = refl
arg_from-arg_shape (arg.Const c) = refl
arg_from-arg_shape (arg.Lifetime r) = arg_from-region_shape r ∙ ap arg.Lifetime (region_from-region_shape r)

assumption_back : (p : OutlivesPredicate GenericArgKind) → assumption_from (assumption_shape p) ≡ p
assumption_back p =
    let args = arg_from-arg_shape p.0 in let regions = region_from-region_shape p.1 in
    λ i. record { 0 = args i; 1 = regions i }

var_from-var_kind : (v : BoundVariableKind) → var_from (var_kind v) ≡ v
var_from-var_kind (variable.Ty k) = refl
var_from-var_kind (variable.Region k) = ap variable.Region (name_back k)
var_from-var_kind variable.Const = refl

vars_from-vars : (vs : List BoundVariableKind) → map var_from (map var_kind vs) ≡ vs
vars_from-vars [] = refl
vars_from-vars (v ∷ vs) = let first = var_from-var_kind v in let others = vars_from-vars vs in cc

items_from-item_shapes : {T : Type 0} (shape : T → Shape) (item : Shape → T) → ((x : T) → item (shape x) ≡ x) → (xs : List T) → items_from item (item_shapes shape xs) ≡ xs
items_from-item_shapes shape item back [] = refl
items_from-item_shapes shape item back (x ∷ xs) = let first = back x in let others = items_from-item_shapes shape item back xs in cc

-- the term that is the only or the last part
term_back : (t : Term) → term_from (part_at 0 (child_shapes (term_child t))) ≡ t
term_back t = ap (λ k. record { kind = k }) (by t.kind)
  where
    by : (k : TermKind) → (term_from (part_at 0 (child_shapes (term_child (record { kind = k }))))).kind ≡ k
    by (term_kind.Ty t) = refl
    by (term_kind.Const c) = refl

-- the terms that are two parts
terms_back : (a b : Term) (r : AliasRelationDirection)
    → predicate_from (alias_relate_record r) (append (child_shapes (term_child a)) (child_shapes (term_child b))) ≡ predicate.AliasRelate a b r
terms_back a b r = by a.kind b.kind
  where
    by : (k l : TermKind) → predicate_from (alias_relate_record r) (append (child_shapes (term_child (record { kind = k }))) (child_shapes (term_child (record { kind = l })))) ≡ predicate.AliasRelate (record { kind = k }) (record { kind = l }) r
    by (term_kind.Ty t) (term_kind.Ty u) = refl
    by (term_kind.Ty t) (term_kind.Const c) = refl
    by (term_kind.Const c) (term_kind.Ty u) = refl
    by (term_kind.Const c) (term_kind.Const d) = refl

-- the term that is alone
alone_back : (t : Term) → term_from (part_at 0 (append (child_shapes (term_child t)) none)) ≡ t
alone_back t = ap (λ k. record { kind = k }) (by t.kind)
  where
    by : (k : TermKind) → (term_from (part_at 0 (append (child_shapes (term_child (record { kind = k }))) none))).kind ≡ k
    by (term_kind.Ty t) = refl
    by (term_kind.Const c) = refl

row_from-kind_shape : (k : TyKind) → row_from (ty_kind_shape k) ≡ type_row k
row_from-kind_shape ty.Bool = refl
row_from-kind_shape ty.Char = refl
row_from-kind_shape (ty.Int i) = refl
row_from-kind_shape (ty.Uint i) = refl
row_from-kind_shape (ty.Float f) = refl
row_from-kind_shape (ty.Adt d args) = refl
row_from-kind_shape (ty.Foreign d) = refl
row_from-kind_shape ty.Str = refl
row_from-kind_shape (ty.Array t c) = refl
row_from-kind_shape (ty.Pat t p) = refl
row_from-kind_shape (ty.Slice t) = refl
row_from-kind_shape (ty.RawPtr t m) = refl
row_from-kind_shape (ty.Ref r t m) = ap (λ x. type_row (ty.Ref x t m)) (region_from-region_shape r)
row_from-kind_shape (ty.FnPtr b h) = refl
row_from-kind_shape (ty.UnsafeBinder b) = refl
row_from-kind_shape (ty.Dynamic ps r) = ap (λ x. type_row (ty.Dynamic ps x)) (region_from-region_shape r)
row_from-kind_shape (ty.FnDef d args) = refl
row_from-kind_shape (ty.Closure d args) = refl
row_from-kind_shape (ty.CoroutineClosure d args) = refl
row_from-kind_shape (ty.Coroutine d args) = refl
row_from-kind_shape (ty.CoroutineWitness d args) = refl
row_from-kind_shape ty.Never = refl
row_from-kind_shape (ty.Tuple ts) = refl
row_from-kind_shape (ty.Alias a) = refl
row_from-kind_shape (ty.Param p) = refl
row_from-kind_shape (ty.Bound i b) = ap (λ x. type_row (ty.Bound x b)) (index_from-depth i)
row_from-kind_shape (ty.Placeholder p) = refl
row_from-kind_shape (ty.Infer i) = refl
row_from-kind_shape (ty.Error e) = refl

row_from-value : (t : Ty) (k : ValTreeKind) → row_from (form_shape const_sort (relabelled const_label (value_form t k))) ≡ const_row (const.Value (record { ty = t; valtree = record { kind = k } }))
row_from-value t (valtree.Leaf s) = refl
row_from-value t (valtree.Branch cs) = refl

row_from-const : (k : ConstKind) → row_from (const_kind_shape k) ≡ const_row k
row_from-const (const.Param p) = refl
row_from-const (const.Infer i) = refl
row_from-const (const.Bound i b) = ap (λ x. const_row (const.Bound x b)) (index_from-depth i)
row_from-const (const.Placeholder p) = refl
row_from-const (const.Unevaluated u) = refl
row_from-const (const.Value v) = row_from-value v.ty v.valtree.kind
row_from-const (const.Error e) = refl
row_from-const (const.Expr e) = refl

row_from-pattern : (k : PatternKind) → row_from (pattern_kind_shape k) ≡ pat_row k
row_from-pattern (pattern.Range start end) = refl
row_from-pattern (pattern.Or ps) = refl
row_from-pattern pattern.NotNull = refl

clause_back : (k : ClauseKind) → predicate_from (clause_form k).label (parts_shapes (clause_form k).parts) ≡ predicate.Clause k
clause_back (clause.Trait p) = refl
clause_back (clause.RegionOutlives p) =
    let firsts = region_from-region_shape p.0 in let seconds = region_from-region_shape p.1 in
    λ i. predicate.Clause (clause.RegionOutlives (record { 0 = firsts i; 1 = seconds i }))
clause_back (clause.TypeOutlives p) = ap (λ r. predicate.Clause (clause.TypeOutlives (record { 0 = p.0; 1 = r }))) (region_from-region_shape p.1)
clause_back (clause.Projection p) = ap (λ t. predicate.Clause (clause.Projection (record { projection_term = p.projection_term; term = t }))) (term_back p.term)
clause_back (clause.ConstArgHasType c t) = refl
clause_back (clause.WellFormed t) = ap (λ x. predicate.Clause (clause.WellFormed x)) (alone_back t)
clause_back (clause.ConstEvaluatable c) = refl
clause_back (clause.HostEffect p) = refl
clause_back (clause.UnstableFeature s) = refl

predicate_back : (k : PredicateKind) → predicate_from (predicate_form k).label (parts_shapes (predicate_form k).parts) ≡ k
predicate_back (predicate.Clause c) = clause_back c
predicate_back (predicate.DynCompatible d) = refl
predicate_back (predicate.Subtype p) = refl
predicate_back (predicate.Coerce p) = refl
predicate_back (predicate.ConstEquate a b) = refl
predicate_back predicate.Ambiguous = refl
predicate_back (predicate.NormalizesTo p) = ap (λ t. predicate.NormalizesTo (record { alias = p.alias; term = t })) (term_back p.term)
predicate_back (predicate.AliasRelate a b r) = terms_back a b r

existential_back : (k : ExistentialPredicate) → existential_from (existential_form k).label (parts_shapes (existential_form k).parts) ≡ k
existential_back (existential.Trait t) = refl
existential_back (existential.Projection p) = ap (λ t. existential.Projection (record { def_id = p.def_id; args = p.args; term = t })) (term_back p.term)
existential_back (existential.AutoTrait d) = refl

item_back : (k : DeclarationKind) → item_from (item_label k) (declared_shapes k) ≡ k
item_back (item.Fn sig) = refl
item_back _ = refl

row_from-row_shape : (r : Row) → row_from (row_shape r) ≡ r
row_from-row_shape (type_row k) = row_from-kind_shape k
row_from-row_shape (const_row k) = row_from-const k
row_from-row_shape (pat_row k) = row_from-pattern k
row_from-row_shape (predicate_row b) = ap (λ k. predicate_row (record { value = k; bound_vars = b.bound_vars })) (predicate_back b.value)
row_from-row_shape (existential_row b) = ap (λ k. existential_row (record { value = k; bound_vars = b.bound_vars })) (existential_back b.value)
row_from-row_shape (clauses_row cs) = ap clauses_row (items_from-item_shapes clause_shape (λ s. handle (number_from s)) (λ c. refl) cs)
row_from-row_shape (tys_row tys) = ap tys_row (items_from-item_shapes ty_shape (λ s. handle (number_from s)) (λ t. refl) tys)
row_from-row_shape (consts_row cs) = ap consts_row (items_from-item_shapes const_shape (λ s. handle (number_from s)) (λ c. refl) cs)
row_from-row_shape (args_row args) = ap args_row (items_from-item_shapes arg_shape arg_from arg_from-arg_shape args)
row_from-row_shape (pats_row ps) = ap pats_row (items_from-item_shapes pat_shape (λ s. handle (number_from s)) (λ p. refl) ps)
row_from-row_shape (vars_row vs) = ap vars_row (vars_from-vars vs)
row_from-row_shape (existentials_row ps) = ap existentials_row (items_from-item_shapes existential_shape (λ s. handle (number_from s)) (λ p. refl) ps)
row_from-row_shape (assumptions_row ps) = ap assumptions_row (items_from-item_shapes assumption_shape assumption_from assumption_back ps)
row_from-row_shape (text_row bytes) = refl
row_from-row_shape (declared_row n d) = ap (λ k. declared_row n (record { kind = k; name = d.name })) (item_back d.kind)
row_from-row_shape (defined_row n vs) = refl

-- rows of one shape are one
pub shape_one : (q r : Row) → row_shape q ≡ row_shape r → q ≡ r
shape_one q r e = sym (row_from-row_shape q) ∙ ap row_from e ∙ row_from-row_shape r

-- the root of a row's tree tells its table
root_of_form : {L : Type 0} (label : L → Label ℕ) (s : Sort) (t : Table) → sort_table s ≡ Some t → ((l : L) → label_table (label l) ≡ Some t) → (f : Meaning) (k : Form L) → tree_table (fill f (form_shape s (relabelled label k))) ≡ Some t
unfolding fill
root_of_form label s t sorts labels f (form.param i name) = sorts
root_of_form label s t sorts labels f (form.bound d e) = sorts
root_of_form label s t sorts labels f (form.plain l p) = label_table-rename (name_of f) (label l) ∙ labels l
root_of_form label s t sorts labels f (form.under l vars m p) = label_table-rename (name_of f) (label l) ∙ labels l

-- the root of a row's tree tells the row's table
pub root_of_row : (f : Meaning) (r : Row) → tree_table (fill f (row_shape r)) ≡ Some (row_table r)
unfolding fill
root_of_row f (type_row k) = root_of_form type_label type_sort Types refl (λ l. refl) f (ty_form k)
root_of_row f (const_row k) = root_of_form const_label const_sort Consts refl (λ l. refl) f (const_form k)
root_of_row f (pat_row k) = refl
root_of_row f (predicate_row b) = refl
root_of_row f (existential_row b) = refl
root_of_row f (clauses_row cs) = refl
root_of_row f (tys_row tys) = refl
root_of_row f (consts_row cs) = refl
root_of_row f (args_row args) = refl
root_of_row f (pats_row ps) = refl
root_of_row f (vars_row vs) = refl
root_of_row f (existentials_row ps) = refl
root_of_row f (assumptions_row ps) = refl
root_of_row f (text_row bytes) = refl
root_of_row f (declared_row n d) = refl
root_of_row f (defined_row n vs) = refl

-- the tree of a symbol's row is a node with the symbol's text as its label
pub text_of_row : (f : Meaning) (r : Row) → row_table r ≡ Symbols → fill f (row_shape r) ≡ tree.node (text_label (text_of (fill f (row_shape r)))) tree.none
unfolding fill
text_of_row f (text_row bytes) e = refl
text_of_row f _ e = cc

-- the tree of a row of variables is a node with these variables as its label
pub vars_of_row : (f : Meaning) (r : Row) → row_table r ≡ VarLists → fill f (row_shape r) ≡ tree.node (var_list_label (vars_of (fill f (row_shape r)))) tree.none
unfolding fill
vars_of_row f (vars_row vs) e = refl
vars_of_row f _ e = cc
