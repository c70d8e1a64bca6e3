-- The table of kinds: the label of each, and its children in order. The tree of a kind comes from this table alone.
use Rattle.std.specs.Prelude.{ℕ, List, [], ◌∷◌, map, Option, Some, None, cond}
use Rattle.tt_kinds.specs.Label.{Sort, region_sort, type_sort, const_sort, Entry, static_region, erased_region}
use Rattle.tt_kinds.specs.Label.{region_var, error_region, late_param_region, placeholder_region, TypeLabel, bool_type}
use Rattle.tt_kinds.specs.Label.{char_type, int_type, uint_type, float_type, str_type, never_type, placeholder_type}
use Rattle.tt_kinds.specs.Label.{infer_type, error_type, ref_type, raw_ptr_type, slice_type, tuple_type, fn_ptr_type}
use Rattle.tt_kinds.specs.Label.{foreign_type, adt_type, fn_def_type, array_type, pat_type, unsafe_binder_type}
use Rattle.tt_kinds.specs.Label.{dynamic_type, closure_type, coroutine_closure_type, coroutine_type}
use Rattle.tt_kinds.specs.Label.{coroutine_witness_type, alias_type, ConstLabel, infer_const, placeholder_const}
use Rattle.tt_kinds.specs.Label.{unevaluated_const, leaf_const, branch_const, error_const, expr_const, PatternLabel}
use Rattle.tt_kinds.specs.Label.{range_pattern, or_pattern, not_null_pattern, RecordLabel, fn_sig_tys_record}
use Rattle.tt_kinds.specs.Label.{unsafe_binder_record, trait_record, host_effect_record, region_outlives_record}
use Rattle.tt_kinds.specs.Label.{type_outlives_record, projection_record, const_has_type_record, well_formed_record}
use Rattle.tt_kinds.specs.Label.{const_evaluatable_record, unstable_feature_record, dyn_compatible_record}
use Rattle.tt_kinds.specs.Label.{subtype_record, coerce_record, const_equate_record, ambiguous_record}
use Rattle.tt_kinds.specs.Label.{normalizes_to_record, alias_relate_record, existential_trait_record}
use Rattle.tt_kinds.specs.Label.{existential_projection_record, auto_trait_record, Label, type_label, const_label}
use Rattle.tt_kinds.specs.Label.{pattern_label, predicate_label, existential_label, clause_list_label, list_label}
use Rattle.tt_kinds.specs.Label.{var_list_label, text_label, record_label}
use Rattle.tt_kinds.specs.Tree as tree
use Rattle.tt_kinds.specs.Tree.{Depth, Tree, Forest}
use Rattle.tt_kinds.specs.Bound.{depth, region_name, region_entry, ty_entry, const_entry, var_kind}
use Rattle.tt_kinds.specs.Shape as shape
use Rattle.tt_kinds.specs.Shape.{Shape, Shapes, append, item_shapes}
use Rattle.tt_kinds.specs.Parts.{child_in, no_parts, one_part, two_parts}
use Rattle.tt_kinds.specs.Parts.{term_child}
use Rattle.tt_kinds.specs.declared.table.Table.{Table}
use Rattle.tt_kinds.specs.declared.table.TermTable.{TermTable}
use Rattle.tt_kinds.specs.declared.table.TermTable.TheVariants as terms_of
use Rattle.tt_kinds.specs.TermTable.{is_clause_table, term_table}
use Rattle.tt_kinds.specs.declared.table.Table.TheVariants.{Types, Consts, Patterns, Predicates, Existentials}
use Rattle.tt_kinds.specs.declared.table.Table.TheVariants.{ClauseLists, TypeLists, ConstLists, ArgLists, PatternLists}
use Rattle.tt_kinds.specs.declared.table.Table.TheVariants.{ExistentialLists}
use Rattle.tt_kinds.specs.Handle.{Ty}
use Rattle.tt_kinds.specs.Handle.{Const}
use Rattle.tt_kinds.specs.Handle.{Pat}
use Rattle.tt_kinds.specs.Handle.{Predicate}
use Rattle.tt_kinds.specs.Handle.{Clause}
use Rattle.tt_kinds.specs.Handle.{PolyExistentialPredicate}
use Rattle.tt_kinds.specs.Handle.{Clauses}
use Rattle.tt_kinds.specs.Handle.{Tys}
use Rattle.tt_kinds.specs.Handle.{Consts as ConstList}
use Rattle.tt_kinds.specs.Handle.{PatList}
use Rattle.tt_kinds.specs.Handle.{BoundExistentialPredicates}
use Rattle.tt_kinds.specs.Handle.{BoundVarKinds}
use Rattle.tt_kinds.specs.Handle.{GenericArgs}
use Rattle.tt_kinds.specs.declared.binder.Binder.{Binder}
use Rattle.tt_kinds.specs.declared.bound.BoundVariableKind.{BoundVariableKind}
use Rattle.tt_kinds.specs.declared.fn_sig.FnSigTys.{FnSigTys}
use Rattle.tt_kinds.specs.declared.region_kind.RegionKind.{RegionKind}
use Rattle.tt_kinds.specs.declared.region_kind.RegionKind.TheVariants.{ReEarlyParam, ReBound, ReLateParam, ReStatic}
use Rattle.tt_kinds.specs.declared.region_kind.RegionKind.TheVariants.{ReVar, RePlaceholder, ReErased, ReError}
use Rattle.tt_kinds.specs.declared.generic_arg.GenericArgKind.{GenericArgKind}
use Rattle.tt_kinds.specs.declared.generic_arg.GenericArgKind.TheVariants as arg
use Rattle.tt_kinds.specs.declared.ty_kind.TyKind.{TyKind}
use Rattle.tt_kinds.specs.declared.ty_kind.TyKind.TheVariants as ty
use Rattle.tt_kinds.specs.declared.term.TermKind.{TermKind}
use Rattle.tt_kinds.specs.declared.term.TermKind.TheVariants as term
use Rattle.tt_kinds.specs.declared.term.Term.{Term}
use Rattle.tt_kinds.specs.declared.const_kind.ValTreeKind.{ValTreeKind}
use Rattle.tt_kinds.specs.declared.const_kind.ValTreeKind.TheVariants as valtree
use Rattle.tt_kinds.specs.declared.const_kind.ConstKind.{ConstKind}
use Rattle.tt_kinds.specs.declared.const_kind.ConstKind.TheVariants as const
use Rattle.tt_kinds.specs.declared.pattern.PatternKind.{PatternKind}
use Rattle.tt_kinds.specs.declared.pattern.PatternKind.TheVariants as pattern
use Rattle.tt_kinds.specs.declared.predicate_kind.ClauseKind.{ClauseKind}
use Rattle.tt_kinds.specs.declared.predicate_kind.ClauseKind.TheVariants as clause
use Rattle.tt_kinds.specs.declared.predicate_kind.PredicateKind.{PredicateKind}
use Rattle.tt_kinds.specs.declared.predicate_kind.PredicateKind.TheVariants as predicate
use Rattle.tt_kinds.specs.declared.existential.ExistentialPredicate.{ExistentialPredicate}
use Rattle.tt_kinds.specs.declared.existential.ExistentialPredicate.TheVariants as existential
use Rattle.tt_kinds.specs.declared.handle.AnyHandle.{AnyHandle}
use Rattle.tt_kinds.specs.declared.parts.Child.{Child}
use Rattle.tt_kinds.specs.declared.parts.Child.TheVariants as child
use Rattle.tt_kinds.specs.declared.parts.Parts.{Parts}
use Rattle.tt_kinds.specs.declared.parts.Kind.{Kind}
use Rattle.tt_kinds.specs.declared.parts.Kind.TheVariants as kind

-- a kind by its label and its parts; L is the type of its table's labels
pub data Form (L : Type 0) : Type 0 where
  -- a parameter: its index, and its name's number
  param : ℕ → ℕ → Form L
  -- a bound variable
  bound : Depth → Entry ℕ → Form L
  plain : L → Parts → Form L
  -- the parts are in a record under a binder of these variables
  under : L → BoundVarKinds → RecordLabel ℕ → Parts → Form L

-- the children
abbrev pub form_parts : {L : Type 0} → Form L → Parts
form_parts (param i name) = no_parts
form_parts (bound d e) = no_parts
form_parts (plain l p) = p
form_parts (under l vars m p) = p

-- the form with other children in the places of its own
abbrev pub refilled : {L : Type 0} → Parts → Form L → Form L
refilled q (param i name) = param i name
refilled q (bound d e) = bound d e
refilled q (plain l p) = plain l q
refilled q (under l vars m p) = under l vars m q

-- the variables of the binder around the children, if there is one
abbrev pub form_binder : {L : Type 0} → Form L → Option BoundVarKinds
form_binder (param i name) = None
form_binder (bound d e) = None
form_binder (plain l p) = None
form_binder (under l vars m p) = Some vars

-- the form with its label as a label of all tables
abbrev pub relabelled : {L K : Type 0} → (L → K) → Form L → Form K
relabelled f (param i name) = param i name
relabelled f (bound d e) = bound d e
relabelled f (plain l p) = plain (f l) p
relabelled f (under l vars m p) = under (f l) vars m p

-- types: the label of each, and its children
abbrev pub ty_form : TyKind → Form TypeLabel
ty_form ty.Bool = plain bool_type no_parts
ty_form ty.Char = plain char_type no_parts
ty_form (ty.Int i) = plain (int_type i) no_parts
ty_form (ty.Uint i) = plain (uint_type i) no_parts
ty_form (ty.Float f) = plain (float_type f) no_parts
ty_form ty.Str = plain str_type no_parts
ty_form ty.Never = plain never_type no_parts
ty_form (ty.Param p) = param p.index p.name.number
ty_form (ty.Bound i b) = bound (depth i) (ty_entry b)
ty_form (ty.Placeholder p) = plain (placeholder_type p) no_parts
ty_form (ty.Infer i) = plain (infer_type i) no_parts
ty_form (ty.Error e) = plain (error_type e.0) no_parts
ty_form (ty.Ref r t m) = plain (ref_type m) (two_parts (child.Region r) (child_in terms_of.Types t))
ty_form (ty.RawPtr t m) = plain (raw_ptr_type m) (one_part (child_in terms_of.Types t))
ty_form (ty.Slice t) = plain slice_type (one_part (child_in terms_of.Types t))
ty_form (ty.Tuple ts) = plain tuple_type (one_part (child_in terms_of.TypeLists ts))
ty_form (ty.FnPtr b h) = under (fn_ptr_type h) b.bound_vars fn_sig_tys_record
    (one_part (child_in terms_of.TypeLists b.value.inputs_and_output))
ty_form (ty.Foreign d) = plain (foreign_type d.number) no_parts
ty_form (ty.Adt d args) = plain (adt_type d.number) (one_part (child_in terms_of.ArgLists args))
ty_form (ty.FnDef d args) = plain (fn_def_type d.number) (one_part (child_in terms_of.ArgLists args))
ty_form (ty.Array t c) = plain array_type (two_parts (child_in terms_of.Types t) (child_in terms_of.Consts c))
ty_form (ty.Pat t p) = plain pat_type (two_parts (child_in terms_of.Types t) (child_in terms_of.Patterns p))
ty_form (ty.UnsafeBinder b) = under unsafe_binder_type b.0.bound_vars unsafe_binder_record
    (one_part (child_in terms_of.Types b.0.value))
ty_form (ty.Dynamic ps r) = plain dynamic_type (two_parts (child_in terms_of.ExistentialLists ps) (child.Region r))
ty_form (ty.Closure d args) = plain (closure_type d.number) (one_part (child_in terms_of.ArgLists args))
ty_form (ty.CoroutineClosure d args) = plain (coroutine_closure_type d.number) (one_part (child_in terms_of.ArgLists args))
ty_form (ty.Coroutine d args) = plain (coroutine_type d.number) (one_part (child_in terms_of.ArgLists args))
ty_form (ty.CoroutineWitness d args) = plain (coroutine_witness_type d.number) (one_part (child_in terms_of.ArgLists args))
ty_form (ty.Alias a) = plain (alias_type a.kind) (one_part (child_in terms_of.ArgLists a.args))

-- a value of the type
abbrev pub value_form : Ty → ValTreeKind → Form ConstLabel
value_form t (valtree.Leaf s) = plain (leaf_const s.bits s.size) (one_part (child_in terms_of.Types t))
value_form t (valtree.Branch cs) = plain branch_const (two_parts (child_in terms_of.Types t) (child_in terms_of.ConstLists cs))

-- constants: the label of each, and its children
abbrev pub const_form : ConstKind → Form ConstLabel
const_form (const.Param p) = param p.index p.name.number
const_form (const.Infer i) = plain (infer_const i) no_parts
const_form (const.Bound i b) = bound (depth i) (const_entry b)
const_form (const.Placeholder p) = plain (placeholder_const p) no_parts
const_form (const.Unevaluated u) = plain (unevaluated_const u.def.number) (one_part (child_in terms_of.ArgLists u.args))
const_form (const.Value v) = value_form v.ty v.valtree.kind
const_form (const.Error e) = plain (error_const e.0) no_parts
const_form (const.Expr e) = plain (expr_const e.tag) (one_part (child_in terms_of.ArgLists e.args))

-- a label with its children, for kinds that are neither parameters nor bound variables; L is the type of the labels
pub record Labelled (L : Type 0) : Type 0 where
  pub label : L
  pub parts : Parts

-- a label with these children
abbrev pub labelled : {L : Type 0} → L → Parts → Labelled L
labelled l p = record { label = l; parts = p }

-- the form with other children in the places of its own
abbrev pub replenished : {L : Type 0} → Parts → Labelled L → Labelled L
replenished q f = record { label = f.label; parts = q }

-- patterns: the label of each, and its children
abbrev pub pattern_form : PatternKind → Labelled PatternLabel
pattern_form (pattern.Range start end) = labelled range_pattern
    (two_parts (child_in terms_of.Consts start) (child_in terms_of.Consts end))
pattern_form (pattern.Or ps) = labelled or_pattern (one_part (child_in terms_of.PatternLists ps))
pattern_form pattern.NotNull = labelled not_null_pattern no_parts

-- what is under a predicate's binder
abbrev pub RecordForm : Type 0
RecordForm = Labelled (RecordLabel ℕ)

-- clauses, without their binder: the label of each, and its children
abbrev pub clause_form : ClauseKind → RecordForm
clause_form (clause.Trait p) = labelled (trait_record p.trait_ref.def_id.number)
    (one_part (child_in terms_of.ArgLists p.trait_ref.args))
clause_form (clause.RegionOutlives p) = labelled region_outlives_record
    (two_parts (child.Region p.0) (child.Region p.1))
clause_form (clause.TypeOutlives p) = labelled type_outlives_record
    (two_parts (child_in terms_of.Types p.0) (child.Region p.1))
clause_form (clause.Projection p) = labelled (projection_record p.projection_term.def_id.number)
    (two_parts (child_in terms_of.ArgLists p.projection_term.args) (term_child p.term))
clause_form (clause.ConstArgHasType c t) = labelled const_has_type_record
    (two_parts (child_in terms_of.Consts c) (child_in terms_of.Types t))
clause_form (clause.WellFormed t) = labelled well_formed_record (one_part (term_child t))
clause_form (clause.ConstEvaluatable c) = labelled const_evaluatable_record (one_part (child_in terms_of.Consts c))
clause_form (clause.HostEffect p) = labelled (host_effect_record p.trait_ref.def_id.number p.constness)
    (one_part (child_in terms_of.ArgLists p.trait_ref.args))
clause_form (clause.UnstableFeature s) = labelled (unstable_feature_record s.number) no_parts

-- predicates, without their binder: the label of each, and its children
abbrev pub predicate_form : PredicateKind → RecordForm
predicate_form (predicate.Clause c) = clause_form c
predicate_form (predicate.DynCompatible d) = labelled (dyn_compatible_record d.number) no_parts
predicate_form (predicate.Subtype p) = labelled (subtype_record p.a_is_expected)
    (two_parts (child_in terms_of.Types p.a) (child_in terms_of.Types p.b))
predicate_form (predicate.Coerce p) = labelled coerce_record
    (two_parts (child_in terms_of.Types p.a) (child_in terms_of.Types p.b))
predicate_form (predicate.ConstEquate a b) = labelled const_equate_record
    (two_parts (child_in terms_of.Consts a) (child_in terms_of.Consts b))
predicate_form predicate.Ambiguous = labelled ambiguous_record no_parts
predicate_form (predicate.NormalizesTo p) = labelled (normalizes_to_record p.alias.def_id.number)
    (two_parts (child_in terms_of.ArgLists p.alias.args) (term_child p.term))
predicate_form (predicate.AliasRelate a b r) = labelled (alias_relate_record r)
    (two_parts (term_child a) (term_child b))

-- existential predicates, without their binder: the label of each, and its children
abbrev pub existential_form : ExistentialPredicate → RecordForm
existential_form (existential.Trait t) = labelled (existential_trait_record t.def_id.number)
    (one_part (child_in terms_of.ArgLists t.args))
existential_form (existential.Projection p) = labelled (existential_projection_record p.def_id.number)
    (two_parts (child_in terms_of.ArgLists p.args) (term_child p.term))
existential_form (existential.AutoTrait d) = labelled (auto_trait_record d.number) no_parts

-- what is under a binder of these variables, as the form of a kind
abbrev pub under_form : Label ℕ → BoundVarKinds → RecordForm → Form (Label ℕ)
under_form l vars f = under l vars f.label f.parts

-- the form of a kind of any table
abbrev pub kind_form : Kind → Form (Label ℕ)
kind_form (kind.Ty k) = relabelled type_label (ty_form k)
kind_form (kind.Const k) = relabelled const_label (const_form k)
kind_form (kind.Pat k) = plain (pattern_label (pattern_form k).label) (pattern_form k).parts
kind_form (kind.Predicate b) = under_form predicate_label b.bound_vars (predicate_form b.value)
kind_form (kind.Existential b) = under_form existential_label b.bound_vars (existential_form b.value)

-- the table of a kind
abbrev pub kind_table : Kind → TermTable
kind_table (kind.Ty k) = terms_of.Types
kind_table (kind.Const k) = terms_of.Consts
kind_table (kind.Pat k) = terms_of.Patterns
kind_table (kind.Predicate b) = terms_of.Predicates
kind_table (kind.Existential b) = terms_of.Existentials

-- the sort of a kind that is a parameter or a bound variable; without meaning for patterns and predicates
abbrev pub kind_sort : Kind → Sort
kind_sort (kind.Ty k) = type_sort
kind_sort (kind.Const k) = const_sort
kind_sort (kind.Pat k) = const_sort
kind_sort (kind.Predicate b) = const_sort
kind_sort (kind.Existential b) = const_sort

-- a region
abbrev pub region_shape : RegionKind → Shape
region_shape (ReEarlyParam p) = shape.param region_sort p.index p.name.number
region_shape (ReBound i b) = shape.bound region_sort (depth i) (region_entry b)
region_shape (ReLateParam p) = shape.region (late_param_region p.scope.number (region_name p.kind))
region_shape ReStatic = shape.region static_region
region_shape (ReVar v) = shape.region (region_var v)
region_shape (RePlaceholder p) = shape.region (placeholder_region p.universe p.bound.var (region_name p.bound.kind))
region_shape ReErased = shape.region erased_region
region_shape (ReError e) = shape.region (error_region e.0)

-- a type's handle
abbrev pub ty_shape : Ty → Shape
ty_shape t = shape.stored Types t.number

-- a constant's handle
abbrev pub const_shape : Const → Shape
const_shape c = shape.stored Consts c.number

-- a pattern's handle
abbrev pub pat_shape : Pat → Shape
pat_shape p = shape.stored Patterns p.number

-- a predicate's handle
abbrev pub predicate_shape : Predicate → Shape
predicate_shape p = shape.stored Predicates p.number

-- a clause's handle
abbrev pub clause_shape : Clause → Shape
clause_shape c = shape.stored Predicates c.number

-- an existential predicate's handle
abbrev pub existential_shape : PolyExistentialPredicate → Shape
existential_shape e = shape.stored Existentials e.number

-- a list of types, by its handle
abbrev pub tys_shape : Tys → Shape
tys_shape ts = shape.stored TypeLists ts.number

-- a list of arguments, by its handle
abbrev pub args_shape : GenericArgs → Shape
args_shape args = shape.stored ArgLists args.number

-- a list of constants, by its handle
abbrev pub consts_shape : ConstList → Shape
consts_shape cs = shape.stored ConstLists cs.number

-- a list of patterns, by its handle
abbrev pub pats_shape : PatList → Shape
pats_shape ps = shape.stored PatternLists ps.number

-- a list of existential predicates, by its handle
abbrev pub existentials_shape : BoundExistentialPredicates → Shape
existentials_shape ps = shape.stored ExistentialLists ps.number

-- a list of clauses, by its handle
abbrev pub clauses_shape : Clauses → Shape
clauses_shape cs = shape.stored ClauseLists cs.number

-- a stored term or list, by its row
abbrev pub handle_shape : AnyHandle → Shape
handle_shape r = shape.stored (term_table r.table) r.number

-- a generic argument
abbrev pub arg_shape : GenericArgKind → Shape
arg_shape (arg.Lifetime r) = region_shape r
arg_shape (arg.«Type» t) = ty_shape t
arg_shape (arg.Const c) = const_shape c

-- the kind of a term
abbrev pub term_kind_shape : TermKind → Shape
term_kind_shape (term.Ty t) = ty_shape t
term_kind_shape (term.Const c) = const_shape c

-- a type or a constant
abbrev pub term_shape : Term → Shape
term_shape t = term_kind_shape t.kind

-- a child, if there is one
abbrev pub child_shapes : Child → Shapes
child_shapes child.Absent = shape.none
child_shapes (child.Region r) = shape.also (region_shape r) shape.none
child_shapes (child.Stored r) = shape.also (handle_shape r) shape.none

-- the children in order
abbrev pub parts_shapes : Parts → Shapes
parts_shapes p = append (child_shapes p.first) (child_shapes p.second)

-- the children of a list in order
abbrev pub children_shapes : List Child → Shapes
children_shapes [] = shape.none
children_shapes (c ∷ cs) = append (child_shapes c) (children_shapes cs)

-- the shape of a form's row
abbrev pub form_shape : Sort → Form (Label ℕ) → Shape
form_shape s (param i name) = shape.param s i name
form_shape s (bound d e) = shape.bound s d e
form_shape s (plain l p) = shape.term l (parts_shapes p)
form_shape s (under l vars m p) = shape.term l (shape.also
    (shape.binder vars.number (shape.node (record_label m) (parts_shapes p))) shape.none)

-- the shape of a kind's row
abbrev pub kind_shape : Kind → Shape
kind_shape k = form_shape (kind_sort k) (kind_form k)

-- the shape of a type's row
abbrev pub ty_kind_shape : TyKind → Shape
ty_kind_shape k = form_shape type_sort (relabelled type_label (ty_form k))

-- the shape of a constant's row
abbrev pub const_kind_shape : ConstKind → Shape
const_kind_shape k = form_shape const_sort (relabelled const_label (const_form k))

-- the shape of a pattern's row
abbrev pub pattern_kind_shape : PatternKind → Shape
pattern_kind_shape k = shape.term (pattern_label (pattern_form k).label) (parts_shapes (pattern_form k).parts)

-- the shape of what is under a predicate's binder
abbrev pub record_shape : RecordForm → Shape
record_shape f = shape.node (record_label f.label) (parts_shapes f.parts)

-- the shape of a predicate's row
abbrev pub predicate_kind_shape : Binder PredicateKind → Shape
predicate_kind_shape b = shape.term predicate_label (shape.also
    (shape.binder b.bound_vars.number (record_shape (predicate_form b.value))) shape.none)

-- the shape of an existential predicate's row
abbrev pub existential_kind_shape : Binder ExistentialPredicate → Shape
existential_kind_shape b = shape.term existential_label
    (shape.also (shape.binder b.bound_vars.number (record_shape (existential_form b.value))) shape.none)

-- the types of a signature
abbrev pub fn_sig_tys_shape : FnSigTys → Shape
fn_sig_tys_shape s = shape.node (record_label fn_sig_tys_record) (shape.also (tys_shape s.inputs_and_output) shape.none)

-- a value under a binder
abbrev pub binder_shape : {T : Type 0} → (T → Shape) → Binder T → Shape
binder_shape of_value b = shape.binder b.bound_vars.number (of_value b.value)

-- the shape of the row of a list of types
abbrev pub tys_row_shape : List Ty → Shape
tys_row_shape ts = shape.node (list_label TypeLists) (item_shapes ty_shape ts)

-- the shape of the row of a list of arguments
abbrev pub args_row_shape : List GenericArgKind → Shape
args_row_shape args = shape.node (list_label ArgLists) (item_shapes arg_shape args)

-- the shape of the row of a list of constants
abbrev pub consts_row_shape : List Const → Shape
consts_row_shape cs = shape.node (list_label ConstLists) (item_shapes const_shape cs)

-- the shape of the row of a list of patterns
abbrev pub pats_row_shape : List Pat → Shape
pats_row_shape ps = shape.node (list_label PatternLists) (item_shapes pat_shape ps)

-- the shape of the row of a list of existential predicates
abbrev pub existentials_row_shape : List PolyExistentialPredicate → Shape
existentials_row_shape ps = shape.node (list_label ExistentialLists) (item_shapes existential_shape ps)

-- the shape of the row of a list of clauses
abbrev pub clauses_row_shape : List Clause → Shape
clauses_row_shape cs = shape.term clause_list_label (item_shapes clause_shape cs)

-- the label of a list, by its table
abbrev pub items_label : {N : Type 0} → TermTable → Label N
items_label t = cond (is_clause_table t) clause_list_label (list_label (term_table t))

-- the shape of a list's row, by its table
abbrev pub items_shape : TermTable → Shapes → Shape
items_shape t ss = cond (is_clause_table t) (shape.term clause_list_label ss)
    (shape.node (list_label (term_table t)) ss)

-- the tree of a list, by its table
abbrev pub items_tree : {I : Type 0} → TermTable → Forest I → Tree I
items_tree t ts = cond (is_clause_table t) (tree.term clause_list_label ts)
    (tree.node (list_label (term_table t)) ts)

-- the shape of the row of a binder's list of variables
abbrev pub vars_row_shape : List BoundVariableKind → Shape
vars_row_shape vs = shape.node (var_list_label (map var_kind vs)) shape.none

-- the shape of a text's row
abbrev pub text_row_shape : List ℕ → Shape
text_row_shape bytes = shape.node (text_label bytes) shape.none
