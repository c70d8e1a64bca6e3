-- The shapes of values that have no row of their own: of records and their contents.
use Rattle.std.specs.Prelude.{ℕ, Option, Some, None, Result, Ok, Err, List}
use Rattle.tt_kinds.specs.Label.{RecordLabel, trait_ref_record, alias_term_record, alias_ty_record, outlives_record}
use Rattle.tt_kinds.specs.Label.{type_and_mut_record, fn_sig_record, param_env_record, witness_types_record}
use Rattle.tt_kinds.specs.Label.{projection_record, normalizes_to_record, trait_record, host_effect_record}
use Rattle.tt_kinds.specs.Label.{subtype_record, coerce_record, record_label, list_label, pair_record, triple_record}
use Rattle.tt_kinds.specs.Label.{absent_record, present_record, sequence_record, existential_trait_record}
use Rattle.tt_kinds.specs.Label.{existential_projection_record, unsafe_binder_record, clause_label}
use Rattle.tt_kinds.specs.Label.{ItemLabel, trait_item, assoc_ty_item, inherent_item, fn_item, plain_item}
use Rattle.tt_kinds.specs.Label.{declaration_label, definition_label}
use Rattle.tt_kinds.specs.Declaration.{sort_of}
use Rattle.tt_kinds.specs.Variant.{Variant}
use Rattle.tt_kinds.specs.declared.variant.FieldDef.{FieldDef}
use Rattle.tt_kinds.specs.declared.declaration.Declaration.{Declaration}
use Rattle.tt_kinds.specs.declared.declaration.DeclarationKind.{DeclarationKind}
use Rattle.tt_kinds.specs.declared.declaration.DeclarationKind.TheVariants as kind
use Rattle.tt_kinds.specs.Shape as shape
use Rattle.tt_kinds.specs.Shape.{Shape, Shapes, all_but_last, span, item_shapes}
use Rattle.tt_kinds.specs.Kinds.{region_shape, arg_shape, ty_shape, tys_shape, args_shape, clause_shape, clauses_shape}
use Rattle.tt_kinds.specs.Kinds.{term_shape, clause_form, predicate_form, existential_form, record_shape}
use Rattle.tt_kinds.specs.declared.table.Table.TheVariants.{AssumptionLists, TypeLists, ArgLists, VarLists, Symbols}
use Rattle.tt_kinds.specs.Handle.{Clause}
use Rattle.tt_kinds.specs.Handle.{Symbol}
use Rattle.tt_kinds.specs.Handle.{RegionAssumptions}
use Rattle.tt_kinds.specs.declared.generic_arg.GenericArgKind.{GenericArgKind}
use Rattle.tt_kinds.specs.declared.alias.AliasTy.{AliasTy}
use Rattle.tt_kinds.specs.declared.alias.AliasTerm.{AliasTerm}
use Rattle.tt_kinds.specs.declared.fn_sig.FnSig.{FnSig}
use Rattle.tt_kinds.specs.declared.fn_sig.CoroutineWitnessTypes.{CoroutineWitnessTypes}
use Rattle.tt_kinds.specs.declared.ty_kind.TypeAndMut.{TypeAndMut}
use Rattle.tt_kinds.specs.declared.ty_kind.UnsafeBinderInner.{UnsafeBinderInner}
use Rattle.tt_kinds.specs.declared.predicate.TraitRef.{TraitRef}
use Rattle.tt_kinds.specs.declared.predicate.TraitPredicate.{TraitPredicate}
use Rattle.tt_kinds.specs.declared.predicate.HostEffectPredicate.{HostEffectPredicate}
use Rattle.tt_kinds.specs.declared.predicate.OutlivesPredicate.{OutlivesPredicate}
use Rattle.tt_kinds.specs.declared.predicate.ProjectionPredicate.{ProjectionPredicate}
use Rattle.tt_kinds.specs.declared.predicate.NormalizesTo.{NormalizesTo}
use Rattle.tt_kinds.specs.declared.predicate.SubtypePredicate.{SubtypePredicate}
use Rattle.tt_kinds.specs.declared.predicate.CoercePredicate.{CoercePredicate}
use Rattle.tt_kinds.specs.declared.predicate.ParamEnv.{ParamEnv}
use Rattle.tt_kinds.specs.declared.predicate_kind.ClauseKind.{ClauseKind}
use Rattle.tt_kinds.specs.declared.predicate_kind.PredicateKind.{PredicateKind}
use Rattle.tt_kinds.specs.declared.view.FnInputTys.{FnInputTys}
use Rattle.tt_kinds.specs.declared.view.GenericArgsSlice.{GenericArgsSlice}
use Rattle.tt_kinds.specs.declared.existential.ExistentialPredicate.{ExistentialPredicate}
use Rattle.tt_kinds.specs.declared.existential.ExistentialTraitRef.{ExistentialTraitRef}
use Rattle.tt_kinds.specs.declared.existential.ExistentialProjection.{ExistentialProjection}

-- what is declared, without its terms
abbrev pub item_label : DeclarationKind → ItemLabel
item_label (kind.Trait params) = trait_item params
item_label (kind.AssocTy trait_id) = assoc_ty_item trait_id.number
item_label (kind.Inherent impl_id) = inherent_item impl_id.number
item_label (kind.Fn sig) = fn_item sig.value.value.fn_sig_kind
item_label k = plain_item (sort_of k)

-- a record of one value
abbrev pub one_record : RecordLabel ℕ → Shape → Shape
one_record l s = shape.node (record_label l) (shape.also s shape.none)

-- a record of two values
abbrev pub two_record : RecordLabel ℕ → Shape → Shape → Shape
two_record l s u = shape.node (record_label l) (shape.also s (shape.also u shape.none))

-- two values
abbrev pub tuple_shape : {S T : Type 0} → (S → Shape) → (T → Shape) → S × T → Shape
tuple_shape of_first of_second p = shape.node (record_label pair_record)
    (shape.also (of_first p.0) (shape.also (of_second p.1) shape.none))

-- three values
abbrev pub triple_shape : {S T U : Type 0} → (S → Shape) → (T → Shape) → (U → Shape) → S × T × U → Shape
triple_shape of_first of_second of_third p =
    shape.node (record_label triple_record) (shape.also (of_first p.0)
    (shape.also (of_second p.1) (shape.also (of_third p.2) shape.none)))

-- a value, if there is one
abbrev pub option_shape : {T : Type 0} → (T → Shape) → Option T → Shape
option_shape of_value None = shape.node (record_label absent_record) shape.none
option_shape of_value (Some x) = shape.node (record_label present_record) (shape.also (of_value x) shape.none)

-- a value or an error
abbrev pub result_shape : {T E : Type 0} → (T → Shape) → (E → Shape) → Result T E → Shape
result_shape of_value of_error (Ok x) = shape.node (record_label present_record) (shape.also (of_value x) shape.none)
result_shape of_value of_error (Err e) = shape.node (record_label absent_record) (shape.also (of_error e) shape.none)

-- values in order
abbrev pub sequence_shape : {T : Type 0} → (T → Shape) → List T → Shape
sequence_shape of_item xs = shape.node (record_label sequence_record) (item_shapes of_item xs)

-- the types of a list without the last
abbrev pub input_tys_shape : FnInputTys → Shape
input_tys_shape v = shape.part_of TypeLists v.inputs_and_output.number all_but_last

-- consecutive arguments of a list
abbrev pub args_slice_shape : GenericArgsSlice → Shape
args_slice_shape v = shape.part_of ArgLists v.args.number (span v.start v.len)

-- a trait with its arguments
abbrev pub trait_ref_shape : TraitRef → Shape
trait_ref_shape t = one_record (trait_ref_record t.def_id.number) (args_shape t.args)

-- an alias of a type or a constant
abbrev pub alias_term_shape : AliasTerm → Shape
alias_term_shape a = one_record (alias_term_record a.def_id.number) (args_shape a.args)

-- an alias of a type
abbrev pub alias_ty_shape : AliasTy → Shape
alias_ty_shape a = one_record (alias_ty_record a.kind) (args_shape a.args)

-- a term that outlives a region, and the region
abbrev pub outlives_shape : {A : Type 0} → (A → Shape) → OutlivesPredicate A → Shape
outlives_shape of_value p = two_record outlives_record (of_value p.0) (region_shape p.1)

-- a list of assumptions on regions, by its handle
abbrev pub assumptions_shape : RegionAssumptions → Shape
assumptions_shape a = shape.stored AssumptionLists a.number

-- an argument outlives a region
abbrev pub assumption_shape : OutlivesPredicate GenericArgKind → Shape
assumption_shape p = outlives_shape arg_shape p

-- the shape of the row of a list of assumptions
abbrev pub assumptions_row_shape : List (OutlivesPredicate GenericArgKind) → Shape
assumptions_row_shape ps = shape.node (list_label AssumptionLists) (item_shapes assumption_shape ps)

-- the types that a coroutine keeps while it is suspended
abbrev pub witness_types_shape : CoroutineWitnessTypes → Shape
witness_types_shape w = two_record witness_types_record (tys_shape w.types) (assumptions_shape w.assumptions)

-- a type with a mutability
abbrev pub type_and_mut_shape : TypeAndMut → Shape
type_and_mut_shape t = one_record (type_and_mut_record t.mutbl) (ty_shape t.ty)

-- a clause by itself, around its predicate
abbrev pub one_clause_shape : Clause → Shape
one_clause_shape c = shape.node clause_label (shape.also (clause_shape c) shape.none)

-- a signature
abbrev pub fn_sig_shape : FnSig → Shape
fn_sig_shape s = one_record (fn_sig_record s.fn_sig_kind) (tys_shape s.inputs_and_output)

-- the terms of what is declared: the variables that a function's signature binds, and its types
abbrev pub declared_shapes : DeclarationKind → Shapes
declared_shapes (kind.Fn sig) = shape.also (shape.stored VarLists sig.value.bound_vars.number)
    (shape.also (tys_shape sig.value.value.inputs_and_output) shape.none)
declared_shapes _ = shape.none

-- the shape of a declaration's row, with its place among the declarations
abbrev pub declaration_row_shape : ℕ → Declaration → Shape
declaration_row_shape n d = shape.node (declaration_label n (item_label d.kind) d.name.number) (declared_shapes d.kind)

-- a name, by its number
abbrev pub symbol_shape : Symbol → Shape
symbol_shape s = shape.stored Symbols s.number

-- a field of a data type
abbrev pub field_def_shape : FieldDef → Shape
field_def_shape f = two_record pair_record (symbol_shape f.name) (ty_shape f.ty)

-- a variant of a data type
abbrev pub variant_shape : Variant → Shape
variant_shape v = two_record pair_record (option_shape symbol_shape v.name) (sequence_shape field_def_shape v.fields)

-- the shape of a definition's row, with the number of the data type's id
abbrev pub definition_row_shape : ℕ → List Variant → Shape
definition_row_shape n vs = shape.node (definition_label n vs) (item_shapes variant_shape vs)

-- the assumptions inside an item
abbrev pub param_env_shape : ParamEnv → Shape
param_env_shape e = one_record param_env_record (clauses_shape e.caller_bounds)

-- a type implements a trait
abbrev pub trait_predicate_shape : TraitPredicate → Shape
trait_predicate_shape p = one_record (trait_record p.trait_ref.def_id.number) (args_shape p.trait_ref.args)

-- a type implements a trait, and constants can use the implementation
abbrev pub host_effect_shape : HostEffectPredicate → Shape
host_effect_shape p = one_record (host_effect_record p.trait_ref.def_id.number p.constness)
    (args_shape p.trait_ref.args)

-- an alias is equal to a term
abbrev pub projection_shape : ProjectionPredicate → Shape
projection_shape p = two_record (projection_record p.projection_term.def_id.number) (args_shape p.projection_term.args)
    (term_shape p.term)

-- an alias normalizes to a term
abbrev pub normalizes_to_shape : NormalizesTo → Shape
normalizes_to_shape p = two_record (normalizes_to_record p.alias.def_id.number) (args_shape p.alias.args)
    (term_shape p.term)

-- a type is a subtype of another
abbrev pub subtype_shape : SubtypePredicate → Shape
subtype_shape p = two_record (subtype_record p.a_is_expected) (ty_shape p.a) (ty_shape p.b)

-- a type can be coerced to another
abbrev pub coerce_shape : CoercePredicate → Shape
coerce_shape p = two_record coerce_record (ty_shape p.a) (ty_shape p.b)

-- a trait with its own arguments, without the hidden type
abbrev pub existential_trait_ref_shape : ExistentialTraitRef → Shape
existential_trait_ref_shape t = one_record (existential_trait_record t.def_id.number) (args_shape t.args)

-- the value of an associated item of the hidden type
abbrev pub existential_projection_shape : ExistentialProjection → Shape
existential_projection_shape p = two_record (existential_projection_record p.def_id.number) (args_shape p.args)
    (term_shape p.term)

-- a type under a binder, as an unsafe binder has it
abbrev pub unsafe_binder_shape : UnsafeBinderInner → Shape
unsafe_binder_shape i = shape.binder i.0.bound_vars.number (one_record unsafe_binder_record (ty_shape i.0.value))

-- a clause's kind, without its binder
abbrev pub clause_record_shape : ClauseKind → Shape
clause_record_shape k = record_shape (clause_form k)

-- a predicate's kind, without its binder
abbrev pub predicate_record_shape : PredicateKind → Shape
predicate_record_shape k = record_shape (predicate_form k)

-- an existential predicate's kind, without its binder
abbrev pub existential_record_shape : ExistentialPredicate → Shape
existential_record_shape e = record_shape (existential_form e)
