-- The shapes of values without terms, which are data alone.
use Rattle.std.specs.Prelude.{ℕ, ◌+◌, Some, None, Bool, true, false, ⊤}
use Rattle.tt_index.specs.declared.numeric.FloatTy.{FloatTy}
use Rattle.tt_index.specs.declared.numeric.FloatTy.TheVariants as float
use Rattle.tt_index.specs.declared.numeric.IntTy.{IntTy}
use Rattle.tt_index.specs.declared.numeric.IntTy.TheVariants as int
use Rattle.tt_index.specs.declared.numeric.UintTy.{UintTy}
use Rattle.tt_index.specs.declared.numeric.UintTy.TheVariants as uint
use Rattle.tt_index.specs.declared.qualifier.Mutability.{Mutability}
use Rattle.tt_index.specs.declared.qualifier.Mutability.TheVariants as mutability
use Rattle.tt_index.specs.declared.qualifier.Safety.{Safety}
use Rattle.tt_index.specs.declared.qualifier.Safety.TheVariants as safety
use Rattle.tt_index.specs.declared.variance.Variance.{Variance}
use Rattle.tt_index.specs.declared.variance.Variance.TheVariants as variance
use Rattle.tt_kinds.specs.Label.{Sort, region_sort, type_sort, const_sort, VarKind, region_variable, type_variable}
use Rattle.tt_kinds.specs.Label.{fn_ptr_type, leaf_const, RecordLabel, record_label, absent_record, pair_record}
use Rattle.tt_kinds.specs.Label.{unstable_feature_record, alias_ty_record, fn_sig_record, bare_param_record}
use Rattle.tt_kinds.specs.Label.{bare_bound_record, bare_type_record, bare_const_record}
use Rattle.tt_kinds.specs.Shape as shape
use Rattle.tt_kinds.specs.Shape.{Shape, Shapes}
use Rattle.tt_kinds.specs.Bound.{depth, region_name, var_kind, region_entry, ty_entry, const_entry}
use Rattle.tt_kinds.specs.Bare.{bare_const_shape, bare_ty_shape, index_of}
use Rattle.tt_kinds.specs.Handle.{Symbol, BoundVarKinds}
use Rattle.tt_kinds.specs.Kinds.{ty_shape}
use Rattle.tt_kinds.specs.Values.{option_shape, sequence_shape, tuple_shape, triple_shape, two_record}
use Rattle.tt_kinds.specs.declared.alias.AliasTyKind.{AliasTyKind}
use Rattle.tt_kinds.specs.declared.bound.BoundConst.{BoundConst}
use Rattle.tt_kinds.specs.declared.bound.BoundRegion.{BoundRegion}
use Rattle.tt_kinds.specs.declared.bound.BoundRegionKind.{BoundRegionKind}
use Rattle.tt_kinds.specs.declared.bound.BoundTy.{BoundTy}
use Rattle.tt_kinds.specs.declared.bound.BoundTyKind.{BoundTyKind}
use Rattle.tt_kinds.specs.declared.bound.BoundVarIndexKind.{BoundVarIndexKind}
use Rattle.tt_kinds.specs.declared.bound.BoundVariableKind.{BoundVariableKind}
use Rattle.tt_kinds.specs.declared.bound.BoundVariableKind.TheVariants as variable
use Rattle.tt_kinds.specs.declared.const_kind.AnonConstKind.{AnonConstKind}
use Rattle.tt_kinds.specs.declared.const_kind.AnonConstKind.TheVariants as anon_const
use Rattle.tt_kinds.specs.declared.const_kind.ConstKind.TheVariants as const
use Rattle.tt_kinds.specs.declared.const_kind.InferConst.{InferConst}
use Rattle.tt_kinds.specs.declared.const_kind.ParamConst.{ParamConst}
use Rattle.tt_kinds.specs.declared.const_kind.ScalarInt.{ScalarInt}
use Rattle.tt_kinds.specs.declared.field.FieldInfo.{FieldInfo}
use Rattle.tt_kinds.specs.declared.fn_sig.FnHeader.{FnHeader}
use Rattle.tt_kinds.specs.declared.fn_sig.FnSigKind.{FnSigKind}
use Rattle.tt_kinds.specs.declared.placeholder.Placeholder.{Placeholder}
use Rattle.tt_kinds.specs.declared.predicate.BoundConstness.{BoundConstness}
use Rattle.tt_kinds.specs.declared.predicate.BoundConstness.TheVariants as constness
use Rattle.tt_kinds.specs.declared.predicate_kind.AliasRelationDirection.{AliasRelationDirection}
use Rattle.tt_kinds.specs.declared.predicate_kind.AliasRelationDirection.TheVariants as direction
use Rattle.tt_kinds.specs.declared.region_kind.EarlyParamRegion.{EarlyParamRegion}
use Rattle.tt_kinds.specs.declared.region_kind.LateParamRegion.{LateParamRegion}
use Rattle.tt_kinds.specs.declared.ty_kind.FloatVarValue.{FloatVarValue}
use Rattle.tt_kinds.specs.declared.ty_kind.FloatVarValue.TheVariants as float_value
use Rattle.tt_kinds.specs.declared.ty_kind.InferTy.{InferTy}
use Rattle.tt_kinds.specs.declared.ty_kind.IntVarValue.{IntVarValue}
use Rattle.tt_kinds.specs.declared.ty_kind.IntVarValue.TheVariants as int_value
use Rattle.tt_kinds.specs.declared.ty_kind.ParamTy.{ParamTy}
use Rattle.tt_kinds.specs.declared.ty_kind.TyKind.TheVariants as type
use Rattle.tt_kinds.specs.declared.variant.FieldDef.{FieldDef}
use Rattle.tt_kinds.specs.Variant.{Variant}

-- data without terms
abbrev pub data_shape : RecordLabel ℕ → Shape
data_shape l = shape.node (record_label l) shape.none

abbrev mutual
  -- the shape is records all the way down: no handle occurs in it
  pub IsData : Shape → Type 0
  IsData (shape.node (record_label l) ss) = AreData ss
  IsData _ = ⊥

  -- each of the shapes is records all the way down
  pub AreData : Shapes → Type 0
  AreData shape.none = ⊤
  AreData (shape.also s ss) = IsData s × AreData ss

-- a number and its size in bytes, as the leaf of a value
abbrev pub number_data : ℕ → ℕ → RecordLabel ℕ
number_data bytes n = bare_const_record (leaf_const n bytes)

-- nothing
abbrev pub unit_data : RecordLabel ℕ
unit_data = absent_record

-- a value without handles, whatever else it holds
abbrev pub no_handles : Shape
no_handles = data_shape unit_data

-- a truth value as a number
abbrev pub truth_number : Bool → ℕ
truth_number false = 0
truth_number true = 1

-- the place of a mutability among the two
abbrev pub mutability_number : Mutability → ℕ
mutability_number mutability.Not = 0
mutability_number mutability.Mut = 1

-- the place of a safety among the two
abbrev pub safety_number : Safety → ℕ
safety_number safety.Safe = 0
safety_number safety.Unsafe = 1

-- the place of a variance among the four
abbrev pub variance_number : Variance → ℕ
variance_number variance.Covariant = 0
variance_number variance.Invariant = 1
variance_number variance.Contravariant = 2
variance_number variance.Bivariant = 3

-- the place of a direction among the two
abbrev pub direction_number : AliasRelationDirection → ℕ
direction_number direction.Equate = 0
direction_number direction.Subtype = 1

-- the place of a signed integer type among the six
abbrev pub int_number : IntTy → ℕ
int_number int.Isize = 0
int_number int.I8 = 1
int_number int.I16 = 2
int_number int.I32 = 3
int_number int.I64 = 4
int_number int.I128 = 5

-- the place of an unsigned integer type among the six
abbrev pub uint_number : UintTy → ℕ
uint_number uint.Usize = 0
uint_number uint.U8 = 1
uint_number uint.U16 = 2
uint_number uint.U32 = 3
uint_number uint.U64 = 4
uint_number uint.U128 = 5

-- the place of a floating point type among the four
abbrev pub float_number : FloatTy → ℕ
float_number float.F16 = 0
float_number float.F32 = 1
float_number float.F64 = 2
float_number float.F128 = 3

-- the index of a variable, or nothing for a canonical one
abbrev pub index_shape : BoundVarIndexKind → Shape
index_shape i = option_shape (λ d. data_shape (number_data 4 d)) (index_of (depth i))

-- the place of a constness among the two
abbrev pub constness_number : BoundConstness → ℕ
constness_number constness.Const = 0
constness_number constness.Maybe = 1

-- the place of a way to write an anonymous constant among the five
abbrev pub anon_const_number : AnonConstKind → ℕ
anon_const_number anon_const.GCE = 0
anon_const_number anon_const.MCG = 1
anon_const_number anon_const.GCA = 2
anon_const_number anon_const.RepeatExprCount = 3
anon_const_number anon_const.NonTypeSystem = 4

-- the value of an integer variable: 0 if it is unknown, then the six signed types, then the six unsigned ones
abbrev pub int_value_number : IntVarValue → ℕ
int_value_number int_value.Unknown = 0
int_value_number (int_value.IntType ty) = 1 + int_number ty
int_value_number (int_value.UintType ty) = 7 + uint_number ty

-- the value of a variable for a floating point type: 0 if it is unknown, then the four types
abbrev pub float_value_number : FloatVarValue → ℕ
float_value_number float_value.Unknown = 0
float_value_number (float_value.Known ty) = 1 + float_number ty

-- the parts of a signature other than its types
abbrev pub fn_sig_kind_data : FnSigKind → RecordLabel ℕ
fn_sig_kind_data k = fn_sig_record k

-- the parts of a function pointer type other than its types
abbrev pub fn_header_data : FnHeader → RecordLabel ℕ
fn_header_data h = bare_type_record (fn_ptr_type h)

-- the kind of an alias, with its declaration
abbrev pub alias_kind_data : AliasTyKind → RecordLabel ℕ
alias_kind_data k = alias_ty_record k

-- the bits of a scalar, and their number of bytes
abbrev pub scalar_data : ScalarInt → RecordLabel ℕ
scalar_data s = bare_const_record (leaf_const s.bits s.size)

-- a type inference variable by itself, as a kind that isn't stored
abbrev pub infer_ty_shape : InferTy → Shape
infer_ty_shape v = bare_ty_shape (type.Infer v)

-- a constant inference variable by itself, as a kind that isn't stored
abbrev pub infer_const_shape : InferConst → Shape
infer_const_shape v = bare_const_shape (const.Infer v)

-- a name by itself: the label that has a name alone
abbrev pub name_data : Symbol → RecordLabel ℕ
name_data s = unstable_feature_record s.number

-- a name by itself
abbrev pub name_shape : Symbol → Shape
name_shape s = data_shape (name_data s)

-- a list of variables by itself: the number of its row
abbrev pub var_list_data : BoundVarKinds → RecordLabel ℕ
var_list_data vars = number_data 4 vars.number

-- a type parameter by itself, as a kind that isn't stored
abbrev pub param_ty_shape : ParamTy → Shape
param_ty_shape p = bare_ty_shape (type.Param p)

-- a constant parameter by itself, as a kind that isn't stored
abbrev pub param_const_shape : ParamConst → Shape
param_const_shape p = bare_const_shape (const.Param p)

-- an early region parameter by itself
abbrev pub early_param_data : EarlyParamRegion → RecordLabel ℕ
early_param_data p = bare_param_record region_sort p.index p.name.number

-- a variable without its place in a binder's list: its kind, in the first place of a list
abbrev pub variable_data : Sort → VarKind ℕ → RecordLabel ℕ
variable_data s k = bare_bound_record s None (record { var = 0; kind = k })

-- the name of a bound region by itself
abbrev pub region_name_data : BoundRegionKind → RecordLabel ℕ
region_name_data k = variable_data region_sort (region_variable (region_name k))

-- the name of a bound type by itself
abbrev pub ty_name_data : BoundTyKind → RecordLabel ℕ
ty_name_data k = variable_data type_sort (type_variable k)

-- what an entry of a binder's list represents
abbrev pub entry_sort : BoundVariableKind → Sort
entry_sort (variable.Region k) = region_sort
entry_sort (variable.Ty k) = type_sort
entry_sort variable.Const = const_sort

-- an entry of a binder's list by itself
abbrev pub entry_data : BoundVariableKind → RecordLabel ℕ
entry_data k = variable_data (entry_sort k) (var_kind k)

-- a late region parameter by itself: its item, in the place of an index, and its name
abbrev pub late_param_data : LateParamRegion → RecordLabel ℕ
late_param_data p = bare_bound_record region_sort (Some p.scope.number)
    (record { var = 0; kind = region_variable (region_name p.kind) })

-- a bound region by itself, without an index
abbrev pub bound_region_data : BoundRegion → RecordLabel ℕ
bound_region_data b = bare_bound_record region_sort None (region_entry b)

-- a bound type by itself, without an index
abbrev pub bound_ty_data : BoundTy → RecordLabel ℕ
bound_ty_data b = bare_bound_record type_sort None (ty_entry b)

-- a bound constant by itself, without an index
abbrev pub bound_const_data : BoundConst → RecordLabel ℕ
bound_const_data b = bare_bound_record const_sort None (const_entry b)

-- a placeholder by itself: its universe, and the variable that it replaces
abbrev pub placeholder_shape : {T : Type 0} → (T → Shape) → Placeholder T → Shape
placeholder_shape of_bound p = two_record pair_record (data_shape (number_data 4 p.universe)) (of_bound p.bound)

-- a field of a data type by itself: its name and its type
abbrev pub named_field_shape : FieldDef → Shape
named_field_shape f = two_record pair_record (name_shape f.name) (ty_shape f.ty)

-- a variant of a data type by itself: its name, if it has one, and its fields in order
abbrev pub named_variant_shape : Variant → Shape
named_variant_shape v = two_record pair_record (option_shape name_shape v.name)
    (sequence_shape named_field_shape v.fields)

-- information about a field: the two types, the variant with its place, and the name with its place
abbrev pub field_info_shape : FieldInfo → Shape
field_info_shape f = triple_shape (tuple_shape ty_shape ty_shape)
    (tuple_shape (option_shape name_shape) (λ i. data_shape (number_data 4 i)))
    (tuple_shape name_shape (λ i. data_shape (number_data 4 i)))
    ((f.base, f.ty), (f.variant, f.variant_idx), (f.name, f.field_idx))
