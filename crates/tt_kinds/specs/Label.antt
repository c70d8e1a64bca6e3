-- The data of nodes and leaves. No law on trees looks into a label: only the functions at the end do.
-- N is the type of names: a symbol's text in trees, and its number in stored terms.
use Rattle.std.specs.Prelude.{ℕ, List, [], ◌∷◌, Bool, true, false, Option, Some, None}
use Rattle.tt_flags.specs.TypeFlags.{has_ty_infer, has_ct_infer, has_ty_placeholder, has_ct_placeholder}
use Rattle.tt_flags.specs.TypeFlags.{has_ty_projection, has_ty_free_alias, has_ty_opaque, has_ty_inherent}
use Rattle.tt_flags.specs.TypeFlags.{has_ct_projection, has_non_region_error, has_error, has_ty_fresh, has_ct_fresh}
use Rattle.tt_flags.specs.TypeFlags.{has_binder_vars, has_ty_coro}
use Rattle.tt_index.specs.declared.numeric.IntTy.{IntTy}
use Rattle.tt_index.specs.declared.numeric.UintTy.{UintTy}
use Rattle.tt_index.specs.declared.numeric.FloatTy.{FloatTy}
use Rattle.tt_index.specs.declared.qualifier.Mutability.{Mutability}
use Rattle.tt_kinds.specs.declared.bound.BoundTyKind.{BoundTyKind}
use Rattle.tt_kinds.specs.declared.bound.BoundTy.{BoundTy}
use Rattle.tt_kinds.specs.declared.bound.BoundConst.{BoundConst}
use Rattle.tt_kinds.specs.declared.placeholder.Placeholder.{Placeholder}
use Rattle.tt_kinds.specs.declared.fn_sig.FnHeader.{FnHeader}
use Rattle.tt_kinds.specs.declared.fn_sig.FnSigKind.{FnSigKind}
use Rattle.tt_kinds.specs.declared.alias.AliasTyKind.{AliasTyKind}
use Rattle.tt_kinds.specs.declared.alias.AliasTyKind.TheVariants as alias
use Rattle.tt_kinds.specs.declared.ty_kind.InferTy.{InferTy}
use Rattle.tt_kinds.specs.declared.ty_kind.InferTy.TheVariants.{TyVar, IntVar, FloatVar, FreshTy, FreshIntTy}
use Rattle.tt_kinds.specs.declared.ty_kind.InferTy.TheVariants.{FreshFloatTy}
use Rattle.tt_kinds.specs.declared.const_kind.InferConst.{InferConst}
use Rattle.tt_kinds.specs.declared.const_kind.InferConst.TheVariants.{Var, Fresh}
use Rattle.tt_kinds.specs.declared.declaration.DeclarationSort.{DeclarationSort}
use Rattle.tt_kinds.specs.declared.predicate.BoundConstness.{BoundConstness}
use Rattle.tt_kinds.specs.declared.predicate_kind.AliasRelationDirection.{AliasRelationDirection}
use Rattle.tt_kinds.specs.Variant.{Variant}
use Rattle.tt_kinds.specs.declared.table.Table.{Table}
use Rattle.tt_kinds.specs.declared.table.Table.TheVariants.{Types, Consts, Patterns, Predicates, Existentials}
use Rattle.tt_kinds.specs.declared.table.Table.TheVariants.{ClauseLists, VarLists, Symbols, Declarations, Definitions}

-- a name: the bytes of its text
abbrev pub Name : Type 0
Name = List ℕ

-- what a parameter, a variable or an argument represents: a region, a type or a constant
pub data Sort : Type 0 where
  region_sort type_sort const_sort : Sort

-- the name of a bound region
pub data RegionName (N : Type 0) : Type 0 where
  anonymous : RegionName N
  printed : N → RegionName N
  named : ℕ → RegionName N
  environment : RegionName N

-- a variable of a binder's list
pub data VarKind (N : Type 0) : Type 0 where
  region_variable : RegionName N → VarKind N
  type_variable : BoundTyKind → VarKind N
  const_variable : VarKind N

-- a bound variable: its place in the binder's list, and its kind
pub record Entry (N : Type 0) : Type 0 where
  pub var : ℕ
  pub kind : VarKind N

-- a region that is neither an early parameter nor bound
pub data FreeRegion (N : Type 0) : Type 0 where
  static_region : FreeRegion N
  erased_region : FreeRegion N
  region_var : ℕ → FreeRegion N
  error_region : ℕ → FreeRegion N
  late_param_region : ℕ → RegionName N → FreeRegion N
  placeholder_region : ℕ → ℕ → RegionName N → FreeRegion N

-- a type that is neither a parameter nor bound, without its contents
pub data TypeLabel : Type 0 where
  bool_type : TypeLabel
  char_type : TypeLabel
  int_type : IntTy → TypeLabel
  uint_type : UintTy → TypeLabel
  float_type : FloatTy → TypeLabel
  str_type : TypeLabel
  never_type : TypeLabel
  placeholder_type : Placeholder BoundTy → TypeLabel
  infer_type : InferTy → TypeLabel
  error_type : ℕ → TypeLabel
  ref_type : Mutability → TypeLabel
  raw_ptr_type : Mutability → TypeLabel
  slice_type : TypeLabel
  tuple_type : TypeLabel
  fn_ptr_type : FnHeader → TypeLabel
  foreign_type : ℕ → TypeLabel
  adt_type : ℕ → TypeLabel
  fn_def_type : ℕ → TypeLabel
  array_type : TypeLabel
  pat_type : TypeLabel
  unsafe_binder_type : TypeLabel
  dynamic_type : TypeLabel
  closure_type : ℕ → TypeLabel
  coroutine_closure_type : ℕ → TypeLabel
  coroutine_type : ℕ → TypeLabel
  coroutine_witness_type : ℕ → TypeLabel
  alias_type : AliasTyKind → TypeLabel

-- a constant that is neither a parameter nor bound, without its contents
pub data ConstLabel : Type 0 where
  infer_const : InferConst → ConstLabel
  placeholder_const : Placeholder BoundConst → ConstLabel
  unevaluated_const : ℕ → ConstLabel
  -- the bits, and the number of bytes
  leaf_const : ℕ → ℕ → ConstLabel
  branch_const : ConstLabel
  error_const : ℕ → ConstLabel
  expr_const : ℕ → ConstLabel

-- a pattern, without its contents
pub data PatternLabel : Type 0 where
  range_pattern : PatternLabel
  or_pattern : PatternLabel
  not_null_pattern : PatternLabel

-- a value that isn't stored, without its contents
pub data RecordLabel (N : Type 0) : Type 0 where
  fn_sig_tys_record : RecordLabel N
  pair_record : RecordLabel N
  triple_record : RecordLabel N
  absent_record : RecordLabel N
  present_record : RecordLabel N
  sequence_record : RecordLabel N
  unsafe_binder_record : RecordLabel N
  -- clauses
  trait_record : ℕ → RecordLabel N
  host_effect_record : ℕ → BoundConstness → RecordLabel N
  region_outlives_record : RecordLabel N
  type_outlives_record : RecordLabel N
  projection_record : ℕ → RecordLabel N
  const_has_type_record : RecordLabel N
  well_formed_record : RecordLabel N
  const_evaluatable_record : RecordLabel N
  unstable_feature_record : N → RecordLabel N
  -- predicates that are no clauses
  dyn_compatible_record : ℕ → RecordLabel N
  subtype_record : Bool → RecordLabel N
  coerce_record : RecordLabel N
  const_equate_record : RecordLabel N
  ambiguous_record : RecordLabel N
  normalizes_to_record : ℕ → RecordLabel N
  alias_relate_record : AliasRelationDirection → RecordLabel N
  -- existential predicates
  existential_trait_record : ℕ → RecordLabel N
  existential_projection_record : ℕ → RecordLabel N
  auto_trait_record : ℕ → RecordLabel N
  -- parts of these, and other values
  trait_ref_record : ℕ → RecordLabel N
  alias_term_record : ℕ → RecordLabel N
  alias_ty_record : AliasTyKind → RecordLabel N
  outlives_record : RecordLabel N
  type_and_mut_record : Mutability → RecordLabel N
  fn_sig_record : FnSigKind → RecordLabel N
  param_env_record : RecordLabel N
  witness_types_record : RecordLabel N
  -- kinds that aren't stored: of a parameter, of a bound variable (without an index if it is canonical), and of other
  -- types, constants and patterns
  bare_param_record : Sort → ℕ → N → RecordLabel N
  bare_bound_record : Sort → Option ℕ → Entry N → RecordLabel N
  bare_type_record : TypeLabel → RecordLabel N
  bare_const_record : ConstLabel → RecordLabel N
  bare_pattern_record : PatternLabel → RecordLabel N

-- what is declared, without its terms
pub data ItemLabel : Type 0 where
  -- the number of its parameters
  trait_item : ℕ → ItemLabel
  -- its trait
  assoc_ty_item : ℕ → ItemLabel
  -- its implementation
  inherent_item : ℕ → ItemLabel
  -- what its signature has besides types
  fn_item : FnSigKind → ItemLabel
  -- an item of another sort
  plain_item : DeclarationSort → ItemLabel

-- a node's kind, with its data other than terms
pub data Label (N : Type 0) : Type 0 where
  type_label : TypeLabel → Label N
  const_label : ConstLabel → Label N
  pattern_label : PatternLabel → Label N
  predicate_label : Label N
  existential_label : Label N
  clause_list_label : Label N
  -- a stored list
  list_label : Table → Label N
  var_list_label : List (VarKind N) → Label N
  text_label : List ℕ → Label N
  -- its place among the declarations, what is declared, and its name
  declaration_label : ℕ → ItemLabel → N → Label N
  -- the id of a data type, and its variants with their handles: no term holds a definition
  definition_label : ℕ → List Variant → Label N
  record_label : RecordLabel N → Label N
  -- the token of an error that belongs to no stored term
  error_label : ℕ → Label N
  -- a clause by itself, around its predicate
  clause_label : Label N

-- the label is a type's
abbrev pub is_type : {N : Type 0} → Label N → Bool
is_type (type_label l) = true
is_type _ = false

-- the label is a type's, a predicate's or a clause list's
abbrev pub is_type_or_clause : {N : Type 0} → Label N → Bool
is_type_or_clause (type_label l) = true
is_type_or_clause predicate_label = true
is_type_or_clause clause_list_label = true
is_type_or_clause _ = false

-- the record is a clause's
abbrev pub is_clause_record : {N : Type 0} → RecordLabel N → Bool
is_clause_record (trait_record d) = true
is_clause_record (host_effect_record d c) = true
is_clause_record region_outlives_record = true
is_clause_record type_outlives_record = true
is_clause_record (projection_record d) = true
is_clause_record const_has_type_record = true
is_clause_record well_formed_record = true
is_clause_record const_evaluatable_record = true
is_clause_record (unstable_feature_record name) = true
is_clause_record _ = false

-- the flags of an inference variable
abbrev pub infer_flags : InferTy → ℕ
infer_flags (TyVar v) = has_ty_infer
infer_flags (IntVar v) = has_ty_infer
infer_flags (FloatVar v) = has_ty_infer
infer_flags (FreshTy n) = has_ty_fresh
infer_flags (FreshIntTy n) = has_ty_fresh
infer_flags (FreshFloatTy n) = has_ty_fresh

-- the flags of an alias
abbrev pub alias_flags : AliasTyKind → ℕ
alias_flags (alias.Projection d) = has_ty_projection
alias_flags (alias.Inherent d) = has_ty_inherent
alias_flags (alias.Opaque d) = has_ty_opaque
alias_flags (alias.Free d) = has_ty_free_alias

-- the flags of a type itself, without the flags of its contents
abbrev pub flags_of_type : TypeLabel → ℕ
flags_of_type (placeholder_type p) = has_ty_placeholder
flags_of_type (infer_type i) = infer_flags i
flags_of_type (error_type e) = has_non_region_error
flags_of_type (coroutine_type d) = has_ty_coro
flags_of_type (alias_type k) = alias_flags k
flags_of_type _ = 0

-- the flags of a constant inference variable
abbrev pub infer_const_flags : InferConst → ℕ
infer_const_flags (Var v) = has_ct_infer
infer_const_flags (Fresh n) = has_ct_fresh

-- the flags of a constant itself, without the flags of its contents
abbrev pub flags_of_const : ConstLabel → ℕ
flags_of_const (infer_const i) = infer_const_flags i
flags_of_const (placeholder_const p) = has_ct_placeholder
flags_of_const (unevaluated_const d) = has_ct_projection
flags_of_const (error_const e) = has_non_region_error
flags_of_const _ = 0

-- the flags of a binder's list of variables: one flag if the list isn't empty
abbrev pub list_flags : {N : Type 0} → List (VarKind N) → ℕ
list_flags [] = 0
list_flags (v ∷ vs) = has_binder_vars

-- the flags that a label adds to its children's flags
abbrev pub flags_of_label : {N : Type 0} → Label N → ℕ
flags_of_label (type_label l) = flags_of_type l
flags_of_label (const_label l) = flags_of_const l
flags_of_label (pattern_label l) = 0
flags_of_label predicate_label = 0
flags_of_label existential_label = 0
flags_of_label clause_list_label = 0
flags_of_label (list_label t) = 0
flags_of_label (var_list_label vs) = list_flags vs
flags_of_label (text_label bytes) = 0
flags_of_label (declaration_label n k name) = 0
flags_of_label (definition_label n vs) = 0
flags_of_label (record_label l) = 0
flags_of_label (error_label e) = has_error
flags_of_label clause_label = 0

-- the token of the error, if the type is an error
abbrev pub error_of_type : TypeLabel → Option ℕ
error_of_type (error_type e) = Some e
error_of_type _ = None

-- the token of the error, if the constant is an error
abbrev pub error_of_const : ConstLabel → Option ℕ
error_of_const (error_const e) = Some e
error_of_const _ = None

-- the table that terms of the label are stored in, if they are stored
abbrev pub label_table : {N : Type 0} → Label N → Option Table
label_table (type_label l) = Some Types
label_table (const_label l) = Some Consts
label_table (pattern_label l) = Some Patterns
label_table predicate_label = Some Predicates
label_table existential_label = Some Existentials
label_table clause_list_label = Some ClauseLists
label_table (list_label t) = Some t
label_table (var_list_label vs) = Some VarLists
label_table (text_label bytes) = Some Symbols
label_table (declaration_label n k name) = Some Declarations
label_table (definition_label n vs) = Some Definitions
label_table (record_label l) = None
label_table (error_label e) = None
label_table clause_label = None
