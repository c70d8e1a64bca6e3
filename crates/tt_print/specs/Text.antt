-- The texts of terms. Each is made from the term's tree: the node's head, then its children in order with separators
-- between them, then its end.
use Rattle.std.specs.Prelude.{ℕ, zero, suc, Bool, true, false, nat_lt, ◌==◌, if◌then◌else◌, Option, None, Some, List}
use Rattle.std.specs.Prelude.{[], ◌∷◌, ◌++◌, codes, decimal, ◌≡◌, Result, OnOk}
use Rattle.tt_index.specs.declared.numeric.IntTy.{IntTy}
use Rattle.tt_index.specs.declared.numeric.IntTy.TheVariants as int
use Rattle.tt_index.specs.declared.numeric.UintTy.{UintTy}
use Rattle.tt_index.specs.declared.numeric.UintTy.TheVariants as uint
use Rattle.tt_index.specs.declared.numeric.FloatTy.{FloatTy}
use Rattle.tt_index.specs.declared.numeric.FloatTy.TheVariants as float
use Rattle.tt_index.specs.declared.abi.ExternAbi.{ExternAbi}
use Rattle.tt_index.specs.declared.abi.ExternAbi.TheVariants.{Rust, C, System, RustCall, Unadjusted}
use Rattle.tt_index.specs.declared.qualifier.Safety.{Safety}
use Rattle.tt_index.specs.declared.qualifier.Safety.TheVariants.{Safe, Unsafe}
use Rattle.tt_index.specs.declared.qualifier.Mutability.{Mutability}
use Rattle.tt_index.specs.declared.qualifier.Mutability.TheVariants.{Not, Mut}
use Rattle.tt_kinds.specs.FnSig.{abi_in, safety_in, is_variadic_in, splat_in}
use Rattle.tt_kinds.specs.declared.bound.BoundTyKind.{BoundTyKind}
use Rattle.tt_kinds.specs.declared.bound.BoundTyKind.TheVariants as bound_ty
use Rattle.tt_kinds.specs.Alias.{alias_number}
use Rattle.tt_kinds.specs.declared.ty_kind.InferTy.{InferTy}
use Rattle.tt_kinds.specs.declared.ty_kind.InferTy.TheVariants.{TyVar, IntVar, FloatVar, FreshTy, FreshIntTy}
use Rattle.tt_kinds.specs.declared.ty_kind.InferTy.TheVariants.{FreshFloatTy}
use Rattle.tt_kinds.specs.declared.const_kind.InferConst.{InferConst}
use Rattle.tt_kinds.specs.declared.const_kind.InferConst.TheVariants.{Var, Fresh}
use Rattle.tt_kinds.specs.declared.predicate.BoundConstness.{BoundConstness}
use Rattle.tt_kinds.specs.declared.predicate.BoundConstness.TheVariants as constness
use Rattle.tt_kinds.specs.declared.predicate_kind.AliasRelationDirection.{AliasRelationDirection}
use Rattle.tt_kinds.specs.declared.predicate_kind.AliasRelationDirection.TheVariants as direction
use Rattle.tt_kinds.specs.declared.table.Table.TheVariants.{Declarations}
use Rattle.tt_kinds.specs.declared.declaration.DeclarationKind.{DeclarationKind}
use Rattle.tt_kinds.specs.declared.declaration.DeclarationKind.TheVariants as declaration
use Rattle.tt_kinds.specs.Label.{Name, Sort, region_sort, type_sort, const_sort, RegionName, anonymous, printed, named}
use Rattle.tt_kinds.specs.Label.{environment, VarKind, region_variable, type_variable, const_variable, FreeRegion}
use Rattle.tt_kinds.specs.Label.{static_region, erased_region, region_var, error_region, late_param_region}
use Rattle.tt_kinds.specs.Label.{placeholder_region, TypeLabel, bool_type, char_type, int_type, uint_type, float_type}
use Rattle.tt_kinds.specs.Label.{str_type, never_type, placeholder_type, infer_type, error_type, ref_type, raw_ptr_type}
use Rattle.tt_kinds.specs.Label.{slice_type, tuple_type, fn_ptr_type, foreign_type, adt_type, fn_def_type, array_type}
use Rattle.tt_kinds.specs.Label.{pat_type, unsafe_binder_type, dynamic_type, closure_type, coroutine_closure_type}
use Rattle.tt_kinds.specs.Label.{coroutine_type, coroutine_witness_type, alias_type, ConstLabel, infer_const}
use Rattle.tt_kinds.specs.Label.{placeholder_const, unevaluated_const, leaf_const, branch_const, error_const}
use Rattle.tt_kinds.specs.Label.{expr_const, PatternLabel, range_pattern, or_pattern, not_null_pattern, RecordLabel}
use Rattle.tt_kinds.specs.Label.{fn_sig_tys_record, unsafe_binder_record, trait_record, host_effect_record}
use Rattle.tt_kinds.specs.Label.{region_outlives_record, type_outlives_record, projection_record, const_has_type_record}
use Rattle.tt_kinds.specs.Label.{well_formed_record, const_evaluatable_record, unstable_feature_record}
use Rattle.tt_kinds.specs.Label.{dyn_compatible_record, subtype_record, coerce_record, const_equate_record}
use Rattle.tt_kinds.specs.Label.{ambiguous_record, normalizes_to_record, alias_relate_record, existential_trait_record}
use Rattle.tt_kinds.specs.Label.{existential_projection_record, auto_trait_record, trait_ref_record, alias_term_record}
use Rattle.tt_kinds.specs.Label.{alias_ty_record, outlives_record, fn_sig_record, param_env_record, bare_param_record}
use Rattle.tt_kinds.specs.Label.{bare_bound_record, bare_type_record, bare_const_record, bare_pattern_record, Label}
use Rattle.tt_kinds.specs.Label.{type_label, const_label, pattern_label, clause_list_label, list_label, record_label}
use Rattle.tt_kinds.specs.Tree.{Depth, at, canonical, Tree, Forest, param, bound, region, term, node, binder, none}
use Rattle.tt_kinds.specs.Tree.{also, count_trees}
use Rattle.tt_kinds.specs.Shape.{name_of}
use Rattle.tt_interner.specs.Rows.{Row, size, meaning}
use Rattle.tt_interner.specs.Declarations.{declared_at}
use Rattle.tt_print.specs.declared.ir_print.layout.Style.{Style}
use Rattle.tt_print.specs.declared.ir_print.layout.Style.TheVariants as style

-- the part of a node's data that is written, where N is the type of names
pub data Subject (N : Type 0) : Type 0 where
  nothing : Subject N
  words : List ℕ → Subject N
  -- the words of a calling convention, and the index of a splatted argument
  convention : List ℕ → Option ℕ → Subject N
  numbered : ℕ → Subject N
  -- two numbers, with a dot between them
  paired : ℕ → ℕ → Subject N
  -- a value's bits, and how many bytes it has
  sized : ℕ → ℕ → Subject N
  -- the declaration of this number
  item : ℕ → Subject N
  called : N → Subject N

-- the text in front of a node's children
pub record Head (N : Type 0) : Type 0 where
  pub before : List ℕ
  pub subject : Subject N
  pub after : List ℕ

module _ {N : Type 0} where
  -- no text in front of the children
  abbrev pub no_head : Head N
  no_head = record { before = []; subject = nothing; after = [] }

  -- a word alone
  abbrev pub word : List ℕ → Head N
  word w = record { before = w; subject = nothing; after = [] }

  -- a word, and a part of the data after it
  abbrev pub with_word : List ℕ → Subject N → Head N
  with_word w s = record { before = w; subject = s; after = [] }

-- the names of the signed integer types
abbrev pub int_name : IntTy → List ℕ
int_name int.Isize = codes "isize"
int_name int.I8 = codes "i8"
int_name int.I16 = codes "i16"
int_name int.I32 = codes "i32"
int_name int.I64 = codes "i64"
int_name int.I128 = codes "i128"

-- the names of the unsigned integer types
abbrev pub uint_name : UintTy → List ℕ
uint_name uint.Usize = codes "usize"
uint_name uint.U8 = codes "u8"
uint_name uint.U16 = codes "u16"
uint_name uint.U32 = codes "u32"
uint_name uint.U64 = codes "u64"
uint_name uint.U128 = codes "u128"

-- the names of the floating point types
abbrev pub float_name : FloatTy → List ℕ
float_name float.F16 = codes "f16"
float_name float.F32 = codes "f32"
float_name float.F64 = codes "f64"
float_name float.F128 = codes "f128"

-- the word in front of an unsafe function, and nothing for a safe function
abbrev pub safety_word : Safety → List ℕ
safety_word Safe = []
safety_word Unsafe = codes "unsafe "

-- the words of a calling convention; Rust's own convention has none
abbrev pub abi_words : ExternAbi → List ℕ
abi_words Rust = []
abi_words (C false) = codes "extern \"C\" "
abi_words (C true) = codes "extern \"C-unwind\" "
abi_words (System false) = codes "extern \"system\" "
abi_words (System true) = codes "extern \"system-unwind\" "
abi_words RustCall = codes "extern \"rust-call\" "
abi_words Unadjusted = codes "extern \"unadjusted\" "

-- the words of a splatted argument, if there is one
abbrev pub splat_words : Option ℕ → List ℕ
splat_words None = []
splat_words (Some n) = codes "splat(" ++ (decimal n ++ codes ") ")

module _ {N : Type 0} where
  -- the head of an inference variable
  abbrev pub infer_head : InferTy → Head N
  infer_head (TyVar v) = record { before = codes "?"; subject = numbered v; after = codes "t" }
  infer_head (IntVar v) = record { before = codes "?"; subject = numbered v; after = codes "i" }
  infer_head (FloatVar v) = record { before = codes "?"; subject = numbered v; after = codes "f" }
  infer_head (FreshTy n) = record { before = codes "FreshTy("; subject = numbered n; after = codes ")" }
  infer_head (FreshIntTy n) = record { before = codes "FreshIntTy("; subject = numbered n; after = codes ")" }
  infer_head (FreshFloatTy n) = record { before = codes "FreshFloatTy("; subject = numbered n; after = codes ")" }

  -- the head of a raw pointer
  abbrev pub pointer_head : Mutability → Head N
  pointer_head Not = word (codes "*const ")
  pointer_head Mut = word (codes "*mut ")

  -- the heads of types
  abbrev pub type_head : TypeLabel → Head N
  type_head bool_type = word (codes "bool")
  type_head char_type = word (codes "char")
  type_head (int_type i) = word (int_name i)
  type_head (uint_type i) = word (uint_name i)
  type_head (float_type f) = word (float_name f)
  type_head str_type = word (codes "str")
  type_head never_type = word (codes "!")
  type_head (placeholder_type p) = with_word (codes "!") (paired p.universe p.bound.var)
  type_head (infer_type i) = infer_head i
  type_head (error_type e) = word (codes "{type error}")
  type_head (ref_type m) = word (codes "&")
  type_head (raw_ptr_type m) = pointer_head m
  type_head slice_type = word (codes "[")
  type_head tuple_type = no_head
  type_head (fn_ptr_type h) = no_head
  type_head (foreign_type d) = with_word [] (item d)
  type_head (adt_type d) = with_word [] (item d)
  type_head (fn_def_type d) = with_word [] (item d)
  type_head array_type = word (codes "[")
  type_head pat_type = word (codes "pattern_type!(")
  type_head unsafe_binder_type = no_head
  type_head dynamic_type = word (codes "dyn ")
  type_head (closure_type d) = with_word (codes "{closure ") (item d)
  type_head (coroutine_closure_type d) = with_word (codes "{coroutine closure ") (item d)
  type_head (coroutine_type d) = with_word (codes "{coroutine ") (item d)
  type_head (coroutine_witness_type d) = with_word (codes "{coroutine witness ") (item d)
  type_head (alias_type k) = with_word [] (item (alias_number k))

  -- the head of a constant inference variable
  abbrev pub infer_const_head : InferConst → Head N
  infer_const_head (Var v) = record { before = codes "?"; subject = numbered v; after = codes "c" }
  infer_const_head (Fresh n) = record { before = codes "Fresh("; subject = numbered n; after = codes ")" }

  -- the heads of constants
  abbrev pub const_head : ConstLabel → Head N
  const_head (infer_const i) = infer_const_head i
  const_head (placeholder_const p) = record {
    before = codes "!";
    subject = paired p.universe p.bound.var;
    after = codes "c";
  }
  const_head (unevaluated_const d) = with_word [] (item d)
  const_head (leaf_const bits bytes) = record { before = []; subject = sized bits bytes; after = codes "_" }
  const_head branch_const = no_head
  const_head (error_const e) = word (codes "{const error}")
  const_head (expr_const tag) = with_word (codes "{expr ") (numbered tag)

  -- the heads of patterns
  abbrev pub pattern_head : PatternLabel → Head N
  pattern_head range_pattern = no_head
  pattern_head or_pattern = word (codes "(")
  pattern_head not_null_pattern = word (codes "!null")

  -- the head of a subtyping predicate, which says whether the first type is the expected one
  abbrev pub subtype_head : Bool → Head N
  subtype_head true = word (codes "SubtypePredicate(a_is_expected: true, ")
  subtype_head false = word (codes "SubtypePredicate(a_is_expected: false, ")

  -- the words of a function in front of its types, where the style has them
  abbrev pub fn_head : Style → Head N
  fn_head (style.Signature k) = record {
    before = safety_word (safety_in k);
    subject = convention (abi_words (abi_in k)) (splat_in k);
    after = codes "fn";
  }
  fn_head _ = no_head

  -- the mark of a bound variable, and its numbers
  abbrev pub bound_head : Sort → Depth → ℕ → Head N
  bound_head region_sort (at d) var = with_word (codes "'^") (paired d var)
  bound_head region_sort canonical var = with_word (codes "'^c.") (numbered var)
  bound_head type_sort (at d) var = with_word (codes "^") (paired d var)
  bound_head type_sort canonical var = with_word (codes "^c.") (numbered var)
  bound_head const_sort (at d) var = record { before = codes "^"; subject = paired d var; after = codes "c" }
  bound_head const_sort canonical var = record { before = codes "^c."; subject = numbered var; after = codes "c" }

  -- the heads of records in a term of the style
  abbrev pub record_head : Style → RecordLabel N → Head N
  record_head s fn_sig_tys_record = fn_head s
  record_head s unsafe_binder_record = word (codes "unsafe binder ")
  record_head s (projection_record d) = with_word [] (item d)
  record_head s const_has_type_record = word (codes "ConstArgHasType(")
  record_head s well_formed_record = word (codes "WellFormed(")
  record_head s const_evaluatable_record = word (codes "ConstEvaluatable(")
  record_head s (unstable_feature_record name) = with_word (codes "UnstableFeature(") (called name)
  record_head s (dyn_compatible_record d) = with_word (codes "DynCompatible(") (item d)
  record_head s (subtype_record b) = subtype_head b
  record_head s coerce_record = word (codes "CoercePredicate(")
  record_head s const_equate_record = word (codes "ConstEquate(")
  record_head s ambiguous_record = word (codes "Ambiguous")
  record_head s (normalizes_to_record d) = with_word (codes "NormalizesTo(") (item d)
  record_head s (alias_relate_record r) = word (codes "AliasRelate(")
  record_head s (existential_trait_record d) = with_word [] (item d)
  record_head s (existential_projection_record d) = with_word [] (item d)
  record_head s (auto_trait_record d) = with_word [] (item d)
  record_head s (trait_ref_record d) = with_word [] (item d)
  record_head s (alias_term_record d) = with_word [] (item d)
  record_head s (alias_ty_record k) = with_word [] (item (alias_number k))
  record_head s (fn_sig_record k) = fn_head (style.Signature k)
  record_head s param_env_record = word (codes "ParamEnv(")
  record_head s (bare_param_record o i name) = with_word [] (called name)
  record_head s (bare_bound_record o (Some d) e) = bound_head o (at d) e.var
  record_head s (bare_bound_record o None e) = bound_head o canonical e.var
  record_head s (bare_type_record l) = type_head l
  record_head s (bare_const_record l) = const_head l
  record_head s (bare_pattern_record l) = pattern_head l
  record_head s _ = no_head

  -- the head of a label in a term of the style
  abbrev pub head_in : Style → Label N → Head N
  head_in s (type_label l) = type_head l
  head_in s (const_label l) = const_head l
  head_in s (pattern_label l) = pattern_head l
  head_in s (record_label l) = record_head s l
  head_in s _ = no_head

  -- the name of a region
  abbrev pub region_name_head : RegionName N → Head N
  region_name_head anonymous = word (codes "'_")
  region_name_head (printed name) = with_word [] (called name)
  region_name_head (named d) = with_word [] (item d)
  region_name_head environment = word (codes "'{env}")

  -- the mark of a binder's variable, and its place in the list
  abbrev pub variable_head : ℕ → VarKind N → Head N
  variable_head n (region_variable r) = with_word (codes "'^") (numbered n)
  variable_head n (type_variable k) = with_word (codes "^") (numbered n)
  variable_head n const_variable = record { before = codes "^"; subject = numbered n; after = codes "c" }

  -- the name of a bound region after its place, if it has one
  abbrev pub region_title : RegionName N → Head N
  region_title anonymous = no_head
  region_title (printed name) = with_word (codes " ") (called name)
  region_title (named d) = with_word (codes " ") (item d)
  region_title environment = word (codes " '{env}")

  -- the name of a bound type after its place, if it has one
  abbrev pub ty_title : BoundTyKind → Head N
  ty_title bound_ty.Anon = no_head
  ty_title (bound_ty.Param d) = with_word (codes " ") (item d.number)

  -- the name of a binder's variable after its place, if it has one
  abbrev pub variable_title : VarKind N → Head N
  variable_title (region_variable r) = region_title r
  variable_title (type_variable k) = ty_title k
  variable_title const_variable = no_head

  -- the head of a region that is neither an early parameter nor bound
  abbrev pub free_head : FreeRegion N → Head N
  free_head static_region = word (codes "'static")
  free_head erased_region = word (codes "'{erased}")
  free_head (region_var v) = with_word (codes "'?") (numbered v)
  free_head (error_region e) = word (codes "'{region error}")
  free_head (late_param_region d r) = region_name_head r
  free_head (placeholder_region u v r) = with_word (codes "'!") (paired u v)

-- the style of a type's children
abbrev pub type_style : TypeLabel → Style
type_style (ref_type Not) = style.Reference
type_style (ref_type Mut) = style.MutReference
type_style slice_type = style.Square
type_style tuple_type = style.Tuple
type_style (adt_type d) = style.Generic
type_style (fn_def_type d) = style.Generic
type_style array_type = style.Square
type_style (fn_ptr_type h) = style.Signature h.fn_sig_kind
type_style pat_type = style.Restricted
type_style dynamic_type = style.Dynamic
type_style (closure_type d) = style.Braced
type_style (coroutine_closure_type d) = style.Braced
type_style (coroutine_type d) = style.Braced
type_style (coroutine_witness_type d) = style.Braced
type_style (alias_type k) = style.Generic
type_style _ = style.Joined

-- the style of a constant's children
abbrev pub const_style : ConstLabel → Style
const_style (unevaluated_const d) = style.Generic
const_style branch_const = style.Branch
const_style (expr_const tag) = style.Braced
const_style _ = style.Joined

-- the style of a pattern's children
abbrev pub pattern_style : PatternLabel → Style
pattern_style range_pattern = style.Range
pattern_style or_pattern = style.OneOf
pattern_style not_null_pattern = style.Joined

-- the style of two terms that may be aliases
abbrev pub relation_style : AliasRelationDirection → Style
relation_style direction.Equate = style.Equated
relation_style direction.Subtype = style.Subtyped

-- the style of a record's members, in a term of this style
abbrev pub record_style : {N : Type 0} → Style → RecordLabel N → Style
record_style s fn_sig_tys_record = s
record_style s (trait_record d) = style.Bound None d
record_style s (host_effect_record d c) = style.Bound (Some c) d
record_style s region_outlives_record = style.Outlives
record_style s type_outlives_record = style.Outlives
record_style s (projection_record d) = style.Equality
record_style s const_has_type_record = style.Record
record_style s well_formed_record = style.Record
record_style s const_evaluatable_record = style.Record
record_style s (unstable_feature_record name) = style.Record
record_style s (dyn_compatible_record d) = style.Record
record_style s (subtype_record b) = style.Record
record_style s coerce_record = style.Record
record_style s const_equate_record = style.Record
record_style s (normalizes_to_record d) = style.Record
record_style s (alias_relate_record r) = relation_style r
record_style s (existential_trait_record d) = style.Generic
record_style s (existential_projection_record d) = style.Generic
record_style s (trait_ref_record d) = style.Generic
record_style s (alias_term_record d) = style.Generic
record_style s (alias_ty_record k) = style.Generic
record_style s outlives_record = style.Outlives
record_style s (fn_sig_record k) = style.Signature k
record_style s param_env_record = style.Record
record_style s (bare_type_record l) = type_style l
record_style s (bare_const_record l) = const_style l
record_style s (bare_pattern_record l) = pattern_style l
record_style s _ = style.Joined

-- the style of a list in a term of this style
abbrev pub list_style : Style → Style
list_style style.Generic = style.Arguments
list_style style.Braced = style.Arguments
list_style style.Record = style.Arguments
list_style style.Equality = style.Arguments
list_style (style.Bound c d) = style.SelfFirst c d
list_style style.Tuple = style.Elements
list_style (style.Signature k) = if is_variadic_in k then style.VariadicInputs else style.Inputs
list_style style.Dynamic = style.Bounds
list_style style.OneOf = style.Alternatives
list_style style.Branch = style.Values
list_style _ = style.Listed

-- the style of a label's children, in a term of this style
abbrev pub style_in : {N : Type 0} → Style → Label N → Style
style_in s (type_label l) = type_style l
style_in s (const_label l) = const_style l
style_in s (pattern_label l) = pattern_style l
style_in s (record_label l) = record_style s l
style_in s clause_list_label = style.Listed
style_in s (list_label t) = list_style s
style_in s _ = style.Joined

-- the words in front of a first child, which may also be the last
abbrev pub opening_words : Style → Bool → List ℕ
opening_words style.Listed last = codes "["
opening_words style.Arguments last = codes "<"
opening_words style.Elements last = codes "("
opening_words style.Values last = codes "("
opening_words style.Inputs true = codes "() -> "
opening_words style.Inputs false = codes "("
opening_words style.VariadicInputs true = codes "(...) -> "
opening_words style.VariadicInputs false = codes "("
opening_words _ last = []

-- the words in front of a later child, which may be the last
abbrev pub separator : Style → Bool → List ℕ
separator style.Reference last = codes " "
separator style.MutReference last = codes " mut "
separator style.Square last = codes "; "
separator style.Restricted last = codes " is "
separator style.Generic last = codes " = "
separator style.Equality last = codes " == "
separator style.Outlives last = codes ": "
separator style.Range last = codes "..="
separator style.Record last = codes ", "
separator style.Equated last = codes ", Equate, "
separator style.Subtyped last = codes ", Subtype, "
separator style.Listed last = codes ", "
separator style.Arguments last = codes ", "
separator (style.SelfFirst c d) last = codes ", "
separator style.Elements last = codes ", "
separator style.Values last = codes ", "
separator style.Inputs true = codes ") -> "
separator style.Inputs false = codes ", "
separator style.VariadicInputs true = codes ", ...) -> "
separator style.VariadicInputs false = codes ", "
separator style.Bounds last = codes " + "
separator style.Alternatives last = codes " | "
separator _ last = []

-- the words in front of the child after this number of others, and after the name of a trait if it comes here
abbrev pub words_before : Style → ℕ → Bool → List ℕ
words_before (style.SelfFirst c d) (suc zero) last = codes "<"
words_before s zero last = opening_words s last
words_before s (suc n) last = separator s last

-- the words after this number of children, and after the name of a trait if it comes here
abbrev pub closing_words : Style → ℕ → List ℕ
closing_words style.Square n = codes "]"
closing_words style.Restricted n = codes ")"
closing_words style.OneOf n = codes ")"
closing_words style.Braced n = codes "}"
closing_words style.Record n = codes ")"
closing_words style.Equated n = codes ")"
closing_words style.Subtyped n = codes ")"
closing_words style.Listed zero = codes "[]"
closing_words style.Listed (suc n) = codes "]"
closing_words style.Arguments zero = []
closing_words style.Arguments (suc n) = codes ">"
closing_words (style.SelfFirst c d) zero = []
closing_words (style.SelfFirst c d) (suc zero) = []
closing_words (style.SelfFirst c d) (suc (suc n)) = codes ">"
closing_words style.Elements zero = codes "()"
closing_words style.Elements (suc zero) = codes ",)"
closing_words style.Elements (suc (suc n)) = codes ")"
closing_words style.Values zero = codes "()"
closing_words style.Values (suc n) = codes ")"
closing_words style.Bounds zero = []
closing_words style.Bounds (suc n) = codes " + "
closing_words _ n = []

-- the words between a self type and the name of a trait, of a bound on the effects of the trait's items too
abbrev pub bound_words : Option BoundConstness → List ℕ
bound_words None = codes ": "
bound_words (Some constness.Const) = codes ": const "
bound_words (Some constness.Maybe) = codes ": [const] "

-- the text in front of the variable at this place in a binder's list
abbrev pub before_variable : ℕ → List ℕ
before_variable zero = codes "for<"
before_variable (suc n) = codes ", "

-- the text after this number of variables of a binder
abbrev pub after_variables : ℕ → List ℕ
after_variables zero = []
after_variables (suc n) = codes "> "

-- there are no trees
abbrev pub are_none : {I : Type 0} → Forest I → Bool
are_none none = true
are_none (also t ts) = false

module _ (item_name : ℕ → Name) where
  -- the text of a part of a node's data
  abbrev pub subject_text : Subject Name → List ℕ
  subject_text nothing = []
  subject_text (words w) = w
  subject_text (convention w i) = w ++ splat_words i
  subject_text (numbered n) = decimal n
  subject_text (paired m n) = decimal m ++ (46 ∷ decimal n)
  subject_text (sized m n) = decimal m ++ (58 ∷ decimal n)
  subject_text (item d) = item_name d
  subject_text (called name) = name

  -- the text in front of a node's children
  abbrev pub head_text : Head Name → List ℕ
  head_text h = h.before ++ (subject_text h.subject ++ h.after)

  -- the text of the variable at this place in a binder's list
  abbrev pub variable_text : ℕ → VarKind Name → List ℕ
  variable_text n v = head_text (variable_head n v) ++ head_text (variable_title v)

  -- the text of a binder's variables from this place on
  abbrev pub variables_text : ℕ → List (VarKind Name) → List ℕ
  variables_text n [] = after_variables n
  variables_text n (v ∷ vs) = before_variable n ++ (variable_text n v ++ variables_text (suc n) vs)

  -- the text of a bound between the self type and the trait's other arguments, if this is the place for it
  abbrev pub trait_text : Style → Bool → List ℕ
  trait_text (style.SelfFirst c d) true = bound_words c ++ item_name d
  trait_text _ here = []

  -- the text in front of the child after this number of others, which may be the last
  abbrev pub before_child : Style → ℕ → Bool → List ℕ
  before_child s n last = trait_text s (n == 1) ++ words_before s n last

  -- the text after this number of children
  abbrev pub closing : Style → ℕ → List ℕ
  closing s n = trait_text s (nat_lt n 2) ++ closing_words s n

  abbrev mutual
    -- the text of a tree in a term of the style
    pub text_in : Style → Tree Depth → List ℕ
    text_in s (param o i name) = name
    text_in s (bound o d e) = head_text (bound_head o d e.var)
    text_in s (region r) = head_text (free_head r)
    text_in s (term l ts) = head_text (head_in s l) ++ (texts (style_in s l) 0 ts
        ++ closing (style_in s l) (count_trees ts))
    text_in s (node l ts) = head_text (head_in s l) ++ (texts (style_in s l) 0 ts
        ++ closing (style_in s l) (count_trees ts))
    text_in s (binder vs t) = variables_text 0 vs ++ text_in s t

    -- the texts of the children after this number of others, each with the text in front of it
    pub texts : Style → ℕ → Forest Depth → List ℕ
    texts s n none = []
    texts s n (also t ts) = before_child s n (are_none ts) ++ (text_in s t ++ texts s (suc n) ts)

  -- the text of one child, with the text in front of it, or nothing for an absent child
  abbrev pub child_text : List ℕ → Style → Forest Depth → List ℕ
  child_text first s none = []
  child_text first s (also t ts) = first ++ text_in s t

  -- the text of a tree
  abbrev pub text : Tree Depth → List ℕ
  text t = text_in style.Joined t

-- the own name of the declaration of a number, or `#` and the number if there is none
abbrev pub own_name : List Row → ℕ → Name
own_name rows d = if nat_lt d (size rows Declarations) then name_of (meaning rows)
    (declared_at rows (record { number = d })).name.number else 35 ∷ decimal d

-- the text in front of the name of a declaration of this kind: its trait or its implementation, if it has one
abbrev pub owner_of : List Row → DeclarationKind → Name
owner_of rows (declaration.AssocTy t) = own_name rows t.number ++ codes "::"
owner_of rows (declaration.Inherent i) = own_name rows i.number ++ codes "::"
owner_of rows _ = []

-- the text in front of the name of the declaration of a number
abbrev pub owner_name : List Row → ℕ → Name
owner_name rows d = if nat_lt d (size rows Declarations) then owner_of rows
    (declared_at rows (record { number = d })).kind else []

-- the whole name of the declaration of a number
abbrev pub names : List Row → ℕ → Name
names rows d = owner_name rows d ++ own_name rows d

-- the new text begins with the old text
pub record BeginsText (old new : List ℕ) : Type 0 where
  pub rest : List ℕ
  pub is : new ≡ old ++ rest

-- the text was added; if memory for it was refused, the old text is still in front
pub record Writes {T E : Type 0} (result : Result T E) (old new added : List ℕ) : Type 0 where
  pub written : OnOk result (new ≡ old ++ added)
  pub kept : BeginsText old new
