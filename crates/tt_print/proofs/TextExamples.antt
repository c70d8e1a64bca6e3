-- Terms and their texts, and terms that differ and have texts that differ.
use Rattle.std.proofs.Common.{◌≡◌, ℕ, suc, zero, Some, None, List, [], ◌∷◌, Bool, true, false, refl}
use Rattle.std.specs.Prelude.{◌&&◌, codes}
use Rattle.std.specs.Fmt.{digits}
use Rattle.std.specs.Str.{bytes_eq}
use Rattle.tt_index.specs.Text.{vid_text, region_vid_text}
use Rattle.tt_index.specs.declared.numeric.IntTy.TheVariants as int
use Rattle.tt_index.specs.declared.numeric.UintTy.TheVariants as uint
use Rattle.tt_index.specs.declared.numeric.FloatTy.TheVariants as float
use Rattle.tt_index.specs.declared.abi.ExternAbi.{ExternAbi}
use Rattle.tt_index.specs.declared.abi.ExternAbi.TheVariants as abi
use Rattle.tt_index.specs.declared.qualifier.Safety.{Safety}
use Rattle.tt_index.specs.declared.qualifier.Safety.TheVariants.{Safe, Unsafe}
use Rattle.tt_index.specs.declared.qualifier.Mutability.TheVariants as mutability
use Rattle.tt_kinds.specs.Declaration.{id_text}
use Rattle.tt_kinds.specs.FnSig.{packed}
use Rattle.tt_kinds.specs.Id.{id_of}
use Rattle.tt_kinds.specs.declared.alias.AliasTyKind.TheVariants as alias
use Rattle.tt_kinds.specs.declared.bound.BoundTyKind.TheVariants as bound_ty
use Rattle.tt_kinds.specs.declared.const_kind.InferConst.TheVariants as infer_constant
use Rattle.tt_kinds.specs.declared.fn_sig.FnSigKind.{FnSigKind}
use Rattle.tt_kinds.specs.declared.predicate.BoundConstness.TheVariants as constness
use Rattle.tt_kinds.specs.declared.predicate_kind.AliasRelationDirection.TheVariants as direction
use Rattle.tt_kinds.specs.declared.table.Table.TheVariants.{TypeLists, ConstLists, ArgLists, PatternLists}
use Rattle.tt_kinds.specs.declared.table.Table.TheVariants.{ExistentialLists}
use Rattle.tt_kinds.specs.declared.ty_kind.InferTy.TheVariants as infer
use Rattle.tt_kinds.specs.Label.{Name, region_sort, type_sort, const_sort, anonymous, printed, named, environment}
use Rattle.tt_kinds.specs.Label.{VarKind, region_variable, type_variable, const_variable, static_region, erased_region}
use Rattle.tt_kinds.specs.Label.{region_var, error_region, late_param_region, placeholder_region, TypeLabel, bool_type}
use Rattle.tt_kinds.specs.Label.{char_type, int_type, uint_type, float_type, str_type, never_type, placeholder_type}
use Rattle.tt_kinds.specs.Label.{infer_type, error_type, ref_type, raw_ptr_type, slice_type, tuple_type, fn_ptr_type}
use Rattle.tt_kinds.specs.Label.{foreign_type, adt_type, fn_def_type, array_type, pat_type, unsafe_binder_type}
use Rattle.tt_kinds.specs.Label.{dynamic_type, closure_type, coroutine_closure_type, coroutine_type}
use Rattle.tt_kinds.specs.Label.{coroutine_witness_type, alias_type, ConstLabel, infer_const, placeholder_const}
use Rattle.tt_kinds.specs.Label.{unevaluated_const, leaf_const, branch_const, error_const, expr_const, range_pattern}
use Rattle.tt_kinds.specs.Label.{or_pattern, not_null_pattern, RecordLabel, fn_sig_tys_record, unsafe_binder_record}
use Rattle.tt_kinds.specs.Label.{trait_record, host_effect_record, region_outlives_record, type_outlives_record}
use Rattle.tt_kinds.specs.Label.{projection_record, const_has_type_record, well_formed_record, const_evaluatable_record}
use Rattle.tt_kinds.specs.Label.{unstable_feature_record, dyn_compatible_record, subtype_record, coerce_record}
use Rattle.tt_kinds.specs.Label.{const_equate_record, ambiguous_record, normalizes_to_record, alias_relate_record}
use Rattle.tt_kinds.specs.Label.{existential_trait_record, existential_projection_record, auto_trait_record}
use Rattle.tt_kinds.specs.Label.{trait_ref_record, alias_term_record, alias_ty_record, outlives_record, fn_sig_record}
use Rattle.tt_kinds.specs.Label.{param_env_record, bare_param_record, bare_bound_record, bare_type_record}
use Rattle.tt_kinds.specs.Label.{bare_const_record, bare_pattern_record, error_label}
use Rattle.tt_kinds.specs.Label.{type_label, const_label, pattern_label, predicate_label, existential_label}
use Rattle.tt_kinds.specs.Label.{clause_list_label, list_label, record_label}
use Rattle.tt_kinds.specs.Tree.{Depth, at, canonical, Tree, param, bound, region, term, node, binder, Forest, none}
use Rattle.tt_kinds.specs.Tree.{also}
use Rattle.tt_print.specs.Text.{text}

-- what the declarations of the numbers are called
abbrev item_name : ℕ → Name
item_name zero = codes "Vec"
item_name (suc zero) = codes "Iterator"
item_name (suc (suc zero)) = codes "Iterator::Item"
item_name (suc (suc (suc n))) = codes "Item"

-- the texts of the trees differ
abbrev AreToldApart : Tree Depth → Tree Depth → Type 0
AreToldApart s t = bytes_eq (text item_name s) (text item_name t) ≡ false

abbrev are_written : List (Tree Depth × List ℕ) → Bool
are_written [] = true
are_written (row ∷ rows) = bytes_eq (text item_name row.0) row.1 && are_written rows

-- each tree has the text beside it
abbrev AreWritten : List (Tree Depth × List ℕ) → Type 0
AreWritten rows = are_written rows ≡ true

-- trees of one child, of two and of three
abbrev one : Tree Depth → Forest Depth
one t = also t none

abbrev two : Tree Depth → Tree Depth → Forest Depth
two s t = also s (one t)

abbrev three : Tree Depth → Tree Depth → Tree Depth → Forest Depth
three r s t = also r (two s t)

-- a type of this label, a constant, and a record of a predicate or a value
abbrev ty : TypeLabel → Forest Depth → Tree Depth
ty l ts = term (type_label l) ts

abbrev constant : ConstLabel → Forest Depth → Tree Depth
constant l ts = term (const_label l) ts

abbrev value_of : RecordLabel Name → Forest Depth → Tree Depth
value_of l ts = node (record_label l) ts

-- a term's list of types, and its list of arguments
abbrev types : Forest Depth → Tree Depth
types ts = node (list_label TypeLists) ts

abbrev args : Forest Depth → Tree Depth
args ts = node (list_label ArgLists) ts

abbrev u32 : Tree Depth
u32 = ty (uint_type uint.U32) none

abbrev usize : Tree Depth
usize = ty (uint_type uint.Usize) none

abbrev never : Tree Depth
never = ty never_type none

-- the type parameter `T`, and the region parameter `'a`
abbrev parameter : Tree Depth
parameter = param type_sort 0 (codes "T")

abbrev lifetime : Tree Depth
lifetime = param region_sort 0 (codes "'a")

abbrev static : Tree Depth
static = region static_region

-- a value of the type `usize`
abbrev number : ℕ → Tree Depth
number n = constant (leaf_const n 8) (one usize)

-- types without parts
plain_types : AreWritten (
    (ty bool_type none, codes "bool")
    ∷ (ty char_type none, codes "char")
    ∷ (ty str_type none, codes "str")
    ∷ (ty never_type none, codes "!")
    ∷ (ty (int_type int.I32) none, codes "i32")
    ∷ (ty (int_type int.Isize) none, codes "isize")
    ∷ (ty (uint_type uint.U8) none, codes "u8")
    ∷ (ty (uint_type uint.U128) none, codes "u128")
    ∷ (ty (float_type float.F64) none, codes "f64")
    ∷ (ty (error_type 1) none, codes "{type error}")
    ∷ [])
plain_types = refl

-- variables that represent types: parameters by name, the others by their numbers
type_variables : AreWritten (
    (parameter, codes "T")
    ∷ (bound type_sort (at 2) (record { var = 1; kind = type_variable bound_ty.Anon }), codes "^2.1")
    ∷ (bound type_sort canonical (record { var = 1; kind = type_variable bound_ty.Anon }), codes "^c.1")
    ∷ (ty (placeholder_type (record { universe = 3; bound = record { var = 1; kind = bound_ty.Anon } })) none, codes "!3.1")
    ∷ (ty (infer_type (infer.TyVar 0)) none, codes "?0t")
    ∷ (ty (infer_type (infer.IntVar 10)) none, codes "?10i")
    ∷ (ty (infer_type (infer.FloatVar 2)) none, codes "?2f")
    ∷ (ty (infer_type (infer.FreshTy 0)) none, codes "FreshTy(0)")
    ∷ (ty (infer_type (infer.FreshIntTy 1)) none, codes "FreshIntTy(1)")
    ∷ (ty (infer_type (infer.FreshFloatTy 2)) none, codes "FreshFloatTy(2)")
    ∷ [])
unfolding digits
type_variables = refl

-- variables by themselves, as their `Display` writes them, and ids
by_themselves : (bytes_eq (vid_text (codes "t") 3) (codes "?3t") && (bytes_eq (region_vid_text 7) (codes "'?7") && bytes_eq (id_text 12) (codes "#12"))) ≡ true
unfolding digits
by_themselves = refl

-- a region bound by the innermost binder
abbrev near : Tree Depth
near = bound region_sort (at 0) (record { var = 0; kind = region_variable anonymous })

-- references with their regions, and raw pointers
pointers : AreWritten (
    (ty (ref_type mutability.«Not») (two near u32), codes "&'^0.0 u32")
    ∷ (ty (ref_type mutability.«Mut») (two static u32), codes "&'static mut u32")
    ∷ (ty (ref_type mutability.«Not») (two lifetime u32), codes "&'a u32")
    ∷ (ty (raw_ptr_type mutability.«Not») (one u32), codes "*const u32")
    ∷ (ty (raw_ptr_type mutability.«Mut») (one u32), codes "*mut u32")
    ∷ [])
unfolding digits
pointers = refl

-- slices, arrays with their lengths, and tuples, of which one of a single type has a comma
lists : AreWritten (
    (ty slice_type (one parameter), codes "[T]")
    ∷ (ty array_type (two u32 (number 4)), codes "[u32; 4:8_usize]")
    ∷ (ty tuple_type (one (types none)), codes "()")
    ∷ (ty tuple_type (one (types (one parameter))), codes "(T,)")
    ∷ (ty tuple_type (one (types (two u32 parameter))), codes "(u32, T)")
    ∷ (ty tuple_type (one (types (three parameter u32 parameter))), codes "(T, u32, T)")
    ∷ [])
unfolding digits
lists = refl

-- what a function is besides its types
abbrev made : ExternAbi → Safety → Bool → FnSigKind
made convention safety variadic = packed convention safety variadic None

-- a function pointer of these types, under a binder of these variables
abbrev pointer : List (VarKind Name) → FnSigKind → Forest Depth → Tree Depth
pointer vs kind ts = ty (fn_ptr_type (record { fn_sig_kind = kind })) (one (binder vs (value_of fn_sig_tys_record (one (types ts)))))

-- pointers to functions: their conventions, their safety, splatted and variadic arguments
functions : AreWritten (
    (pointer [] (made abi.Rust Safe false) (two parameter (ty tuple_type (one (types (two u32 parameter))))), codes "fn(T) -> (u32, T)")
    ∷ (pointer [] (made abi.Rust Safe false) (three parameter u32 never), codes "fn(T, u32) -> !")
    ∷ (pointer [] (packed (abi.C false) Unsafe false (Some 0)) (two parameter u32), codes "unsafe extern \"C\" splat(0) fn(T) -> u32")
    ∷ (pointer [] (packed abi.Rust Safe false (Some 65534)) (two parameter u32), codes "splat(65534) fn(T) -> u32")
    ∷ (pointer [] (made (abi.C false) Unsafe true) (one never), codes "unsafe extern \"C\" fn(...) -> !")
    ∷ (pointer [] (made (abi.C false) Unsafe true) (two parameter never), codes "unsafe extern \"C\" fn(T, ...) -> !")
    ∷ (pointer [] (made (abi.System true) Safe false) (two never never), codes "extern \"system-unwind\" fn(!) -> !")
    ∷ [])
unfolding digits
functions = refl

-- pointers that differ in the splatted argument alone
splatted_apart : AreToldApart (pointer [] (made abi.Rust Safe false) (one u32)) (pointer [] (packed abi.Rust Safe false (Some 0)) (one u32))
unfolding digits
splatted_apart = refl

-- the function pointer from `u32` to `usize`, under a binder of these variables
abbrev quantified : List (VarKind Name) → Tree Depth
quantified vs = pointer vs (made abi.Rust Safe false) (two u32 usize)

-- the variables of binders: each by its index, with its name where it has one
variables : AreWritten (
    (quantified [], codes "fn(u32) -> usize")
    ∷ (quantified (region_variable anonymous ∷ type_variable bound_ty.Anon ∷ const_variable ∷ []), codes "for<'^0, ^1, ^2c> fn(u32) -> usize")
    ∷ (quantified (region_variable (printed (codes "'b")) ∷ []), codes "for<'^0 'b> fn(u32) -> usize")
    ∷ (quantified (region_variable environment ∷ []), codes "for<'^0 '{env}> fn(u32) -> usize")
    ∷ (quantified (type_variable (bound_ty.Param (record { number = 0 })) ∷ region_variable (named 3) ∷ []), codes "for<^0 Vec, '^1 Item> fn(u32) -> usize")
    ∷ (binder (region_variable anonymous ∷ []) parameter, codes "for<'^0> T")
    ∷ [])
unfolding digits
variables = refl

-- binders of a type and of a constant
variables_apart : AreToldApart (quantified (type_variable bound_ty.Anon ∷ [])) (quantified (const_variable ∷ []))
unfolding digits
variables_apart = refl

-- data types, functions and aliases by name with their arguments; closures and coroutines in braces
items : AreWritten (
    (ty (adt_type 0) (one (args none)), codes "Vec")
    ∷ (ty (fn_def_type 0) (one (args (one parameter))), codes "Vec<T>")
    ∷ (ty (adt_type 0) (one (args (two parameter lifetime))), codes "Vec<T, 'a>")
    ∷ (ty (foreign_type 0) none, codes "Vec")
    ∷ (ty (closure_type 3) (one (args none)), codes "{closure Item}")
    ∷ (ty (closure_type 0) (one (args (two parameter lifetime))), codes "{closure Vec<T, 'a>}")
    ∷ (ty (coroutine_closure_type 3) (one (args none)), codes "{coroutine closure Item}")
    ∷ (ty (coroutine_type 3) (one (args none)), codes "{coroutine Item}")
    ∷ (ty (coroutine_witness_type 3) (one (args (two parameter lifetime))), codes "{coroutine witness Item<T, 'a>}")
    ∷ (ty (alias_type (alias.Projection (id_of 2))) (one (args (one parameter))), codes "Iterator::Item<T>")
    ∷ (ty (alias_type (alias.Opaque (id_of 3))) (one (args (one parameter))), codes "Item<T>")
    ∷ [])
items = refl

-- constants other than values
constants : AreWritten (
    (param const_sort 0 (codes "N"), codes "N")
    ∷ (constant (infer_const (infer_constant.Var 5)) none, codes "?5c")
    ∷ (constant (infer_const (infer_constant.Fresh 6)) none, codes "Fresh(6)")
    ∷ (bound const_sort (at 0) (record { var = 1; kind = const_variable }), codes "^0.1c")
    ∷ (bound const_sort canonical (record { var = 1; kind = const_variable }), codes "^c.1c")
    ∷ (constant (placeholder_const (record { universe = 3; bound = record { var = 1 } })) none, codes "!3.1c")
    ∷ (constant (error_const 1) none, codes "{const error}")
    ∷ (constant (unevaluated_const 3) (one (args (two u32 (number 4)))), codes "Item<u32, 4:8_usize>")
    ∷ (constant (expr_const 2) (one (args (two u32 (number 4)))), codes "{expr 2<u32, 4:8_usize>}")
    ∷ [])
unfolding digits
constants = refl

-- a canonical type and a canonical constant
bound_apart : AreToldApart (bound type_sort canonical (record { var = 1; kind = type_variable bound_ty.Anon })) (bound const_sort canonical (record { var = 1; kind = const_variable }))
unfolding digits
bound_apart = refl

-- placeholders of a type and of a constant
placeholders_apart : AreToldApart
    (ty (placeholder_type (record { universe = 3; bound = record { var = 1; kind = bound_ty.Anon } })) none)
    (constant (placeholder_const (record { universe = 3; bound = record { var = 1 } })) none)
unfolding digits
placeholders_apart = refl

-- a value of the type, made of these values
abbrev branch : Tree Depth → Forest Depth → Tree Depth
branch t cs = constant branch_const (two t (node (list_label ConstLists) cs))

-- values: their bits, their size and their type; or their type and their parts
values : AreWritten (
    (constant (leaf_const 1 1) (one (ty bool_type none)), codes "1:1_bool")
    ∷ (constant (leaf_const 340282366920938463463374607431768211455 16) (one (ty bool_type none)), codes "340282366920938463463374607431768211455:16_bool")
    ∷ (branch u32 (two (number 4) (number 50)), codes "u32(4:8_usize, 50:8_usize)")
    ∷ (branch u32 none, codes "u32()")
    ∷ [])
unfolding digits
values = refl

-- leaves that differ in their size alone
leaves_apart : AreToldApart (constant (leaf_const 4 8) (one usize)) (constant (leaf_const 4 16) (one usize))
unfolding digits
leaves_apart = refl

abbrev not_null : Tree Depth
not_null = term (pattern_label not_null_pattern) none

-- the pattern of two alternatives
abbrev either : Tree Depth → Tree Depth → Tree Depth
either p q = term (pattern_label or_pattern) (one (node (list_label PatternLists) (two p q)))

-- patterns: all but null, ranges, and alternatives in parentheses
patterns : AreWritten (
    (not_null, codes "!null")
    ∷ (term (pattern_label range_pattern) (two (number 1) (number 9)), codes "1:8_usize..=9:8_usize")
    ∷ (either not_null (either not_null not_null), codes "(!null | (!null | !null))")
    ∷ [])
unfolding digits
patterns = refl

-- alternatives in the second place, and in the first
alternatives_apart : AreToldApart (either not_null (either not_null not_null)) (either (either not_null not_null) not_null)
alternatives_apart = refl

-- a shared reference for the static region
abbrev reference : Tree Depth → Tree Depth
reference t = ty (ref_type mutability.«Not») (two static t)

-- the type restricted to the pattern
abbrev restricted : Tree Depth → Tree Depth → Tree Depth
restricted t p = ty pat_type (two t p)

-- types restricted to a pattern, and types under a binder
restricted_types : AreWritten (
    (reference (restricted u32 not_null), codes "&'static pattern_type!(u32 is !null)")
    ∷ (restricted (reference u32) not_null, codes "pattern_type!(&'static u32 is !null)")
    ∷ (ty unsafe_binder_type (one (binder (region_variable anonymous ∷ []) (value_of unsafe_binder_record (one u32)))), codes "for<'^0> unsafe binder u32")
    ∷ [])
unfolding digits
restricted_types = refl

-- a restricted type behind a reference, and a restricted reference
restricted_apart : AreToldApart (reference (restricted u32 not_null)) (restricted (reference u32) not_null)
restricted_apart = refl

-- each kind of region: by its name, its number or its index
regions : AreWritten (
    (static, codes "'static")
    ∷ (region erased_region, codes "'{erased}")
    ∷ (region (region_var 4), codes "'?4")
    ∷ (region (error_region 1), codes "'{region error}")
    ∷ (region (placeholder_region 3 1 anonymous), codes "'!3.1")
    ∷ (bound region_sort canonical (record { var = 1; kind = region_variable anonymous }), codes "'^c.1")
    ∷ (region (late_param_region 8 anonymous), codes "'_")
    ∷ (region (late_param_region 8 (named 3)), codes "Item")
    ∷ (region (late_param_region 8 (printed (codes "'b"))), codes "'b")
    ∷ (region (late_param_region 8 environment), codes "'{env}")
    ∷ [])
unfolding digits
regions = refl

-- the erased region, and a parameter of that name
erased_apart : AreToldApart (region erased_region) (param region_sort 0 (codes "'erased"))
erased_apart = refl

-- an existential predicate under a binder of these variables
abbrev existential : List (VarKind Name) → RecordLabel Name → Forest Depth → Tree Depth
existential vs l ts = term existential_label (one (binder vs (value_of l ts)))

-- a trait object of these predicates
abbrev object : Forest Depth → Tree Depth
object ps = ty dynamic_type (two (node (list_label ExistentialLists) ps) static)

-- trait objects: their predicates, with their binders, and their region
trait_objects : AreWritten ((
  object (two
      (existential [] (existential_trait_record 1) (one (args (one u32))))
      (existential (region_variable anonymous ∷ []) (existential_projection_record 2) (two (args (one u32)) parameter))),
  codes "dyn Iterator<u32> + for<'^0> Iterator::Item<u32> = T + 'static",
)
    ∷ (object (one (existential [] (auto_trait_record 1) none)), codes "dyn Iterator + 'static")
    ∷ (object none, codes "dyn 'static")
    ∷ [])
unfolding digits
trait_objects = refl

-- a predicate, under a binder without variables
abbrev predicate : RecordLabel Name → Forest Depth → Tree Depth
predicate l ts = term predicate_label (one (binder [] (value_of l ts)))

-- each kind of clause, with its parts
clauses : AreWritten (
    (predicate (trait_record 1) (one (args (one parameter))), codes "T: Iterator")
    ∷ (predicate (trait_record 0) (one (args (two u32 lifetime))), codes "u32: Vec<'a>")
    ∷ (predicate (trait_record 0) (one (args (three (reference u32) parameter (number 4)))), codes "&'static u32: Vec<T, 4:8_usize>")
    ∷ (predicate (trait_record 1) (one (args none)), codes ": Iterator")
    ∷ (predicate (host_effect_record 1 constness.Const) (one (args (one parameter))), codes "T: const Iterator")
    ∷ (predicate (host_effect_record 1 constness.Maybe) (one (args (two parameter u32))), codes "T: [const] Iterator<u32>")
    ∷ (predicate (projection_record 2) (two (args (one parameter)) (number 1)), codes "Iterator::Item<T> == 1:8_usize")
    ∷ (predicate (projection_record 2) (two (args none) u32), codes "Iterator::Item == u32")
    ∷ (predicate region_outlives_record (two lifetime static), codes "'a: 'static")
    ∷ (predicate type_outlives_record (two parameter static), codes "T: 'static")
    ∷ (predicate const_has_type_record (two (number 1) parameter), codes "ConstArgHasType(1:8_usize, T)")
    ∷ (predicate well_formed_record (one (number 1)), codes "WellFormed(1:8_usize)")
    ∷ (predicate const_evaluatable_record (one (number 1)), codes "ConstEvaluatable(1:8_usize)")
    ∷ (predicate (unstable_feature_record (codes "try_trait")) none, codes "UnstableFeature(try_trait)")
    ∷ [])
unfolding digits
clauses = refl

-- each kind of predicate that is no clause, with its parts
predicates : AreWritten (
    (predicate (dyn_compatible_record 1) none, codes "DynCompatible(Iterator)")
    ∷ (predicate (subtype_record true) (two parameter u32), codes "SubtypePredicate(a_is_expected: true, T, u32)")
    ∷ (predicate coerce_record (two parameter u32), codes "CoercePredicate(T, u32)")
    ∷ (predicate const_equate_record (two (number 1) (number 2)), codes "ConstEquate(1:8_usize, 2:8_usize)")
    ∷ (predicate ambiguous_record none, codes "Ambiguous")
    ∷ (predicate (normalizes_to_record 2) (two (args none) parameter), codes "NormalizesTo(Iterator::Item, T)")
    ∷ (predicate (alias_relate_record direction.Equate) (two parameter u32), codes "AliasRelate(T, Equate, u32)")
    ∷ (predicate (alias_relate_record direction.Subtype) (two u32 parameter), codes "AliasRelate(u32, Subtype, T)")
    ∷ [])
unfolding digits
predicates = refl

-- which of two types is the expected one
expected_apart : AreToldApart (predicate (subtype_record true) (two u32 usize)) (predicate (subtype_record false) (two u32 usize))
expected_apart = refl

-- lists and records that no other term holds
by_itself : AreWritten (
    (types (two parameter u32), codes "[T, u32]")
    ∷ (types none, codes "[]")
    ∷ (value_of (trait_ref_record 1) (one (args (one parameter))), codes "Iterator<T>")
    ∷ (binder (region_variable anonymous ∷ []) (value_of (trait_ref_record 1) (one (args (one parameter)))), codes "for<'^0> Iterator<T>")
    ∷ (binder (region_variable anonymous ∷ []) (value_of (trait_record 1) (one (args (one parameter)))), codes "for<'^0> T: Iterator")
    ∷ (value_of outlives_record (two parameter static), codes "T: 'static")
    ∷ (value_of (alias_term_record 2) (one (args (one parameter))), codes "Iterator::Item<T>")
    ∷ (value_of (alias_ty_record (alias.Projection (id_of 2))) (one (args (one parameter))), codes "Iterator::Item<T>")
    ∷ (value_of (fn_sig_record (made abi.Rust Unsafe false)) (one (types (two parameter u32))), codes "unsafe fn(T) -> u32")
    ∷ (
      value_of param_env_record (one (term clause_list_label (two (predicate (trait_record 1) (one (args (one parameter)))) (predicate ambiguous_record none)))),
      codes "ParamEnv([T: Iterator, Ambiguous])",
    )
    ∷ [])
unfolding digits
by_itself = refl

-- kinds that aren't stored: each has the text of the stored term
kinds : AreWritten (
    (value_of (bare_param_record type_sort 0 (codes "T")) none, codes "T")
    ∷ (value_of (bare_bound_record region_sort (Some 2) (record { var = 1; kind = region_variable anonymous })) none, codes "'^2.1")
    ∷ (value_of (bare_bound_record const_sort None (record { var = 1; kind = const_variable })) none, codes "^c.1c")
    ∷ (value_of (bare_type_record tuple_type) (one (types (one parameter))), codes "(T,)")
    ∷ (value_of (bare_type_record (error_type 1)) (one (node (error_label 1) none)), codes "{type error}")
    ∷ (value_of (bare_const_record (leaf_const 4 8)) (one usize), codes "4:8_usize")
    ∷ (value_of (bare_pattern_record range_pattern) (two (number 1) (number 9)), codes "1:8_usize..=9:8_usize")
    ∷ [])
unfolding digits
kinds = refl
