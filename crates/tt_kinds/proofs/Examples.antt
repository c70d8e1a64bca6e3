-- Small terms, and what the definitions say of them.
use Rattle.std.proofs.Common.{inl, inr, ◌≡◌, ℕ, ◌+◌, List, [], ◌∷◌, true, refl, arith}
use Rattle.tt_index.specs.Abi.{abi_number}
use Rattle.tt_index.specs.declared.abi.ExternAbi.TheVariants.{C}
use Rattle.tt_index.specs.declared.qualifier.Safety.TheVariants.{Safe}
use Rattle.tt_kinds.specs.FnSig.{safety_bits, variadic_bits}
use Rattle.tt_kinds.specs.Handle.{handle}
use Rattle.tt_kinds.specs.Id.{id_of}
use Rattle.tt_index.specs.declared.numeric.IntTy.TheVariants as int
use Rattle.tt_index.specs.declared.numeric.UintTy.TheVariants as uint
use Rattle.tt_index.specs.declared.qualifier.Mutability.TheVariants as mutability
use Rattle.tt_index.specs.declared.refusal.Refusal.TheVariants.{NoArguments, ArgOutOfRange, ArgKind, RegionVariable}
use Rattle.tt_kinds.specs.declared.bound.BoundTyKind.TheVariants as bound_ty
use Rattle.tt_kinds.specs.declared.alias.AliasTyKind.TheVariants as alias
use Rattle.tt_kinds.specs.declared.const_kind.InferConst.TheVariants.{Var}
use Rattle.tt_kinds.specs.declared.table.Table.TheVariants.{TypeLists, ArgLists, ExistentialLists}
use Rattle.tt_kinds.specs.Label.{Name, region_sort, type_sort, const_sort, anonymous, VarKind, region_variable}
use Rattle.tt_kinds.specs.Label.{type_variable, Entry, static_region, erased_region, region_var, TypeLabel, char_type}
use Rattle.tt_kinds.specs.Label.{int_type, uint_type, ref_type, tuple_type, fn_ptr_type, adt_type, array_type, pat_type}
use Rattle.tt_kinds.specs.Label.{dynamic_type, coroutine_type, coroutine_witness_type, unsafe_binder_type, alias_type}
use Rattle.tt_kinds.specs.Label.{ConstLabel, infer_const, unevaluated_const, leaf_const, range_pattern}
use Rattle.tt_kinds.specs.Label.{not_null_pattern, RecordLabel, fn_sig_tys_record, unsafe_binder_record, trait_record}
use Rattle.tt_kinds.specs.Label.{region_outlives_record, type_outlives_record, projection_record, well_formed_record}
use Rattle.tt_kinds.specs.Label.{normalizes_to_record, existential_trait_record, existential_projection_record}
use Rattle.tt_kinds.specs.Label.{auto_trait_record, Label, type_label, const_label, pattern_label, predicate_label}
use Rattle.tt_kinds.specs.Label.{existential_label, clause_list_label, list_label, record_label}
use Rattle.tt_kinds.specs.Tree.{Depth, at, canonical, own, outer, Tree, param, bound, region, term, node, binder}
use Rattle.tt_kinds.specs.Tree.{Forest, none, also}
use Rattle.tt_kinds.specs.Reading.{read, move, outer_binder, Fits}
use Rattle.tt_kinds.specs.Argument.{Argument, put, readings}
use Rattle.tt_kinds.specs.Plain.{shift_tree, inst_tree}
use Rattle.tt_kinds.specs.Matched.{MatchedUnder}
use Rattle.tt_kinds.specs.Met.{met, placed}
use Rattle.tt_kinds.specs.Scan.{scan}
use Rattle.tt_kinds.specs.Shape.{Meaning, all_but_last, span, items_in, fill}
use Rattle.tt_kinds.specs.Bare.{token_shape, bare_ty_shape}
use Rattle.tt_kinds.specs.declared.ty_kind.TyKind.TheVariants as ty
use Rattle.tt_kinds.specs.Cause.{Cause}

-- types without parts
abbrev type_leaf : {I : Type 0} → TypeLabel → Tree I
type_leaf l = term (type_label l) none

abbrev u32 : {I : Type 0} → Tree I
u32 = type_leaf (uint_type uint.U32)

abbrev i32 : {I : Type 0} → Tree I
i32 = type_leaf (int_type int.I32)

abbrev isize : {I : Type 0} → Tree I
isize = type_leaf (int_type int.Isize)

abbrev char : {I : Type 0} → Tree I
char = type_leaf char_type

-- the type parameter of an index, without a name
abbrev parameter : {I : Type 0} → ℕ → Tree I
parameter i = param type_sort i []

-- what an unnamed bound variable of number 0 says of itself
abbrev a_region : Entry Name
a_region = record { var = 0; kind = region_variable anonymous }

abbrev a_type : Entry Name
a_type = record { var = 0; kind = type_variable bound_ty.Anon }

-- the region bound by the binder of this index
abbrev region_at : {I : Type 0} → I → Tree I
region_at d = bound region_sort d a_region

-- a shared reference
abbrev reference : {I : Type 0} → Tree I → Tree I → Tree I
reference r t = term (type_label (ref_type mutability.«Not»)) (also r (also t none))

-- a tuple
abbrev tuple : {I : Type 0} → Forest I → Tree I
tuple ts = term (type_label tuple_type) (also (node (list_label TypeLists) ts) none)

-- one binder over a region
abbrev one_region : List (VarKind Name)
one_region = region_variable anonymous ∷ []

-- a function pointer under a binder of these variables, of these inputs and output
abbrev fn_ptr : {I : Type 0} → List (VarKind Name) → Forest I → Tree I
fn_ptr vs ts = term (type_label (fn_ptr_type (record { fn_sig_kind = record { flags = 0; splat = 65535 } })))
    (also (binder vs (node (record_label fn_sig_tys_record) (also (node (list_label TypeLists) ts) none))) none)

-- `for<'a> fn(&'a u32, &'b u32)`, where 'b is bound at this index
abbrev two_references : Depth → Tree Depth
two_references d = fn_ptr one_region (also (reference (region_at (at 0)) u32) (also (reference (region_at d) u32) (also (tuple none) none)))

-- a reference whose region is bound three binders out has the flag of a bound region, and reaches three binders
far_reference : (scan (reference (region_at (at 2)) u32) ≡ 0x40000) × (outer_binder (reference (region_at (at 2)) u32) ≡ 3)
far_reference = (refl, refl)

-- the pointer's own binder counts among its flags, and its other region reaches one binder further
pointer_flags : (scan (two_references (at 1)) ≡ 0x1040000) × (outer_binder (two_references (at 1)) ≡ 1)
pointer_flags = (refl, refl)

-- a shift moves the region that points outward, and leaves the pointer's own
pointer_shifted : (shift_tree 0 2 (two_references (at 1)) ≡ two_references (at 3)) × (outer_binder (two_references (at 3)) ≡ 3)
pointer_shifted = (refl, refl)

-- in its reading the own region is own, and the other one has the number 0 outside
pointer_read : read 0 (two_references (at 1))
    ≡ fn_ptr one_region (also (reference (region_at (own 0)) u32) (also (reference (region_at (outer 0)) u32) (also (tuple none) none)))
pointer_read = refl

-- moved by two, the reading is that of the shifted pointer
pointer_moved : move 2 (read 0 (two_references (at 1))) ≡ read 0 (two_references (at 3))
pointer_moved = refl

-- the pointer's own region is the variable of its list
pointer_matches : MatchedUnder [] (read 0 (two_references (at 1)))
pointer_matches = ((((refl, (tt, tt)), ((tt, (tt, tt)), ((tt, tt), tt))), tt), tt)

-- the region of number 1 that the innermost binder binds
abbrev second_region : Tree Depth
second_region = bound region_sort (at 0) (record { var = 1; kind = region_variable anonymous })

-- a list of one region has no variable of number 1
second_unmatched : MatchedUnder (one_region ∷ []) (read 1 second_region) → ⊥
second_unmatched h = cc

-- the empty tuple, and a binder over two regions
abbrev unit : Tree Depth
unit = tuple none

abbrev two_regions : List (VarKind Name)
two_regions = region_variable anonymous ∷ one_region

-- a binder whose variable is not used has a flag, and reaches nowhere
unused_flags : (scan (fn_ptr one_region (also unit none)) ≡ 0x1000000) × (outer_binder (fn_ptr one_region (also unit none)) ≡ 0)
unused_flags = (refl, refl)

-- a pointer under a binder of two regions, of which one is used, has the flags of a binder and of a bound region
half_used_flags : scan (fn_ptr two_regions (also (reference (region_at (at 0)) u32) (also unit none))) ≡ 0x1040000
half_used_flags = refl

-- a pointer in a pointer: the inner one's other region is the outer one's own
abbrev inner_pointer : Tree Depth
inner_pointer = fn_ptr one_region
    (also (reference (region_at (at 0)) isize) (also (reference (region_at (at 1)) isize) (also (tuple none) none)))

abbrev nested_pointer : Tree Depth
nested_pointer = fn_ptr one_region (also inner_pointer (also (reference (region_at (at 0)) char) (also (tuple none) none)))

-- a pointer whose second region the binder outside binds reaches one binder out
inner_escapes : (scan inner_pointer ≡ 0x1040000) × (outer_binder inner_pointer ≡ 1)
inner_escapes = (refl, refl)

-- the pointer around such a pointer reaches nowhere
nested_closed : (scan nested_pointer ≡ 0x1040000) × (outer_binder nested_pointer ≡ 0)
nested_closed = (refl, refl)

-- an argument with a region bound outside, put beside a binder and under one
abbrev beside_and_under : Tree Depth → Tree Depth → Tree Depth
beside_and_under t u = tuple (also t (also (fn_ptr [] (also u (also (tuple none) none))) none))

abbrev outward : List (Argument Depth)
outward = record { sort = type_sort; value = reference (region_at (at 0)) i32 } ∷ []

abbrev put_outward : Tree Depth
put_outward = beside_and_under (reference (region_at (at 0)) i32) (reference (region_at (at 1)) i32)

-- an argument beside a binder stays as it is, and under the binder it is shifted
instance_shifted : inst_tree 0 outward (beside_and_under (parameter 0) (parameter 0)) ≡ put_outward
instance_shifted = refl

-- the instance has the flag of a bound region, and reaches one binder out
instance_flags : (scan put_outward ≡ 0x40000) × (outer_binder put_outward ≡ 1)
instance_flags = (refl, refl)

-- in the reading the argument is the same at both places
instance_read : read 0 put_outward ≡ put (readings outward) (read 0 (beside_and_under (parameter 0) (parameter 0)))
instance_read = refl

-- a type as an argument, and the pair of two types
abbrev type_arg : Tree Depth → Argument Depth
type_arg t = record { sort = type_sort; value = t }

abbrev pair : Tree Depth → Tree Depth → Tree Depth
pair t u = tuple (also t (also u none))

-- `(T, U)` at `U` and `i32`, and then at `u32` and `char`, is `(char, i32)`
instances_in_turn : inst_tree 0 (type_arg u32 ∷ type_arg char ∷ []) (inst_tree 0 (type_arg (parameter 1) ∷ type_arg i32 ∷ []) (pair (parameter 0) (parameter 1)))
    ≡ pair char i32
instances_in_turn = refl

-- `(T, U)` at the instantiated arguments, `char` and `i32`, is the same
instances_as_one : inst_tree 0 (type_arg char ∷ type_arg i32 ∷ []) (pair (parameter 0) (parameter 1)) ≡ pair char i32
instances_as_one = refl

-- a reference whose region is a canonical variable
abbrev canonical_reference : Tree Depth
canonical_reference = reference (region_at canonical) u32

-- no shift moves a canonical variable
canonical_stays : shift_tree 0 5 canonical_reference ≡ canonical_reference
canonical_stays = refl

-- a canonical variable has a flag of its own, and points to no binder
canonical_flags : (scan canonical_reference ≡ 0x4040000) × (outer_binder canonical_reference ≡ 0)
canonical_flags = (refl, refl)

-- the bound type of the last index, which is one less than the greatest
abbrev last_bound : Tree Depth
last_bound = bound type_sort (at 4294967039) a_type

-- the bound type of the last index reaches as far as the greatest
last_flags : (scan last_bound ≡ 0x80000) × (outer_binder last_bound ≡ 4294967040)
last_flags = (refl, refl)

-- the last index fits
last_fits : Fits (read 0 last_bound)
last_fits = omega arith

-- shifted by one, the last index does not fit
last_shifted : Fits (read 0 (shift_tree 0 1 last_bound)) → ⊥
last_shifted h = omega arith

-- a type under a binder of no variables
abbrev under_a_binder : Tree Depth → Tree Depth
under_a_binder t = fn_ptr [] (also t (also unit none))

-- put under a binder, the index before the last becomes the last
last_put : (inst_tree 0 (type_arg (bound type_sort (at 4294967038) a_type) ∷ []) (under_a_binder (parameter 0)) ≡ under_a_binder last_bound)
    × (scan (under_a_binder last_bound) ≡ 0x80000) × (outer_binder (under_a_binder last_bound) ≡ 4294967039)
last_put = (refl, refl, refl)

-- put under a binder, the last index does not fit
past_put : Fits (read 0 (inst_tree 0 (type_arg last_bound ∷ []) (under_a_binder (parameter 0)))) → ⊥
past_put h = omega arith

-- a parameter and no arguments: refused
no_arguments : Cause (parameter 0) [] NoArguments
no_arguments = (refl, tt)

-- a parameter of index 1 and one argument: refused with the index
too_few : Cause (parameter 1) (type_arg i32 ∷ []) (ArgOutOfRange 1)
too_few = ((λ e. cc), refl, omega arith)

-- a region for a type's parameter: refused with the index
other_sort : Cause (parameter 0) (record { sort = region_sort; value = region static_region } ∷ []) (ArgKind 0)
other_sort = (refl, refl)

-- a region variable beside a parameter in one type
abbrev exposed : Tree Depth
exposed = reference (region (region_var 0)) (parameter 0)

-- a region variable beside a parameter is refused
exposed_variable : Cause exposed (type_arg i32 ∷ []) (RegionVariable 0)
exposed_variable = ((λ e. cc), (inr (inl tt), inl refl))

-- a region variable beside a parameter: its flags are those of both
exposed_flags : (scan exposed ≡ 0x20211) × (outer_binder exposed ≡ 0)
exposed_flags = (refl, refl)

-- a pointer under a binder of one region, of three references with these regions
abbrev three_references : Tree Depth → Tree Depth → Tree Depth → Tree Depth
three_references p q r = fn_ptr one_region
    (also (reference p u32) (also (reference q u32) (also (reference r u32) (also (tuple none) none))))

-- the pointer's own region, one that the binder outside binds, and the static one
abbrev met_pointer : Tree Depth
met_pointer = three_references (region_at (at 0)) (region_at (at 1)) (region static_region)

-- a pointer over its own region, one from outside and the static one has the flags of bound and of free regions and of
-- a binder, and reaches one binder out
met_flags : (scan met_pointer ≡ 0x1060000) × (outer_binder met_pointer ≡ 1)
met_flags = (refl, refl)

-- in a pointer the regions from outside are met, under one binder each, and the pointer's own is not
met_regions : met 0 met_pointer
    ≡ record { standing = region_at (at 1); under = 1 } ∷ record { standing = region static_region; under = 1 } ∷ []
met_regions = refl

-- erased regions in their places, and the pointer's own region in their places
abbrev erased_pointer : Tree Depth
erased_pointer = three_references (region_at (at 0)) (region erased_region) (region erased_region)

-- the regions that are met are erased in their places
regions_erased : placed 0 met_pointer (region erased_region ∷ region erased_region ∷ []) ≡ erased_pointer
regions_erased = refl

-- the pointer with erased regions has their flag beside those of its own region and its binder, and reaches nowhere
erased_flags : (scan erased_pointer ≡ 0x1240000) × (outer_binder erased_pointer ≡ 0)
erased_flags = (refl, refl)

abbrev captured_pointer : Tree Depth
captured_pointer = three_references (region_at (at 0)) (region_at (at 0)) (region_at (at 0))

-- answers that are the pointer's own region are placed as they are, so the pointer binds them
regions_captured : placed 0 met_pointer (region_at (at 0) ∷ region_at (at 0) ∷ []) ≡ captured_pointer
regions_captured = refl

-- a parameter is not met, and stays where an answer is left over
type_parameter_stays : placed 0 (param type_sort 0 []) (region static_region ∷ []) ≡ param type_sort 0 []
type_parameter_stays = refl

-- a binder's own region is not met, and stays
own_region_stays : placed 1 (region_at (at 0)) (region static_region ∷ []) ≡ region_at (at 0)
own_region_stays = refl

-- the pointer whose three regions are its own reaches nowhere
captured_flags : (scan captured_pointer ≡ 0x1040000) × (outer_binder captured_pointer ≡ 0)
captured_flags = (refl, refl)

-- a tree, by its flags and how far it reaches
abbrev Says : Tree Depth → ℕ → ℕ → Type 0
Says t flags reach = (scan t ≡ flags) × (outer_binder t ≡ reach)

-- constants without parts
abbrev const_leaf : {I : Type 0} → ConstLabel → Tree I
const_leaf l = term (const_label l) none

-- a list of arguments
abbrev args : {I : Type 0} → Forest I → Tree I
args ts = node (list_label ArgLists) ts

-- a type, a constant or a record of arguments alone
abbrev of_args : {I : Type 0} → Label Name → Forest I → Tree I
of_args l ts = term l (also (args ts) none)

-- a coroutine of a parameter has its own flag beside the parameter's
coroutine_says : Says (of_args (type_label (coroutine_type 0)) (also (parameter 0) none)) 0x2000001 0
coroutine_says = (refl, refl)

-- a coroutine's witness has no flag of its own
witness_says : Says (of_args (type_label (coroutine_witness_type 0)) (also (parameter 0) none)) 0x1 0
witness_says = (refl, refl)

-- a projection of a parameter has its own flag
projection_says : Says (of_args (type_label (alias_type (alias.Projection (id_of 0)))) (also (parameter 0) none)) 0x401 0
projection_says = (refl, refl)

-- a data type has no flag of its own, and reaches as far as its argument does
adt_says : Says (of_args (type_label (adt_type 0)) (also (parameter 0) (also (region_at (at 4)) none))) 0x40001 5
adt_says = (refl, refl)

-- a type under a binder, whose region the binder outside binds, reaches one binder out
open_binder_says : Says (term (type_label unsafe_binder_type)
    (also (binder one_region (node (record_label unsafe_binder_record) (also (reference (region_at (at 1)) u32) none))) none)) 0x1040000 1
open_binder_says = (refl, refl)

-- `[T; N]` of two parameters
abbrev array : Tree Depth
array = term (type_label array_type) (also (parameter 0) (also (param const_sort 1 []) none))

-- an array of two parameters has the flags of a type's and of a constant's parameter
array_says : Says array 0x5 0
array_says = (refl, refl)

-- a type and a constant take their places in an array
array_put : inst_tree 0 (type_arg u32 ∷ record { sort = const_sort; value = const_leaf (infer_const (Var 6)) } ∷ []) array
    ≡ term (type_label array_type) (also u32 (also (const_leaf (infer_const (Var 6))) none))
array_put = refl

-- a type for the array's length is refused
array_refused : Cause array (type_arg u32 ∷ type_arg u32 ∷ []) (ArgKind 1)
array_refused = inr (inl (refl, refl))

-- `u32` between 1 and a parameter
abbrev ranged : Tree Depth
ranged = term (type_label pat_type) (also u32 (also (term (pattern_label range_pattern)
    (also (term (const_label (leaf_const 1 4)) (also u32 none)) (also (param const_sort 0 []) none))) none))

-- a type between two constants has the flag of the parameter among them
ranged_says : Says ranged 0x4 0
ranged_says = (refl, refl)

-- the pattern of all but null has no flag
not_null_says : Says (term (pattern_label not_null_pattern) none) 0 0
not_null_says = (refl, refl)

-- a predicate: what it says, under a binder of these variables
abbrev predicate : {I : Type 0} → List (VarKind Name) → RecordLabel Name → Forest I → Tree I
predicate vs m ts = term predicate_label (also (binder vs (node (record_label m) ts)) none)

-- `for<'a> 'a: 'b`, where 'b is bound by the binder outside
abbrev outlives : Depth → Tree Depth
outlives d = predicate one_region region_outlives_record (also (region_at (at 0)) (also (region_at d) none))

-- a predicate has the flags of its binder and of its regions, and reaches one binder less than they do
outlives_says : Says (outlives (at 1)) 0x1040000 1
outlives_says = (refl, refl)

-- a shift of a predicate moves the region from outside, and leaves the predicate's own
outlives_shifted : shift_tree 0 2 (outlives (at 1)) ≡ outlives (at 3)
outlives_shifted = refl

-- the alias of a projection predicate adds no flag
projected : Says (predicate [] (projection_record 0) (also (args (also (parameter 0) none)) (also u32 none))) 0x1 0
projected = (refl, refl)

-- an alias that normalizes to a type, under a binder of no variables, has its parameter's flag alone
normalized : Says (predicate [] (normalizes_to_record 0) (also (args (also (parameter 0) none)) (also u32 none))) 0x1 0
normalized = (refl, refl)

-- a well-formed parameter under a binder of one type has the flags of both
well_formed : Says (predicate (type_variable bound_ty.Anon ∷ []) well_formed_record (also (parameter 0) none)) 0x1000001 0
well_formed = (refl, refl)

-- a list of clauses has the flags of all of them, and reaches as far as one does
clauses_say : Says (term clause_list_label (also (outlives (at 1)) (also (predicate [] (trait_record 0) (also (args (also (parameter 0) none)) none)) none))) 0x1040001 1
clauses_say = (refl, refl)

-- an existential predicate under a binder of these variables
abbrev existential : {I : Type 0} → List (VarKind Name) → RecordLabel Name → Forest I → Tree I
existential vs m ts = term existential_label (also (binder vs (node (record_label m) ts)) none)

-- a trait object of two predicates, each under its own binder, with a region that is bound outside
abbrev object : Depth → Tree Depth
object d = term (type_label dynamic_type)
    (also (node (list_label ExistentialLists)
    (also (existential one_region (existential_trait_record 0) (also (args (also (region_at (at 0)) (also (region_at d) none))) none))
    (also (existential [] (auto_trait_record 1) none) none))) (also (region static_region) none))

-- a trait object has the flags of its predicates and of its region, and reaches as far as they do
object_says : Says (object (at 1)) 0x1060000 1
object_says = (refl, refl)

-- a trait object of one projection on a parameter has the parameter's flag, and its region's
projection_object_says : Says (term (type_label dynamic_type) (also (node (list_label ExistentialLists)
    (also (existential [] (existential_projection_record 0) (also (args none) (also (parameter 0) none))) none))
    (also (region erased_region) none))) 0x200001 0
projection_object_says = (refl, refl)

-- in a trait object the region from outside is met, and its last one, and the predicate's own is not
object_met : met 0 (object (at 1)) ≡ record { standing = region_at (at 1); under = 1 } ∷ record { standing = region static_region; under = 0 } ∷ []
object_met = refl

-- that `u32` outlives a region variable
abbrev outlives_variable : Forest Depth
outlives_variable = also u32 (also (region (region_var 0)) none)

-- a region variable in a stored predicate without parameters is hidden
hidden_variable : Cause (predicate [] type_outlives_record outlives_variable) (type_arg i32 ∷ []) (RegionVariable 0) → ⊥
hidden_variable h = elim h.1.0 [ inl x ↦ elim x [ inl a ↦ a | inr y ↦ elim y [ inl b ↦ b | inr c ↦ c ] ] | inr z ↦ z ]

-- a region variable in a stored constant is refused, although there is no parameter
shown_variable : Cause (of_args (const_label (unevaluated_const 0)) (also (region (region_var 0)) none)) (type_arg i32 ∷ []) (RegionVariable 0)
shown_variable = ((λ e. cc), (tt, inl (inl refl)))

-- in a predicate that is not stored a region variable is refused too
bare_variable : Cause (node (record_label type_outlives_record) outlives_variable) (type_arg i32 ∷ []) (RegionVariable 0)
bare_variable = ((λ e. cc), inr (inl refl))

-- a stored array without a parameter hides the region variable of its length
hidden_in_array : Cause (term (type_label array_type) (also u32 (also (of_args (const_label (unevaluated_const 0)) (also (region (region_var 0)) none)) none)))
    (type_arg i32 ∷ []) (RegionVariable 0) → ⊥
hidden_in_array h = elim h.1.0 [ inl x ↦ x | inr y ↦ elim y [ inl z ↦ elim z [ inl a ↦ elim a [ inl b ↦ b | inr c ↦ c ] | inr d ↦ d ] | inr e ↦ e ] ]

-- the token of an error has the flags of both sorts of errors
token_says : (f : Meaning) → Says (fill f (token_shape 3)) 0x18000 0
unfolding fill
token_says f = (refl, refl)

-- an error type that is not stored has the flags of both sorts of errors
bare_error_says : (f : Meaning) → Says (fill f (bare_ty_shape (ty.Error (record { 0 = 3 })))) 0x18000 0
unfolding fill
bare_error_says f = (refl, refl)

-- a parameter that is not stored has no flag
bare_param_says : (f : Meaning) → Says (fill f (bare_ty_shape (ty.Param (record { index = 0; name = handle 0 })))) 0 0
unfolding fill
bare_param_says f = (refl, refl)

-- `i32` and a parameter
abbrev two : Forest Depth
two = also i32 (also (parameter 0) none)

-- a part that reaches beyond its list has the items that are there, and none where it begins beyond it
part_says : (items_in (span 1 7) two ≡ also (parameter 0) none) × (items_in (span 0 1) two ≡ also i32 none) × (items_in (span 5 1) two ≡ none)
part_says = (refl, refl, refl)

-- the inputs are all items but the last, and an empty list has none
inputs_say : (items_in all_but_last two ≡ also i32 none) × (items_in all_but_last none ≡ none)
inputs_say = (refl, refl)

-- the byte of a safe variadic function of C that may unwind is 194
signature_byte : abi_number (C true) + safety_bits Safe + variadic_bits true ≡ 194
signature_byte = refl
