-- Trees of types, whatever the interner builds, and the trees of what it builds.
use Rattle.std.proofs.lemmas.Option.{slice_get-map}
use Rattle.tt_kinds.specs.declared.table.Table.TheVariants.{ArgLists, Types, TypeLists}
use Rattle.tt_interner.specs.Reads.{Reads}
use Rattle.std.proofs.Common.{◌≡◌, refl, ℕ, List, [], ◌∷◌, Result, Ok, Err, Some, ap, ◌∙◌}
use Rattle.std.specs.Prelude.{IfOk, MatchResult, map, option_map, slice_get}
use Rattle.tt_index.specs.declared.refusal.Refusal.{Refusal}
use Rattle.tt_index.specs.declared.numeric.IntTy.{IntTy}
use Rattle.tt_kinds.specs.Label.{adt_type, fn_def_type, int_type, bool_type, char_type, str_type, list_label}
use Rattle.tt_kinds.specs.Label.{type_label, type_sort}
use Rattle.tt_index.specs.declared.qualifier.Mutability.TheVariants.{Not}
use Rattle.tt_kinds.specs.Handle.{GenericArgs, Symbol, Ty, Tys}
use Rattle.tt_kinds.specs.Kinds.{arg_shape, args_shape, region_shape, ty_shape}
use Rattle.tt_kinds.specs.Shape.{fill, fill_all, item_shapes, Meaning, text_of}
use Rattle.tt_kinds.specs.Tree.{Depth, Tree, also, node, none, param, term}
use Rattle.tt_kinds.specs.declared.generic_arg.GenericArgKind.{GenericArgKind}
use Rattle.tt_kinds.specs.declared.generic_arg.GenericArgKind.TheVariants as arg
use Rattle.tt_kinds.specs.declared.region_kind.RegionKind.{RegionKind}
use Rattle.tt_kinds.specs.declared.region_kind.RegionKind.TheVariants.{ReErased}
use Rattle.tt_kinds.specs.declared.ty_kind.TyKind.TheVariants as kind
use Rattle.tt_interner.specs.Chained.{BuildsOf}
use Rattle.tt_interner.specs.Owned.{AreOwned, IsOwned}
use Rattle.tt_interner.specs.Rows.{args_row, meaning, text_row, type_row, tys_row}
use Rattle.tt_interner.specs.Stored.{Terms, Extends, Builds}
use Rattle.tt_interner.proofs.Growth.{fill-grows}
use Rattle.checker.specs.TypeTrees.{arguments_of, data_type_of, function_of, in_order, parameter_of, reference_by}
use Rattle.checker.specs.TypeTrees.{reference_to, simple, tuple_of}
use Rattle.checker.specs.Items.{AdtId, FunctionId}
use Rattle.checker.specs.Typing.{IsItemOf}
use Rattle.checker.specs.Scope.{trees}

-- the tree of a type stays, whatever the interner builds
pub tree_stays : (old new : Terms) (ty : Ty) → Extends old new → IsOwned ty_shape old ty
    → fill (meaning new.rows) (ty_shape ty) ≡ fill (meaning old.rows) (ty_shape ty)
tree_stays old new ty extends owned = fill-grows old.rows new.rows extends.rows (ty_shape ty) owned

-- so do those of types
pub trees_stay : (old new : Terms) (types : List Ty) → Extends old new → AreOwned ty_shape old types
    → trees new.rows types ≡ trees old.rows types
trees_stay old new [] extends owned = refl
trees_stay old new (ty ∷ types) extends owned =
    let first = tree_stays old new ty extends owned.0 in
    let rest = trees_stay old new types extends owned.1 in
    cc

-- the trees of items are those of the types
pub items_in_order : (m : Meaning) (types : List Ty) → fill_all m (item_shapes ty_shape types) ≡ in_order (map (λ ty. fill m (ty_shape ty)) types)
unfolding fill
items_in_order m [] = refl
items_in_order m (ty ∷ types) = let rest = items_in_order m types in cc

-- the tuple that is built of a list that was built is the tuple of the list's types
tuple_next : (old between new : Terms) (items : List Ty) (built : Result Tys Refusal) (result : Result Ty Refusal)
    → Builds built (λ list. list.number) old between (tys_row items)
    → MatchResult built (λ list. Builds result (λ ty. ty.number) between new (type_row (kind.Tuple list)))
    (λ e. (result ≡ Err e) × (new ≡ between))
    → IfOk result (λ ty. fill (meaning new.rows) (ty_shape ty) ≡ tuple_of (trees old.rows items))
unfolding fill
tuple_next old between new items built (Err e) first next = tt
tuple_next old between new items (Ok list) (Ok ty) first next =
    let listed = first.means in
    let in_list = items_in_order (meaning old.rows) items in
    let whole = next.means in
    cc
tuple_next old between new items (Err e) (Ok ty) first next = let never = next.0 in absurd (cc)

-- the tuple that is built is the tuple of its items' types
pub tuple_built : (old new : Terms) (items : List Ty) (result : Result Ty Refusal)
    → BuildsOf (λ list. list.number) (tys_row items) (λ list. type_row (kind.Tuple list)) result old new
    → IfOk result (λ ty. fill (meaning new.rows) (ty_shape ty) ≡ tuple_of (trees old.rows items))
tuple_built old new items result b = tuple_next old b.between new items b.built result b.first b.next

-- the reference that is built refers to the type
pub reference_built : (old new : Terms) (referent : Ty) (result : Result Ty Refusal)
    → Builds result (λ ty. ty.number) old new (type_row (kind.Ref ReErased referent Not))
    → IfOk result (λ ty. fill (meaning new.rows) (ty_shape ty) ≡ reference_to (fill (meaning old.rows) (ty_shape referent)))
unfolding fill
reference_built old new referent (Err e) b = tt
reference_built old new referent (Ok ty) b = b.means

-- the tree of a type at a place
pub tree_at : (terms : Terms) (types : List Ty) (n : ℕ) (ty : Ty) → slice_get types n ≡ Some ty
    → slice_get (trees terms.rows types) n ≡ Some (fill (meaning terms.rows) (ty_shape ty))
tree_at terms types n ty at =
    let tree = λ (t : Ty). fill (meaning terms.rows) (ty_shape t) in
    slice_get-map tree types n ∙ ap (option_map tree) at

-- the item of a tuple is the item of its tree
pub item_found : (terms : Terms) (ty : Ty) (list : Tys) (items : List Ty) (k : ℕ) (found : Ty)
    → Reads terms.rows Types ty.number (type_row (kind.Tuple list)) → Reads terms.rows TypeLists list.number (tys_row items)
    → slice_get items k ≡ Some found
    → IsItemOf k (fill (meaning terms.rows) (ty_shape ty)) (fill (meaning terms.rows) (ty_shape found))
unfolding fill
item_found terms ty list items k found whole listed at =
    let w = whole.means in
    let l = listed.means in
    let in_list = items_in_order (meaning terms.rows) items in
    (trees terms.rows items, cc, tree_at terms items k found at)

-- a reference's tree
pub reference_read : (terms : Terms) (ty referent : Ty) (r : RegionKind)
    → Reads terms.rows Types ty.number (type_row (kind.Ref r referent Not))
    → fill (meaning terms.rows) (ty_shape ty)
    ≡ reference_by (fill (meaning terms.rows) (region_shape r)) (fill (meaning terms.rows) (ty_shape referent))
unfolding fill
reference_read terms ty referent r reads = reads.means

-- the type `i32` that is built, and each of integers
pub int_built : (i : IntTy) (old new : Terms) (result : Result Ty Refusal) → Builds result (λ ty. ty.number) old new (type_row (kind.Int i))
    → IfOk result (λ ty. fill (meaning new.rows) (ty_shape ty) ≡ simple (int_type i))
unfolding fill
int_built i old new (Err e) b = tt
int_built i old new (Ok ty) b = b.means

-- the type `bool` that is built
pub bool_built : (old new : Terms) (result : Result Ty Refusal) → Builds result (λ ty. ty.number) old new (type_row kind.Bool)
    → IfOk result (λ ty. fill (meaning new.rows) (ty_shape ty) ≡ simple bool_type)
unfolding fill
bool_built old new (Err e) b = tt
bool_built old new (Ok ty) b = b.means

-- the type `char` that is built
pub char_built : (old new : Terms) (result : Result Ty Refusal) → Builds result (λ ty. ty.number) old new (type_row kind.Char)
    → IfOk result (λ ty. fill (meaning new.rows) (ty_shape ty) ≡ simple char_type)
unfolding fill
char_built old new (Err e) b = tt
char_built old new (Ok ty) b = b.means

-- the type `str` that is built
pub str_built : (old new : Terms) (result : Result Ty Refusal) → Builds result (λ ty. ty.number) old new (type_row kind.Str)
    → IfOk result (λ ty. fill (meaning new.rows) (ty_shape ty) ≡ simple str_type)
unfolding fill
str_built old new (Err e) b = tt
str_built old new (Ok ty) b = b.means

-- the parameter that is built of a name that was built has the name
param_next : (index : ℕ) (name : List ℕ) (old between new : Terms) (built : Result Symbol Refusal) (result : Result Ty Refusal)
    → Builds built (λ s. s.number) old between (text_row name)
    → MatchResult built
    (λ s. Builds result (λ ty. ty.number) between new (type_row (kind.Param (record { index = index; name = s }))))
    (λ e. (result ≡ Err e) × (new ≡ between))
    → IfOk result (λ ty. fill (meaning new.rows) (ty_shape ty) ≡ parameter_of index name)
unfolding fill
param_next index name old between new built (Err e) first next = tt
param_next index name old between new (Ok s) (Ok ty) first next =
    next.means ∙ ap (λ (t : Tree Depth). param type_sort index (text_of t)) first.means
param_next index name old between new (Err e) (Ok ty) first next = let never = next.0 in absurd (cc)

-- the type parameter that is built
pub param_built : (index : ℕ) (name : List ℕ) (old new : Terms) (result : Result Ty Refusal)
    → BuildsOf (λ s. s.number) (text_row name) (λ s. type_row (kind.Param (record { index = index; name = s }))) result old new
    → IfOk result (λ ty. fill (meaning new.rows) (ty_shape ty) ≡ parameter_of index name)
param_built index name old new result b = param_next index name old b.between new b.built result b.first b.next

-- the trees of types as arguments are those of the types
arguments_in_order : (m : Meaning) (types : List Ty)
    → fill_all m (item_shapes arg_shape (map (λ ty. arg.«Type» ty) types)) ≡ in_order (map (λ ty. fill m (ty_shape ty)) types)
unfolding fill
arguments_in_order m [] = refl
arguments_in_order m (ty ∷ types) = let rest = arguments_in_order m types in cc

-- the list of type arguments that is built
pub arguments_built : (old new : Terms) (types : List Ty) (args : List GenericArgKind) (result : Result GenericArgs Refusal)
    → args ≡ map (λ ty. arg.«Type» ty) types → Builds result (λ list. list.number) old new (args_row args)
    → IfOk result (λ list. fill (meaning new.rows) (args_shape list) ≡ arguments_of (trees old.rows types))
unfolding fill
arguments_built old new types args (Err e) same b = tt
arguments_built old new types args (Ok list) same b =
    let items = ap (λ xs. fill_all (meaning old.rows) (item_shapes arg_shape xs)) same ∙ arguments_in_order (meaning old.rows) types in
    b.means ∙ ap (node (list_label ArgLists)) items

-- types as arguments are the interner's
pub arguments_owned : (terms : Terms) (types : List Ty) → AreOwned ty_shape terms types
    → AreOwned arg_shape terms (map (λ ty. arg.«Type» ty) types)
arguments_owned terms [] owned = tt
arguments_owned terms (ty ∷ types) owned = (owned.0, arguments_owned terms types owned.1)

-- the data type that is built of arguments
pub data_type_built : (old new : Terms) (id : AdtId) (list : GenericArgs) (ts : List (Tree Depth)) (result : Result Ty Refusal)
    → fill (meaning old.rows) (args_shape list) ≡ arguments_of ts
    → Builds result (λ ty. ty.number) old new (type_row (kind.Adt id list))
    → IfOk result (λ ty. fill (meaning new.rows) (ty_shape ty) ≡ data_type_of id.number ts)
unfolding fill
data_type_built old new id list ts (Err e) is b = tt
data_type_built old new id list ts (Ok ty) is b =
    b.means ∙ ap (λ (t : Tree Depth). term (type_label (adt_type id.number)) (also t none)) is

-- the function's type that is built of arguments
pub function_built : (old new : Terms) (id : FunctionId) (list : GenericArgs) (ts : List (Tree Depth)) (result : Result Ty Refusal)
    → fill (meaning old.rows) (args_shape list) ≡ arguments_of ts
    → Builds result (λ ty. ty.number) old new (type_row (kind.FnDef id list))
    → IfOk result (λ ty. fill (meaning new.rows) (ty_shape ty) ≡ function_of id.number ts)
unfolding fill
function_built old new id list ts (Err e) is b = tt
function_built old new id list ts (Ok ty) is b =
    b.means ∙ ap (λ (t : Tree Depth). term (type_label (fn_def_type id.number)) (also t none)) is
