-- The types of the language, as trees.
use Rattle.std.specs.Prelude.{ℕ, List, [], ◌∷◌}
use Rattle.tt_index.specs.declared.qualifier.Mutability.TheVariants.{Not}
use Rattle.tt_kinds.specs.Label.{Name, TypeLabel, adt_type, erased_region, fn_def_type, list_label, ref_type}
use Rattle.tt_kinds.specs.Label.{tuple_type, type_label, type_sort}
use Rattle.tt_kinds.specs.Tree.{Depth, Tree, Forest, param, term, node, region, none, also}
use Rattle.tt_kinds.specs.declared.table.Table.TheVariants.{ArgLists, TypeLists}

-- a type without parts
abbrev pub simple : TypeLabel → Tree Depth
simple l = term (type_label l) none

-- trees, as children in order
abbrev pub in_order : List (Tree Depth) → Forest Depth
in_order [] = none
in_order (t ∷ ts) = also t (in_order ts)

-- the list of these type arguments
abbrev pub arguments_of : List (Tree Depth) → Tree Depth
arguments_of ts = node (list_label ArgLists) (in_order ts)

-- the type parameter of this index and name
abbrev pub parameter_of : ℕ → Name → Tree Depth
parameter_of index name = param type_sort index name

-- the data type of this id at these types
abbrev pub data_type_of : ℕ → List (Tree Depth) → Tree Depth
data_type_of id ts = term (type_label (adt_type id)) (also (arguments_of ts) none)

-- the type of the function of this id at these types
abbrev pub function_of : ℕ → List (Tree Depth) → Tree Depth
function_of id ts = term (type_label (fn_def_type id)) (also (arguments_of ts) none)

-- the list of these types
abbrev pub list_of : List (Tree Depth) → Tree Depth
list_of ts = node (list_label TypeLists) (in_order ts)

-- the tuple of these types
abbrev pub tuple_of : List (Tree Depth) → Tree Depth
tuple_of ts = term (type_label tuple_type) (also (list_of ts) none)

-- the reference to this type, with this region
abbrev pub reference_by : Tree Depth → Tree Depth → Tree Depth
reference_by r t = term (type_label (ref_type Not)) (also r (also t none))

-- the reference to this type, with the erased region
abbrev pub reference_to : Tree Depth → Tree Depth
reference_to t = reference_by (region erased_region) t
