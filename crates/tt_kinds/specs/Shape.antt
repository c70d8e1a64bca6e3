-- Shapes: what a value holds, as a tree with handles in the places of stored terms and numbers in the places of names.
use Rattle.std.specs.Prelude.{ℕ, ◌-◌, ◌<◌, ◌≤◌, ◌≡◌, List, [], ◌∷◌, map, Option, Some, None, ⊤}
use Rattle.tt_index.specs.Greatest.{greatest}
use Rattle.tt_kinds.specs.Label.{Name, Sort, region_sort, type_sort, const_sort, RegionName, anonymous, printed, named}
use Rattle.tt_kinds.specs.Label.{environment, VarKind, region_variable, type_variable, const_variable, Entry}
use Rattle.tt_kinds.specs.Label.{FreeRegion, static_region, erased_region, region_var, error_region, late_param_region}
use Rattle.tt_kinds.specs.Label.{placeholder_region, RecordLabel, fn_sig_tys_record, pair_record, triple_record}
use Rattle.tt_kinds.specs.Label.{absent_record, present_record, sequence_record, unsafe_binder_record, trait_record}
use Rattle.tt_kinds.specs.Label.{host_effect_record, region_outlives_record, type_outlives_record, projection_record}
use Rattle.tt_kinds.specs.Label.{const_has_type_record, well_formed_record, const_evaluatable_record}
use Rattle.tt_kinds.specs.Label.{unstable_feature_record, dyn_compatible_record, subtype_record, coerce_record}
use Rattle.tt_kinds.specs.Label.{const_equate_record, ambiguous_record, normalizes_to_record, alias_relate_record}
use Rattle.tt_kinds.specs.Label.{existential_trait_record, existential_projection_record, auto_trait_record}
use Rattle.tt_kinds.specs.Label.{trait_ref_record, alias_term_record, alias_ty_record, outlives_record}
use Rattle.tt_kinds.specs.Label.{type_and_mut_record, fn_sig_record, param_env_record, witness_types_record}
use Rattle.tt_kinds.specs.Label.{bare_param_record, bare_bound_record, bare_type_record, bare_const_record}
use Rattle.tt_kinds.specs.Label.{bare_pattern_record, Label, type_label, const_label, pattern_label, predicate_label}
use Rattle.tt_kinds.specs.Label.{existential_label, clause_list_label, list_label, var_list_label, text_label}
use Rattle.tt_kinds.specs.Label.{declaration_label, definition_label, record_label, error_label, clause_label}
use Rattle.tt_kinds.specs.Label.{label_table}
use Rattle.tt_kinds.specs.Tree as tree
use Rattle.tt_kinds.specs.Tree.{Depth, at, canonical, Tree, Forest, count_trees, take_trees, drop_trees}
use Rattle.tt_kinds.specs.declared.table.Table.{Table}
use Rattle.tt_kinds.specs.declared.table.Table.TheVariants.{Types, Consts, VarLists, Symbols}

-- which items of a list a view holds
pub data Extent : Type 0 where
  all_but_last : Extent
  -- the place of the first item, and the number of items
  span : ℕ → ℕ → Extent

mutual
  -- what a value holds
  pub data Shape : Type 0 where
    -- the name is a number in the table of symbols
    param : Sort → ℕ → ℕ → Shape
    bound : Sort → Depth → Entry ℕ → Shape
    region : FreeRegion ℕ → Shape
    term : Label ℕ → Shapes → Shape
    node : Label ℕ → Shapes → Shape
    -- the variables are a number in the table of their lists
    binder : ℕ → Shape → Shape
    -- the handle of this number in the table
    stored : Table → ℕ → Shape
    -- some items of the list of this number in the table
    part_of : Table → ℕ → Extent → Shape

  -- shapes in order
  pub data Shapes : Type 0 where
    none : Shapes
    also : Shape → Shapes → Shapes

-- the tree of each handle, by its table and its number
abbrev pub Meaning : Type 0
Meaning = Table → ℕ → Tree Depth

-- the text of a symbol's tree
abbrev pub text_of : Tree Depth → Name
text_of (tree.node (text_label bytes) ts) = bytes
text_of _ = []

-- the variables of a list's tree
abbrev pub vars_of : Tree Depth → List (VarKind Name)
vars_of (tree.node (var_list_label vs) ts) = vs
vars_of _ = []

-- the items of a list's tree
abbrev pub items_of : Tree Depth → Forest Depth
items_of (tree.node l ts) = ts
items_of _ = tree.none

-- the place of a part's first item
abbrev pub first_item : Extent → ℕ
first_item all_but_last = 0
first_item (span start len) = start

-- how many items a part of a list of n items has, if the list has that many
abbrev pub item_count : Extent → ℕ → ℕ
item_count all_but_last n = n - 1
item_count (span start len) n = len

-- the items of a part of a list
abbrev pub items_in : Extent → Forest Depth → Forest Depth
items_in e ts = take_trees (item_count e (count_trees ts)) (drop_trees (first_item e) ts)

module _ {N M : Type 0} (name : N → M) where
  -- a bound region's name, replaced
  abbrev pub rename_region : RegionName N → RegionName M
  rename_region anonymous = anonymous
  rename_region (printed n) = printed (name n)
  rename_region (named d) = named d
  rename_region environment = environment

  -- a variable with its name replaced
  abbrev pub rename_kind : VarKind N → VarKind M
  rename_kind (region_variable r) = region_variable (rename_region r)
  rename_kind (type_variable k) = type_variable k
  rename_kind const_variable = const_variable

  -- a bound variable's entry with the name replaced
  abbrev pub rename_entry : Entry N → Entry M
  rename_entry e = record { var = e.var; kind = rename_kind e.kind }

  -- a free region with its name replaced
  abbrev pub rename_free : FreeRegion N → FreeRegion M
  rename_free static_region = static_region
  rename_free erased_region = erased_region
  rename_free (region_var x) = region_var x
  rename_free (error_region e) = error_region e
  rename_free (late_param_region d r) = late_param_region d (rename_region r)
  rename_free (placeholder_region u v r) = placeholder_region u v (rename_region r)

  -- a record's label with its name replaced
  abbrev pub rename_record : RecordLabel N → RecordLabel M
  rename_record fn_sig_tys_record = fn_sig_tys_record
  rename_record pair_record = pair_record
  rename_record triple_record = triple_record
  rename_record absent_record = absent_record
  rename_record present_record = present_record
  rename_record sequence_record = sequence_record
  rename_record unsafe_binder_record = unsafe_binder_record
  rename_record (trait_record d) = trait_record d
  rename_record (host_effect_record d c) = host_effect_record d c
  rename_record region_outlives_record = region_outlives_record
  rename_record type_outlives_record = type_outlives_record
  rename_record (projection_record d) = projection_record d
  rename_record const_has_type_record = const_has_type_record
  rename_record well_formed_record = well_formed_record
  rename_record const_evaluatable_record = const_evaluatable_record
  rename_record (unstable_feature_record n) = unstable_feature_record (name n)
  rename_record (dyn_compatible_record d) = dyn_compatible_record d
  rename_record (subtype_record b) = subtype_record b
  rename_record coerce_record = coerce_record
  rename_record const_equate_record = const_equate_record
  rename_record ambiguous_record = ambiguous_record
  rename_record (normalizes_to_record d) = normalizes_to_record d
  rename_record (alias_relate_record r) = alias_relate_record r
  rename_record (existential_trait_record d) = existential_trait_record d
  rename_record (existential_projection_record d) = existential_projection_record d
  rename_record (auto_trait_record d) = auto_trait_record d
  rename_record (trait_ref_record d) = trait_ref_record d
  rename_record (alias_term_record d) = alias_term_record d
  rename_record (alias_ty_record k) = alias_ty_record k
  rename_record outlives_record = outlives_record
  rename_record (type_and_mut_record m) = type_and_mut_record m
  rename_record (fn_sig_record k) = fn_sig_record k
  rename_record param_env_record = param_env_record
  rename_record witness_types_record = witness_types_record
  rename_record (bare_param_record s i n) = bare_param_record s i (name n)
  rename_record (bare_bound_record s d e) = bare_bound_record s d (rename_entry e)
  rename_record (bare_type_record l) = bare_type_record l
  rename_record (bare_const_record l) = bare_const_record l
  rename_record (bare_pattern_record l) = bare_pattern_record l

  -- a label with its names replaced
  abbrev pub rename_label : Label N → Label M
  rename_label (type_label l) = type_label l
  rename_label (const_label l) = const_label l
  rename_label (pattern_label l) = pattern_label l
  rename_label predicate_label = predicate_label
  rename_label existential_label = existential_label
  rename_label clause_list_label = clause_list_label
  rename_label (list_label t) = list_label t
  rename_label (var_list_label vs) = var_list_label (map rename_kind vs)
  rename_label (text_label bytes) = text_label bytes
  rename_label (declaration_label i k n) = declaration_label i k (name n)
  rename_label (definition_label i vs) = definition_label i vs
  rename_label (record_label l) = record_label (rename_record l)
  rename_label (error_label e) = error_label e
  rename_label clause_label = clause_label

-- the text of the symbol of this number
abbrev pub name_of : Meaning → ℕ → Name
name_of f n = text_of (f Symbols n)

-- a shape's tree
unfoldable mutual
  pub fill : Meaning → Shape → Tree Depth
  fill f (param s i name) = tree.param s i (name_of f name)
  fill f (bound s d e) = tree.bound s d (rename_entry (name_of f) e)
  fill f (region r) = tree.region (rename_free (name_of f) r)
  fill f (term l ss) = tree.term (rename_label (name_of f) l) (fill_all f ss)
  fill f (node l ss) = tree.node (rename_label (name_of f) l) (fill_all f ss)
  fill f (binder n s) = tree.binder (vars_of (f VarLists n)) (fill f s)
  fill f (stored t n) = f t n
  fill f (part_of t n e) = tree.node (record_label sequence_record) (items_in e (items_of (f t n)))

  -- the trees of shapes, in order
  pub fill_all : Meaning → Shapes → Forest Depth
  fill_all f none = tree.none
  fill_all f (also s ss) = tree.also (fill f s) (fill_all f ss)

-- how many rows each table has
abbrev pub Sizes : Type 0
Sizes = Table → ℕ

module _ (size : Sizes) where
  -- the name is in the table of symbols
  abbrev pub IsNamed : RegionName ℕ → Type 0
  IsNamed anonymous = ⊤
  IsNamed (printed n) = n < size Symbols
  IsNamed (named d) = ⊤
  IsNamed environment = ⊤

  -- the variable's name is in the table of symbols
  abbrev pub IsNamedKind : VarKind ℕ → Type 0
  IsNamedKind (region_variable r) = IsNamed r
  IsNamedKind (type_variable k) = ⊤
  IsNamedKind const_variable = ⊤

  -- the names of the variables are in the table of symbols
  abbrev pub AreNamedKinds : List (VarKind ℕ) → Type 0
  AreNamedKinds [] = ⊤
  AreNamedKinds (v ∷ vs) = IsNamedKind v × AreNamedKinds vs

  -- the region's name is in the table of symbols
  abbrev pub IsNamedFree : FreeRegion ℕ → Type 0
  IsNamedFree static_region = ⊤
  IsNamedFree erased_region = ⊤
  IsNamedFree (region_var x) = ⊤
  IsNamedFree (error_region e) = ⊤
  IsNamedFree (late_param_region d r) = IsNamed r
  IsNamedFree (placeholder_region u v r) = IsNamed r

  -- the record's name is in the table of symbols
  abbrev pub IsNamedRecord : RecordLabel ℕ → Type 0
  IsNamedRecord (unstable_feature_record n) = n < size Symbols
  IsNamedRecord (bare_param_record s i n) = n < size Symbols
  IsNamedRecord (bare_bound_record s d e) = IsNamedKind e.kind
  IsNamedRecord _ = ⊤

  -- the label's names are in the table of symbols
  abbrev pub IsNamedLabel : Label ℕ → Type 0
  IsNamedLabel (type_label l) = ⊤
  IsNamedLabel (const_label l) = ⊤
  IsNamedLabel (pattern_label l) = ⊤
  IsNamedLabel predicate_label = ⊤
  IsNamedLabel existential_label = ⊤
  IsNamedLabel clause_list_label = ⊤
  IsNamedLabel (list_label t) = ⊤
  IsNamedLabel (var_list_label vs) = AreNamedKinds vs
  IsNamedLabel (text_label bytes) = ⊤
  IsNamedLabel (declaration_label i k n) = n < size Symbols
  IsNamedLabel (definition_label i vs) = ⊤
  IsNamedLabel (record_label l) = IsNamedRecord l
  IsNamedLabel (error_label e) = ⊤
  IsNamedLabel clause_label = ⊤

-- the table that parameters and bound variables of a sort are stored in
abbrev pub sort_table : Sort → Option Table
sort_table region_sort = None
sort_table type_sort = Some Types
sort_table const_sort = Some Consts

-- the shape isn't a row's: its stored terms are handles, and its handles and names are in range
abbrev mutual
  pub IsPart : Sizes → Shape → Type 0
  IsPart size (param s i name) = (sort_table s ≡ None) × (name < size Symbols)
  IsPart size (bound s d e) = (sort_table s ≡ None) × IsNamedKind size e.kind
  IsPart size (region r) = IsNamedFree size r
  IsPart size (term l ss) = ⊥
  IsPart size (node l ss) = (label_table l ≡ None) × IsNamedLabel size l × AreParts size ss
  IsPart size (binder n s) = (n < size VarLists) × IsPart size s
  IsPart size (stored t n) = n < size t
  IsPart size (part_of t n e) = n < size t

  -- none of the shapes is a row's: the stored terms are handles, and the handles and names are in range
  pub AreParts : Sizes → Shapes → Type 0
  AreParts size none = ⊤
  AreParts size (also s ss) = IsPart size s × AreParts size ss

-- the handles and names in a row of this shape are in range
abbrev pub HasParts : Sizes → Shape → Type 0
HasParts size (param s i name) = name < size Symbols
HasParts size (bound s d e) = IsNamedKind size e.kind
HasParts size (region r) = ⊥
HasParts size (term l ss) = IsNamedLabel size l × AreParts size ss
HasParts size (node l ss) = IsNamedLabel size l × AreParts size ss
HasParts size (binder n s) = ⊥
HasParts size (stored t n) = ⊥
HasParts size (part_of t n e) = ⊥

-- the index is the greatest or above, which no bound variable may have
abbrev pub IsGreatest : Depth → Type 0
IsGreatest (at d) = greatest ≤ d
IsGreatest canonical = ⊥

-- the row is a bound variable whose index is the greatest or above
abbrev pub IsTooDeep : Shape → Type 0
IsTooDeep (bound s d e) = IsGreatest d
IsTooDeep _ = ⊥

-- the shapes, one after another
abbrev pub append : Shapes → Shapes → Shapes
append none us = us
append (also s ss) us = also s (append ss us)

-- the shapes of items
abbrev pub item_shapes : {T : Type 0} → (T → Shape) → List T → Shapes
item_shapes shape [] = none
item_shapes shape (x ∷ xs) = also (shape x) (item_shapes shape xs)
