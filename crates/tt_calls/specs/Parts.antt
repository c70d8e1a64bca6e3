-- What calls put in the places of the parts of kinds, and what is built of it.
use Rattle.std.specs.Prelude.{◌≡◌, ◌<◌, ◌≤◌, ℕ, List, [], ◌∷◌, map, length, Option, Some, None, IfSome, Result, IfOk}
use Rattle.std.specs.Prelude.{IfErr, ⊤}
use denote.Ref.{Bor}
use Rattle.tt_index.specs.declared.refusal.Refusal.{Refusal}
use Rattle.tt_kinds.specs.Label.{Name, VarKind, region_variable, Label, type_label, const_label, pattern_label}
use Rattle.tt_kinds.specs.Label.{predicate_label, existential_label, var_list_label, record_label, RecordLabel}
use Rattle.tt_kinds.specs.Label.{unstable_feature_record, bare_param_record, bare_bound_record}
use Rattle.tt_kinds.specs.Tree.{node, none}
use Rattle.tt_kinds.specs.Shape as shape
use Rattle.tt_kinds.specs.Shape.{Shape, name_of, rename_entry, rename_label, rename_record}
use Rattle.tt_kinds.specs.Parts as kinds
use Rattle.tt_kinds.specs.Parts.{ChildSort, child_sort}
use Rattle.tt_kinds.specs.Kinds.{child_shapes, parts_shapes}
use Rattle.tt_kinds.specs.Handle.{BoundVarKinds}
use Rattle.tt_kinds.specs.Handle.{Symbol}
use Rattle.tt_kinds.specs.declared.parts.Child.{Child}
use Rattle.tt_kinds.specs.declared.parts.Child.TheVariants as child
use Rattle.tt_kinds.specs.declared.parts.Parts.{Parts}
use Rattle.tt_kinds.specs.declared.table.Table.{Table}
use Rattle.tt_kinds.specs.declared.table.Table.TheVariants.{Types, Consts, Patterns, Predicates, TypeLists, ConstLists}
use Rattle.tt_kinds.specs.declared.table.Table.TheVariants.{ArgLists, PatternLists, ExistentialLists, VarLists, Symbols}
use Rattle.tt_kinds.specs.declared.table.TermTable.{TermTable}
use Rattle.tt_kinds.specs.declared.table.TermTable.TheVariants as terms_of
use Rattle.tt_interner.specs.Rows.{Row, text_row, size, meaning, IsNew, AreRows}
use Rattle.tt_interner.specs.Stored.{Terms, most_in_place}
use Rattle.tt_calls.specs.declared.call.VariableCall.{VariableCall}
use Rattle.tt_calls.specs.declared.build.parts.PartCall.{PartCall}
use Rattle.tt_calls.specs.declared.build.parts.PartCall.TheVariants as part
use Rattle.tt_calls.specs.declared.build.parts.PartsCall.{PartsCall}
use Rattle.tt_calls.specs.declared.build.parts.PartsCall.TheVariants as parts
use Rattle.tt_calls.specs.declared.build.parts.Built.{Built}
use Rattle.tt_calls.specs.CallForm.{Item, a_region, a_term, a_clause, Part, one, a_list, terms_at, args_part, CallForm}
use Rattle.tt_calls.specs.CallForm.{param, bound, plain, under, trait_object, variable_kind, part_positions, parts_positions}
use Rattle.tt_calls.specs.CallForm.{call_parts_trees, IsPartTooDeep, ArePartsTooDeep, AreShort, RecordCall}
use Rattle.tt_calls.specs.Told.{Told, HasFullTable}
use Rattle.tt_calls.specs.Means.{number_at, tree_at}
use Rattle.tt_calls.specs.Build.{IsUnbuiltPart, IsPartOfCall, ArePartsOfCall}
use Rattle.tt_calls.specs.Room.{IsRefusalForRoom, HasValue, HasValues, VarsNeedRoom}

-- what the call puts in the place of a child
abbrev pub named_part : PartCall → Part
named_part (part.Region r) = one (a_region r.now)
named_part (part.Ty p) = one (a_term Types p)
named_part (part.Const p) = one (a_term Consts p)
named_part (part.Pat p) = one (a_term Patterns p)
named_part (part.Tys ps) = a_list TypeLists (terms_at Types ps.now)
named_part (part.Consts ps) = a_list ConstLists (terms_at Consts ps.now)
named_part (part.Pats ps) = a_list PatternLists (terms_at Patterns ps.now)
named_part (part.Args args) = args_part args.now

-- what the call puts in the places of the children
abbrev pub named_parts : PartsCall → List Part
named_parts parts.None = []
named_parts (parts.One p) = named_part p ∷ []
named_parts (parts.Two p q) = named_part p ∷ named_part q ∷ []

-- the variables of the binder, if there is one, where ids has the number of the id at each position
abbrev pub named_vars : (ℕ → ℕ) → Option (Bor (List VariableCall)) → Option (List (VarKind Name))
named_vars ids None = None
named_vars ids (Some vars) = Some (map (variable_kind ids) vars.now)

-- the name, if there is one
abbrev pub named_text : Option (Bor Name) → Option Name
named_text None = None
named_text (Some text) = Some text.now

-- ids of some numbers, where the numbers don't matter
abbrev pub any_ids : ℕ → ℕ
any_ids p = p

-- the table, as one of terms and lists of terms
abbrev pub terms_table : Table → TermTable
terms_table Types = terms_of.Types
terms_table Consts = terms_of.Consts
terms_table Patterns = terms_of.Patterns
terms_table Predicates = terms_of.Predicates
terms_table TypeLists = terms_of.TypeLists
terms_table ConstLists = terms_of.ConstLists
terms_table ArgLists = terms_of.ArgLists
terms_table PatternLists = terms_of.PatternLists
terms_table ExistentialLists = terms_of.ExistentialLists
terms_table _ = terms_of.ClauseLists

-- the sort of the child in whose place the item is
abbrev pub item_sort : Item → ChildSort
item_sort (a_region r) = kinds.a_region
item_sort (a_term t p) = kinds.a_stored (terms_table t)
item_sort (a_clause p) = kinds.a_stored terms_of.Predicates

-- the sort of the child in whose place the call puts this
abbrev pub part_sort : Part → ChildSort
part_sort (one i) = item_sort i
part_sort (a_list t is) = kinds.a_stored (terms_table t)

-- the children are of the sorts of those in whose places the call puts these
abbrev pub AreOfSorts : List Part → Parts → Type 0
AreOfSorts [] cs = (cs.first ≡ child.Absent) × (cs.second ≡ child.Absent)
AreOfSorts (p ∷ []) cs = (child_sort cs.first ≡ part_sort p) × (cs.second ≡ child.Absent)
AreOfSorts (p ∷ q ∷ ps) cs = (child_sort cs.first ≡ part_sort p) × (child_sort cs.second ≡ part_sort q)

-- the children of what a call builds; a trait object has others
abbrev pub form_children : CallForm → List Part
form_children (param s i text) = []
form_children (bound s d e) = []
form_children (plain l ps) = ps
form_children (under l vs m ps) = ps
form_children (trait_object xs r) = []

-- the variables of the binder around them, if there is one
abbrev pub form_vars : CallForm → Option (List (VarKind Name))
form_vars (under l vs m ps) = Some vs
form_vars _ = None

-- the name in a record's label, if there is one
abbrev pub record_text : RecordLabel Name → Option Name
record_text (unstable_feature_record text) = Some text
record_text _ = None

-- the name of what a call builds, if it has one
abbrev pub form_text : CallForm → Option Name
form_text (param s i text) = Some text
form_text (under l vs m ps) = record_text m
form_text _ = None

-- the label is a kind's
abbrev pub IsKindLabel : Label Name → Type 0
IsKindLabel (type_label l) = ⊤
IsKindLabel (const_label l) = ⊤
IsKindLabel (pattern_label l) = ⊤
IsKindLabel predicate_label = ⊤
IsKindLabel existential_label = ⊤
IsKindLabel _ = ⊥

-- the label is that of a record in a kind
abbrev pub IsInnerLabel : RecordLabel Name → Type 0
IsInnerLabel (bare_param_record s i text) = ⊥
IsInnerLabel (bare_bound_record s d e) = ⊥
IsInnerLabel _ = ⊤

-- the variable is a type or a constant
abbrev pub IsTermVariable : VarKind Name → Type 0
IsTermVariable (region_variable r) = ⊥
IsTermVariable _ = ⊤

-- the form is that of a kind, and has no names but its text
abbrev pub IsKindForm : CallForm → Type 0
IsKindForm (param s i text) = ⊤
IsKindForm (bound s d e) = IsTermVariable e.kind
IsKindForm (plain l ps) = IsKindLabel l
IsKindForm (under l vs m ps) = IsKindLabel l × IsInnerLabel m
IsKindForm (trait_object xs r) = ⊥

-- the shape of the kind that is made of what was built
abbrev pub built_shape : CallForm → Built → Shape
built_shape (param s i text) b = shape.param s i b.name.number
built_shape (bound s d e) b = shape.bound s d (rename_entry (λ _. b.name.number) e)
built_shape (plain l ps) b = shape.term (rename_label (λ _. b.name.number) l) (parts_shapes b.parts)
built_shape (under l vs m ps) b = shape.term (rename_label (λ _. b.name.number) l)
    (shape.also (shape.binder b.vars.number
    (shape.node (record_label (rename_record (λ _. b.name.number) m)) (parts_shapes b.parts))) shape.none)
built_shape (trait_object xs r) b = shape.term predicate_label shape.none

-- the shape of the record that is made of what was built
abbrev pub built_record : RecordCall → Built → Shape
built_record r b = shape.node (record_label (rename_record (λ _. b.name.number) r.label)) (parts_shapes b.parts)

-- the list holds the variables
pub record IsListOfVars (terms : Terms) (vs : List (VarKind Name)) (list : BoundVarKinds) : Type 0 where
  pub in_range : list.number < size terms.rows VarLists
  pub means : meaning terms.rows VarLists list.number ≡ node (var_list_label vs) none

-- the symbol has the text
pub record IsSymbolOf (terms : Terms) (text : Name) (symbol : Symbol) : Type 0 where
  pub in_range : symbol.number < size terms.rows Symbols
  pub means : name_of (meaning terms.rows) symbol.number ≡ text

-- the child is what the call puts in its place
pub record IsChildOf (terms : Terms) (earlier : List Told) (p : Part) (c : Child) : Type 0 where
  pub sort : child_sort c ≡ part_sort p
  pub value : Shape
  pub is : child_shapes c ≡ shape.also value shape.none
  pub part : IsPartOfCall terms earlier p value

-- the result is the child that the call puts in its place, or a refusal with a reason
pub record GivesChild (terms : Terms) (earlier : List Told) (p : Part) (result : Result Child Refusal) : Type 0 where
  pub ok : IfOk result (IsChildOf terms earlier p)
  pub err : IfErr result (IsUnbuiltPart (HasFullTable terms) earlier (part_positions p) (IsPartTooDeep p))

-- these are the children, the variables of the binder and the name
pub record IsBuilt (terms : Terms) (earlier : List Told) (ps : List Part) (vs : Option (List (VarKind Name)))
    (name : Option Name) (b : Built) : Type 0 where
  pub sorts : AreOfSorts ps b.parts
  pub parts : ArePartsOfCall terms earlier ps (parts_shapes b.parts)
  pub vars : IfSome vs (λ ws. IsListOfVars terms ws b.vars)
  pub text : IfSome name (λ t. IsSymbolOf terms t b.name)

-- the result is the list of the variables, if there is one, or a refusal with a reason
pub record GivesVars (terms : Terms) (vs : Option (List (VarKind Name))) (result : Result BoundVarKinds Refusal)
    : Type 0 where
  pub ok : IfOk result (λ list. IfSome vs (λ ws. IsListOfVars terms ws list))
  pub err : IfErr result (IsUnbuiltPart (HasFullTable terms) [] [] ⊥)

-- the result is the symbol of the text, if there is one, or a refusal with a reason
pub record GivesText (terms : Terms) (text : Option Name) (result : Result Symbol Refusal) : Type 0 where
  pub ok : IfOk result (λ symbol. IfSome text (λ t. IsSymbolOf terms t symbol))
  pub err : IfErr result (IsUnbuiltPart (HasFullTable terms) [] [] ⊥)

-- the result is what was to be built, or a refusal with a reason
pub record GivesBuilt (terms : Terms) (earlier : List Told) (ps : List Part) (vs : Option (List (VarKind Name)))
    (name : Option Name) (result : Result Built Refusal) : Type 0 where
  pub ok : IfOk result (IsBuilt terms earlier ps vs name)
  pub err : IfErr result (IsUnbuiltPart (HasFullTable terms) earlier (parts_positions ps) (ArePartsTooDeep ps))

-- if the refusal is for want of room, and no list to be built is long, no values have the children's trees
abbrev pub PartsNeedRoom : List Row → List Told → List Part → Refusal → Type 0
PartsNeedRoom rows earlier ps r = IsRefusalForRoom r → AreShort ps → AreRows rows
    → HasValues rows (call_parts_trees (number_at earlier) (tree_at earlier) ps) → ⊥

-- the same for the list of the binder's variables, if there is a binder
abbrev pub VarListNeedsRoom : List Row → Option (List (VarKind Name)) → Refusal → Type 0
VarListNeedsRoom rows None r = IsRefusalForRoom r → ⊥
VarListNeedsRoom rows (Some vs) r = VarsNeedRoom rows vs r

-- the text, if there is one, isn't stored
abbrev pub TextNeedsRoom : List Row → Option Name → Refusal → Type 0
TextNeedsRoom rows None r = ⊥
TextNeedsRoom rows (Some text) r = IsNew (text_row text) rows

-- if the refusal is for want of room, and no list to be built is long, something of what was to be built isn't stored
abbrev pub BuiltNeedsRoom : List Row → List Told → List Part → Option (List (VarKind Name)) → Option Name → Refusal
    → Type 0
BuiltNeedsRoom rows earlier ps vs text r = IsRefusalForRoom r → AreShort ps
    → IfSome vs (λ ws. length ws ≤ most_in_place) → AreRows rows
    → HasValues rows (call_parts_trees (number_at earlier) (tree_at earlier) ps)
    → IfSome vs (λ ws. HasValue rows (node (var_list_label ws) none))
    → IfSome text (λ t. IsNew (text_row t) rows → ⊥) → ⊥
