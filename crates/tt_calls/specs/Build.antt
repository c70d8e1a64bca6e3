-- The promises of the steps of a building call.
use Rattle.std.specs.Prelude.{◌≡◌, ◌↔◌, ℕ, ◌<◌, List, [], map, Result, IfOk, IfErr, OnOk, Some, IsSome, IsSomeAnd}
use Rattle.std.specs.Prelude.{Bool, IsTrue, Option, None, ⊤}
use Rattle.tt_index.specs.declared.refusal.Refusal.{Refusal}
use Rattle.tt_index.specs.declared.refusal.Refusal.TheVariants.{Memory, TableFull, GreatestIndex, NoSuchAnswer}
use Rattle.tt_kinds.specs.Label.{var_list_label}
use Rattle.tt_kinds.specs.Tree.{Tree, Forest, Depth, node, none}
use Rattle.tt_kinds.specs.Scan.{scan}
use Rattle.tt_kinds.specs.Reading.{outer_binder}
use Rattle.tt_kinds.specs.Bound.{region_name, var_kind}
use Rattle.tt_kinds.specs.Shape.{Shape, Shapes, name_of, rename_region, rename_kind, IsNamed, IsNamedKind}
use Rattle.tt_kinds.specs.Shape.{AreNamedKinds, fill, fill_all, item_shapes, IsPart, AreParts, HasParts}
use Rattle.tt_kinds.specs.Shape as shape
use Rattle.tt_kinds.specs.Kinds.{region_shape, arg_shape, clause_shape}
use Rattle.tt_kinds.specs.Declaration.{sort_of}
use Rattle.tt_kinds.specs.Values.{declared_shapes, item_label}
use Rattle.tt_kinds.specs.Handle.{Clause}
use Rattle.tt_kinds.specs.declared.region_kind.RegionKind.{RegionKind}
use Rattle.tt_kinds.specs.declared.bound.BoundRegionKind.{BoundRegionKind}
use Rattle.tt_kinds.specs.declared.bound.BoundVariableKind.{BoundVariableKind}
use Rattle.tt_kinds.specs.Handle.{BoundVarKinds}
use Rattle.tt_kinds.specs.declared.declaration.DeclarationKind.{DeclarationKind}
use Rattle.tt_kinds.specs.declared.declaration.DeclarationSort.{DeclarationSort}
use Rattle.tt_kinds.specs.declared.table.Table.{Table}
use Rattle.tt_kinds.specs.declared.table.Table.TheVariants.{VarLists}
use Rattle.tt_interner.specs.Rows.{Row, size, meaning, AreClauses}
use Rattle.tt_interner.specs.Stored.{Terms}
use Rattle.tt_calls.specs.declared.answer.Answer.{Answer}
use Rattle.tt_calls.specs.declared.answer.Answer.TheVariants as answer
use Rattle.tt_calls.specs.declared.call.RegionCall.{RegionCall}
use Rattle.tt_calls.specs.declared.call.RegionCall.TheVariants.{ReEarlyParam, ReBound, ReLateParam, RePlaceholder}
use Rattle.tt_calls.specs.declared.call.RegionNameCall.{RegionNameCall}
use Rattle.tt_calls.specs.declared.call.VariableCall.{VariableCall}
use Rattle.tt_calls.specs.declared.call.ArgCall.{ArgCall}
use Rattle.tt_calls.specs.declared.call.DeclarationKindCall.{DeclarationKindCall}
use Rattle.tt_calls.specs.declared.call.Call.{Call}
use Rattle.tt_interner.specs.Arguments.{argument_of}
use Rattle.tt_interner.specs.Arguments.{arguments}
use Rattle.tt_kinds.specs.declared.generic_arg.GenericArgKind.{GenericArgKind}
use Rattle.std.specs.declared.alloc.Global.{Global}
use Rattle.std.specs.declared.vec.Vec.{Vec}
use Rattle.tt_calls.specs.CallForm.{an_id, any_id, declared_sort, declared_item, declared_trees}
use Rattle.tt_calls.specs.CallForm.{declared_positions, of_id, CallForm, Named, Item, Part, called, variable_kind}
use Rattle.tt_calls.specs.CallForm.{item_tree, items_trees, part_tree, call_parts_trees, item_positions}
use Rattle.tt_calls.specs.CallForm.{items_positions, part_positions, parts_positions, IsItemTooDeep, AreItemsTooDeep}
use Rattle.tt_calls.specs.CallForm.{IsPartTooDeep, ArePartsTooDeep, form_positions, form_tree, IsFormTooDeep}
use Rattle.tt_calls.specs.CallForm.{arg_item, arg_items, clause_items}
use Rattle.tt_calls.specs.Told.{Told, term, told, told_all, handle_table, IsOwnedAnswer, AreOwnedAnswers}
use Rattle.tt_calls.specs.Told.{HasFullTable, setting}
use Rattle.tt_calls.specs.Means.{as_term, term_at, as_id, id_at, number_at, TellsWanted, tree_at, told_argument}
use Rattle.tt_calls.specs.Means.{told_arguments, AreTerms, IsAllowed, MayRefuse}

-- the answer is the handle of this number in the table
pub record IsHandle (a : Answer) (table : Table) (number : ℕ) : Type 0 where
  pub told : (rows : List Row) → told rows a ≡ term table (meaning rows table number)
  pub owned : (rows : List Row) → IsOwnedAnswer rows a → number < size rows table
  pub owns : (rows : List Row) → number < size rows table → IsOwnedAnswer rows a

-- the answer is not a handle of the table
abbrev pub IsOther : Answer → Table → Type 0
IsOther a table = (rows : List Row) → IsSomeAnd (as_term (Some (told rows a))) (λ u. u.table ≡ table) → ⊥

-- the id at the position has this sort and this number
abbrev pub IsIdAt : List Answer → ℕ → DeclarationSort → ℕ → Type 0
IsIdAt earlier p s n = (rows : List Row) → id_at (told_all rows earlier) p ≡ Some (record { sort = s; number = n })

-- no id of this sort is at the position
abbrev pub HasNoId : List Answer → ℕ → DeclarationSort → Type 0
HasNoId earlier p s = (rows : List Row) → TellsWanted (told_all rows earlier) (of_id s) p → ⊥

-- the position where an id is wanted, of a declaration of this sort if one is given
abbrev pub wanted_id : Option DeclarationSort → ℕ → List Named
wanted_id (Some s) p = an_id s p
wanted_id None p = any_id p

-- the truth value says whether each position tells the id that is wanted there
pub record TellsIds (earlier : List Answer) (names : List Named) (b : Bool) : Type 0 where
  pub tells : (rows : List Row) → IsTrue b ↔ AreTerms (told_all rows earlier) names

-- both answers are handles of the same table
abbrev pub AreOfOneTable : Answer → Answer → Type 0
AreOfOneTable a b = IsSome (handle_table a) × (handle_table a ≡ handle_table b)

-- the answer has the flags and the outer exclusive binder of this tree
abbrev pub IsInfoOf : Tree Depth → Answer → Type 0
IsInfoOf t (answer.Info flags outer) = (flags.bits ≡ scan t) × (outer ≡ outer_binder t)
IsInfoOf t _ = ⊥

-- this is the answer at the position
pub record IsAnswerAt (earlier : List Answer) (position : ℕ) (a : Answer) : Type 0 where
  pub means : (rows : List Row) → term_at (told_all rows earlier) position ≡ as_term (Some (told rows a))
  pub is_id : (rows : List Row) → id_at (told_all rows earlier) position ≡ as_id (Some (told rows a))
  pub owned : (rows : List Row) → AreOwnedAnswers rows earlier → IsOwnedAnswer rows a

-- why a part was not built, where named has its positions, and deep says that it needs the greatest index
pub data IsUnbuiltPart (full : Type 0) (earlier : List Told) (named : List Named) (deep : Type 0) (e : Refusal)
    : Type 0 where
  no_memory : e ≡ Memory → IsUnbuiltPart full earlier named deep e
  no_row : full → e ≡ TableFull → IsUnbuiltPart full earlier named deep e
  no_term : (AreTerms earlier named → ⊥) → e ≡ NoSuchAnswer → IsUnbuiltPart full earlier named deep e
  no_index : deep → e ≡ GreatestIndex → IsUnbuiltPart full earlier named deep e

-- the positions can't be used: one of them doesn't tell what is wanted there, or the greatest index is needed
abbrev pub IsUnusable : List Told → List Named → Type 0 → Refusal → Type 0
IsUnusable earlier names deep NoSuchAnswer = AreTerms earlier names → ⊥
IsUnusable earlier names deep GreatestIndex = deep
IsUnusable earlier names deep _ = ⊥

-- the positions can be used: each tells what is wanted there, and the greatest index isn't needed
pub record IsUsable (earlier : List Told) (names : List Named) (deep : Type 0) : Type 0 where
  pub named : AreTerms earlier names
  pub shallow : deep → ⊥

-- k is the name that the call gives a bound region, where ids has the number of the id at each position
pub record IsNameOf (terms : Terms) (ids : ℕ → ℕ) (call : RegionNameCall) (k : BoundRegionKind) : Type 0 where
  pub part : IsNamed (size terms.rows) (region_name k)
  pub means : rename_region (name_of (meaning terms.rows)) (region_name k) ≡ called ids call

-- the result is the name that the call gives, or a refusal with a reason
pub record GivesName (terms : Terms) (ids : ℕ → ℕ) (call : RegionNameCall) (result : Result BoundRegionKind Refusal)
    : Type 0 where
  pub ok : IfOk result (IsNameOf terms ids call)
  pub err : IfErr result (IsUnbuiltPart (HasFullTable terms) [] [] ⊥)

-- the variable is the one that the call names
pub record IsVariableOf (terms : Terms) (ids : ℕ → ℕ) (call : VariableCall) (v : BoundVariableKind) : Type 0 where
  pub part : IsNamedKind (size terms.rows) (var_kind v)
  pub means : rename_kind (name_of (meaning terms.rows)) (var_kind v) ≡ variable_kind ids call

-- the result is the variable that the call names, or a refusal with a reason
pub record GivesVariable (terms : Terms) (ids : ℕ → ℕ) (call : VariableCall) (result : Result BoundVariableKind Refusal)
    : Type 0 where
  pub ok : IfOk result (IsVariableOf terms ids call)
  pub err : IfErr result (IsUnbuiltPart (HasFullTable terms) [] [] ⊥)

-- the variables are the ones that the calls name
pub record AreVariablesOf (terms : Terms) (ids : ℕ → ℕ) (calls : List VariableCall) (vs : List BoundVariableKind)
    : Type 0 where
  pub parts : AreNamedKinds (size terms.rows) (map var_kind vs)
  pub means : map (rename_kind (name_of (meaning terms.rows))) (map var_kind vs) ≡ map (variable_kind ids) calls

-- these are the variables that the calls name, or the result is a refusal with a reason
pub record FillsVariables {R : Type 0} (terms : Terms) (ids : ℕ → ℕ) (calls : List VariableCall)
    (vs : List BoundVariableKind) (result : Result R Refusal) : Type 0 where
  pub ok : OnOk result (AreVariablesOf terms ids calls vs)
  pub err : IfErr result (IsUnbuiltPart (HasFullTable terms) [] [] ⊥)

-- the list holds the variables that the calls name
pub record IsVariableListOf (terms : Terms) (ids : ℕ → ℕ) (calls : List VariableCall) (list : BoundVarKinds)
    : Type 0 where
  pub in_range : list.number < size terms.rows VarLists
  pub means : meaning terms.rows VarLists list.number ≡ node (var_list_label (map (variable_kind ids) calls)) none

-- the result is the list of the variables that the calls name, or a refusal with a reason
pub record GivesVariables (terms : Terms) (ids : ℕ → ℕ) (calls : List VariableCall)
    (result : Result BoundVarKinds Refusal) : Type 0 where
  pub ok : IfOk result (IsVariableListOf terms ids calls)
  pub err : IfErr result (IsUnbuiltPart (HasFullTable terms) [] [] ⊥)

-- the call has a place for a name of the region
abbrev pub MayNameRegion : RegionCall → Type 0
MayNameRegion (ReEarlyParam index name) = ⊤
MayNameRegion (ReBound i var name) = ⊤
MayNameRegion (ReLateParam p name) = ⊤
MayNameRegion (RePlaceholder u var name) = ⊤
MayNameRegion _ = ⊥

-- the region has this tree, and the greatest index isn't needed (deep)
pub record IsRegionOf (terms : Terms) (t : Tree Depth) (deep : Type 0) (r : RegionKind) : Type 0 where
  pub part : IsPart (size terms.rows) (region_shape r)
  pub means : fill (meaning terms.rows) (region_shape r) ≡ t
  pub shallow : deep → ⊥

-- the result is the region with this tree, or a refusal with a reason; deep says that it needs the greatest index
pub record GivesRegion (terms : Terms) (t : Tree Depth) (deep : Type 0) (result : Result RegionKind Refusal)
    : Type 0 where
  pub ok : IfOk result (IsRegionOf terms t deep)
  pub err : IfErr result (IsUnbuiltPart (HasFullTable terms) [] [] deep)

-- the shape has this tree, these positions tell what is wanted there, and deep, which says that the greatest index is
-- needed, doesn't hold
pub record IsPlaced (terms : Terms) (earlier : List Told) (t : Tree Depth) (names : List Named) (deep : Type 0)
    (s : Shape) : Type 0 where
  pub part : IsPart (size terms.rows) s
  pub means : fill (meaning terms.rows) s ≡ t
  pub named : AreTerms earlier names
  pub shallow : deep → ⊥

-- the same for shapes in order
pub record ArePlaced (terms : Terms) (earlier : List Told) (ts : Forest Depth) (names : List Named) (deep : Type 0)
    (ss : Shapes) : Type 0 where
  pub parts : AreParts (size terms.rows) ss
  pub means : fill_all (meaning terms.rows) ss ≡ ts
  pub named : AreTerms earlier names
  pub shallow : deep → ⊥

-- the value is the one that the call puts in the item's place
abbrev pub IsItemOfCall : Terms → List Told → Item → Shape → Type 0
IsItemOfCall terms earlier i s = IsPlaced terms earlier (item_tree (number_at earlier) (tree_at earlier) i)
    (item_positions i) (IsItemTooDeep i) s

-- the values are the ones that the call puts in the items' places
abbrev pub AreItemsOf : Terms → List Told → List Item → Shapes → Type 0
AreItemsOf terms earlier is ss = ArePlaced terms earlier (items_trees (number_at earlier) (tree_at earlier) is)
    (items_positions is) (AreItemsTooDeep is) ss

-- the value is the one that the call puts in the child's place
abbrev pub IsPartOfCall : Terms → List Told → Part → Shape → Type 0
IsPartOfCall terms earlier p s = IsPlaced terms earlier (part_tree (number_at earlier) (tree_at earlier) p)
    (part_positions p) (IsPartTooDeep p) s

-- the values are the ones that the call puts in the children's places
abbrev pub ArePartsOfCall : Terms → List Told → List Part → Shapes → Type 0
ArePartsOfCall terms earlier ps ss = ArePlaced terms earlier (call_parts_trees (number_at earlier) (tree_at earlier) ps)
    (parts_positions ps) (ArePartsTooDeep ps) ss

-- the result has this tree, or is a refusal with a reason
pub record GivesPlaced {H : Type 0} (terms : Terms) (earlier : List Told) (t : Tree Depth) (names : List Named)
    (deep : Type 0) (shape : H → Shape) (result : Result H Refusal) : Type 0 where
  pub ok : IfOk result (λ h. IsPlaced terms earlier t names deep (shape h))
  pub err : IfErr result (IsUnbuiltPart (HasFullTable terms) earlier names deep)

-- the result is the value that the call puts in the child's place, or a refusal with a reason
pub record GivesPart {H : Type 0} (terms : Terms) (earlier : List Told) (p : Part) (shape : H → Shape)
    (result : Result H Refusal) : Type 0 where
  pub ok : IfOk result (λ h. IsPartOfCall terms earlier p (shape h))
  pub err : IfErr result (IsUnbuiltPart (HasFullTable terms) earlier (part_positions p) (IsPartTooDeep p))

-- the result has the values that the call puts in the items' places, or a refusal with a reason
pub record GivesItems {H : Type 0} (terms : Terms) (earlier : List Told) (is : List Item) (shape : H → Shape)
    (result : Result (Vec H Global) Refusal) : Type 0 where
  pub ok : IfOk result (λ hs. AreItemsOf terms earlier is (item_shapes shape hs.items))
  pub err : IfErr result (IsUnbuiltPart (HasFullTable terms) earlier (items_positions is) (AreItemsTooDeep is))

-- the shapes have these trees in order, or the result is a refusal with a reason
pub record FillsPlaced {R : Type 0} (terms : Terms) (earlier : List Told) (ts : Forest Depth) (names : List Named)
    (deep : Type 0) (ss : Shapes) (result : Result R Refusal) : Type 0 where
  pub ok : OnOk result (ArePlaced terms earlier ts names deep ss)
  pub err : IfErr result (IsUnbuiltPart (HasFullTable terms) earlier names deep)

-- these are the values of the items, or the result is a refusal with a reason
abbrev pub FillsItems : {H R : Type 0} → Terms → List Told → List Item → (H → Shape) → List H → Result R Refusal
    → Type 0
FillsItems terms earlier is shape values result =
    FillsPlaced terms earlier (items_trees (number_at earlier) (tree_at earlier) is) (items_positions is)
    (AreItemsTooDeep is) (item_shapes shape values) result

-- the result is the value that the call puts in the children's places, or a refusal with a reason
pub record GivesParts {H : Type 0} (terms : Terms) (earlier : List Told) (ps : List Part) (shapes : H → Shapes)
    (result : Result H Refusal) : Type 0 where
  pub ok : IfOk result (λ h. ArePartsOfCall terms earlier ps (shapes h))
  pub err : IfErr result (IsUnbuiltPart (HasFullTable terms) earlier (parts_positions ps) (ArePartsTooDeep ps))

-- the shape of a kind is the one that the call names
pub record IsKindOf (terms : Terms) (earlier : List Told) (form : CallForm) (s : Shape) : Type 0 where
  pub parts : HasParts (size terms.rows) s
  pub means : fill (meaning terms.rows) s ≡ form_tree (number_at earlier) (tree_at earlier) form
  pub named : AreTerms earlier (form_positions form)
  pub deep : shape.IsTooDeep s ↔ IsFormTooDeep form

-- the result is the kind that the call names, or a refusal with a reason
pub record GivesKind {K : Type 0} (terms : Terms) (earlier : List Told) (form : CallForm) (shape : K → Shape)
    (result : Result K Refusal) : Type 0 where
  pub ok : IfOk result (λ k. IsKindOf terms earlier form (shape k))
  pub err : IfErr result (IsUnbuiltPart (HasFullTable terms) earlier (form_positions form) (IsFormTooDeep form))

-- the list has the clauses at the positions
pub record AreClausesAt (terms : Terms) (earlier : List Told) (positions : List ℕ) (list : List Clause) : Type 0 where
  pub items : AreItemsOf terms earlier (clause_items positions) (item_shapes clause_shape list)
  pub clauses : AreClauses terms.rows list

-- the argument is the one that the call names
pub record IsArgumentOf (terms : Terms) (earlier : List Told) (call : ArgCall) (a : GenericArgKind) : Type 0 where
  pub item : IsItemOfCall terms earlier (arg_item call) (arg_shape a)
  pub means : argument_of terms.rows a ≡ told_argument earlier call

-- the result is the argument that the call names, or a refusal with a reason
pub record GivesArgument (terms : Terms) (earlier : List Told) (call : ArgCall) (result : Result GenericArgKind Refusal)
    : Type 0 where
  pub ok : IfOk result (IsArgumentOf terms earlier call)
  pub err : IfErr result (IsUnbuiltPart (HasFullTable terms) earlier (item_positions (arg_item call))
      (IsItemTooDeep (arg_item call)))

-- the arguments are the ones that the call names
pub record AreArgumentsOf (terms : Terms) (earlier : List Told) (calls : List ArgCall) (args : List GenericArgKind)
    : Type 0 where
  pub items : AreItemsOf terms earlier (arg_items calls) (item_shapes arg_shape args)
  pub means : arguments terms.rows args ≡ told_arguments earlier calls

-- the result has the arguments that the call names, or a refusal with a reason
pub record GivesArguments (terms : Terms) (earlier : List Told) (calls : List ArgCall)
    (result : Result (Vec GenericArgKind Global) Refusal) : Type 0 where
  pub ok : IfOk result (λ args. AreArgumentsOf terms earlier calls args.items)
  pub err : IfErr result (IsUnbuiltPart (HasFullTable terms) earlier (items_positions (arg_items calls))
      (AreItemsTooDeep (arg_items calls)))

-- what is declared is what the call says
pub record IsDeclaredBy (terms : Terms) (earlier : List Told) (call : DeclarationKindCall) (kind : DeclarationKind)
    : Type 0 where
  pub sorted : sort_of kind ≡ declared_sort call
  pub item : item_label kind ≡ declared_item (number_at earlier) call
  pub parts : AreParts (size terms.rows) (declared_shapes kind)
  pub means : fill_all (meaning terms.rows) (declared_shapes kind)
      ≡ declared_trees (number_at earlier) (tree_at earlier) call
  pub named : AreTerms earlier (declared_positions call)

-- the result is what the call declares, or a refusal with a reason
pub record GivesDeclared (terms : Terms) (earlier : List Told) (call : DeclarationKindCall)
    (result : Result DeclarationKind Refusal) : Type 0 where
  pub ok : IfOk result (IsDeclaredBy terms earlier call)
  pub err : IfErr result (IsUnbuiltPart (HasFullTable terms) earlier (declared_positions call) ⊥)

-- the result may be the call's answer, if the terms grow from the old ones to the new ones
pub record MayAnswerCall (old new : Terms) (earlier : List Told) (call : Call) (result : Result Answer Refusal)
    : Type 0 where
  pub owned : IfOk result (IsOwnedAnswer new.rows)
  pub ok : IfOk result (λ a. IsAllowed (setting old new) earlier call (told new.rows a))
  pub err : IfErr result (MayRefuse (setting old new) earlier call)
