-- What building calls build, from the trees and the ids at the positions that they name.
-- What they want at these positions: a term, a clause, or an id.
use Rattle.std.specs.Prelude.{ℕ, ◌≤◌, List, [], ◌∷◌, ◌++◌, map, length, All, ◌⊎◌, ⊤, Option, Some, None}
use Rattle.std.specs.String.{string_bytes}
use Rattle.tt_kinds.specs.Label.{Name, Sort, region_sort, type_sort, const_sort, RegionName, anonymous, printed, named}
use Rattle.tt_kinds.specs.Label.{environment, VarKind, region_variable, type_variable, const_variable, Entry}
use Rattle.tt_kinds.specs.Label.{static_region, erased_region, region_var, error_region, late_param_region}
use Rattle.tt_kinds.specs.Label.{placeholder_region, TypeLabel, bool_type, char_type, int_type, uint_type, float_type}
use Rattle.tt_kinds.specs.Label.{str_type, never_type, placeholder_type, infer_type, error_type, ref_type, raw_ptr_type}
use Rattle.tt_kinds.specs.Label.{slice_type, tuple_type, fn_ptr_type, foreign_type, adt_type, fn_def_type, array_type}
use Rattle.tt_kinds.specs.Label.{closure_type, coroutine_closure_type, coroutine_type, coroutine_witness_type}
use Rattle.tt_kinds.specs.Label.{alias_type, infer_const, placeholder_const, unevaluated_const, leaf_const}
use Rattle.tt_kinds.specs.Label.{branch_const, error_const, expr_const, pat_type, unsafe_binder_type, range_pattern}
use Rattle.tt_kinds.specs.Label.{or_pattern, not_null_pattern, unsafe_binder_record, trait_record, host_effect_record}
use Rattle.tt_kinds.specs.Label.{region_outlives_record, type_outlives_record, projection_record, const_has_type_record}
use Rattle.tt_kinds.specs.Label.{well_formed_record, const_evaluatable_record, unstable_feature_record}
use Rattle.tt_kinds.specs.Label.{dyn_compatible_record, subtype_record, coerce_record, const_equate_record}
use Rattle.tt_kinds.specs.Label.{ambiguous_record, normalizes_to_record, alias_relate_record, dynamic_type}
use Rattle.tt_kinds.specs.Label.{existential_trait_record, existential_projection_record, auto_trait_record}
use Rattle.tt_kinds.specs.Label.{RecordLabel, fn_sig_tys_record, Label, type_label, const_label, pattern_label}
use Rattle.tt_kinds.specs.Label.{predicate_label, existential_label, clause_list_label, list_label, record_label}
use Rattle.tt_kinds.specs.Label.{var_list_label, declaration_label, ItemLabel, trait_item, assoc_ty_item, inherent_item}
use Rattle.tt_kinds.specs.Label.{fn_item, plain_item}
use Rattle.tt_kinds.specs.Tree as tree
use Rattle.tt_kinds.specs.Tree.{Depth, Tree, Forest, none, also}
use Rattle.tt_kinds.specs.Bound.{depth, const_entry}
use Rattle.tt_kinds.specs.Shape.{IsGreatest}
use Rattle.tt_interner.specs.Stored.{most_in_place}
use Rattle.tt_kinds.specs.declared.table.Table.{Table}
use Rattle.tt_kinds.specs.declared.table.Table.TheVariants.{Types, Consts, Patterns, TypeLists, ConstLists, ArgLists}
use Rattle.tt_kinds.specs.declared.table.Table.TheVariants.{PatternLists, ExistentialLists}
use Rattle.tt_kinds.specs.declared.bound.BoundTyKind.{BoundTyKind}
use Rattle.tt_kinds.specs.declared.bound.BoundTyKind.TheVariants as bound_ty_kind
use Rattle.tt_calls.specs.declared.call.RegionNameCall.{RegionNameCall}
use Rattle.tt_calls.specs.declared.call.RegionNameCall.TheVariants as region_name
use Rattle.tt_calls.specs.declared.call.BoundTyKindCall.{BoundTyKindCall}
use Rattle.tt_calls.specs.declared.call.BoundTyKindCall.TheVariants as ty_name
use Rattle.tt_calls.specs.declared.call.VariableCall.{VariableCall}
use Rattle.tt_calls.specs.declared.call.VariableCall.TheVariants as variable
use Rattle.tt_calls.specs.declared.call.RegionCall.{RegionCall}
use Rattle.tt_calls.specs.declared.call.RegionCall.TheVariants.{ReEarlyParam, ReBound, ReLateParam, ReStatic}
use Rattle.tt_calls.specs.declared.call.RegionCall.TheVariants.{ReVar, RePlaceholder, ReErased, ReError}
use Rattle.tt_calls.specs.declared.call.ArgCall.{ArgCall}
use Rattle.tt_calls.specs.declared.call.ArgCall.TheVariants as arg
use Rattle.tt_kinds.specs.declared.alias.AliasTyKind.{AliasTyKind}
use Rattle.tt_kinds.specs.declared.alias.AliasTyKind.TheVariants as alias_kind
use Rattle.tt_calls.specs.declared.call.AliasCall.{AliasCall}
use Rattle.tt_calls.specs.declared.call.AliasCall.TheVariants as alias
use Rattle.tt_calls.specs.declared.call.ItemCall.{ItemCall}
use Rattle.tt_calls.specs.declared.call.ItemCall.TheVariants as item
use Rattle.tt_calls.specs.declared.call.ValTreeCall.{ValTreeCall}
use Rattle.tt_calls.specs.declared.call.ValTreeCall.TheVariants as valtree
use Rattle.tt_calls.specs.declared.call.ConstCall.{ConstCall}
use Rattle.tt_calls.specs.declared.call.ConstCall.TheVariants as const
use Rattle.tt_calls.specs.declared.call.PatCall.{PatCall}
use Rattle.tt_calls.specs.declared.call.PatCall.TheVariants as pat
use Rattle.tt_calls.specs.declared.call.TermCall.{TermCall}
use Rattle.tt_calls.specs.declared.call.TermCall.TheVariants as term
use Rattle.tt_calls.specs.declared.call.ClauseCall.{ClauseCall}
use Rattle.tt_calls.specs.declared.call.ClauseCall.TheVariants as clause
use Rattle.tt_calls.specs.declared.call.PredicateKindCall.{PredicateKindCall}
use Rattle.tt_calls.specs.declared.call.PredicateKindCall.TheVariants as predicate
use Rattle.tt_calls.specs.declared.call.PredicateCall.{PredicateCall}
use Rattle.tt_calls.specs.declared.call.ExistentialKindCall.{ExistentialKindCall}
use Rattle.tt_calls.specs.declared.call.ExistentialKindCall.TheVariants as existential
use Rattle.tt_calls.specs.declared.call.ExistentialCall.{ExistentialCall}
use Rattle.tt_calls.specs.declared.call.DeclareCall.{DeclareCall}
use Rattle.tt_calls.specs.declared.call.DeclarationKindCall.{DeclarationKindCall}
use Rattle.tt_calls.specs.declared.call.DeclarationKindCall.TheVariants as declares
use Rattle.tt_kinds.specs.declared.declaration.DeclarationSort.{DeclarationSort}
use Rattle.tt_kinds.specs.declared.declaration.DeclarationSort.TheVariants as sort
use Rattle.tt_calls.specs.declared.call.TyCall.{TyCall}
use Rattle.tt_calls.specs.declared.call.TyCall.TheVariants as ty
use Rattle.tt_kinds.specs.Id.{id_of}

-- what a call wants at a position
pub data Want : Type 0 where
  -- a term of the table
  of_table : Table → Want
  -- a predicate that is a clause
  of_clause : Want
  -- a term of the same table as the term at another position
  as_at : ℕ → Want
  -- a term of any table
  of_any : Want
  -- a term with flags: not a list of arguments
  with_flags : Want
  -- the id of a declaration of this sort
  of_id : DeclarationSort → Want
  -- the id of a declaration of any sort
  of_any_id : Want

-- a position that a call names
pub record Named : Type 0 where
  pub want : Want
  pub position : ℕ

-- what a call puts in the place of a child that is not a list, or in a list
pub data Item : Type 0 where
  a_region : RegionCall → Item
  -- the term of the table at the position
  a_term : Table → ℕ → Item
  -- the clause at the position
  a_clause : ℕ → Item

-- what a call puts in the place of a child
pub data Part : Type 0 where
  one : Item → Part
  -- a list of the table
  a_list : Table → List Item → Part

-- the record under a predicate's binder: its label and its children
pub record RecordCall : Type 0 where
  pub label : RecordLabel Name
  pub parts : List Part

-- the record of this label and these children
abbrev pub labelled_parts : RecordLabel Name → List Part → RecordCall
labelled_parts l ps = record { label = l; parts = ps }

-- an existential predicate: the variables of its binder, and the record under it
pub record ExistentialForm : Type 0 where
  pub vars : List (VarKind Name)
  pub under : RecordCall

-- an argument as an item of a list
abbrev pub arg_item : ArgCall → Item
arg_item (arg.Lifetime r) = a_region r
arg_item (arg.«Type» p) = a_term Types p
arg_item (arg.Const p) = a_term Consts p

-- arguments as items of a list
abbrev pub arg_items : List ArgCall → List Item
arg_items args = map arg_item args

-- a list of arguments
abbrev pub args_part : List ArgCall → Part
args_part args = a_list ArgLists (arg_items args)

-- the terms of the table at the positions
abbrev pub terms_at : Table → List ℕ → List Item
terms_at t ps = map (a_term t) ps

-- what a call builds: a parameter, a bound variable, or a term of a label and its children
pub data CallForm : Type 0 where
  param : Sort → ℕ → Name → CallForm
  bound : Sort → Depth → Entry Name → CallForm
  plain : Label Name → List Part → CallForm
  -- the children are in a record under a binder of these variables
  under : Label Name → List (VarKind Name) → RecordLabel Name → List Part → CallForm
  -- a trait object: its existential predicates, and its region
  trait_object : List ExistentialForm → RegionCall → CallForm

-- the child that is this type or constant
abbrev pub term_part : TermCall → Part
term_part (term.Ty p) = one (a_term Types p)
term_part (term.Const p) = one (a_term Consts p)

-- what a call builds for a value of the type at the position
abbrev pub value_call_form : ℕ → ValTreeCall → CallForm
value_call_form t (valtree.Leaf s) = plain (const_label (leaf_const s.bits s.size)) (one (a_term Types t) ∷ [])
value_call_form t (valtree.Branch cs) = plain (const_label branch_const)
    (one (a_term Types t) ∷ a_list ConstLists (terms_at Consts cs.items) ∷ [])

-- what a call for a pattern builds
abbrev pub pat_call_form : PatCall → CallForm
pat_call_form (pat.Range start end) = plain (pattern_label range_pattern)
    (one (a_term Consts start) ∷ one (a_term Consts end) ∷ [])
pat_call_form (pat.Or ps) = plain (pattern_label or_pattern) (a_list PatternLists (terms_at Patterns ps.items) ∷ [])
pat_call_form pat.NotNull = plain (pattern_label not_null_pattern) []

-- the text of a bound region's name, if there is one
abbrev pub name_text : RegionNameCall → Option Name
name_text (region_name.NamedForPrinting text) = Some (string_bytes text)
name_text _ = None

-- the text in a region, if there is one
abbrev pub region_text : RegionCall → Option Name
region_text (ReEarlyParam index name) = Some (string_bytes name)
region_text (ReBound i var name) = name_text name
region_text (ReLateParam p name) = name_text name
region_text (RePlaceholder u var name) = name_text name
region_text _ = None

-- the text of a variable's name, if there is one
abbrev pub variable_name_text : VariableCall → Option Name
variable_name_text (variable.Region name) = name_text name
variable_name_text _ = None

-- the number of the id at each position (ids)
module _ (ids : ℕ → ℕ) where
  -- the name of a bound region
  abbrev pub called : RegionNameCall → RegionName Name
  called region_name.Anon = anonymous
  called (region_name.NamedForPrinting text) = printed (string_bytes text)
  called (region_name.Named p) = named (ids p)
  called region_name.ClosureEnv = environment

  -- the name of a bound type
  abbrev pub ty_called : BoundTyKindCall → BoundTyKind
  ty_called ty_name.Anon = bound_ty_kind.Anon
  ty_called (ty_name.Param p) = bound_ty_kind.Param (record { number = ids p })

  -- a variable of a binder's list
  abbrev pub variable_kind : VariableCall → VarKind Name
  variable_kind (variable.Ty k) = type_variable (ty_called k)
  variable_kind (variable.Region k) = region_variable (called k)
  variable_kind variable.Const = const_variable

  -- a bound region's entry
  abbrev pub region_call_entry : ℕ → RegionNameCall → Entry Name
  region_call_entry var name = record { var = var; kind = region_variable (called name) }

  -- a bound type's entry
  abbrev pub ty_call_entry : ℕ → BoundTyKindCall → Entry Name
  ty_call_entry var name = record { var = var; kind = type_variable (ty_called name) }

  -- the tree of a region
  abbrev pub region_call_tree : RegionCall → Tree Depth
  region_call_tree (ReEarlyParam index name) = tree.param region_sort index (string_bytes name)
  region_call_tree (ReBound i var name) = tree.bound region_sort (depth i) (region_call_entry var name)
  region_call_tree (ReLateParam p name) = tree.region (late_param_region (ids p) (called name))
  region_call_tree ReStatic = tree.region static_region
  region_call_tree (ReVar v) = tree.region (region_var v)
  region_call_tree (RePlaceholder u var name) = tree.region (placeholder_region u var (called name))
  region_call_tree ReErased = tree.region erased_region
  region_call_tree (ReError e) = tree.region (error_region e.0)

  -- the kind of an alias
  abbrev pub alias_call_kind : AliasCall → AliasTyKind
  alias_call_kind (alias.Projection p) = alias_kind.Projection (id_of (ids p))
  alias_call_kind (alias.Inherent p) = alias_kind.Inherent (id_of (ids p))
  alias_call_kind (alias.Opaque p) = alias_kind.Opaque (id_of (ids p))
  alias_call_kind (alias.Free p) = alias_kind.Free (id_of (ids p))

  -- the item of a type with arguments
  abbrev pub item_type : ItemCall → TypeLabel
  item_type (item.Adt p) = adt_type (ids p)
  item_type (item.FnDef p) = fn_def_type (ids p)
  item_type (item.Closure p) = closure_type (ids p)
  item_type (item.CoroutineClosure p) = coroutine_closure_type (ids p)
  item_type (item.Coroutine p) = coroutine_type (ids p)
  item_type (item.CoroutineWitness p) = coroutine_witness_type (ids p)
  item_type (item.Alias k) = alias_type (alias_call_kind k)

  -- what a call for an existential predicate builds under the binder
  abbrev pub existential_record : ExistentialKindCall → RecordCall
  existential_record (existential.Trait p args) = labelled_parts (existential_trait_record (ids p))
      (args_part args.items ∷ [])
  existential_record (existential.Projection p args t) =
      labelled_parts (existential_projection_record (ids p)) (args_part args.items ∷ term_part t ∷ [])
  existential_record (existential.AutoTrait p) = labelled_parts (auto_trait_record (ids p)) []

  -- what a call for an existential predicate builds
  abbrev pub existential_call_form : ExistentialCall → ExistentialForm
  existential_call_form x = record { vars = map variable_kind x.vars.items; under = existential_record x.kind }

  -- what a call for a type builds
  abbrev pub ty_call_form : TyCall → CallForm
  ty_call_form ty.Bool = plain (type_label bool_type) []
  ty_call_form ty.Char = plain (type_label char_type) []
  ty_call_form (ty.Int i) = plain (type_label (int_type i)) []
  ty_call_form (ty.Uint i) = plain (type_label (uint_type i)) []
  ty_call_form (ty.Float f) = plain (type_label (float_type f)) []
  ty_call_form (ty.Foreign p) = plain (type_label (foreign_type (ids p))) []
  ty_call_form ty.Str = plain (type_label str_type) []
  ty_call_form ty.Never = plain (type_label never_type) []
  ty_call_form (ty.Param index name) = param type_sort index (string_bytes name)
  ty_call_form (ty.Bound i var name) = bound type_sort (depth i) (ty_call_entry var name)
  ty_call_form (ty.Placeholder u var name) = plain (type_label
      (placeholder_type (record { universe = u; bound = record { var = var; kind = ty_called name } }))) []
  ty_call_form (ty.Infer i) = plain (type_label (infer_type i)) []
  ty_call_form (ty.Error e) = plain (type_label (error_type e.0)) []
  ty_call_form (ty.Ref r t m) = plain (type_label (ref_type m)) (one (a_region r) ∷ one (a_term Types t) ∷ [])
  ty_call_form (ty.RawPtr t m) = plain (type_label (raw_ptr_type m)) (one (a_term Types t) ∷ [])
  ty_call_form (ty.Slice t) = plain (type_label slice_type) (one (a_term Types t) ∷ [])
  ty_call_form (ty.Array t c) = plain (type_label array_type) (one (a_term Types t) ∷ one (a_term Consts c) ∷ [])
  ty_call_form (ty.Tuple ts) = plain (type_label tuple_type) (a_list TypeLists (terms_at Types ts.items) ∷ [])
  ty_call_form (ty.FnPtr vars ts h) =
      under (type_label (fn_ptr_type h)) (map variable_kind vars.items) fn_sig_tys_record
      (a_list TypeLists (terms_at Types ts.items) ∷ [])
  ty_call_form (ty.Item i args) = plain (type_label (item_type i)) (args_part args.items ∷ [])
  ty_call_form (ty.Dynamic xs r) = trait_object (map existential_call_form xs.items) r
  ty_call_form (ty.Pat t p) = plain (type_label pat_type) (one (a_term Types t) ∷ one (a_term Patterns p) ∷ [])
  ty_call_form (ty.UnsafeBinder vars t) = under (type_label unsafe_binder_type)
      (map variable_kind vars.items) unsafe_binder_record (one (a_term Types t) ∷ [])

  -- what a call for a constant builds
  abbrev pub const_call_form : ConstCall → CallForm
  const_call_form (const.Param index name) = param const_sort index (string_bytes name)
  const_call_form (const.Infer i) = plain (const_label (infer_const i)) []
  const_call_form (const.Bound i b) = bound const_sort (depth i) (const_entry b)
  const_call_form (const.Placeholder p) = plain (const_label (placeholder_const p)) []
  const_call_form (const.Unevaluated p args) = plain (const_label (unevaluated_const (ids p)))
      (args_part args.items ∷ [])
  const_call_form (const.Value t v) = value_call_form t v
  const_call_form (const.Error e) = plain (const_label (error_const e.0)) []
  const_call_form (const.Expr tag args) = plain (const_label (expr_const tag)) (args_part args.items ∷ [])

  -- what a call for a clause builds under the binder
  abbrev pub clause_record : ClauseCall → RecordCall
  clause_record (clause.Trait p args) = labelled_parts (trait_record (ids p)) (args_part args.items ∷ [])
  clause_record (clause.RegionOutlives r s) = labelled_parts region_outlives_record
      (one (a_region r) ∷ one (a_region s) ∷ [])
  clause_record (clause.TypeOutlives t r) = labelled_parts type_outlives_record
      (one (a_term Types t) ∷ one (a_region r) ∷ [])
  clause_record (clause.Projection p args t) = labelled_parts (projection_record (ids p))
      (args_part args.items ∷ term_part t ∷ [])
  clause_record (clause.ConstArgHasType c t) = labelled_parts const_has_type_record
      (one (a_term Consts c) ∷ one (a_term Types t) ∷ [])
  clause_record (clause.WellFormed t) = labelled_parts well_formed_record (term_part t ∷ [])
  clause_record (clause.ConstEvaluatable c) = labelled_parts const_evaluatable_record (one (a_term Consts c) ∷ [])
  clause_record (clause.HostEffect p args constness) = labelled_parts (host_effect_record (ids p) constness)
      (args_part args.items ∷ [])
  clause_record (clause.UnstableFeature name) = labelled_parts (unstable_feature_record (string_bytes name)) []

  -- what a call for a predicate builds under the binder
  abbrev pub predicate_record : PredicateKindCall → RecordCall
  predicate_record (predicate.Clause c) = clause_record c
  predicate_record (predicate.DynCompatible p) = labelled_parts (dyn_compatible_record (ids p)) []
  predicate_record (predicate.Subtype expected a b) = labelled_parts (subtype_record expected)
      (one (a_term Types a) ∷ one (a_term Types b) ∷ [])
  predicate_record (predicate.Coerce a b) = labelled_parts coerce_record
      (one (a_term Types a) ∷ one (a_term Types b) ∷ [])
  predicate_record (predicate.ConstEquate a b) = labelled_parts const_equate_record
      (one (a_term Consts a) ∷ one (a_term Consts b) ∷ [])
  predicate_record predicate.Ambiguous = labelled_parts ambiguous_record []
  predicate_record (predicate.NormalizesTo p args t) = labelled_parts (normalizes_to_record (ids p))
      (args_part args.items ∷ term_part t ∷ [])
  predicate_record (predicate.AliasRelate a b r) = labelled_parts (alias_relate_record r)
      (term_part a ∷ term_part b ∷ [])

  -- what a call for a predicate builds
  abbrev pub predicate_call_form : PredicateCall → CallForm
  predicate_call_form p = under predicate_label (map variable_kind p.vars.items) (predicate_record p.kind).label
      (predicate_record p.kind).parts

-- clauses as items of a list
abbrev pub clause_items : List ℕ → List Item
clause_items ps = map a_clause ps

-- the region is too deep: its binder has the greatest index
abbrev pub IsRegionTooDeep : RegionCall → Type 0
IsRegionTooDeep (ReBound i var name) = IsGreatest (depth i)
IsRegionTooDeep _ = ⊥

-- a region in the item's place is too deep
abbrev pub IsItemTooDeep : Item → Type 0
IsItemTooDeep (a_region r) = IsRegionTooDeep r
IsItemTooDeep (a_term t p) = ⊥
IsItemTooDeep (a_clause p) = ⊥

-- one item of the list is deep
abbrev pub AnyIsDeep : {X : Type 0} → (X → Type 0) → List X → Type 0
AnyIsDeep deep [] = ⊥
AnyIsDeep deep (x ∷ xs) = deep x ⊎ AnyIsDeep deep xs

-- a region among the items is too deep
abbrev pub AreItemsTooDeep : List Item → Type 0
AreItemsTooDeep is = AnyIsDeep IsItemTooDeep is

-- a region in the child's place is too deep
abbrev pub IsPartTooDeep : Part → Type 0
IsPartTooDeep (one i) = IsItemTooDeep i
IsPartTooDeep (a_list t is) = AreItemsTooDeep is

-- a region among the children is too deep
abbrev pub ArePartsTooDeep : List Part → Type 0
ArePartsTooDeep [] = ⊥
ArePartsTooDeep (p ∷ ps) = IsPartTooDeep p ⊎ ArePartsTooDeep ps

-- a region in the existential predicate is too deep
abbrev pub IsExistentialTooDeep : ExistentialForm → Type 0
IsExistentialTooDeep x = ArePartsTooDeep x.under.parts

-- the built term is bound by the binder of the greatest index, or a region in it is too deep
abbrev pub IsFormTooDeep : CallForm → Type 0
IsFormTooDeep (param s i name) = ⊥
IsFormTooDeep (bound s d e) = IsGreatest d
IsFormTooDeep (plain l ps) = ArePartsTooDeep ps
IsFormTooDeep (under l vs m ps) = ArePartsTooDeep ps
IsFormTooDeep (trait_object xs r) = AnyIsDeep IsExistentialTooDeep xs ⊎ IsRegionTooDeep r

-- the child is short: not a list of more items than are collected without allocation
abbrev pub IsShort : Part → Type 0
IsShort (one i) = ⊤
IsShort (a_list t is) = length is ≤ most_in_place

-- each of the children is short
abbrev pub AreShort : List Part → Type 0
AreShort [] = ⊤
AreShort (p ∷ ps) = IsShort p × AreShort ps

-- the existential predicate has no list, and no list of variables, of more items than are collected without allocation
abbrev pub IsShortExistential : ExistentialForm → Type 0
IsShortExistential x = (length x.vars ≤ most_in_place) × AreShort x.under.parts

-- the same for each of the existential predicates, and for the list of them
abbrev pub AreShortExistentials : List ExistentialForm → Type 0
AreShortExistentials xs = (length xs ≤ most_in_place) × All IsShortExistential xs

-- the term has no list, and no list of variables, of more items than are collected without allocation
abbrev pub IsOfShortLists : CallForm → Type 0
IsOfShortLists (param s i name) = ⊤
IsOfShortLists (bound s d e) = ⊤
IsOfShortLists (plain l ps) = AreShort ps
IsOfShortLists (under l vs m ps) = (length vs ≤ most_in_place) × AreShort ps
IsOfShortLists (trait_object xs r) = AreShortExistentials xs

-- the position that an item names
abbrev pub item_positions : Item → List Named
item_positions (a_region r) = []
item_positions (a_term t p) = record { want = of_table t; position = p } ∷ []
item_positions (a_clause p) = record { want = of_clause; position = p } ∷ []

-- the positions that the items of a list name
abbrev pub all_positions : {X : Type 0} → (X → List Named) → List X → List Named
all_positions names [] = []
all_positions names (x ∷ xs) = names x ++ all_positions names xs

-- the positions that items name
abbrev pub items_positions : List Item → List Named
items_positions is = all_positions item_positions is

-- the positions that a child names
abbrev pub part_positions : Part → List Named
part_positions (one i) = item_positions i
part_positions (a_list t is) = items_positions is

-- the positions that children name
abbrev pub parts_positions : List Part → List Named
parts_positions [] = []
parts_positions (p ∷ ps) = part_positions p ++ parts_positions ps

-- the positions that an existential predicate names
abbrev pub existential_positions : ExistentialForm → List Named
existential_positions x = parts_positions x.under.parts

-- the positions that a building call names
abbrev pub form_positions : CallForm → List Named
form_positions (param s i name) = []
form_positions (bound s d e) = []
form_positions (plain l ps) = parts_positions ps
form_positions (under l vs m ps) = parts_positions ps
form_positions (trait_object xs r) = all_positions existential_positions xs

-- the position where an id of the sort is wanted
abbrev pub an_id : DeclarationSort → ℕ → List Named
an_id s p = record { want = of_id s; position = p } ∷ []

-- the position where an id of any sort is wanted
abbrev pub any_id : ℕ → List Named
any_id p = record { want = of_any_id; position = p } ∷ []

-- the position of the id that a bound region's name names
abbrev pub name_ids : RegionNameCall → List Named
name_ids (region_name.Named p) = any_id p
name_ids _ = []

-- the position of the id that a bound type's name names
abbrev pub ty_name_ids : BoundTyKindCall → List Named
ty_name_ids ty_name.Anon = []
ty_name_ids (ty_name.Param p) = any_id p

-- the position of the id that a variable names
abbrev pub variable_ids : VariableCall → List Named
variable_ids (variable.Ty k) = ty_name_ids k
variable_ids (variable.Region k) = name_ids k
variable_ids variable.Const = []

-- the positions of ids that variables name
abbrev pub variables_ids : List VariableCall → List Named
variables_ids vars = all_positions variable_ids vars

-- the positions of ids that a region names
abbrev pub region_ids : RegionCall → List Named
region_ids (ReBound i var name) = name_ids name
region_ids (ReLateParam p name) = any_id p ++ name_ids name
region_ids (RePlaceholder u var name) = name_ids name
region_ids _ = []

-- the positions of ids that an argument names
abbrev pub arg_ids : ArgCall → List Named
arg_ids (arg.Lifetime r) = region_ids r
arg_ids _ = []

-- the positions of ids that arguments name
abbrev pub args_ids : List ArgCall → List Named
args_ids args = all_positions arg_ids args

-- the position of the id that an alias names
abbrev pub alias_ids : AliasCall → List Named
alias_ids (alias.Projection p) = an_id sort.AssocTy p
alias_ids (alias.Inherent p) = an_id sort.Inherent p
alias_ids (alias.Opaque p) = an_id sort.Opaque p
alias_ids (alias.Free p) = an_id sort.Free p

-- the position of the id that an item names
abbrev pub item_ids : ItemCall → List Named
item_ids (item.Adt p) = an_id sort.Adt p
item_ids (item.FnDef p) = an_id sort.Fn p
item_ids (item.Closure p) = an_id sort.Closure p
item_ids (item.CoroutineClosure p) = an_id sort.CoroutineClosure p
item_ids (item.Coroutine p) = an_id sort.Coroutine p
item_ids (item.CoroutineWitness p) = an_id sort.Coroutine p
item_ids (item.Alias k) = alias_ids k

-- the positions of ids that an existential predicate's kind names
abbrev pub existential_kind_ids : ExistentialKindCall → List Named
existential_kind_ids (existential.Trait p args) = an_id sort.Trait p ++ args_ids args.items
existential_kind_ids (existential.Projection p args t) = any_id p ++ args_ids args.items
existential_kind_ids (existential.AutoTrait p) = an_id sort.Trait p

-- the positions of ids that an existential predicate names
abbrev pub existential_ids : ExistentialCall → List Named
existential_ids x = existential_kind_ids x.kind ++ variables_ids x.vars.items

-- the positions of ids that existential predicates name
abbrev pub existentials_ids : List ExistentialCall → List Named
existentials_ids xs = all_positions existential_ids xs

-- the positions of ids that a type names
abbrev pub ty_ids : TyCall → List Named
ty_ids (ty.Foreign p) = an_id sort.Foreign p
ty_ids (ty.Bound i var name) = ty_name_ids name
ty_ids (ty.Placeholder u var name) = ty_name_ids name
ty_ids (ty.Ref r t m) = region_ids r
ty_ids (ty.FnPtr vars ts h) = variables_ids vars.items
ty_ids (ty.Item i args) = item_ids i ++ args_ids args.items
ty_ids (ty.Dynamic xs r) = existentials_ids xs.items ++ region_ids r
ty_ids (ty.UnsafeBinder vars t) = variables_ids vars.items
ty_ids _ = []

-- the positions of ids that a constant names
abbrev pub const_ids : ConstCall → List Named
const_ids (const.Unevaluated p args) = an_id sort.Const p ++ args_ids args.items
const_ids (const.Expr tag args) = args_ids args.items
const_ids _ = []

-- the positions of ids that a clause names
abbrev pub clause_ids : ClauseCall → List Named
clause_ids (clause.Trait p args) = an_id sort.Trait p ++ args_ids args.items
clause_ids (clause.RegionOutlives r s) = region_ids r ++ region_ids s
clause_ids (clause.TypeOutlives t r) = region_ids r
clause_ids (clause.Projection p args t) = any_id p ++ args_ids args.items
clause_ids (clause.HostEffect p args constness) = an_id sort.Trait p ++ args_ids args.items
clause_ids _ = []

-- the positions of ids that a predicate's kind names
abbrev pub predicate_kind_ids : PredicateKindCall → List Named
predicate_kind_ids (predicate.Clause c) = clause_ids c
predicate_kind_ids (predicate.DynCompatible p) = an_id sort.Trait p
predicate_kind_ids (predicate.NormalizesTo p args t) = any_id p ++ args_ids args.items
predicate_kind_ids _ = []

-- the positions of ids that a predicate names
abbrev pub predicate_ids : PredicateCall → List Named
predicate_ids p = predicate_kind_ids p.kind ++ variables_ids p.vars.items

-- the sort of what a call declares
abbrev pub declared_sort : DeclarationKindCall → DeclarationSort
declared_sort (declares.Trait params) = sort.Trait
declared_sort (declares.AssocTy p) = sort.AssocTy
declared_sort declares.Impl = sort.Impl
declared_sort (declares.Inherent p) = sort.Inherent
declared_sort declares.Adt = sort.Adt
declared_sort (declares.Fn vars ts kind) = sort.Fn
declared_sort declares.Opaque = sort.Opaque
declared_sort declares.Free = sort.Free
declared_sort declares.Foreign = sort.Foreign
declared_sort declares.Closure = sort.Closure
declared_sort declares.CoroutineClosure = sort.CoroutineClosure
declared_sort declares.Coroutine = sort.Coroutine
declared_sort declares.Const = sort.Const
declared_sort declares.Param = sort.Param

-- what a call declares, without the terms in it: each id by its number
abbrev pub declared_item : (ℕ → ℕ) → DeclarationKindCall → ItemLabel
declared_item ids (declares.Trait params) = trait_item params
declared_item ids (declares.AssocTy p) = assoc_ty_item (ids p)
declared_item ids (declares.Inherent p) = inherent_item (ids p)
declared_item ids (declares.Fn vars ts kind) = fn_item kind
declared_item ids k = plain_item (declared_sort k)

-- what the call declares has no terms
abbrev pub HasNoTerms : DeclarationKindCall → Type 0
HasNoTerms (declares.Fn vars ts kind) = ⊥
HasNoTerms _ = ⊤

-- the positions of ids that the variables of a function's signature name
abbrev pub declared_ids : DeclarationKindCall → List Named
declared_ids (declares.Fn vars ts kind) = variables_ids vars.items
declared_ids _ = []

-- the positions that a declaration names: its trait, its implementation, or the types of its signature
abbrev pub declared_positions : DeclarationKindCall → List Named
declared_positions (declares.AssocTy p) = record { want = of_id sort.Trait; position = p } ∷ []
declared_positions (declares.Inherent p) = record { want = of_id sort.Impl; position = p } ∷ []
declared_positions (declares.Fn vars ts kind) = part_positions (a_list TypeLists (terms_at Types ts.items))
declared_positions _ = []

-- the trees of a list, in order
abbrev pub all_trees : {X : Type 0} → (X → Tree Depth) → List X → Forest Depth
all_trees of_one [] = none
all_trees of_one (x ∷ xs) = also (of_one x) (all_trees of_one xs)

-- the number of the id at each position (ids), and the tree at each position (at)
module _ (ids : ℕ → ℕ) (at : ℕ → Tree Depth) where
  -- the tree of an item
  abbrev pub item_tree : Item → Tree Depth
  item_tree (a_region r) = region_call_tree ids r
  item_tree (a_term t p) = at p
  item_tree (a_clause p) = at p

  -- the trees of items, in order
  abbrev pub items_trees : List Item → Forest Depth
  items_trees is = all_trees item_tree is

  -- the tree of a child
  abbrev pub part_tree : Part → Tree Depth
  part_tree (one i) = item_tree i
  part_tree (a_list t is) = tree.node (list_label t) (items_trees is)

  -- the trees of the terms in what a call declares: a function's variables, and its types
  abbrev pub declared_trees : DeclarationKindCall → Forest Depth
  declared_trees (declares.Fn vars ts kind) =
      also (tree.node (var_list_label (map (variable_kind ids) vars.items)) none)
      (also (part_tree (a_list TypeLists (terms_at Types ts.items))) none)
  declared_trees _ = none

  -- the tree of the declaration that a call makes as the declaration of number n
  abbrev pub declaration_tree : ℕ → DeclareCall → Tree Depth
  declaration_tree n d = tree.node (declaration_label n (declared_item ids d.kind) (string_bytes d.name))
      (declared_trees d.kind)

  -- the trees of children, in order
  abbrev pub call_parts_trees : List Part → Forest Depth
  call_parts_trees [] = none
  call_parts_trees (p ∷ ps) = also (part_tree p) (call_parts_trees ps)

  -- the tree of the record under a predicate's binder
  abbrev pub record_tree : RecordCall → Tree Depth
  record_tree r = tree.node (record_label r.label) (call_parts_trees r.parts)

  -- the tree of an existential predicate
  abbrev pub existential_tree : ExistentialForm → Tree Depth
  existential_tree x = tree.term existential_label (also (tree.binder x.vars (record_tree x.under)) none)

  -- the tree of a list of existential predicates
  abbrev pub existentials_tree : List ExistentialForm → Tree Depth
  existentials_tree xs = tree.node (list_label ExistentialLists) (all_trees existential_tree xs)

  -- the tree of a list of clauses
  abbrev pub clauses_tree : List ℕ → Tree Depth
  clauses_tree ps = tree.term clause_list_label (items_trees (clause_items ps))

  -- the tree of what a call builds
  abbrev pub form_tree : CallForm → Tree Depth
  form_tree (param s i name) = tree.param s i name
  form_tree (bound s d e) = tree.bound s d e
  form_tree (plain l ps) = tree.term l (call_parts_trees ps)
  form_tree (under l vs m ps) = tree.term l
      (also (tree.binder vs (tree.node (record_label m) (call_parts_trees ps))) none)
  form_tree (trait_object xs r) = tree.term (type_label dynamic_type)
      (also (existentials_tree xs) (also (region_call_tree ids r) none))
