-- How visitors and folders treat a tree, by its root.
use Rattle.std.specs.Prelude.{ℕ, Option, Some, None}
use Rattle.tt_kinds.specs.Label.{Sort, region_sort, type_sort, const_sort, Label, error_of_type, error_of_const}
use Rattle.tt_kinds.specs.Label.{type_label, const_label, pattern_label, predicate_label, existential_label}
use Rattle.tt_kinds.specs.Label.{clause_list_label, list_label, record_label, error_label, clause_label}
use Rattle.tt_kinds.specs.declared.table.Table.{Table}
use Rattle.tt_kinds.specs.declared.table.Table.TheVariants.{Types, Consts, Patterns, Predicates, Existentials}
use Rattle.tt_kinds.specs.declared.table.Table.TheVariants.{ClauseLists, VarLists, Symbols, Declarations, Definitions}
use Rattle.tt_kinds.specs.Tree.{Tree, param, bound, region, term, node, binder}

-- a region; a stored term with a hook of its own, or without one; a list, a record or a binder; or none of these
pub data Root : Type 0 where
  a_region hooked unhooked a_part no_term : Root

-- the root of a parameter or a bound variable of a sort
abbrev pub sort_root : Sort → Root
sort_root region_sort = a_region
sort_root type_sort = hooked
sort_root const_sort = hooked

-- the root of a stored term of a label: types, constants, predicates and clause lists have a hook
abbrev pub term_root : {N : Type 0} → Label N → Root
term_root (type_label l) = hooked
term_root (const_label l) = hooked
term_root predicate_label = hooked
term_root clause_list_label = hooked
term_root (pattern_label l) = unhooked
term_root existential_label = unhooked
term_root _ = no_term

-- the root of the terms or lists of a table
abbrev pub table_root : Table → Root
table_root Types = hooked
table_root Consts = hooked
table_root Predicates = hooked
table_root ClauseLists = hooked
table_root Patterns = unhooked
table_root Existentials = unhooked
table_root VarLists = no_term
table_root Symbols = no_term
table_root Declarations = no_term
table_root Definitions = no_term
table_root _ = a_part

-- the root of a list or a record of a label
abbrev pub node_root : {N : Type 0} → Label N → Root
node_root (list_label t) = a_part
node_root (record_label l) = a_part
node_root clause_label = a_part
node_root _ = no_term

-- the root of a tree
abbrev pub root : {I : Type 0} → Tree I → Root
root (param s i name) = sort_root s
root (bound s d e) = sort_root s
root (region r) = a_region
root (term l ts) = term_root l
root (node l ts) = node_root l
root (binder vs t) = a_part

-- the token of a label's error, if it has one
abbrev pub error_of : {N : Type 0} → Label N → Option ℕ
error_of (type_label l) = error_of_type l
error_of (const_label l) = error_of_const l
error_of (error_label e) = Some e
error_of _ = None
