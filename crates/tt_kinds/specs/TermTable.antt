-- The tables of terms, and of lists of terms.
use Rattle.std.specs.Prelude.{Bool, true, false}
use Rattle.tt_kinds.specs.declared.table.Table.{Table}
use Rattle.tt_kinds.specs.declared.table.Table.TheVariants as table
use Rattle.tt_kinds.specs.declared.table.TermTable.{TermTable}
use Rattle.tt_kinds.specs.declared.table.TermTable.TheVariants as terms_of

-- the table
abbrev pub term_table : TermTable → Table
term_table terms_of.Types = table.Types
term_table terms_of.Consts = table.Consts
term_table terms_of.Patterns = table.Patterns
term_table terms_of.Predicates = table.Predicates
term_table terms_of.Existentials = table.Existentials
term_table terms_of.ClauseLists = table.ClauseLists
term_table terms_of.TypeLists = table.TypeLists
term_table terms_of.ConstLists = table.ConstLists
term_table terms_of.ArgLists = table.ArgLists
term_table terms_of.PatternLists = table.PatternLists
term_table terms_of.ExistentialLists = table.ExistentialLists

-- the rows of the table are lists
abbrev pub has_items : TermTable → Bool
has_items terms_of.ClauseLists = true
has_items terms_of.TypeLists = true
has_items terms_of.ConstLists = true
has_items terms_of.ArgLists = true
has_items terms_of.PatternLists = true
has_items terms_of.ExistentialLists = true
has_items _ = false

-- the rows of the table are terms: a list of clauses is a term too
abbrev pub is_term : TermTable → Bool
is_term terms_of.TypeLists = false
is_term terms_of.ConstLists = false
is_term terms_of.ArgLists = false
is_term terms_of.PatternLists = false
is_term terms_of.ExistentialLists = false
is_term _ = true

-- the table is the one of lists of clauses
abbrev pub is_clause_table : TermTable → Bool
is_clause_table terms_of.ClauseLists = true
is_clause_table _ = false
