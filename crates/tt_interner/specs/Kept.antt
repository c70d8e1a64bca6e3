-- The contents of an interner's fields.
use Rattle.std.specs.String.{string_bytes}
use Rattle.tt_interner.specs.declared.interner.Interner.TheInside.{Inside}
use Rattle.tt_interner.specs.Rows.{type_row, const_row, pat_row, predicate_row, existential_row, clauses_row, tys_row}
use Rattle.tt_interner.specs.Rows.{consts_row, args_row, pats_row, vars_row, existentials_row, assumptions_row}
use Rattle.tt_interner.specs.Rows.{text_row}
use Rattle.tt_interner.specs.Stored.{Terms}
use Rattle.tt_interner.specs.Tables.{Tables, no_info, entries_by, declared_entries, defined_entries, rows_in_order}
use Rattle.tt_interner.specs.Tables.{Keeps}

-- the interner's tables, with their entries
abbrev pub tables : Inside → Tables
tables i = record {
  types = entries_by type_row (λ v. v) i.types.entries;
  consts = entries_by const_row (λ v. v) i.consts.entries;
  patterns = entries_by pat_row (λ v. v) i.patterns.entries;
  predicates = entries_by predicate_row (λ v. v) i.predicates.entries;
  existentials = entries_by existential_row (λ v. v) i.existentials.entries;
  clause_lists = entries_by (λ k. clauses_row k.items) (λ v. v) i.clause_lists.entries;
  type_lists = entries_by (λ k. tys_row k.items) (λ v. v) i.type_lists.entries;
  const_lists = entries_by (λ k. consts_row k.items) (λ v. v) i.const_lists.entries;
  arg_lists = entries_by (λ k. args_row k.items) (λ v. v) i.arg_lists.entries;
  pattern_lists = entries_by (λ k. pats_row k.items) (λ v. v) i.pattern_lists.entries;
  var_lists = entries_by (λ k. vars_row k.items) (λ v. v) i.var_lists.entries;
  existential_lists = entries_by (λ k. existentials_row k.items) (λ v. v) i.existential_lists.entries;
  assumption_lists = entries_by (λ k. assumptions_row k.items) (λ v. v) i.assumption_lists.entries;
  symbols = entries_by (λ k. text_row (string_bytes k)) (λ v. no_info) i.symbols.entries;
  declarations = declared_entries 0 i.declarations.items;
  definitions = defined_entries i.definitions.entries;
}

-- the terms of the interner, as contracts see them
abbrev pub terms : Inside → Terms
terms i = record {
  rows = rows_in_order i.order.items (tables i);
  limit = i.limit;
  counters = record { descents = i.descents; shift_descents = i.shift_descents };
}

-- the fields agree with each other
abbrev pub AreKept : Inside → Type 0
AreKept i = Keeps i.order.items (tables i) i.limit
