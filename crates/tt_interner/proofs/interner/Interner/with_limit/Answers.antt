-- the tables have their first rows
use Rattle.std.proofs.Common.{◌≡◌, List, [], ◌∷◌, ◌++◌, ap, arith, ◌∙◌}
use Rattle.std.proofs.lemmas.Result.{err_from_is_err_and}
use Rattle.std.specs.String.{string_bytes}
use Rattle.tt_interner.specs.Rows.{type_row, const_row, pat_row, predicate_row, existential_row, clauses_row, tys_row}
use Rattle.tt_interner.specs.Rows.{consts_row, args_row, pats_row, vars_row, existentials_row, assumptions_row}
use Rattle.tt_interner.specs.Rows.{text_row}
use Rattle.tt_kinds.specs.declared.table.Table.{Table}
use Rattle.tt_kinds.specs.declared.table.Table.TheVariants.{TypeLists, ArgLists, VarLists, ConstLists, PatternLists}
use Rattle.tt_kinds.specs.declared.table.Table.TheVariants.{ClauseLists, ExistentialLists, AssumptionLists, Symbols}
use Rattle.tt_interner.specs.Tables.{no_info, entries_by, declared_entries, defined_entries}
use Rattle.tt_interner.proofs.TableLaws.{Keeps-first, rows_are_first, are_first_tables, entries_by-first, first_order}
use Rattle.tt_interner.proofs.interner.Interner.with_limit.Goals as goal
use Rattle.tt_interner.specs.Stored.{anonymous_text}

-- the order of the first entries
in_first_order : (a b c d : List Table) → a ≡ [] → b ≡ a ++ TypeLists ∷ ArgLists ∷ VarLists ∷ ConstLists ∷ [] → c ≡ b ++ PatternLists ∷ ClauseLists ∷ ExistentialLists ∷ AssumptionLists ∷ [] → d ≡ c ++ Symbols ∷ [] → d ≡ first_order
in_first_order a b c d p q r s =
    s ∙ ap (λ l. l ++ Symbols ∷ []) (r ∙ ap (λ l. l ++ PatternLists ∷ ClauseLists ∷ ExistentialLists ∷ AssumptionLists ∷ []) (q ∙ ap (λ l. l ++ TypeLists ∷ ArgLists ∷ VarLists ∷ ConstLists ∷ []) p))

pub invariant_of-result : goal.invariant_of-result
invariant_of-result c = Keeps-first _ _ _
    (in_first_order _ _ _ _ c.new-order.ensures.items c.in_ok-first.ensures.order c.in_ok-more.ensures.order c.in_ok-symbols.ensures.order)
    (are_first_tables _ (record {
      types = ap (entries_by type_row (λ v. v)) c.new.ensures.empty;
      consts = ap (entries_by const_row (λ v. v)) c.new-2.ensures.empty;
      patterns = ap (entries_by pat_row (λ v. v)) c.new-3.ensures.empty;
      predicates = ap (entries_by predicate_row (λ v. v)) c.new-4.ensures.empty;
      existentials = ap (entries_by existential_row (λ v. v)) c.new-5.ensures.empty;
      type_lists = entries_by-first (λ k. k.items) tys_row (λ v. v) c.in_ok-first.first.type_lists.entries [] no_info c.in_ok-first.ensures.types;
      arg_lists = entries_by-first (λ k. k.items) args_row (λ v. v) c.in_ok-first.first.arg_lists.entries [] no_info c.in_ok-first.ensures.args;
      var_lists = entries_by-first (λ k. k.items) vars_row (λ v. v) c.in_ok-first.first.var_lists.entries [] no_info c.in_ok-first.ensures.vars;
      const_lists = entries_by-first (λ k. k.items) consts_row (λ v. v) c.in_ok-first.first.const_lists.entries [] no_info c.in_ok-first.ensures.consts;
      pattern_lists = entries_by-first (λ k. k.items) pats_row (λ v. v) c.in_ok-more.more.pattern_lists.entries [] no_info c.in_ok-more.ensures.patterns;
      clause_lists = entries_by-first (λ k. k.items) clauses_row (λ v. v) c.in_ok-more.more.clause_lists.entries [] no_info c.in_ok-more.ensures.clauses;
      existential_lists = entries_by-first (λ k. k.items) existentials_row (λ v. v) c.in_ok-more.more.existential_lists.entries [] no_info c.in_ok-more.ensures.existentials;
      symbols = entries_by-first (λ k. string_bytes k) text_row (λ v. no_info) c.in_ok-symbols.symbols.entries anonymous_text tt c.in_ok-symbols.ensures.entries;
      assumption_lists = entries_by-first (λ k. k.items) assumptions_row (λ v. v) c.in_ok-more.more.assumption_lists.entries [] no_info c.in_ok-more.ensures.assumptions;
      declarations = ap (declared_entries 0) c.new-6.ensures.items;
      definitions = ap defined_entries c.new-7.ensures.empty;
    }))
    (omega arith) (omega arith)

pub returns-clause-rows : goal.returns-clause-rows
returns-clause-rows c = rows_are_first _ _
    (in_first_order _ _ _ _ c.new-order.ensures.items c.in_ok-first.ensures.order c.in_ok-more.ensures.order c.in_ok-symbols.ensures.order)
    (are_first_tables _ (record {
      types = ap (entries_by type_row (λ v. v)) c.new.ensures.empty;
      consts = ap (entries_by const_row (λ v. v)) c.new-2.ensures.empty;
      patterns = ap (entries_by pat_row (λ v. v)) c.new-3.ensures.empty;
      predicates = ap (entries_by predicate_row (λ v. v)) c.new-4.ensures.empty;
      existentials = ap (entries_by existential_row (λ v. v)) c.new-5.ensures.empty;
      type_lists = entries_by-first (λ k. k.items) tys_row (λ v. v) c.in_ok-first.first.type_lists.entries [] no_info c.in_ok-first.ensures.types;
      arg_lists = entries_by-first (λ k. k.items) args_row (λ v. v) c.in_ok-first.first.arg_lists.entries [] no_info c.in_ok-first.ensures.args;
      var_lists = entries_by-first (λ k. k.items) vars_row (λ v. v) c.in_ok-first.first.var_lists.entries [] no_info c.in_ok-first.ensures.vars;
      const_lists = entries_by-first (λ k. k.items) consts_row (λ v. v) c.in_ok-first.first.const_lists.entries [] no_info c.in_ok-first.ensures.consts;
      pattern_lists = entries_by-first (λ k. k.items) pats_row (λ v. v) c.in_ok-more.more.pattern_lists.entries [] no_info c.in_ok-more.ensures.patterns;
      clause_lists = entries_by-first (λ k. k.items) clauses_row (λ v. v) c.in_ok-more.more.clause_lists.entries [] no_info c.in_ok-more.ensures.clauses;
      existential_lists = entries_by-first (λ k. k.items) existentials_row (λ v. v) c.in_ok-more.more.existential_lists.entries [] no_info c.in_ok-more.ensures.existentials;
      symbols = entries_by-first (λ k. string_bytes k) text_row (λ v. no_info) c.in_ok-symbols.symbols.entries anonymous_text tt c.in_ok-symbols.ensures.entries;
      assumption_lists = entries_by-first (λ k. k.items) assumptions_row (λ v. v) c.in_ok-more.more.assumption_lists.entries [] no_info c.in_ok-more.ensures.assumptions;
      declarations = ap (declared_entries 0) c.new-6.ensures.items;
      definitions = ap defined_entries c.new-7.ensures.empty;
    }))

pub returns-in_err-symbols-clause-cause : goal.returns-in_err-symbols-clause-cause
returns-in_err-symbols-clause-cause c = λ positive.
    let p = err_from_is_err_and c.from_residual-in_err-symbols.result c.from_residual-in_err-symbols.ensures.1 in
    rw (p.1, p.2) c.in_err-symbols.ensures.cause
