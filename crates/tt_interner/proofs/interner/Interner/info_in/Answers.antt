-- what is kept beside an entry is what its tree has
use Rattle.std.proofs.Common.{refl}
use Rattle.tt_kinds.specs.declared.table.Table.TheVariants.{Types, Consts, Patterns, Predicates, Existentials}
use Rattle.tt_kinds.specs.declared.table.Table.TheVariants.{ClauseLists, TypeLists, ConstLists, ArgLists, PatternLists}
use Rattle.tt_kinds.specs.declared.table.Table.TheVariants.{VarLists, ExistentialLists, AssumptionLists}
use Rattle.tt_interner.specs.Rows.{type_row, const_row, pat_row, predicate_row, existential_row, clauses_row, tys_row}
use Rattle.tt_interner.specs.Rows.{consts_row, args_row, pats_row, vars_row, existentials_row, assumptions_row}
use Rattle.tt_interner.proofs.TableLaws.{info_within}
use Rattle.tt_interner.proofs.interner.Interner.info_in.Goals as goal

pub returns-in-Types : goal.returns-in-Types
returns-in-Types c = rw (c.in-Types.is, ← c.self.view_is) (info_within _ _ _ c.self.invariant.tables Types type_row c.self.inside.types.entries refl refl _ _ c.info_at.ensures)

pub returns-in-Consts : goal.returns-in-Consts
returns-in-Consts c = rw (c.in-Consts.is, ← c.self.view_is) (info_within _ _ _ c.self.invariant.tables Consts const_row c.self.inside.consts.entries refl refl _ _ c.info_at-in-Consts.ensures)

pub returns-in-Patterns : goal.returns-in-Patterns
returns-in-Patterns c = rw (c.in-Patterns.is, ← c.self.view_is) (info_within _ _ _ c.self.invariant.tables Patterns pat_row c.self.inside.patterns.entries refl refl _ _ c.info_at-in-Patterns.ensures)

pub returns-in-Predicates : goal.returns-in-Predicates
returns-in-Predicates c = rw (c.in-Predicates.is, ← c.self.view_is) (info_within _ _ _ c.self.invariant.tables Predicates predicate_row c.self.inside.predicates.entries refl refl _ _ c.info_at-in-Predicates.ensures)

pub returns-in-Existentials : goal.returns-in-Existentials
returns-in-Existentials c = rw (c.in-Existentials.is, ← c.self.view_is) (info_within _ _ _ c.self.invariant.tables Existentials existential_row c.self.inside.existentials.entries refl refl _ _ c.info_at-in-Existentials.ensures)

pub returns-in-ClauseLists : goal.returns-in-ClauseLists
returns-in-ClauseLists c = rw (c.in-ClauseLists.is, ← c.self.view_is) (info_within _ _ _ c.self.invariant.tables ClauseLists (λ k. clauses_row k.items) c.self.inside.clause_lists.entries refl refl _ _ c.info_at-in-ClauseLists.ensures)

pub returns-in-TypeLists : goal.returns-in-TypeLists
returns-in-TypeLists c = rw (c.in-TypeLists.is, ← c.self.view_is) (info_within _ _ _ c.self.invariant.tables TypeLists (λ k. tys_row k.items) c.self.inside.type_lists.entries refl refl _ _ c.info_at-in-TypeLists.ensures)

pub returns-in-ConstLists : goal.returns-in-ConstLists
returns-in-ConstLists c = rw (c.in-ConstLists.is, ← c.self.view_is) (info_within _ _ _ c.self.invariant.tables ConstLists (λ k. consts_row k.items) c.self.inside.const_lists.entries refl refl _ _ c.info_at-in-ConstLists.ensures)

pub returns-in-ArgLists : goal.returns-in-ArgLists
returns-in-ArgLists c = rw (c.in-ArgLists.is, ← c.self.view_is) (info_within _ _ _ c.self.invariant.tables ArgLists (λ k. args_row k.items) c.self.inside.arg_lists.entries refl refl _ _ c.info_at-in-ArgLists.ensures)

pub returns-in-PatternLists : goal.returns-in-PatternLists
returns-in-PatternLists c = rw (c.in-PatternLists.is, ← c.self.view_is) (info_within _ _ _ c.self.invariant.tables PatternLists (λ k. pats_row k.items) c.self.inside.pattern_lists.entries refl refl _ _ c.info_at-in-PatternLists.ensures)

pub returns-in-VarLists : goal.returns-in-VarLists
returns-in-VarLists c = rw (c.in-VarLists.is, ← c.self.view_is) (info_within _ _ _ c.self.invariant.tables VarLists (λ k. vars_row k.items) c.self.inside.var_lists.entries refl refl _ _ c.info_at-in-VarLists.ensures)

pub returns-in-ExistentialLists : goal.returns-in-ExistentialLists
returns-in-ExistentialLists c = rw (c.in-ExistentialLists.is, ← c.self.view_is) (info_within _ _ _ c.self.invariant.tables ExistentialLists (λ k. existentials_row k.items) c.self.inside.existential_lists.entries refl refl _ _ c.info_at-in-ExistentialLists.ensures)

pub returns-in-AssumptionLists : goal.returns-in-AssumptionLists
returns-in-AssumptionLists c = rw (c.in-AssumptionLists.is, ← c.self.view_is) (info_within _ _ _ c.self.invariant.tables AssumptionLists (λ k. assumptions_row k.items) c.self.inside.assumption_lists.entries refl refl _ _ c.info_at-in-AssumptionLists.ensures)
