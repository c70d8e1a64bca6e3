use Rattle.tt_kinds.specs.declared.table.TermTable.TheVariants as terms_of
use Rattle.tt_fold.proofs.CoreSteps.{asks_after}
use Rattle.tt_fold.proofs.core_folder.AnyCorePlain.core_after_term.Goals as goal

pub returns-in-Types : goal.returns-in-Types
returns-in-Types g c =
    let h = c.after_ty.ensures in
    rw c.any_of.ensures (asks_after terms_of.Types g.F.TypeFolder.hooks c.typed.result c.typed-in-Types.result c.after_ty.result c.typed.ensures c.typed-in-Types.ensures h.extends h.owned h.result)

pub returns-in-Consts : goal.returns-in-Consts
returns-in-Consts g c =
    let h = c.after_const.ensures in
    rw c.any_of-in-Consts.ensures (asks_after terms_of.Consts g.F.TypeFolder.hooks c.typed-in-Consts.result c.typed-in-Consts-2.result c.after_const.result c.typed-in-Consts.ensures c.typed-in-Consts-2.ensures h.extends h.owned h.result)

pub returns-in-Predicates : goal.returns-in-Predicates
returns-in-Predicates g c =
    let h = c.after_predicate.ensures in
    rw c.any_of-in-Predicates.ensures (asks_after terms_of.Predicates g.F.TypeFolder.hooks c.typed-in-Predicates.result c.typed-in-Predicates-2.result c.after_predicate.result c.typed-in-Predicates.ensures c.typed-in-Predicates-2.ensures h.extends h.owned h.result)

pub returns-in-ClauseLists : goal.returns-in-ClauseLists
returns-in-ClauseLists g c =
    let h = c.after_clauses.ensures in
    rw c.any_of-in-ClauseLists.ensures (asks_after terms_of.ClauseLists g.F.TypeFolder.hooks c.typed-in-ClauseLists.result c.typed-in-ClauseLists-2.result c.after_clauses.result c.typed-in-ClauseLists.ensures c.typed-in-ClauseLists-2.ensures h.extends h.owned h.result)
