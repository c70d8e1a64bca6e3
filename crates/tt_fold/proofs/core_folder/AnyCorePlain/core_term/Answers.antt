use Rattle.tt_kinds.specs.declared.table.TermTable.TheVariants as terms_of
use Rattle.tt_fold.proofs.CoreSteps.{asks}
use Rattle.tt_fold.proofs.core_folder.AnyCorePlain.core_term.Goals as goal

pub returns-in-Types-clause-goes : goal.returns-in-Types-clause-goes
returns-in-Types-clause-goes g c =
    let h = c.fold_ty.ensures in
    rw c.step_of.ensures (asks terms_of.Types g.F.TypeFolder.hooks c.typed.result c.fold_ty.result c.typed.ensures h.extends h.owned h.result)

pub returns-in-Types-clause-still : goal.returns-in-Types-clause-still
returns-in-Types-clause-still g c = λ nothing. c.fold_ty.ensures.still (rw c.typed.ensures at nothing)

pub returns-in-Consts-clause-goes : goal.returns-in-Consts-clause-goes
returns-in-Consts-clause-goes g c =
    let h = c.fold_const.ensures in
    rw c.step_of-in-Consts.ensures (asks terms_of.Consts g.F.TypeFolder.hooks c.typed-in-Consts.result c.fold_const.result c.typed-in-Consts.ensures h.extends h.owned h.result)

pub returns-in-Consts-clause-still : goal.returns-in-Consts-clause-still
returns-in-Consts-clause-still g c = λ nothing. c.fold_const.ensures.still (rw c.typed-in-Consts.ensures at nothing)

pub returns-in-Predicates-clause-goes : goal.returns-in-Predicates-clause-goes
returns-in-Predicates-clause-goes g c =
    let h = c.fold_predicate.ensures in
    rw c.step_of-in-Predicates.ensures (asks terms_of.Predicates g.F.TypeFolder.hooks c.typed-in-Predicates.result c.fold_predicate.result c.typed-in-Predicates.ensures h.extends h.owned h.result)

pub returns-in-Predicates-clause-still : goal.returns-in-Predicates-clause-still
returns-in-Predicates-clause-still g c = λ nothing. c.fold_predicate.ensures.still (rw c.typed-in-Predicates.ensures at nothing)

pub returns-in-ClauseLists-clause-goes : goal.returns-in-ClauseLists-clause-goes
returns-in-ClauseLists-clause-goes g c =
    let h = c.fold_clauses.ensures in
    rw c.step_of-in-ClauseLists.ensures (asks terms_of.ClauseLists g.F.TypeFolder.hooks c.typed-in-ClauseLists.result c.fold_clauses.result c.typed-in-ClauseLists.ensures h.extends h.owned h.result)

pub returns-in-ClauseLists-clause-still : goal.returns-in-ClauseLists-clause-still
returns-in-ClauseLists-clause-still g c = λ nothing. c.fold_clauses.ensures.still (rw c.typed-in-ClauseLists.ensures at nothing)
