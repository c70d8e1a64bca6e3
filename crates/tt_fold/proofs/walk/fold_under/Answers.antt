use Rattle.std.proofs.lemmas.Result.{err_from_is_err_and}
use Rattle.tt_interner.proofs.Growth.{Extends-trans, AreParts-grows}
use Rattle.tt_fold.specs.Walk.{in_enter_failed}
use Rattle.tt_fold.proofs.PartLaws.{vars-kept}
use Rattle.tt_fold.proofs.FoldSteps.{under_parts_fail, under_leave_fails, under_folds}
use Rattle.tt_fold.proofs.walk.fold_under.Goals as goal

pub returns-in_err-core_enter : goal.returns-in_err-core_enter
returns-in_err-core_enter g c =
    let p = err_from_is_err_and c.from_residual.result c.from_residual.ensures.1 in
    rw (p.1, p.2) (record { extends = c.in_err-core_enter.ensures.extends; is_owned = c.in_err-core_enter.ensures.owned; outcome = in_enter_failed c.in_err-core_enter.ensures.result })

pub fold_parts-requires-clause-parts : goal.fold_parts-requires-clause-parts
fold_parts-requires-clause-parts g c =
    AreParts-grows _ _ c.in_ok-core_enter.ensures.extends.rows _ c.requires.parts

pub returns-in_err-new_parts : goal.returns-in_err-new_parts
returns-in_err-new_parts g c =
    let p = err_from_is_err_and c.from_residual-in_err-new_parts.result c.from_residual-in_err-new_parts.ensures.1 in
    let h = c.in_ok-core_enter.ensures in
    rw (p.1, p.2) (under_parts_fail _ c.requires.parts h.extends h.result c.in_err-new_parts.ensures)

pub core_leave-requires-clause-vars : goal.core_leave-requires-clause-vars
core_leave-requires-clause-vars g c =
    vars-kept (Extends-trans c.in_ok-core_enter.ensures.extends c.in_ok-new_parts.ensures.extends).rows _ c.requires.vars

pub returns-in_err-core_leave : goal.returns-in_err-core_leave
returns-in_err-core_leave g c =
    let p = err_from_is_err_and c.from_residual-in_err-core_leave.result c.from_residual-in_err-core_leave.ensures.1 in
    let h = c.in_ok-core_enter.ensures in
    let l = c.in_err-core_leave.ensures in
    rw (p.1, p.2) (under_leave_fails _ c.requires.vars c.requires.parts h.extends h.result c.in_ok-new_parts.ensures l.extends l.owned l.result)

pub returns : goal.returns
returns g c =
    let h = c.in_ok-core_enter.ensures in
    let l = c.in_ok-core_leave.ensures in
    under_folds _ c.requires.vars c.requires.parts h.extends h.result c.in_ok-new_parts.ensures l.extends l.owned l.result
