use Rattle.std.proofs.lemmas.Result.{err_from_is_err_and}
use Rattle.tt_kinds.specs.Kinds.{clause_form}
use Rattle.tt_fold.proofs.RecordSteps.{record-parts, parts_fail, parts_fold}
use Rattle.tt_fold.proofs.records.ClauseKindTypeFoldable.fold_core.Goals as goal

pub fold_parts-requires-clause-parts : goal.fold_parts-requires-clause-parts
fold_parts-requires-clause-parts g c =
    rw c.parts.ensures (record-parts _ (clause_form c.args.self) c.requires.value)

pub returns-in_err-parts-clause-folds : goal.returns-in_err-parts-clause-folds
returns-in_err-parts-clause-folds g c =
    let p = err_from_is_err_and c.from_residual.result c.from_residual.ensures.1 in
    let d = rw c.parts.ensures at c.in_err-parts.ensures in
    rw (p.1, p.2) (parts_fail clause_form d)

pub with_parts-requires : goal.with_parts-requires
with_parts-requires g c =
    let d = rw c.parts.ensures at c.in_ok-parts.ensures in
    d.outcome.0.like

pub returns-clause-folds : goal.returns-clause-folds
returns-clause-folds g c =
    let d = rw c.parts.ensures at c.in_ok-parts.ensures in
    parts_fold clause_form c.requires.value c.with_parts.ensures d
