use Rattle.std.proofs.lemmas.Result.{err_from_is_err_and}
use Rattle.tt_interner.proofs.Growth.{AreParts-grows}
use Rattle.tt_kinds.specs.Kinds.{child_shapes}
use Rattle.tt_fold.proofs.PartLaws.{left_parts, right_parts}
use Rattle.tt_fold.proofs.FoldSteps.{parts_first_fails, parts_second_fails, parts_fold}
use Rattle.tt_fold.proofs.walk.fold_parts.Goals as goal

pub fold_child-requires-clause-child : goal.fold_child-requires-clause-child
fold_child-requires-clause-child g c =
    left_parts _ (child_shapes c.args.parts.first) (child_shapes c.args.parts.second) c.requires.parts

pub returns-in_err-first : goal.returns-in_err-first
returns-in_err-first g c =
    let p = err_from_is_err_and c.from_residual.result c.from_residual.ensures.1 in
    rw (p.1, p.2) (parts_first_fails c.in_err-first.ensures.folds)

pub fold_child-requires-2-clause-child : goal.fold_child-requires-2-clause-child
fold_child-requires-2-clause-child g c =
    let second = right_parts _ (child_shapes c.args.parts.first) (child_shapes c.args.parts.second) c.requires.parts in
    AreParts-grows _ _ c.in_ok-first.ensures.folds.extends.rows _ second

pub returns-in_err-second : goal.returns-in_err-second
returns-in_err-second g c =
    let p = err_from_is_err_and c.from_residual-in_err-second.result c.from_residual-in_err-second.ensures.1 in
    rw (p.1, p.2) (parts_second_fails c.requires.parts c.in_ok-first.ensures.folds c.in_err-second.ensures.folds)

pub returns : goal.returns
returns g c =
    parts_fold c.requires.parts c.in_ok-first.ensures.folds c.in_ok-second.ensures.folds
