use Rattle.std.proofs.lemmas.Result.{err_from_is_err_and}
use Rattle.tt_kinds.specs.Label.{type_sort, bare_type_record, error_of_type}
use Rattle.tt_kinds.specs.Kinds.{ty_form}
use Rattle.tt_fold.proofs.BareLaws.{bare-parts, bare-binder, bare_fails, bare_folds}
use Rattle.tt_fold.proofs.bare.TyKindTypeFoldable.fold_core.Goals as goal

pub fold_contents-requires-clause-binder : goal.fold_contents-requires-clause-binder
fold_contents-requires-clause-binder g c =
    rw c.bound_vars.ensures (bare-binder type_sort bare_type_record error_of_type _ (ty_form c.args.self) c.requires.value)

pub fold_contents-requires-clause-parts : goal.fold_contents-requires-clause-parts
fold_contents-requires-clause-parts g c =
    rw c.parts.ensures (bare-parts type_sort bare_type_record error_of_type _ (ty_form c.args.self) c.requires.value)

pub returns-in_err-parts-clause-folds : goal.returns-in_err-parts-clause-folds
returns-in_err-parts-clause-folds g c =
    let p = err_from_is_err_and c.from_residual.result c.from_residual.ensures.1 in
    let d = rw (c.parts.ensures, c.bound_vars.ensures) at c.in_err-parts.ensures in
    rw (p.1, p.2) (bare_fails type_sort bare_type_record error_of_type ty_form d)

pub with_parts-requires : goal.with_parts-requires
with_parts-requires g c =
    let d = rw (c.parts.ensures, c.bound_vars.ensures) at c.in_ok-parts.ensures in
    d.outcome.0.like

pub returns-clause-folds : goal.returns-clause-folds
returns-clause-folds g c =
    let d = rw (c.parts.ensures, c.bound_vars.ensures) at c.in_ok-parts.ensures in
    bare_folds type_sort bare_type_record error_of_type ty_form c.requires.value c.with_parts.ensures d
