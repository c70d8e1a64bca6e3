use Rattle.std.proofs.Common.{refl}
use Rattle.std.proofs.lemmas.Result.{err_from_is_err_and}
use Rattle.tt_kinds.specs.Label.{type_and_mut_record}
use Rattle.tt_kinds.specs.Kinds.{ty_shape}
use Rattle.tt_kinds.specs.Values.{type_and_mut_shape}
use Rattle.tt_fold.proofs.RecordSteps.{one-inner, one_fails, one_folds}
use Rattle.tt_fold.proofs.records.TypeAndMutTypeFoldable.fold_core.Goals as goal

pub fold_core-requires-clause-value : goal.fold_core-requires-clause-value
fold_core-requires-clause-value g c =
    one-inner _ (type_and_mut_record c.args.self.mutbl) (ty_shape (c.args.self.ty)) c.requires.value

pub returns-in_err-ty-clause-folds : goal.returns-in_err-ty-clause-folds
returns-in_err-ty-clause-folds g c =
    let p = err_from_is_err_and c.from_residual.result c.from_residual.ensures.1 in
    rw (p.1, p.2) (one_fails type_and_mut_shape ty_shape (type_and_mut_record c.args.self.mutbl) c.args.self (c.args.self.ty) refl c.in_err-ty.ensures.folds)

pub returns-clause-folds : goal.returns-clause-folds
returns-clause-folds g c =
    one_folds type_and_mut_shape ty_shape (type_and_mut_record c.args.self.mutbl) (record { same = λ f g. refl; named = λ size. tt }) c.args.self _ (c.args.self.ty) c.in_ok-ty.ty refl refl c.in_ok-ty.ensures.folds
