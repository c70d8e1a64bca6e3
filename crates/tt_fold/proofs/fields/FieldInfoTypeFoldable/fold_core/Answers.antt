use Rattle.std.proofs.Common.{refl}
use Rattle.std.proofs.lemmas.Result.{err_from_is_err_and}
use Rattle.tt_kinds.specs.Kinds.{ty_shape}
use Rattle.tt_kinds.specs.Values.{option_shape, tuple_shape, triple_shape}
use Rattle.tt_visit.specs.Data.{data_shape, number_data, name_shape, field_info_shape}
use Rattle.tt_fold.proofs.DataSteps.{alike_fails, alike_folds}
use Rattle.tt_fold.proofs.fields.FieldInfoTypeFoldable.fold_core.Goals as goal

pub returns-in_err-folded-clause-folds : goal.returns-in_err-folded-clause-folds
returns-in_err-folded-clause-folds g c =
    let p = err_from_is_err_and c.from_residual.result c.from_residual.ensures.1 in
    rw (p.1, p.2) (alike_fails field_info_shape (triple_shape (tuple_shape ty_shape ty_shape) (tuple_shape (option_shape name_shape) (λ i. data_shape (number_data 4 i))) (tuple_shape name_shape (λ i. data_shape (number_data 4 i)))) c.args.self ((c.args.self.base, c.args.self.ty), (c.args.self.variant, c.args.self.variant_idx), (c.args.self.name, c.args.self.field_idx)) refl c.in_err-folded.ensures.folds)

pub returns-clause-folds : goal.returns-clause-folds
returns-clause-folds g c =
    alike_folds field_info_shape (triple_shape (tuple_shape ty_shape ty_shape) (tuple_shape (option_shape name_shape) (λ i. data_shape (number_data 4 i))) (tuple_shape name_shape (λ i. data_shape (number_data 4 i)))) c.args.self _ ((c.args.self.base, c.args.self.ty), (c.args.self.variant, c.args.self.variant_idx), (c.args.self.name, c.args.self.field_idx)) c.in_ok-folded.folded refl refl c.in_ok-folded.ensures.folds
