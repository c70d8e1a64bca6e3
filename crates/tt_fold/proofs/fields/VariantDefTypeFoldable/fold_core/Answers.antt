use Rattle.std.proofs.Common.{refl}
use Rattle.std.proofs.lemmas.Result.{err_from_is_err_and}
use Rattle.tt_kinds.specs.Values.{option_shape, sequence_shape, tuple_shape}
use Rattle.tt_kinds.specs.Variant.{variant_of}
use Rattle.tt_visit.specs.Data.{name_shape, named_field_shape, named_variant_shape}
use Rattle.tt_fold.proofs.DataSteps.{alike_fails, alike_folds}
use Rattle.tt_fold.proofs.fields.VariantDefTypeFoldable.fold_core.Goals as goal

pub returns-in_err-folded-clause-folds : goal.returns-in_err-folded-clause-folds
returns-in_err-folded-clause-folds g c =
    let p = err_from_is_err_and c.from_residual.result c.from_residual.ensures.1 in
    rw (p.1, p.2) (alike_fails (λ v. named_variant_shape (variant_of v)) (tuple_shape (option_shape name_shape) (λ fields. sequence_shape named_field_shape fields.items)) c.args.self (c.args.self.name, c.args.self.fields) refl c.in_err-folded.ensures.folds)

pub returns-clause-folds : goal.returns-clause-folds
returns-clause-folds g c =
    alike_folds (λ v. named_variant_shape (variant_of v)) (tuple_shape (option_shape name_shape) (λ fields. sequence_shape named_field_shape fields.items)) c.args.self _ (c.args.self.name, c.args.self.fields) c.in_ok-folded.folded refl refl c.in_ok-folded.ensures.folds
