use Rattle.std.proofs.Common.{◌∙◌}
use Rattle.std.proofs.lemmas.Result.{err_from_is_err_and}
use Rattle.tt_binder.proofs.FieldLaws.{fields_among-more, some-among}
use Rattle.tt_binder.proofs.fields.list_variants.Goals as goal

pub returns-in_err-list_fields-clause-refused : goal.returns-in_err-list_fields-clause-refused
returns-in_err-list_fields-clause-refused c =
    let p = err_from_is_err_and c.from_residual.result c.from_residual.ensures.1 in
    let refused = c.in_err-list_fields.ensures.refused in
    rw (p.1, p.2) (
      refused.0,
      some-among c.args.base 0 c.args.variants.now c.loop-index.index c.index-variants-index.result c.loop-index-test.true c.index-variants-index.is
          (λ e. refused.1 (c.as_slice.ensures.value ∙ e)),
    )

pub loop-index-preserved : goal.loop-index-preserved
loop-index-preserved c =
    fields_among-more c.args.base c.args.variants.now c.loop-index.index c.index-variants-index.result c.loop-index.fields.items c.list_fields.new.list.items c.loop-index-test.true
    c.index-variants-index.is c.loop-index.invariant (rw (c.from_usize-place.ensures, c.as_slice.ensures.value) at c.in_ok-list_fields.ensures.added)
