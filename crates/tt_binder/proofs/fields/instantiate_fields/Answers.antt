use Rattle.std.proofs.lemmas.Result.{err_from_is_err_and}
use Rattle.tt_binder.proofs.FieldLaws.{to-args, to-own, to-more, to-stops}
use Rattle.tt_binder.proofs.fields.instantiate_fields.Goals as goal

pub instantiated-requires-clause-args : goal.instantiated-requires-clause-args
instantiated-requires-clause-args c =
    to-args c.args.args c.args.fields.now c.loop-field.fields c.loop-field.field-index c.args.cx.now c.loop-field.cx c.loop-field.auto.fields c.loop-field.invariant c.requires.args

pub instantiated-requires-clause-ty : goal.instantiated-requires-clause-ty
instantiated-requires-clause-ty c =
    to-own c.args.args c.args.fields.now c.loop-field.fields c.loop-field.field-index c.args.cx.now c.loop-field.cx c.loop-field.auto.fields c.loop-field.invariant c.field-item.result c.loop-field-test.true
    c.requires.fields

pub returns-in_err-field : goal.returns-in_err-field
returns-in_err-field c =
    let p = err_from_is_err_and c.from_residual.result c.from_residual.ensures.1 in
    rw (p.1, p.2) (to-stops c.args.args c.args.fields.now c.loop-field.fields c.loop-field.field-index c.args.cx.now c.loop-field.cx c.loop-field.auto.fields c.loop-field.invariant c.field-item.result _ c.instantiated.new.cx
    c.loop-field-test.true c.in_err-field.ensures)

pub loop-field-preserved : goal.loop-field-preserved
loop-field-preserved c =
    to-more c.args.args c.args.fields.now c.loop-field.fields c.loop-field.field-index c.args.cx.now c.loop-field.cx c.loop-field.auto.fields c.loop-field.invariant c.field-item.result c.in_ok-field.field-0
    c.instantiated.new.cx c.loop-field-test.true c.in_ok-field.ensures
