use Rattle.std.proofs.Common.{◌∙◌}
use Rattle.std.proofs.lemmas.Option.{slice_get_read}
use Rattle.checker.proofs.BuiltLaws.{on_ok}
use Rattle.checker.proofs.CallLaws.{field_found}
use Rattle.checker.proofs.verify.instances.verify_field_of.Goals as goal

pub returns-then-field-name-clause-is : goal.returns-then-field-name-clause-is
returns-then-field-name-clause-is c =
    let fields = c.args.item.now.fields in
    let field = c.index-field.result.now in
    let there = slice_get_read fields.items c.len-index-end.result c.loop-index.index field (c.len-index-end.ensures ∙ fields.ok.0)
    c.loop-index-test.true c.index-field.ensures in
    on_ok c.verify_instance.result (λ is.
    field_found c.args.cx.now c.loop-index.cx c.args.scope c.args.args c.args.item.now c.loop-index.index c.args.name field c.args.ty
    c.loop-index.invariant there c.if-field-name.true is) c.verify_instance.ensures.plain
