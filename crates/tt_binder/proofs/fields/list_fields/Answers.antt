use Rattle.std.proofs.Common.{◌<◌, length, arith}
use Rattle.tt_binder.proofs.FieldLaws.{fields_from-more}
use Rattle.tt_binder.proofs.fields.list_fields.Goals as goal

pub loop-index-preserved : goal.loop-index-preserved
loop-index-preserved c =
    let inside : c.loop-index.index < length c.args.fields.now = omega arith in
    let pushed = rw c.from_usize.ensures at c.in_ok-push.ensures.items in
    fields_from-more c.args.base c.args.variant c.args.variant_idx c.args.fields.now c.loop-index.index _ c.args.list.now.items c.loop-index.list.items c.push.new.self.items inside c.loop-index.invariant pushed
