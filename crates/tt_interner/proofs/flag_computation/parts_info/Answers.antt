-- one after another
use Rattle.tt_kinds.specs.Kinds.{child_shapes}
use Rattle.tt_interner.specs.Rows.{meaning}
use Rattle.tt_interner.proofs.InfoLaws.{infos_append, AreParts-append}
use Rattle.tt_interner.proofs.flag_computation.parts_info.Goals as goal

pub child_info-requires : goal.child_info-requires
child_info-requires c = (AreParts-append _ (child_shapes c.args.parts.now.first) (child_shapes c.args.parts.now.second) c.requires).0

pub child_info-requires-2 : goal.child_info-requires-2
child_info-requires-2 c = (AreParts-append _ (child_shapes c.args.parts.now.first) (child_shapes c.args.parts.now.second) c.requires).1

pub returns : goal.returns
returns c = rw c.joined.ensures
    (infos_append (meaning c.args.cx.now.rows) (child_shapes c.args.parts.now.first) (child_shapes c.args.parts.now.second) _ _ c.child_info.ensures c.child_info-2.ensures)
