use Rattle.checker.proofs.FormedLaws.{marked_formed}
use Rattle.checker.proofs.verify.marked.Goals as goal

pub returns-then-is_marked : goal.returns-then-is_marked
returns-then-is_marked c =
    marked_formed c.args.cx.now c.args.scope c.args.marks.now c.requires c.args.ty (c.is_marked.ensures c.if-is_marked.true)
