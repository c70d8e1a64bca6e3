use Rattle.std.proofs.Common.{arith}
use Rattle.tt_print.proofs.PrintParts.{count-parts}
use Rattle.tt_print.proofs.ir_print.pieces.part_count.Goals as goal

pub returns : goal.returns
returns c f = omega (arith, count-parts f c.args.parts.now, c.child_count.ensures.count f, c.child_count-2.ensures.count f)
