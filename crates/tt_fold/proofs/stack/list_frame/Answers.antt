use Rattle.std.proofs.Common.{arith}
use Rattle.tt_fold.proofs.ItemSteps.{list_opened}
use Rattle.tt_fold.proofs.stack.list_frame.Goals as goal

pub list_len-requires : goal.list_len-requires
list_len-requires c = record { owned = c.requires.list; is_list = c.requires.items }

pub returns : goal.returns
returns c =
    let h = c.list_len.ensures in
    list_opened c.args.list c.requires.list c.requires.items h.len h.means h.parts h.fit (omega arith)
