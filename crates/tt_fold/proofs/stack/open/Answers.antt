use Rattle.std.proofs.Common.{sym}
use Rattle.tt_fold.proofs.ItemSteps.{open_list}
use Rattle.tt_fold.proofs.stack.open.Goals as goal

pub returns-then-has_items : goal.returns-then-has_items
returns-then-has_items g c =
    open_list c.args.handle c.list_frame.result (sym c.if-has_items.ensures) c.requires.owned c.list_frame.ensures
