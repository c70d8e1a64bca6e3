use Rattle.std.proofs.Common.{take}
use Rattle.tt_kinds.specs.Kinds.{arg_shape}
use Rattle.tt_kinds.specs.Shape.{item_shapes}
use Rattle.tt_interner.specs.Stored.{Extends}
use Rattle.tt_calls.specs.CallForm.{arg_items}
use Rattle.tt_calls.specs.Told.{told_all}
use Rattle.tt_calls.specs.Build.{AreItemsOf}
use Rattle.tt_calls.proofs.build.lists.fill_args.Given as goal

abbrev pub invariant-loop-i : goal.invariant-loop-i
invariant-loop-i l =
    Extends l.fn.cx l.cx × AreItemsOf l.cx (told_all l.fn.cx.rows l.earlier) (arg_items (take l.i l.args)) (item_shapes arg_shape (take l.i l.places))
