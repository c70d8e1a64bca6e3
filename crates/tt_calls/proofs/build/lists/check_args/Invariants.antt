use Rattle.std.proofs.Common.{take}
use Rattle.tt_calls.specs.CallForm.{arg_items, items_positions, AreItemsTooDeep}
use Rattle.tt_calls.specs.Told.{told_all}
use Rattle.tt_calls.specs.Build.{IsUsable}
use Rattle.tt_calls.proofs.build.lists.check_args.Given as goal

abbrev pub invariant-loop-arg : goal.invariant-loop-arg
invariant-loop-arg l =
    IsUsable (told_all l.cx.rows l.earlier) (items_positions (arg_items (take l.arg-index l.args))) (AreItemsTooDeep (arg_items (take l.arg-index l.args)))
