use Rattle.std.proofs.Common.{take}
use Rattle.tt_interner.specs.Stored.{Extends}
use Rattle.tt_calls.specs.Told.{told_all}
use Rattle.tt_calls.specs.Build.{AreArgumentsOf}
use Rattle.tt_calls.proofs.build.lists.build_args.Given as goal

abbrev pub invariant-loop-arg : goal.invariant-loop-arg
invariant-loop-arg l =
    Extends l.fn.cx l.cx × AreArgumentsOf l.cx (told_all l.fn.cx.rows l.earlier) (take l.arg-index l.args) l.built.items
