use Rattle.std.proofs.Common.{sym, ◌∙◌}
use Rattle.tt_fold.proofs.NoteLaws.{found, missing}
use Rattle.tt_fold.specs.Memory.{place_of}
use Rattle.tt_fold.proofs.memory.Memory.recall.Goals as goal

pub returns-in-Some : goal.returns-in-Some
returns-in-Some c =
    let at = rw c.as_slice.ensures at (sym c.position_of.ensures ∙ c.in-Some.is) in
    rw (← c.self.view_is, c.in-Few.is) (found c.in-Few.few.items c.deref.result.now (place_of c.args.ty c.args.under) c.in-Some.i _ c.deref.ensures at)

pub returns-in-None : goal.returns-in-None
returns-in-None c =
    let at = rw c.as_slice.ensures at (sym c.position_of.ensures ∙ c.in-None.is) in
    rw (← c.self.view_is, c.in-Few.is) (missing c.in-Few.few.items (place_of c.args.ty c.args.under) at)
