use Rattle.std.proofs.Common.{length, refl, sym, subst, add-one}
use Rattle.std.proofs.lemmas.Option.{slice_get_read}
use Rattle.solver.specs.Log.{IsOwnedLine}
use Rattle.solver.proofs.OutcomeLaws.{HoldsBelow, holds_all, holds_next}
use Rattle.solver.proofs.log.are_owned_lines.Goals as goal

pub loop-line-preserved : goal.loop-line-preserved
loop-line-preserved c =
    let cx = c.args.cx.now in
    let lines = c.args.lines.now in
    let k = c.loop-line.line-index in
    let line = c.line-item.result in
    let there = slice_get_read lines (length lines) k line refl c.loop-line-test.true c.line-item.is in
    let next = holds_next (IsOwnedLine cx) lines k line c.loop-line.invariant there (c.if-not-is_owned.ensures refl) in
    subst (HoldsBelow (IsOwnedLine cx) lines) (sym (add-one k)) next

pub returns : goal.returns
returns c = λ same.
    holds_all (IsOwnedLine c.args.cx.now) c.args.lines.now c.loop-line.line-index c.loop-line-test.false c.loop-line.invariant
