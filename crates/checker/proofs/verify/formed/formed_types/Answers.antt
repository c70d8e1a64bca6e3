use Rattle.std.proofs.Common.{IsTrue, length, rules, suc, add-one, ap, sym, subst, ◌∙◌}
use Rattle.checker.specs.Scope.{AreMarked}
use Rattle.checker.proofs.FormedLaws.{marked_next, none_marked}
use Rattle.checker.proofs.ListLaws.{length_pushed}
use Rattle.checker.proofs.verify.formed.formed_types.Goals as goal

pub loop-number-init : goal.loop-number-init
loop-number-init c =
    let empty = c.new-marks.ensures.items in
    record {
      marked = subst (AreMarked c.args.cx.now c.args.scope) (sym empty) (none_marked c.args.cx.now c.args.scope);
      counted = ap length empty;
    }

pub loop-number-preserved : goal.loop-number-preserved
loop-number-preserved c =
    let inv = c.loop-number.invariant in
    let marks = c.loop-number.marks.items in
    let number = c.loop-number.number in
    let ty = c.from_number-ty in
    let mark = c.in_ok-mark in
    let pushed = c.in_ok-push.ensures.items in
    let owned : IsTrue c.owns_ty.result = search rules in
    let next = marked_next c.args.cx.now c.args.scope marks number ty.result mark.mark inv.marked inv.counted ty.ensures (c.owns_ty.ensures.0 owned) mark.ensures in
    record {
      marked = subst (AreMarked c.args.cx.now c.args.scope) (sym pushed) next;
      counted = ap length pushed ∙ length_pushed marks mark.mark ∙ ap suc inv.counted ∙ sym (add-one number);
    }
