use Rattle.std.proofs.Common.{◌<◌, length, get_or, arith, add-one, sym, subst}
use Rattle.std.proofs.lemmas.Option.{slice_get-get_or, slice_get_within}
use Rattle.checker.specs.Scope.{argument_trees, around}
use Rattle.tt_interner.proofs.Growth.{Extends-trans}
use Rattle.checker.proofs.ArgumentLaws.{arguments_in_range}
use Rattle.checker.proofs.InstanceLaws.{AreFitBelow, fit_next, operand_fits}
use Rattle.checker.proofs.ScopeLaws.{scope_stays}
use Rattle.checker.proofs.verify.instances.verify_each.Goals as goal

pub operand-requires : goal.operand-requires
operand-requires c = scope_stays c.args.cx.now c.loop-index.cx c.args.scope c.loop-index.invariant.extends c.requires.scope

pub verify_instance-requires-clause-scope : goal.verify_instance-requires-clause-scope
verify_instance-requires-clause-scope c =
    scope_stays c.args.cx.now c.loop-index.cx c.args.scope c.loop-index.invariant.extends c.requires.scope

pub loop-index-preserved : goal.loop-index-preserved
loop-index-preserved c =
    let old = c.args.cx.now in
    let A = around old c.args.scope in
    let args = argument_trees old c.args.args in
    let ws = c.args.declared.now in
    let ns = c.args.operands.now in
    let i = c.loop-index.index in
    let inv = c.loop-index.invariant in
    let value = c.in_ok-found.ensures in
    let second : i < length ns = omega (arith, c.loop-index-test.true, c.if-declared-operands.false) in
    let fits = operand_fits old c.loop-index.cx c.args.scope c.args.args inv.extends c.requires.scope c.requires.args
    (arguments_in_range old c.args.args c.as_slice-arguments.result.now c.as_slice-arguments.ensures)
    c.args.number (get_or ws i 0) (get_or ns i 0) c.in_ok-found.found value.before value.is c.in_ok-verify_instance.ensures.plain in
    let next = fit_next A c.args.number args ws ns i (get_or ws i 0) (get_or ns i 0) inv.fit
    (slice_get-get_or ws i 0 c.loop-index-test.true) (slice_get-get_or ns i 0 second) fits in
    record {
      extends = Extends-trans inv.extends c.in_ok-verify_instance.ensures.extends;
      fit = subst (λ m. AreFitBelow A c.args.number args ws ns m) (sym (add-one i)) next;
    }

pub returns-clause-fit : goal.returns-clause-fit
returns-clause-fit c = record {
  counted = c.if-declared-operands.false;
  each = λ k w n written there. c.loop-index.invariant.fit k w n
      (let within = slice_get_within c.args.declared.now k w written in omega (arith, within, c.loop-index-test.false)) written there;
}
