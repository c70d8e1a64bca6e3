use Rattle.std.proofs.Common.{length, suc, add-one, ap, sym, subst, ◌∙◌}
use Rattle.std.proofs.lemmas.Option.{slice_get_read}
use Rattle.tt_interner.proofs.Growth.{Extends-refl, Extends-trans}
use Rattle.checker.specs.Scope.{AreParameters}
use Rattle.checker.proofs.FormedLaws.{no_parameters, parameter_next, parameters_stay}
use Rattle.checker.proofs.ListLaws.{length_pushed}
use Rattle.checker.proofs.verify.formed.parameters.Goals as goal

pub loop-index-init : goal.loop-index-init
loop-index-init c =
    let empty = c.new-types.ensures.items in
    record {
      extends = Extends-refl c.args.cx.now;
      are = subst (AreParameters c.args.cx.now c.args.program.now c.args.function.now) (sym empty)
          (no_parameters c.args.cx.now c.args.program.now c.args.function.now);
      counted = ap length empty;
    }

pub loop-index-preserved : goal.loop-index-preserved
loop-index-preserved c =
    let inv = c.loop-index.invariant in
    let program = c.args.program.now in
    let function = c.args.function.now in
    let new = c.parameter.new.cx in
    let types = c.loop-index.types.items in
    let index = c.loop-index.index in
    let ty = c.in_ok-ty in
    let name = c.in_ok-name.ensures in
    let pushed = c.in_ok-push.ensures.items in
    let extends = c.parameter.ensures.extends in
    let there = slice_get_read function.params.items c.len-index-end.result index c.index.result.now
    (c.len-index-end.ensures ∙ function.params.ok.0) c.loop-index-test.true c.index.ensures in
    let are = parameter_next new program function types index c.index.result.now name.0 c.in_ok-name.name.now ty.ty
    (parameters_stay c.loop-index.cx new program function types extends inv.are) inv.counted there name.1 name.2 ty.ensures.owned ty.ensures.is in
    record {
      extends = Extends-trans inv.extends extends;
      are = subst (AreParameters new program function) (sym pushed) are;
      counted = ap length pushed ∙ length_pushed types ty.ty ∙ ap suc inv.counted ∙ sym (add-one index);
    }

pub returns-in_err-ty-clause-extends : goal.returns-in_err-ty-clause-extends
returns-in_err-ty-clause-extends c = Extends-trans c.loop-index.invariant.extends c.parameter.ensures.extends

pub returns-in_err-push-clause-extends : goal.returns-in_err-push-clause-extends
returns-in_err-push-clause-extends c = Extends-trans c.loop-index.invariant.extends c.parameter.ensures.extends
