use Rattle.std.proofs.Common.{List, suc, add-one, sym, subst, ◌∙◌}
use Rattle.std.proofs.lemmas.Option.{slice_get_read}
use Rattle.tt_kinds.specs.Kinds.{ty_shape}
use Rattle.tt_kinds.specs.declared.table.Table.TheVariants.{Declarations}
use Rattle.tt_interner.specs.Rows.{size}
use Rattle.tt_interner.proofs.Growth.{Extends-trans}
use Rattle.tt_interner.proofs.OwnedLaws.{list_still_owned}
use Rattle.checker.specs.Items.{AreFunctions, FunctionId, numbers}
use Rattle.checker.specs.Written.{AreDistinct}
use Rattle.checker.proofs.SignatureLaws.{function_next, functions_stay}
use Rattle.checker.proofs.WrittenLaws.{AreBelow, below_next_id, distinct_next}
use Rattle.checker.proofs.declared.functions.Goals as goal

pub function-requires : goal.function-requires
function-requires c =
    list_still_owned ty_shape c.args.cx.now c.loop-number.cx c.args.written.now c.loop-number.invariant.extends c.requires

pub loop-number-preserved : goal.loop-number-preserved
loop-number-preserved c =
    let inv = c.loop-number.invariant in
    let program = c.args.program.now in
    let written = c.args.written.now in
    let old = c.loop-number.cx in
    let new = c.function.new.cx in
    let ids = c.loop-number.ids.items in
    let number = c.loop-number.number in
    let item = c.index-item.result.now in
    let id = c.in_ok-function.function in
    let pushed = c.in_ok-push.ensures.items in
    let before = size old.rows Declarations in
    let further = size new.rows Declarations in
    let made = c.in_ok-function.ensures in
    let extends = c.function.ensures.extends in
    let there = slice_get_read program.functions.items c.len-number-end.result number item
    (c.len-number-end.ensures ∙ program.functions.ok.0) c.loop-number-test.true c.index-item.ensures in
    let next = function_next new program written ids number item id
    (functions_stay old new program written ids number extends inv.declared) there made.declared in
    record {
      extends = Extends-trans inv.extends extends;
      declared = subst (AreFunctions new program written c.push.new.self.items) (sym (add-one number))
          (subst (λ xs. AreFunctions new program written xs (suc number)) (sym pushed) next);
      distinct = subst (λ (xs : List FunctionId). AreDistinct (numbers xs)) (sym pushed) (distinct_next ids id before inv.distinct inv.below made.after);
      below = subst (λ (xs : List FunctionId). AreBelow (numbers xs) further) (sym pushed)
          (below_next_id ids id before further inv.below made.after made.declared.in_range);
    }

pub returns-in_err-function-clause-extends : goal.returns-in_err-function-clause-extends
returns-in_err-function-clause-extends c = Extends-trans c.loop-number.invariant.extends c.function.ensures.extends

pub returns-in_err-push-clause-extends : goal.returns-in_err-push-clause-extends
returns-in_err-push-clause-extends c = Extends-trans c.loop-number.invariant.extends c.function.ensures.extends
