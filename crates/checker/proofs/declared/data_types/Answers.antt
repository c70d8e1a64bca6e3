use Rattle.std.proofs.Common.{List, suc, length, ap, add-one, sym, subst, ◌∙◌}
use Rattle.tt_kinds.specs.declared.table.Table.TheVariants.{Declarations}
use Rattle.tt_interner.specs.Rows.{size}
use Rattle.tt_interner.proofs.Growth.{Extends-trans}
use Rattle.checker.specs.Items.{AdtId, numbers}
use Rattle.checker.specs.Written.{AreDistinct}
use Rattle.checker.proofs.ListLaws.{length_pushed}
use Rattle.checker.proofs.WrittenLaws.{AreBelow, below_next_id, distinct_next}
use Rattle.checker.proofs.declared.data_types.Goals as goal

pub loop-number-preserved : goal.loop-number-preserved
loop-number-preserved c =
    let inv = c.loop-number.invariant in
    let ids = c.loop-number.ids.items in
    let id = c.in_ok-id.id in
    let before = size c.loop-number.cx.rows Declarations in
    let after = size c.data_type.new.cx.rows Declarations in
    let pushed = c.in_ok-push.ensures.items in
    record {
      extends = Extends-trans inv.extends c.data_type.ensures.extends;
      counted = ap length pushed ∙ length_pushed ids id ∙ ap suc inv.counted ∙ sym (add-one c.loop-number.number);
      distinct = subst (λ (xs : List AdtId). AreDistinct (numbers xs)) (sym pushed)
          (distinct_next ids id before inv.distinct inv.below c.in_ok-id.ensures.after);
      below = subst (λ (xs : List AdtId). AreBelow (numbers xs) after) (sym pushed)
          (below_next_id ids id before after inv.below c.in_ok-id.ensures.after c.in_ok-id.ensures.before);
    }

pub returns-in_err-id-clause-extends : goal.returns-in_err-id-clause-extends
returns-in_err-id-clause-extends c = Extends-trans c.loop-number.invariant.extends c.data_type.ensures.extends

pub returns-in_err-push-clause-extends : goal.returns-in_err-push-clause-extends
returns-in_err-push-clause-extends c = Extends-trans c.loop-number.invariant.extends c.data_type.ensures.extends
