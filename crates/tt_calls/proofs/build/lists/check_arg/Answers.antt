use Rattle.tt_kinds.specs.declared.table.Table.TheVariants.{Types, Consts}
use Rattle.tt_calls.specs.CallForm.{item_positions, a_term}
use Rattle.tt_calls.specs.Told.{told_all, HasFullTable}
use Rattle.tt_calls.proofs.ResultLaws.{passed, ok-then, err-then}
use Rattle.tt_calls.proofs.PartLaws.{unbuilt-unusable}
use Rattle.tt_calls.proofs.build.lists.check_arg.Goals as goal

pub returns-in_err-handle_at-in-Type-clause-err : goal.returns-in_err-handle_at-in-Type-clause-err
returns-in_err-handle_at-in-Type-clause-err c =
    let refused = c.in_err-handle_at-in-Type in
    rw (c.in-Type.is)
    (passed c.from_residual.result refused.field-0.0 _ c.from_residual.ensures.1
    (unbuilt-unusable (HasFullTable c.args.cx.now) (told_all c.args.cx.now.rows c.args.earlier.now) (item_positions (a_term Types c.in-Type.position)) ⊥ refused.field-0.0
    refused.ensures.cause (refused.ensures.part c.args.cx.now c.requires).err))

pub returns-in_ok-handle_at-in-Type-clause-ok : goal.returns-in_ok-handle_at-in-Type-clause-ok
returns-in_ok-handle_at-in-Type-clause-ok c =
    let h = (c.in_ok-handle_at-in-Type.ensures.part c.args.cx.now c.requires).ok in rw (c.in-Type.is) (record { named = h.named; shallow = h.shallow })

pub returns-in_err-handle_at-in-Const-clause-err : goal.returns-in_err-handle_at-in-Const-clause-err
returns-in_err-handle_at-in-Const-clause-err c =
    let refused = c.in_err-handle_at-in-Const in
    rw (c.in-Const.is)
    (passed c.from_residual-in_err-handle_at-in-Const.result refused.field-0.0 _ c.from_residual-in_err-handle_at-in-Const.ensures.1
    (unbuilt-unusable (HasFullTable c.args.cx.now) (told_all c.args.cx.now.rows c.args.earlier.now) (item_positions (a_term Consts c.in-Const.position)) ⊥ refused.field-0.0
    refused.ensures.cause (refused.ensures.part c.args.cx.now c.requires).err))

pub returns-in_ok-handle_at-in-Const-clause-ok : goal.returns-in_ok-handle_at-in-Const-clause-ok
returns-in_ok-handle_at-in-Const-clause-ok c =
    let h = (c.in_ok-handle_at-in-Const.ensures.part c.args.cx.now c.requires).ok in rw (c.in-Const.is) (record { named = h.named; shallow = h.shallow })

pub returns-in-Lifetime-clause-ok : goal.returns-in-Lifetime-clause-ok
returns-in-Lifetime-clause-ok c = rw (c.in-Lifetime.is) (ok-then c.check_region.result c.check_region.ensures.ok (λ h. record { named = tt; shallow = h }))

pub returns-in-Lifetime-clause-err : goal.returns-in-Lifetime-clause-err
returns-in-Lifetime-clause-err c = rw (c.in-Lifetime.is) (err-then c.check_region.result _ _ c.check_region.ensures.err (λ e h. rw (h.0) h.1))
