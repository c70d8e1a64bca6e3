use Rattle.std.proofs.Common.{inl, refl}
use Rattle.tt_kinds.specs.Label.{const_sort}
use Rattle.tt_kinds.specs.Bound.{const_entry}
use Rattle.tt_kinds.specs.declared.table.Table.TheVariants.{Consts}
use Rattle.tt_kinds.specs.declared.const_kind.ConstKind.TheVariants as kind
use Rattle.tt_interner.specs.Rows.{meaning, const_row}
use Rattle.tt_fold.proofs.BoundLaws.{bound_built, past_too_far}
use Rattle.tt_fold.proofs.shift.Shifter.shift_bound_const.Goals as goal

pub returns-in-Ok-clause-result : goal.returns-in-Ok-clause-result
returns-in-Ok-clause-result c =
    bound_built (λ h. h.number) Consts (λ j. const_row (kind.Bound j c.args.bound_const)) const_sort (const_entry c.args.bound_const) (λ _. refl) (λ _. refl)
    c.args.cx.now c.mk_const.new.self (record { amount = c.args.self.now.amount; under = c.args.self.now.current_index }) c.args.index c.in-Ok.shifted _
    c.requires c.in-Ok.ensures tt c.mk_const.ensures

pub returns-in-Err-clause-result : goal.returns-in-Err-clause-result
returns-in-Err-clause-result c =
    inl (c.in-Err.ensures.0, past_too_far (meaning c.args.cx.now.rows) (record { amount = c.args.self.now.amount; under = c.args.self.now.current_index }) const_sort c.args.index (const_entry c.args.bound_const) c.in-Err.ensures.1)
