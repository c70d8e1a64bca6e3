use Rattle.std.proofs.Common.{ap, ◌∙◌}
use Rattle.tt_kinds.specs.Shape.{name_of}
use Rattle.tt_kinds.specs.Handle.{Symbol}
use Rattle.tt_interner.specs.Rows.{meaning}
use Rattle.tt_print.proofs.PrintNames.{declared-text}
use Rattle.tt_print.proofs.PrintSteps.{writes-same}
use Rattle.tt_print.proofs.ir_print.write_own_name.Goals as goal

pub returns-then-owns_def_id : goal.returns-then-owns_def_id
returns-then-owns_def_id c =
    writes-same _ _ _ _ _
    (ap (λ (s : Symbol). name_of (meaning c.args.cx.now.rows) s.number) c.item_name.ensures.is ∙ declared-text c.args.cx.now.rows c.args.id.number (c.owns_def_id.ensures.0 c.if-owns_def_id.true))
    c.write_symbol.ensures
