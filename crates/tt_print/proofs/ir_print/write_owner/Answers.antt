use Rattle.std.proofs.Common.{ap, ◌∙◌}
use Rattle.tt_kinds.specs.declared.declaration.Declaration.{Declaration}
use Rattle.tt_print.specs.Text.{owner_of}
use Rattle.tt_print.proofs.PrintNames.{owner-text}
use Rattle.tt_print.proofs.PrintSteps.{writes-same}
use Rattle.tt_print.proofs.ir_print.write_owner.Goals as goal

pub returns-then-owns_def_id : goal.returns-then-owns_def_id
returns-then-owns_def_id c =
    let rows = c.args.cx.now.rows in
    writes-same _ _ _ _ _
    (ap (λ (d : Declaration). owner_of rows d.kind) c.declaration.ensures.is ∙ owner-text rows c.args.id.number (c.owns_def_id.ensures.0 c.if-owns_def_id.true))
    c.write_owner_of.ensures
