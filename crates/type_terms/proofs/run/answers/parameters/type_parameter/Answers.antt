use Rattle.std.proofs.Common.{refl}
use Rattle.tt_kinds.specs.declared.table.Table.TheVariants.{Types}
use Rattle.tt_interner.specs.Rows.{meaning, type_row}
use Rattle.tt_interner.proofs.Trees.{Means-row}
use Rattle.tt_binder.proofs.HookLaws.{type_param_found, type_param_none}
use Rattle.type_terms.proofs.run.answers.parameters.type_parameter.Goals as goal

pub returns-in-Param : goal.returns-in-Param
returns-in-Param c =
    let means = Means-row c.args.cx.now.rows c.are_rows.ensures.are Types c.args.ty.number (type_row c.kind.result.now) c.kind.ensures.row in
    (refl, rw (means.tree, c.in-Param.is) (type_param_found (meaning c.args.cx.now.rows) c.in-Param.parameter))

pub returns-in_default : goal.returns-in_default
returns-in_default c =
    let means = Means-row c.args.cx.now.rows c.are_rows.ensures.are Types c.args.ty.number (type_row c.kind.result.now) c.kind.ensures.row in
    λ i h. type_param_none (meaning c.args.cx.now.rows) _ c.in_default.not-Param i (rw means.tree at h)
