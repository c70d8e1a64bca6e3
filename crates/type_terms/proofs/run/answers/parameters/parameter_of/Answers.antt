use Rattle.tt_kinds.specs.declared.table.Table.TheVariants.{Types, Consts}
use Rattle.tt_interner.specs.Rows.{meaning}
use Rattle.type_terms.proofs.ParameterLaws.{type-told, const-told, other-told}
use Rattle.type_terms.proofs.run.answers.parameters.parameter_of.Goals as goal

pub type_parameter-requires : goal.type_parameter-requires
type_parameter-requires c = rw (c.in-Ty.is) at c.requires

pub const_parameter-requires : goal.const_parameter-requires
const_parameter-requires c = rw (c.in-Const.is) at c.requires

pub returns-in-Ty : goal.returns-in-Ty
returns-in-Ty c = rw (c.in-Ty.is) (type-told (meaning c.args.cx.now.rows Types c.in-Ty.ty.number) c.type_parameter.result c.type_parameter.ensures)

pub returns-in-Const : goal.returns-in-Const
returns-in-Const c = rw (c.in-Const.is) (const-told (meaning c.args.cx.now.rows Consts c.in-Const.constant.number) c.const_parameter.result c.const_parameter.ensures)

pub returns-in_default : goal.returns-in_default
returns-in_default c = other-told c.args.cx.now.rows c.args.answer.now c.in_default.not-Ty c.in_default.not-Const
