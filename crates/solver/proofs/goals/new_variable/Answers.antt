use Rattle.std.proofs.Common.{◌≡◌, ap, length, sym, subst}
use Rattle.tt_kinds.specs.GenericArg.{type_of}
use Rattle.tt_kinds.specs.declared.generic_arg.GenericArgKind.TheVariants as arg
use Rattle.solver.specs.Search.{Continues}
use Rattle.solver.proofs.EquationLaws.{variable_is_argument}
use Rattle.solver.proofs.SearchLaws.{continues_grown, continues_made}
use Rattle.solver.proofs.goals.new_variable.Goals as goal

pub returns-in-Ok-clause-continues : goal.returns-in-Ok-clause-continues
returns-in-Ok-clause-continues c =
    continues_made c.new_variable.ensures.extends c.requires c.new_variable.ensures.table c.new_variable.ensures.earlier c.in-Ok.ensures.pushed

pub returns-in-Ok-clause-is : goal.returns-in-Ok-clause-is
returns-in-Ok-clause-is c =
    let made : c.from.result ≡ arg.«Type» c.in-Ok.ty = c.from.ensures in
    variable_is_argument c.new_variable.new.cx c.from.result c.in-Ok.ty (length c.args.bindings.now.entries) c.are_rows.ensures.are
    (ap type_of made) c.in-Ok.ensures.is

pub returns-in-Err-Refused-clause-continues : goal.returns-in-Err-Refused-clause-continues
returns-in-Err-Refused-clause-continues c =
    subst (λ t. Continues c.args.cx.now c.args.bindings.now c.new_variable.new.cx t) (sym c.in-Err-Refused.ensures.same)
    (continues_grown c.new_variable.ensures.extends c.requires)
