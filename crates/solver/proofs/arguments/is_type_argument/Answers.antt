use Rattle.std.proofs.Common.{sym, ◌∙◌}
use Rattle.solver.proofs.ArgumentLaws.{none_outside, type_argument}
use Rattle.solver.proofs.arguments.is_type_argument.Goals as goal

pub returns-in-Some : goal.returns-in-Some
returns-in-Some c = λ closed.
    type_argument c.args.cx.now c.args.arg c.in-Some.ty (sym c.as_type.ensures ∙ c.in-Some.is) c.are_rows.ensures.are c.requires
    (none_outside c.has_escaping_bound_vars.result _ c.has_escaping_bound_vars.ensures closed)
