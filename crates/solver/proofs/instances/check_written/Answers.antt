use Rattle.std.proofs.Common.{ap}
use Rattle.solver.proofs.WrittenLaws.{written_goal}
use Rattle.solver.proofs.instances.check_written.Goals as goal

pub returns-in-Ok-clause-written : goal.returns-in-Ok-clause-written
returns-in-Ok-clause-written c =
    written_goal c.args.cx.now c.args.args c.args.goal.now c.bind.result.value (ap (λ b. b.value) c.bind.ensures)
    c.has_infer.result c.has_infer.ensures c.if-has_infer.false
    c.has_escaping_bound_vars.result c.has_escaping_bound_vars.ensures c.if-has_escaping_bound_vars.false
    c.in-Ok.ensures.promise.answered
