use Rattle.std.proofs.Common.{◌≡◌}
use Rattle.unify.specs.Bindings.{substitution}
use Rattle.solver.proofs.SearchLaws.{plain_goal}
use Rattle.solver.proofs.goals.resolved_goal.Goals as goal

pub returns-clause-plain : goal.returns-clause-plain
returns-clause-plain c =
    plain_goal (substitution c.args.cx.now c.args.bindings.now) c.args.cx.now c.resolved_args.new.cx c.args.goal c.in-Some.args
    (rw c.in-Some.is at c.in_ok-args.ensures.plain)
