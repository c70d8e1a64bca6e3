use Rattle.std.proofs.Common.{◌≡◌, rules, ap}
use Rattle.solver.proofs.ProgramLaws.{instance_is}
use Rattle.solver.proofs.instances.check_instance.Goals as goal

pub returns-then-eq-clause-is : goal.returns-then-eq-clause-is
returns-then-eq-clause-is c =
    let found : c.skip_norm_wip.result ≡ c.args.goal = search rules in
    let promise = c.in_ok-instance.ensures.promise in
    instance_is c.args.cx.now c.instantiate.new.cx promise.extends c.args.args c.args.declared.now c.bind.result.value c.args.goal
    c.skip_norm_wip.result c.in_ok-instance.instance.value (ap (λ b. b.value) c.bind.ensures) c.skip_norm_wip.ensures found c.requires.goal promise.plain
