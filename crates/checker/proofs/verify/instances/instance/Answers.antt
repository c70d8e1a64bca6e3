use Rattle.std.proofs.Common.{ap}
use Rattle.checker.proofs.InstanceLaws.{instance_made}
use Rattle.checker.proofs.verify.instances.instance.Goals as goal

pub returns-clause-plain : goal.returns-clause-plain
returns-clause-plain c =
    instance_made c.args.cx.now c.instantiate.new.cx c.args.scope c.args.args c.args.number c.in_ok-declared.declared
    c.bind.result.value c.in_ok-instance.instance.value c.skip_norm_wip.result
    c.in_ok-declared.ensures.is (ap (λ b. b.value) c.bind.ensures) c.skip_norm_wip.ensures c.in_ok-instance.ensures.promise.plain
