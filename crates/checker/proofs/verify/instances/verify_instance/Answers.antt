use Rattle.checker.proofs.BuiltLaws.{on_ok}
use Rattle.checker.proofs.InstanceLaws.{instance_found}
use Rattle.checker.proofs.verify.instances.verify_instance.Goals as goal

pub returns-clause-plain : goal.returns-clause-plain
returns-clause-plain c =
    on_ok c.same.result (λ same.
    instance_found c.args.cx.now c.instance.new.cx c.args.scope c.args.args c.args.number c.in_ok-instance.field-0 c.args.ty
    c.in_ok-instance.ensures.extends c.requires.ty same c.in_ok-instance.ensures.plain) c.same.ensures
