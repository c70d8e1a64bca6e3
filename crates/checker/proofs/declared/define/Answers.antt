use Rattle.checker.proofs.declared.define.Goals as goal

pub returns : goal.returns
returns c = c.define_adt.ensures.extends
