use Rattle.checker.proofs.ClientLaws.{declared_within}
use Rattle.checker.proofs.declared.declared_adt.Goals as goal

pub returns-clause-extends : goal.returns-clause-extends
returns-clause-extends c = c.declare_adt.ensures.extends

pub returns-clause-before : goal.returns-clause-before
returns-clause-before c = declared_within c.in_ok-declare_adt.field-0 _ c.args.cx.now c.declare_adt.new.self _ _ c.in_ok-declare_adt.ensures
