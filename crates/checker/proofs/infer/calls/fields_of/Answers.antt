use Rattle.checker.proofs.ClientLaws.{fields_owned}
use Rattle.checker.proofs.infer.calls.fields_of.Goals as goal

pub returns-clause-owned : goal.returns-clause-owned
returns-clause-owned c = fields_owned _ _ _ c.args.cx.now c.fields_of.new.self c.in_ok-fields_of.ensures.plain
