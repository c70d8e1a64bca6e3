use Rattle.std.proofs.Common.{sym, ◌∙◌}
use Rattle.unify.proofs.KindLaws.{type_variable}
use Rattle.canonical.proofs.variable.variable_of.Goals as goal

pub returns : goal.returns
returns c = c.variable_in.ensures ∙ sym (type_variable c.args.cx.now.rows c.args.ty c.kind.result.now c.kind.ensures)
