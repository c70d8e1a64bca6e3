use Rattle.tt_calls.proofs.ChildLaws.{text-given, text-needs}
use Rattle.tt_calls.proofs.build.parts.build_text.Goals as goal

pub returns-in-Some-clause-extends : goal.returns-in-Some-clause-extends
returns-in-Some-clause-extends c = record { rows = c.symbol.ensures.grows; limit = c.symbol.ensures.limit }

pub returns-in-Some-clause-text : goal.returns-in-Some-clause-text
returns-in-Some-clause-text c = rw (c.in-Some.is) (text-given c.args.cx.now c.symbol.new.self c.in-Some.text.now c.symbol.result c.symbol.ensures)

pub returns-in-Some-clause-room : goal.returns-in-Some-clause-room
returns-in-Some-clause-room c = rw (c.in-Some.is) (text-needs c.args.cx.now c.symbol.new.self c.in-Some.text.now c.symbol.result c.symbol.ensures)
