use Rattle.tt_visit.proofs.BeginSteps.{holds-frame, parts-visited}
use Rattle.tt_visit.proofs.stored.visit_parts.Goals as goal

pub visit_frame-requires-clause-frame : goal.visit_frame-requires-clause-frame
visit_frame-requires-clause-frame g c = holds-frame c.of_parts.ensures tt c.requires.parts

pub returns-clause-result : goal.returns-clause-result
returns-clause-result g c = parts-visited _ _ _ _ _ _ c.visit_frame.result c.of_parts.ensures c.visit_frame.ensures.result
