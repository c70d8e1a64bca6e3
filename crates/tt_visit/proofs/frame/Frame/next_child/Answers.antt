use Rattle.tt_visit.proofs.frame.Frame.next_child.Goals as goal

pub returns-in-None-clause-rest : goal.returns-in-None-clause-rest
returns-in-None-clause-rest c = c.after_child-self.ensures.rest _ c.requires
