use Rattle.tt_interner.proofs.Growth.{Extends-trans}
use Rattle.solver.proofs.ProgramLaws.{program_stays}
use Rattle.solver_programs.proofs.answers.write_group.Goals as goal

pub write_answer-requires : goal.write_answer-requires
write_answer-requires c =
    program_stays c.args.cx.now c.loop-number.cx (Extends-trans c.goals_of.ensures c.loop-number.invariant)
    c.args.question.program.now c.requires
