use Rattle.solver.proofs.ProgramLaws.{program_stays}
use Rattle.solver_programs.proofs.answers.write_groups.Goals as goal

pub write_group-written-requires : goal.write_group-written-requires
write_group-written-requires c = program_stays c.args.cx.now c.loop-number.cx c.loop-number.invariant c.args.program.now c.requires
