use Rattle.solver.proofs.ProgramLaws.{program_stays}
use Rattle.solver_programs.proofs.answers.answers_of.Goals as goal

pub write_groups-requires : goal.write_groups-requires
write_groups-requires c =
    program_stays c.program_of.new.cx c.write_overlap.new.cx c.write_overlap.ensures c.in_ok-program.program c.in_ok-program.ensures
