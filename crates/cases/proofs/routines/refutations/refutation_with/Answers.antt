use Rattle.solver.proofs.ProgramLaws.{program_stays}
use Rattle.cases.proofs.routines.refutations.refutation_with.Goals as goal

pub refute-requires-clause-program : goal.refute-requires-clause-program
refute-requires-clause-program c =
    program_stays c.args.cx.now c.solve.new.cx c.solve.ensures.extends c.args.program.now c.requires.program
