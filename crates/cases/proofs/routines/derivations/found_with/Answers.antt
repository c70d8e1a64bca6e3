use Rattle.solver.proofs.ProgramLaws.{program_stays}
use Rattle.cases.proofs.routines.derivations.found_with.Goals as goal

pub solve-requires-clause-program : goal.solve-requires-clause-program
solve-requires-clause-program c =
    program_stays c.args.cx.now c.make_variable.new.cx c.make_variable.ensures.extends c.args.program.now c.requires.program
