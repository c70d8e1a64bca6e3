use Rattle.std.proofs.Common.{subst, sym}
use Rattle.solver.specs.Program.{IsProgram}
use Rattle.solver.proofs.ProgramLaws.{empty_program}
use Rattle.solver.proofs.program.Program.new.Goals as goal

pub returns-clause-program : goal.returns-clause-program
returns-clause-program c = λ terms. subst (IsProgram terms) (sym c.new.ensures.items) (empty_program terms)
