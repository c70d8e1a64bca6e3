use Rattle.solver.specs.Program.{IsProgram}
use Rattle.solver_programs.proofs.declared.program_of.Given as goal

-- the implementations so far are a program
abbrev pub invariant-loop-number : goal.invariant-loop-number
invariant-loop-number l = IsProgram l.cx l.program
