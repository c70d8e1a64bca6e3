use Rattle.tt_interner.proofs.Growth.{Extends-trans}
use Rattle.solver.proofs.ProgramLaws.{program_stays}
use Rattle.solver_programs.proofs.declared.add_to.Goals as goal

pub returns-in_err-head : goal.returns-in_err-head
returns-in_err-head c = program_stays c.args.cx.now c.goal_of.new.cx c.goal_of.ensures c.args.program.now c.requires

pub returns-in_err-conditions : goal.returns-in_err-conditions
returns-in_err-conditions c =
    program_stays c.args.cx.now c.goals_of.new.cx (Extends-trans c.goal_of.ensures c.goals_of.ensures) c.args.program.now c.requires

pub returns-then-not-is_owned : goal.returns-then-not-is_owned
returns-then-not-is_owned c =
    program_stays c.args.cx.now c.goals_of.new.cx (Extends-trans c.goal_of.ensures c.goals_of.ensures) c.args.program.now c.requires

pub add-requires-clause-program : goal.add-requires-clause-program
add-requires-clause-program c =
    program_stays c.args.cx.now c.goals_of.new.cx (Extends-trans c.goal_of.ensures c.goals_of.ensures) c.args.program.now c.requires
