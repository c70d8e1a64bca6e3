use Rattle.tt_interner.proofs.Growth.{Extends-trans}
use Rattle.solver.proofs.ProgramLaws.{program_stays}
use Rattle.solver_programs.proofs.GrowthLaws.{new_table}
use Rattle.solver_programs.proofs.answers.write_answer.Goals as goal

pub make_variables-requires : goal.make_variables-requires
make_variables-requires c = new_table c.goal_of.new.cx c.new-bindings.result c.new-bindings.ensures

pub answer_to-requires-clause-program : goal.answer_to-requires-clause-program
answer_to-requires-clause-program c =
    program_stays c.args.cx.now c.make_variables.new.cx (Extends-trans c.goal_of.ensures c.make_variables.ensures.extends)
    c.args.question.program.now c.requires

pub returns-in_err-bound : goal.returns-in_err-bound
returns-in_err-bound c =
    Extends-trans (Extends-trans c.goal_of.ensures c.make_variables.ensures.extends)
    (Extends-trans c.answer_to.ensures.extends c.resolved.ensures)

pub returns-in_err-names : goal.returns-in_err-names
returns-in_err-names c =
    Extends-trans (Extends-trans c.goal_of.ensures c.make_variables.ensures.extends)
    (Extends-trans c.answer_to.ensures.extends c.resolved.ensures)

pub returns-in_err-write : goal.returns-in_err-write
returns-in_err-write c =
    Extends-trans (Extends-trans c.goal_of.ensures c.make_variables.ensures.extends)
    (Extends-trans c.answer_to.ensures.extends c.resolved.ensures)

pub returns-in_err-write_bindings : goal.returns-in_err-write_bindings
returns-in_err-write_bindings c =
    Extends-trans (Extends-trans c.goal_of.ensures c.make_variables.ensures.extends)
    (Extends-trans c.answer_to.ensures.extends c.resolved.ensures)

pub returns : goal.returns
returns c =
    Extends-trans
    (Extends-trans (Extends-trans c.goal_of.ensures c.make_variables.ensures.extends)
    (Extends-trans c.answer_to.ensures.extends c.resolved.ensures))
    c.write_reason.ensures
