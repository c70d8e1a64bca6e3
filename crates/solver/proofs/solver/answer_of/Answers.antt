use Rattle.std.proofs.Common.{subst}
use Rattle.tt_kinds.specs.Values.{trait_predicate_shape}
use Rattle.tt_interner.proofs.OwnedLaws.{list_still_owned}
use Rattle.solver.specs.Answers.{IsNo}
use Rattle.solver.specs.Program.{goals_in, impls_in}
use Rattle.solver.specs.Search.{goal_under}
use Rattle.solver.proofs.AnswerLaws.{answer_derives, goal_held}
use Rattle.solver.proofs.OutcomeLaws.{if_ok}
use Rattle.solver.proofs.ProgramLaws.{program_stays}
use Rattle.solver.proofs.SearchLaws.{continues_back, continues_further, continues_grown, turned_back}
use Rattle.solver.proofs.solver.answer_of.Goals as goal

pub log_of-requires-clause-program : goal.log_of-requires-clause-program
log_of-requires-clause-program c =
    program_stays c.args.cx.now c.solve_goal.new.cx c.solve_goal.ensures.extends c.args.known.program.now c.requires.program

pub log_of-requires-clause-assumptions : goal.log_of-requires-clause-assumptions
log_of-requires-clause-assumptions c =
    list_still_owned trait_predicate_shape c.args.cx.now c.solve_goal.new.cx c.args.known.assumptions.now c.solve_goal.ensures.extends
    c.requires.assumptions

pub no_of-requires-clause-program : goal.no_of-requires-clause-program
no_of-requires-clause-program c =
    program_stays c.args.cx.now c.solve_goal.new.cx c.solve_goal.ensures.extends c.args.known.program.now c.requires.program

pub no_of-requires-clause-assumptions : goal.no_of-requires-clause-assumptions
no_of-requires-clause-assumptions c =
    list_still_owned trait_predicate_shape c.args.cx.now c.solve_goal.new.cx c.args.known.assumptions.now c.solve_goal.ensures.extends
    c.requires.assumptions

pub returns-in-Ok-log_of-clause-continues : goal.returns-in-Ok-log_of-clause-continues
returns-in-Ok-log_of-clause-continues c =
    continues_further c.solve_goal.ensures (continues_grown c.log_of.ensures.extends c.solve_goal.ensures.refined.table)

pub returns-in-Ok-log_of-clause-yes : goal.returns-in-Ok-log_of-clause-yes
returns-in-Ok-log_of-clause-yes c = λ yes.
    answer_derives c.args.cx.now c.solve_goal.new.cx c.log_of.new.cx c.solve_goal.new.self.bindings c.args.known.program.now
    c.args.known.assumptions.now c.args.goal c.solve_goal.ensures.extends c.log_of.ensures.extends c.solve_goal.ensures.refined.table
    c.requires.program c.requires.assumptions c.requires.goal c.in-Ok-log_of.ensures.derived

pub returns-in-Err-log_of-clause-continues : goal.returns-in-Err-log_of-clause-continues
returns-in-Err-log_of-clause-continues c =
    continues_further c.solve_goal.ensures (continues_grown c.log_of.ensures.extends c.solve_goal.ensures.refined.table)

pub returns-in-Ok-No-clause-continues : goal.returns-in-Ok-No-clause-continues
returns-in-Ok-No-clause-continues c =
    continues_further (continues_back c.snapshot-begin.result.variables c.snapshot-begin.result.bindings c.requires.table c.solve_goal.ensures
    c.snapshot-begin.ensures.variables c.snapshot-begin.ensures.bindings c.rollback_to.ensures.at) c.no_of.ensures.continues

pub returns-in-Ok-No-clause-no : goal.returns-in-Ok-No-clause-no
returns-in-Ok-No-clause-no c =
    let old = c.args.cx.now in
    let between = c.solve_goal.new.cx in
    let impls = c.args.known.program.now in
    let assumptions = c.args.known.assumptions.now in
    let same = turned_back c.snapshot-begin.result.variables c.snapshot-begin.result.bindings c.solve_goal.ensures
    c.snapshot-begin.ensures.variables c.snapshot-begin.ensures.bindings c.rollback_to.ensures.at in
    if_ok _ _ c.no_of.result
    (λ answer holds no. goal_held IsNo old between c.args.search.now.bindings impls assumptions c.args.goal c.solve_goal.ensures.extends
    c.requires.table c.requires.program c.requires.assumptions c.requires.goal
    (subst (λ b. IsNo (impls_in between impls) (goals_in between assumptions) (goal_under between b between c.args.goal)) same (holds no)))
    c.no_of.ensures.no
