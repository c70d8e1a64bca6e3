use Rattle.std.proofs.Common.{sym}
use Rattle.tt_calls.specs.declared.call.Call.TheVariants as call
use Rattle.tt_calls.proofs.QueryLaws.{answered-allowed, answered-owned}
use Rattle.type_terms.proofs.run.runner.answer_named.Goals as goal

pub returns-in-Ty-clause-owned : goal.returns-in-Ty-clause-owned
returns-in-Ty-clause-owned c =
    answered-owned c.args.cx.now c.build_ty.new.cx c.args.earlier.now c.args.cx.now.rows (call.Ty c.in-Ty.kind) c.build_ty.result
    c.outcome_answer.result (c.build_ty.ensures.answers (rw (c.in-Ty.is) at c.requires.named)) c.outcome_answer.ensures

pub returns-in-Ty-clause-allowed : goal.returns-in-Ty-clause-allowed
returns-in-Ty-clause-allowed c =
    rw (c.in-Ty.is)
    (answered-allowed c.args.cx.now c.build_ty.new.cx c.args.earlier.now c.args.cx.now.rows (call.Ty c.in-Ty.kind) c.build_ty.result
    c.outcome_answer.result (c.build_ty.ensures.answers (rw (c.in-Ty.is) at c.requires.named)) c.outcome_answer.ensures)

pub returns-in-Const-clause-owned : goal.returns-in-Const-clause-owned
returns-in-Const-clause-owned c =
    answered-owned c.args.cx.now c.build_const.new.cx c.args.earlier.now c.args.cx.now.rows (call.Const c.in-Const.kind) c.build_const.result
    c.outcome_answer-in-Const.result (c.build_const.ensures.answers (rw (c.in-Const.is) at c.requires.named)) c.outcome_answer-in-Const.ensures

pub returns-in-Const-clause-allowed : goal.returns-in-Const-clause-allowed
returns-in-Const-clause-allowed c =
    rw (c.in-Const.is)
    (answered-allowed c.args.cx.now c.build_const.new.cx c.args.earlier.now c.args.cx.now.rows (call.Const c.in-Const.kind) c.build_const.result
    c.outcome_answer-in-Const.result (c.build_const.ensures.answers (rw (c.in-Const.is) at c.requires.named)) c.outcome_answer-in-Const.ensures)

pub returns-in-Predicate-clause-owned : goal.returns-in-Predicate-clause-owned
returns-in-Predicate-clause-owned c =
    answered-owned c.args.cx.now c.build_predicate.new.cx c.args.earlier.now c.args.cx.now.rows (call.Predicate c.in-Predicate.kind) c.build_predicate.result
    c.outcome_answer-in-Predicate.result (c.build_predicate.ensures.answers (rw (c.in-Predicate.is) at c.requires.named)) c.outcome_answer-in-Predicate.ensures

pub returns-in-Predicate-clause-allowed : goal.returns-in-Predicate-clause-allowed
returns-in-Predicate-clause-allowed c =
    rw (c.in-Predicate.is)
    (answered-allowed c.args.cx.now c.build_predicate.new.cx c.args.earlier.now c.args.cx.now.rows (call.Predicate c.in-Predicate.kind) c.build_predicate.result
    c.outcome_answer-in-Predicate.result (c.build_predicate.ensures.answers (rw (c.in-Predicate.is) at c.requires.named)) c.outcome_answer-in-Predicate.ensures)

pub returns-in-Shift-clause-allowed : goal.returns-in-Shift-clause-allowed
returns-in-Shift-clause-allowed c =
    rw (c.in-Shift.is)
    (answered-allowed c.args.cx.now c.shift_at.new.cx c.args.earlier.now c.args.cx.now.rows (call.Shift c.in-Shift.position c.in-Shift.amount) c.shift_at.result
    c.outcome_answer-in-Shift.result c.shift_at.ensures.answers c.outcome_answer-in-Shift.ensures)

pub returns-in-Instantiate-clause-owned : goal.returns-in-Instantiate-clause-owned
returns-in-Instantiate-clause-owned c =
    answered-owned c.args.cx.now c.instantiate_at.new.cx c.args.earlier.now c.args.cx.now.rows (call.Instantiate c.in-Instantiate.position c.in-Instantiate.args) c.instantiate_at.result
    c.outcome_answer-in-Instantiate.result (c.instantiate_at.ensures.answers c.in-Instantiate.args (sym c.as_slice-in-Instantiate.ensures.value) (rw (c.in-Instantiate.is) at c.requires.named)) c.outcome_answer-in-Instantiate.ensures

pub returns-in-Instantiate-clause-allowed : goal.returns-in-Instantiate-clause-allowed
returns-in-Instantiate-clause-allowed c =
    rw (c.in-Instantiate.is)
    (answered-allowed c.args.cx.now c.instantiate_at.new.cx c.args.earlier.now c.args.cx.now.rows (call.Instantiate c.in-Instantiate.position c.in-Instantiate.args) c.instantiate_at.result
    c.outcome_answer-in-Instantiate.result (c.instantiate_at.ensures.answers c.in-Instantiate.args (sym c.as_slice-in-Instantiate.ensures.value) (rw (c.in-Instantiate.is) at c.requires.named)) c.outcome_answer-in-Instantiate.ensures)

pub returns-in-Args-clause-owned : goal.returns-in-Args-clause-owned
returns-in-Args-clause-owned c =
    answered-owned c.args.cx.now c.build_args_answer.new.cx c.args.earlier.now c.args.cx.now.rows (call.Args c.in-Args.args) c.build_args_answer.result
    c.outcome_answer-in-Args.result (c.build_args_answer.ensures.answers c.in-Args.args (sym c.as_slice-in-Args.ensures.value) (rw (c.in-Args.is) at c.requires.named)) c.outcome_answer-in-Args.ensures

pub returns-in-Args-clause-allowed : goal.returns-in-Args-clause-allowed
returns-in-Args-clause-allowed c =
    rw (c.in-Args.is)
    (answered-allowed c.args.cx.now c.build_args_answer.new.cx c.args.earlier.now c.args.cx.now.rows (call.Args c.in-Args.args) c.build_args_answer.result
    c.outcome_answer-in-Args.result (c.build_args_answer.ensures.answers c.in-Args.args (sym c.as_slice-in-Args.ensures.value) (rw (c.in-Args.is) at c.requires.named)) c.outcome_answer-in-Args.ensures)

pub returns-in-Clauses-clause-owned : goal.returns-in-Clauses-clause-owned
returns-in-Clauses-clause-owned c =
    answered-owned c.args.cx.now c.build_clauses.new.cx c.args.earlier.now c.args.cx.now.rows (call.Clauses c.in-Clauses.positions) c.build_clauses.result
    c.outcome_answer-in-Clauses.result (c.build_clauses.ensures.answers c.in-Clauses.positions (sym c.as_slice.ensures)) c.outcome_answer-in-Clauses.ensures

pub returns-in-Clauses-clause-allowed : goal.returns-in-Clauses-clause-allowed
returns-in-Clauses-clause-allowed c =
    rw (c.in-Clauses.is)
    (answered-allowed c.args.cx.now c.build_clauses.new.cx c.args.earlier.now c.args.cx.now.rows (call.Clauses c.in-Clauses.positions) c.build_clauses.result
    c.outcome_answer-in-Clauses.result (c.build_clauses.ensures.answers c.in-Clauses.positions (sym c.as_slice.ensures)) c.outcome_answer-in-Clauses.ensures)
