use Rattle.tt_kinds.specs.Shape.{fill}
use Rattle.tt_interner.specs.Rows.{meaning}
use Rattle.tt_calls.specs.declared.call.Call.TheVariants as call
use Rattle.tt_calls.specs.Told.{setting}
use Rattle.tt_calls.proofs.BuildLaws.{answer-passed}
use Rattle.type_terms.proofs.FoldLaws.{shift-refused, shift-allowed}
use Rattle.type_terms.proofs.run.answers.folds.shifted.Goals as goal

pub shift_vars-requires : goal.shift_vars-requires
shift_vars-requires g c = rw (g.met.T.FoldedHandle.is_stored c.args.term) c.requires

pub returns-in_err-shifted-clause-answers : goal.returns-in_err-shifted-clause-answers
unfolding fill
returns-in_err-shifted-clause-answers g c = λ e p at.
    answer-passed c.args.cx.now c.shift_vars.new.cx e (call.Shift p c.args.amount) c.from_residual.result c.in_err-shifted.field-0.0 c.from_residual.ensures.1
    (shift-refused e p g.T.TermHandle.table (meaning c.args.cx.now.rows g.T.TermHandle.table (g.T.TermHandle.number c.args.term)) at c.args.cx.now c.shift_vars.new.cx c.args.amount c.in_err-shifted.field-0.0
    (λ a. let came = ((rw (g.met.T.FoldedHandle.is_stored c.args.term) at c.in_err-shifted.ensures.same) a).0 in absurd (cc))
    (rw (g.met.T.FoldedHandle.is_stored c.args.term) at c.in_err-shifted.ensures.err))

pub returns-clause-answers : goal.returns-clause-answers
unfolding fill
returns-clause-answers g c = λ e p at. record {
  owned = c.into_answer.ensures.owns c.shift_vars.new.cx.rows (rw (g.met.T.FoldedHandle.is_stored c.in_ok-shifted.shifted) at c.in_ok-shifted.ensures.in_range);
  ok = rw (c.into_answer.ensures.told c.shift_vars.new.cx.rows)
      (shift-allowed e p g.T.TermHandle.table (meaning c.args.cx.now.rows g.T.TermHandle.table (g.T.TermHandle.number c.args.term)) at (setting c.args.cx.now c.shift_vars.new.cx) c.args.amount
      (meaning c.shift_vars.new.cx.rows g.T.TermHandle.table (g.T.TermHandle.number c.in_ok-shifted.shifted))
      (rw (g.met.T.FoldedHandle.is_stored c.in_ok-shifted.shifted, g.met.T.FoldedHandle.is_stored c.args.term) at c.in_ok-shifted.ensures.plain));
  err = tt;
}
