use Rattle.tt_kinds.specs.Shape.{fill}
use Rattle.tt_interner.specs.Rows.{meaning}
use Rattle.tt_interner.specs.Arguments.{arguments}
use Rattle.tt_calls.specs.declared.call.Call.TheVariants as call
use Rattle.tt_calls.specs.Told.{setting}
use Rattle.tt_calls.proofs.BuildLaws.{answer-passed}
use Rattle.type_terms.proofs.FoldLaws.{untouched-back, inst-refused, inst-allowed}
use Rattle.type_terms.proofs.run.answers.folds.instantiated.Goals as goal

pub instantiate-requires-clause-value : goal.instantiate-requires-clause-value
instantiate-requires-clause-value g c = rw (c.bind.ensures, g.met.T.FoldedHandle.is_stored c.args.term) c.requires.term

pub returns-in_err-instance-clause-answers : goal.returns-in_err-instance-clause-answers
unfolding fill
returns-in_err-instance-clause-answers g c = λ e p list at ids args.
    answer-passed c.args.cx.now c.instantiate.new.cx e (call.Instantiate p list) c.from_residual.result c.in_err-instance.field-0.0 c.from_residual.ensures.1
    (inst-refused e p g.T.TermHandle.table (meaning c.args.cx.now.rows g.T.TermHandle.table (g.T.TermHandle.number c.args.term)) at list ids args.items.named
    c.args.cx.now c.instantiate.new.cx (arguments c.args.cx.now.rows c.args.args.now) c.in_err-instance.field-0.0 args.means
    (λ a. let came = ((rw (c.bind.ensures, g.met.T.FoldedHandle.is_stored c.args.term) at c.in_err-instance.ensures.promise.same) a).0 in absurd (cc))
    (untouched-back c.args.cx.now.rows (arguments c.args.cx.now.rows c.args.args.now) g.T.TermHandle.table (g.T.TermHandle.number c.args.term) c.requires.term)
    (rw (c.bind.ensures, g.met.T.FoldedHandle.is_stored c.args.term) at c.in_err-instance.ensures.promise.parameter)
    (rw (c.bind.ensures, g.met.T.FoldedHandle.is_stored c.args.term) at c.in_err-instance.ensures.promise.err))

pub returns-clause-answers : goal.returns-clause-answers
unfolding fill
returns-clause-answers g c = λ e p list at ids args. record {
  owned = c.into_answer.ensures.owns c.instantiate.new.cx.rows
      (rw (c.skip_norm_wip.ensures) (rw (g.met.T.FoldedHandle.is_stored c.in_ok-instance.instance.value) at c.in_ok-instance.ensures.promise.in_range));
  ok = rw (c.into_answer.ensures.told c.instantiate.new.cx.rows, c.skip_norm_wip.ensures)
      (inst-allowed e p g.T.TermHandle.table (meaning c.args.cx.now.rows g.T.TermHandle.table (g.T.TermHandle.number c.args.term)) at list ids args.items.named
      (setting c.args.cx.now c.instantiate.new.cx) (arguments c.args.cx.now.rows c.args.args.now)
      (meaning c.instantiate.new.cx.rows g.T.TermHandle.table (g.T.TermHandle.number c.in_ok-instance.instance.value)) args.means args.items.shallow
      (rw (c.bind.ensures, g.met.T.FoldedHandle.is_stored c.args.term, g.met.T.FoldedHandle.is_stored c.in_ok-instance.instance.value) at c.in_ok-instance.ensures.promise.plain)
      (rw (c.bind.ensures, g.met.T.FoldedHandle.is_stored c.args.term) at c.in_ok-instance.ensures.promise.no_cause));
  err = tt;
}
