use Rattle.std.proofs.Common.{◌≡◌, [], rules}
use Rattle.tt_kinds.specs.Shape.{fill}
use Rattle.tt_kinds.specs.declared.region_kind.RegionKind.TheVariants.{ReErased}
use Rattle.tt_interner.specs.Rows.{meaning}
use Rattle.tt_calls.specs.declared.call.Call.TheVariants as call
use Rattle.tt_calls.specs.Told.{setting}
use Rattle.tt_calls.proofs.BuildLaws.{answer-passed}
use Rattle.type_terms.proofs.EraseLaws.{answers-regions, places-erased, erase-refused, erase-allowed}
use Rattle.type_terms.proofs.run.answers.folds.erased.Goals as goal

pub fold_regions-requires-clause-value : goal.fold_regions-requires-clause-value
fold_regions-requires-clause-value g c = rw (g.met.T.FoldedHandle.is_stored c.args.term) c.requires

pub fold_regions-requires-clause-answers : goal.fold_regions-requires-clause-answers
fold_regions-requires-clause-answers g c =
    answers-regions _ (λ n. []) (λ f. f.0 ≡ ReErased) (λ f r d a s h k. (search rules, search rules)) _ _
    (let e = c.in_ok-region.ensures.ok tt in cc)

pub returns-in_err-erased-clause-answers : goal.returns-in_err-erased-clause-answers
unfolding fill
returns-in_err-erased-clause-answers g c = λ e p at.
    answer-passed c.args.cx.now c.fold_regions.new.cx e (call.EraseRegions p) c.from_residual-in_err-erased.result c.in_err-erased.field-0.0 c.from_residual-in_err-erased.ensures.1
    (erase-refused e p g.T.TermHandle.table (meaning c.args.cx.now.rows g.T.TermHandle.table (g.T.TermHandle.number c.args.term)) at _ _ _ c.args.cx.now c.fold_regions.new.cx c.in_err-erased.field-0.0
    (λ a. let came = ((rw (g.met.T.FoldedHandle.is_stored c.args.term) at c.in_err-erased.ensures.same) a).0 in absurd (cc))
    (rw (g.met.T.FoldedHandle.is_stored c.args.term) at c.in_err-erased.ensures.err))

pub returns-clause-answers : goal.returns-clause-answers
unfolding fill
returns-clause-answers g c = λ e p at. record {
  owned = c.into_answer.ensures.owns c.fold_regions.new.cx.rows (rw (g.met.T.FoldedHandle.is_stored c.in_ok-erased.erased) at c.in_ok-erased.ensures.in_range);
  ok = rw (c.into_answer.ensures.told c.fold_regions.new.cx.rows)
      (erase-allowed e p g.T.TermHandle.table (meaning c.args.cx.now.rows g.T.TermHandle.table (g.T.TermHandle.number c.args.term)) at (setting c.args.cx.now c.fold_regions.new.cx)
      (meaning c.fold_regions.new.cx.rows g.T.TermHandle.table (g.T.TermHandle.number c.in_ok-erased.erased))
      (places-erased _ _ (λ f. f.0 ≡ ReErased) (λ f r d a s h k. (search rules, search rules)) _ _ _
      (let same = c.in_ok-region.ensures.ok tt in cc)
      (rw (g.met.T.FoldedHandle.is_stored c.in_ok-erased.erased, g.met.T.FoldedHandle.is_stored c.args.term) at c.in_ok-erased.ensures.placed)));
  err = tt;
}
