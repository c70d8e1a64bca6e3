use Rattle.std.proofs.Common.{refl}
use Rattle.tt_interner.specs.Arguments.{arguments}
use Rattle.tt_binder.proofs.ClauseLaws.{opened_keeps}
use Rattle.tt_binder.proofs.OpeningOutcome.{new_opener, opened_back, opened_outcome}
use Rattle.tt_binder.proofs.open_binder.instantiate_binder.Goals as goal

pub returns-then-not-has_escaping_bound_vars : goal.returns-then-not-has_escaping_bound_vars
returns-then-not-has_escaping_bound_vars g c = rw (← c.skip_binder-value.ensures) (record {
  promise = opened_back g.T.TypeVisitable.shape (arguments c.args.cx.now.rows (g.S.SliceLike.items c.args.cx.now.rows c.args.args)) c.args.cx.now c.skip_binder-value.result
      (rw (← c.skip_binder-value.ensures) at c.requires.value) c.if-not-has_escaping_bound_vars.ensures.1;
})

pub returns : goal.returns
returns g c =
    let rows = c.args.cx.now.rows in
    let items = g.S.SliceLike.items rows c.args.args in
    let part = rw (← c.skip_binder-value.ensures) at c.requires.value in
    rw (← c.skip_binder-value.ensures) (record {
      promise = opened_outcome (arguments rows items) c.fold_with.result
          (new_opener rows g.S.SliceLike.items _ c.args.args _ _ c.new-opener.ensures.args c.new-opener.ensures.binders_passed c.new-opener.ensures.memory)
          (opened_keeps rows c.are_rows.ensures.are items c.len-count.ensures.are (g.T.TypeVisitable.shape c.skip_binder-value.result) part)
          (c.if-not-has_escaping_bound_vars.ensures.0 refl) c.fold_with.ensures.folds;
    })
