use Rattle.std.proofs.Common.{◌<◌, ◌≤◌, length, get_or, arith}
use Rattle.std.proofs.lemmas.List.{take_more, take_all}
use Rattle.std.proofs.lemmas.Option.{slice_get-get_or}
use Rattle.tt_kinds.specs.Shape.{stored, item_shapes}
use Rattle.std.specs.Prelude.{List, ℕ}
use Rattle.tt_calls.specs.CallForm.{a_term, terms_at}
use Rattle.tt_calls.specs.Told.{told_all, HasFullTable}
use Rattle.tt_calls.specs.Build.{AreItemsOf}
use Rattle.std.proofs.Common.{subst}
use Rattle.tt_calls.proofs.PartLaws.{items-none, items-more, items-passed, unbuilt-among}
use Rattle.tt_calls.proofs.answers.lookup.handles_at.Goals as goal

pub loop-position-init : goal.loop-position-init
loop-position-init g c = λ terms o.
    rw (c.in_ok-handles.ensures.items) (items-none (a_term g.T.TermHandle.table) (λ handle. stored g.T.TermHandle.table (g.T.TermHandle.number handle)) terms (told_all terms.rows c.args.earlier.now))

pub returns-in_err-handle : goal.returns-in_err-handle
returns-in_err-handle g c = λ terms o.
    let inside : c.loop-position.position-index < length c.args.positions.now = omega arith in
    items-passed terms (told_all terms.rows c.args.earlier.now) (terms_at g.T.TermHandle.table c.args.positions.now) (λ handle. stored g.T.TermHandle.table (g.T.TermHandle.number handle))
    c.from_residual-in_err-handle.result c.in_err-handle.field-0.0 c.from_residual-in_err-handle.ensures.1
    (unbuilt-among (a_term g.T.TermHandle.table) (λ handle. stored g.T.TermHandle.table (g.T.TermHandle.number handle)) (HasFullTable terms) (told_all terms.rows c.args.earlier.now) c.args.positions.now
    c.loop-position.position-index (get_or c.args.positions.now c.loop-position.position-index 0) c.in_err-handle.field-0.0
    (slice_get-get_or c.args.positions.now c.loop-position.position-index 0 inside) (c.in_err-handle.ensures.part terms o).err)

pub loop-position-preserved : goal.loop-position-preserved
loop-position-preserved g c = λ terms o.
    let inside : c.loop-position.position-index < length c.args.positions.now = omega arith in
    rw (take_more c.args.positions.now c.loop-position.position-index 0 inside, c.in_ok-push.ensures.items)
    (items-more (a_term g.T.TermHandle.table) (λ handle. stored g.T.TermHandle.table (g.T.TermHandle.number handle)) terms (told_all terms.rows c.args.earlier.now) _ _ _ _
    (c.loop-position.invariant terms o) (c.in_ok-handle.ensures.part terms o).ok)

pub returns : goal.returns
returns g c = λ terms o.
    let ended : length c.args.positions.now ≤ c.loop-position.position-index = omega arith in
    record {
      ok = subst (λ (ps : List ℕ). AreItemsOf terms (told_all terms.rows c.args.earlier.now) (terms_at g.T.TermHandle.table ps)
          (item_shapes (λ handle. stored g.T.TermHandle.table (g.T.TermHandle.number handle)) c.loop-position.handles.items))
          (take_all c.loop-position.position-index c.args.positions.now ended) (c.loop-position.invariant terms o);
      err = tt;
    }
