use Rattle.std.proofs.Common.{◌≡◌, ◌<◌, length, take, get_or, subst, arith}
use Rattle.std.specs.Prelude.{List, ℕ}
use Rattle.std.proofs.lemmas.List.{take_more, take_more_set, take_all}
use Rattle.std.proofs.lemmas.Option.{slice_get-get_or}
use Rattle.tt_kinds.specs.Shape.{stored, item_shapes}
use Rattle.tt_calls.specs.CallForm.{a_term, terms_at}
use Rattle.tt_calls.specs.Told.{told_all, HasFullTable}
use Rattle.tt_calls.specs.Build.{AreItemsOf}
use Rattle.tt_calls.proofs.PartLaws.{items-none, items-more, puts-passed, unbuilt-among}
use Rattle.tt_calls.proofs.answers.lookup.fill_handles.Goals as goal

pub loop-i-init : goal.loop-i-init
loop-i-init g c = λ terms o. items-none (a_term g.T.TermHandle.table) (λ handle. stored g.T.TermHandle.table (g.T.TermHandle.number handle)) terms (told_all terms.rows c.args.earlier.now)

pub returns-in_err-places-clause-items : goal.returns-in_err-places-clause-items
returns-in_err-places-clause-items g c = λ terms o.
    let inside : c.loop-i.i < length c.args.positions.now = omega arith in
    puts-passed terms (told_all terms.rows c.args.earlier.now) (terms_at g.T.TermHandle.table c.args.positions.now) (λ handle. stored g.T.TermHandle.table (g.T.TermHandle.number handle)) _
    c.from_residual.result c.in_err-places.field-0.0 c.from_residual.ensures.1
    (unbuilt-among (a_term g.T.TermHandle.table) (λ handle. stored g.T.TermHandle.table (g.T.TermHandle.number handle)) (HasFullTable terms) (told_all terms.rows c.args.earlier.now) c.args.positions.now
    c.loop-i.i (get_or c.args.positions.now c.loop-i.i 0) c.in_err-places.field-0.0
    (slice_get-get_or c.args.positions.now c.loop-i.i 0 inside) (c.in_err-places.ensures.part terms o).err)

pub loop-i-preserved : goal.loop-i-preserved
loop-i-preserved g c = λ terms o.
    let inside : c.loop-i.i < length c.args.positions.now = omega arith in
    let room : c.loop-i.i < length c.loop-i.places = omega (arith, c.loop-i.auto.places, c.requires, inside) in
    rw (take_more c.args.positions.now c.loop-i.i 0 inside, take_more_set c.loop-i.places c.loop-i.i c.in_ok-places.field-0 room)
    (items-more (a_term g.T.TermHandle.table) (λ handle. stored g.T.TermHandle.table (g.T.TermHandle.number handle)) terms (told_all terms.rows c.args.earlier.now) _ _ _ _
    (c.loop-i.invariant terms o) (c.in_ok-places.ensures.part terms o).ok)

pub returns-clause-items : goal.returns-clause-items
returns-clause-items g c = λ terms o.
    let e = told_all terms.rows c.args.earlier.now in
    let ended : c.loop-i.i ≡ length c.args.positions.now = omega (arith, c.loop-i-test.false, c.loop-i.auto.i-end) in
    record {
      ok = subst (λ (n : ℕ). AreItemsOf terms e (terms_at g.T.TermHandle.table c.args.positions.now) (item_shapes (λ handle. stored g.T.TermHandle.table (g.T.TermHandle.number handle)) (take n c.loop-i.places))) ended
          (subst (λ (ps : List ℕ). AreItemsOf terms e (terms_at g.T.TermHandle.table ps) (item_shapes (λ handle. stored g.T.TermHandle.table (g.T.TermHandle.number handle)) (take c.loop-i.i c.loop-i.places)))
          (take_all c.loop-i.i c.args.positions.now c.loop-i-test.false) (c.loop-i.invariant terms o));
      err = tt;
    }
