use Rattle.std.proofs.Common.{take}
use Rattle.tt_kinds.specs.Shape.{stored, item_shapes}
use Rattle.tt_interner.specs.Stored.{Terms}
use Rattle.tt_calls.specs.CallForm.{terms_at}
use Rattle.tt_calls.specs.Told.{told_all, AreOwnedAnswers}
use Rattle.tt_calls.specs.Build.{AreItemsOf}
use Rattle.tt_calls.proofs.answers.lookup.handles_at.Given as goal

abbrev pub invariant-loop-position : goal.invariant-loop-position
invariant-loop-position g l = (terms : Terms) → AreOwnedAnswers terms.rows l.earlier
    → AreItemsOf terms (told_all terms.rows l.earlier) (terms_at g.T.TermHandle.table (take l.position-index l.positions)) (item_shapes (λ handle. stored g.T.TermHandle.table (g.T.TermHandle.number handle)) l.handles.items)
