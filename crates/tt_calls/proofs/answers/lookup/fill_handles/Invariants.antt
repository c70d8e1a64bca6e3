use Rattle.std.proofs.Common.{take}
use Rattle.tt_kinds.specs.Shape.{stored, item_shapes}
use Rattle.tt_interner.specs.Stored.{Terms}
use Rattle.tt_calls.specs.CallForm.{terms_at}
use Rattle.tt_calls.specs.Told.{told_all, AreOwnedAnswers}
use Rattle.tt_calls.specs.Build.{AreItemsOf}
use Rattle.tt_calls.proofs.answers.lookup.fill_handles.Given as goal

abbrev pub invariant-loop-i : goal.invariant-loop-i
invariant-loop-i g l = (terms : Terms) → AreOwnedAnswers terms.rows l.earlier
    → AreItemsOf terms (told_all terms.rows l.earlier) (terms_at g.T.TermHandle.table (take l.i l.positions)) (item_shapes (λ handle. stored g.T.TermHandle.table (g.T.TermHandle.number handle)) (take l.i l.places))
