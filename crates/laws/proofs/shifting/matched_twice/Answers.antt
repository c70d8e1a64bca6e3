-- a move keeps variables matched, by the law
use Rattle.std.proofs.Common.{◌≡◌, ℕ, [], sym, subst}
use Rattle.std.specs.Prelude.{Result, Ok, Err, IfOk}
use Rattle.tt_index.specs.declared.refusal.Refusal.{Refusal}
use Rattle.tt_kinds.specs.Laws.{MoveKeepsMatched}
use Rattle.tt_kinds.specs.Matched.{MatchedUnder}
use Rattle.tt_kinds.specs.Reading.{read, move}
use Rattle.tt_kinds.specs.Tree.{Depth, Tree}
use Rattle.laws.proofs.shifting.matched_twice.Goals as goal

keeps : {T : Type 0} → MoveKeepsMatched → (result : Result T Refusal) (u : T → Tree Depth) (t : Tree Depth) (n : ℕ) → MatchedUnder [] (read 0 t)
    → IfOk result (λ r. read 0 (u r) ≡ move n (read 0 t)) → IfOk result (λ r. MatchedUnder [] (read 0 (u r)))
keeps law (Ok r) u t n matched h = subst (MatchedUnder []) (sym h) (law n [] (read 0 t) matched)
keeps law (Err e) u t n matched h = tt

pub returns : goal.returns
returns c = keeps c.move_keeps_matched.ensures c.moved_twice.result _ _ _ c.requires c.moved_twice.ensures.reading
