-- two moves are one by the sum, by the law
use Rattle.std.proofs.Common.{◌≡◌, ℕ, ◌+◌, ap, ◌∙◌}
use Rattle.std.specs.Prelude.{Result, Ok, Err, IfOk}
use Rattle.tt_index.specs.declared.refusal.Refusal.{Refusal}
use Rattle.tt_kinds.specs.Laws.{MovesAddUp}
use Rattle.tt_kinds.specs.Reading.{read, move}
use Rattle.tt_kinds.specs.Tree.{Depth, Tree}
use Rattle.tt_interner.proofs.Growth.{Extends-trans}
use Rattle.laws.proofs.shifting.moved_twice.Goals as goal

adds_up : {T : Type 0} → MovesAddUp → (result : Result T Refusal) (u : T → Tree Depth) (t s : Tree Depth) (m n : ℕ)
    → read 0 s ≡ move n (read 0 t) → IfOk result (λ r. read 0 (u r) ≡ move m (read 0 s)) → IfOk result (λ r. read 0 (u r) ≡ move (m + n) (read 0 t))
adds_up law (Ok r) u t s m n first second = second ∙ ap (move m) first ∙ law m n (read 0 t)
adds_up law (Err e) u t s m n first second = tt

pub returns-clause-reading : goal.returns-clause-reading
returns-clause-reading c = adds_up c.moves_add_up.ensures c.shift_vars-2.result _ _ _ c.args.second c.args.first c.in_ok-moved.ensures.plain c.shift_vars-2.ensures.plain

pub returns-clause-extends : goal.returns-clause-extends
returns-clause-extends c = Extends-trans c.shift_vars.ensures.extends c.shift_vars-2.ensures.extends
