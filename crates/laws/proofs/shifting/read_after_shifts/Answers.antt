-- a shifted tree reads as moved, by the law
use Rattle.std.proofs.Common.{◌≡◌, ℕ, ap, ◌∙◌}
use Rattle.std.specs.Prelude.{Result, Ok, Err, IfOk}
use Rattle.tt_index.specs.declared.refusal.Refusal.{Refusal}
use Rattle.tt_kinds.specs.Laws.{ShiftsRead}
use Rattle.tt_kinds.specs.Plain.{shift_tree}
use Rattle.tt_kinds.specs.Reading.{read, move}
use Rattle.tt_kinds.specs.Tree.{Depth, Tree}
use Rattle.laws.proofs.shifting.read_after_shifts.Goals as goal

reads : {T : Type 0} → ShiftsRead → (result : Result T Refusal) (u : T → Tree Depth) (t : Tree Depth) (n : ℕ)
    → IfOk result (λ r. u r ≡ shift_tree 0 n t) → IfOk result (λ r. read 0 (u r) ≡ move n (read 0 t))
reads law (Ok r) u t n h = ap (read 0) h ∙ law n 0 t
reads law (Err e) u t n h = tt

pub returns : goal.returns
returns c = reads c.shifts_read_as_moved.ensures c.shifted_times.result _ _ _ c.shifted_times.ensures.tree
