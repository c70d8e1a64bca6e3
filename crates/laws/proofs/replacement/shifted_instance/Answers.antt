-- the law, of what the two calls promise
use Rattle.std.proofs.Common.{◌≡◌, ℕ, List, ap, ◌∙◌}
use Rattle.std.specs.Prelude.{Result, Ok, Err, IfOk}
use Rattle.tt_index.specs.declared.refusal.Refusal.{Refusal}
use Rattle.tt_kinds.specs.Argument.{Argument, change_values, put, readings}
use Rattle.tt_kinds.specs.Laws.{MovesCommute}
use Rattle.tt_kinds.specs.Reading.{read, move}
use Rattle.tt_kinds.specs.Tree.{Depth, Tree}
use Rattle.tt_binder.specs.Instance.{IsPlain}
use Rattle.tt_kinds.specs.Kinds.{ty_shape}
use Rattle.tt_interner.specs.Arguments.{arguments}
use Rattle.tt_interner.specs.Owned.{tree_in}
use Rattle.laws.proofs.replacement.shifted_instance.Goals as goal

commutes : {T : Type 0} → MovesCommute → (result : Result T Refusal) (u : T → Tree Depth) (args : List (Argument Depth)) (t s : Tree Depth) (n : ℕ)
    → IsPlain args t s → IfOk result (λ r. read 0 (u r) ≡ move n (read 0 s))
    → IfOk result (λ r. read 0 (u r) ≡ put (change_values (move n) (readings args)) (move n (read 0 t)))
commutes law (Ok r) u args t s n first second = second ∙ ap (move n) first ∙ law n (readings args) (read 0 t)
commutes law (Err e) u args t s n first second = tt

pub returns : goal.returns
returns c = commutes c.moves_commute_with_replacement.ensures c.shift_vars.result (λ r. tree_in c.shift_vars.new.cx.rows (ty_shape r)) (arguments c.args.cx.now.rows c.args.args.now) (tree_in c.args.cx.now.rows (ty_shape c.args.ty)) _ c.args.amount c.in_ok-made.ensures.plain c.shift_vars.ensures.plain
