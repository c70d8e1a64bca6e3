-- no shift is a shift by 0, and one more adds its amount
use Rattle.std.proofs.Common.{◌≡◌, ℕ, ◌+◌, ◌*◌, ap, sym, ◌∙◌, arith}
use Rattle.tt_kinds.specs.Laws.{ShiftByZero}
use Rattle.tt_kinds.specs.Plain.{shift_tree}
use Rattle.tt_kinds.specs.Tree.{Depth, Tree}
use Rattle.tt_fold.specs.Shift.{ShiftsAddUp}
use Rattle.tt_interner.proofs.Growth.{Extends-refl, Extends-trans}
use Rattle.laws.proofs.shifting.shifted_times.Goals as goal

never : ShiftByZero → (a : ℕ) (t : Tree Depth) → t ≡ shift_tree 0 (0 * a) t
never law a t = sym (law 0 t) ∙ ap (λ n. shift_tree 0 n t) (nothing a)
  where
    nothing : (n : ℕ) → 0 ≡ 0 * n
    nothing n = omega arith

once_more : ShiftsAddUp → (i a : ℕ) (t u v : Tree Depth) → u ≡ shift_tree 0 (i * a) t → v ≡ shift_tree 0 a u → v ≡ shift_tree 0 ((i + 1) * a) t
once_more law i a t u v before after = after ∙ ap (shift_tree 0 a) before ∙ law a (i * a) t ∙ ap (λ n. shift_tree 0 n t) (more i a)
  where
    more : (m n : ℕ) → n + m * n ≡ (m + 1) * n
    more m n = omega arith

pub loop-init : goal.loop-init
loop-init c = record {
  extends = Extends-refl c.args.cx.now;
  owned = c.requires;
  tree = never c.shift_by_zero_keeps_trees.ensures c.args.amount _;
}

pub loop-preserved : goal.loop-preserved
loop-preserved c = record {
  extends = Extends-trans c.loop.invariant.extends c.shift_vars.ensures.extends;
  owned = c.in_ok-shifted.ensures.in_range;
  tree = once_more c.shifts_add_up.ensures c.loop.counter c.args.amount _ _ _ c.loop.invariant.tree c.in_ok-shifted.ensures.tree;
}

pub returns-in_err-shifted-clause-extends : goal.returns-in_err-shifted-clause-extends
returns-in_err-shifted-clause-extends c = Extends-trans c.loop.invariant.extends c.shift_vars.ensures.extends
