-- the contents of the shifted binder are the contents, shifted under one binder, which the law keeps
use Rattle.std.proofs.Common.{◌≡◌, ℕ, ◌≤◌, List, subst, ◌∙◌, arith}
use Rattle.tt_kinds.specs.Handle.{Ty}
use Rattle.tt_kinds.specs.Kinds.{ty_shape}
use Rattle.tt_kinds.specs.Label.{Name, VarKind}
use Rattle.tt_kinds.specs.Laws.{ShiftKeepsLow}
use Rattle.tt_kinds.specs.Plain.{shift_tree}
use Rattle.tt_kinds.specs.Reading.{outer_binder}
use Rattle.tt_kinds.specs.Shape.{fill}
use Rattle.tt_kinds.specs.Tree.{Depth, Tree, binder}
use Rattle.tt_interner.specs.Owned.{tree_in}
use Rattle.tt_interner.specs.Rows.{Row}
use Rattle.laws.proofs.shifting.shifted_contents.Goals as goal

kept : ShiftKeepsLow → (n : ℕ) (vs ws : List (VarKind Name)) (t u : Tree Depth) → outer_binder t ≤ 1 → binder ws u ≡ shift_tree 0 n (binder vs t) → u ≡ t
kept law n vs ws t u low shifted = inner ws vs u (shift_tree 1 n t) shifted ∙ law 1 n t low
  where
    inner : (ws vs : List (VarKind Name)) (u t : Tree Depth) → binder ws u ≡ binder vs t → u ≡ t
    inner ws vs u t e = cc

low_at : (rows : List Row) (a b : Ty) (n m : ℕ) → a ≡ b → n ≡ outer_binder (tree_in rows (ty_shape a)) → m ≡ n → m ≤ 1 → outer_binder (tree_in rows (ty_shape b)) ≤ 1
low_at rows a b n m same outer number low =
    subst (λ x. outer_binder (tree_in rows (ty_shape x)) ≤ 1) same (subst (λ k. k ≤ 1) outer (subst (λ k. k ≤ 1) number low))

pub returns : goal.returns
unfolding fill
returns c =
    let rows = c.args.cx.now.rows in
    let high = c.if-as_u32-gt1.false in
    let low = low_at rows _ c.args.binder.value _ _ c.skip_binder-contents.ensures c.outer_exclusive_binder.ensures c.as_u32.ensures.number (omega arith) in
    rw c.skip_binder.ensures (kept c.shift_keeps_low_trees.ensures c.args.amount _ _ (tree_in rows (ty_shape c.args.binder.value)) _ low c.in_ok-shifted.ensures.tree)
