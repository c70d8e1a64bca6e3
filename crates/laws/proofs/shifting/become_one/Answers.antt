-- the trees of the results are shifts by one amount, so the law gives back the trees
use Rattle.std.proofs.Common.{◌≡◌, ℕ, ap, sym, ◌∙◌}
use Rattle.tt_kinds.specs.Kinds.{ty_shape}
use Rattle.tt_kinds.specs.Plain.{shift_tree}
use Rattle.tt_kinds.specs.Tree.{Depth, Tree}
use Rattle.tt_fold.specs.Shift.{ShiftsKeepApart}
use Rattle.tt_interner.proofs.Growth.{fill-grows}
use Rattle.laws.proofs.shifting.become_one.Goals as goal

were : ShiftsKeepApart → (n : ℕ) (t u' u f' f g : Tree Depth) → f' ≡ shift_tree 0 n t → f ≡ f' → g ≡ shift_tree 0 n u' → u' ≡ u → f ≡ g → t ≡ u
were law n t u' u f' f g first kept second earlier same = law n t u (sym first ∙ sym kept ∙ same ∙ second ∙ ap (shift_tree 0 n) earlier)

pub returns : goal.returns
returns c = λ same.
    were c.shifts_keep_apart.ensures _ _ _ _ _ _ _ c.in_ok-first.ensures.tree
    (fill-grows _ _ c.shifted_times-2.ensures.extends.rows (ty_shape c.in_ok-first.first) c.in_ok-first.ensures.owned)
    c.in_ok-second.ensures.tree
    (fill-grows _ _ c.shifted_times.ensures.extends.rows (ty_shape c.args.other) (c.is_owned-2.ensures.0 c.if-not-is_owned-2.false))
    (c.is_same_tree.ensures.0 same)
