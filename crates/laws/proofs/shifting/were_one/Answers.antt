-- the readings of the results are moved by one amount, so the laws give back the trees
use Rattle.std.proofs.Common.{◌≡◌, ℕ, ap, sym, ◌∙◌}
use Rattle.tt_kinds.specs.Kinds.{ty_shape}
use Rattle.tt_kinds.specs.Laws.{MovesTellReadings, ReadingsTellTrees}
use Rattle.tt_kinds.specs.Reading.{read, move}
use Rattle.tt_kinds.specs.Tree.{Depth, Tree}
use Rattle.tt_interner.proofs.Growth.{fill-grows}
use Rattle.laws.proofs.shifting.were_one.Goals as goal

were : MovesTellReadings → ReadingsTellTrees → (n : ℕ) (t u' u f' f g : Tree Depth) → read 0 f' ≡ move n (read 0 t) → f ≡ f' → read 0 g ≡ move n (read 0 u') → u' ≡ u → f ≡ g → t ≡ u
were moves readings n t u' u f' f g first kept second earlier same =
    readings 0 t u (moves n (read 0 t) (read 0 u) (sym first ∙ ap (read 0) (sym kept ∙ same) ∙ second ∙ ap (λ v. move n (read 0 v)) earlier))

pub returns : goal.returns
returns c = λ same.
    were c.moves_tell_readings.ensures c.readings_tell_trees.ensures _ _ _ _ _ _ _ c.in_ok-moved_one.ensures.reading
    (fill-grows _ _ c.moved_twice-2.ensures.extends.rows (ty_shape c.in_ok-moved_one.moved_one) c.in_ok-moved_one.ensures.owned)
    c.in_ok-moved_other.ensures.reading
    (fill-grows _ _ c.moved_twice.ensures.extends.rows (ty_shape c.args.other) (c.is_owned-2.ensures.0 c.if-not-is_owned-2.false))
    (c.is_same_tree.ensures.0 same)
