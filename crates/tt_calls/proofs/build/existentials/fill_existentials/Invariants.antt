use Rattle.std.proofs.Common.{take, map}
use Rattle.tt_kinds.specs.Shape.{item_shapes}
use Rattle.tt_kinds.specs.Kinds.{existential_shape}
use Rattle.tt_interner.specs.Stored.{Extends}
use Rattle.tt_calls.specs.CallForm.{existential_call_form, existential_tree, existential_positions}
use Rattle.tt_calls.specs.CallForm.{IsExistentialTooDeep, all_trees, all_positions, AnyIsDeep}
use Rattle.tt_calls.specs.Told.{told_all}
use Rattle.tt_calls.specs.Means.{number_at, tree_at}
use Rattle.tt_calls.specs.Build.{ArePlaced}
use Rattle.tt_calls.proofs.build.existentials.fill_existentials.Given as goal

abbrev pub invariant-loop-i : goal.invariant-loop-i
invariant-loop-i l =
    let forms = map (existential_call_form (number_at (told_all l.fn.cx.rows l.earlier))) (take l.i l.calls) in
    Extends l.fn.cx l.cx × ArePlaced l.cx (told_all l.fn.cx.rows l.earlier) (all_trees (existential_tree (number_at (told_all l.fn.cx.rows l.earlier)) (tree_at (told_all l.fn.cx.rows l.earlier))) forms) (all_positions existential_positions forms)
    (AnyIsDeep IsExistentialTooDeep forms) (item_shapes existential_shape (take l.i l.places))
