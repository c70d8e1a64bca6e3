use Rattle.std.proofs.Common.{sym, ap, ◌∙◌, ◌≡◌, inl}
use Rattle.tt_kinds.specs.Reading.{read, outer_binder}
use Rattle.tt_kinds.specs.Plain.{shift_tree}
use Rattle.tt_kinds.specs.Count.{moving_types}
use Rattle.tt_kinds.proofs.ReadingLaws.{read-shift_tree}
use Rattle.tt_fold.specs.Steps.{tree_by}
use Rattle.tt_fold.specs.Shift.{shift_state}
use Rattle.tt_fold.proofs.ClauseLaws.{value_keeps}
use Rattle.tt_fold.proofs.ShiftLaws.{shift_outcome, stays, closed, shifts_on, comes_of, keeps_matched}
use Rattle.tt_fold.proofs.PlaceLaws.{pairs_few, pairs_none}
use Rattle.tt_fold.proofs.shift.shift_vars.Goals.{then-amount-eq0-via-then-amount-eq0}
use Rattle.tt_fold.proofs.shift.shift_vars.Goals.{then-amount-eq0-via-else-amount-eq0+then-not-has_escaping_bound_vars}
use Rattle.tt_fold.proofs.shift.shift_vars.Goals as goal

pub returns-then-amount-eq0-clause-tree : goal.returns-then-amount-eq0-clause-tree
returns-then-amount-eq0-clause-tree g c = sym (stays c.args.amount (tree_by g.T.TypeVisitable.shape c.args.cx.now.rows c.args.value) (elim c.then-amount-eq0.branch [
  | then-amount-eq0-via-then-amount-eq0 w ↦ inl w.if-amount-eq0.true
  | then-amount-eq0-via-else-amount-eq0+then-not-has_escaping_bound_vars w ↦ closed c.args.amount (outer_binder (tree_by g.T.TypeVisitable.shape c.args.cx.now.rows c.args.value)) w.if-not-has_escaping_bound_vars.ensures.1
]))

pub returns-then-amount-eq0-clause-plain : goal.returns-then-amount-eq0-clause-plain
returns-then-amount-eq0-clause-plain g c =
    let t = tree_by g.T.TypeVisitable.shape c.args.cx.now.rows c.args.value in
    let same : t ≡ shift_tree 0 c.args.amount t = sym (stays c.args.amount t (elim c.then-amount-eq0.branch [
      | then-amount-eq0-via-then-amount-eq0 w ↦ inl w.if-amount-eq0.true
      | then-amount-eq0-via-else-amount-eq0+then-not-has_escaping_bound_vars w ↦ closed c.args.amount (outer_binder t) w.if-not-has_escaping_bound_vars.ensures.1
    ])) in
    ap (read 0) same ∙ read-shift_tree c.args.amount 0 t

pub returns-clause-plain : goal.returns-clause-plain
returns-clause-plain g c = (shift_outcome c.args.amount c.fold_with.result (ap (λ es. shift_state c.args.amount 0 c.args.cx.now.rows es) c.new.ensures) (value_keeps _ c.are_rows.ensures.are (g.T.TypeVisitable.shape c.args.value) c.requires) c.fold_with.ensures.folds).plain

pub returns-clause-tree : goal.returns-clause-tree
returns-clause-tree g c = (shift_outcome c.args.amount c.fold_with.result (ap (λ es. shift_state c.args.amount 0 c.args.cx.now.rows es) c.new.ensures) (value_keeps _ c.are_rows.ensures.are (g.T.TypeVisitable.shape c.args.value) c.requires) c.fold_with.ensures.folds).tree

pub returns-clause-err : goal.returns-clause-err
returns-clause-err g c = (shift_outcome c.args.amount c.fold_with.result (ap (λ es. shift_state c.args.amount 0 c.args.cx.now.rows es) c.new.ensures) (value_keeps _ c.are_rows.ensures.are (g.T.TypeVisitable.shape c.args.value) c.requires) c.fold_with.ensures.folds).err

pub returns-clause-descents : goal.returns-clause-descents
returns-clause-descents g c = (shift_outcome c.args.amount c.fold_with.result (ap (λ es. shift_state c.args.amount 0 c.args.cx.now.rows es) c.new.ensures) (value_keeps _ c.are_rows.ensures.are (g.T.TypeVisitable.shape c.args.value) c.requires) c.fold_with.ensures.folds).counts.descents

pub returns-clause-shift_descents : goal.returns-clause-shift_descents
returns-clause-shift_descents g c = (shift_outcome c.args.amount c.fold_with.result (ap (λ es. shift_state c.args.amount 0 c.args.cx.now.rows es) c.new.ensures) (value_keeps _ c.are_rows.ensures.are (g.T.TypeVisitable.shape c.args.value) c.requires) c.fold_with.ensures.folds).counts.up

pub returns-then-amount-eq0-clause-pairs : goal.returns-then-amount-eq0-clause-pairs
returns-then-amount-eq0-clause-pairs g c = pairs_none (moving_types 0 (tree_by g.T.TypeVisitable.shape c.args.cx.now.rows c.args.value)) c.args.cx.now.counters.shift_descents

pub returns-clause-pairs : goal.returns-clause-pairs
returns-clause-pairs g c = (shift_outcome c.args.amount c.fold_with.result (ap (λ es. shift_state c.args.amount 0 c.args.cx.now.rows es) c.new.ensures) (value_keeps _ c.are_rows.ensures.are (g.T.TypeVisitable.shape c.args.value) c.requires) c.fold_with.ensures.folds).pairs

pub returns-clause-positions : goal.returns-clause-positions
returns-clause-positions g c = pairs_few _ _ _ (shift_outcome c.args.amount c.fold_with.result (ap (λ es. shift_state c.args.amount 0 c.args.cx.now.rows es) c.new.ensures) (value_keeps _ c.are_rows.ensures.are (g.T.TypeVisitable.shape c.args.value) c.requires) c.fold_with.ensures.folds).pairs

pub returns-then-amount-eq0-clause-adds_up : goal.returns-then-amount-eq0-clause-adds_up
returns-then-amount-eq0-clause-adds_up g c =
    let t = tree_by g.T.TypeVisitable.shape c.args.cx.now.rows c.args.value in
    shifts_on c.args.amount t t (sym (stays c.args.amount t (elim c.then-amount-eq0.branch [
      | then-amount-eq0-via-then-amount-eq0 w ↦ inl w.if-amount-eq0.true
      | then-amount-eq0-via-else-amount-eq0+then-not-has_escaping_bound_vars w ↦ closed c.args.amount (outer_binder t) w.if-not-has_escaping_bound_vars.ensures.1
    ])))

pub returns-clause-adds_up : goal.returns-clause-adds_up
returns-clause-adds_up g c = (shift_outcome c.args.amount c.fold_with.result (ap (λ es. shift_state c.args.amount 0 c.args.cx.now.rows es) c.new.ensures) (value_keeps _ c.are_rows.ensures.are (g.T.TypeVisitable.shape c.args.value) c.requires) c.fold_with.ensures.folds).adds_up

pub returns-then-amount-eq0-clause-tells_apart : goal.returns-then-amount-eq0-clause-tells_apart
returns-then-amount-eq0-clause-tells_apart g c =
    let t = tree_by g.T.TypeVisitable.shape c.args.cx.now.rows c.args.value in
    comes_of c.args.amount t t (sym (stays c.args.amount t (elim c.then-amount-eq0.branch [
      | then-amount-eq0-via-then-amount-eq0 w ↦ inl w.if-amount-eq0.true
      | then-amount-eq0-via-else-amount-eq0+then-not-has_escaping_bound_vars w ↦ closed c.args.amount (outer_binder t) w.if-not-has_escaping_bound_vars.ensures.1
    ])))

pub returns-clause-tells_apart : goal.returns-clause-tells_apart
returns-clause-tells_apart g c = (shift_outcome c.args.amount c.fold_with.result (ap (λ es. shift_state c.args.amount 0 c.args.cx.now.rows es) c.new.ensures) (value_keeps _ c.are_rows.ensures.are (g.T.TypeVisitable.shape c.args.value) c.requires) c.fold_with.ensures.folds).tells_apart

pub returns-then-amount-eq0-clause-matched : goal.returns-then-amount-eq0-clause-matched
returns-then-amount-eq0-clause-matched g c =
    let t = tree_by g.T.TypeVisitable.shape c.args.cx.now.rows c.args.value in
    keeps_matched c.args.amount t t (sym (stays c.args.amount t (elim c.then-amount-eq0.branch [
      | then-amount-eq0-via-then-amount-eq0 w ↦ inl w.if-amount-eq0.true
      | then-amount-eq0-via-else-amount-eq0+then-not-has_escaping_bound_vars w ↦ closed c.args.amount (outer_binder t) w.if-not-has_escaping_bound_vars.ensures.1
    ])))

pub returns-clause-matched : goal.returns-clause-matched
returns-clause-matched g c = (shift_outcome c.args.amount c.fold_with.result (ap (λ es. shift_state c.args.amount 0 c.args.cx.now.rows es) c.new.ensures) (value_keeps _ c.are_rows.ensures.are (g.T.TypeVisitable.shape c.args.value) c.requires) c.fold_with.ensures.folds).matched
