use Rattle.std.proofs.Common.{length, take, arith}
use Rattle.tt_kinds.specs.Kinds.{clauses_shape}
use Rattle.tt_calls.specs.CallForm.{clause_items, clauses_tree, items_positions, AreItemsTooDeep}
use Rattle.tt_calls.specs.Told.{told_all}
use Rattle.tt_calls.specs.Means.{number_at, tree_at}
use Rattle.tt_calls.proofs.PartLaws.{placed-passed}
use Rattle.tt_calls.proofs.ResultLaws.{passed}
use Rattle.tt_calls.proofs.RoomLaws.{never-room}
use Rattle.tt_calls.proofs.ClauseLaws.{clauses-placed, clauses-room, long-clauses-room}
use Rattle.tt_calls.proofs.build.clauses.clause_list.Goals as goal

pub mk_clauses-requires : goal.mk_clauses-requires
mk_clauses-requires c = c.in_ok-fill_clauses.ensures.ok.clauses

pub returns-in_err-fill_clauses-clause-list : goal.returns-in_err-fill_clauses-clause-list
returns-in_err-fill_clauses-clause-list c =
    let e = told_all c.args.cx.now.rows c.args.earlier.now in
    let ps = c.args.positions.now in
    placed-passed c.args.cx.now e (clauses_tree (number_at e) (tree_at e) ps) (items_positions (clause_items ps)) (AreItemsTooDeep (clause_items ps)) clauses_shape
    c.from_residual.result c.in_err-fill_clauses.field-0.0 c.from_residual.ensures.1 c.in_err-fill_clauses.ensures.err

pub returns-in_err-fill_clauses-clause-room : goal.returns-in_err-fill_clauses-clause-room
returns-in_err-fill_clauses-clause-room c =
    let r = c.in_err-fill_clauses in
    passed c.from_residual.result r.field-0.0 _ c.from_residual.ensures.1 (never-room c.args.cx.now.rows _ _ r.field-0.0 r.ensures.cause)

pub returns-then-positions-le-MOST_IN_PLACE-clause-extends : goal.returns-then-positions-le-MOST_IN_PLACE-clause-extends
returns-then-positions-le-MOST_IN_PLACE-clause-extends c = record { rows = c.mk_clauses.ensures.grows; limit = c.mk_clauses.ensures.limit }

pub returns-then-positions-le-MOST_IN_PLACE-clause-list : goal.returns-then-positions-le-MOST_IN_PLACE-clause-list
returns-then-positions-le-MOST_IN_PLACE-clause-list c =
    clauses-placed c.args.cx.now c.mk_clauses.new.self (told_all c.args.cx.now.rows c.args.earlier.now) c.args.positions.now (take (length c.args.positions.now) c.fill_clauses.new.places) c.mk_clauses.result
    c.in_ok-fill_clauses.ensures.ok c.mk_clauses.ensures

pub returns-then-positions-le-MOST_IN_PLACE-clause-room : goal.returns-then-positions-le-MOST_IN_PLACE-clause-room
returns-then-positions-le-MOST_IN_PLACE-clause-room c =
    clauses-room c.args.cx.now c.mk_clauses.new.self (told_all c.args.cx.now.rows c.args.earlier.now) c.args.positions.now (take (length c.args.positions.now) c.fill_clauses.new.places) c.mk_clauses.result
    c.in_ok-fill_clauses.ensures.ok c.mk_clauses.ensures

pub returns-in_err-clauses-clause-list : goal.returns-in_err-clauses-clause-list
returns-in_err-clauses-clause-list c =
    let e = told_all c.args.cx.now.rows c.args.earlier.now in
    let ps = c.args.positions.now in
    placed-passed c.args.cx.now e (clauses_tree (number_at e) (tree_at e) ps) (items_positions (clause_items ps)) (AreItemsTooDeep (clause_items ps)) clauses_shape
    c.from_residual-in_err-clauses.result c.in_err-clauses.field-0.0 c.from_residual-in_err-clauses.ensures.1 c.in_err-clauses.ensures.err

pub returns-in_err-clauses-clause-room : goal.returns-in_err-clauses-clause-room
returns-in_err-clauses-clause-room c =
    long-clauses-room c.args.cx.now.rows (told_all c.args.cx.now.rows c.args.earlier.now) c.args.positions.now c.from_residual-in_err-clauses.result (omega arith)

pub mk_clauses-requires-2 : goal.mk_clauses-requires-2
mk_clauses-requires-2 c = rw (c.as_slice.ensures.value) c.in_ok-clauses.ensures.ok.clauses

pub returns-clause-extends : goal.returns-clause-extends
returns-clause-extends c = record { rows = c.mk_clauses-2.ensures.grows; limit = c.mk_clauses-2.ensures.limit }

pub returns-clause-list : goal.returns-clause-list
returns-clause-list c =
    clauses-placed c.args.cx.now c.mk_clauses-2.new.self (told_all c.args.cx.now.rows c.args.earlier.now) c.args.positions.now c.in_ok-clauses.clauses.items c.mk_clauses-2.result
    c.in_ok-clauses.ensures.ok (rw (← c.as_slice.ensures.value) c.mk_clauses-2.ensures)

pub returns-clause-room : goal.returns-clause-room
returns-clause-room c =
    long-clauses-room c.mk_clauses-2.new.self.rows (told_all c.args.cx.now.rows c.args.earlier.now) c.args.positions.now c.mk_clauses-2.result (omega arith)
