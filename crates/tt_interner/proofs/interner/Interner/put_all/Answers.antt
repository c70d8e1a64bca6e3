-- what was added before a refusal is taken back
use Rattle.std.proofs.Common.{◌-◌, ◌≤◌, length, ◌∙◌, arith}
use Rattle.tt_interner.proofs.ExistentialSteps.{no_fewer, newest_only, rest_is, added, BuildsAll-ok, BuildsAll-err}
use Rattle.tt_interner.proofs.interner.Interner.put_all.Goals as goal

pub overflow_sub-added : goal.overflow_sub-added
overflow_sub-added c =
    let more : length c.args.self.now.rows ≤ length c.put_each.new.self.rows =
    no_fewer _ _ (added c.args.self.now c.put_each.new.self c.args.predicates.now c.are_rows.ensures.are c.in-Err.e c.in-Err.ensures) in
    omega arith

pub take_back-requires : goal.take_back-requires
take_back-requires c =
    let a = added c.args.self.now c.put_each.new.self c.args.predicates.now c.are_rows.ensures.are c.in-Err.e c.in-Err.ensures in
    let more : length c.args.self.now.rows ≤ length c.put_each.new.self.rows = no_fewer _ _ a in
    newest_only _ _ a (c.row_count.result - c.row_count-before.result) (omega arith)

pub returns-in-Err : goal.returns-in-Err
returns-in-Err c =
    let a = added c.args.self.now c.put_each.new.self c.args.predicates.now c.are_rows.ensures.are c.in-Err.e c.in-Err.ensures in
    let more : length c.args.self.now.rows ≤ length c.put_each.new.self.rows = no_fewer _ _ a in
    BuildsAll-err c.args.self.now c.put_each.new.self c.args.predicates.now c.are_rows.ensures.are c.in-Err.e c.in-Err.ensures c.take_back.new.self
    (c.take_back.ensures.rows ∙ rest_is _ _ a (c.row_count.result - c.row_count-before.result) (omega arith)) c.take_back.ensures.limit c.take_back.ensures.counters

pub returns-in-Ok : goal.returns-in-Ok
returns-in-Ok c = BuildsAll-ok c.args.self.now c.put_each.new.self c.args.predicates.now c.are_rows.ensures.are c.in-Ok.list c.in-Ok.ensures
