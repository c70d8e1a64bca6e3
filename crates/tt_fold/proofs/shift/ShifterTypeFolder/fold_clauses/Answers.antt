use Rattle.tt_kinds.specs.declared.table.Table.TheVariants.{ClauseLists}
use Rattle.tt_fold.specs.Remember.{left_alone, gone_into}
use Rattle.tt_fold.proofs.BoundLaws.{term_kept, clauses_other}
use Rattle.tt_fold.proofs.TypeLaws.{part-type}
use Rattle.tt_fold.proofs.shift.ShifterTypeFolder.fold_clauses.Goals as goal

pub returns-then-moves-clause-result : goal.returns-then-moves-clause-result
returns-then-moves-clause-result c =
    (tt, gone_into (part-type c.args.cx.now.rows ClauseLists c.args.clauses.number c.requires.clauses) (clauses_other c.args.cx.now.rows ClauseLists c.args.clauses.number tt c.requires.clauses))

pub returns-else-moves-clause-result : goal.returns-else-moves-clause-result
returns-else-moves-clause-result c =
    (tt, left_alone (term_kept c.args.self.now.amount c.args.self.now.current_index _ (rw c.outer_exclusive_binder.ensures at c.if-moves.ensures.1)))
