use Rattle.tt_kinds.specs.declared.table.Table.TheVariants.{Predicates}
use Rattle.tt_fold.specs.Remember.{gone_into}
use Rattle.tt_fold.proofs.BoundLaws.{clauses_other}
use Rattle.tt_fold.proofs.TypeLaws.{part-type}
use Rattle.tt_binder.proofs.OpeningSteps.{left_step}
use Rattle.tt_binder.proofs.binder_opener.BinderOpenerTypeFolder.fold_predicate.Goals as goal

pub returns-then-opens-clause-result : goal.returns-then-opens-clause-result
returns-then-opens-clause-result g c =
    (tt, gone_into (part-type c.args.cx.now.rows Predicates c.args.predicate.number c.requires.predicate) (clauses_other c.args.cx.now.rows Predicates c.args.predicate.number tt c.requires.predicate))

pub returns-else-opens-clause-result : goal.returns-else-opens-clause-result
returns-else-opens-clause-result g c = (tt, left_step _ _ (rw c.outer_exclusive_binder.ensures at c.if-opens.ensures.1))
