use Rattle.tt_kinds.specs.declared.table.Table.TheVariants.{ClauseLists}
use Rattle.tt_fold.specs.Remember.{not_noted}
use Rattle.tt_fold.proofs.TypeLaws.{part-type}
use Rattle.tt_binder.proofs.binder_opener.BinderOpenerTypeFolder.after_clauses.Goals as goal

pub returns-clause-result : goal.returns-clause-result
returns-clause-result g c = (c.requires.rebuilt, not_noted (part-type c.args._cx.now.rows ClauseLists c.args._before.number c.requires.before))
