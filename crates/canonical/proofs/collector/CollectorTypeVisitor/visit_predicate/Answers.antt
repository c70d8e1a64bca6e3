use Rattle.tt_kinds.specs.declared.table.Table.TheVariants.{Predicates}
use Rattle.tt_visit.proofs.TypeTrees.{part-type}
use Rattle.canonical.proofs.CollectorLaws.{enters_other}
use Rattle.canonical.proofs.collector.CollectorTypeVisitor.visit_predicate.Goals as goal

pub returns-clause-result : goal.returns-clause-result
returns-clause-result c =
    enters_other _ _ (part-type c.args._cx.now.rows Predicates c.args._predicate.number c.requires.predicate)
