use Rattle.tt_kinds.specs.declared.table.Table.TheVariants.{Predicates}
use Rattle.tt_visit.proofs.TypeTrees.{part-type, enters-other}
use Rattle.tt_visit.proofs.type_inspector.AnyTypeVisitor.visit_predicate.Goals as goal

pub returns-clause-result : goal.returns-clause-result
returns-clause-result g c =
    enters-other g.F.TypeInspector.hooks _ _ (part-type c.args._cx.now.rows Predicates c.args._predicate.number c.requires.predicate)
