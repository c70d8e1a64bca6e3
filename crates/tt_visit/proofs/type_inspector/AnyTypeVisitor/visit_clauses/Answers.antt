use Rattle.tt_kinds.specs.declared.table.Table.TheVariants.{ClauseLists}
use Rattle.tt_visit.proofs.TypeTrees.{part-type, enters-other}
use Rattle.tt_visit.proofs.type_inspector.AnyTypeVisitor.visit_clauses.Goals as goal

pub returns-clause-result : goal.returns-clause-result
returns-clause-result g c =
    enters-other g.F.TypeInspector.hooks _ _ (part-type c.args._cx.now.rows ClauseLists c.args._clauses.number c.requires.clauses)
