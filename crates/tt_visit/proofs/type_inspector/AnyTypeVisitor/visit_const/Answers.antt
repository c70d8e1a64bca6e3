use Rattle.tt_kinds.specs.declared.table.Table.TheVariants.{Consts}
use Rattle.tt_visit.proofs.TypeTrees.{part-type, enters-other}
use Rattle.tt_visit.proofs.type_inspector.AnyTypeVisitor.visit_const.Goals as goal

pub returns-clause-result : goal.returns-clause-result
returns-clause-result g c =
    enters-other g.F.TypeInspector.hooks _ _ (part-type c.args._cx.now.rows Consts c.args._constant.number c.requires.constant)
