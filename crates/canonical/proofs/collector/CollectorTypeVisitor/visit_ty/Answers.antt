use Rattle.tt_kinds.specs.declared.table.Table.TheVariants.{Types}
use Rattle.tt_visit.proofs.TypeTrees.{part-type}
use Rattle.canonical.proofs.CollectorLaws.{collects_type}
use Rattle.canonical.proofs.collector.CollectorTypeVisitor.visit_ty.Goals as goal

pub returns-in-Ok-clause-result : goal.returns-in-Ok-clause-result
returns-in-Ok-clause-result c =
    collects_type _ _ _ (part-type c.args.cx.now.rows Types c.args.ty.number c.requires.ty) c.in-Ok.ensures.found
