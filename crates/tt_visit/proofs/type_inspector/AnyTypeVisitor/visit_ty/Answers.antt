use Rattle.tt_kinds.specs.declared.table.Table.TheVariants.{Types}
use Rattle.tt_visit.proofs.TypeTrees.{part-type, answers-type}
use Rattle.tt_visit.proofs.type_inspector.AnyTypeVisitor.visit_ty.Goals as goal

pub returns-clause-result : goal.returns-clause-result
returns-clause-result g c =
    answers-type g.F.TypeInspector.hooks _ _ _ c.inspect_ty.result (part-type c.args.cx.now.rows Types c.args.ty.number c.requires.ty) c.inspect_ty.ensures.result
