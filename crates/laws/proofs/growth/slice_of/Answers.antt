-- by the law: the interner grew
use Rattle.tt_kinds.specs.Shape.{fill}
use Rattle.tt_kinds.specs.declared.table.Table.TheVariants.{Types}
use Rattle.laws.proofs.growth.slice_of.Goals as goal

pub returns : goal.returns
unfolding fill
returns c = λ owned. (c.growth_keeps_trees.ensures c.args.cx.now.rows c.mk_ty.new.self.rows c.mk_ty.ensures.grows Types c.args.ty.number owned).1
