-- the contents of a row are in range
use Rattle.tt_kinds.specs.declared.table.Table.TheVariants.{Declarations}
use Rattle.tt_interner.specs.Rows.{declared_row}
use Rattle.tt_interner.proofs.Trees.{Means-row}
use Rattle.tt_interner.proofs.interner.Interner.item_name.Goals as goal

pub returns-clause-in_range : goal.returns-clause-in_range
returns-clause-in_range c =
    (Means-row c.args.self.now.rows c.are_rows.ensures.are Declarations c.args.id.number (declared_row c.args.id.number c.declaration.result.now) c.declaration.ensures.at).parts.0
