-- by the rows that come
use Rattle.tt_kinds.specs.declared.table.Table.TheVariants.{Declarations}
use Rattle.tt_interner.proofs.Growth.{in_range-grows}
use Rattle.tt_interner.proofs.DeclarationLaws.{declared_at-grows}
use Rattle.tt_interner.proofs.laws.growth_keeps_declarations.Goals as goal

pub returns : goal.returns
returns c = λ old new g id h. (in_range-grows old new g Declarations id.number h, declared_at-grows old new g id h)
