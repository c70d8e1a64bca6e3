-- by the rows that come
use Rattle.tt_interner.proofs.DefinitionLaws.{variants-grow}
use Rattle.tt_interner.proofs.laws.growth_keeps_definitions.Goals as goal

pub returns : goal.returns
returns c = variants-grow
