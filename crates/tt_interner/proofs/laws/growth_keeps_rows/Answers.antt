-- by the rows that come
use Rattle.tt_interner.proofs.Growth.{IsAt-grows}
use Rattle.tt_interner.proofs.laws.growth_keeps_rows.Goals as goal

pub returns : goal.returns
returns c = IsAt-grows
