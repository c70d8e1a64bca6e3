-- by the rows of the lists
use Rattle.tt_interner.proofs.AliasLaws.{joins}
use Rattle.tt_interner.proofs.laws.alias_args_are_joined.Goals as goal

pub returns : goal.returns
returns c = joins
