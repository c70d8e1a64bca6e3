use Rattle.std.proofs.Common.{refl}
use Rattle.tt_interner.proofs.Growth.{Extends-refl}
use Rattle.tt_fold.proofs.replacer.AnyCoreAllSorts.core_after_term.Goals as goal

pub returns : goal.returns
returns g c = record { extends = Extends-refl _; is_owned = c.requires.owned; outcome = (c.requires.rebuilt, (refl, refl)) }
