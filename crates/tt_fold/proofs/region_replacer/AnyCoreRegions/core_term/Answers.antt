use Rattle.std.proofs.Common.{refl}
use Rattle.tt_interner.proofs.Growth.{Extends-refl}
use Rattle.tt_fold.proofs.region_replacer.AnyCoreRegions.core_term.Goals as goal

pub returns-clause-goes : goal.returns-clause-goes
returns-clause-goes g c = record { extends = Extends-refl _; is_owned = c.requires.owned; outcome = (tt, (refl, refl)) }
