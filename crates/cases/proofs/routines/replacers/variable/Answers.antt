use Rattle.std.proofs.Common.{refl}
use Rattle.type_terms.proofs.EraseLaws.{bound-named}
use Rattle.cases.proofs.routines.replacers.variable.Goals as goal

pub returns : goal.returns
returns c = λ symbols. bound-named symbols _ _ _ c.new.ensures.ok c.new.ensures.deep (refl, tt)
