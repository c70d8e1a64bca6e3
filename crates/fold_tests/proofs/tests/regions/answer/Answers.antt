use Rattle.std.proofs.Common.{refl}
use Rattle.type_terms.proofs.EraseLaws.{bound-named}
use Rattle.fold_tests.proofs.tests.regions.answer.Goals as goal

pub returns-in-Variable : goal.returns-in-Variable
returns-in-Variable c = λ symbols. rw (c.new.ensures.ok tt) tt

pub returns-in-Bound : goal.returns-in-Bound
returns-in-Bound c = λ symbols. bound-named symbols _ _ _ c.new-in-Bound.ensures.ok c.new-in-Bound.ensures.deep (refl, tt)
