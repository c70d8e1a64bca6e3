use Rattle.std.proofs.Common.{rules}
use Rattle.type_terms.proofs.EraseLaws.{answers-named}
use Rattle.fold_tests.proofs.tests.regions.folded.Goals as goal

pub fold_regions-requires-clause-answers : goal.fold_regions-requires-clause-answers
fold_regions-requires-clause-answers g c = answers-named _ _ (λ f r d a s k h. search rules) _
