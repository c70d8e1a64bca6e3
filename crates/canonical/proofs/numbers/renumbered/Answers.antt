use Rattle.unify.proofs.ApplyLaws.{outcome_applies}
use Rattle.canonical.proofs.numbers.renumbered.Goals as goal

pub returns-clause-plain : goal.returns-clause-plain
returns-clause-plain g c = outcome_applies _ _ _ c.replace_types_once.result c.replace_types_once.ensures.plain
