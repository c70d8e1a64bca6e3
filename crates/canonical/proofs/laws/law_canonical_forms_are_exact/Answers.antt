use Rattle.canonical.proofs.CanonicalLaws.{one_canonical}
use Rattle.canonical.proofs.laws.law_canonical_forms_are_exact.Goals as goal

pub returns : goal.returns
returns c = one_canonical
