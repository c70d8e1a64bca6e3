use Rattle.canonical.proofs.CanonicalLaws.{restored}
use Rattle.canonical.proofs.laws.law_originals_restore.Goals as goal

pub returns : goal.returns
returns c = restored
