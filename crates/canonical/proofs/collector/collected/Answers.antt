use Rattle.std.proofs.Common.{◌∙◌}
use Rattle.canonical.proofs.CollectorLaws.{visit_collects}
use Rattle.canonical.proofs.collector.collected.Goals as goal

pub returns-in_ok-from_slice-in-Continue : goal.returns-in_ok-from_slice-in-Continue
returns-in_ok-from_slice-in-Continue g c =
    c.in_ok-from_slice-in-Continue.ensures.items ∙ c.as_slice-found.ensures.keys ∙ visit_collects c.in-Continue.ensures.result
