-- A region that can be built has its index in range.
use Rattle.std.proofs.Common.{subst}
use Rattle.tt_kinds.specs.RegionKind.{IsShallow}
use Rattle.tt_kinds.proofs.RangeLaws.{shallow_region-fits}
use Rattle.tt_kinds.proofs.region_kind.Region.in_range.Goals as goal

pub returns-clause-fit : goal.returns-clause-fit
returns-clause-fit c = shallow_region-fits c.args.self (subst IsShallow c.self.view_is c.self.invariant)
