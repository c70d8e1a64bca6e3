use Rattle.tt_fold.proofs.ShiftLaws.{moved_ok, moved_named, moved_err}
use Rattle.tt_fold.proofs.shift.shift_region.Goals as goal

pub returns-clause-ok : goal.returns-clause-ok
returns-clause-ok c f = moved_ok f c.args.amount c.args.region _ c.shift_region_under.ensures.result

pub returns-clause-in_range : goal.returns-clause-in_range
returns-clause-in_range c size part = moved_named size c.args.amount 0 c.args.region _ c.shift_region_under.ensures.result part

pub returns-clause-err : goal.returns-clause-err
returns-clause-err c f = moved_err f c.args.amount c.args.region _ c.shift_region_under.ensures.region c.shift_region_under.ensures.result
