use Rattle.std.proofs.Common.{[], ap}
use Rattle.std.proofs.lemmas.List.{nil_from_length}
use Rattle.tt_kinds.specs.Label.{region_sort}
use Rattle.tt_kinds.specs.Bound.{region_entry}
use Rattle.tt_kinds.specs.Kinds.{region_shape}
use Rattle.tt_interner.specs.Arguments.{arguments}
use Rattle.tt_binder.proofs.OpeningSteps.{own_found, own_lacks, region_outside}
use Rattle.tt_binder.proofs.binder_opener.opened_region.Goals as goal

pub returns-in-Some : goal.returns-in-Some
returns-in-Some g c =
    region_outside _ c.args.cx.now.rows (arguments c.args.cx.now.rows (g.S.SliceLike.items c.args.cx.now.rows c.args.args)) c.args.binders_passed c.args.index c.args.bound_region c.new.result
    c.requires.shallow c.in-Some.ensures.1 c.requires.part (rw c.in-Some.ensures.0 at c.new.ensures.ok)

pub returns-then-is_empty : goal.returns-then-is_empty
returns-then-is_empty g c =
    let none = ap (arguments c.args.cx.now.rows) (nil_from_length _ (c.is_empty.ensures.empty.0 c.if-is_empty.true)) in
    own_lacks c.args.cx.now.rows (arguments c.args.cx.now.rows (g.S.SliceLike.items c.args.cx.now.rows c.args.args)) c.args.binders_passed region_sort (region_entry c.args.bound_region) c.args.index c.in-None.ensures _ none

pub returns-else-is_empty : goal.returns-else-is_empty
returns-else-is_empty g c =
    let args = arguments c.args.cx.now.rows (g.S.SliceLike.items c.args.cx.now.rows c.args.args) in
    own_found c.args.cx.now.rows args c.args.binders_passed region_sort (region_entry c.args.bound_region) c.args.index c.in-None.ensures _ c.args.cx.now.rows region_shape c.region_argument.result
    (rw (c.as_u32.ensures.number, c.var.ensures) at (c.region_argument.ensures []))
