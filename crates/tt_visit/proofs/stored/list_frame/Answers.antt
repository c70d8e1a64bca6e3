use Rattle.std.proofs.Common.{ap, arith}
use Rattle.tt_kinds.specs.Shape.{fill}
use Rattle.tt_interner.specs.Children.{children_at}
use Rattle.tt_visit.specs.Frames.{children_height, children_work, stored_age}
use Rattle.tt_visit.proofs.Weights.{low-children}
use Rattle.tt_visit.proofs.BeginSteps.{list-light}
use Rattle.tt_visit.proofs.stored.list_frame.Goals as goal

pub list_len-requires : goal.list_len-requires
list_len-requires c = record { owned = c.requires.handle; is_list = c.requires.is_list }

pub returns-clause-frame : goal.returns-clause-frame
returns-clause-frame c =
    let own = c.list_len.ensures in
    let rows = c.args.cx.now.rows in
    record {
      rest = c.of_items.ensures.rest rows (c.requires.handle, c.requires.is_list, own.len);
      todo = record { parts = rw (c.of_items.ensures.children rows (c.requires.handle, c.requires.is_list, own.len)) own.parts; binder = rw c.of_items.ensures.binder tt };
    }

pub returns-clause-list : goal.returns-clause-list
unfolding fill
returns-clause-list c =
    let own = c.list_len.ensures in
    rw (c.of_items.ensures.children _ (c.requires.handle, c.requires.is_list, own.len)) own.means

pub returns-clause-low : goal.returns-clause-low
returns-clause-low c =
    let own = c.list_len.ensures in
    let rows = c.args.cx.now.rows in
    let same = ap (children_height rows) (c.of_items.ensures.children rows (c.requires.handle, c.requires.is_list, own.len)) in
    omega (arith, same, low-children rows (stored_age rows c.args.list) (children_at rows c.args.list) own.older)

pub returns-clause-light : goal.returns-clause-light
returns-clause-light c =
    let own = c.list_len.ensures in
    let rows = c.args.cx.now.rows in
    let same = ap (children_work rows) (c.of_items.ensures.children rows (c.requires.handle, c.requires.is_list, own.len)) in
    omega (arith, same, list-light rows c.args.list own.fit own.means)
