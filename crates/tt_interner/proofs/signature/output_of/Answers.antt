-- the last type of a stored list is the interner's
use Rattle.std.proofs.Common.{◌≡◌, Some, length, ◌-◌, slice_get, sym, rules}
use Rattle.tt_kinds.specs.Kinds.{ty_shape}
use Rattle.tt_interner.proofs.OwnedLaws.{found_owned}
use Rattle.tt_interner.proofs.signature.output_of.Goals as goal

pub returns : goal.returns
returns c =
    let items = c.as_slice.result.now in
    let last : slice_get items (length items - 1) ≡ Some c.in-Some.ty.now = sym c.in-Some.ensures.value in
    record {
      items = items;
      stored = search rules;
      last = last;
      in_range = found_owned ty_shape c.args.cx.now items (length items - 1) c.in-Some.ty.now last c.as_slice.ensures.parts.1;
    }
