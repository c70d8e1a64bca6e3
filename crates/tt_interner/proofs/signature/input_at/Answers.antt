-- a type of a stored list is the interner's
use Rattle.std.proofs.Common.{◌≡◌, Some, slice_get, sym, refl, rules}
use Rattle.std.proofs.lemmas.Bool.{ltb-true}
use Rattle.std.proofs.lemmas.Option.{slice_get_read}
use Rattle.tt_kinds.specs.Kinds.{ty_shape}
use Rattle.tt_interner.proofs.OwnedLaws.{found_owned}
use Rattle.tt_interner.proofs.signature.input_at.Goals as goal

pub returns : goal.returns
returns c =
    let items = c.as_slice.result.now in
    let h = c.in-Some.ensures.lookup in
    let at : slice_get items c.args.index ≡ Some c.in-Some.ty.now = slice_get_read _ _ _ _ refl (ltb-true _ _ (sym h.0)) h.1 in
    record {
      items = items;
      stored = search rules;
      at = at;
      before_output = search rules;
      in_range = found_owned ty_shape c.args.cx.now items c.args.index c.in-Some.ty.now at c.as_slice.ensures.parts.1;
    }
