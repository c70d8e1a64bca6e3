-- the fields of the variants so far are listed
use Rattle.std.proofs.Common.{◌≡◌, take, map}
use Rattle.tt_kinds.specs.Variant.{variant_of}
use Rattle.tt_binder.specs.Fields.{fields_among}
use Rattle.tt_binder.proofs.fields.list_variants.Given as goal

abbrev pub invariant-loop-index : goal.invariant-loop-index
invariant-loop-index l = l.fields.items ≡ fields_among l.base 0 (map variant_of (take l.index l.variants))
