-- the fields so far are added
use Rattle.std.proofs.Common.{◌≡◌, ◌++◌, take}
use Rattle.tt_binder.specs.Fields.{fields_from}
use Rattle.tt_binder.proofs.fields.list_fields.Given as goal

abbrev pub invariant-loop-index : goal.invariant-loop-index
invariant-loop-index l = l.list.items ≡ l.initial.list.items ++ fields_from l.base l.variant l.variant_idx 0 (take l.index l.fields)
