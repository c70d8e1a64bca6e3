-- the variants so far have few enough fields
use Rattle.std.proofs.Common.{◌≤◌, length, take}
use Rattle.std.specs.List.{All}
use Rattle.tt_index.specs.Greatest.{greatest}
use Rattle.tt_interner.proofs.interner.Interner.fits_declaration.Given as goal

abbrev pub invariant-loop-variant : goal.invariant-loop-variant
invariant-loop-variant l = All (λ v. length v.fields.items ≤ greatest) (take l.variant-index l.variants)
