-- the variants so far are the interner's
use Rattle.std.proofs.Common.{take}
use Rattle.std.specs.List.{All}
use Rattle.tt_interner.specs.Definitions.{IsOwnVariant}
use Rattle.tt_interner.proofs.interner.Interner.owns_variants.Given as goal

abbrev pub invariant-loop-variant : goal.invariant-loop-variant
invariant-loop-variant l = All (IsOwnVariant l.self.rows) (take l.variant-index l.variants)
