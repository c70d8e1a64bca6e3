-- the fields so far are the interner's
use Rattle.std.proofs.Common.{take}
use Rattle.std.specs.List.{All}
use Rattle.tt_interner.specs.Definitions.{IsOwnField}
use Rattle.tt_interner.proofs.interner.Interner.owns_fields.Given as goal

abbrev pub invariant-loop-field : goal.invariant-loop-field
invariant-loop-field l = All (IsOwnField l.self.rows) (take l.field-index l.fields)
