-- Each part that was packed is read back.
use Rattle.tt_kinds.proofs.SignatureLaws.{packed_read}
use Rattle.tt_kinds.proofs.laws.packed_parts_are_read.Goals as goal

pub returns : goal.returns
returns c = packed_read
