use Rattle.std.proofs.Common.{◌≡◌, ◌≤◌, drop}
use Rattle.tt_calls.specs.Number.{decimal, number_after}
use Rattle.tt_calls.proofs.script.number.parse_number.Given as goal

abbrev pub invariant-loop-byte : goal.invariant-loop-byte
invariant-loop-byte l = (decimal l.word ≡ number_after l.value (drop l.byte-index l.word)) × (l.value ≤ l.limit)
