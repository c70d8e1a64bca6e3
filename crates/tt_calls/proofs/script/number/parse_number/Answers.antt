use Rattle.std.proofs.Common.{◌+◌, ◌-◌, ◌*◌, ◌<◌, length, get_or, sym, arith}
use Rattle.tt_calls.proofs.NumberLaws.{past_word}
use Rattle.tt_calls.proofs.script.number.parse_number.Goals as goal

pub returns-then-value-from : goal.returns-then-value-from
returns-then-value-from c =
    let inside : c.loop-byte.byte-index < length c.args.word.now = omega arith in
    let far : c.args.limit < c.loop-byte.value * 10 + (get_or c.args.word.now c.loop-byte.byte-index 0 - 48) = omega arith in
    rw c.loop-byte.invariant.0
    (sym (past_word c.args.limit c.loop-byte.value c.loop-byte.byte-index c.args.word.now inside far))
