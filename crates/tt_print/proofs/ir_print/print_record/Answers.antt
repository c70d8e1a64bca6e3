use Rattle.std.proofs.Common.{◌≡◌, length, arith}
use Rattle.std.specs.Prelude.{string_bytes}
use Rattle.std.proofs.lemmas.Str.{IsUtf8-had}
use Rattle.tt_print.proofs.PrintSteps.{old-end}
use Rattle.tt_print.proofs.ir_print.print_record.Goals as goal

pub truncate-requires : goal.truncate-requires
truncate-requires c =
    let counted = c.args.out.now.bytes.ok.0 in
    let count : c.len-start.result ≡ length (string_bytes c.args.out.now) = omega (arith, counted, c.len-start.ensures) in
    let end = old-end (string_bytes c.args.out.now) (string_bytes c.write_record.new.out) c.len-start.result (IsUtf8-had _ c.args.out.now.ok) (IsUtf8-had _ c.write_record.new.out.ok) count c.write_record.ensures.kept in
    λ within. (end.0.0, λ some. end.0.1)
