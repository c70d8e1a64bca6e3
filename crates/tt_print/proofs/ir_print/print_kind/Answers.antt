use Rattle.std.proofs.Common.{◌≡◌, length, arith}
use Rattle.std.specs.Prelude.{string_bytes}
use Rattle.std.proofs.lemmas.Str.{IsUtf8-had}
use Rattle.tt_print.proofs.PrintSteps.{old-end}
use Rattle.tt_print.proofs.ir_print.print_kind.Goals as goal

pub truncate-requires : goal.truncate-requires
truncate-requires c =
    let counted = c.args.out.now.bytes.ok.0 in
    let count : c.len-old.result ≡ length (string_bytes c.args.out.now) = omega (arith, counted, c.len-old.ensures) in
    let end = old-end (string_bytes c.args.out.now) (string_bytes c.write_stored.new.out) c.len-old.result (IsUtf8-had _ c.args.out.now.ok) (IsUtf8-had _ c.write_stored.new.out.ok) count c.write_stored.ensures.kept in
    λ within. (end.0.0, λ some. end.0.1)
