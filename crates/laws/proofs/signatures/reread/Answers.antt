use Rattle.std.proofs.Common.{ap, ◌∙◌}
use Rattle.std.specs.Prelude.{None}
use Rattle.tt_kinds.specs.FnSig.{abi_in}
use Rattle.laws.proofs.signatures.reread.Goals as goal

pub returns-clause-abi : goal.returns-clause-abi
returns-clause-abi c =
    let read = c.packed_parts_are_read.ensures c.args.abi c.args.safety c.args.is_variadic None in c.abi.ensures ∙ ap abi_in c.new-kind.ensures ∙ read.abi
