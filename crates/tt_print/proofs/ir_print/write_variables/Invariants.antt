use Rattle.std.proofs.Common.{◌-◌, length}
use Rattle.std.specs.Prelude.{string_bytes}
use Rattle.tt_interner.specs.Rows.{meaning}
use Rattle.tt_print.specs.Text.{names}
use Rattle.tt_print.proofs.PrintVariables.{VariablesLeft}
use Rattle.tt_print.proofs.ir_print.write_variables.Given as goal

abbrev pub invariant-variables : goal.invariant-variables
invariant-variables l = VariablesLeft (names l.cx.rows) (meaning l.cx.rows) (string_bytes l.initial.out) (string_bytes l.out) l.items l.place

abbrev pub decreases-variables : goal.decreases-variables
decreases-variables l = length l.items - l.place
