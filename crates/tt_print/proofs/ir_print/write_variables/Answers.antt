use Rattle.std.proofs.Common.{refl, sym, ap}
use Rattle.tt_interner.specs.Rows.{meaning}
use Rattle.tt_print.specs.Text.{names, variables_text}
use Rattle.tt_print.proofs.PrintSteps.{writes-same}
use Rattle.tt_print.proofs.PrintVariables.{variables-start, variables-go-on, variables-end, stored-variables}
use Rattle.tt_print.proofs.PrintVariables.{variable-named-at}
use Rattle.tt_print.proofs.ir_print.write_variables.Goals as goal

pub variables-init : goal.variables-init
variables-init c = variables-start (names c.args.cx.now.rows) (meaning c.args.cx.now.rows) _ _ _ refl

pub write_variable-requires : goal.write_variable-requires
write_variable-requires c =
    variable-named-at c.args.cx.now.rows c.are_rows.ensures.are c.as_slice-items.result.now c.args.vars.number c.variables.place _ c.as_slice-items.ensures.row c.variables-test.true

pub variables-preserved : goal.variables-preserved
variables-preserved c =
    let mark = rw c.before_variable.ensures at c.in_ok-write_text.ensures in
    variables-go-on (names c.args.cx.now.rows) (meaning c.args.cx.now.rows) tt tt _ _ _ _ c.as_slice-items.result.now c.variables.place _ _ c.variables-test.true refl c.variables.invariant mark
    c.in_ok-write_variable.ensures

pub returns : goal.returns
returns c =
    let rows = c.args.cx.now.rows in
    let items = c.as_slice-items.result.now in
    let end = rw c.after_variables.ensures at c.write_text-2.ensures in
    writes-same _ _ _ _ _
    (ap (variables_text (names rows) 0) (sym (stored-variables rows c.are_rows.ensures.are items c.args.vars.number c.as_slice-items.ensures.row)))
    (variables-end (names rows) (meaning rows) _ _ _ _ items c.variables.place c.variables-test.false c.variables.invariant end)
