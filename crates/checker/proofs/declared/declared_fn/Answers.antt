use Rattle.std.proofs.Common.{◌≡◌, [], ap, subst, sym}
use Rattle.tt_kinds.specs.Handle.{BoundVarKinds}
use Rattle.tt_interner.specs.Rows.{vars_row}
use Rattle.tt_interner.specs.Stored.{IsAt}
use Rattle.checker.specs.Items.{signature_of}
use Rattle.checker.proofs.ClientLaws.{declared_within}
use Rattle.checker.proofs.SignatureLaws.{function_declared}
use Rattle.checker.proofs.declared.declared_fn.Goals as goal

pub returns-clause-extends : goal.returns-clause-extends
returns-clause-extends c = c.declare_function.ensures.extends

pub returns-clause-before : goal.returns-clause-before
returns-clause-before c =
    declared_within c.in_ok-declare_function.field-0 _ c.args.cx.now c.declare_function.new.self _ _ c.in_ok-declare_function.ensures

pub returns-clause-declared : goal.returns-clause-declared
returns-clause-declared c =
    let vars = c.default-vars.result in
    let sig = c.bind.result in
    let same : sig ≡ signature_of c.args.types vars = cc in
    let empty = subst (λ n. IsAt c.args.cx.now.rows (vars_row []) n) (sym (ap (λ (v : BoundVarKinds). v.number) c.default-vars.ensures))
    c.are_rows.ensures.first.vars in
    function_declared c.in_ok-declare_function.field-0 c.args.cx.now c.declare_function.new.self c.args.name c.args.types vars sig
    c.in_ok-declare_function.ensures same empty
