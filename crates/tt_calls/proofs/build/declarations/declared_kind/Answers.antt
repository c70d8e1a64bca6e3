-- a function has its types and its variables, and nothing else has terms
use Rattle.std.proofs.Common.{refl}
use Rattle.tt_kinds.specs.declared.table.Table.TheVariants.{Types, TypeLists}
use Rattle.tt_interner.proofs.Growth.{Extends-trans}
use Rattle.tt_calls.specs.CallForm.{a_list, terms_at, part_positions}
use Rattle.tt_calls.specs.Told.{told_all, HasFullTable}
use Rattle.tt_calls.specs.declared.call.DeclarationKindCall.TheVariants as declares
use Rattle.tt_calls.proofs.PartLaws.{placed-grows, unbuilt-always}
use Rattle.tt_calls.proofs.DeclareLaws.{declared-passed, types-unbuilt, sig-declared, no-function, item-declared}
use Rattle.tt_calls.proofs.build.declarations.declared_kind.Goals as goal

pub returns-in_err-inputs_and_output-in-Fn-clause-kind : goal.returns-in_err-inputs_and_output-in-Fn-clause-kind
returns-in_err-inputs_and_output-in-Fn-clause-kind c =
    let e = told_all c.args.cx.now.rows c.args.earlier.now in
    let refused = c.in_err-inputs_and_output-in-Fn in
    rw c.in-Fn.is
    (declared-passed c.build_tys.new.cx e (declares.Fn c.in-Fn.vars c.in-Fn.inputs_and_output c.in-Fn.fn_sig_kind) c.from_residual.result refused.field-0.0 c.from_residual.ensures.1
    (rw (← c.as_slice.ensures) (types-unbuilt (HasFullTable c.build_tys.new.cx) e c.as_slice.result.now refused.field-0.0 refused.ensures.list.err)))

pub returns-in_err-vars-in-Fn-clause-extends : goal.returns-in_err-vars-in-Fn-clause-extends
returns-in_err-vars-in-Fn-clause-extends c = Extends-trans c.build_tys.ensures.extends c.build_vars.ensures.extends

pub returns-in_err-vars-in-Fn-clause-kind : goal.returns-in_err-vars-in-Fn-clause-kind
returns-in_err-vars-in-Fn-clause-kind c =
    let e = told_all c.args.cx.now.rows c.args.earlier.now in
    let refused = c.in_err-vars-in-Fn in
    rw c.in-Fn.is
    (declared-passed c.build_vars.new.cx e (declares.Fn c.in-Fn.vars c.in-Fn.inputs_and_output c.in-Fn.fn_sig_kind) c.from_residual-in_err-vars-in-Fn.result refused.field-0.0 c.from_residual-in_err-vars-in-Fn.ensures.1
    (unbuilt-always (HasFullTable c.build_vars.new.cx) e (part_positions (a_list TypeLists (terms_at Types c.in-Fn.inputs_and_output.items))) ⊥ refused.field-0.0 (refused.ensures.vars c.args.cx.now.rows).err))

pub returns-in_ok-vars-in-Fn-clause-extends : goal.returns-in_ok-vars-in-Fn-clause-extends
returns-in_ok-vars-in-Fn-clause-extends c = Extends-trans c.build_tys.ensures.extends c.build_vars.ensures.extends

pub returns-in_ok-vars-in-Fn-clause-kind : goal.returns-in_ok-vars-in-Fn-clause-kind
returns-in_ok-vars-in-Fn-clause-kind c =
    let e = told_all c.args.cx.now.rows c.args.earlier.now in
    let types = placed-grows c.build_tys.new.cx c.build_vars.new.cx c.build_vars.ensures.extends c.in_ok-inputs_and_output-in-Fn.ensures.list.ok in
    rw (c.in-Fn.is, c.bind.ensures, c.bind_with_vars.ensures) (record {
      ok = sig-declared c.build_vars.new.cx e c.in-Fn.vars c.in-Fn.inputs_and_output c.in-Fn.fn_sig_kind _
          (rw (← c.as_slice-in-Fn.ensures.value) (c.in_ok-vars-in-Fn.ensures.vars c.args.cx.now.rows).ok) (rw (← c.as_slice.ensures) types) refl;
      err = tt;
    })

pub returns-in_default-clause-kind : goal.returns-in_default-clause-kind
returns-in_default-clause-kind c =
    item-declared c.args.cx.now c.args.cx.now.rows c.args.earlier.now c.args.call.now c.item_kind.result (no-function c.args.call.now c.in_default.not-Fn)
    c.item_kind.ensures.sort c.item_kind.ensures.item c.item_kind.ensures.none c.item_kind.ensures.named c.item_kind.ensures.cause c.item_kind.ensures.absent
