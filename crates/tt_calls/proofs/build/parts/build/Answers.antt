use Rattle.tt_interner.proofs.Growth.{Extends-trans}
use Rattle.tt_calls.specs.CallForm.{parts_positions, ArePartsTooDeep}
use Rattle.tt_calls.specs.Told.{told_all, HasFullTable}
use Rattle.tt_calls.specs.Means.{number_at}
use Rattle.tt_calls.specs.Parts.{named_parts, named_vars, named_text}
use Rattle.tt_calls.proofs.ChildLaws.{built-passed, by-parts, by-vars, by-text, vars-grow}
use Rattle.tt_calls.proofs.PartLaws.{all_placed-grow, unbuilt-always}
use Rattle.tt_calls.proofs.ResultLaws.{passed}
use Rattle.tt_calls.proofs.build.parts.build.Goals as goal

pub returns-in_err-parts-clause-built : goal.returns-in_err-parts-clause-built
returns-in_err-parts-clause-built c =
    let e = told_all c.args.cx.now.rows c.args.earlier.now in
    built-passed c.build_parts.new.cx e (named_parts c.args.parts) (named_vars (number_at e) c.args.vars) (named_text c.args.text) c.from_residual.result c.in_err-parts.field-0.0 c.from_residual.ensures.1
    c.in_err-parts.ensures.parts.err

pub returns-in_err-parts-clause-room : goal.returns-in_err-parts-clause-room
returns-in_err-parts-clause-room c =
    let e = told_all c.args.cx.now.rows c.args.earlier.now in
    passed c.from_residual.result c.in_err-parts.field-0.0 _ c.from_residual.ensures.1
    (by-parts c.build_parts.new.cx.rows e (named_parts c.args.parts) (named_vars (number_at e) c.args.vars) (named_text c.args.text) c.in_err-parts.field-0.0 c.in_err-parts.ensures.room)

pub returns-in_err-vars-clause-extends : goal.returns-in_err-vars-clause-extends
returns-in_err-vars-clause-extends c = Extends-trans c.build_parts.ensures.extends c.build_binder.ensures.extends

pub returns-in_err-vars-clause-built : goal.returns-in_err-vars-clause-built
returns-in_err-vars-clause-built c =
    let e = told_all c.args.cx.now.rows c.args.earlier.now in
    let ps = named_parts c.args.parts in
    built-passed c.build_binder.new.cx e ps (named_vars (number_at e) c.args.vars) (named_text c.args.text) c.from_residual-in_err-vars.result c.in_err-vars.field-0.0 c.from_residual-in_err-vars.ensures.1
    (unbuilt-always (HasFullTable c.build_binder.new.cx) e (parts_positions ps) (ArePartsTooDeep ps) c.in_err-vars.field-0.0 (c.in_err-vars.ensures.vars c.args.cx.now).err)

pub returns-in_err-vars-clause-room : goal.returns-in_err-vars-clause-room
returns-in_err-vars-clause-room c =
    let e = told_all c.args.cx.now.rows c.args.earlier.now in
    passed c.from_residual-in_err-vars.result c.in_err-vars.field-0.0 _ c.from_residual-in_err-vars.ensures.1
    (by-vars c.build_binder.new.cx.rows e (named_parts c.args.parts) (named_vars (number_at e) c.args.vars) (named_text c.args.text) c.in_err-vars.field-0.0 (c.in_err-vars.ensures.room c.args.cx.now))

pub returns-in_err-name-clause-extends : goal.returns-in_err-name-clause-extends
returns-in_err-name-clause-extends c = Extends-trans (Extends-trans c.build_parts.ensures.extends c.build_binder.ensures.extends) c.build_text.ensures.extends

pub returns-in_err-name-clause-built : goal.returns-in_err-name-clause-built
returns-in_err-name-clause-built c =
    let e = told_all c.args.cx.now.rows c.args.earlier.now in
    let ps = named_parts c.args.parts in
    built-passed c.build_text.new.cx e ps (named_vars (number_at e) c.args.vars) (named_text c.args.text) c.from_residual-in_err-name.result c.in_err-name.field-0.0 c.from_residual-in_err-name.ensures.1
    (unbuilt-always (HasFullTable c.build_text.new.cx) e (parts_positions ps) (ArePartsTooDeep ps) c.in_err-name.field-0.0 c.in_err-name.ensures.text.err)

pub returns-in_err-name-clause-room : goal.returns-in_err-name-clause-room
returns-in_err-name-clause-room c =
    let e = told_all c.args.cx.now.rows c.args.earlier.now in
    passed c.from_residual-in_err-name.result c.in_err-name.field-0.0 _ c.from_residual-in_err-name.ensures.1
    (by-text c.build_text.new.cx.rows e (named_parts c.args.parts) (named_vars (number_at e) c.args.vars) (named_text c.args.text) c.in_err-name.field-0.0 c.in_err-name.ensures.room)

pub returns-clause-extends : goal.returns-clause-extends
returns-clause-extends c = Extends-trans (Extends-trans c.build_parts.ensures.extends c.build_binder.ensures.extends) c.build_text.ensures.extends

pub returns-clause-built : goal.returns-clause-built
returns-clause-built c =
    let e = told_all c.args.cx.now.rows c.args.earlier.now in
    record {
      ok = record {
        sorts = c.in_ok-parts.ensures.sorts;
        parts = all_placed-grow c.build_parts.new.cx c.build_text.new.cx (Extends-trans c.build_binder.ensures.extends c.build_text.ensures.extends) c.in_ok-parts.ensures.parts.ok;
        vars = vars-grow c.build_binder.new.cx c.build_text.new.cx c.build_text.ensures.extends (named_vars (number_at e) c.args.vars) c.in_ok-vars.vars (c.in_ok-vars.ensures.vars c.args.cx.now).ok;
        text = c.in_ok-name.ensures.text.ok;
      };
      err = tt;
    }
