-- by the form of the type's kind
use Rattle.std.proofs.Common.{ℕ, sym, ◌∙◌}
use Rattle.tt_kinds.specs.Label.{Label, type_sort, type_label}
use Rattle.tt_kinds.specs.Kinds.{relabelled, ty_form}
use Rattle.tt_interner.specs.Rows.{size}
use Rattle.tt_kinds.proofs.RangeLaws.{form-fits}
use Rattle.tt_interner.proofs.InfoLaws.{form_has_parts, form_has_vars}
use Rattle.tt_interner.proofs.NodeSteps.{binder-relabelled, parts-relabelled}
use Rattle.tt_interner.proofs.flag_computation.ty_kind_info.Goals as goal

pub contents_info-requires-clause-parts : goal.contents_info-requires-clause-parts
contents_info-requires-clause-parts c =
    rw (c.parts.ensures, ← parts-relabelled type_label (ty_form c.args.kind.now))
    (form_has_parts type_sort _ (relabelled type_label (ty_form c.args.kind.now)) c.requires.parts)

pub contents_info-requires-clause-vars : goal.contents_info-requires-clause-vars
contents_info-requires-clause-vars c = λ vars is.
    form_has_vars type_sort (size c.args.cx.now.rows) (relabelled type_label (ty_form c.args.kind.now)) vars
    (binder-relabelled type_label (ty_form c.args.kind.now) ∙ sym c.bound_vars.ensures ∙ is) c.requires.parts

pub returns-clause-info : goal.returns-clause-info
returns-clause-info c =
    let f = ty_form c.args.kind.now in
    c.contents_info.ensures.info type_sort (relabelled type_label f) (c.parts.ensures ∙ sym (parts-relabelled type_label f)) (c.bound_vars.ensures ∙ sym (binder-relabelled type_label f))
    c.own_ty_info-own.ensures.flags c.own_ty_info-own.ensures.outer

pub returns-clause-fit : goal.returns-clause-fit
returns-clause-fit c =
    let f = ty_form c.args.kind.now in
    form-fits type_sort (relabelled type_label f) c.requires.shallow (rw (parts-relabelled {K = Label ℕ} type_label f, ← c.parts.ensures) c.contents_info.ensures.fit)
