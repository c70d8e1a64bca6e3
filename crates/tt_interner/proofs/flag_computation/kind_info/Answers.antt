-- by the form of the kind
use Rattle.std.proofs.Common.{sym, ◌∙◌}
use Rattle.tt_kinds.specs.Kinds.{kind_form, kind_sort}
use Rattle.tt_interner.specs.Rows.{size}
use Rattle.tt_kinds.proofs.RangeLaws.{form-fits}
use Rattle.tt_interner.proofs.InfoLaws.{form_has_parts, form_has_vars}
use Rattle.tt_interner.proofs.flag_computation.kind_info.Goals as goal

pub contents_info-requires-clause-parts : goal.contents_info-requires-clause-parts
contents_info-requires-clause-parts c = rw c.parts.ensures (form_has_parts (kind_sort c.args.kind.now) _ (kind_form c.args.kind.now) c.requires.parts)

pub contents_info-requires-clause-vars : goal.contents_info-requires-clause-vars
contents_info-requires-clause-vars c = λ vars is.
    form_has_vars (kind_sort c.args.kind.now) (size c.args.cx.now.rows) (kind_form c.args.kind.now) vars (sym c.bound_vars.ensures ∙ is) c.requires.parts

pub returns-clause-info : goal.returns-clause-info
returns-clause-info c =
    c.contents_info.ensures.info (kind_sort c.args.kind.now) (kind_form c.args.kind.now) c.parts.ensures c.bound_vars.ensures c.own_info-own.ensures.flags c.own_info-own.ensures.outer

pub returns-clause-fit : goal.returns-clause-fit
returns-clause-fit c = form-fits (kind_sort c.args.kind.now) (kind_form c.args.kind.now) c.requires.shallow (rw (← c.parts.ensures) c.contents_info.ensures.fit)
