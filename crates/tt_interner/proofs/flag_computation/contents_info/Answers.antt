-- by the form that the contents are of
use Rattle.std.proofs.Common.{sym, ap, ◌∙◌, bit_or, max}
use Rattle.tt_flags.specs.FlagComputation.{computed}
use Rattle.tt_flags.specs.declared.flag_computation.FlagComputation.{FlagComputation}
use Rattle.tt_interner.specs.Rows.{meaning}
use Rattle.tt_interner.proofs.Trees.{vars_within}
use Rattle.tt_kinds.proofs.RangeLaws.{parts-fit}
use Rattle.tt_interner.proofs.InfoLaws.{info_plain, info_under}
use Rattle.tt_interner.proofs.flag_computation.contents_info.Goals as goal

pub info-requires : goal.info-requires
info-requires c = c.requires.vars c.in-Some.vars c.in-Some.is

pub returns-in-Some-clause-info : goal.returns-in-Some-clause-info
returns-in-Some-clause-info c = λ sort form parts_are vars_are flags outer.
    let own = c.args.own in
    info_under sort (meaning c.args.cx.now.rows) own c.parts_info-inside.result c.joined.result form c.in-Some.vars c.info.result (sym vars_are ∙ c.in-Some.is)
    flags outer (rw parts_are at c.parts_info-inside.ensures)
    (vars_within c.args.cx.now.rows c.are_rows.ensures.are c.in-Some.vars.number (c.requires.vars c.in-Some.vars c.in-Some.is)) c.info.ensures
    (c.joined.ensures ∙ ap (λ (x : FlagComputation). computed (bit_or own.flags.bits x.flags.bits) (max own.outer_exclusive_binder x.outer_exclusive_binder)) c.under_binder.ensures)

pub returns-in-None-clause-info : goal.returns-in-None-clause-info
returns-in-None-clause-info c = λ sort form parts_are vars_are flags outer.
    info_plain sort (meaning c.args.cx.now.rows) c.args.own c.parts_info-inside.result c.joined-in-None.result form (sym vars_are ∙ c.in-None.is)
    flags outer (rw parts_are at c.parts_info-inside.ensures) c.joined-in-None.ensures

pub returns-in-Some-clause-fit : goal.returns-in-Some-clause-fit
returns-in-Some-clause-fit c =
    let reached = c.parts_info-inside.ensures.outer in let low = c.as_u32-fits.ensures.fits in
    parts-fit (meaning c.args.cx.now.rows) c.args.parts.now (rw (← reached, ← c.as_u32-fits.ensures.number) low)

pub returns-in-None-clause-fit : goal.returns-in-None-clause-fit
returns-in-None-clause-fit c =
    let reached = c.parts_info-inside.ensures.outer in let low = c.as_u32-fits.ensures.fits in
    parts-fit (meaning c.args.cx.now.rows) c.args.parts.now (rw (← reached, ← c.as_u32-fits.ensures.number) low)
