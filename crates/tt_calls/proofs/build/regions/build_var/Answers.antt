use Rattle.std.proofs.Common.{ap}
use Rattle.tt_kinds.specs.Label.{region_variable, type_variable}
use Rattle.tt_calls.specs.Told.{told_all}
use Rattle.tt_calls.specs.Means.{number_at}
use Rattle.tt_calls.proofs.NameLaws.{variable-passed}
use Rattle.tt_calls.proofs.build.regions.build_var.Goals as goal

pub returns-in-Ty-clause-var : goal.returns-in-Ty-clause-var
returns-in-Ty-clause-var c =
    rw (c.in-Ty.is) (λ rows. record { ok = record { part = tt; means = ap type_variable (c.ty_name.ensures rows) }; err = tt })

pub returns-in_err-build_name-in-Region-clause-var : goal.returns-in_err-build_name-in-Region-clause-var
returns-in_err-build_name-in-Region-clause-var c = λ rows.
    let r = c.in_err-build_name-in-Region in
    variable-passed c.build_name.new.cx (number_at (told_all rows c.args.earlier.now)) c.args.var.now c.from_residual.result r.field-0.0 c.from_residual.ensures.1 (r.ensures.name rows).err

pub returns-in_ok-build_name-in-Region-clause-var : goal.returns-in_ok-build_name-in-Region-clause-var
returns-in_ok-build_name-in-Region-clause-var c =
    rw (c.in-Region.is)
    (λ rows. let given = (c.in_ok-build_name-in-Region.ensures.name rows).ok in
    record { ok = record { part = given.part; means = ap region_variable given.means }; err = tt })
