use Rattle.std.proofs.Common.{◌∙◌, ap}
use Rattle.tt_kinds.specs.Label.{type_label}
use Rattle.tt_kinds.specs.Kinds.{relabelled, ty_form}
use Rattle.tt_kinds.proofs.FormLaws.{relabelled-refilled}
use Rattle.tt_kinds.proofs.parts.Kind.with_parts.Goals as goal

pub returns-in-Ty-clause-form : goal.returns-in-Ty-clause-form
returns-in-Ty-clause-form c =
    rw (c.in-Ty.is) (ap (relabelled type_label) c.with_parts.ensures ∙ relabelled-refilled type_label c.args.new (ty_form c.in-Ty.kind))
