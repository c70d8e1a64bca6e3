-- a bound variable with the greatest index has its own flags alone
use Rattle.std.proofs.Common.{refl, sym, ap, ◌∙◌}
use Rattle.tt_flags.specs.declared.flag_computation.FlagComputation.{FlagComputation}
use Rattle.tt_kinds.specs.Label.{type_sort, type_label}
use Rattle.tt_kinds.specs.Kinds.{relabelled, ty_form}
use Rattle.tt_interner.proofs.InfoLaws.{deepest_flags}
use Rattle.tt_interner.proofs.flag_computation.FlagComputationForKind.for_kind.Goals as goal

pub returns-then-is_too_deep-clause-flags : goal.returns-then-is_too_deep-clause-flags
returns-then-is_too_deep-clause-flags c =
    ap (λ (x : FlagComputation). x.flags.bits) c.deepest_info.ensures ∙ c.own_flags.ensures
    ∙ sym (deepest_flags type_sort _ (relabelled type_label (ty_form c.args.kind.now)) (c.if-is_too_deep.ensures.0 refl))
