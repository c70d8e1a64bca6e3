use Rattle.std.proofs.Common.{ap, sym, ◌∙◌}
use Rattle.tt_interner.proofs.StoreSteps.{means_found}
use Rattle.tt_visit.proofs.HasTypeFlagsLaws.{flags-of-none, flags-of-some}
use Rattle.tt_visit.proofs.has_type_flags.list_flags.Goals as goal

pub returns-then-is_empty : goal.returns-then-is_empty
returns-then-is_empty c =
    ap (λ flags. flags.bits) c.empty.ensures ∙ sym (flags-of-none _ _ _ (means_found _ _ c.are_rows.ensures.are _ c.as_slice.ensures.row) (sym c.is_empty.ensures ∙ c.if-is_empty.true))

pub returns-else-is_empty : goal.returns-else-is_empty
returns-else-is_empty c = sym (flags-of-some _ _ _ (means_found _ _ c.are_rows.ensures.are _ c.as_slice.ensures.row) (sym c.is_empty.ensures ∙ c.if-is_empty.false))
