use Rattle.std.proofs.Common.{ℕ, ap, ◌∙◌}
use Rattle.tt_kinds.specs.Shape.{name_of}
use Rattle.tt_kinds.specs.Kinds.{region_shape}
use Rattle.tt_kinds.specs.declared.region_kind.RegionKind.{RegionKind}
use Rattle.tt_interner.specs.Rows.{meaning}
use Rattle.tt_print.specs.Text.{Head, head_text, names}
use Rattle.tt_print.specs.Spelling.{region_head, rename_head}
use Rattle.tt_print.proofs.PrintLaws.{region-text}
use Rattle.tt_print.proofs.PrintSteps.{writes-same}
use Rattle.tt_print.proofs.ir_print.write_region.Goals as goal

pub returns : goal.returns
returns c s =
    writes-same _ _ _ _ _
    (ap (λ (h : Head ℕ). head_text (names c.args.cx.now.rows) (rename_head (name_of (meaning c.args.cx.now.rows)) h))
    (c.region_spelling-spelling.ensures ∙ ap (λ (r : RegionKind). region_head (region_shape r)) c.kind.ensures.kind)
    ∙ region-text (names c.args.cx.now.rows) (meaning c.args.cx.now.rows) s c.args.region)
    c.write_head.ensures
