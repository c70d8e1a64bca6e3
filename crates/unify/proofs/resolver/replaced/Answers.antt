use Rattle.std.proofs.Common.{sym}
use Rattle.tt_flags.specs.TypeFlags.{has_ty_infer}
use Rattle.tt_kinds.specs.Kinds.{ty_shape}
use Rattle.tt_kinds.specs.Scan.{scan}
use Rattle.tt_fold.specs.Steps.{tree_in}
use Rattle.tt_fold.proofs.KeptLaws.{misses}
use Rattle.unify.specs.Bindings.{stored}
use Rattle.unify.specs.Memo.{entries_in}
use Rattle.unify.proofs.ApplyLaws.{outcome_applies}
use Rattle.unify.proofs.FlagLaws.{unflagged_stays}
use Rattle.unify.proofs.MemoLaws.{nothing_noted}
use Rattle.unify.proofs.resolver.replaced.Goals as goal

pub returns-then-is_empty-clause-plain : goal.returns-then-is_empty-clause-plain
returns-then-is_empty-clause-plain c =
    nothing_noted c.args.cx.now c.args.memo.now.entries (tree_in c.args.cx.now.rows (ty_shape c.args.ty))
    (c.is_empty.ensures.0 c.if-is_empty.true)

pub returns-then-not-has_infer_types-clause-plain : goal.returns-then-not-has_infer_types-clause-plain
returns-then-not-has_infer_types-clause-plain c =
    let t = tree_in c.args.cx.now.rows (ty_shape c.args.ty) in
    sym (unflagged_stays (stored c.args.cx.now (entries_in c.args.memo.now.entries)) t
    (misses has_ty_infer (scan t) c.has_infer_types.result c.has_infer_types.ensures c.if-not-has_infer_types.true))

pub returns-clause-plain : goal.returns-clause-plain
returns-clause-plain c = outcome_applies _ _ _ c.replace_types_once.result c.replace_types_once.ensures.plain
