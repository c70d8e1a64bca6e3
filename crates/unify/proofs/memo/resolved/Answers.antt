use Rattle.std.proofs.Common.{◌≡◌, ◌∙◌, ℕ, Contains, IfOk, subst, sym}
use Rattle.tt_flags.specs.TypeFlags.{has_ty_infer}
use Rattle.tt_kinds.specs.Kinds.{ty_shape}
use Rattle.tt_kinds.specs.Scan.{scan}
use Rattle.tt_fold.specs.Steps.{tree_in}
use Rattle.tt_fold.proofs.KeptLaws.{misses}
use Rattle.unify.specs.Bindings.{stored, values}
use Rattle.unify.specs.Memo.{entries_in}
use Rattle.unify.specs.Search.{IsOrder}
use Rattle.unify.specs.Triangular.{IsChild}
use Rattle.unify.proofs.FlagLaws.{unflagged_without}
use Rattle.unify.proofs.LinkLaws.{never_reached}
use Rattle.unify.proofs.MemoLaws.{resolves}
use Rattle.unify.proofs.SubstitutionLaws.{resolved_stays}
use Rattle.unify.proofs.TableLaws.{resolve_alike}
use Rattle.unify.proofs.memo.resolved.Goals as goal

pub returns-then-not-has_infer_types-clause-plain : goal.returns-then-not-has_infer_types-clause-plain
returns-then-not-has_infer_types-clause-plain c =
    let terms = c.args.cx.now in
    let t = tree_in terms.rows (ty_shape c.shallow_resolved-ty.result) in
    let none = misses has_ty_infer (scan t) c.has_infer_types.result c.has_infer_types.ensures
    c.if-not-has_infer_types.true in
    sym (resolved_stays (values terms c.args.entries.now) t (λ v r is. unflagged_without t v none))
    ∙ resolve_alike terms c.args.entries.now c.are_rows.ensures.are c.requires.table c.args.ty
    c.shallow_resolved-ty.result c.shallow_resolved-ty.ensures.same

pub refusal_of-requires : goal.refusal_of-requires
refusal_of-requires c = λ v is.
    never_reached (stored c.args.cx.now c.args.entries.now) c.requires.table.acyclic v (c.in-Err.ensures.cycle v is)

pub settled-requires-clause-order : goal.settled-requires-clause-order
settled-requires-clause-order c =
    subst (IsOrder (IsChild (stored c.args.cx.now c.args.entries.now))) (sym c.as_slice-2.ensures.value)
    c.in-Ok.ensures.order

pub returns-clause-plain : goal.returns-clause-plain
returns-clause-plain c =
    let terms = c.args.cx.now in
    let mid = c.settled.new.cx in
    let xs = c.args.entries.now in
    let memo = entries_in c.in_ok-memo.memo.entries in
    let order = c.as_slice-2.result.now in
    let there : ((v : ℕ) → Contains c.in_ok-starts.starts.items v → Contains order v) =
    λ v at. subst (λ vs. Contains vs v) (sym c.as_slice-2.ensures.value)
    (c.in-Ok.ensures.starts v (subst (λ vs. Contains vs v) (sym c.as_slice.ensures.value) at)) in
    let ty = c.shallow_resolved-ty in
    let same = resolves terms mid xs memo c.in_ok-starts.starts.items order ty.result c.settled.ensures.extends
    c.requires.table ty.ensures.owned c.in_ok-starts.ensures.all there c.in_ok-memo.ensures.settles
    c.in_ok-memo.ensures.all
    ∙ resolve_alike terms xs c.are_rows.ensures.are c.requires.table c.args.ty ty.result ty.ensures.same in
    subst (λ t. IfOk c.replaced.result (λ new. tree_in c.replaced.new.cx.rows (ty_shape new) ≡ t)) same
    c.replaced.ensures.plain
