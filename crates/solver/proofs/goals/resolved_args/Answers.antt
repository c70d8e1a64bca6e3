use Rattle.std.proofs.Common.{◌≡◌, length, ap, sym, ◌∙◌, subst}
use Rattle.unify.specs.Bindings.{substitution}
use Rattle.solver.specs.Search.{ArePlain}
use Rattle.solver.proofs.SearchLaws.{plain_args}
use Rattle.solver.proofs.goals.resolved_args.Goals as goal

pub returns-clause-plain : goal.returns-clause-plain
returns-clause-plain c =
    let old = c.args.cx.now in
    let between = c.resolved_items.new.cx in
    let σ = substitution old c.args.bindings.now in
    let olds = c.as_slice.result.now in
    let made = c.in-Some.resolved.items in
    let same : c.as_slice-2.result.now ≡ olds = c.as_slice-2.ensures.value ∙ c.in_ok-items.ensures.items in
    let counted : length made ≡ length c.as_slice-2.result.now = rw c.in-Some.is at c.in_ok-resolved.ensures.counted in
    let plain : ArePlain σ old c.as_slice-2.result.now between made = rw c.in-Some.is at c.in_ok-resolved.ensures.plain in
    plain_args σ old between c.mk_args.new.self c.args.args c.in_ok-list.list olds c.as_slice-3.result.now c.as_slice.ensures
    c.in_ok-list.ensures.means (ap length c.as_slice-3.ensures.value ∙ counted ∙ ap length same)
    (subst (λ xs. ArePlain σ old olds between xs) (sym c.as_slice-3.ensures.value)
    (subst (λ xs. ArePlain σ old xs between made) same plain))
