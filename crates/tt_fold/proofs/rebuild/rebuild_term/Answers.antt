use Rattle.std.proofs.Common.{sym, ◌∙◌, arith}
use Rattle.std.proofs.lemmas.Result.{err_from_is_err_and}
use Rattle.tt_kinds.specs.Kinds.{kind_form, kind_sort, kind_shape}
use Rattle.tt_kinds.specs.Shape.{HasParts, IsTooDeep}
use Rattle.tt_interner.specs.Rows.{size}
use Rattle.tt_interner.specs.Nodes.{stored_kind}
use Rattle.tt_interner.proofs.Growth.{HasParts-grows, AreParts-grows, stored_kind-grows}
use Rattle.tt_interner.proofs.NodeSteps.{same-sort, refilled_parts}
use Rattle.tt_fold.specs.GrowthLaws.{stored-adds, kind-no_symbol}
use Rattle.tt_fold.proofs.FormLaws.{not-deep}
use Rattle.tt_fold.proofs.FoldSteps.{stands-still, stored_term, stored_term_tree, not_stored}
use Rattle.tt_fold.proofs.ItemSteps.{term_facts, term_like, term_parts, rebuild_not_left, rebuild_not_stored}
use Rattle.tt_fold.proofs.ItemSteps.{rebuild_stored}
use Rattle.tt_fold.proofs.FrameLaws.{last_count}
use Rattle.tt_fold.proofs.rebuild.rebuild_term.Goals as goal

pub returns-in_err-leave-clause-goes : goal.returns-in_err-leave-clause-goes
returns-in_err-leave-clause-goes g c =
    let p = err_from_is_err_and c.from_residual.result c.from_residual.ensures.1 in
    rw (p.1, p.2) (rebuild_not_left c.requires.holds c.requires.term c.node_parts-contents.ensures.bound_vars c.in_err-leave.ensures)

pub last_parts-parts-requires-clause-some : goal.last_parts-parts-requires-clause-some
last_parts-parts-requires-clause-some g c =
    let t = term_facts c.requires.holds c.requires.term in
    omega (arith, t.counted)

pub store_like-requires-clause-like : goal.store_like-requires-clause-like
store_like-requires-clause-like g c =
    let t = term_facts c.requires.holds c.requires.term in
    rw (stored_kind-grows _ _ c.in_ok-leave.ensures.extends.rows c.args.frame.now.handle t.in_range) (term_like c.requires.holds c.requires.term _ c.last_parts-parts.ensures (last_count _ c.requires.full))

pub store_like-requires-clause-parts : goal.store_like-requires-clause-parts
store_like-requires-clause-parts g c =
    AreParts-grows _ _ c.in_ok-leave.ensures.extends.rows _ (term_parts c.requires.holds c.requires.term _ c.last_parts-parts.ensures)

pub returns-in_err-new_term-clause-goes : goal.returns-in_err-new_term-clause-goes
returns-in_err-new_term-clause-goes g c =
    let p = err_from_is_err_and c.from_residual-in_err-new_term.result c.from_residual-in_err-new_term.ensures.1 in
    let k = stored_kind c.args.cx.now.rows c.args.frame.now.handle in
    let t = term_facts c.requires.holds c.requires.term in
    let d = c.in_ok-leave.ensures in
    let h = c.in_err-new_term.ensures in
    let form = rw (stored_kind-grows _ _ d.extends.rows c.args.frame.now.handle t.in_range) at h.form in
    let sort = same-sort h.kind k (h.table ∙ sym t.table) in
    let shallow : IsTooDeep (kind_shape h.kind) → ⊥ = rw (sort, form) (not-deep (kind_sort k) c.last_parts-parts.result (kind_form k) t.inner) in
    let owned = AreParts-grows _ _ d.extends.rows _ (term_parts c.requires.holds c.requires.term _ c.last_parts-parts.ensures) in
    let parts : HasParts (size c.leave.new.cx.rows) (kind_shape h.kind) =
    rw (sort, form) (refilled_parts (size c.leave.new.cx.rows) (kind_sort k) c.last_parts-parts.result (kind_form k) (HasParts-grows _ _ d.extends.rows (kind_shape k) t.named) owned) in
    let cause = not_stored c.leave.new.cx h.kind _ parts shallow h.builds.cause in
    rw p.1 (rebuild_not_stored c.last_parts-parts.result h.kind c.requires.holds c.requires.term c.node_parts-contents.ensures.bound_vars d c.last_parts-parts.ensures form sort h.builds.err
    (c.in_err-new_term.field-0.0, (p.2, rw h.builds.err cause)))

pub returns-clause-goes : goal.returns-clause-goes
returns-clause-goes g c =
    let k = stored_kind c.args.cx.now.rows c.args.frame.now.handle in
    let t = term_facts c.requires.holds c.requires.term in
    let d = c.in_ok-leave.ensures in
    let h = c.in_ok-new_term.ensures in
    let form = rw (stored_kind-grows _ _ d.extends.rows c.args.frame.now.handle t.in_range) at h.form in
    let sort = same-sort h.kind k (h.table ∙ sym t.table) in
    let o = d.is_owned in
    let adds = stored-adds (kind-no_symbol h.kind) h.builds.stored in
    let of_kind = h.of_table ∙ sym h.table in
    rebuild_stored c.last_parts-parts.result h.kind c.requires.holds c.requires.term c.node_parts-contents.ensures.bound_vars d c.last_parts-parts.ensures form sort
    (record { rows = h.builds.grows; limit = h.builds.limit }) (g.met.F.Core.still_owned _ _ _ adds o)
    (stands-still g.F.Core.meaning c.leave.new.cx c.store_like.new.self c.leave.new.folder (g.met.F.Core.still_means _ _ _ adds o) h.builds.counters)
    (stored_term _ _ _ h.kind h.builds.in_range of_kind h.table) (stored_term_tree _ _ c.in_ok-new_term.new_term h.kind h.builds.means of_kind)
