use Rattle.std.proofs.Common.{◌∙◌}
use Rattle.std.proofs.lemmas.Result.{err_from_is_err_and}
use Rattle.tt_fold.specs.GrowthLaws.{stored-adds, items-no_symbol}
use Rattle.tt_fold.proofs.FoldSteps.{stands-still, stored_list, stored_list_tree}
use Rattle.tt_fold.proofs.ItemSteps.{list_fits, rebuild_list_fails, rebuild_list_ok}
use Rattle.tt_fold.proofs.rebuild.rebuild_list.Goals as goal

pub store_list-requires-clause-fit : goal.store_list-requires-clause-fit
store_list-requires-clause-fit g c = rw c.last_values-results.ensures (list_fits c.requires.holds c.requires.list)

pub returns-in_err-new_list-clause-goes : goal.returns-in_err-new_list-clause-goes
returns-in_err-new_list-clause-goes g c =
    let p = err_from_is_err_and c.from_residual.result c.from_residual.ensures.1 in
    let h = rw c.last_values-results.ensures at c.in_err-new_list.ensures in
    rw p.1 (rebuild_list_fails c.requires.holds c.requires.owned c.requires.list h.err (c.in_err-new_list.field-0.0, (p.2, rw h.err h.cause)))

pub returns-clause-goes : goal.returns-clause-goes
returns-clause-goes g c =
    let h = rw c.last_values-results.ensures at c.in_ok-new_list.ensures in
    let new = c.in_ok-new_list.new_list in
    let adds = stored-adds (items-no_symbol _ _) h.stored in
    rebuild_list_ok c.requires.holds c.requires.list h.extends (g.met.F.Core.still_owned _ _ _ adds c.requires.owned)
    (stands-still g.F.Core.meaning c.args.cx.now c.store_list.new.self c.args.folder.now (g.met.F.Core.still_means _ _ _ adds c.requires.owned) h.counters)
    (record { owned = stored_list _ new c.args.frame.now.handle.table h.table h.in_range; like = h.table }) (stored_list_tree _ new c.args.frame.now.handle.table h.table ∙ h.means)
