use Rattle.std.proofs.Common.{sym, ◌∙◌}
use Rattle.unify.specs.Bindings.{stored}
use Rattle.unify.specs.Comparison.{ComparedIn, PendingIn}
use Rattle.unify.specs.Faults.{IsMismatch}
use Rattle.unify.proofs.ComparisonLaws.{child_exact, on_err, on_ok, takes_one, takes_parts}
use Rattle.unify.proofs.MismatchLaws.{other_child}
use Rattle.unify.proofs.PairMismatches.{condition_met, list_mismatch, lists_mismatch, other_mismatch}
use Rattle.unify.proofs.TriangularLoop.{parts_more}
use Rattle.unify.proofs.comparison.unify_pair.Goals as goal

pub returns-then-eq-clause-takes : goal.returns-then-eq-clause-takes
returns-then-eq-clause-takes c =
    takes_one c.args.cx.now c.args.table.now.entries.items c.args.comparison.now.pairs.items
    c.args.comparison.now.compared.keys c.args.pair c.requires.pairs
    (child_exact c.args.pair.left c.args.pair.right (sym c.eq.ensures ∙ c.if-eq.true))

pub returns-in-Some-as_list-clause-takes : goal.returns-in-Some-as_list-clause-takes
returns-in-Some-as_list-clause-takes c =
    let terms = c.args.cx.now in
    let ys = c.args.table.now.entries.items in
    let qs = c.push_items.new.pairs.items in
    let keys = c.args.comparison.now.compared.keys in
    on_ok c.push_items.result c.push_items.ensures.owned c.push_items.ensures.others c.push_items.ensures.parts
    c.push_items.ensures.general
    (λ owned others parts general.
    takes_parts terms ys c.args.comparison.now.pairs.items keys c.args.pair qs c.in-Some.left c.in-Some-as_list.right
    c.in-Some.ensures.0 c.in-Some-as_list.ensures.0 owned others
    (parts_more (stored terms ys) (PendingIn terms qs) (ComparedIn terms keys) (parts (stored terms ys))) general)

pub returns-in-Some-as_list-clause-mismatch : goal.returns-in-Some-as_list-clause-mismatch
returns-in-Some-as_list-clause-mismatch c =
    on_err IsMismatch c.push_items.result (λ apart.
    lists_mismatch c.args.cx.now c.args.table.now.entries.items c.args.comparison.now.pairs.items c.args.pair
    c.in-Some.left c.in-Some-as_list.right c.in-Some.ensures.0 c.in-Some-as_list.ensures.0 apart)
    c.push_items.ensures.mismatch

pub returns-in-None-as_list-clause-mismatch : goal.returns-in-None-as_list-clause-mismatch
returns-in-None-as_list-clause-mismatch c = λ mismatch.
    list_mismatch c.args.cx.now c.args.table.now.entries.items c.args.comparison.now.pairs.items c.are_rows.ensures.are
    c.args.pair c.requires.pair c.in-Some.left c.in-Some.ensures c.in-None-as_list.ensures

pub returns-in-Some-as_list-2-clause-mismatch : goal.returns-in-Some-as_list-2-clause-mismatch
returns-in-Some-as_list-2-clause-mismatch c = λ mismatch.
    other_mismatch c.args.cx.now c.args.table.now.entries.items c.args.comparison.now.pairs.items c.are_rows.ensures.are
    c.args.pair c.requires.pair c.in-Some-as_list-2.field-0 c.in-None.ensures c.in-Some-as_list-2.ensures

pub returns-in-None-as_list-2-clause-mismatch : goal.returns-in-None-as_list-2-clause-mismatch
returns-in-None-as_list-2-clause-mismatch c =
    condition_met _ _ c.unify_terms.result
    (other_child c.args.pair.left c.args.pair.right (sym c.eq.ensures ∙ c.if-eq.false)) c.unify_terms.ensures.mismatch
