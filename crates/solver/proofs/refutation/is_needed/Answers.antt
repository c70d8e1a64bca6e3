use Rattle.std.proofs.Common.{◌≡◌, subst}
use Rattle.std.specs.Prelude.{IfSome, Some, slice_get}
use Rattle.tt_flags.specs.TypeFlags.{has_infer}
use Rattle.tt_kinds.specs.Scan.{scan}
use Rattle.tt_kinds.specs.Values.{trait_predicate_shape}
use Rattle.tt_interner.specs.Owned.{tree_by}
use Rattle.tt_fold.proofs.KeptLaws.{misses}
use Rattle.unify.proofs.UnificationLaws.{table_stays}
use Rattle.solver.proofs.OutcomeLaws.{is_found}
use Rattle.solver.proofs.RefutationLaws.{becomes_one}
use Rattle.solver.proofs.WrittenLaws.{unflagged_ground}
use Rattle.solver.proofs.refutation.is_needed.Goals as goal

pub resolved_goal-requires-clause-table : goal.resolved_goal-requires-clause-table
resolved_goal-requires-clause-table c =
    table_stays c.args.cx.now c.instance.new.cx c.args.bindings.now c.instance.ensures.extends c.requires.table

pub returns-clause-needed : goal.returns-clause-needed
returns-clause-needed c = λ found.
    let old = c.args.cx.now in
    let between = c.instance.new.cx in
    let later = c.resolved_goal.new.cx in
    let needed = c.in-Some.needed in
    let place = is_found c.place_of.result c.is_some.result c.is_some.ensures found in
    let there : slice_get c.args.goals.now place.0 ≡ Some needed = subst (λ o. IfSome o (λ k. slice_get c.args.goals.now k ≡ Some needed)) place.1 c.place_of.ensures.found in
    let tree = tree_by trait_predicate_shape later.rows needed in
    let ground = unflagged_ground 0 tree (misses has_infer (scan tree) c.has_infer.result c.has_infer.ensures c.if-has_infer.false) in
    becomes_one old between later c.args.bindings.now c.args.args c.args.condition c.in_ok-made.made needed c.args.goals.now place.0
    c.instance.ensures.extends c.resolved_goal.ensures.extends c.requires.table c.requires.goals c.in_ok-made.ensures.plain
    (rw c.in-Some.is at c.in_ok-needed.ensures.plain) ground there
