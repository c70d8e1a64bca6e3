use Rattle.std.proofs.Common.{get_or, sym, subst, add-one}
use Rattle.std.proofs.lemmas.Option.{slice_get-get_or}
use Rattle.tt_flags.specs.TypeFlags.{has_infer}
use Rattle.tt_kinds.specs.Scan.{scan}
use Rattle.tt_kinds.specs.Values.{trait_predicate_shape}
use Rattle.tt_kinds.specs.declared.predicate.TraitPredicate.{TraitPredicate}
use Rattle.tt_interner.specs.Owned.{tree_by}
use Rattle.tt_interner.proofs.OwnedLaws.{found_owned}
use Rattle.tt_fold.proofs.KeptLaws.{misses}
use Rattle.solver.specs.Program.{goal_in}
use Rattle.solver.specs.Written.{IsGround}
use Rattle.solver.proofs.OutcomeLaws.{HoldsBelow, holds_all, holds_next}
use Rattle.solver.proofs.ProgramLaws.{no_goal}
use Rattle.solver.proofs.WrittenLaws.{unflagged_ground}
use Rattle.solver.proofs.refutation.are_ground.Goals as goal

pub has_infer-requires : goal.has_infer-requires
has_infer-requires c =
    let goals = c.args.goals.now in
    let i = c.loop-index.index in
    let x = get_or goals i no_goal in
    found_owned trait_predicate_shape c.args.cx.now goals i x
    (slice_get-get_or goals i no_goal c.loop-index-test.true) c.requires

pub loop-index-preserved : goal.loop-index-preserved
loop-index-preserved c =
    let cx = c.args.cx.now in
    let goals = c.args.goals.now in
    let i = c.loop-index.index in
    let x = get_or goals i no_goal in
    let there = slice_get-get_or goals i no_goal c.loop-index-test.true in
    let Holds = λ (goal : TraitPredicate). IsGround (goal_in cx goal) in
    let tree = tree_by trait_predicate_shape cx.rows x in
    let ground = unflagged_ground 0 tree (misses has_infer (scan tree) c.has_infer.result c.has_infer.ensures c.if-has_infer.false) in
    subst (HoldsBelow Holds goals) (sym (add-one i)) (holds_next Holds goals i x c.loop-index.invariant there ground)

pub returns : goal.returns
returns c = λ same.
    holds_all (λ goal. IsGround (goal_in c.args.cx.now goal)) c.args.goals.now c.loop-index.index c.loop-index-test.false c.loop-index.invariant
