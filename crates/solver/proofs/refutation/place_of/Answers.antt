use Rattle.std.proofs.Common.{rules, ◌≡◌, get_or, sym, subst, add-one}
use Rattle.std.proofs.lemmas.Option.{slice_get-get_or}
use Rattle.tt_kinds.specs.Values.{trait_predicate_shape}
use Rattle.tt_kinds.specs.declared.predicate.TraitPredicate.{TraitPredicate}
use Rattle.tt_interner.proofs.OwnedLaws.{found_owned}
use Rattle.solver.specs.Program.{goal_in}
use Rattle.solver.proofs.EquationLaws.{goals_tell}
use Rattle.solver.proofs.ProgramLaws.{no_goal}
use Rattle.solver.proofs.OutcomeLaws.{HoldsBelow, holds_all, holds_next}
use Rattle.solver.proofs.refutation.place_of.Goals as goal

pub loop-index-preserved : goal.loop-index-preserved
loop-index-preserved c =
    let cx = c.args.cx.now in
    let goals = c.args.goals.now in
    let i = c.loop-index.index in
    let x = get_or goals i no_goal in
    let there = slice_get-get_or goals i no_goal c.loop-index-test.true in
    let Holds = λ (other : TraitPredicate). goal_in cx c.args.goal ≡ goal_in cx other → ⊥ in
    let differ : x ≡ c.args.goal → ⊥ = λ same. search rules in
    subst (HoldsBelow Holds goals) (sym (add-one i)) (holds_next Holds goals i x c.loop-index.invariant there
    (λ same. differ (sym (goals_tell cx c.are_rows.ensures.are c.args.goal x c.requires.goal
    (found_owned trait_predicate_shape cx goals i x there c.requires.goals) same))))

pub returns-clause-missing : goal.returns-clause-missing
returns-clause-missing c = λ none.
    holds_all (λ other. goal_in c.args.cx.now c.args.goal ≡ goal_in c.args.cx.now other → ⊥) c.args.goals.now c.loop-index.index
    c.loop-index-test.false c.loop-index.invariant
