use Rattle.std.proofs.Common.{◌≡◌, length, refl, ap, sym, ◌∙◌, subst, arith}
use Rattle.tt_kinds.specs.Values.{trait_predicate_shape}
use Rattle.tt_interner.specs.Owned.{AreOwned}
use Rattle.tt_interner.proofs.Growth.{Extends-trans}
use Rattle.tt_interner.proofs.OwnedLaws.{list_still_owned}
use Rattle.unify.specs.Bindings.{IsTable, substitution}
use Rattle.unify.specs.Substitution.{Solves}
use Rattle.unify.proofs.UnificationLaws.{empty_solved, empty_table, substitution_stays, table_stays}
use Rattle.solver.specs.Derivations.{instance_of}
use Rattle.solver.specs.Program.{argument_trees, goal_in}
use Rattle.solver.specs.Refutation.{EquatesGoals, IsForced, OneBecomesOneOf, variables_from}
use Rattle.solver.proofs.ArgumentLaws.{arguments_in_range}
use Rattle.solver.proofs.EquationLaws.{instance_of_one_trait, numbers_differ}
use Rattle.solver.proofs.OutcomeLaws.{on_ok}
use Rattle.solver.proofs.ProgramLaws.{arguments_stay, goal_stays}
use Rattle.solver.proofs.RefutationLaws.{needs_nothing, needs_one}
use Rattle.solver.proofs.refutation.check_implementation.Goals as goal

pub returns-then-ne-clause-needs : goal.returns-then-ne-clause-needs
returns-then-ne-clause-needs c = λ args are is.
    absurd (numbers_differ c.args.implementation.now.head.trait_ref.def_id.number c.args.goal.trait_ref.def_id.number
    (sym c.ne.ensures ∙ c.if-ne.true) (instance_of_one_trait c.args.cx.now args c.args.goal c.args.implementation.now.head is))

pub fresh_args-requires : goal.fresh_args-requires
fresh_args-requires c = subst (IsTable c.args.cx.now) (sym c.new-bindings.ensures) (empty_table c.args.cx.now)

pub unify_goals-requires-clause-table : goal.unify_goals-requires-clause-table
unify_goals-requires-clause-table c =
    table_stays c.fresh_args.new.cx c.instance.new.cx c.fresh_args.new.bindings c.instance.ensures.extends
    c.fresh_args.ensures.continues.refined.table

pub check_needed-requires-clause-conditions : goal.check_needed-requires-clause-conditions
check_needed-requires-clause-conditions c =
    let compared = c.unify_goals.new.cx in
    let extends = Extends-trans (Extends-trans c.fresh_args.ensures.continues.extends c.instance.ensures.extends)
    c.unify_goals.ensures.continues.extends in
    subst (AreOwned trait_predicate_shape compared) (sym c.as_slice-conditions.ensures.value)
    (list_still_owned trait_predicate_shape c.args.cx.now compared c.args.implementation.now.conditions.items extends
    c.requires.implementation.conditions)

pub check_needed-requires-clause-goals : goal.check_needed-requires-clause-goals
check_needed-requires-clause-goals c =
    list_still_owned trait_predicate_shape c.args.cx.now c.unify_goals.new.cx c.args.goals.now
    (Extends-trans (Extends-trans c.fresh_args.ensures.continues.extends c.instance.ensures.extends)
    c.unify_goals.ensures.continues.extends) c.requires.goals

pub returns-then-branch-clause-extends : goal.returns-then-branch-clause-extends
returns-then-branch-clause-extends c =
    Extends-trans (Extends-trans (Extends-trans c.fresh_args.ensures.continues.extends c.instance.ensures.extends)
    c.unify_goals.ensures.continues.extends) c.check_needed.ensures.extends

pub returns-then-branch-clause-needs : goal.returns-then-branch-clause-needs
returns-then-branch-clause-needs c =
    let old = c.args.cx.now in
    let first = c.fresh_args.new.cx in
    let between = c.instance.new.cx in
    let later = c.unify_goals.new.cx in
    let b = c.fresh_args.new.bindings in
    let i = c.args.implementation.now in
    let args = c.in_ok-args.args in
    let head = c.in_ok-head.head in
    let to-first = c.fresh_args.ensures.continues.extends in
    let to-between = Extends-trans to-first c.instance.ensures.extends in
    let to-later = Extends-trans c.instance.ensures.extends c.unify_goals.ensures.continues.extends in
    let table = c.fresh_args.ensures.continues.refined.table in
    let σ = substitution between b in
    let bound = substitution later c.unify_goals.new.bindings in
    let start : length c.new-bindings.result.entries ≡ 0 = ap (λ t. length t.entries) c.new-bindings.ensures in
    let fresh : argument_trees first args ≡ variables_from 0 i.params = c.in_ok-args.ensures.are ∙ ap (λ n. variables_from n i.params) start in
    let plain : goal_in between head ≡ instance_of (variables_from 0 i.params) (goal_in old i.head) =
    c.in_ok-head.ensures.plain ∙ ap (λ xs. instance_of xs (goal_in first i.head)) fresh
    ∙ ap (instance_of (variables_from 0 i.params)) (goal_stays old first to-first i.head c.requires.implementation.head) in
    let count : length b.entries ≡ i.params = let many = c.in_ok-args.ensures.counted in omega (arith, many, start) in
    let forced : IsForced i.params σ (EquatesGoals between c.args.goal head) c.in_ok-unify_goals.field-0 bound =
    subst (λ n. IsForced n σ (EquatesGoals between c.args.goal head) c.in_ok-unify_goals.field-0 bound) count
    (c.in_ok-unify_goals.ensures.forced (c.if-not-are_types.ensures refl) (c.if-not-are_types-2.ensures refl)) in
    let stays : argument_trees later args ≡ variables_from 0 i.params =
    arguments_stay first later to-later args c.in_ok-args.ensures.owned
    (arguments_in_range first args c.as_slice-arguments.result.now c.as_slice-arguments.ensures) ∙ fresh in
    on_ok c.check_needed.result (λ one.
    needs_one old between to-between i c.args.goals.now c.args.goal head c.requires.implementation c.requires.written c.requires.goals
    c.requires.goal c.requires.ground plain σ bound
    (λ ρ. subst (Solves ρ) (sym (substitution_stays first between b c.instance.ensures.extends table))
    (c.in_ok-args.ensures.solved ρ (subst (λ t. Solves ρ (substitution old t)) (sym c.new-bindings.ensures) (empty_solved ρ old))))
    c.in_ok-unify_goals.field-0 forced later (Extends-trans to-first to-later)
    (subst (λ xs. OneBecomesOneOf later bound xs i.conditions.items c.args.goals.now) stays
    (subst (λ cs. OneBecomesOneOf later bound (argument_trees later args) cs c.args.goals.now) c.as_slice-conditions.ensures.value one)))
    c.check_needed.ensures.needed

pub returns-clause-needs : goal.returns-clause-needs
returns-clause-needs c =
    let old = c.args.cx.now in
    let first = c.fresh_args.new.cx in
    let between = c.instance.new.cx in
    let later = c.unify_goals.new.cx in
    let b = c.fresh_args.new.bindings in
    let i = c.args.implementation.now in
    let args = c.in_ok-args.args in
    let head = c.in_ok-head.head in
    let to-first = c.fresh_args.ensures.continues.extends in
    let table = c.fresh_args.ensures.continues.refined.table in
    let σ = substitution between b in
    let bound = substitution later c.unify_goals.new.bindings in
    let start : length c.new-bindings.result.entries ≡ 0 = ap (λ t. length t.entries) c.new-bindings.ensures in
    let fresh : argument_trees first args ≡ variables_from 0 i.params = c.in_ok-args.ensures.are ∙ ap (λ n. variables_from n i.params) start in
    let plain : goal_in between head ≡ instance_of (variables_from 0 i.params) (goal_in old i.head) =
    c.in_ok-head.ensures.plain ∙ ap (λ xs. instance_of xs (goal_in first i.head)) fresh
    ∙ ap (instance_of (variables_from 0 i.params)) (goal_stays old first to-first i.head c.requires.implementation.head) in
    let count : length b.entries ≡ i.params = let many = c.in_ok-args.ensures.counted in omega (arith, many, start) in
    let forced : IsForced i.params σ (EquatesGoals between c.args.goal head) c.in_ok-unify_goals.field-0 bound =
    subst (λ n. IsForced n σ (EquatesGoals between c.args.goal head) c.in_ok-unify_goals.field-0 bound) count
    (c.in_ok-unify_goals.ensures.forced (c.if-not-are_types.ensures refl) (c.if-not-are_types-2.ensures refl)) in
    needs_nothing old between (Extends-trans to-first c.instance.ensures.extends) i c.args.goals.now c.args.goal head
    c.requires.implementation c.requires.written c.requires.goals c.requires.goal c.requires.ground plain σ bound
    (λ ρ. subst (Solves ρ) (sym (substitution_stays first between b c.instance.ensures.extends table))
    (c.in_ok-args.ensures.solved ρ (subst (λ t. Solves ρ (substitution old t)) (sym c.new-bindings.ensures) (empty_solved ρ old))))
    c.in_ok-unify_goals.field-0 forced c.if-branch.false
