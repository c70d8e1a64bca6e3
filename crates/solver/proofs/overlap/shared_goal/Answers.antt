use Rattle.std.proofs.Common.{◌≡◌, ◌+◌, length, ap, refl, sym, ◌∙◌, subst, arith}
use Rattle.tt_interner.proofs.Growth.{Extends-trans}
use Rattle.unify.specs.Bindings.{IsTable, substitution}
use Rattle.unify.specs.Substitution.{Solves}
use Rattle.unify.proofs.UnificationLaws.{empty_solved, empty_table, substitution_stays, table_stays}
use Rattle.solver.specs.Derivations.{instance_of}
use Rattle.solver.specs.Program.{argument_trees, goal_in}
use Rattle.solver.specs.Refutation.{EquatesGoals, IsForced, variables_from}
use Rattle.solver.proofs.ArgumentLaws.{arguments_in_range}
use Rattle.solver.proofs.EquationLaws.{numbers_differ}
use Rattle.solver.proofs.OverlapLaws.{applies_before, heads_apart, traits_apart}
use Rattle.solver.proofs.ProgramLaws.{arguments_stay, goal_stays, impl_owned}
use Rattle.solver.proofs.overlap.shared_goal.Goals as goal

pub returns-then-ne-clause-apart : goal.returns-then-ne-clause-apart
returns-then-ne-clause-apart c = λ none.
    traits_apart c.args.cx.now c.args.left.now c.args.right.now
    (numbers_differ c.args.left.now.head.trait_ref.def_id.number c.args.right.now.head.trait_ref.def_id.number (sym c.ne.ensures ∙ c.if-ne.true))

pub fresh_args-requires : goal.fresh_args-requires
fresh_args-requires c = subst (IsTable c.args.cx.now) (sym c.new-bindings.ensures) (empty_table c.args.cx.now)

pub unify_goals-requires-clause-table : goal.unify_goals-requires-clause-table
unify_goals-requires-clause-table c =
    table_stays c.fresh_args-2.new.cx c.instance-2.new.cx c.fresh_args-2.new.bindings
    (Extends-trans c.instance.ensures.extends c.instance-2.ensures.extends) c.fresh_args-2.ensures.continues.refined.table

pub returns-in_err-other-clause-extends : goal.returns-in_err-other-clause-extends
returns-in_err-other-clause-extends c =
    Extends-trans (Extends-trans c.fresh_args.ensures.continues.extends c.fresh_args-2.ensures.continues.extends)
    (Extends-trans c.instance.ensures.extends c.instance-2.ensures.extends)

pub returns-then-not-are_types-clause-extends : goal.returns-then-not-are_types-clause-extends
returns-then-not-are_types-clause-extends c =
    Extends-trans (Extends-trans c.fresh_args.ensures.continues.extends c.fresh_args-2.ensures.continues.extends)
    (Extends-trans c.instance.ensures.extends c.instance-2.ensures.extends)

pub returns-then-not-are_types-2-clause-extends : goal.returns-then-not-are_types-2-clause-extends
returns-then-not-are_types-2-clause-extends c =
    Extends-trans (Extends-trans c.fresh_args.ensures.continues.extends c.fresh_args-2.ensures.continues.extends)
    (Extends-trans c.instance.ensures.extends c.instance-2.ensures.extends)

pub returns-in_err-unify_goals-clause-extends : goal.returns-in_err-unify_goals-clause-extends
returns-in_err-unify_goals-clause-extends c =
    Extends-trans (Extends-trans (Extends-trans c.fresh_args.ensures.continues.extends c.fresh_args-2.ensures.continues.extends)
    (Extends-trans c.instance.ensures.extends c.instance-2.ensures.extends)) c.unify_goals.ensures.continues.extends

pub returns-then-not-branch-clause-extends : goal.returns-then-not-branch-clause-extends
returns-then-not-branch-clause-extends c =
    Extends-trans (Extends-trans (Extends-trans c.fresh_args.ensures.continues.extends c.fresh_args-2.ensures.continues.extends)
    (Extends-trans c.instance.ensures.extends c.instance-2.ensures.extends)) c.unify_goals.ensures.continues.extends

pub returns-then-not-branch-clause-apart : goal.returns-then-not-branch-clause-apart
returns-then-not-branch-clause-apart c = λ none.
    let old = c.args.cx.now in
    let first = c.fresh_args.new.cx in
    let second = c.fresh_args-2.new.cx in
    let third = c.instance.new.cx in
    let between = c.instance-2.new.cx in
    let b = c.fresh_args-2.new.bindings in
    let left = c.args.left.now in
    let right = c.args.right.now in
    let n = left.params in
    let m = right.params in
    let lefts = c.in_ok-lefts.lefts in
    let rights = c.in_ok-rights.rights in
    let head = c.in_ok-head.head in
    let other = c.in_ok-other.other in
    let found = c.in_ok-unify_goals.field-0 in
    let to-first = c.fresh_args.ensures.continues.extends in
    let to-second = Extends-trans to-first c.fresh_args-2.ensures.continues.extends in
    let to-third = Extends-trans to-second c.instance.ensures.extends in
    let made = Extends-trans c.instance.ensures.extends c.instance-2.ensures.extends in
    let table = c.fresh_args-2.ensures.continues.refined.table in
    let σ = substitution between b in
    let later = substitution c.unify_goals.new.cx c.unify_goals.new.bindings in
    let start : length c.new-bindings.result.entries ≡ 0 = ap (λ t. length t.entries) c.new-bindings.ensures in
    let counted : length c.fresh_args.new.bindings.entries ≡ n = let many = c.in_ok-lefts.ensures.counted in omega (arith, many, start) in
    let both : length b.entries ≡ n + m = let many = c.in_ok-rights.ensures.counted in omega (arith, many, counted) in
    let mine : argument_trees second lefts ≡ variables_from 0 n =
    arguments_stay first second c.fresh_args-2.ensures.continues.extends lefts c.in_ok-lefts.ensures.owned
    (arguments_in_range first lefts c.as_slice-lefts.result.now c.as_slice-lefts.ensures)
    ∙ c.in_ok-lefts.ensures.are ∙ ap (λ k. variables_from k n) start in
    let others : argument_trees third rights ≡ variables_from n m =
    arguments_stay second third c.instance.ensures.extends rights c.in_ok-rights.ensures.owned
    (arguments_in_range second rights c.as_slice-rights.result.now c.as_slice-rights.ensures)
    ∙ c.in_ok-rights.ensures.are ∙ ap (λ k. variables_from k m) counted in
    let head_plain : goal_in between head ≡ instance_of (variables_from 0 n) (goal_in old left.head) =
    goal_stays third between c.instance-2.ensures.extends head c.in_ok-head.ensures.owned ∙ c.in_ok-head.ensures.plain
    ∙ ap (λ xs. instance_of xs (goal_in second left.head)) mine
    ∙ ap (instance_of (variables_from 0 n)) (goal_stays old second to-second left.head c.requires.left.head) in
    let other_plain : goal_in between other ≡ instance_of (variables_from n m) (goal_in old right.head) =
    c.in_ok-other.ensures.plain ∙ ap (λ xs. instance_of xs (goal_in third right.head)) others
    ∙ ap (instance_of (variables_from n m)) (goal_stays old third to-third right.head c.requires.right.head) in
    let forced : IsForced (n + m) σ (EquatesGoals between head other) found later =
    subst (λ k. IsForced k σ (EquatesGoals between head other) found later) both
    (c.in_ok-unify_goals.ensures.forced (c.if-not-are_types.ensures refl) (c.if-not-are_types-2.ensures refl)) in
    heads_apart old between left right c.requires.left_written c.requires.right_written head other head_plain other_plain σ later
    (λ ρ. subst (Solves ρ) (sym (substitution_stays second between b made table))
    (c.in_ok-rights.ensures.solved ρ (c.in_ok-lefts.ensures.solved ρ
    (subst (λ t. Solves ρ (substitution old t)) (sym c.new-bindings.ensures) (empty_solved ρ old)))))
    found forced c.if-not-branch.true

pub common_instance-requires-clause-left : goal.common_instance-requires-clause-left
common_instance-requires-clause-left c =
    impl_owned c.args.cx.now c.unify_goals.new.cx
    (Extends-trans (Extends-trans (Extends-trans c.fresh_args.ensures.continues.extends c.fresh_args-2.ensures.continues.extends)
    (Extends-trans c.instance.ensures.extends c.instance-2.ensures.extends)) c.unify_goals.ensures.continues.extends)
    c.args.left.now c.requires.left

pub common_instance-requires-clause-right : goal.common_instance-requires-clause-right
common_instance-requires-clause-right c =
    impl_owned c.args.cx.now c.unify_goals.new.cx
    (Extends-trans (Extends-trans (Extends-trans c.fresh_args.ensures.continues.extends c.fresh_args-2.ensures.continues.extends)
    (Extends-trans c.instance.ensures.extends c.instance-2.ensures.extends)) c.unify_goals.ensures.continues.extends)
    c.args.right.now c.requires.right

pub returns-in-Ok-clause-extends : goal.returns-in-Ok-clause-extends
returns-in-Ok-clause-extends c =
    Extends-trans (Extends-trans (Extends-trans (Extends-trans c.fresh_args.ensures.continues.extends
    c.fresh_args-2.ensures.continues.extends) (Extends-trans c.instance.ensures.extends c.instance-2.ensures.extends))
    c.unify_goals.ensures.continues.extends) c.common_instance.ensures.extends

pub returns-in-Ok-clause-left : goal.returns-in-Ok-clause-left
returns-in-Ok-clause-left c =
    applies_before c.args.cx.now c.unify_goals.new.cx
    (Extends-trans (Extends-trans (Extends-trans c.fresh_args.ensures.continues.extends c.fresh_args-2.ensures.continues.extends)
    (Extends-trans c.instance.ensures.extends c.instance-2.ensures.extends)) c.unify_goals.ensures.continues.extends)
    c.args.left.now (goal_in c.common_instance.new.cx c.in-Ok.goal) c.requires.left (rw c.in-Ok.is at c.common_instance.ensures.left)

pub returns-in-Ok-clause-right : goal.returns-in-Ok-clause-right
returns-in-Ok-clause-right c =
    applies_before c.args.cx.now c.unify_goals.new.cx
    (Extends-trans (Extends-trans (Extends-trans c.fresh_args.ensures.continues.extends c.fresh_args-2.ensures.continues.extends)
    (Extends-trans c.instance.ensures.extends c.instance-2.ensures.extends)) c.unify_goals.ensures.continues.extends)
    c.args.right.now (goal_in c.common_instance.new.cx c.in-Ok.goal) c.requires.right (rw c.in-Ok.is at c.common_instance.ensures.right)

pub returns-clause-extends : goal.returns-clause-extends
returns-clause-extends c =
    Extends-trans (Extends-trans (Extends-trans (Extends-trans c.fresh_args.ensures.continues.extends
    c.fresh_args-2.ensures.continues.extends) (Extends-trans c.instance.ensures.extends c.instance-2.ensures.extends))
    c.unify_goals.ensures.continues.extends) c.common_instance.ensures.extends
