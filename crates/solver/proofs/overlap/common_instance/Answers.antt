use Rattle.std.proofs.Common.{◌≡◌, refl, ap, ◌∙◌}
use Rattle.tt_interner.proofs.Growth.{Extends-trans}
use Rattle.unify.proofs.UnificationLaws.{table_stays}
use Rattle.solver.specs.Derivations.{instance_of}
use Rattle.solver.specs.Program.{argument_trees, goal_in}
use Rattle.solver.proofs.ArgumentLaws.{arguments_in_range}
use Rattle.solver.proofs.ProgramLaws.{arguments_stay, goal_stays}
use Rattle.solver.proofs.overlap.common_instance.Goals as goal

pub resolved_args-requires-2-clause-table : goal.resolved_args-requires-2-clause-table
resolved_args-requires-2-clause-table c =
    table_stays c.args.cx.now c.resolved_args.new.cx c.args.bindings.now c.resolved_args.ensures.extends c.requires.table

pub returns-in-Ok-clause-extends : goal.returns-in-Ok-clause-extends
returns-in-Ok-clause-extends c =
    Extends-trans (Extends-trans (Extends-trans c.resolved_args.ensures.extends c.resolved_args-2.ensures.extends)
    c.instance.ensures.extends) c.check_instance.ensures.extends

pub returns-in-Ok-clause-left : goal.returns-in-Ok-clause-left
returns-in-Ok-clause-left c =
    let old = c.args.cx.now in
    let resolved = c.resolved_args-2.new.cx in
    let made = c.instance.new.cx in
    let args = argument_trees resolved c.in-Some.lefts in
    let goal = c.in_ok-goal.goal in
    let i = c.args.left.now in
    let extends = Extends-trans c.resolved_args.ensures.extends c.resolved_args-2.ensures.extends in (
      args,
      c.if-not-are_type_arguments.ensures refl,
      goal_stays made c.check_instance.new.cx c.check_instance.ensures.extends goal c.in_ok-goal.ensures.owned ∙ c.in_ok-goal.ensures.plain
          ∙ ap (instance_of args) (goal_stays old resolved extends i.head c.requires.left.head),
    )

pub returns-in-Ok-clause-right : goal.returns-in-Ok-clause-right
returns-in-Ok-clause-right c =
    let old = c.args.cx.now in
    let resolved = c.resolved_args-2.new.cx in
    let made = c.instance.new.cx in
    let rights = c.in-Some-2.rights in
    let args = argument_trees resolved rights in
    let goal = c.in_ok-goal.goal in
    let i = c.args.right.now in
    let extends = Extends-trans c.resolved_args.ensures.extends c.resolved_args-2.ensures.extends in
    let is : goal_in made goal ≡ instance_of (argument_trees made rights) (goal_in made i.head) = rw c.in-Ok.is at c.check_instance.ensures.is in
    let stays : argument_trees made rights ≡ args =
    arguments_stay resolved made c.instance.ensures.extends rights (rw c.in-Some-2.is at c.in_ok-rights.ensures.owned)
    (arguments_in_range resolved rights c.as_slice-rights.result.now c.as_slice-rights.ensures) in (
      args,
      c.if-not-are_type_arguments-2.ensures refl,
      goal_stays made c.check_instance.new.cx c.check_instance.ensures.extends goal c.in_ok-goal.ensures.owned ∙ is
          ∙ ap (λ xs. instance_of xs (goal_in made i.head)) stays
          ∙ ap (instance_of args) (goal_stays old made (Extends-trans extends c.instance.ensures.extends) i.head c.requires.right.head),
    )

pub returns-in-Err-clause-extends : goal.returns-in-Err-clause-extends
returns-in-Err-clause-extends c =
    Extends-trans (Extends-trans (Extends-trans c.resolved_args.ensures.extends c.resolved_args-2.ensures.extends)
    c.instance.ensures.extends) c.check_instance.ensures.extends
