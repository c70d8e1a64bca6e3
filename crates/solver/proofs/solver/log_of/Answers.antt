use Rattle.std.proofs.Common.{◌≡◌, ◌-◌, rules, length, sym, subst, ◌∙◌, ap}
use Rattle.std.specs.Prelude.{IfSome, Some, slice_get}
use Rattle.tt_kinds.specs.Values.{trait_predicate_shape}
use Rattle.tt_interner.specs.Owned.{IsOwned, tree_by}
use Rattle.tt_interner.proofs.Growth.{Extends-trans}
use Rattle.unify.specs.Bindings.{substitution}
use Rattle.unify.specs.Substitution.{apply}
use Rattle.unify.proofs.UnificationLaws.{table_stays}
use Rattle.solver.specs.Derivations.{Derives}
use Rattle.solver.proofs.AnswerLaws.{resolved_holds}
use Rattle.solver.proofs.ProgramLaws.{program_stays}
use Rattle.solver.proofs.solver.log_of.Goals as goal

pub resolved_lines-requires : goal.resolved_lines-requires
resolved_lines-requires c =
    table_stays c.args.cx.now c.resolved_goal.new.cx c.args.search.now.bindings c.resolved_goal.ensures.extends c.requires.table

pub verify-verified-requires-clause-program : goal.verify-verified-requires-clause-program
verify-verified-requires-clause-program c =
    program_stays c.args.cx.now c.resolved_lines.new.cx (Extends-trans c.resolved_goal.ensures.extends c.resolved_lines.ensures)
    c.args.known.program.now c.requires.program

pub returns-in-Some-clause-derived : goal.returns-in-Some-clause-derived
returns-in-Some-clause-derived c =
    let old = c.args.cx.now in
    let between = c.resolved_goal.new.cx in
    let later = c.resolved_lines.new.cx in
    let line = c.in-Some.line.now in
    let x = c.args.search.now.bindings in
    let same : Some line.goal ≡ c.in_ok-resolved.resolved = search rules in
    let mine = subst (λ o. IfSome o (λ new. IsOwned trait_predicate_shape between new)) (sym same) c.in_ok-resolved.ensures.owned in
    let plain = subst (λ o. IfSome o (λ new. tree_by trait_predicate_shape between.rows new
    ≡ apply (substitution old x) (tree_by trait_predicate_shape old.rows c.args.goal))) (sym same) c.in_ok-resolved.ensures.plain in
    let k = length c.deref.result.now - 1 in
    let listed : slice_get c.deref.result.now k ≡ Some line = sym c.in-Some.ensures.value in
    let there : slice_get c.as_slice-3.result.now k ≡ Some line =
    ap (λ xs. slice_get xs k) (c.as_slice-3.ensures.value ∙ sym c.deref.ensures.value) ∙ listed in
    resolved_holds Derives old between later x c.args.known.program.now c.args.known.assumptions.now c.args.goal line.goal
    c.resolved_goal.ensures.extends c.resolved_lines.ensures c.requires.program c.requires.assumptions mine plain
    (c.in-Ok.ensures.derived k line there)
