use Rattle.std.proofs.Common.{◌≡◌, rules, length, refl, sym, subst}
use Rattle.std.specs.Prelude.{Some, slice_get}
use Rattle.std.proofs.lemmas.Option.{slice_get_read}
use Rattle.tt_kinds.specs.Values.{trait_predicate_shape}
use Rattle.tt_interner.specs.Owned.{AreOwned}
use Rattle.tt_interner.proofs.OwnedLaws.{list_still_owned}
use Rattle.solver.specs.Derivations.{Derives}
use Rattle.solver.specs.Log.{AreMet}
use Rattle.solver.specs.Program.{goal_in, goals_in, impls_in}
use Rattle.solver.proofs.ArgumentLaws.{arguments_in_range}
use Rattle.solver.proofs.LogLaws.{assumption_derived, instance_derived}
use Rattle.solver.proofs.OutcomeLaws.{on_ok, succeeded}
use Rattle.solver.proofs.ProgramLaws.{met_stays}
use Rattle.solver.proofs.verifier.check_line.Goals as goal

pub check_instance-head-requires-clause-declared : goal.check_instance-head-requires-clause-declared
check_instance-head-requires-clause-declared c =
    let k = c.in-Implemented.number in
    let i = c.in-Some-get.implementation.now in
    let lookup = c.in-Some-get.ensures.lookup in
    let read = slice_get_read c.deref.result.now (length c.deref.result.now) k i refl lookup.3.0 lookup.1 in
    let there : slice_get c.args.program.now k ≡ Some i = let v = c.program.view_is in let d = c.deref.ensures.value in cc in
    (c.requires.program.owned k i there).head

pub check_conditions-requires-clause-conditions : goal.check_conditions-requires-clause-conditions
check_conditions-requires-clause-conditions c =
    let old = c.args.cx.now in
    let between = c.check_instance-head.new.cx in
    let k = c.in-Implemented.number in
    let i = c.in-Some-get.implementation.now in
    let lookup = c.in-Some-get.ensures.lookup in
    let read = slice_get_read c.deref.result.now (length c.deref.result.now) k i refl lookup.3.0 lookup.1 in
    let there : slice_get c.args.program.now k ≡ Some i = let v = c.program.view_is in let d = c.deref.ensures.value in cc in
    subst (AreOwned trait_predicate_shape between) (sym c.as_slice.ensures.value)
    (list_still_owned trait_predicate_shape old between i.conditions.items c.check_instance-head.ensures.extends (c.requires.program.owned k i there).conditions)

pub returns-in-Some-clause-derived : goal.returns-in-Some-clause-derived
returns-in-Some-clause-derived c =
    let old = c.args.cx.now in
    let impls = c.args.program.now in
    let assumptions = c.args.assumptions.now in
    let found = c.in-Some.assumption.now in
    let lookup = c.in-Some.ensures.lookup in
    let there = slice_get_read assumptions (length assumptions) c.in-Assumed.number found refl lookup.3.0 lookup.1 in
    let same : found ≡ c.args.line.now.goal = search rules in
    subst (λ g. Derives (impls_in old impls) (goals_in old assumptions) (goal_in old g)) same
    (assumption_derived old impls assumptions c.in-Assumed.number found there)

pub returns-else-is_err-clause-derived : goal.returns-else-is_err-clause-derived
returns-else-is_err-clause-derived c =
    let old = c.args.cx.now in
    let between = c.check_instance-head.new.cx in
    let impls = c.args.program.now in
    let k = c.in-Implemented.number in
    let i = c.in-Some-get.implementation.now in
    let args = c.in-Implemented.args in
    let earlier = c.args.earlier.now in
    let lookup = c.in-Some-get.ensures.lookup in
    let read = slice_get_read c.deref.result.now (length c.deref.result.now) k i refl lookup.3.0 lookup.1 in
    let there : slice_get impls k ≡ Some i = let v = c.program.view_is in let d = c.deref.ensures.value in cc in
    let owned = c.requires.program.owned k i there in
    let mine = rw c.in-Implemented.is at c.requires.reason in
    let is = succeeded c.check_instance-head.result c.is_err.result c.is_err.ensures.value c.if-is_err.false c.check_instance-head.ensures.is in
    let are = c.if-not-are_type_arguments.ensures refl in
    on_ok c.check_conditions.result (λ met.
    instance_derived old impls c.args.assumptions.now earlier k i args c.args.line.now.goal there are is
    (met_stays old between c.check_instance-head.ensures.extends args mine
    (arguments_in_range old args c.as_slice-arguments.result.now c.as_slice-arguments.ensures) i.conditions.items earlier owned.conditions c.requires.earlier
    (subst (λ xs. AreMet between xs args earlier) c.as_slice.ensures.value met)) c.requires.derived) c.check_conditions.ensures.met
