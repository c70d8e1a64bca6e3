use Rattle.std.proofs.Common.{◌≡◌, ◌≤◌, length, refl, sym, subst, add-one}
use Rattle.std.specs.Prelude.{Some, slice_get}
use Rattle.std.proofs.lemmas.Option.{slice_get_read}
use Rattle.tt_interner.proofs.Growth.{Extends-trans}
use Rattle.solver.specs.Overlap.{IsOverlap}
use Rattle.solver.specs.Program.{goal_in}
use Rattle.solver.proofs.OverlapLaws.{AreApartBelow, apart_before, apart_next, coherent}
use Rattle.solver.proofs.ProgramLaws.{impls_stay, program_stays}
use Rattle.solver.proofs.overlap.first_overlap.Goals as goal

pub overlap_of-requires-clause-program : goal.overlap_of-requires-clause-program
overlap_of-requires-clause-program c =
    program_stays c.args.cx.now c.loop-second.cx c.loop-second.invariant.extends c.args.program.now c.requires.program

pub overlap_of-requires-clause-there : goal.overlap_of-requires-clause-there
overlap_of-requires-clause-there c =
    let x = c.in-Some.implementation.now in
    let lookup = c.in-Some.ensures.lookup in
    let read = slice_get_read c.deref.result.now (length c.deref.result.now) c.loop-second.second x refl lookup.3.0 lookup.1 in
    let v = c.program.view_is in
    let d = c.deref.ensures.value in
    cc

pub returns-in-Some-2-clause-overlap : goal.returns-in-Some-2-clause-overlap
returns-in-Some-2-clause-overlap c =
    let o = c.in-Some-2.overlap in
    subst (λ is. IsOverlap is o.first o.second (goal_in c.overlap_of.new.cx o.goal))
    (impls_stay c.args.cx.now c.loop-second.cx c.loop-second.invariant.extends c.args.program.now c.requires.program.owned)
    (rw c.in-Some-2.is at c.in_ok-overlap.ensures.overlap)

pub loop-second-preserved : goal.loop-second-preserved
loop-second-preserved c =
    let old = c.args.cx.now in
    let inv = c.loop-second.invariant in
    let impls = c.args.program.now in
    let k = c.loop-second.second in
    let x = c.in-Some.implementation.now in
    let lookup = c.in-Some.ensures.lookup in
    let read = slice_get_read c.deref.result.now (length c.deref.result.now) k x refl lookup.3.0 lookup.1 in
    let there : slice_get impls k ≡ Some x = let v = c.program.view_is in let d = c.deref.ensures.value in cc in
    record {
      extends = Extends-trans inv.extends c.overlap_of.ensures.extends;
      apart = subst (AreApartBelow old impls) (sym (add-one k)) (apart_next old impls k x inv.apart there (λ j i less found.
          apart_before old c.loop-second.cx inv.extends i x (c.requires.program.owned j i found) (c.requires.program.owned k x there)
          (c.in_ok-overlap.ensures.apart c.in_default-2.is j i less found)));
    }

pub returns-clause-coherent : goal.returns-clause-coherent
returns-clause-coherent c = λ none.
    let impls = c.args.program.now in
    let many : c.len-second-end.result ≡ length impls = let e = c.len-second-end.ensures in let v = c.program.view_is in cc in
    coherent c.args.cx.now impls c.loop-second.second (subst (λ n. n ≤ c.loop-second.second) many c.loop-second-test.false)
    c.loop-second.invariant.apart
