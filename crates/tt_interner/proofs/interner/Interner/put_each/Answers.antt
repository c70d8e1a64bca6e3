-- by what is stored so far
use Rattle.std.proofs.Common.{◌≡◌, ◌<◌, length, take, ◌∙◌, arith}
use Rattle.std.proofs.lemmas.Result.{err_from_is_err_and}
use Rattle.tt_interner.proofs.ExistentialSteps.{next_parts, StoresEach-built, StoresEach-all, list_parts}
use Rattle.tt_interner.proofs.ExistentialSteps.{PutsEach-stopped, PutsEach-listed}
use Rattle.tt_interner.proofs.interner.Interner.put_each.Goals as goal

pub mk_existential-requires : goal.mk_existential-requires
mk_existential-requires c = next_parts _ _ _ c.args.predicates.now c.loop-i.places c.loop-i.i c.loop-i.invariant.2 _ c.loop-i-test.true c.requires.parts

pub returns-in_err-handle : goal.returns-in_err-handle
returns-in_err-handle c =
    let p = err_from_is_err_and c.from_residual.result c.from_residual.ensures.1 in
    rw (p.1, p.2) (PutsEach-stopped c.args.self.now c.loop-i.self c.args.predicates.now (take c.loop-i.i c.loop-i.places) c.loop-i.invariant.0 c.loop-i.invariant.1
    c.loop-i.i _ c.loop-i-test.true c.loop-i.invariant.2 c.mk_existential.new.self _ c.in_err-handle.ensures)

pub loop-i-preserved : goal.loop-i-preserved
loop-i-preserved c =
    let room : c.loop-i.i < length c.loop-i.places = omega arith in (
      c.in_ok-handle.ensures.limit ∙ c.loop-i.invariant.0,
      c.in_ok-handle.ensures.counters ∙ c.loop-i.invariant.1,
      StoresEach-built c.args.self.now c.loop-i.self c.mk_existential.new.self c.args.predicates.now c.loop-i.places c.loop-i.i c.loop-i.invariant.0 c.loop-i.invariant.2
          _ c.in_ok-handle.handle c.loop-i-test.true room c.in_ok-handle.ensures,
    )

pub mk_existential_list-requires : goal.mk_existential_list-requires
mk_existential_list-requires c =
    let at_end : c.loop-i.i ≡ length c.args.predicates.now = omega arith in
    list_parts c.args.self.now c.loop-i.self c.args.predicates.now _ c.loop-i.invariant.0 c.loop-i.invariant.1
    (StoresEach-all _ _ _ c.args.predicates.now c.loop-i.places c.loop-i.i c.loop-i.invariant.2 at_end) c.are_rows.ensures.are c.requires.parts

pub returns : goal.returns
returns c =
    let at_end : c.loop-i.i ≡ length c.args.predicates.now = omega arith in
    PutsEach-listed c.args.self.now c.loop-i.self c.args.predicates.now _ c.loop-i.invariant.0 c.loop-i.invariant.1
    (StoresEach-all _ _ _ c.args.predicates.now c.loop-i.places c.loop-i.i c.loop-i.invariant.2 at_end) c.are_rows.ensures.are c.requires.parts
    c.mk_existential_list.result c.mk_existential_list.new.self c.mk_existential_list.ensures
