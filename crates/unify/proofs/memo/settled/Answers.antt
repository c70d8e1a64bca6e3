use Rattle.std.proofs.Common.{◌<◌, Contains, arith, subst, sym}
use Rattle.std.proofs.lemmas.List.{take_all}
use Rattle.tt_interner.proofs.Growth.{Extends-refl, Extends-trans}
use Rattle.unify.specs.Memo.{entries_in}
use Rattle.unify.proofs.MemoLaws.{first_settles, ready_at, settled_to}
use Rattle.unify.proofs.TableLaws.{entries_stay}
use Rattle.unify.proofs.memo.settled.Goals as goal

pub loop-place-init : goal.loop-place-init
loop-place-init c = record {
  extends = Extends-refl c.args.cx.now;
  settles = rw c.new-memo.ensures.empty (first_settles c.args.cx.now c.args.entries.now);
  done = λ v at. absurd (let inside : at.0 < 0 = at.1 in omega (arith, inside));
}

pub settle-requires-clause-table : goal.settle-requires-clause-table
settle-requires-clause-table c =
    entries_stay c.args.cx.now c.loop-place.cx c.args.entries.now c.loop-place.invariant.extends c.requires.table

pub settle-requires-clause-ready : goal.settle-requires-clause-ready
settle-requires-clause-ready c =
    ready_at c.args.cx.now c.loop-place.cx c.args.entries.now (entries_in c.loop-place.memo.entries) c.loop-place.invariant.extends
    c.requires.table c.args.order.now c.requires.order c.loop-place.invariant.settles c.loop-place.place
    c.index-order-place.result c.loop-place-test.true (sym c.index-order-place.is) c.loop-place.invariant.done

pub loop-place-preserved : goal.loop-place-preserved
loop-place-preserved c =
    let next = c.in_ok-settle.ensures.settled in
    record {
      extends = Extends-trans c.loop-place.invariant.extends c.settle.ensures.extends;
      settles = next.settles;
      done = settled_to c.args.cx.now c.loop-place.cx c.args.entries.now (entries_in c.loop-place.memo.entries)
          c.loop-place.invariant.extends c.requires.table c.args.order.now c.requires.order
          c.loop-place.invariant.settles c.loop-place.place c.index-order-place.result c.loop-place-test.true
          (sym c.index-order-place.is) c.loop-place.invariant.done c.settle.new.cx (entries_in c.settle.new.memo.entries) next;
    }

pub returns-clause-all : goal.returns-clause-all
returns-clause-all c = λ v at.
    c.loop-place.invariant.done v
    (subst (λ vs. Contains vs v) (sym (take_all c.loop-place.place c.args.order.now (omega (arith, c.loop-place-test.false)))) at)
