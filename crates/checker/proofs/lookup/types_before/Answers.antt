use Rattle.std.proofs.Common.{suc, sym, subst, arith, add-one}
use Rattle.std.proofs.lemmas.Option.{slice_get-get_or}
use Rattle.tt_kinds.specs.Kinds.{ty_shape}
use Rattle.tt_interner.specs.Owned.{AreOwned}
use Rattle.tt_interner.proofs.OwnedLaws.{push_owned}
use Rattle.checker.proofs.LookupLaws.{AreFirst, all_found, first_next}
use Rattle.checker.proofs.lookup.types_before.Goals as goal

pub loop-index-preserved : goal.loop-index-preserved
loop-index-preserved c =
    let pushed = c.in_ok-push.ensures.items in
    let one = c.in_ok-type_before.ensures in
    let found = c.loop-index.found.items in
    let ty = c.in_ok-type_before.field-0 in
    let at = slice_get-get_or c.args.numbers.now c.loop-index.index 0 c.loop-index-test.true in
    let next = first_next c.args.types.now c.args.limit c.args.numbers.now found c.loop-index.index _ ty c.loop-index.invariant.first
    at one.before one.is in
    record {
      owned = subst (AreOwned ty_shape c.args.cx.now) (sym pushed)
          (push_owned ty_shape c.args.cx.now found ty c.loop-index.invariant.owned one.owned);
      first = subst (λ n. AreFirst c.args.types.now c.args.limit c.args.numbers.now c.push.new.self.items n)
          (sym (add-one c.loop-index.index))
          (subst (λ items. AreFirst c.args.types.now c.args.limit c.args.numbers.now items (suc c.loop-index.index)) (sym pushed) next);
    }

pub returns-clause-are : goal.returns-clause-are
returns-clause-are c =
    all_found c.args.types.now c.args.limit c.args.numbers.now c.loop-index.found.items c.loop-index.index c.loop-index.invariant.first
    (omega (arith, c.loop-index-test.false, c.loop-index.auto.index-end))
