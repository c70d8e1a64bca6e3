use Rattle.std.proofs.Common.{◌≡◌, length, refl, sym, subst}
use Rattle.std.specs.Prelude.{Some, slice_get}
use Rattle.std.proofs.lemmas.Option.{slice_get_read}
use Rattle.tt_kinds.specs.Kinds.{arg_shape}
use Rattle.tt_interner.specs.Owned.{AreOwned, IsOwned, tree_in}
use Rattle.tt_interner.proofs.Growth.{Extends-trans}
use Rattle.tt_interner.proofs.OwnedLaws.{found_owned, list_still_owned, push_owned, still_owned}
use Rattle.unify.specs.Bindings.{substitution}
use Rattle.unify.proofs.UnificationLaws.{table_stays}
use Rattle.solver.specs.Search.{ArePlain}
use Rattle.solver.proofs.SearchLaws.{one_longer, plain_before, plain_next}
use Rattle.solver.proofs.goals.resolved_items.Goals as goal

pub resolved_arg-requires-clause-table : goal.resolved_arg-requires-clause-table
resolved_arg-requires-clause-table c =
    table_stays c.args.cx.now c.loop-index.cx c.args.bindings.now c.loop-index.invariant.extends c.requires.table

pub resolved_arg-requires-clause-arg : goal.resolved_arg-requires-clause-arg
resolved_arg-requires-clause-arg c =
    let items = c.args.items.now in
    let item = c.index-items-index.result in
    let there = slice_get_read items (length items) c.loop-index.index item refl c.loop-index-test.true c.index-items-index.is in
    still_owned arg_shape c.args.cx.now c.loop-index.cx item c.loop-index.invariant.extends
    (found_owned arg_shape c.args.cx.now items c.loop-index.index item there c.requires.items)

pub returns-in_err-push-in-Some-clause-extends : goal.returns-in_err-push-in-Some-clause-extends
returns-in_err-push-in-Some-clause-extends c = Extends-trans c.loop-index.invariant.extends c.resolved_arg.ensures.extends

pub loop-index-preserved : goal.loop-index-preserved
loop-index-preserved c =
    let old = c.args.cx.now in
    let between = c.loop-index.cx in
    let later = c.resolved_arg.new.cx in
    let inv = c.loop-index.invariant in
    let i = c.loop-index.index in
    let items = c.args.items.now in
    let news = c.loop-index.resolved.items in
    let item = c.index-items-index.result in
    let made = c.in-Some.item in
    let grows = c.resolved_arg.ensures.extends in
    let pushed = c.in_ok-push-in-Some.ensures.items in
    let there = slice_get_read items (length items) i item refl c.loop-index-test.true c.index-items-index.is in
    let mine = found_owned arg_shape old items i item there c.requires.items in
    let owned : IsOwned arg_shape later made = rw c.in-Some.is at c.in_ok-item.ensures.owned in
    let plain : tree_in later.rows (arg_shape made) ≡ _ = rw c.in-Some.is at c.in_ok-item.ensures.plain in
    record {
      extends = Extends-trans inv.extends grows;
      counted = one_longer news c.push.new.self.items made i inv.counted pushed;
      owned = subst (AreOwned arg_shape later) (sym pushed)
          (push_owned arg_shape later news made (list_still_owned arg_shape between later news grows inv.owned) owned);
      plain = subst (λ xs. ArePlain (substitution old c.args.bindings.now) old items later xs) (sym pushed)
          (plain_next (substitution old c.args.bindings.now) old between later items news item made grows inv.owned inv.plain
          (subst (λ n. slice_get items n ≡ Some item) (sym inv.counted) there)
          (plain_before old between c.args.bindings.now item (tree_in later.rows (arg_shape made)) inv.extends c.requires.table mine plain));
    }
