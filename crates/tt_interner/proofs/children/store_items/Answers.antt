-- by the items
use Rattle.std.proofs.Common.{sym, subst, arith}
use Rattle.std.proofs.lemmas.Result.{err_from_is_err_and}
use Rattle.tt_kinds.specs.Shape.{AreParts}
use Rattle.tt_kinds.specs.Kinds.{children_shapes}
use Rattle.tt_interner.specs.Rows.{size}
use Rattle.tt_interner.specs.Stored.{StoresList}
use Rattle.tt_interner.proofs.NodeSteps.{StoresList-memory}
use Rattle.tt_interner.proofs.children.store_items.Goals as goal

pub store-requires : goal.store-requires
store-requires g c = subst (λ cs. AreParts (size c.args.cx.now.rows) (children_shapes cs)) (sym c.in_ok-items.ensures) c.requires.parts

pub returns-in_err-items : goal.returns-in_err-items
returns-in_err-items g c =
    let p = err_from_is_err_and c.from_residual.result c.from_residual.ensures.1 in
    rw (p.1, p.2) (StoresList-memory _ g.T.ListItem.table c.args.children.now (omega arith))

pub returns : goal.returns
returns g c = subst (StoresList c.store.result _ _ g.T.ListItem.table) c.in_ok-items.ensures c.store.ensures
