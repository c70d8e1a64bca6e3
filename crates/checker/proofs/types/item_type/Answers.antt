use Rattle.tt_kinds.specs.Kinds.{ty_shape}
use Rattle.tt_interner.specs.Owned.{IsOwned}
use Rattle.tt_fold.specs.Steps.{tree_in}
use Rattle.checker.specs.Typing.{IsItemOf}
use Rattle.checker.proofs.BuiltLaws.{for_ok, item_read, kept_holds}
use Rattle.checker.proofs.types.item_type.Goals as goal

pub returns-clause-owned : goal.returns-clause-owned
returns-clause-owned c =
    kept_holds (IsOwned ty_shape c.args.cx.now) c.type_at.result c.ok.result c.ok.ensures.value c.type_at.ensures.owned

pub returns-clause-is : goal.returns-clause-is
returns-clause-is c =
    let rows = c.args.cx.now.rows in
    kept_holds (λ found. IsItemOf c.args.item (tree_in rows (ty_shape c.args.ty)) (tree_in rows (ty_shape found))) c.type_at.result
    c.ok.result c.ok.ensures.value (for_ok c.type_at.result (λ found there.
    item_read c.args.cx.now c.args.ty c.in-Tuple.items c.as_slice.result.now c.args.item found _ c.kind.ensures
    c.in-Tuple.is c.as_slice.ensures there) c.type_at.ensures.is)
