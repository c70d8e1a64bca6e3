-- both kinds are in the row of the type, which the law keeps
use Rattle.std.proofs.Common.{◌≡◌}
use Rattle.std.specs.Prelude.{Option, Some}
use Rattle.tt_kinds.specs.declared.ty_kind.TyKind.{TyKind}
use Rattle.tt_interner.specs.Rows.{Row, type_row}
use Rattle.laws.proofs.growth.kinds_around.Goals as goal

same_kind : (row : Option Row) (before after : TyKind) → row ≡ Some (type_row before) → row ≡ Some (type_row after) → before ≡ after
same_kind row before after b a = cc

pub returns : goal.returns
returns c =
    let kept = c.growth_keeps_rows.ensures c.args.cx.now.rows c.mk_ty.new.self.rows c.mk_ty.ensures.grows (type_row c.kind-before.result.now) c.args.ty.number c.kind-before.ensures.row in
    same_kind _ _ _ kept c.kind-after.ensures.row
