-- what is there is found, and what is not is added
use Rattle.std.proofs.Common.{refl}
use Rattle.std.proofs.lemmas.Bool.{false≢true}
use Rattle.tt_interner.specs.Rows.{type_row}
use Rattle.tt_interner.proofs.StoreSteps.{Builds-deep, Builds-put}
use Rattle.tt_interner.proofs.interner.Interner.mk_ty.Goals as goal

pub returns-then-is_too_deep : goal.returns-then-is_too_deep
returns-then-is_too_deep c = Builds-deep (λ ty. ty.number) _ (type_row c.args.kind) c.are_rows.ensures.are (c.if-is_too_deep.ensures.0 refl)

pub returns : goal.returns
returns c = Builds-put (λ ty. ty.number) _ (type_row c.args.kind) c.are_rows.ensures.are _ _ (λ deep. false≢true (c.if-is_too_deep.ensures.1 deep)) c.put_ty.ensures
