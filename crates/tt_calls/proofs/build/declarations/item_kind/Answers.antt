use Rattle.std.proofs.Common.{List, refl}
use Rattle.tt_interner.specs.Rows.{Row}
use Rattle.tt_calls.specs.declared.call.DeclarationKindCall.TheVariants as declares
use Rattle.tt_calls.specs.CallForm.{declared_positions}
use Rattle.tt_calls.specs.Told.{told_all}
use Rattle.tt_calls.specs.Means.{AreTerms}
use Rattle.tt_calls.proofs.ResultLaws.{passed}
use Rattle.tt_calls.proofs.build.declarations.item_kind.Goals as goal

pub returns-in_err-id-in-AssocTy-clause-absent : goal.returns-in_err-id-in-AssocTy-clause-absent
returns-in_err-id-in-AssocTy-clause-absent c =
    rw (c.in-AssocTy.is)
    (passed c.from_residual.result c.in_err-id-in-AssocTy.field-0.0
    (λ x. (rows : List Row) → AreTerms (told_all rows c.args.earlier.now) (declared_positions (declares.AssocTy c.in-AssocTy.position)) → ⊥) c.from_residual.ensures.1
    (λ rows h. c.in_err-id-in-AssocTy.ensures.absent rows h.0))

pub returns-in_ok-id-in-AssocTy-clause-named : goal.returns-in_ok-id-in-AssocTy-clause-named
returns-in_ok-id-in-AssocTy-clause-named c = λ rows.
    rw (c.in-AssocTy.is, c.in_ok-id-in-AssocTy.ensures.ok rows) (refl, tt)

pub returns-in_err-id-in-Inherent-clause-absent : goal.returns-in_err-id-in-Inherent-clause-absent
returns-in_err-id-in-Inherent-clause-absent c =
    rw (c.in-Inherent.is)
    (passed c.from_residual-in_err-id-in-Inherent.result c.in_err-id-in-Inherent.field-0.0
    (λ x. (rows : List Row) → AreTerms (told_all rows c.args.earlier.now) (declared_positions (declares.Inherent c.in-Inherent.position)) → ⊥) c.from_residual-in_err-id-in-Inherent.ensures.1
    (λ rows h. c.in_err-id-in-Inherent.ensures.absent rows h.0))

pub returns-in_ok-id-in-Inherent-clause-named : goal.returns-in_ok-id-in-Inherent-clause-named
returns-in_ok-id-in-Inherent-clause-named c = λ rows.
    rw (c.in-Inherent.is, c.in_ok-id-in-Inherent.ensures.ok rows) (refl, tt)

pub returns-in_ok-id-in-AssocTy-clause-item : goal.returns-in_ok-id-in-AssocTy-clause-item
returns-in_ok-id-in-AssocTy-clause-item c = λ rows.
    rw (c.in-AssocTy.is, c.in_ok-id-in-AssocTy.ensures.ok rows, c.from_number.ensures, c.number.ensures) refl

pub returns-in_ok-id-in-Inherent-clause-item : goal.returns-in_ok-id-in-Inherent-clause-item
returns-in_ok-id-in-Inherent-clause-item c = λ rows.
    rw (c.in-Inherent.is, c.in_ok-id-in-Inherent.ensures.ok rows, c.from_number-in-Inherent.ensures, c.number-in-Inherent.ensures) refl
