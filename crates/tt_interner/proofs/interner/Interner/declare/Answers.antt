-- the new declaration is the newest row
use Rattle.std.proofs.Common.{ap, refl, subst, ◌∙◌, ◌≡◌, length}
use Rattle.tt_kinds.specs.declared.table.Table.TheVariants.{Declarations}
use Rattle.std.proofs.lemmas.Bool.{false≢true}
use Rattle.std.proofs.lemmas.Result.{err_from_is_err_and}
use Rattle.tt_kinds.specs.Range.{IndicesFitAmong}
use Rattle.tt_kinds.proofs.ValueLaws.{declared_by}
use Rattle.tt_interner.specs.Rows.{declared_row, size, IsNew}
use Rattle.tt_interner.specs.Tables.{with_entries, declared_entries}
use Rattle.tt_interner.specs.Kept.{tables}
use Rattle.tt_interner.proofs.TableLaws.{kept_by, added, refused}
use Rattle.tt_interner.proofs.DeclarationLaws.{declared_entries-added, declared_count, declared_new, Declares-added}
use Rattle.tt_interner.proofs.interner.Interner.declare.Goals as goal

pub invariant_of-self-2 : goal.invariant_of-self-2
invariant_of-self-2 c =
    let many = declared_count _ _ _ c.self.invariant.tables c.self.inside.declarations.items refl in
    let counted : length c.self.inside.declarations.items ≡ size c.args.self.now.rows Declarations = many ∙ ap (λ v. size v.rows Declarations) c.self.view_is in
    let is = ap (with_entries (tables c.self.inside) Declarations) (declared_entries-added c.self.inside.declarations.items _ _ _ c.in_ok-number.ensures.declarations counted) in
    let new = declared_new _ _ _ c.self.invariant.tables c.self.inside.declarations.items refl _ _ counted in
    kept_by c.self.inside.order.items _ (tables c.self.inside) _ _ _ _ c.self.view_is c.self.invariant _ is c.in_ok-number.ensures.order _ (c.in_ok-number.ensures.number.0 ∙ many) c.in_ok-number.ensures.number.1
    (c.requires.name, c.requires.terms) (declared_by IndicesFitAmong tt (λ vars tys. (tt, (tt, tt))) c.args.kind) tt (subst (λ v. IsNew (declared_row (size c.args.self.now.rows Declarations) (record { kind = c.args.kind; name = c.args.name })) v.rows) c.self.view_is new) (λ keeps. absurd (false≢true keeps))

pub returns : goal.returns
returns c =
    let many = declared_count _ _ _ c.self.invariant.tables c.self.inside.declarations.items refl in
    let counted : length c.self.inside.declarations.items ≡ size c.args.self.now.rows Declarations = many ∙ ap (λ v. size v.rows Declarations) c.self.view_is in
    let is = ap (with_entries (tables c.self.inside) Declarations) (declared_entries-added c.self.inside.declarations.items _ _ _ c.in_ok-number.ensures.declarations counted) in
    Declares-added _ _ _ _ _ _ (added c.self.inside.order.items _ (tables c.self.inside) _ _ _ _ c.self.view_is c.self.invariant _ is c.in_ok-number.ensures.order _ (c.in_ok-number.ensures.number.0 ∙ many) c.in_ok-number.ensures.number.1
    (λ id. id.number) c.from_number.result (ap (λ id. id.number) c.from_number.ensures))

pub returns-in_err-number : goal.returns-in_err-number
returns-in_err-number c =
    let many = declared_count _ _ _ c.self.invariant.tables c.self.inside.declarations.items refl in
    let counted : length c.self.inside.declarations.items ≡ size c.args.self.now.rows Declarations = many ∙ ap (λ v. size v.rows Declarations) c.self.view_is in
    let new = declared_new _ _ _ c.self.invariant.tables c.self.inside.declarations.items refl _ _ counted in
    let same = ap (λ ds. with_entries (tables c.self.inside) Declarations (declared_entries 0 ds)) c.in_err-number.ensures.declarations_stay in
    let p = err_from_is_err_and c.from_residual.result c.from_residual.ensures.1 in
    rw (p.1, p.2) (Declares-added _ _ _ _ _ _ (refused c.self.inside.order.items _ (tables c.self.inside) _ _ _ _ c.self.view_is c.self.invariant c.in_err-number.ensures.order_stays same
    (λ id. id.number) _ _ _ _ refl many c.in_err-number.ensures.cause c.in_err-number.ensures.full (subst (λ v. IsNew (declared_row (size c.args.self.now.rows Declarations) (record { kind = c.args.kind; name = c.args.name })) v.rows) c.self.view_is new)))
