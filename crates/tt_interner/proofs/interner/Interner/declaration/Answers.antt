-- by the declarations that are kept
use Rattle.std.proofs.Common.{◌≡◌, length, slice_get, Some, ap, refl, sym, ◌∙◌, arith}
use Rattle.std.proofs.lemmas.Bool.{ltb-true}
use Rattle.std.proofs.lemmas.Bool.Decides.{nat_tests}
use Rattle.std.proofs.lemmas.Option.{slice_get_read}
use Rattle.tt_kinds.specs.declared.table.Table.TheVariants.{Declarations}
use Rattle.tt_interner.specs.Rows.{declared_row, size}
use Rattle.tt_interner.specs.Stored.{IsAt}
use Rattle.tt_interner.proofs.DeclarationLaws.{declared_count, declared_is, declared_at-row}
use Rattle.tt_interner.proofs.interner.Interner.declaration.Goals as goal

pub unreachable-requires : goal.unreachable-requires
unreachable-requires c =
    let many = declared_count _ _ _ c.self.invariant.tables c.self.inside.declarations.items refl in
    let counted : length c.self.inside.declarations.items ≡ size c.args.self.now.rows Declarations = many ∙ ap (λ v. size v.rows Declarations) c.self.view_is in
    let same : length c.deref.result.now ≡ length c.self.inside.declarations.items = ap length c.deref.ensures.value in
    grind (arith, nat_tests)

is_there : (c : goal.In-Some) → IsAt c.args.self.now.rows (declared_row c.args.id.number c.in-Some.declaration.now) c.args.id.number
is_there c =
    let h = c.in-Some.ensures.lookup in
    let at : slice_get c.deref.result.now c.number.result ≡ Some c.in-Some.declaration.now = slice_get_read _ _ _ _ refl (ltb-true _ _ (sym h.0)) h.1 in
    let there : slice_get c.self.inside.declarations.items c.args.id.number ≡ Some c.in-Some.declaration.now = rw (← c.deref.ensures.value, ← c.number.ensures) at in
    rw (← c.self.view_is) (declared_is _ _ _ c.self.invariant.tables c.self.inside.declarations.items refl c.args.id.number c.in-Some.declaration.now there)

pub returns-clause-at : goal.returns-clause-at
returns-clause-at c = is_there c

pub returns-clause-is : goal.returns-clause-is
returns-clause-is c = declared_at-row c.args.self.now.rows c.args.id c.in-Some.declaration.now (is_there c)
