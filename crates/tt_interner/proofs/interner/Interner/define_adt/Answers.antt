-- the new definition is the newest row
use Rattle.std.proofs.Common.{ap, sym, refl, subst, ◌∙◌, ◌≡◌, map, None}
use Rattle.std.proofs.lemmas.Bool.{false≢true}
use Rattle.tt_kinds.specs.Variant.{variant_of}
use Rattle.tt_kinds.specs.declared.table.Table.TheVariants.{Definitions}
use Rattle.tt_interner.specs.Rows.{defined_row, IsNew}
use Rattle.tt_interner.specs.Definitions.{IsDefined, variants_of}
use Rattle.tt_interner.specs.Tables.{with_entries}
use Rattle.tt_interner.specs.Kept.{tables}
use Rattle.tt_interner.proofs.TableLaws.{kept_by, added}
use Rattle.tt_interner.proofs.DefinitionShapes.{definition-fits}
use Rattle.tt_interner.proofs.DefinitionLaws.{defined_entries-push, defined_count, defined_new, undefined, not_there}
use Rattle.tt_interner.proofs.DefinitionLaws.{variants-parts, few-fields, Defines-added}
use Rattle.tt_interner.proofs.interner.Interner.define_adt.Goals as goal

pub add-requires : goal.add-requires
add-requires c = not_there _ _ _ c.self.invariant.tables c.self.inside.definitions.entries refl c.args.id.number
    (λ h. c.requires.undefined (subst (λ v. IsDefined v.rows c.args.id.number) c.self.view_is h))

pub invariant_of-self-2 : goal.invariant_of-self-2
invariant_of-self-2 c =
    let vs = c.args.variants.value.items in
    let many = defined_count _ _ _ c.self.invariant.tables c.self.inside.definitions.entries refl in
    let is = ap (with_entries (tables c.self.inside) Definitions) (defined_entries-push c.self.inside.definitions.entries _ c.args.id _ c.in-Ok.ensures.entries) in
    let none = undefined c.args.self.now.rows c.args.id.number c.requires.undefined in
    kept_by c.self.inside.order.items _ (tables c.self.inside) _ _ _ _ c.self.view_is c.self.invariant _ is c.in-Ok.ensures.order _ (c.in-Ok.ensures.number.0 ∙ many) c.in-Ok.ensures.number.1
    (rw c.skip_binder.ensures (tt, variants-parts c.args.self.now.rows vs c.requires.own)) (definition-fits (map variant_of c.skip_binder.result.items)) (rw c.skip_binder.ensures (few-fields vs c.requires.fits))
    (subst (λ v. IsNew (defined_row c.args.id.number (map variant_of c.skip_binder.result.items)) v.rows) c.self.view_is
    (defined_new _ _ _ c.self.invariant.tables c.self.inside.definitions.entries refl c.args.id.number _ (subst (λ v. variants_of v.rows c.args.id.number ≡ None) (sym c.self.view_is) none)))
    (λ keeps. absurd (false≢true keeps))

pub returns : goal.returns
returns c =
    let many = defined_count _ _ _ c.self.invariant.tables c.self.inside.definitions.entries refl in
    let is = ap (with_entries (tables c.self.inside) Definitions) (defined_entries-push c.self.inside.definitions.entries _ c.args.id _ c.in-Ok.ensures.entries) in
    let adds = added c.self.inside.order.items _ (tables c.self.inside) _ _ _ _ c.self.view_is c.self.invariant _ is c.in-Ok.ensures.order _ (c.in-Ok.ensures.number.0 ∙ many) c.in-Ok.ensures.number.1
    (λ n. n) c.in-Ok.field-0 refl in
    Defines-added _ _ _ _ _ _ (ap (λ v. map variant_of v.items) c.skip_binder.ensures) (undefined c.args.self.now.rows c.args.id.number c.requires.undefined) adds
