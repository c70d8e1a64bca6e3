-- by the map
use Rattle.std.proofs.Common.{◌≡◌, refl, subst, sym, ap, ◌∙◌, Some, map}
use Rattle.std.specs.Option.{option_copied}
use Rattle.tt_kinds.specs.Variant.{variant_of}
use Rattle.tt_interner.specs.Rows.{AreRows}
use Rattle.tt_interner.specs.Definitions.{IsDefined, variants_of}
use Rattle.tt_interner.proofs.DefinitionLaws.{absent, there, fields-few, variants-few, parts-variants}
use Rattle.tt_interner.proofs.DefinitionLaws.{variants-in_range}
use Rattle.tt_interner.proofs.interner.Interner.adt_variants.Goals as goal

pub unreachable-requires : goal.unreachable-requires
unreachable-requires c = absent _ _ _ c.self.invariant.tables c.self.inside.definitions.entries refl c.args.id.number
    (sym c.get.ensures.value ∙ ap option_copied c.in-None.is) (subst (λ v. IsDefined v.rows c.args.id.number) (sym c.self.view_is) c.requires)

-- they are the variants that the map has
are : (c : goal.After-bind) → variants_of c.args.self.now.rows c.args.id.number ≡ Some (map variant_of c.bind.result.value.now)
are c =
    let found = there _ _ _ c.self.invariant.tables c.self.inside.definitions.entries refl c.args.id.number c.in-Some.variants.now (sym c.get.ensures.value ∙ ap option_copied c.in-Some.is) in
    rw (c.bind.ensures, c.as_slice.ensures.value) (subst (λ v. variants_of v.rows c.args.id.number ≡ Some (map variant_of c.in-Some.variants.now.items)) c.self.view_is found)

rows : (c : goal.After-bind) → AreRows c.args.self.now.rows
rows c = subst (λ v. AreRows v.rows) c.self.view_is c.self.invariant.tables.are

pub returns-clause-is : goal.returns-clause-is
returns-clause-is c = are c

pub returns-clause-fits : goal.returns-clause-fits
returns-clause-fits c = fields-few c.bind.result.value.now (variants-few c.args.self.now.rows (rows c) c.args.id.number _ (are c))

pub returns-clause-own : goal.returns-clause-own
returns-clause-own c = parts-variants c.args.self.now.rows c.bind.result.value.now (variants-in_range c.args.self.now.rows (rows c) c.args.id.number _ (are c))
