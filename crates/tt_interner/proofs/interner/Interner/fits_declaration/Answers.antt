-- one variant more
use Rattle.std.proofs.Common.{◌≤◌, length, subst, arith}
use Rattle.std.proofs.lemmas.Bool.Decides.{nat_tests}
use Rattle.std.proofs.lemmas.List.Elements.{All-more}
use Rattle.tt_index.specs.Greatest.{greatest}
use Rattle.tt_kinds.specs.declared.variant.VariantDef.{VariantDef}
use Rattle.tt_interner.proofs.DefinitionLaws.{few-decides}
use Rattle.tt_interner.proofs.interner.Interner.fits_declaration.Goals as goal

pub loop-variant-preserved : goal.loop-variant-preserved
loop-variant-preserved c =
    let few : length c.variant-item.result.fields.items ≤ greatest = grind (arith, nat_tests) in
    All-more (λ v. length v.fields.items ≤ greatest) c.args.variants.now c.loop-variant.variant-index c.variant-item.result c.loop-variant-test.true c.loop-variant.invariant
    (subst (λ (v : VariantDef). length v.fields.items ≤ greatest) c.variant-item.is few)

pub returns : goal.returns
returns c = few-decides c.args.variants.now c.loop-variant.variant-index c.loop-variant-test.false c.loop-variant.invariant
