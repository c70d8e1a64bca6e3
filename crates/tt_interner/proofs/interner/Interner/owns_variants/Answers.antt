-- one variant more
use Rattle.std.proofs.Common.{refl, subst}
use Rattle.std.specs.List.{All}
use Rattle.std.proofs.lemmas.List.{take_all}
use Rattle.std.proofs.lemmas.List.Elements.{All-more}
use Rattle.tt_interner.specs.Definitions.{IsOwnVariant}
use Rattle.tt_interner.proofs.interner.Interner.owns_variants.Goals as goal

pub loop-variant-preserved : goal.loop-variant-preserved
loop-variant-preserved c =
    All-more (IsOwnVariant c.args.self.now.rows) c.args.variants.now c.loop-variant.variant-index c.variant-item.result c.loop-variant-test.true c.loop-variant.invariant
    (subst (IsOwnVariant c.args.self.now.rows) c.variant-item.is (c.if-not-owns_variant.ensures.0 refl))

pub returns : goal.returns
returns c = (
  λ is. subst (All (IsOwnVariant c.args.self.now.rows)) (take_all c.loop-variant.variant-index c.args.variants.now c.loop-variant-test.false) c.loop-variant.invariant,
  λ all. refl,
)
