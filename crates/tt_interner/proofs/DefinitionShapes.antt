-- The shape of a definition has no binder, and no index of its own.
use Rattle.std.proofs.Common.{◌≡◌, List, Option, Some, None, refl, arith}
use Rattle.tt_kinds.specs.Variant.{Variant}
use Rattle.tt_kinds.specs.Handle.{Symbol}
use Rattle.tt_kinds.specs.Range.{binders_in, binders_among, IndicesFitIn, IndicesFitAmong}
use Rattle.tt_kinds.specs.Shape.{item_shapes}
use Rattle.tt_kinds.specs.Values.{symbol_shape, option_shape, field_def_shape, variant_shape}
use Rattle.tt_kinds.proofs.RangeLaws.{items-unbound, items-fit}

name-unbound : (n : Option Symbol) → binders_in (option_shape symbol_shape n) ≡ 0
name-unbound None = refl
name-unbound (Some x) = refl

variant-unbound : (v : Variant) → binders_in (variant_shape v) ≡ 0
variant-unbound v = let name = name-unbound v.name in let fields = items-unbound field_def_shape (λ f. refl) v.fields in omega arith

-- the variants of a definition have no binder of their own
pub definition-unbound : (vs : List Variant) → binders_among (item_shapes variant_shape vs) ≡ 0
definition-unbound vs = items-unbound variant_shape variant-unbound vs

name-fits : (n : Option Symbol) → IndicesFitIn (option_shape symbol_shape n)
name-fits None = tt
name-fits (Some x) = (tt, tt)

variant-fits : (v : Variant) → IndicesFitIn (variant_shape v)
variant-fits v = (name-fits v.name, (items-fit field_def_shape (λ f. (tt, (tt, tt))) v.fields, tt))

-- the variants of a definition have no index of their own that is out of range
pub definition-fits : (vs : List Variant) → IndicesFitAmong (item_shapes variant_shape vs)
definition-fits vs = items-fit variant_shape variant-fits vs
