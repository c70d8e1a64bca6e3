-- How variances combine.
use Rattle.tt_index.specs.declared.variance.Variance.{Variance}
use Rattle.tt_index.specs.declared.variance.Variance.TheVariants.{Covariant, Invariant, Contravariant, Bivariant}

-- the variance with the direction of subtyping reversed
abbrev pub reversed : Variance → Variance
reversed Covariant = Contravariant
reversed Contravariant = Covariant
reversed Invariant = Invariant
reversed Bivariant = Bivariant

-- the variance of a position of the second variance in a context of the first
abbrev pub xform_of : Variance → Variance → Variance
xform_of Covariant inner = inner
xform_of Contravariant inner = reversed inner
xform_of Invariant _ = Invariant
xform_of Bivariant _ = Bivariant
