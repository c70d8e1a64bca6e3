-- What forms and lists of all sorts have in common.
use Rattle.std.proofs.Common.{◌≡◌, refl}
use Rattle.tt_kinds.specs.declared.parts.Parts.{Parts}
use Rattle.tt_kinds.specs.Kinds.{Form, param, bound, plain, under, refilled, relabelled}

-- other children under another label, in either order
pub relabelled-refilled : {L K : Type 0} (f : L → K) (q : Parts) (x : Form L) → relabelled f (refilled q x) ≡ refilled q (relabelled f x)
relabelled-refilled f q (param i name) = refl
relabelled-refilled f q (bound d e) = refl
relabelled-refilled f q (plain l p) = refl
relabelled-refilled f q (under l vars m p) = refl
