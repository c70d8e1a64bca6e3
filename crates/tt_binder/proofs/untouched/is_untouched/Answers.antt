use Rattle.std.proofs.Common.{refl, ◌≡◌, false, true}
use Rattle.tt_binder.proofs.UntouchedLaws.{over_untouched, breaks_touched}
use Rattle.tt_binder.proofs.untouched.is_untouched.Goals as goal

false_true : {P : Type 0} → false ≡ true → P
false_true e = cc

pub returns-in-Continue : goal.returns-in-Continue
returns-in-Continue g c = (λ is. over_untouched c.in-Continue.ensures.result, λ left. refl)

pub returns-in-Break : goal.returns-in-Break
returns-in-Break g c = (λ is. false_true is, λ left. absurd (breaks_touched c.in-Break.ensures.result left))
