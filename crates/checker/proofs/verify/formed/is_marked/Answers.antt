use Rattle.std.proofs.Common.{Some, ap, sym, ◌∙◌}
use Rattle.std.specs.Prelude.{slice_get}
use Rattle.checker.proofs.verify.formed.is_marked.Goals as goal

pub returns : goal.returns
returns c = λ is. ap (slice_get c.args.marks.now) (sym c.number.ensures) ∙ c.in-Ok.ensures ∙ ap Some is
