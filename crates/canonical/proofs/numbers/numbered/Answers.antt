use Rattle.tt_interner.proofs.Growth.{IsPart-grows, fill-grows}
use Rattle.unify.specs.Bindings.{stored}
use Rattle.unify.specs.Memo.{entries_in}
use Rattle.canonical.specs.Canonical as forms
use Rattle.canonical.proofs.NumberSteps.{outcome_numbered}
use Rattle.canonical.proofs.numbers.numbered.Goals as goal

pub renumbered-outcome-requires-clause-value : goal.renumbered-outcome-requires-clause-value
renumbered-outcome-requires-clause-value g c =
    IsPart-grows c.args.cx.now.rows c.numbers_of.new.cx.rows c.numbers_of.ensures.extends.rows
    (g.T.TypeVisitable.shape c.args.value) c.requires.value

pub returns-clause-plain : goal.returns-clause-plain
returns-clause-plain g c =
    outcome_numbered _ (stored c.numbers_of.new.cx (entries_in c.in_ok-numbers.numbers.entries))
    (forms.numbered c.args.variables.now)
    _ _ c.renumbered-outcome.result c.in_ok-numbers.ensures.numbered
    (fill-grows c.args.cx.now.rows c.numbers_of.new.cx.rows c.numbers_of.ensures.extends.rows
    (g.T.TypeVisitable.shape c.args.value) c.requires.value) c.renumbered-outcome.ensures.plain
