use Rattle.std.proofs.Common.{refl}
use Rattle.std.proofs.lemmas.Bool.{false≢true}
use Rattle.tt_fold.proofs.ItemSteps.{finish_hook, finish_none}
use Rattle.tt_fold.proofs.stack.finish_item.Goals as goal

pub core_after_term-requires-clause-hooked : goal.core_after_term-requires-clause-hooked
core_after_term-requires-clause-hooked g c = c.if-is_hooked.ensures.0 refl

pub returns-then-is_hooked : goal.returns-then-is_hooked
returns-then-is_hooked g c =
    finish_hook c.args.rebuilt c.args.before c.requires.before (c.if-is_hooked.ensures.0 refl) c.core_after_term.ensures

pub returns-else-is_hooked : goal.returns-else-is_hooked
returns-else-is_hooked g c =
    finish_none c.args.before c.requires.before (λ hook. false≢true (c.if-is_hooked.ensures.1 hook)) c.requires.owned c.requires.rebuilt
