use Rattle.std.proofs.Common.{refl}
use Rattle.std.proofs.lemmas.Bool.{false≢true}
use Rattle.tt_fold.proofs.ItemSteps.{ask_hook, ask_none}
use Rattle.tt_fold.proofs.stack.ask.Goals as goal

pub core_term-requires-clause-hooked : goal.core_term-requires-clause-hooked
core_term-requires-clause-hooked g c = c.if-is_hooked.ensures.0 refl

pub returns-then-is_hooked-clause-goes : goal.returns-then-is_hooked-clause-goes
returns-then-is_hooked-clause-goes g c =
    ask_hook c.args.handle c.requires.handle (c.if-is_hooked.ensures.0 refl) c.core_term.ensures.goes

pub returns-else-is_hooked-clause-goes : goal.returns-else-is_hooked-clause-goes
returns-else-is_hooked-clause-goes g c =
    ask_none c.args.handle c.requires.handle (λ hook. false≢true (c.if-is_hooked.ensures.1 hook)) c.requires.owned
