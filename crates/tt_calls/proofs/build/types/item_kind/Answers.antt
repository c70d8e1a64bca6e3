use Rattle.std.proofs.Common.{refl}
use Rattle.tt_calls.proofs.build.types.item_kind.Goals as goal

pub returns-in-Adt : goal.returns-in-Adt
returns-in-Adt c = λ rows. rw (c.in-Adt.is, c.from_number.ensures, c.number_at.ensures rows) refl

pub returns-in-FnDef : goal.returns-in-FnDef
returns-in-FnDef c = λ rows. rw (c.in-FnDef.is, c.from_number-in-FnDef.ensures, c.number_at-in-FnDef.ensures rows) refl

pub returns-in-Closure : goal.returns-in-Closure
returns-in-Closure c = λ rows. rw (c.in-Closure.is, c.from_number-in-Closure.ensures, c.number_at-in-Closure.ensures rows) refl

pub returns-in-CoroutineClosure : goal.returns-in-CoroutineClosure
returns-in-CoroutineClosure c = λ rows. rw (c.in-CoroutineClosure.is, c.from_number-id.ensures, c.number_at-in-CoroutineClosure.ensures rows) refl

pub returns-in-Coroutine : goal.returns-in-Coroutine
returns-in-Coroutine c = λ rows. rw (c.in-Coroutine.is, c.from_number-in-Coroutine.ensures, c.number_at-in-Coroutine.ensures rows) refl

pub returns-in-CoroutineWitness : goal.returns-in-CoroutineWitness
returns-in-CoroutineWitness c = λ rows. rw (c.in-CoroutineWitness.is, c.from_number-in-CoroutineWitness.ensures, c.number_at-in-CoroutineWitness.ensures rows) refl

pub returns-in-Alias : goal.returns-in-Alias
returns-in-Alias c = λ rows. rw (c.in-Alias.is, c.alias_kind-kind.ensures rows) refl
