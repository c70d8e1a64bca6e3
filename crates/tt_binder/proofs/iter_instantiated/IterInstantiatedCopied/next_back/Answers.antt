use Rattle.tt_binder.proofs.iter_instantiated.IterInstantiatedCopied.next_back.Goals as goal

pub instantiate-requires-clause-value : goal.instantiate-requires-clause-value
instantiate-requires-clause-value g c =
    rw c.bind.ensures (c.requires.value c.deref-value.result.now c.next_back.new.self (c.in_ok-pointer.pointer, c.in_ok-pointer.ensures.steps, c.deref-value.ensures))
