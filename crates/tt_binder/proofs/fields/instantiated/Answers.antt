use Rattle.tt_binder.proofs.fields.instantiated.Goals as goal

pub returns-in-Ok : goal.returns-in-Ok
returns-in-Ok c = rw c.skip_norm_wip.ensures (rw c.bind.ensures at c.in-Ok.ensures.promise)
