-- by the law of the mark
use Rattle.tt_interner.proofs.interner.Interner.info.Goals as goal

pub info_in-requires-clause-kept : goal.info_in-requires-clause-kept
info_in-requires-clause-kept g c = rw c.TABLE.ensures g.met.K.HasInfo.keeps
