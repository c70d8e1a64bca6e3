-- what was there from the start is there
use Rattle.tt_interner.proofs.TableLaws.{has_first}
use Rattle.tt_interner.proofs.interner.Interner.are_rows.Goals as goal

pub returns-clause-first : goal.returns-clause-first
returns-clause-first c = rw (← c.self.view_is) (has_first _ _ _ c.self.invariant)

pub returns-clause-within : goal.returns-clause-within
returns-clause-within c = rw (← c.self.view_is) c.self.invariant.tables.within
