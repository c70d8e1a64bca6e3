-- the predicates so far are stored
use Rattle.std.proofs.Common.{◌≡◌, take}
use Rattle.tt_interner.specs.Existentials.{StoresEach}
use Rattle.tt_interner.proofs.interner.Interner.put_each.Given as goal

abbrev pub invariant-loop-i : goal.invariant-loop-i
invariant-loop-i l = (l.self.limit ≡ l.fn.self.limit) × (l.self.counters ≡ l.fn.self.counters)
    × StoresEach l.fn.self.limit l.fn.self.rows l.self.rows (take l.i l.predicates) (take l.i l.places)
