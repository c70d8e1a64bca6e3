-- the rest of the list decides
use Rattle.std.proofs.Common.{◌↔◌, drop}
use Rattle.tt_interner.specs.Rows.{AreClauses}
use Rattle.tt_interner.proofs.interner.Interner.are_clauses.Given as goal

abbrev pub invariant-loop-item : goal.invariant-loop-item
invariant-loop-item l = AreClauses l.self.rows (drop l.item-index l.items) ↔ AreClauses l.self.rows l.items
