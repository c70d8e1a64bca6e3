use Rattle.unify.specs.Bindings.{table_of}
use Rattle.unify.specs.Comparison.{IsComparing}
use Rattle.unify.proofs.comparison.compare.Given as goal

-- how far the comparison is
abbrev pub invariant-loop : goal.invariant-loop
invariant-loop l = IsComparing l.cx (table_of l.fn.table) l.fn.left l.fn.right (table_of l.table)
    l.comparison.pairs.items l.comparison.compared.keys
