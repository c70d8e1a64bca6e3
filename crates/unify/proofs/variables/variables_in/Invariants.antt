use Rattle.tt_kinds.specs.Kinds.{ty_shape}
use Rattle.tt_fold.specs.Steps.{tree_in}
use Rattle.unify.specs.Variables.{AreStored, Visits}
use Rattle.unify.proofs.variables.variables_in.Given as goal

-- how far the search is
abbrev pub invariant-loop : goal.invariant-loop
invariant-loop l = record {
  stored : AreStored l.cx l.search.pending.items;
  visits : Visits l.cx (tree_in l.cx.rows (ty_shape l.fn.ty)) l.search.pending.items l.search.seen.keys l.search.found.items;
}
