use Rattle.std.proofs.Common.{ℕ, Contains, take}
use Rattle.unify.specs.Bindings.{stored}
use Rattle.unify.specs.Triangular.{IsChild}
use Rattle.unify.proofs.search.have_children.Given as goal

-- none of the variables so far has a child
abbrev pub invariant-loop-variable : goal.invariant-loop-variable
invariant-loop-variable l = (v u : ℕ) → Contains (take l.variable-index l.variables) v
    → IsChild (stored l.cx l.entries) v u → ⊥
