-- Substitutions with one more binding.
use Rattle.std.specs.Prelude.{ℕ, eqb, if◌then◌else◌, Some}
use Rattle.tt_kinds.specs.Tree.{Depth, Tree}
use Rattle.unify.specs.Substitution.{Substitution}

-- the substitution with this tree as the variable's binding
abbrev pub with_binding : Substitution → ℕ → Tree Depth → Substitution
with_binding σ v t w = if eqb w v then Some t else σ w
