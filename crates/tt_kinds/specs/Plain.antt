-- What the code computes, on trees: shifting and instantiation on the indices as they are written.
use Rattle.std.specs.Prelude.{ℕ, List, ◌+◌, nat_lt, if◌then◌else◌, Option, Some, None}
use Rattle.tt_kinds.specs.Label.{Name, Sort}
use Rattle.tt_kinds.specs.Tree.{Depth, at, canonical, Tree, param, Forest, rebuild, rebuild_all}
use Rattle.tt_kinds.specs.Reading.{keep}
use Rattle.tt_kinds.specs.Argument.{Argument, argument}

-- the index of a variable under k binders, with n added if its binder is none of them
abbrev pub shifted : ℕ → ℕ → Depth → Depth
shifted n k (at d) = if nat_lt d k then at d else at (n + d)
shifted n k canonical = canonical

-- the tree under k binders with n added to each index that points past them
abbrev pub shift_tree : ℕ → ℕ → Tree Depth → Tree Depth
shift_tree k n t = rebuild (shifted n) keep k t

-- the argument shifted into k binders, or the parameter if there is no argument
abbrev pub shifted_or : Option (Tree Depth) → ℕ → Sort → ℕ → Name → Tree Depth
shifted_or None k s i name = param s i name
shifted_or (Some t) k s i name = shift_tree 0 k t

-- a parameter's argument shifted into k binders, or the parameter if it has none
abbrev pub given_under : List (Argument Depth) → ℕ → Sort → ℕ → Name → Tree Depth
given_under args k s i name = shifted_or (argument args s i) k s i name

-- the tree under k binders with each parameter replaced by its argument, shifted past the binders above it
abbrev pub inst_tree : ℕ → List (Argument Depth) → Tree Depth → Tree Depth
inst_tree k args t = rebuild (λ j d. d) (given_under args) k t

abbrev pub inst_forest : ℕ → List (Argument Depth) → Forest Depth → Forest Depth
inst_forest k args ts = rebuild_all (λ j d. d) (given_under args) k ts
