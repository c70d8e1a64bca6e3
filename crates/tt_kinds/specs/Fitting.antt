-- Which trees fit, by their indices and their binders: laws that exclude a refusal with the greatest index.
use Rattle.std.specs.Prelude.{ℕ, suc, ◌+◌, ◌<◌, ◌≤◌, List, [], ◌∷◌, ⊤}
use Rattle.tt_index.specs.Greatest.{greatest}
use Rattle.tt_kinds.specs.Tree.{Depth, Tree, param, bound, region, term, node, binder, Forest, none, also}
use Rattle.tt_kinds.specs.Reading.{read, move, outer_binder, Fits, FitsUnder}
use Rattle.tt_kinds.specs.Argument.{Argument, put, readings}
use Rattle.tt_kinds.specs.Range.{IndicesFit}

abbrev mutual
  -- above each binder of the tree, which is under k binders, there are fewer binders than the greatest index
  pub BindersFit : ℕ → Tree Depth → Type 0
  BindersFit k (param s i name) = ⊤
  BindersFit k (bound s d e) = ⊤
  BindersFit k (region r) = ⊤
  BindersFit k (term l ts) = BindersFit_all k ts
  BindersFit k (node l ts) = BindersFit_all k ts
  BindersFit k (binder vs t) = (k < greatest) × BindersFit (suc k) t

  pub BindersFit_all : ℕ → Forest Depth → Type 0
  BindersFit_all k none = ⊤
  BindersFit_all k (also t ts) = BindersFit k t × BindersFit_all k ts

-- a tree whose indices are in range fits, if its binders do
abbrev pub TreesFit : Type 0
TreesFit = (k : ℕ) (t : Tree Depth) → IndicesFit t → BindersFit k t → FitsUnder k (read k t)

-- a tree whose outer exclusive binder is at most m fits when it is moved by n, if its binders fit under n + m binders
abbrev pub MovedFit : Type 0
MovedFit = (n m : ℕ) (t : Tree Depth) → outer_binder t ≤ m → n + m ≤ greatest → BindersFit (n + m) t
    → Fits (move n (read 0 t))

-- the tree has room in b: where b binders fit, its outer exclusive binder and, beyond it, its own nested binders fit
pub record HasRoom (b : ℕ) (t : Tree Depth) : Type 0 where
  pub reaches : outer_binder t ≤ b
  pub binders : (k : ℕ) → k + b ≤ greatest → BindersFit (k + outer_binder t) t

-- each of the arguments has room in b
abbrev pub HaveRoom : ℕ → List (Argument Depth) → Type 0
HaveRoom b [] = ⊤
HaveRoom b (a ∷ args) = HasRoom b a.value × HaveRoom b args

-- a tree in range fits with its parameters replaced by arguments with room in b, if its binders fit under b binders
abbrev pub InstancesFit : Type 0
InstancesFit = (b : ℕ) (args : List (Argument Depth)) (t : Tree Depth) → IndicesFit t → BindersFit b t → b ≤ greatest
    → HaveRoom b args → Fits (put (readings args) (read 0 t))
