-- Trees whose type variables are numbered from 0, in the order in which they first occur, from left to right.
use Rattle.std.specs.Prelude.{◌≡◌, ◌++◌, ℕ, suc, eqb, if◌then◌else◌, List, [], ◌∷◌, Option, Some, None, option_map}
use Rattle.std.specs.Prelude.{slice_get}
use Rattle.std.specs.List.{list_any}
use Rattle.tt_kinds.specs.Tree.{Depth, Tree, param, bound, region, term, node, binder, Forest, none, also}
use Rattle.unify.specs.Substitution.{Substitution, apply, assign, variable_of, variable_tree}

-- the list with the variable after its items, if there is a variable and it is not in the list yet
abbrev pub noted : Option ℕ → List ℕ → List ℕ
noted None found = found
noted (Some v) found = if list_any (eqb v) found then found else found ++ v ∷ []

abbrev mutual
  -- the list with each variable of the tree, from left to right, that is not in the list yet
  pub collect : Tree Depth → List ℕ → List ℕ
  collect (param s i name) found = found
  collect (bound s d e) found = found
  collect (region r) found = found
  collect (term l ts) found = collect_all ts (noted (variable_of l) found)
  collect (node l ts) found = collect_all ts found
  collect (binder vs t) found = collect t found

  -- the same for trees in order
  pub collect_all : Forest Depth → List ℕ → List ℕ
  collect_all none found = found
  collect_all (also t ts) found = collect_all ts (collect t found)

-- the variables of a tree, each once, in the order in which they first occur
abbrev pub variables : Tree Depth → List ℕ
variables t = collect t []

-- the variable's place in the list, if it is in the list
abbrev pub place : List ℕ → ℕ → Option ℕ
place [] v = None
place (w ∷ vs) v = if eqb v w then Some 0 else option_map (λ n. suc n) (place vs v)

-- each item of the list is at its place: no variable is in the list twice
abbrev pub IsListedOnce : List ℕ → Type 0
IsListedOnce vs = (k v : ℕ) → slice_get vs k ≡ Some v → place vs v ≡ Some k

-- each variable in the list is bound to the variable of its place
abbrev pub numbered : List ℕ → Substitution
numbered vs v = option_map variable_tree (place vs v)

-- the tree with its variables numbered from 0, in the order in which they first occur
abbrev pub canonical : Tree Depth → Tree Depth
canonical t = apply (numbered (variables t)) t

-- each number is bound to the variable that it is in place of
abbrev pub originals : List ℕ → Substitution
originals vs k = option_map variable_tree (slice_get vs k)

-- the tree with each variable v replaced by the variable r v
abbrev pub rename : (ℕ → ℕ) → Tree Depth → Tree Depth
rename r t = assign (λ v. variable_tree (r v)) t

-- each of the two trees is the other one with its variables renamed: so they differ in the names of variables alone
pub record AreRenamed (t u : Tree Depth) : Type 0 where
  pub there : ℕ → ℕ
  pub back : ℕ → ℕ
  pub to : u ≡ rename there t
  pub from : t ≡ rename back u
