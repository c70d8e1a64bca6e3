-- Arguments, and instantiation as plain replacement.
use Rattle.std.specs.Prelude.{ℕ, List, map, Option, Some, None, slice_get, Bool, true, false, unwrap_or, if◌then◌else◌}
use Rattle.tt_kinds.specs.Label.{Name, Sort, region_sort, type_sort, const_sort}
use Rattle.tt_kinds.specs.Tree.{Depth, Place, Tree, param, Forest, replace, replace_all}
use Rattle.tt_kinds.specs.Reading.{read}

-- a term of a list of arguments, with its sort
pub record Argument (I : Type 0) : Type 0 where
  pub sort : Sort
  pub value : Tree I

-- the sorts are the same
abbrev pub same_sort : Sort → Sort → Bool
same_sort region_sort region_sort = true
same_sort type_sort type_sort = true
same_sort const_sort const_sort = true
same_sort _ _ = false

-- the value of an argument, if there is an argument and it has the sort
abbrev pub of_sort : {I : Type 0} → Sort → Option (Argument I) → Option (Tree I)
of_sort s None = None
of_sort s (Some a) = if same_sort s a.sort then Some a.value else None

-- the value of a parameter's argument: of the argument at the parameter's index, if it has the parameter's sort
abbrev pub argument : {I : Type 0} → List (Argument I) → Sort → ℕ → Option (Tree I)
argument args s i = of_sort s (slice_get args i)

-- the value of a parameter's argument, or the parameter if it has none
abbrev pub given : {I : Type 0} → List (Argument I) → Sort → ℕ → Name → Tree I
given args s i name = unwrap_or (argument args s i) (param s i name)

-- the reading with each parameter replaced by its argument's reading
abbrev pub put : List (Argument Place) → Tree Place → Tree Place
put args r = replace (λ p. p) (given args) r

abbrev pub put_all : List (Argument Place) → Forest Place → Forest Place
put_all args rs = replace_all (λ p. p) (given args) rs

-- the argument with its value changed
abbrev pub change_value : {I J : Type 0} → (Tree I → Tree J) → Argument I → Argument J
change_value f a = record { sort = a.sort; value = f a.value }

-- the arguments with their values changed
abbrev pub change_values : {I J : Type 0} → (Tree I → Tree J) → List (Argument I) → List (Argument J)
change_values f args = map (change_value f) args

-- the readings of arguments under no binder
abbrev pub readings : List (Argument Depth) → List (Argument Place)
readings args = change_values (read 0) args
