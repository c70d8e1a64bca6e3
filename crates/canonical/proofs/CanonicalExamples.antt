-- Small trees, and their canonical trees.
use Rattle.std.proofs.Common.{◌≡◌, ℕ, List, [], ◌∷◌, refl, ap}
use Rattle.tt_kinds.specs.Label.{bool_type, tuple_type, slice_type, type_label}
use Rattle.tt_kinds.specs.Tree.{Depth, Tree, term, none, also}
use Rattle.unify.specs.Substitution.{apply, variable_tree}
use Rattle.canonical.specs.Canonical.{variables, canonical, originals, rename, AreRenamed}

-- the pair of two types
abbrev pair : Tree Depth → Tree Depth → Tree Depth
pair t u = term (type_label tuple_type) (also t (also u none))

abbrev bool : Tree Depth
bool = term (type_label bool_type) none

-- the variables are listed in the order in which they first occur, each once
pub listed_once : variables (pair (variable_tree 7) (pair (variable_tree 3) (variable_tree 7))) ≡ 7 ∷ 3 ∷ []
listed_once = refl

-- and numbered in this order
pub numbered_in_order : canonical (pair (variable_tree 7) (pair (variable_tree 3) (variable_tree 7)))
    ≡ pair (variable_tree 0) (pair (variable_tree 1) (variable_tree 0))
numbered_in_order = refl

-- the numbers tell which variables were there
pub given_back : apply (originals (7 ∷ 3 ∷ [])) (pair (variable_tree 0) (pair (variable_tree 1) (variable_tree 0)))
    ≡ pair (variable_tree 7) (pair (variable_tree 3) (variable_tree 7))
given_back = refl

-- a tree without variables stays as it is
pub without_variables : canonical (pair bool bool) ≡ pair bool bool
without_variables = refl

-- (?4, ?9) and (?1, ?0) have one canonical tree
pub renamed_alike : canonical (pair (variable_tree 4) (variable_tree 9))
    ≡ canonical (pair (variable_tree 1) (variable_tree 0))
renamed_alike = refl

-- (?0, ?0) and (?0, ?1) don't
pub told_apart : canonical (pair (variable_tree 0) (variable_tree 0))
    ≡ canonical (pair (variable_tree 0) (variable_tree 1)) → ⊥
told_apart same = cc
