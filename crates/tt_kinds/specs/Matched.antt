-- Variables that agree with their binder's list.
use Rattle.std.specs.Prelude.{ℕ, List, [], ◌∷◌, ◌≡◌, ⊤, Some, slice_get, IsSomeAnd}
use Rattle.tt_kinds.specs.Label.{Name, Sort, VarKind, Entry}
use Rattle.tt_kinds.specs.Argument.{Argument, argument}
use Rattle.tt_kinds.specs.Tree.{Place, own, outer, apart, Tree, param, bound, region, term, node, binder, Forest, none}
use Rattle.tt_kinds.specs.Tree.{also}

-- the entry is in the list, at its number
abbrev pub IsEntryOf : List (VarKind Name) → Entry Name → Type 0
IsEntryOf vs e = slice_get vs e.var ≡ Some e.kind

-- an own variable's entry is in its binder's list; the first list is the innermost binder's
abbrev pub MatchesAt : List (List (VarKind Name)) → Place → Entry Name → Type 0
MatchesAt lists (own d) e = IsSomeAnd (slice_get lists d) (λ vs. IsEntryOf vs e)
MatchesAt lists (outer j) e = ⊤
MatchesAt lists apart e = ⊤

abbrev mutual
  -- under binders of these lists each own variable agrees with its binder
  pub MatchedUnder : List (List (VarKind Name)) → Tree Place → Type 0
  MatchedUnder lists (param s i name) = ⊤
  MatchedUnder lists (bound s p e) = MatchesAt lists p e
  MatchedUnder lists (region r) = ⊤
  MatchedUnder lists (term l rs) = MatchedUnder_all lists rs
  MatchedUnder lists (node l rs) = MatchedUnder_all lists rs
  MatchedUnder lists (binder vs r) = MatchedUnder (vs ∷ lists) r

  pub MatchedUnder_all : List (List (VarKind Name)) → Forest Place → Type 0
  MatchedUnder_all lists none = ⊤
  MatchedUnder_all lists (also r rs) = MatchedUnder lists r × MatchedUnder_all lists rs

-- each value of the arguments agrees with its own binders
abbrev pub ArgumentsMatched : List (Argument Place) → Type 0
ArgumentsMatched args = (s : Sort) (i : ℕ) (r : Tree Place) → argument args s i ≡ Some r → MatchedUnder [] r
