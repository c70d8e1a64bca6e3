-- Which indices are in range, as they are written, and how many binders a value nests.
use Rattle.std.specs.Prelude.{ℕ, suc, max, ⊤}
use Rattle.tt_kinds.specs.Bound.{IsBelowGreatest}
use Rattle.tt_kinds.specs.Tree as tree
use Rattle.tt_kinds.specs.Tree.{Depth, Tree, Forest}
use Rattle.tt_kinds.specs.Shape.{Shape, Shapes, param, bound, region, term, node, binder, stored, part_of, none, also}

abbrev mutual
  -- each index in the tree is below the greatest
  pub IndicesFit : Tree Depth → Type 0
  IndicesFit (tree.param s i name) = ⊤
  IndicesFit (tree.bound s d e) = IsBelowGreatest d
  IndicesFit (tree.region r) = ⊤
  IndicesFit (tree.term l ts) = IndicesFit_all ts
  IndicesFit (tree.node l ts) = IndicesFit_all ts
  IndicesFit (tree.binder vs t) = IndicesFit t

  pub IndicesFit_all : Forest Depth → Type 0
  IndicesFit_all tree.none = ⊤
  IndicesFit_all (tree.also t ts) = IndicesFit t × IndicesFit_all ts

abbrev mutual
  -- each index in the shape itself, outside of the stored terms that it names, is below the greatest
  pub IndicesFitIn : Shape → Type 0
  IndicesFitIn (param s i name) = ⊤
  IndicesFitIn (bound s d e) = IsBelowGreatest d
  IndicesFitIn (region r) = ⊤
  IndicesFitIn (term l ss) = IndicesFitAmong ss
  IndicesFitIn (node l ss) = IndicesFitAmong ss
  IndicesFitIn (binder n s) = IndicesFitIn s
  IndicesFitIn (stored t n) = ⊤
  IndicesFitIn (part_of t n e) = ⊤

  pub IndicesFitAmong : Shapes → Type 0
  IndicesFitAmong none = ⊤
  IndicesFitAmong (also s ss) = IndicesFitIn s × IndicesFitAmong ss

abbrev mutual
  -- how many binders the shape itself nests, outside of the stored terms that it names
  pub binders_in : Shape → ℕ
  binders_in (param s i name) = 0
  binders_in (bound s d e) = 0
  binders_in (region r) = 0
  binders_in (term l ss) = binders_among ss
  binders_in (node l ss) = binders_among ss
  binders_in (binder n s) = suc (binders_in s)
  binders_in (stored t n) = 0
  binders_in (part_of t n e) = 0

  pub binders_among : Shapes → ℕ
  binders_among none = 0
  binders_among (also s ss) = max (binders_in s) (binders_among ss)
