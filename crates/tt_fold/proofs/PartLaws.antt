-- Shapes of handles, of children and of parts.
use Rattle.std.proofs.Common.{◌≡◌, ℕ, ◌<◌, List, [], ◌∷◌, ◌++◌, refl, ap, sym, ◌∙◌, arith}
use Rattle.tt_kinds.specs.Tree as tree
use Rattle.tt_kinds.specs.Tree.{Depth, Forest}
use Rattle.tt_kinds.specs.Shape.{Shape, Shapes, stored, none, also, append, fill, fill_all}
use Rattle.tt_kinds.specs.Kinds.{child_shapes, children_shapes}
use Rattle.tt_kinds.specs.declared.table.Table.{Table}
use Rattle.tt_kinds.specs.declared.table.Table.TheVariants.{VarLists}
use Rattle.tt_kinds.specs.Handle.{BoundVarKinds}
use Rattle.tt_kinds.specs.declared.parts.Child.{Child}
use Rattle.tt_kinds.specs.Shape.{vars_of}
use Rattle.tt_interner.specs.Rows.{Row, size, meaning, Grows}
use Rattle.tt_fold.specs.Steps.{IsPartOf, tree_in, HasVars, vars_in}
use Rattle.tt_fold.specs.Stack.{joined_trees}
use Rattle.tt_fold.specs.Parts.{ArePartsOf, trees_in}
use Rattle.tt_interner.proofs.Growth.{size-grows, meaning-grows}

-- a handle in range, its tree
pub is_part : (rows : List Row) (t : Table) (n : ℕ) → n < size rows t → IsPartOf rows (stored t n)
is_part rows t n h = h

-- the number of a handle that names a row is below the size of its table
pub in_range : (rows : List Row) (t : Table) (n : ℕ) → IsPartOf rows (stored t n) → n < size rows t
in_range rows t n h = h

-- the tree of a handle, taken as a shape, is what the handle means
pub stored_tree : (rows : List Row) (t : Table) (n : ℕ) → tree_in rows (stored t n) ≡ meaning rows t n
unfolding fill
stored_tree rows t n = refl

-- one shape, and several
pub one_part : (rows : List Row) (s : Shape) → IsPartOf rows s → ArePartsOf rows (also s none)
one_part rows s h = (h, tt)

-- if a list of one shape has handles that name rows, so has the shape
pub only_part : (rows : List Row) (s : Shape) → ArePartsOf rows (also s none) → IsPartOf rows s
only_part rows s h = h.0

-- the trees of a list of one shape are its tree alone
pub one_tree : (rows : List Row) (s : Shape) → trees_in rows (also s none) ≡ tree.also (tree_in rows s) tree.none
unfolding fill_all
one_tree rows s = refl

-- an empty list of shapes has no trees
pub no_trees : (rows : List Row) → trees_in rows none ≡ tree.none
unfolding fill_all
no_trees rows = refl

-- an empty list of shapes has no handle out of range
pub no_parts : (rows : List Row) → ArePartsOf rows none
no_parts rows = tt

-- if the handles in two lists of shapes name rows, so do the handles in both one after the other
pub append_parts : (rows : List Row) (ss us : Shapes) → ArePartsOf rows ss → ArePartsOf rows us → ArePartsOf rows (append ss us)
append_parts rows none us h k = k
append_parts rows (also s ss) us h k = (h.0, append_parts rows ss us h.1 k)

-- if the handles in two lists of shapes, one after the other, name rows, so do the handles in the first
pub left_parts : (rows : List Row) (ss us : Shapes) → ArePartsOf rows (append ss us) → ArePartsOf rows ss
left_parts rows none us h = tt
left_parts rows (also s ss) us h = (h.0, left_parts rows ss us h.1)

-- if the handles in two lists of shapes, one after the other, name rows, so do the handles in the second
pub right_parts : (rows : List Row) (ss us : Shapes) → ArePartsOf rows (append ss us) → ArePartsOf rows us
right_parts rows none us h = h
right_parts rows (also s ss) us h = right_parts rows ss us h.1

-- trees with no trees after them are the same trees
pub joined_trees-none : (ts : Forest Depth) → joined_trees ts tree.none ≡ ts
joined_trees-none tree.none = refl
joined_trees-none (tree.also t ts) = ap (tree.also t) (joined_trees-none ts)

-- the trees of two lists of shapes, one after the other, are the trees of the first and then of the second
pub append_trees : (rows : List Row) (ss us : Shapes) → trees_in rows (append ss us) ≡ joined_trees (trees_in rows ss) (trees_in rows us)
unfolding fill_all
append_trees rows none us = refl
append_trees rows (also s ss) us = ap (tree.also (tree_in rows s)) (append_trees rows ss us)

append-assoc : (ss us vs : Shapes) → append (append ss us) vs ≡ append ss (append us vs)
append-assoc none us vs = refl
append-assoc (also s ss) us vs = ap (also s) (append-assoc ss us vs)

append-none : (ss : Shapes) → append ss none ≡ ss
append-none none = refl
append-none (also s ss) = ap (also s) (append-none ss)

-- the shapes of two lists of children, one after the other, are the shapes of the first and then of the second
pub children-append : (cs ds : List Child) → children_shapes (cs ++ ds) ≡ append (children_shapes cs) (children_shapes ds)
children-append [] ds = refl
children-append (c ∷ cs) ds = ap (append (child_shapes c)) (children-append cs ds) ∙ sym (append-assoc (child_shapes c) (children_shapes cs) (children_shapes ds))

-- the shapes of a list of one child are the shapes of the child
pub children-one : (c : Child) → children_shapes (c ∷ []) ≡ child_shapes c
children-one c = append-none (child_shapes c)

module _ {old new : List Row} (g : Grows old new) where
  -- when rows are added, a list of variables in range stays in range
  pub vars-kept : (vars : BoundVarKinds) → HasVars old vars → HasVars new vars
  vars-kept vars h = let more = size-grows _ _ g VarLists in omega (arith, more, h)

  -- when rows are added, a list in range keeps its variables
  pub vars-grow : (vars : BoundVarKinds) → HasVars old vars → vars_in new vars ≡ vars_in old vars
  vars-grow vars h = ap vars_of (meaning-grows _ _ g VarLists vars.number h)
