-- The shapes and the trees of children.
use Rattle.std.specs.Prelude.{List as Listed}
use Rattle.tt_kinds.specs.Label.{static_region}
use Rattle.tt_kinds.specs.Tree.{Depth, Tree}
use Rattle.tt_kinds.specs.Shape as shape
use Rattle.tt_kinds.specs.Shape.{Shape}
use Rattle.tt_kinds.specs.Kinds.{handle_shape, region_shape}
use Rattle.tt_kinds.specs.declared.parts.Child.{Child}
use Rattle.tt_kinds.specs.declared.parts.Child.TheVariants as child
use Rattle.tt_interner.specs.Rows.{Row}
use Rattle.tt_fold.specs.Steps.{tree_in}

-- the shape of a child, or some shape if it is absent
abbrev pub child_shape : Child → Shape
child_shape child.Absent = shape.region static_region
child_shape (child.Region r) = region_shape r
child_shape (child.Stored h) = handle_shape h

-- the tree of a child, or some tree if it is absent
abbrev pub child_tree : Listed Row → Child → Tree Depth
child_tree rows c = tree_in rows (child_shape c)
