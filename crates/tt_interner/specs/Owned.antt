-- Short names for what contracts say of values: that their handles are of an interner, and what their trees are.
use Rattle.std.specs.Prelude.{List}
use Rattle.tt_kinds.specs.Tree.{Depth, Tree}
use Rattle.tt_kinds.specs.Shape.{Shape, IsPart, AreParts, fill, item_shapes}
use Rattle.tt_interner.specs.Rows.{Row, size, meaning}
use Rattle.tt_interner.specs.Stored.{Terms}

-- each handle and each name in the value is of the interner
abbrev pub IsOwned : {T : Type 0} → (T → Shape) → Terms → T → Type 0
IsOwned shape terms x = IsPart (size terms.rows) (shape x)

-- each handle and each name in the items is of the interner
abbrev pub AreOwned : {T : Type 0} → (T → Shape) → Terms → List T → Type 0
AreOwned shape terms xs = AreParts (size terms.rows) (item_shapes shape xs)

-- the handles in the shape name rows
abbrev pub IsPartOf : List Row → Shape → Type 0
IsPartOf rows s = IsPart (size rows) s

-- the tree of the shape, where the rows give the trees of handles
abbrev pub tree_in : List Row → Shape → Tree Depth
tree_in rows s = fill (meaning rows) s

-- the handles in the value's shape name rows
abbrev pub IsPartBy : {T : Type 0} → (T → Shape) → List Row → T → Type 0
IsPartBy shape rows x = IsPartOf rows (shape x)

-- the tree of the value, where the rows give the trees of handles
abbrev pub tree_by : {T : Type 0} → (T → Shape) → List Row → T → Tree Depth
tree_by shape rows x = tree_in rows (shape x)
