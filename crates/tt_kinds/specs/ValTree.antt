-- Values of the type level: leaves and branches.
use Rattle.std.specs.Prelude.{Option, Some, None, ⊤}
use Rattle.tt_kinds.specs.Handle.{Consts}
use Rattle.tt_kinds.specs.declared.const_kind.ScalarInt.{ScalarInt}
use Rattle.tt_kinds.specs.declared.const_kind.ValTreeKind.{ValTreeKind}
use Rattle.tt_kinds.specs.declared.const_kind.ValTreeKind.TheVariants.{Leaf, Branch}

-- the value is a leaf
abbrev pub IsLeaf : ValTreeKind → Type 0
IsLeaf (Leaf s) = ⊤
IsLeaf (Branch cs) = ⊥

-- the value is a branch
abbrev pub IsBranch : ValTreeKind → Type 0
IsBranch (Leaf s) = ⊥
IsBranch (Branch cs) = ⊤

-- the bits, if the value is a leaf
abbrev pub leaf_of : ValTreeKind → Option ScalarInt
leaf_of (Leaf s) = Some s
leaf_of (Branch cs) = None

-- the values inside, if the value is a branch
abbrev pub branch_of : ValTreeKind → Option Consts
branch_of (Leaf s) = None
branch_of (Branch cs) = Some cs
