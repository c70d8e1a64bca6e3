-- Pairs of children that are to be made equal.
use Rattle.std.specs.Prelude.{◌≡◌, List, [], ◌∷◌, length, Option, IsFalse, ⊤}
use Rattle.tt_kinds.specs.TermTable.{has_items}
use Rattle.tt_kinds.specs.declared.parts.Child.{Child}
use Rattle.tt_kinds.specs.declared.parts.Child.TheVariants as child
use Rattle.tt_kinds.specs.Label.{record_label, pair_record}
use Rattle.tt_kinds.specs.Shape as shape
use Rattle.tt_kinds.specs.Shape.{Shape, append, fill_all}
use Rattle.tt_kinds.specs.Tree.{Depth, Forest}
use Rattle.tt_kinds.specs.Kinds.{child_shapes, ty_shape}
use Rattle.tt_kinds.specs.Handle.{Ty}
use Rattle.tt_interner.specs.Rows.{meaning}
use Rattle.tt_interner.specs.Stored.{Terms}
use Rattle.tt_fold.specs.Steps.{tree_in}
use Rattle.unify.specs.Substitution.{Assignment, GivesClosed, IsOwn, Solves, assign, assign_all}
use Rattle.unify.specs.Bindings.{stored}
use Rattle.unify.specs.declared.pairs.Pair.{Pair}

-- the handles in a pair
abbrev pub pair_shape : Pair → Shape
pair_shape p = shape.node (record_label pair_record) (append (child_shapes p.left) (child_shapes p.right))

-- the child is no list: if it is a stored term, it has a kind
abbrev pub IsNoList : Child → Type 0
IsNoList (child.Stored h) = IsFalse (has_items h.table)
IsNoList _ = ⊤

-- the assignment makes the two types equal
abbrev pub EquatesTypes : Assignment → Terms → Ty → Ty → Type 0
EquatesTypes ρ terms left right = assign ρ (tree_in terms.rows (ty_shape left))
    ≡ assign ρ (tree_in terms.rows (ty_shape right))

-- the tree of a child, or none if there is no child
abbrev pub child_trees : Terms → Child → Forest Depth
child_trees terms c = fill_all (meaning terms.rows) (child_shapes c)

-- the assignment makes the two children equal
abbrev pub Equates : Assignment → Terms → Pair → Type 0
Equates ρ terms p = assign_all ρ (child_trees terms p.left) ≡ assign_all ρ (child_trees terms p.right)

-- the assignment makes the children of each pair equal
abbrev pub EquatesAll : Assignment → Terms → List Pair → Type 0
EquatesAll ρ terms [] = ⊤
EquatesAll ρ terms (p ∷ ps) = Equates ρ terms p × EquatesAll ρ terms ps

-- the assignment solves the bindings, and makes the children of each pair equal
pub record IsSolution (ρ : Assignment) (terms : Terms) (entries : List (Option Ty)) (pairs : List Pair) : Type 0 where
  pub solves : Solves ρ (stored terms entries)
  pub equates : EquatesAll ρ terms pairs

-- whatever solves the earlier bindings and pairs, and meets the condition, solves the later bindings and pairs
pub record KeepsSolutions (Meets : Assignment → Type 0) (old : Terms) (entries : List (Option Ty)) (pairs : List Pair)
    (new : Terms) (later : List (Option Ty)) (others : List Pair) : Type 0 where
  pub keep : (ρ : Assignment) → Meets ρ → IsSolution ρ old entries pairs → IsSolution ρ new later others

-- nothing solves the bindings and pairs and meets the condition
pub record HasNoSolution (Meets : Assignment → Type 0) (terms : Terms) (entries : List (Option Ty)) (pairs : List Pair)
    : Type 0 where
  pub never : (ρ : Assignment) → Meets ρ → IsSolution ρ terms entries pairs → ⊥

-- no assignment to the table's variables alone solves the bindings and pairs and meets the condition
abbrev pub HasNoOwnSolution : (Assignment → Type 0) → Terms → List (Option Ty) → List Pair → Type 0
HasNoOwnSolution Meets terms entries pairs =
    HasNoSolution (λ ρ. IsOwn (length entries) ρ × Meets ρ) terms entries pairs

-- no assignment of trees without variables of a binder around them solves the bindings and pairs and meets the condition
abbrev pub HasNoClosedSolution : (Assignment → Type 0) → Terms → List (Option Ty) → List Pair → Type 0
HasNoClosedSolution Meets terms entries pairs =
    HasNoSolution (λ ρ. GivesClosed ρ × Meets ρ) terms entries pairs
