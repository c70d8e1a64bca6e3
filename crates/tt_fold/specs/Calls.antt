-- What holds at each turn of the walk of a list of types by calls.
use Rattle.std.specs.Prelude.{◌≡◌, ℕ, List, drop, length}
use Rattle.tt_kinds.specs.Label.{list_label}
use Rattle.tt_kinds.specs.Tree as tree
use Rattle.tt_kinds.specs.Shape.{item_shapes}
use Rattle.tt_kinds.specs.Kinds.{ty_shape, tys_shape}
use Rattle.tt_kinds.specs.Handle.{Ty, Tys}
use Rattle.tt_kinds.specs.declared.table.Table.TheVariants.{TypeLists}
use Rattle.tt_interner.specs.Rows.{Row, tys_row}
use Rattle.tt_interner.specs.Stored.{Terms, IsAt}
use Rattle.tt_fold.specs.Walk.{Hooks}
use Rattle.tt_fold.specs.Counts.{Standing}
use Rattle.tt_fold.specs.Steps.{tree_in}
use Rattle.tt_fold.specs.Parts.{ArePartsOf, trees_in, FoldsValues}

-- The first `next` types of the stored list, which has `count` types, were folded, which gave `types`. Before, the
-- interner is `terms` and the folder's state is s; afterwards they are terms' and s'.
pub record FoldsTypes {M E S : Type 0} (owned : List Row → S → Type 0) (means : List Row → S → M)
    (H : Hooks (Standing M) E)
    (terms : Terms) (s : S) (tys : Tys) (count next : ℕ) (types : List Ty) (terms' : Terms) (s' : S) : Type 0 where
  pub list : List Ty
  pub row : IsAt terms.rows (tys_row list) tys.number
  pub counted : count ≡ length list
  pub parts : ArePartsOf terms.rows (item_shapes ty_shape list)
  pub tree : tree_in terms.rows (tys_shape tys)
      ≡ tree.node (list_label TypeLists) (trees_in terms.rows (item_shapes ty_shape list))
  pub folded : FoldsValues ty_shape owned means H terms s list types (drop next list) terms' s'
