-- The parts of a tree, and the parts that are not built.
use Rattle.std.specs.Prelude.{List}
use Rattle.tt_index.specs.declared.refusal.Refusal.{Refusal}
use Rattle.tt_kinds.specs.Label.{Name, VarKind, Label}
use Rattle.tt_kinds.specs.Tree.{Depth, Tree, term, node, binder, Forest, also}
use Rattle.tt_interner.specs.Stored.{Terms, IsUnbuilt}

module _ (u : Tree Depth) where
  mutual
    -- the tree u is this tree, or occurs in one of its children or under its binder
    pub data StandsIn : Tree Depth → Type 0 where
      itself : StandsIn u
      in_term : {l : Label Name} {ts : Forest Depth} → StandsAmong ts → StandsIn (term l ts)
      in_node : {l : Label Name} {ts : Forest Depth} → StandsAmong ts → StandsIn (node l ts)
      in_binder : {vs : List (VarKind Name)} {t : Tree Depth} → StandsIn t → StandsIn (binder vs t)

    -- the tree occurs in one of the trees
    pub data StandsAmong : Forest Depth → Type 0 where
      in_first : {t : Tree Depth} {ts : Forest Depth} → StandsIn t → StandsAmong (also t ts)
      in_later : {t : Tree Depth} {ts : Forest Depth} → StandsAmong ts → StandsAmong (also t ts)

-- a term or a list that occurs in the tree was not stored, for this reason
abbrev pub IsPartUnbuilt : Terms → Tree Depth → Refusal → Type 0
IsPartUnbuilt terms t e = (u : Tree Depth) × StandsIn u t × IsUnbuilt terms u e
