-- The pieces of a text that are still to be written.
use Rattle.std.specs.Prelude.{ℕ, suc, ◌+◌, ◌≤◌, List, [], ◌∷◌, ◌++◌, ◌≡◌, Result, OnOk}
use Rattle.tt_kinds.specs.Label.{Name}
use Rattle.tt_kinds.specs.Tree.{Depth, Tree, Forest, param, bound, region, term, node, binder, none, also}
use Rattle.tt_kinds.specs.Shape.{fill_all, AreParts}
use Rattle.tt_kinds.specs.Kinds.{child_shapes}
use Rattle.tt_interner.specs.Rows.{Row, size, meaning}
use Rattle.tt_print.specs.declared.ir_print.layout.Style.{Style}
use Rattle.tt_print.specs.declared.ir_print.layout.Place.{Place}
use Rattle.tt_print.specs.declared.ir_print.layout.Place.TheVariants as place
use Rattle.tt_print.specs.declared.ir_print.pieces.Piece.{Piece}
use Rattle.tt_print.specs.Text.{before_child, closing, names, child_text, BeginsText}

-- the text at a place, with declarations of these names
abbrev pub place_text : (ℕ → Name) → Style → Place → List ℕ
place_text item_name s (place.Before n last) = before_child item_name s n last
place_text item_name s (place.After n) = closing item_name s n

abbrev mutual
  -- how many pieces a tree's text is made of, without the piece that is the tree
  pub inner_work : Tree Depth → ℕ
  inner_work (param o i name) = 1
  inner_work (bound o d e) = 1
  inner_work (region r) = 1
  inner_work (term l ts) = suc (forest_pieces ts)
  inner_work (node l ts) = suc (forest_pieces ts)
  inner_work (binder vs t) = inner_work t

  -- how many pieces the texts of trees are made of
  pub forest_pieces : Forest Depth → ℕ
  forest_pieces none = 0
  forest_pieces (also t ts) = suc (inner_work t) + forest_pieces ts

-- how many pieces a child's text is made of, without the piece that is the child
abbrev pub inner_child_work : Forest Depth → ℕ
inner_child_work none = 0
inner_child_work (also t ts) = inner_work t

module _ (rows : List Row) where
  -- the text of a piece
  abbrev pub piece_text : Piece → List ℕ
  piece_text p = place_text (names rows) p.style p.place ++ child_text (names rows) [] p.style
      (fill_all (meaning rows) (child_shapes p.child))

  -- the texts of pieces, from the last piece to the first
  abbrev pub pieces_text : List Piece → List ℕ
  pieces_text [] = []
  pieces_text (p ∷ ps) = pieces_text ps ++ piece_text p

  -- how many pieces are still to come
  abbrev pub pieces_work : List Piece → ℕ
  pieces_work [] = 0
  pieces_work (p ∷ ps) = pieces_work ps + suc (inner_child_work (fill_all (meaning rows) (child_shapes p.child)))

  -- the handles in pieces are in range
  abbrev pub ArePieces : List Piece → Type 0
  ArePieces [] = Unit {0}
  ArePieces (p ∷ ps) = ArePieces ps × AreParts (size rows) (child_shapes p.child)

  -- pieces with this text, and no more work than this, were added on top of the old ones
  pub record AddsPieces (old new : List Piece) (added : List ℕ) (work : ℕ) : Type 0 where
    pub text : pieces_text new ≡ added ++ pieces_text old
    pub low : pieces_work new ≤ work + pieces_work old
    pub parts : ArePieces old → ArePieces new

  -- the whole text was begun: what was written, and then the texts of the added pieces, are the whole text
  pub record Opened (a b : List ℕ) (old new : List Piece) (whole : List ℕ) (work : ℕ) : Type 0 where
    pub text : b ++ pieces_text new ≡ a ++ (whole ++ pieces_text old)
    pub low : pieces_work new ≤ work + pieces_work old
    pub parts : ArePieces old → ArePieces new

  -- the text was begun; if memory was refused, the old text is still in front
  pub record OpensText {T E : Type 0} (result : Result T E) (a b : List ℕ) (old new : List Piece) (whole : List ℕ)
      (work : ℕ) : Type 0 where
    pub opened : OnOk result (Opened a b old new whole work)
    pub kept : BeginsText a b

  -- what was written, and then the texts of the pieces that are left, are the whole text after the old text
  pub record Left (a b : List ℕ) (ps : List Piece) (whole : List ℕ) : Type 0 where
    pub text : b ++ pieces_text ps ≡ a ++ whole
    pub kept : BeginsText a b
    pub parts : ArePieces ps
