-- Growth by rows other than symbols, as the building calls of a fold cause it.
use Rattle.std.specs.Prelude.{◌≡◌, List, [], ◌∷◌, false, ⊤}
use Rattle.tt_kinds.specs.declared.table.Table.TheVariants.{Symbols}
use Rattle.tt_interner.specs.Rows.{Row, is_in, Grows}

-- none of the rows is a symbol
abbrev pub HoldsNoSymbol : List Row → Type 0
HoldsNoSymbol [] = ⊤
HoldsNoSymbol (r ∷ rows) = (is_in Symbols r ≡ false) × HoldsNoSymbol rows

-- the new rows are the old ones, and perhaps more, none of which is a symbol
pub record AddsTerms (old new : List Row) : Type 0 where
  pub grows : Grows old new
  pub no_symbol : HoldsNoSymbol grows.more
