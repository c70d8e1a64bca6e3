-- The texts of symbols and of declarations.
use Rattle.std.proofs.Common.{◌≡◌, ℕ, ◌<◌, List, refl, ap, sym}
use Rattle.std.proofs.lemmas.Bool.{lt-ltb}
use Rattle.tt_kinds.specs.Shape.{fill, name_of, text_of}
use Rattle.tt_kinds.specs.declared.table.Table.TheVariants.{Symbols, Declarations}
use Rattle.tt_interner.specs.Rows.{Row, text_row, size, meaning, AreRows}
use Rattle.tt_interner.specs.Declarations.{declared_at}
use Rattle.tt_interner.specs.Stored.{IsAt}
use Rattle.tt_interner.proofs.Trees.{Means-row}
use Rattle.tt_print.specs.Text.{own_name, owner_of, owner_name}

-- the bytes of a symbol's row are its text
pub symbol-text : (rows : List Row) → AreRows rows → (bytes : List ℕ) (n : ℕ) → IsAt rows (text_row bytes) n → bytes ≡ name_of (meaning rows) n
unfolding fill
symbol-text rows are bytes n at = sym (ap text_of (Means-row rows are Symbols n (text_row bytes) at).tree)

-- what is declared is called by its name
pub declared-text : (rows : List Row) (d : ℕ) → d < size rows Declarations → name_of (meaning rows) (declared_at rows (record { number = d })).name.number ≡ own_name rows d
declared-text rows d low = rw (lt-ltb d (size rows Declarations) low) refl

-- what is declared belongs to what is in front of its name
pub owner-text : (rows : List Row) (d : ℕ) → d < size rows Declarations → owner_of rows (declared_at rows (record { number = d })).kind ≡ owner_name rows d
owner-text rows d low = rw (lt-ltb d (size rows Declarations) low) refl
