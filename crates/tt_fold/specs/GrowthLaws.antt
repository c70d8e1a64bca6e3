-- A fold stores no symbol, and names stay if no symbol is added.
use Rattle.std.proofs.Common.{◌≡◌, ℕ, false, cond, ◌&&◌, eqb, List, [], ◌∷◌, ◌++◌, length, refl, ap, ◌∙◌, inl, inr}
use Rattle.tt_kinds.specs.Shape.{name_of, fill, text_of}
use Rattle.tt_kinds.specs.declared.table.Table.{Table}
use Rattle.tt_kinds.specs.declared.table.Table.TheVariants.{Symbols}
use Rattle.tt_kinds.specs.declared.parts.Kind.{Kind}
use Rattle.tt_kinds.specs.declared.parts.Kind.TheVariants as kind
use Rattle.tt_kinds.specs.declared.parts.Child.{Child}
use Rattle.tt_kinds.specs.declared.table.TermTable.{TermTable}
use Rattle.tt_kinds.specs.declared.table.TermTable.TheVariants as terms_of
use Rattle.tt_interner.specs.Rows.{Row, row_shape, kind_row, is_in, table, size, meaning}
use Rattle.tt_interner.specs.Stored.{Stores}
use Rattle.tt_interner.specs.Children.{items_row}
use Rattle.tt_interner.proofs.RowLaws.{table-other}
use Rattle.tt_interner.proofs.Growth.{sizes-grow}
use Rattle.tt_fold.specs.Growth.{HoldsNoSymbol, AddsTerms}

-- storing a term or a list adds one row that is no symbol, or nothing if the row was there
pub stored-adds : {old new : List Row} {r : Row} {n : ℕ} → is_in Symbols r ≡ false → Stores old new r n
    → AddsTerms old new
stored-adds {old} {new} {r} other h = elim h.grown [
  | inl same ↦ rw same (record {
    grows = record { more = []; kept = refl; in_range = sizes-grow [] old old refl };
    no_symbol = tt;
  })
  | inr added ↦ record {
    grows = record {
      more = r ∷ [];
      kept = added.0;
      in_range = sizes-grow (r ∷ []) old new added.0;
    };
    no_symbol = (other, tt);
  }
]

pub kind-no_symbol : (k : Kind) → is_in Symbols (kind_row k) ≡ false
kind-no_symbol (kind.Ty k) = refl
kind-no_symbol (kind.Const k) = refl
kind-no_symbol (kind.Pat k) = refl
kind-no_symbol (kind.Predicate k) = refl
kind-no_symbol (kind.Existential k) = refl

pub items-no_symbol : (t : TermTable) (items : List Child) → is_in Symbols (items_row t items) ≡ false
items-no_symbol terms_of.TypeLists items = refl
items-no_symbol terms_of.ConstLists items = refl
items-no_symbol terms_of.ArgLists items = refl
items-no_symbol terms_of.PatternLists items = refl
items-no_symbol terms_of.ExistentialLists items = refl
items-no_symbol _ items = refl

-- a row of another table keeps the meaning of a number of this one
meaning-other : (r : Row) (rows : List Row) (t : Table) (n : ℕ) → is_in t r ≡ false
    → meaning (r ∷ rows) t n ≡ meaning rows t n
unfolding meaning
meaning-other r rows t n e = ap (λ b. cond (b && eqb n (length (table t rows))) (fill (meaning rows) (row_shape r))
    (meaning rows t n)) e

symbols-more : (more old : List Row) → HoldsNoSymbol more → (n : ℕ)
    → meaning (more ++ old) Symbols n ≡ meaning old Symbols n
symbols-more [] old h n = refl
symbols-more (r ∷ more) old h n = meaning-other r (more ++ old) Symbols n h.0 ∙ symbols-more more old h.1 n

count-more : (more old : List Row) → HoldsNoSymbol more → size (more ++ old) Symbols ≡ size old Symbols
count-more [] old h = refl
count-more (r ∷ more) old h = ap length (table-other r (more ++ old) Symbols h.0) ∙ count-more more old h.1

-- each symbol keeps its text
pub name-stays : (old new : List Row) → AddsTerms old new → (n : ℕ) → name_of (meaning new) n ≡ name_of (meaning old) n
name-stays old new a n = ap (λ rows. name_of (meaning rows) n) a.grows.kept ∙ ap text_of
    (symbols-more a.grows.more old a.no_symbol n)

-- the number of symbols stays
pub symbols-stay : (old new : List Row) → AddsTerms old new → size new Symbols ≡ size old Symbols
symbols-stay old new a = ap (λ rows. size rows Symbols) a.grows.kept ∙ count-more a.grows.more old a.no_symbol
