-- An interner as contracts see it, and the promises of its calls.
use Rattle.std.specs.Prelude.{◌≡◌, ℕ, ◌+◌, ◌<◌, ◌≤◌, List, [], ◌∷◌, Result, Ok, Err, IfOk, OnOk, OnErr, IfErr, Some}
use Rattle.std.specs.Prelude.{◌⊎◌, ⊤, length, slice_get, nat_lt, cond, codes}
use Rattle.tt_flags.specs.declared.flag_computation.FlagComputation.{FlagComputation}
use Rattle.tt_index.specs.declared.refusal.Refusal.{Refusal}
use Rattle.tt_index.specs.declared.refusal.Refusal.TheVariants.{Memory, TableFull, GreatestIndex, NotAClause}
use Rattle.tt_kinds.specs.Label.{Name, clause_list_label}
use Rattle.tt_kinds.specs.Tree as tree
use Rattle.tt_kinds.specs.Tree.{Tree, Depth}
use Rattle.tt_kinds.specs.Kinds.{children_shapes, items_tree}
use Rattle.tt_kinds.specs.TermTable.{term_table}
use Rattle.tt_kinds.specs.declared.handle.AnyHandle.{AnyHandle}
use Rattle.tt_kinds.specs.declared.table.TermTable.{TermTable}
use Rattle.tt_kinds.specs.declared.parts.Child.{Child}
use Rattle.tt_kinds.specs.Scan.{scan}
use Rattle.tt_kinds.specs.Reading.{outer_binder}
use Rattle.tt_kinds.specs.Shape.{fill, fill_all, HasParts, IsTooDeep}
use Rattle.tt_interner.specs.Clauses.{HasOther}
use Rattle.tt_interner.specs.Children.{items_row}
use Rattle.tt_interner.specs.Rows.{Row, clauses_row, tys_row, consts_row, args_row, pats_row, vars_row}
use Rattle.tt_interner.specs.Rows.{existentials_row, assumptions_row, text_row, row_table, row_shape, table, size}
use Rattle.tt_interner.specs.Rows.{meaning, IsNew, Grows}

-- how often the argument folder and the shifter have taken a type apart
pub record Counters : Type 0 where
  pub descents : ℕ
  pub shift_descents : ℕ

-- an interner as contracts see it: all rows, newest first, how many each table may have, and the counts
pub record Terms : Type 0 where
  pub rows : List Row
  pub limit : ℕ
  pub counters : Counters

-- the new terms are the old ones, and perhaps more; the limit stays
pub record Extends (old new : Terms) : Type 0 where
  pub rows : Grows old.rows new.rows
  pub limit : new.limit ≡ old.limit

-- the greatest count
abbrev pub most_descents : ℕ
most_descents = 18446744073709551615

-- one more than the count, or the count itself if it is the greatest
abbrev pub counted : ℕ → ℕ
counted n = cond (nat_lt n most_descents) (n + 1) n

-- the cached information is the flags and the outer exclusive binder of the tree
pub record IsInfo (info : FlagComputation) (t : Tree Depth) : Type 0 where
  pub flags : info.flags.bits ≡ scan t
  pub outer : info.outer_exclusive_binder ≡ outer_binder t

-- the row r is stored under the number
abbrev pub IsAt : List Row → Row → ℕ → Type 0
IsAt rows r n = slice_get (table (row_table r) rows) n ≡ Some r

-- the anonymous name, `'_`
abbrev pub anonymous_text : Name
anonymous_text = codes "'_"

-- the rows of a new interner, newest first: the empty lists, and the name `'_`
abbrev pub first_rows : List Row
first_rows =
    text_row anonymous_text ∷ assumptions_row [] ∷ existentials_row [] ∷ clauses_row [] ∷ pats_row [] ∷ consts_row []
    ∷ vars_row [] ∷ args_row [] ∷ tys_row [] ∷ []

-- the rows that the defaults of lists and of symbols name
pub record HasFirst (rows : List Row) : Type 0 where
  pub types : IsAt rows (tys_row []) 0
  pub args : IsAt rows (args_row []) 0
  pub vars : IsAt rows (vars_row []) 0
  pub consts : IsAt rows (consts_row []) 0
  pub pats : IsAt rows (pats_row []) 0
  pub clauses : IsAt rows (clauses_row []) 0
  pub existentials : IsAt rows (existentials_row []) 0
  pub assumptions : IsAt rows (assumptions_row []) 0
  pub text : IsAt rows (text_row anonymous_text) 0

-- r was stored under the number, or is now the newest row
pub record Stores (old new : List Row) (r : Row) (n : ℕ) : Type 0 where
  pub stored : IsAt new r n
  pub grown : (new ≡ old) ⊎ ((new ≡ r ∷ old) × IsNew r old)

-- why r was not stored
abbrev pub IsCause : Terms → Row → Refusal → Type 0
IsCause terms r Memory = ⊤
IsCause terms r TableFull = IsNew r terms.rows × (terms.limit ≤ size terms.rows (row_table r))
IsCause terms r GreatestIndex = IsTooDeep (row_shape r)
IsCause terms r _ = ⊥

-- the row r was added as the last of its table, or refused
pub record Adds {H : Type 0} (result : Result H Refusal) (number : H → ℕ) (old new : Terms) (r : Row) : Type 0 where
  pub rows : IfOk result (λ h. new.rows ≡ r ∷ old.rows)
  pub last : IfOk result (λ h. number h ≡ size old.rows (row_table r))
  pub limit : new.limit ≡ old.limit
  pub counters : new.counters ≡ old.counters
  pub err : OnErr result (new ≡ old)
  pub cause : IfErr result (IsCause old r)
  pub full : old.limit ≤ size old.rows (row_table r) → result ≡ Err TableFull

-- the row r was there, and nothing changed; or it was added or refused as a new one
abbrev pub Puts : {H : Type 0} → Result H Refusal → (H → ℕ) → Terms → Terms → Row → Type 0
Puts {H} result number old new r = ((h : H) × (result ≡ Ok h) × IsAt old.rows r (number h) × (new ≡ old))
    ⊎ (IsNew r old.rows × Adds result number old new r)

-- the result is the handle of the row r, which is added if it is new
pub record Builds {H : Type 0} (result : Result H Refusal) (number : H → ℕ) (old new : Terms) (r : Row) : Type 0 where
  pub in_range : IfOk result (λ h. number h < size new.rows (row_table r))
  pub means : IfOk result (λ h. meaning new.rows (row_table r) (number h) ≡ fill (meaning old.rows) (row_shape r))
  pub grows : Grows old.rows new.rows
  pub stored : IfOk result (λ h. Stores old.rows new.rows r (number h))
  pub limit : new.limit ≡ old.limit
  pub counters : new.counters ≡ old.counters
  -- a row that is there is found, and nothing changes
  pub found : (n : ℕ) → IsAt old.rows r n → ((h : H) × (result ≡ Ok h) × (number h ≡ n)) × (new ≡ old)
  -- only a new row is refused, and then nothing changes
  pub err : OnErr result (new ≡ old)
  pub absent : OnErr result (IsNew r old.rows)
  pub cause : IfErr result (IsCause old r)
  pub deep : IsTooDeep (row_shape r) → result ≡ Err GreatestIndex
  pub full : IsNew r old.rows → (IsTooDeep (row_shape r) → ⊥) → old.limit ≤ size old.rows (row_table r)
      → result ≡ Err TableFull

-- the tree is a list of clauses with an item that is not a clause
abbrev pub IsNoClauseList : Tree Depth → Type 0
IsNoClauseList (tree.term clause_list_label ts) = HasOther ts
IsNoClauseList _ = ⊥

-- a row for the tree would be new, with handles in range, and its table holds the limit
pub record HasNoRoom (terms : Terms) (u : Tree Depth) : Type 0 where
  pub row : Row
  pub fills : fill (meaning terms.rows) (row_shape row) ≡ u
  pub parts : HasParts (size terms.rows) (row_shape row)
  pub new : IsNew row terms.rows
  pub full : terms.limit ≤ size terms.rows (row_table row)

-- why the tree was not stored: no memory, no room in its table, or a list of clauses with an item that is not a clause
abbrev pub IsUnbuilt : Terms → Tree Depth → Refusal → Type 0
IsUnbuilt terms u Memory = ⊤
IsUnbuilt terms u TableFull = HasNoRoom terms u
IsUnbuilt terms u NotAClause = IsNoClauseList u
IsUnbuilt terms u _ = ⊥

-- the tree of the list of these children
abbrev pub children_tree : List Row → TermTable → List Child → Tree Depth
children_tree rows t items = items_tree t (fill_all (meaning rows) (children_shapes items))

-- how many items of a list are collected without allocation
abbrev pub most_in_place : ℕ
most_in_place = 8

-- there are more items than `most_in_place`, and the memory for them was refused
abbrev pub LacksItems : {H A : Type 0} → Result H Refusal → List A → Type 0
LacksItems result items = (most_in_place < length items) × (result ≡ Err Memory)

-- the result is the list of these children, which is added if it is new
pub record StoresList (result : Result AnyHandle Refusal) (old new : Terms) (t : TermTable) (items : List Child)
    : Type 0 where
  pub in_range : IfOk result (λ l. l.number < size new.rows (term_table t))
  pub means : IfOk result (λ l. meaning new.rows (term_table t) l.number
      ≡ items_tree t (fill_all (meaning old.rows) (children_shapes items)))
  pub extends : Extends old new
  pub counters : new.counters ≡ old.counters
  pub err : OnErr result (new ≡ old)
  pub cause : IfErr result (IsUnbuilt old (items_tree t (fill_all (meaning old.rows) (children_shapes items))))
  -- a list of clauses with an item that is not a clause is never stored
  pub refused : OnOk result (IsNoClauseList (items_tree t (fill_all (meaning old.rows) (children_shapes items))) → ⊥)
  pub of_table : IfOk result (λ l. l.table ≡ t)
  pub stored : IfOk result (λ l. Stores old.rows new.rows (items_row t items) l.number)
  -- a stored row is found; a new list is refused if its table is full, or if an item that has to be a clause isn't one
  pub found : (n : ℕ) → IsAt old.rows (items_row t items) n
      → (((l : AnyHandle) × (result ≡ Ok l) × (l.number ≡ n)) × (new ≡ old)) ⊎ LacksItems result items
  pub full : IsNew (items_row t items) old.rows → (IsNoClauseList (children_tree old.rows t items) → ⊥)
      → old.limit ≤ size old.rows (term_table t) → (result ≡ Err TableFull) ⊎ LacksItems result items
  pub other : IsNoClauseList (children_tree old.rows t items) → (result ≡ Err NotAClause) ⊎ LacksItems result items
