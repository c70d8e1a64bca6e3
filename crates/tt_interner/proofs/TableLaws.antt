-- What the tables hold, once an entry comes.
use Rattle.std.proofs.Common.{◌≡◌, ℕ, zero, suc, ◌+◌, ◌<◌, ◌≤◌, ⊎_elim, Bool, true, false, List, [], ◌∷◌, ◌++◌, length}
use Rattle.std.proofs.Common.{map, slice_get, reverse, position, Option, Some, None, Result, Ok, Err, ◌⊎◌, refl, sym}
use Rattle.std.proofs.Common.{ap, subst, ◌∙◌, arith}
use Rattle.std.proofs.lemmas.List.{length_push, reverse-append, length-map, map-append}
use Rattle.std.proofs.lemmas.Bool.{cases_lt, false≢true}
use Rattle.std.proofs.lemmas.Option.{slice_get_within, same_Some, none-some}
use Rattle.std.proofs.lemmas.Map.{none_passes_from_lookup}
use Rattle.std.specs.Option.{option_map}
use Rattle.std.specs.Map.{keys_of, values_of, lookup}
use Rattle.tt_kinds.specs.declared.table.Table.{Table}
use Rattle.tt_kinds.specs.declared.table.Table.TheVariants.{Types, Consts, Patterns, Predicates, Existentials}
use Rattle.tt_kinds.specs.declared.table.Table.TheVariants.{ClauseLists, TypeLists, ConstLists, ArgLists, PatternLists}
use Rattle.tt_kinds.specs.declared.table.Table.TheVariants.{VarLists, ExistentialLists, AssumptionLists, Symbols}
use Rattle.tt_kinds.specs.declared.table.Table.TheVariants.{Declarations, Definitions}
use Rattle.tt_flags.specs.FlagComputation.{computed}
use Rattle.tt_flags.specs.declared.flag_computation.FlagComputation.{FlagComputation}
use Rattle.tt_kinds.specs.Tree.{Tree, Depth}
use Rattle.tt_index.specs.declared.refusal.Refusal.{Refusal}
use Rattle.tt_index.specs.declared.refusal.Refusal.TheVariants.{Memory, TableFull}
use Rattle.tt_kinds.specs.Label.{clause_list_label, list_label, var_list_label, text_label}
use Rattle.tt_kinds.specs.Shape.{none, fill, HasParts}
use Rattle.tt_kinds.specs.Range.{IndicesFitIn}
use Rattle.tt_interner.specs.Rows.{Row, clauses_row, tys_row, consts_row, args_row, pats_row, vars_row}
use Rattle.tt_interner.specs.Rows.{existentials_row, assumptions_row, text_row, row_table, row_shape, is_in, table}
use Rattle.tt_interner.specs.Rows.{size, meaning, IsNew, IsWellFormed, AreRows}
use Rattle.tt_interner.specs.Stored.{Terms, Counters, Adds, IsInfo, HasFirst, IsAt, first_rows, anonymous_text}
use Rattle.tt_interner.specs.Info.{keeps_info}
use Rattle.std.specs.Prelude.{IsTrue}
use Rattle.tt_interner.specs.Tables.{TableEntry, Tables, table_entries, with_entries, push, rows_of, infos_of}
use Rattle.tt_interner.specs.Tables.{reversed_tables, merged}
use Rattle.tt_interner.specs.Tables.{rows_in_order, entries_by, listed_by, AreInfos, AreTables, Keeps, no_info}
use Rattle.tt_interner.proofs.RowLaws.{in_table, is_in_own, table-other, table-new, meaning-old, meaning-new}
use Rattle.tt_interner.proofs.RowLaws.{slice_get-push_before, slice_get-push_last, row-old}
use Rattle.tt_interner.proofs.InfoLaws.{info_node, info_term, infos_none}
use Rattle.tt_interner.proofs.StoreSteps.{Adds-ok, Adds-err}
use Rattle.tt_interner.proofs.Trees.{Means-row}
use Rattle.tt_interner.proofs.FoundLaws.{no_value, value_place, slice_get-rows, IsKey, found_row, new_row, absent_row}
use Rattle.tt_interner.proofs.FoundLaws.{IsNew-from_table, IsNew-table}
use Rattle.tt_index.specs.Greatest.{greatest}

-- The only lemmas with a line for each table.

-- the last entry of the tables that are reversed is the first
reversed_tables-push : (t : Table) (e : TableEntry) (ts : Tables) → reversed_tables (push t e ts) ≡ with_entries (reversed_tables ts) t (e ∷ table_entries (reversed_tables ts) t)
reversed_tables-push Types e ts = rw (reverse-append ts.types (e ∷ [])) refl
reversed_tables-push Consts e ts = rw (reverse-append ts.consts (e ∷ [])) refl
reversed_tables-push Patterns e ts = rw (reverse-append ts.patterns (e ∷ [])) refl
reversed_tables-push Predicates e ts = rw (reverse-append ts.predicates (e ∷ [])) refl
reversed_tables-push Existentials e ts = rw (reverse-append ts.existentials (e ∷ [])) refl
reversed_tables-push ClauseLists e ts = rw (reverse-append ts.clause_lists (e ∷ [])) refl
reversed_tables-push TypeLists e ts = rw (reverse-append ts.type_lists (e ∷ [])) refl
reversed_tables-push ConstLists e ts = rw (reverse-append ts.const_lists (e ∷ [])) refl
reversed_tables-push ArgLists e ts = rw (reverse-append ts.arg_lists (e ∷ [])) refl
reversed_tables-push PatternLists e ts = rw (reverse-append ts.pattern_lists (e ∷ [])) refl
reversed_tables-push VarLists e ts = rw (reverse-append ts.var_lists (e ∷ [])) refl
reversed_tables-push ExistentialLists e ts = rw (reverse-append ts.existential_lists (e ∷ [])) refl
reversed_tables-push AssumptionLists e ts = rw (reverse-append ts.assumption_lists (e ∷ [])) refl
reversed_tables-push Symbols e ts = rw (reverse-append ts.symbols (e ∷ [])) refl
reversed_tables-push Declarations e ts = rw (reverse-append ts.declarations (e ∷ [])) refl
reversed_tables-push Definitions e ts = rw (reverse-append ts.definitions (e ∷ [])) refl

-- and the other tables are those before it
merged-push : (t : Table) (e : TableEntry) (order : List Table) (ts : Tables) → merged (t ∷ order) (with_entries ts t (e ∷ table_entries ts t)) ≡ e.row ∷ merged order ts
unfolding merged
merged-push Types e order ts = refl
merged-push Consts e order ts = refl
merged-push Patterns e order ts = refl
merged-push Predicates e order ts = refl
merged-push Existentials e order ts = refl
merged-push ClauseLists e order ts = refl
merged-push TypeLists e order ts = refl
merged-push ConstLists e order ts = refl
merged-push ArgLists e order ts = refl
merged-push PatternLists e order ts = refl
merged-push VarLists e order ts = refl
merged-push ExistentialLists e order ts = refl
merged-push AssumptionLists e order ts = refl
merged-push Symbols e order ts = refl
merged-push Declarations e order ts = refl
merged-push Definitions e order ts = refl

table_entries-push : (t : Table) (e : TableEntry) (ts : Tables) → table_entries (push t e ts) t ≡ table_entries ts t ++ e ∷ []
table_entries-push Types e ts = refl
table_entries-push Consts e ts = refl
table_entries-push Patterns e ts = refl
table_entries-push Predicates e ts = refl
table_entries-push Existentials e ts = refl
table_entries-push ClauseLists e ts = refl
table_entries-push TypeLists e ts = refl
table_entries-push ConstLists e ts = refl
table_entries-push ArgLists e ts = refl
table_entries-push PatternLists e ts = refl
table_entries-push VarLists e ts = refl
table_entries-push ExistentialLists e ts = refl
table_entries-push AssumptionLists e ts = refl
table_entries-push Symbols e ts = refl
table_entries-push Declarations e ts = refl
table_entries-push Definitions e ts = refl

-- a new entry of one table leaves the entries of every other table as they are
pub table_entries-other : (t u : Table) (e : TableEntry) (ts : Tables) → (t ≡ u → ⊥) → table_entries (push t e ts) u ≡ table_entries ts u
table_entries-other Types Types e ts apart = absurd (apart refl)
table_entries-other Consts Consts e ts apart = absurd (apart refl)
table_entries-other Patterns Patterns e ts apart = absurd (apart refl)
table_entries-other Predicates Predicates e ts apart = absurd (apart refl)
table_entries-other Existentials Existentials e ts apart = absurd (apart refl)
table_entries-other ClauseLists ClauseLists e ts apart = absurd (apart refl)
table_entries-other TypeLists TypeLists e ts apart = absurd (apart refl)
table_entries-other ConstLists ConstLists e ts apart = absurd (apart refl)
table_entries-other ArgLists ArgLists e ts apart = absurd (apart refl)
table_entries-other PatternLists PatternLists e ts apart = absurd (apart refl)
table_entries-other VarLists VarLists e ts apart = absurd (apart refl)
table_entries-other ExistentialLists ExistentialLists e ts apart = absurd (apart refl)
table_entries-other AssumptionLists AssumptionLists e ts apart = absurd (apart refl)
table_entries-other Symbols Symbols e ts apart = absurd (apart refl)
table_entries-other Declarations Declarations e ts apart = absurd (apart refl)
table_entries-other Definitions Definitions e ts apart = absurd (apart refl)
table_entries-other _ _ e ts apart = refl

-- From here on no lemma names a table.

-- the new entry's row is the newest
pub rows_in_order-push : (order : List Table) (t : Table) (e : TableEntry) (ts : Tables) → rows_in_order (order ++ t ∷ []) (push t e ts) ≡ e.row ∷ rows_in_order order ts
unfolding rows_in_order
rows_in_order-push order t e ts = rw (reverse-append order (t ∷ []), reversed_tables-push t e ts) (merged-push t e (reverse order) (reversed_tables ts))

-- the infos of a table without the new row
AreInfos-other : (r : Row) (rows : List Row) (t : Table) (infos : List FlagComputation) → size (r ∷ rows) t ≡ size rows t → AreInfos rows t infos → AreInfos (r ∷ rows) t infos
AreInfos-other r rows t infos same are = record {
  as_many = are.as_many ∙ sym same;
  each = λ n info e. subst (IsInfo info) (sym (meaning-old r rows t n (let within = slice_get_within infos n info e in let many = are.as_many in omega arith))) (are.each n info e);
}

-- the infos of its table
AreInfos-own : (r : Row) (rows : List Row) (infos : List FlagComputation) (info : FlagComputation) → size (r ∷ rows) (row_table r) ≡ size rows (row_table r) + 1
    → IsInfo info (fill (meaning rows) (row_shape r)) → AreInfos rows (row_table r) infos → AreInfos (r ∷ rows) (row_table r) (infos ++ info ∷ [])
AreInfos-own r rows infos info more is are = record {
  as_many = length_push infos info ∙ ap (λ n. n + 1) are.as_many ∙ sym more;
  each = λ n i e. ⊎_elim
      (λ before. subst (IsInfo i) (sym (meaning-old r rows (row_table r) n (let many = are.as_many in omega arith)))
      (are.each n i (sym (slice_get-push_before infos info n before) ∙ e)))
      (λ past.
      let within = slice_get_within (infos ++ info ∷ []) n i e in
      let last : n ≡ length infos = omega (arith, length_push infos info) in
      let there = ap (slice_get (infos ++ info ∷ [])) last ∙ slice_get-push_last infos info in
      subst (λ j. IsInfo j (meaning (r ∷ rows) (row_table r) n)) (same_Some info i (sym there ∙ e))
      (subst (IsInfo info) (sym (ap (meaning (r ∷ rows) (row_table r)) (last ∙ are.as_many) ∙ meaning-new r rows)) is))
      (cases_lt n (length infos));
}

-- how many rows a table has, once the row r came
pub size_own : (r : Row) (rows : List Row) → size (r ∷ rows) (row_table r) ≡ size rows (row_table r) + 1
size_own r rows = ap length (table-new r rows) ∙ length_push (table (row_table r) rows) r

-- a row that isn't in a table has another table
pub apart : (t : Table) (r : Row) → is_in t r ≡ false → row_table r ≡ t → ⊥
apart t r is same = false≢true (sym is ∙ sym (ap (λ u. is_in u r) same) ∙ is_in_own r)

-- in each table: the row's own or another
pub by_table : (r : Row) (P : Table → Type 0) → P (row_table r) → ((t : Table) → is_in t r ≡ false → P t) → (t : Table) → P t
by_table r P own other t = by (is_in t r) refl
  where
    by : (b : Bool) → is_in t r ≡ b → P t
    by true is = subst P (in_table t r is) own
    by false is = other t is

-- the row of a new entry is the last of its table's rows
pub rows_of-push : (t : Table) (e : TableEntry) (ts : Tables) → rows_of (push t e ts) t ≡ rows_of ts t ++ e.row ∷ []
rows_of-push t e ts = ap (map (λ (x : TableEntry). x.row)) (table_entries-push t e ts) ∙ map-append (λ (x : TableEntry). x.row) (table_entries ts t) (e ∷ [])

-- the cached information of a new entry is the last of its table's
pub infos_of-push : (t : Table) (e : TableEntry) (ts : Tables) → infos_of (push t e ts) t ≡ infos_of ts t ++ e.info ∷ []
infos_of-push t e ts = ap (map (λ (x : TableEntry). x.info)) (table_entries-push t e ts) ∙ map-append (λ (x : TableEntry). x.info) (table_entries ts t) (e ∷ [])

-- the tables with a new entry
pub AreTables-push : (rows : List Row) (ts : Tables) (limit : ℕ) (e : TableEntry) → AreTables rows ts limit
    → HasParts (size rows) (row_shape e.row) → IndicesFitIn (row_shape e.row) → IsWellFormed rows e.row → IsNew e.row rows → size rows (row_table e.row) < limit → (IsTrue (keeps_info (row_table e.row)) → IsInfo e.info (fill (meaning rows) (row_shape e.row)))
    → AreTables (e.row ∷ rows) (push (row_table e.row) e ts) limit
unfolding AreRows
AreTables-push rows ts limit e are parts fit holds new room is = let r = e.row in let own = row_table e.row in record {
  are = (parts, new, fit, holds, are.are);
  has = by_table r (λ t. table t (r ∷ rows) ≡ rows_of (push own e ts) t)
      (table-new r rows ∙ ap (λ l. l ++ r ∷ []) (are.has own) ∙ sym (rows_of-push own e ts))
      (λ t other. table-other r rows t other ∙ are.has t ∙ ap (map (λ (x : TableEntry). x.row)) (sym (table_entries-other own t e ts (apart t r other))));
  infos = by_table r (λ t. IsTrue (keeps_info t) → AreInfos (r ∷ rows) t (infos_of (push own e ts) t))
      (λ keeps. subst (AreInfos (r ∷ rows) own) (sym (infos_of-push own e ts)) (AreInfos-own r rows (infos_of ts own) e.info (size_own r rows) (is keeps) (are.infos own keeps)))
      (λ t other keeps. subst (λ es. AreInfos (r ∷ rows) t (map (λ (x : TableEntry). x.info) es)) (sym (table_entries-other own t e ts (apart t r other)))
      (AreInfos-other r rows t (infos_of ts t) (ap length (table-other r rows t other)) (are.infos t keeps)));
  within = by_table r (λ t. size (r ∷ rows) t ≤ limit)
      (let more = size_own r rows in omega arith)
      (λ t other. let same = ap length (table-other r rows t other) in let few = are.within t in omega arith);
  small = are.small;
}

-- a table that a map keeps: the entries' rows are the keys' rows
module _ {K V : Type 0} (rows : List Row) (ts : Tables) (limit : ℕ) (are : AreTables rows ts limit)
    (t : Table) (row : K → Row) (info : V → FlagComputation) (es : List (K × V)) (is : table_entries ts t ≡ entries_by row info es) where
  has_rows : table t rows ≡ map (λ (x : TableEntry). x.row) (entries_by row info es)
  has_rows = are.has t ∙ ap (map (λ (x : TableEntry). x.row)) is

  -- a map has as many entries as its table has rows
  pub count : length es ≡ size rows t
  count = sym (ap length has_rows ∙ length-map (entries_by row info es) (λ (x : TableEntry). x.row) ∙ length-map es (λ e. record { row = row e.0; info = info e.1 }))

  -- an entry's number is a handle's
  pub fits : (n : ℕ) → n < length es → n < 4294967296
  fits n h = let many = count in let few = are.within t in let small = are.small in omega arith

  module _ (test : K → Bool) (r : Row) (own : row_table r ≡ t) (key : IsKey test row r) where
    -- the row of a key that is found at a place has that place as its number
    pub found : (n : ℕ) → position test (keys_of es) ≡ Some n → IsAt rows r n
    found n e = subst (λ u. slice_get (table u rows) n ≡ Some r) (sym own) (ap (λ l. slice_get l n) has_rows ∙ found_row test row info r key es n e)

    -- the row of a key that isn't found is new
    pub absent : lookup test es ≡ None → IsNew r rows
    absent e = IsNew-from_table r rows (subst (λ u. IsNew r (table u rows)) (sym own) (subst (IsNew r) (sym has_rows) (new_row test row info r key es (none_passes_from_lookup test es e))))

    -- the key of a new row isn't found
    pub not_there : IsNew r rows → lookup test es ≡ None
    not_there new = absent_row test row info r key es (subst (IsNew r) has_rows (IsNew-table r rows t new))

    -- the row is there, or it is new
    pub found_or_absent : {P : Type 0} → ((n : ℕ) → position test (keys_of es) ≡ Some n → IsAt rows r n → P) → (position test (keys_of es) ≡ None → IsNew r rows → P) → P
    found_or_absent {P} there new = by (position test (keys_of es)) refl
      where
        by : (p : Option ℕ) → position test (keys_of es) ≡ p → P
        by (Some n) place = there n place (found n place)
        by None nowhere = new nowhere (absent (no_value test es nowhere))

  -- the row of a key
  pub key_row : (n : ℕ) (k : K) → row_table (row k) ≡ t → slice_get (keys_of es) n ≡ Some k → IsAt rows (row k) n
  key_row n k own e = subst (λ u. slice_get (table u rows) n ≡ Some (row k)) (sym own) (ap (λ l. slice_get l n) has_rows ∙ slice_get-rows row info es n ∙ ap (option_map row) e)

-- the info of an entry
slice_get-infos : {K : Type 0} (row : K → Row) (es : List (K × FlagComputation)) (i : ℕ) → slice_get (map (λ (x : TableEntry). x.info) (entries_by row (λ v. v) es)) i ≡ slice_get (values_of es) i
slice_get-infos row [] i = refl
slice_get-infos row (e ∷ es) zero = refl
slice_get-infos row (e ∷ es) (suc i) = slice_get-infos row es i

-- where a table keeps cached information, each entry has the information of its row's tree
pub info_within : {K : Type 0} (rows : List Row) (ts : Tables) (limit : ℕ) → AreTables rows ts limit → (t : Table) (row : K → Row) (es : List (K × FlagComputation)) → table_entries ts t ≡ entries_by row (λ v. v) es
    → IsTrue (keeps_info t) → (n : ℕ) (i : FlagComputation) → slice_get (values_of es) n ≡ Some i → IsInfo i (meaning rows t n)
info_within rows ts limit are t row es is keeps n i e =
    (are.infos t keeps).each n i (ap (λ l. slice_get (map (λ (x : TableEntry). x.info) l) n) is ∙ slice_get-infos row es n ∙ e)

-- there is one info of a tree
info_same : (a b : FlagComputation) (t : Tree Depth) → IsInfo a t → IsInfo b t → a ≡ b
info_same a b t x y = ap (λ n. computed n a.outer_exclusive_binder) (x.flags ∙ sym y.flags) ∙ ap (computed b.flags.bits) (x.outer ∙ sym y.outer)

-- what is kept beside a kind that is there is its info
pub same_info : {K : Type 0} (rows : List Row) (ts : Tables) (limit : ℕ) → AreTables rows ts limit → (t : Table) (row : K → Row) (es : List (K × FlagComputation)) → table_entries ts t ≡ entries_by row (λ v. v) es → IsTrue (keeps_info t)
    → (test : K → Bool) (r : Row) → row_table r ≡ t → IsKey test row r → (v i : FlagComputation) → lookup test es ≡ Some v → IsInfo i (fill (meaning rows) (row_shape r)) → v ≡ i
same_info rows ts limit are t row es is keeps test r own key v i h info =
    let place = value_place test es v h in
    let at = found rows ts limit are t row (λ x. x) es is test r own key place.0 place.1 in
    let kept = info_within rows ts limit are t row es is keeps place.0 v place.2 in
    let means = (Means-row rows are.are (row_table r) place.0 r at).tree in
    info_same v i (meaning rows t place.0) kept (subst (IsInfo i) (sym means ∙ ap (λ u. meaning rows u place.0) own) info)

-- one entry more
pub entries_by-push : {K V : Type 0} (row : K → Row) (info : V → FlagComputation) (es : List (K × V)) (k : K) (v : V) → entries_by row info (es ++ (k, v) ∷ []) ≡ entries_by row info es ++ (record { row = row k; info = info v }) ∷ []
entries_by-push row info es k v = map-append (λ e. record { row = row e.0; info = info e.1 }) es ((k, v) ∷ [])

entries_by-listed : {K X V : Type 0} (hold : K → X) (row : X → Row) (info : V → FlagComputation) (es : List (K × V)) → entries_by (λ k. row (hold k)) info es ≡ entries_by row info (listed_by hold es)
entries_by-listed hold row info [] = refl
entries_by-listed hold row info (e ∷ es) = ap (λ l. (record { row = row (hold e.0); info = info e.1 }) ∷ l) (entries_by-listed hold row info es)

-- one key more, listed by what it holds
pub listed_by-push : {K X V : Type 0} (hold : K → X) (es es' : List (K × V)) (k : K) (v : V) (x : X) → hold k ≡ x → es' ≡ es ++ (k, v) ∷ []
    → listed_by hold es' ≡ listed_by hold es ++ (x, v) ∷ []
listed_by-push hold es es' k v x held e =
    ap (listed_by hold) e ∙ map-append (λ e. (hold e.0, e.1)) es ((k, v) ∷ []) ∙ ap (λ y. listed_by hold es ++ (y, v) ∷ []) held

-- one list more
pub entries_by-added : {K X V : Type 0} (hold : K → X) (row : X → Row) (info : V → FlagComputation) (es es' : List (K × V)) (x : X) (v : V) → listed_by hold es' ≡ listed_by hold es ++ (x, v) ∷ []
    → entries_by (λ k. row (hold k)) info es' ≡ entries_by (λ k. row (hold k)) info es ++ (record { row = row x; info = info v }) ∷ []
entries_by-added hold row info es es' x v e =
    entries_by-listed hold row info es' ∙ ap (entries_by row info) e ∙ entries_by-push row info (listed_by hold es) x v
    ∙ ap (λ l. l ++ (record { row = row x; info = info v }) ∷ []) (sym (entries_by-listed hold row info es))

-- What a model owes and tells once an entry was added.
module _ (order : List Table) (ts ts' : Tables) (e : TableEntry) (is : ts' ≡ push (row_table e.row) e ts) where
  pub rows_added : rows_in_order (order ++ row_table e.row ∷ []) ts' ≡ e.row ∷ rows_in_order order ts
  rows_added = ap (rows_in_order (order ++ row_table e.row ∷ [])) is ∙ rows_in_order-push order (row_table e.row) e ts

  pub AreTables-added : (limit : ℕ) → AreTables (rows_in_order order ts) ts limit → HasParts (size (rows_in_order order ts)) (row_shape e.row) → IndicesFitIn (row_shape e.row)
      → IsWellFormed (rows_in_order order ts) e.row → IsNew e.row (rows_in_order order ts) → size (rows_in_order order ts) (row_table e.row) < limit → (IsTrue (keeps_info (row_table e.row)) → IsInfo e.info (fill (meaning (rows_in_order order ts)) (row_shape e.row)))
      → AreTables (rows_in_order (order ++ row_table e.row ∷ []) ts') ts' limit
  AreTables-added limit are parts fit holds new room info = rw (rows_added, is) (AreTables-push (rows_in_order order ts) ts limit e are parts fit holds new room info)

-- What a building call owes, by what its value was.
module _ (order order' : List Table) (ts ts' : Tables) (limit : ℕ) (counters : Counters) (old : Terms) (view_is : record { rows = rows_in_order order ts; limit = limit; counters = counters } ≡ old) (keeps : Keeps order ts limit) where
  module _ (e : TableEntry) (is : ts' ≡ push (row_table e.row) e ts) (noted : order' ≡ order ++ row_table e.row ∷ []) (n : ℕ) (last : n ≡ size (rows_in_order order ts) (row_table e.row)) (room : n < limit) where
    -- the information is right where the table keeps any
    pub kept_by : HasParts (size old.rows) (row_shape e.row) → IndicesFitIn (row_shape e.row) → IsWellFormed old.rows e.row → IsNew e.row old.rows → (IsTrue (keeps_info (row_table e.row)) → IsInfo e.info (fill (meaning old.rows) (row_shape e.row))) → Keeps order' ts' limit
    kept_by parts fit holds new info = record {
      tables = rw noted (AreTables-added order ts ts' e is limit keeps.tables
          (subst (λ (v : Terms). HasParts (size v.rows) (row_shape e.row)) (sym view_is) parts) fit
          (subst (λ (v : Terms). IsWellFormed v.rows e.row) (sym view_is) holds)
          (subst (λ (v : Terms). IsNew e.row v.rows) (sym view_is) new)
          (omega arith)
          (λ keeps_its. subst (λ (v : Terms). IsInfo e.info (fill (meaning v.rows) (row_shape e.row))) (sym view_is) (info keeps_its)));
      first = (e.row ∷ keeps.first.0, ap (λ o. rows_in_order o ts') noted ∙ rows_added order ts ts' e is ∙ ap (λ rows. e.row ∷ rows) keeps.first.1);
    }

    -- if a new row that is well formed is added with the right information, the fields agree afterwards
    pub kept : HasParts (size old.rows) (row_shape e.row) → IndicesFitIn (row_shape e.row) → IsWellFormed old.rows e.row → IsNew e.row old.rows → IsInfo e.info (fill (meaning old.rows) (row_shape e.row)) → Keeps order' ts' limit
    kept parts fit holds new info = kept_by parts fit holds new (λ keeps. info)

    -- the row of the added entry is the last of its table
    pub added : {H : Type 0} (number : H → ℕ) (h : H) → number h ≡ n → Adds (Ok h) number old (record { rows = rows_in_order order' ts'; limit = limit; counters = counters }) e.row
    added number h same = rw (← view_is) (Adds-ok number (record { rows = rows_in_order order ts; limit = limit; counters = counters }) e.row h (record { rows = rows_in_order order' ts'; limit = limit; counters = counters })
        (ap (λ o. rows_in_order o ts') noted ∙ rows_added order ts ts' e is) (same ∙ last) (omega arith) refl refl)

  -- if the order and the tables are the same, so is what contracts see
  pub unchanged : (order' ≡ order) → ts' ≡ ts → record { rows = rows_in_order order' ts'; limit = limit; counters = counters } ≡ old
  unchanged same_order same = rw (same_order, same) view_is

  -- if the order and the tables are the same, the fields still agree
  pub still_kept : (order' ≡ order) → ts' ≡ ts → Keeps order' ts' limit
  still_kept same_order same = rw (same_order, same) keeps

  -- if nothing changed, a refusal for want of memory or with a full table is one of adding the row
  pub refused : (order' ≡ order) → ts' ≡ ts → {H G : Type 0} (number : H → ℕ) (r : Row) (result : Result G Refusal) (e : Refusal) (count : ℕ) → result ≡ Err e → count ≡ size (rows_in_order order ts) (row_table r)
      → (e ≡ Memory) ⊎ ((e ≡ TableFull) × (limit ≤ count)) → (limit ≤ count → result ≡ Err TableFull) → IsNew r old.rows → Adds (Err e) number old (record { rows = rows_in_order order' ts'; limit = limit; counters = counters }) r
  refused same_order same number r result e count is counts cause full new =
      rw (← view_is, same_order, same) (Adds-err number (record { rows = rows_in_order order ts; limit = limit; counters = counters }) r result e count is counts cause full
      (subst (λ (v : Terms). IsNew r v.rows) (sym view_is) new))

-- The rows from the start.

abbrev no_tables : Tables
no_tables = record {
  types = [];
  consts = [];
  patterns = [];
  predicates = [];
  existentials = [];
  clause_lists = [];
  type_lists = [];
  const_lists = [];
  arg_lists = [];
  pattern_lists = [];
  var_lists = [];
  existential_lists = [];
  assumption_lists = [];
  symbols = [];
  declarations = [];
  definitions = [];
}

AreTables-none : (limit : ℕ) → limit ≤ greatest → AreTables [] no_tables limit
unfolding table AreRows
AreTables-none limit small = record {
  are = tt;
  has = λ t. none_of t;
  infos = λ t keeps. record { as_many = ap length (infos_of_none t); each = λ n info e. absurd (none-some info (ap (λ l. slice_get l n) (sym (infos_of_none t)) ∙ e)) };
  within = λ t. omega arith;
  small = small;
}
  where
    none_of : (t : Table) → [] ≡ rows_of no_tables t
    none_of Types = refl
    none_of Consts = refl
    none_of Patterns = refl
    none_of Predicates = refl
    none_of Existentials = refl
    none_of ClauseLists = refl
    none_of TypeLists = refl
    none_of ConstLists = refl
    none_of ArgLists = refl
    none_of PatternLists = refl
    none_of VarLists = refl
    none_of ExistentialLists = refl
    none_of AssumptionLists = refl
    none_of Symbols = refl
    none_of Declarations = refl
    none_of Definitions = refl

    infos_of_none : (t : Table) → infos_of no_tables t ≡ []
    infos_of_none Types = refl
    infos_of_none Consts = refl
    infos_of_none Patterns = refl
    infos_of_none Predicates = refl
    infos_of_none Existentials = refl
    infos_of_none ClauseLists = refl
    infos_of_none TypeLists = refl
    infos_of_none ConstLists = refl
    infos_of_none ArgLists = refl
    infos_of_none PatternLists = refl
    infos_of_none VarLists = refl
    infos_of_none ExistentialLists = refl
    infos_of_none AssumptionLists = refl
    infos_of_none Symbols = refl
    infos_of_none Declarations = refl
    infos_of_none Definitions = refl

abbrev pub first_of : Row → TableEntry
first_of r = record { row = r; info = no_info }

abbrev pub first_tables : Tables
first_tables = record {
  types = [];
  consts = [];
  patterns = [];
  predicates = [];
  existentials = [];
  clause_lists = first_of (clauses_row []) ∷ [];
  type_lists = first_of (tys_row []) ∷ [];
  const_lists = first_of (consts_row []) ∷ [];
  arg_lists = first_of (args_row []) ∷ [];
  pattern_lists = first_of (pats_row []) ∷ [];
  var_lists = first_of (vars_row []) ∷ [];
  existential_lists = first_of (existentials_row []) ∷ [];
  assumption_lists = first_of (assumptions_row []) ∷ [];
  symbols = first_of (text_row anonymous_text) ∷ [];
  declarations = [];
  definitions = [];
}

abbrev pub first_order : List Table
first_order = TypeLists ∷ ArgLists ∷ VarLists ∷ ConstLists ∷ PatternLists ∷ ClauseLists ∷ ExistentialLists ∷ AssumptionLists ∷ Symbols ∷ []

rows_first : rows_in_order first_order first_tables ≡ first_rows
unfolding rows_in_order merged
rows_first = refl

AreTables-first : (limit : ℕ) → 0 < limit → limit ≤ greatest → AreTables first_rows first_tables limit
unfolding table IsNew
AreTables-first limit some small =
    let before = AreTables-none limit small in
    let tys = AreTables-push [] no_tables limit (first_of (tys_row [])) before (tt, tt) tt tt tt some
    (λ keeps. info_node (meaning []) no_info (list_label TypeLists) refl) in
    let args = AreTables-push (tys_row [] ∷ []) _ limit (first_of (args_row [])) tys (tt, tt) tt tt ((λ e. cc), tt) some
    (λ keeps. info_node (meaning (tys_row [] ∷ [])) no_info (list_label ArgLists) refl) in
    let vars = AreTables-push (args_row [] ∷ tys_row [] ∷ []) _ limit (first_of (vars_row [])) args (tt, tt) tt tt ((λ e. cc), ((λ e. cc), tt)) some
    (λ keeps. info_node (meaning (args_row [] ∷ tys_row [] ∷ [])) no_info (var_list_label []) refl) in
    let consts = AreTables-push (vars_row [] ∷ args_row [] ∷ tys_row [] ∷ []) _ limit (first_of (consts_row [])) vars (tt, tt) tt tt ((λ e. cc), ((λ e. cc), ((λ e. cc), tt))) some
    (λ keeps. info_node (meaning (vars_row [] ∷ args_row [] ∷ tys_row [] ∷ [])) no_info (list_label ConstLists) refl) in
    let pats = AreTables-push (consts_row [] ∷ vars_row [] ∷ args_row [] ∷ tys_row [] ∷ []) _ limit (first_of (pats_row [])) consts (tt, tt) tt tt ((λ e. cc), ((λ e. cc), ((λ e. cc), ((λ e. cc), tt)))) some
    (λ keeps. info_node (meaning (consts_row [] ∷ vars_row [] ∷ args_row [] ∷ tys_row [] ∷ [])) no_info (list_label PatternLists) refl) in
    let clauses = AreTables-push (pats_row [] ∷ consts_row [] ∷ vars_row [] ∷ args_row [] ∷ tys_row [] ∷ []) _ limit (first_of (clauses_row [])) pats (tt, tt) tt tt ((λ e. cc), ((λ e. cc), ((λ e. cc), ((λ e. cc), ((λ e. cc), tt))))) some
    (λ keeps. info_term (meaning (pats_row [] ∷ consts_row [] ∷ vars_row [] ∷ args_row [] ∷ tys_row [] ∷ [])) no_info clause_list_label none refl (infos_none _)) in
    let existentials = AreTables-push (clauses_row [] ∷ pats_row [] ∷ consts_row [] ∷ vars_row [] ∷ args_row [] ∷ tys_row [] ∷ []) _ limit (first_of (existentials_row [])) clauses (tt, tt) tt tt ((λ e. cc), ((λ e. cc), ((λ e. cc), ((λ e. cc), ((λ e. cc), ((λ e. cc), tt)))))) some
    (λ keeps. info_node (meaning (clauses_row [] ∷ pats_row [] ∷ consts_row [] ∷ vars_row [] ∷ args_row [] ∷ tys_row [] ∷ [])) no_info (list_label ExistentialLists) refl) in
    let assumptions = AreTables-push (existentials_row [] ∷ clauses_row [] ∷ pats_row [] ∷ consts_row [] ∷ vars_row [] ∷ args_row [] ∷ tys_row [] ∷ []) _ limit (first_of (assumptions_row [])) existentials (tt, tt) tt tt ((λ e. cc), ((λ e. cc), ((λ e. cc), ((λ e. cc), ((λ e. cc), ((λ e. cc), ((λ e. cc), tt))))))) some
    (λ keeps. info_node (meaning (existentials_row [] ∷ clauses_row [] ∷ pats_row [] ∷ consts_row [] ∷ vars_row [] ∷ args_row [] ∷ tys_row [] ∷ [])) no_info (list_label AssumptionLists) refl) in
    AreTables-push (assumptions_row [] ∷ existentials_row [] ∷ clauses_row [] ∷ pats_row [] ∷ consts_row [] ∷ vars_row [] ∷ args_row [] ∷ tys_row [] ∷ []) _ limit (first_of (text_row anonymous_text)) assumptions (tt, tt) tt tt ((λ e. cc), ((λ e. cc), ((λ e. cc), ((λ e. cc), ((λ e. cc), ((λ e. cc), ((λ e. cc), ((λ e. cc), tt)))))))) some
    (λ keeps. info_node (meaning (assumptions_row [] ∷ existentials_row [] ∷ clauses_row [] ∷ pats_row [] ∷ consts_row [] ∷ vars_row [] ∷ args_row [] ∷ tys_row [] ∷ [])) no_info (text_label anonymous_text) refl)

-- the tables of a new interner are kept, under any limit from 1 to the greatest index
pub Keeps-first : (order : List Table) (ts : Tables) (limit : ℕ) → order ≡ first_order → ts ≡ first_tables → 0 < limit → limit ≤ greatest → Keeps order ts limit
Keeps-first order ts limit is_order is_ts some small = rw (is_order, is_ts) (record {
  tables = subst (λ rows. AreTables rows first_tables limit) (sym rows_first) (AreTables-first limit some small);
  first = ([], rows_first);
})

-- the tables of a new interner, in its order, make the rows of a new interner
pub rows_are_first : (order : List Table) (ts : Tables) → order ≡ first_order → ts ≡ first_tables → rows_in_order order ts ≡ first_rows
rows_are_first order ts is_order is_ts = rw (is_order, is_ts) rows_first

-- one entry
pub entries_by-first : {K X V : Type 0} (hold : K → X) (row : X → Row) (info : V → FlagComputation) (es : List (K × V)) (x : X) (v : V) → listed_by hold es ≡ (x, v) ∷ []
    → entries_by (λ k. row (hold k)) info es ≡ (record { row = row x; info = info v }) ∷ []
entries_by-first hold row info es x v e = entries_by-listed hold row info es ∙ ap (entries_by row info) e

-- a row keeps its number
IsAt-added : (added rows : List Row) (r : Row) (n : ℕ) → IsAt rows r n → IsAt (added ++ rows) r n
IsAt-added [] rows r n at = at
IsAt-added (q ∷ added) rows r n at =
    let before = IsAt-added added rows r n at in
    row-old q (added ++ rows) (row_table r) n (slice_get_within (table (row_table r) (added ++ rows)) n r before) ∙ before

-- tables that are kept have the rows that the defaults of the handles name
pub has_first : (order : List Table) (ts : Tables) (limit : ℕ) → Keeps order ts limit → HasFirst (rows_in_order order ts)
unfolding table
has_first order ts limit keeps = subst HasFirst (sym keeps.first.1) (record {
  types = IsAt-added keeps.first.0 first_rows (tys_row []) 0 refl;
  args = IsAt-added keeps.first.0 first_rows (args_row []) 0 refl;
  vars = IsAt-added keeps.first.0 first_rows (vars_row []) 0 refl;
  consts = IsAt-added keeps.first.0 first_rows (consts_row []) 0 refl;
  pats = IsAt-added keeps.first.0 first_rows (pats_row []) 0 refl;
  clauses = IsAt-added keeps.first.0 first_rows (clauses_row []) 0 refl;
  existentials = IsAt-added keeps.first.0 first_rows (existentials_row []) 0 refl;
  assumptions = IsAt-added keeps.first.0 first_rows (assumptions_row []) 0 refl;
  text = IsAt-added keeps.first.0 first_rows (text_row anonymous_text) 0 refl;
})

-- the tables whose maps have their first rows
pub record HaveFirst (ts : Tables) : Type 0 where
  pub types : ts.types ≡ []
  pub consts : ts.consts ≡ []
  pub patterns : ts.patterns ≡ []
  pub predicates : ts.predicates ≡ []
  pub existentials : ts.existentials ≡ []
  pub type_lists : ts.type_lists ≡ first_of (tys_row []) ∷ []
  pub arg_lists : ts.arg_lists ≡ first_of (args_row []) ∷ []
  pub var_lists : ts.var_lists ≡ first_of (vars_row []) ∷ []
  pub const_lists : ts.const_lists ≡ first_of (consts_row []) ∷ []
  pub pattern_lists : ts.pattern_lists ≡ first_of (pats_row []) ∷ []
  pub clause_lists : ts.clause_lists ≡ first_of (clauses_row []) ∷ []
  pub existential_lists : ts.existential_lists ≡ first_of (existentials_row []) ∷ []
  pub symbols : ts.symbols ≡ first_of (text_row anonymous_text) ∷ []
  pub assumption_lists : ts.assumption_lists ≡ first_of (assumptions_row []) ∷ []
  pub declarations : ts.declarations ≡ []
  pub definitions : ts.definitions ≡ []

-- tables whose only entries are the first rows are the tables of a new interner
pub are_first_tables : (ts : Tables) → HaveFirst ts → ts ≡ first_tables
are_first_tables ts have = λ i. record {
  types = have.types i;
  consts = have.consts i;
  patterns = have.patterns i;
  predicates = have.predicates i;
  existentials = have.existentials i;
  clause_lists = have.clause_lists i;
  type_lists = have.type_lists i;
  const_lists = have.const_lists i;
  arg_lists = have.arg_lists i;
  pattern_lists = have.pattern_lists i;
  var_lists = have.var_lists i;
  existential_lists = have.existential_lists i;
  assumption_lists = have.assumption_lists i;
  symbols = have.symbols i;
  declarations = have.declarations i;
  definitions = have.definitions i;
}
