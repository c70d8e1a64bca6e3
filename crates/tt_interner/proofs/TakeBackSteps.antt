-- What the tables hold, once the newest existential predicates are taken back.
use Rattle.std.proofs.Common.{◌≡◌, ℕ, zero, suc, ◌+◌, ◌≤◌, List, [], ◌∷◌, ◌++◌, length, map, slice_get, reverse, take}
use Rattle.std.proofs.Common.{drop, Some, ◌⊎◌, inl, inr, refl, sym, ap, subst, ◌∙◌, arith}
use Rattle.std.proofs.lemmas.List.{length_push, length-map, length-reverse, map-append, reverse-append, same_from_push}
use Rattle.std.proofs.lemmas.List.{take-append-le, take-map}
use Rattle.std.proofs.lemmas.Option.{slice_get_within}
use Rattle.std.proofs.Math.Seq.{take-length}
use Rattle.tt_flags.specs.declared.flag_computation.FlagComputation.{FlagComputation}
use Rattle.tt_kinds.specs.declared.binder.Binder.{Binder}
use Rattle.tt_kinds.specs.declared.existential.ExistentialPredicate.{ExistentialPredicate}
use Rattle.tt_kinds.specs.declared.table.Table.{Table}
use Rattle.tt_kinds.specs.declared.table.Table.TheVariants.{Types, Consts, Patterns, Predicates, Existentials}
use Rattle.tt_kinds.specs.declared.table.Table.TheVariants.{ClauseLists, TypeLists, ConstLists, ArgLists, PatternLists}
use Rattle.tt_kinds.specs.declared.table.Table.TheVariants.{VarLists, ExistentialLists, AssumptionLists, Symbols}
use Rattle.tt_kinds.specs.declared.table.Table.TheVariants.{Declarations, Definitions}
use Rattle.tt_interner.specs.Rows.{Row, existential_row, text_row, row_table, table, size, AreRows}
use Rattle.tt_interner.specs.Stored.{Terms, Counters, IsInfo, first_rows, anonymous_text}
use Rattle.tt_interner.specs.Info.{keeps_info}
use Rattle.std.specs.Prelude.{IsTrue}
use Rattle.tt_interner.specs.Tables.{TableEntry, Tables, table_entries, with_entries, push, rows_of, infos_of}
use Rattle.tt_interner.specs.Tables.{reversed_tables, newest}
use Rattle.tt_interner.specs.Tables.{older, merged, rows_in_order, entries_by, AreInfos, AreTables, Keeps}
use Rattle.tt_interner.specs.Existentials.{AreExistentials}
use Rattle.tt_interner.proofs.RowLaws.{table-other, table-new, meaning-old, slice_get-push_before, slice_get-push_last}
use Rattle.tt_interner.proofs.RowLaws.{size-more}
use Rattle.tt_interner.proofs.Trees.{Means-row}
use Rattle.tt_interner.proofs.TableLaws.{table_entries-other, rows_in_order-push, size_own, apart, by_table}
use Rattle.tt_interner.proofs.TableLaws.{rows_of-push}
use Rattle.tt_interner.proofs.TableLaws.{infos_of-push}

-- there are as many rows as tables in the order
merged-length : (order : List Table) (ts : Tables) → length (merged order ts) ≡ length order
unfolding merged
merged-length [] ts = refl
merged-length (t ∷ order) ts = ap suc (merged-length order (with_entries ts t (older (table_entries ts t))))

-- rows that are kept oldest first are as many as the tables in their order
pub rows_length : (order : List Table) (ts : Tables) → length (rows_in_order order ts) ≡ length order
unfolding rows_in_order
rows_length order ts = merged-length (reverse order) (reversed_tables ts) ∙ length-reverse order

-- a list is empty, or it has a last item
last_cases : {X : Type 0} (l : List X) → (l ≡ []) ⊎ ((xs : List X) × (x : X) × (l ≡ xs ++ x ∷ []))
last_cases [] = inl refl
last_cases {X} (y ∷ ys) = by (last_cases ys)
  where
    by : (ys ≡ []) ⊎ ((xs : List X) × (x : X) × (ys ≡ xs ++ x ∷ [])) → (y ∷ ys ≡ []) ⊎ ((xs : List X) × (x : X) × (y ∷ ys ≡ xs ++ x ∷ []))
    by (inl none) = inr ([], y, ap (λ l. y ∷ l) none)
    by (inr more) = inr (y ∷ more.0, more.1, ap (λ l. y ∷ l) more.2)

table_entries-reversed : (t : Table) (ts : Tables) → table_entries (reversed_tables ts) t ≡ reverse (table_entries ts t)
table_entries-reversed Types ts = refl
table_entries-reversed Consts ts = refl
table_entries-reversed Patterns ts = refl
table_entries-reversed Predicates ts = refl
table_entries-reversed Existentials ts = refl
table_entries-reversed ClauseLists ts = refl
table_entries-reversed TypeLists ts = refl
table_entries-reversed ConstLists ts = refl
table_entries-reversed ArgLists ts = refl
table_entries-reversed PatternLists ts = refl
table_entries-reversed VarLists ts = refl
table_entries-reversed ExistentialLists ts = refl
table_entries-reversed AssumptionLists ts = refl
table_entries-reversed Symbols ts = refl
table_entries-reversed Declarations ts = refl
table_entries-reversed Definitions ts = refl

-- the newest row is the row of the last table's last entry
newest_row : (order : List Table) (t : Table) (ts : Tables) (r : Row) (rest : List Row) → rows_in_order (order ++ t ∷ []) ts ≡ r ∷ rest → newest (reverse (table_entries ts t)) ≡ r
unfolding rows_in_order merged
newest_row order t ts r rest is =
    let e : newest (table_entries (reversed_tables ts) t) ∷ merged (reverse order) (with_entries (reversed_tables ts) t (older (table_entries (reversed_tables ts) t))) ≡ r ∷ rest =
    sym (ap (λ o. merged o (reversed_tables ts)) (reverse-append order (t ∷ []))) ∙ is in
    let first : newest (table_entries (reversed_tables ts) t) ≡ r = cc in
    sym (ap newest (table_entries-reversed t ts)) ∙ first

newest-push : (es : List TableEntry) (e : TableEntry) → newest (reverse (es ++ e ∷ [])) ≡ e.row
newest-push es e = ap newest (reverse-append es (e ∷ []))

no_text : (r : Row) → text_row [] ≡ r → row_table r ≡ Existentials → ⊥
no_text r is own = let e : Symbols ≡ Existentials = ap row_table is ∙ own in cc

-- the last table is the newest row's table
last_table : (rows : List Row) (ts : Tables) (limit : ℕ) → AreTables rows ts limit → (t : Table) (r : Row) → newest (reverse (table_entries ts t)) ≡ r → row_table r ≡ Existentials → t ≡ Existentials
last_table rows ts limit are t r is own = by (last_cases (table_entries ts t))
  where
    by : (table_entries ts t ≡ []) ⊎ ((es : List TableEntry) × (e : TableEntry) × (table_entries ts t ≡ es ++ e ∷ [])) → t ≡ Existentials
    by (inl none) = absurd (no_text r (sym (ap (λ es. newest (reverse es)) none) ∙ is) own)
    by (inr more) =
        let e = more.1 in
        let same : e.row ≡ r = sym (newest-push more.0 e) ∙ sym (ap (λ es. newest (reverse es)) more.2) ∙ is in
        let has : table t rows ≡ map (λ (x : TableEntry). x.row) more.0 ++ e.row ∷ [] =
        are.has t ∙ ap (map (λ (x : TableEntry). x.row)) more.2 ∙ map-append (λ (x : TableEntry). x.row) more.0 (e ∷ []) in
        let at : slice_get (table t rows) (length (map (λ (x : TableEntry). x.row) more.0)) ≡ Some e.row =
        ap (λ l. slice_get l (length (map (λ (x : TableEntry). x.row) more.0))) has ∙ slice_get-push_last (map (λ (x : TableEntry). x.row) more.0) e.row in
        sym (Means-row rows are.are t _ e.row at).same_table ∙ ap row_table same ∙ own

-- what is kept beside the rows before
AreInfos-older : (r : Row) (rows : List Row) (t : Table) (infos before : List FlagComputation) → length before ≡ size rows t
    → ((n : ℕ) (i : FlagComputation) → slice_get before n ≡ Some i → slice_get infos n ≡ Some i) → AreInfos (r ∷ rows) t infos → AreInfos rows t before
AreInfos-older r rows t infos before many there are = record {
  as_many = many;
  each = λ n i e. subst (IsInfo i) (meaning-old r rows t n (let within = slice_get_within before n i e in omega arith)) (are.each n i (there n i e));
}

-- the tables without the newest entry
AreTables-pop : (rows : List Row) (ts : Tables) (limit : ℕ) (e : TableEntry) → AreTables (e.row ∷ rows) (push (row_table e.row) e ts) limit → AreTables rows ts limit
unfolding AreRows
AreTables-pop rows ts limit e are = let r = e.row in let own = row_table e.row in record {
  are = are.are.4;
  has = by_table r (λ t. table t rows ≡ rows_of ts t)
      (same_from_push _ _ r r (sym (table-new r rows) ∙ are.has own ∙ rows_of-push own e ts)).0
      (λ t other. sym (table-other r rows t other) ∙ are.has t ∙ ap (map (λ (x : TableEntry). x.row)) (table_entries-other own t e ts (apart t r other)));
  infos = by_table r (λ t. IsTrue (keeps_info t) → AreInfos rows t (infos_of ts t))
      (λ keeps. let all = subst (AreInfos (r ∷ rows) own) (infos_of-push own e ts) (are.infos own keeps) in
      let as_many = all.as_many in
      let more = size_own r rows in
      let pushed = length_push (infos_of ts own) e.info in
      AreInfos-older r rows own (infos_of ts own ++ e.info ∷ []) (infos_of ts own) (omega arith)
      (λ n i at. slice_get-push_before (infos_of ts own) e.info n (slice_get_within (infos_of ts own) n i at) ∙ at) all)
      (λ t other keeps.
      let all = subst (λ es. AreInfos (r ∷ rows) t (map (λ (x : TableEntry). x.info) es)) (table_entries-other own t e ts (apart t r other)) (are.infos t keeps) in
      AreInfos-older r rows t (infos_of ts t) (infos_of ts t) (all.as_many ∙ ap length (table-other r rows t other)) (λ n i at. at) all);
  within = λ t. let more = size-more r rows t in let few = are.within t in omega arith;
  small = are.small;
}

-- the rows from the start are none of existential predicates
first_pop : (added : List Row) (r : Row) (rest : List Row) → r ∷ rest ≡ added ++ first_rows → row_table r ≡ Existentials → (more : List Row) × (rest ≡ more ++ first_rows)
first_pop [] r rest is own =
    let same : text_row anonymous_text ≡ r = cc in
    let e : Symbols ≡ Existentials = ap row_table same ∙ own in
    absurd (cc)
first_pop (a ∷ added) r rest is own = let e : rest ≡ added ++ first_rows = cc in (added, e)

-- what was there before the newest row, which is an existential predicate's
record Before (order : List Table) (ts : Tables) (limit : ℕ) (rest : List Row) : Type 0 where
  front : List Table
  entries : List TableEntry
  entry : TableEntry
  last_table_is : order ≡ front ++ Existentials ∷ []
  last_entry_is : ts.existentials ≡ entries ++ entry ∷ []
  rows : rows_in_order front (record ts { existentials = entries }) ≡ rest
  keeps : Keeps front (record ts { existentials = entries }) limit

no_rows : (ts : Tables) (r : Row) (rest : List Row) → rows_in_order [] ts ≡ r ∷ rest → ⊥
unfolding rows_in_order merged
no_rows ts r rest e = cc

before : (order : List Table) (ts : Tables) (limit : ℕ) → Keeps order ts limit → (r : Row) (rest : List Row) → rows_in_order order ts ≡ r ∷ rest → row_table r ≡ Existentials → Before order ts limit rest
before order ts limit keeps r rest is own = by (last_cases order)
  where
    with_entry : (front : List Table) → order ≡ front ++ Existentials ∷ [] → (es : List TableEntry) (e : TableEntry) → ts.existentials ≡ es ++ e ∷ [] → Before order ts limit rest
    with_entry front last_is es e entry_is =
        let ts' : Tables = record ts { existentials = es } in
        let pushed : ts ≡ push Existentials e ts' = ap (λ x. record ts { existentials = x }) entry_is in
        let all : rows_in_order order ts ≡ e.row ∷ rows_in_order front ts' =
        ap (λ o. rows_in_order o ts) last_is ∙ ap (rows_in_order (front ++ Existentials ∷ [])) pushed ∙ rows_in_order-push front Existentials e ts' in
        let head : e.row ≡ r = cc in
        let tail : rows_in_order front ts' ≡ rest = cc in
        let e_own : row_table e.row ≡ Existentials = ap row_table head ∙ own in
        let there : AreTables (e.row ∷ rows_in_order front ts') (push (row_table e.row) e ts') limit =
        subst (λ u. AreTables (e.row ∷ rows_in_order front ts') (push u e ts') limit) (sym e_own)
        (subst (λ x. AreTables (e.row ∷ rows_in_order front ts') x limit) pushed
        (subst (λ rows. AreTables rows ts limit) all keeps.tables)) in
        record {
          front = front;
          entries = es;
          entry = e;
          last_table_is = last_is;
          last_entry_is = entry_is;
          rows = tail;
          keeps = record {
            tables = AreTables-pop (rows_in_order front ts') ts' limit e there;
            first = first_pop keeps.first.0 e.row (rows_in_order front ts') (sym all ∙ keeps.first.1) e_own;
          };
        }

    with_table : (front : List Table) → order ≡ front ++ Existentials ∷ [] → newest (reverse ts.existentials) ≡ r → (ts.existentials ≡ []) ⊎ ((es : List TableEntry) × (e : TableEntry) × (ts.existentials ≡ es ++ e ∷ [])) → Before order ts limit rest
    with_table front last_is first (inl none) = absurd (no_text r (sym (ap (λ es. newest (reverse es)) none) ∙ first) own)
    with_table front last_is first (inr more) = with_entry front last_is more.0 more.1 more.2

    by : (order ≡ []) ⊎ ((front : List Table) × (t : Table) × (order ≡ front ++ t ∷ [])) → Before order ts limit rest
    by (inl none) = absurd (no_rows ts r rest (sym (ap (λ o. rows_in_order o ts) none) ∙ is))
    by (inr more) =
        let t = more.1 in
        let at_end : rows_in_order (more.0 ++ t ∷ []) ts ≡ r ∷ rest = sym (ap (λ o. rows_in_order o ts) more.2) ∙ is in
        let first : newest (reverse (table_entries ts t)) ≡ r = newest_row more.0 t ts r rest at_end in
        let named : t ≡ Existentials = last_table (rows_in_order order ts) ts limit keeps.tables t r first own in
        with_table more.0 (more.2 ∙ ap (λ u. more.0 ++ u ∷ []) named) (subst (λ u. newest (reverse (table_entries ts u)) ≡ r) named first) (last_cases ts.existentials)

-- there are rows
some_row : (order : List Table) (ts : Tables) (limit : ℕ) → Keeps order ts limit → rows_in_order order ts ≡ [] → ⊥
some_row order ts limit keeps none = by keeps.first.0 (sym none ∙ keeps.first.1)
  where
    by : (added : List Row) → [] ≡ added ++ first_rows → ⊥
    by [] e = cc
    by (a ∷ added) e = cc

-- as many tables and entries are there as are taken back
pub few_back : (k : ℕ) (order : List Table) (ts : Tables) (limit : ℕ) → Keeps order ts limit → (rows : List Row) → rows_in_order order ts ≡ rows → AreExistentials (take k rows)
    → (k ≤ length order) × (k ≤ length ts.existentials)
few_back zero order ts limit keeps rows is only = (omega arith, omega arith)
few_back (suc k) order ts limit keeps [] is only = absurd (some_row order ts limit keeps is)
few_back (suc k) order ts limit keeps (r ∷ rest) is only =
    let b = before order ts limit keeps r rest is only.0 in
    let few = few_back k b.front (record ts { existentials = b.entries }) limit b.keeps rest b.rows only.1 in
    let tables = ap length b.last_table_is ∙ length_push b.front Existentials in
    let entries = ap length b.last_entry_is ∙ length_push b.entries b.entry in
    (omega (arith, few.0), omega (arith, few.1))

-- what is left once they are taken back
pub record IsTakenBack (k n m : ℕ) (order : List Table) (ts : Tables) (limit : ℕ) (all : List Row) : Type 0 where
  pub keeps : Keeps (take n order) (record ts { existentials = take m ts.existentials }) limit
  pub rows : rows_in_order (take n order) (record ts { existentials = take m ts.existentials }) ≡ drop k all

pub taken_back : (k n m : ℕ) (order : List Table) (ts : Tables) (limit : ℕ) → Keeps order ts limit → (rows : List Row) → rows_in_order order ts ≡ rows → AreExistentials (take k rows)
    → n + k ≡ length order → m + k ≡ length ts.existentials → IsTakenBack k n m order ts limit rows
taken_back zero n m order ts limit keeps rows is only tables entries =
    let same : take n order ≡ order = ap (λ j. take j order) (omega arith) ∙ take-length order in
    let same' : take m ts.existentials ≡ ts.existentials = ap (λ j. take j ts.existentials) (omega arith) ∙ take-length ts.existentials in
    record {
      keeps = rw (same, same') keeps;
      rows = rw (same, same') is;
    }
taken_back (suc k) n m order ts limit keeps [] is only tables entries = absurd (some_row order ts limit keeps is)
taken_back (suc k) n m order ts limit keeps (r ∷ rest) is only tables entries =
    let b = before order ts limit keeps r rest is only.0 in
    let tables' = ap length b.last_table_is ∙ length_push b.front Existentials in
    let entries' = ap length b.last_entry_is ∙ length_push b.entries b.entry in
    let back = taken_back k n m b.front (record ts { existentials = b.entries }) limit b.keeps rest b.rows only.1 (omega arith) (omega arith) in
    let same : take n order ≡ take n b.front = ap (take n) b.last_table_is ∙ take-append-le n b.front (Existentials ∷ []) (omega arith) in
    let same' : take m ts.existentials ≡ take m b.entries = ap (take m) b.last_entry_is ∙ take-append-le m b.entries (b.entry ∷ []) (omega arith) in
    record {
      keeps = rw (same, same') back.keeps;
      rows = rw (same, same') back.rows;
    }

-- What a call owes that takes existential predicates back.
module _ (order : List Table) (ts : Tables) (limit : ℕ) (counters : Counters) (old : Terms) (view_is : record { rows = rows_in_order order ts; limit = limit; counters = counters } ≡ old) (keeps : Keeps order ts limit)
    (es : List (Binder ExistentialPredicate × FlagComputation)) (is : ts.existentials ≡ entries_by existential_row (λ v. v) es) (k : ℕ) (only : AreExistentials (take k old.rows)) where
  rows_are : rows_in_order order ts ≡ old.rows
  rows_are = ap (λ (v : Terms). v.rows) view_is

  as_many : length ts.existentials ≡ length es
  as_many = ap length is ∙ length-map es (λ e. record { row = existential_row e.0; info = e.1 })

  -- no more rows are taken back than the order has
  pub few_tables : k ≤ length order
  few_tables = (few_back k order ts limit keeps old.rows rows_are only).0

  -- no more rows are taken back than the table of existential predicates has
  pub few_entries : k ≤ length es
  few_entries = let few = (few_back k order ts limit keeps old.rows rows_are only).1 in let many = as_many in omega arith

  module _ (n m : ℕ) (tables : n + k ≡ length order) (entries : m + k ≡ length es) (order' : List Table) (es' : List (Binder ExistentialPredicate × FlagComputation))
      (cut : order' ≡ take n order) (cut' : es' ≡ take m es) where
    left : IsTakenBack k n m order ts limit old.rows
    left = taken_back k n m order ts limit keeps old.rows rows_are only tables (entries ∙ sym as_many)

    entries_left : entries_by existential_row (λ v. v) es' ≡ take m ts.existentials
    entries_left = ap (entries_by existential_row (λ v. v)) cut' ∙ sym (take-map (λ e. record { row = existential_row e.0; info = e.1 }) m es) ∙ sym (ap (take m) is)

    -- the fields agree once the order and the entries are cut
    pub back_kept : Keeps order' (record ts { existentials = entries_by existential_row (λ v. v) es' }) limit
    back_kept = rw (cut, entries_left) left.keeps

    -- once the order and the entries are cut, the k newest rows are gone and the others stay
    pub back_rows : rows_in_order order' (record ts { existentials = entries_by existential_row (λ v. v) es' }) ≡ drop k old.rows
    back_rows = rw (cut, entries_left) left.rows
