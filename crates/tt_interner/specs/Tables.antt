-- The contents of the tables, and the tables seen as one list of rows.
use Rattle.std.specs.declared.alloc.Global.{Global}
use Rattle.std.specs.declared.vec.Vec.{Vec}
use Rattle.std.specs.Prelude.{◌≡◌, ℕ, ◌+◌, ◌≤◌, List, [], ◌∷◌, ◌++◌, length, map, reverse, slice_get, max, bit_or, Some}
use Rattle.std.specs.Prelude.{IsTrue}
use Rattle.tt_flags.specs.FlagComputation.{computed}
use Rattle.tt_flags.specs.declared.flag_computation.FlagComputation.{FlagComputation}
use Rattle.tt_kinds.specs.Tree.{Forest, Depth}
use Rattle.tt_kinds.specs.Scan.{scan_all}
use Rattle.tt_kinds.specs.Reading.{read_all, greatest_reach_all}
use Rattle.tt_kinds.specs.Variant.{variant_of}
use Rattle.tt_kinds.specs.declared.declaration.Declaration.{Declaration}
use Rattle.tt_kinds.specs.declared.variant.VariantDef.{VariantDef}
use Rattle.tt_kinds.specs.declared.id.Id.{Id}
use Rattle.tt_kinds.specs.declared.table.Table.{Table}
use Rattle.tt_kinds.specs.declared.table.Table.TheVariants.{Types, Consts, Patterns, Predicates, Existentials}
use Rattle.tt_kinds.specs.declared.table.Table.TheVariants.{ClauseLists, TypeLists, ConstLists, ArgLists, PatternLists}
use Rattle.tt_kinds.specs.declared.table.Table.TheVariants.{VarLists, ExistentialLists, AssumptionLists, Symbols}
use Rattle.tt_kinds.specs.declared.table.Table.TheVariants.{Declarations, Definitions}
use Rattle.tt_interner.specs.Rows.{Row, text_row, declared_row, defined_row, table, size, meaning, AreRows}
use Rattle.tt_interner.specs.Info.{keeps_info}
use Rattle.tt_interner.specs.Stored.{IsInfo, first_rows}
use Rattle.tt_index.specs.Greatest.{greatest}

-- the information is the flags and the outer exclusive binder of the trees together
pub record AreInfosOf (info : FlagComputation) (ts : Forest Depth) : Type 0 where
  pub flags : info.flags.bits ≡ scan_all ts
  pub outer : info.outer_exclusive_binder ≡ greatest_reach_all (read_all 0 ts)

-- the information so far, joined with the rest of the children, is the information of all
pub record AreJoined (info : FlagComputation) (rest whole : Forest Depth) : Type 0 where
  pub flags : bit_or info.flags.bits (scan_all rest) ≡ scan_all whole
  pub outer : max info.outer_exclusive_binder (greatest_reach_all (read_all 0 rest))
      ≡ greatest_reach_all (read_all 0 whole)

-- a row, and its cached information
pub record TableEntry : Type 0 where
  pub row : Row
  pub info : FlagComputation

-- the information of a term without flags and without escaping variables
abbrev pub no_info : FlagComputation
no_info = computed 0 0

-- the entries of each table
pub record Tables : Type 0 where
  pub types : List TableEntry
  pub consts : List TableEntry
  pub patterns : List TableEntry
  pub predicates : List TableEntry
  pub existentials : List TableEntry
  pub clause_lists : List TableEntry
  pub type_lists : List TableEntry
  pub const_lists : List TableEntry
  pub arg_lists : List TableEntry
  pub pattern_lists : List TableEntry
  pub var_lists : List TableEntry
  pub existential_lists : List TableEntry
  pub assumption_lists : List TableEntry
  pub symbols : List TableEntry
  pub declarations : List TableEntry
  pub definitions : List TableEntry

-- the entries of one table
abbrev pub table_entries : Tables → Table → List TableEntry
table_entries ts Types = ts.types
table_entries ts Consts = ts.consts
table_entries ts Patterns = ts.patterns
table_entries ts Predicates = ts.predicates
table_entries ts Existentials = ts.existentials
table_entries ts ClauseLists = ts.clause_lists
table_entries ts TypeLists = ts.type_lists
table_entries ts ConstLists = ts.const_lists
table_entries ts ArgLists = ts.arg_lists
table_entries ts PatternLists = ts.pattern_lists
table_entries ts VarLists = ts.var_lists
table_entries ts ExistentialLists = ts.existential_lists
table_entries ts AssumptionLists = ts.assumption_lists
table_entries ts Symbols = ts.symbols
table_entries ts Declarations = ts.declarations
table_entries ts Definitions = ts.definitions

-- the tables with other entries in one
abbrev pub with_entries : Tables → Table → List TableEntry → Tables
with_entries ts Types es = record ts { types = es }
with_entries ts Consts es = record ts { consts = es }
with_entries ts Patterns es = record ts { patterns = es }
with_entries ts Predicates es = record ts { predicates = es }
with_entries ts Existentials es = record ts { existentials = es }
with_entries ts ClauseLists es = record ts { clause_lists = es }
with_entries ts TypeLists es = record ts { type_lists = es }
with_entries ts ConstLists es = record ts { const_lists = es }
with_entries ts ArgLists es = record ts { arg_lists = es }
with_entries ts PatternLists es = record ts { pattern_lists = es }
with_entries ts VarLists es = record ts { var_lists = es }
with_entries ts ExistentialLists es = record ts { existential_lists = es }
with_entries ts AssumptionLists es = record ts { assumption_lists = es }
with_entries ts Symbols es = record ts { symbols = es }
with_entries ts Declarations es = record ts { declarations = es }
with_entries ts Definitions es = record ts { definitions = es }

-- the tables with one more entry in one of them
abbrev pub push : Table → TableEntry → Tables → Tables
push t e ts = with_entries ts t (table_entries ts t ++ e ∷ [])

-- the rows of one table
abbrev pub rows_of : Tables → Table → List Row
rows_of ts t = map (λ e. e.row) (table_entries ts t)

-- the cached information of the rows of one table
abbrev pub infos_of : Tables → Table → List FlagComputation
infos_of ts t = map (λ e. e.info) (table_entries ts t)

-- each table newest first
abbrev pub reversed_tables : Tables → Tables
reversed_tables ts = record {
  types = reverse ts.types;
  consts = reverse ts.consts;
  patterns = reverse ts.patterns;
  predicates = reverse ts.predicates;
  existentials = reverse ts.existentials;
  clause_lists = reverse ts.clause_lists;
  type_lists = reverse ts.type_lists;
  const_lists = reverse ts.const_lists;
  arg_lists = reverse ts.arg_lists;
  pattern_lists = reverse ts.pattern_lists;
  var_lists = reverse ts.var_lists;
  existential_lists = reverse ts.existential_lists;
  assumption_lists = reverse ts.assumption_lists;
  symbols = reverse ts.symbols;
  declarations = reverse ts.declarations;
  definitions = reverse ts.definitions;
}

-- the row of the newest entry
abbrev pub newest : List TableEntry → Row
newest [] = text_row []
newest (e ∷ es) = e.row

-- the entries before the newest
abbrev pub older : List TableEntry → List TableEntry
older [] = []
older (e ∷ es) = es

-- the rows of all tables in the given order, where the order and the tables are newest first
unfoldable pub merged : List Table → Tables → List Row
merged [] ts = []
merged (t ∷ order) ts = newest (table_entries ts t) ∷ merged order (with_entries ts t (older (table_entries ts t)))

-- the same for an order and tables that are kept oldest first
unfoldable pub rows_in_order : List Table → Tables → List Row
rows_in_order order ts = merged (reverse order) (reversed_tables ts)

-- the entries of a map
abbrev pub entries_by : {K V : Type 0} → (K → Row) → (V → FlagComputation) → List (K × V) → List TableEntry
entries_by row info es = map (λ e. record { row = row e.0; info = info e.1 }) es

-- the entries of declarations, numbered from n
abbrev pub declared_entries : ℕ → List Declaration → List TableEntry
declared_entries n [] = []
declared_entries n (d ∷ ds) = record { row = declared_row n d; info = no_info } ∷ declared_entries (n + 1) ds

-- the entries of definitions
abbrev pub defined_entries : {S : Type 0} → List (Id S × Vec VariantDef Global) → List TableEntry
defined_entries es = map (λ e. record { row = defined_row e.0.number (map variant_of e.1.items); info = no_info }) es

-- the entries of a map whose keys own memory, by what the keys hold
abbrev pub listed_by : {K X V : Type 0} → (K → X) → List (K × V) → List (X × V)
listed_by hold es = map (λ e. (hold e.0, e.1)) es

-- the table's rows have this cached information
pub record AreInfos (rows : List Row) (t : Table) (infos : List FlagComputation) : Type 0 where
  pub as_many : length infos ≡ size rows t
  pub each : (n : ℕ) (info : FlagComputation) → slice_get infos n ≡ Some info → IsInfo info (meaning rows t n)

-- the tables have these rows, with the information of their trees, and no table has more rows than the limit
pub record AreTables (rows : List Row) (ts : Tables) (limit : ℕ) : Type 0 where
  pub are : AreRows rows
  pub has : (t : Table) → table t rows ≡ rows_of ts t
  pub infos : (t : Table) → IsTrue (keeps_info t) → AreInfos rows t (infos_of ts t)
  pub within : (t : Table) → size rows t ≤ limit
  pub small : limit ≤ greatest

-- the tables have the rows that the order makes of them, and the first of these are the rows of a new interner
pub record Keeps (order : List Table) (ts : Tables) (limit : ℕ) : Type 0 where
  pub tables : AreTables (rows_in_order order ts) ts limit
  pub first : (added : List Row) × (rows_in_order order ts ≡ added ++ first_rows)
