-- The rows of an interner, newest first, and what its handles mean.
use Rattle.std.specs.Prelude.{◌≢◌, ◌≡◌, ℕ, ◌==◌, ◌<◌, ◌≤◌, Bool, ◌&&◌, List, [], ◌∷◌, ◌++◌, length, ⊤, if◌then◌else◌}
use Rattle.std.specs.Prelude.{IsTrue}
use Rattle.tt_kinds.specs.Tree as tree
use Rattle.tt_kinds.specs.Label.{text_label}
use Rattle.tt_kinds.specs.Shape.{Shape, Shapes, param, bound, region, term, node, binder, stored, part_of, none, also}
use Rattle.tt_kinds.specs.Shape.{Meaning, fill, Sizes, HasParts}
use Rattle.tt_kinds.specs.Range.{IndicesFitIn}
use Rattle.tt_kinds.specs.Kinds.{ty_kind_shape, const_kind_shape, pattern_kind_shape, predicate_kind_shape}
use Rattle.tt_kinds.specs.Kinds.{existential_kind_shape, clauses_row_shape, tys_row_shape, consts_row_shape}
use Rattle.tt_kinds.specs.Kinds.{args_row_shape, pats_row_shape, vars_row_shape, existentials_row_shape, text_row_shape}
use Rattle.tt_kinds.specs.Variant.{Variant, HasIndices}
use Rattle.tt_kinds.specs.Values.{assumptions_row_shape, declaration_row_shape, definition_row_shape}
use Rattle.tt_kinds.specs.Handle.{Ty}
use Rattle.tt_kinds.specs.Handle.{Const}
use Rattle.tt_kinds.specs.Handle.{Pat}
use Rattle.tt_kinds.specs.Handle.{Clause}
use Rattle.tt_kinds.specs.Handle.{PolyExistentialPredicate}
use Rattle.tt_kinds.specs.declared.declaration.Declaration.{Declaration}
use Rattle.tt_kinds.specs.declared.binder.Binder.{Binder}
use Rattle.tt_kinds.specs.declared.const_kind.ConstKind.{ConstKind}
use Rattle.tt_kinds.specs.declared.pattern.PatternKind.{PatternKind}
use Rattle.tt_kinds.specs.declared.predicate.OutlivesPredicate.{OutlivesPredicate}
use Rattle.tt_kinds.specs.declared.predicate_kind.PredicateKind.{PredicateKind}
use Rattle.tt_kinds.specs.declared.existential.ExistentialPredicate.{ExistentialPredicate}
use Rattle.tt_kinds.specs.declared.generic_arg.GenericArgKind.{GenericArgKind}
use Rattle.tt_kinds.specs.declared.bound.BoundVariableKind.{BoundVariableKind}
use Rattle.tt_kinds.specs.declared.ty_kind.TyKind.{TyKind}
use Rattle.tt_kinds.specs.declared.parts.Kind.{Kind}
use Rattle.tt_kinds.specs.declared.parts.Kind.TheVariants as kind
use Rattle.tt_interner.specs.Clauses.{is_clause_tree}
use Rattle.tt_kinds.specs.declared.table.Table.{Table}
use Rattle.tt_kinds.specs.declared.table.Table.TheVariants.{Types, Consts, Patterns, Predicates, Existentials}
use Rattle.tt_kinds.specs.declared.table.Table.TheVariants.{ClauseLists, TypeLists, ConstLists, ArgLists, PatternLists}
use Rattle.tt_kinds.specs.declared.table.Table.TheVariants.{VarLists, ExistentialLists, AssumptionLists, Symbols}
use Rattle.tt_kinds.specs.declared.table.Table.TheVariants.{Declarations, Definitions}

-- a row: one stored term, list, text, declaration or definition
pub data Row : Type 0 where
  type_row : TyKind → Row
  const_row : ConstKind → Row
  pat_row : PatternKind → Row
  predicate_row : Binder PredicateKind → Row
  existential_row : Binder ExistentialPredicate → Row
  clauses_row : List Clause → Row
  tys_row : List Ty → Row
  consts_row : List Const → Row
  args_row : List GenericArgKind → Row
  pats_row : List Pat → Row
  vars_row : List BoundVariableKind → Row
  existentials_row : List PolyExistentialPredicate → Row
  assumptions_row : List (OutlivesPredicate GenericArgKind) → Row
  text_row : List ℕ → Row
  -- a declaration, and its place among the declarations: two of them may have the same name
  declared_row : ℕ → Declaration → Row
  -- the variants of the data type of an id
  defined_row : ℕ → List Variant → Row

-- the table that a row is in
abbrev pub row_table : Row → Table
row_table (type_row k) = Types
row_table (const_row k) = Consts
row_table (pat_row k) = Patterns
row_table (predicate_row p) = Predicates
row_table (existential_row p) = Existentials
row_table (clauses_row clauses) = ClauseLists
row_table (tys_row tys) = TypeLists
row_table (consts_row consts) = ConstLists
row_table (args_row args) = ArgLists
row_table (pats_row pats) = PatternLists
row_table (vars_row vars) = VarLists
row_table (existentials_row ps) = ExistentialLists
row_table (assumptions_row ps) = AssumptionLists
row_table (text_row bytes) = Symbols
row_table (declared_row n d) = Declarations
row_table (defined_row n vs) = Definitions

-- the shape of a row
abbrev pub row_shape : Row → Shape
row_shape (type_row k) = ty_kind_shape k
row_shape (const_row k) = const_kind_shape k
row_shape (pat_row k) = pattern_kind_shape k
row_shape (predicate_row p) = predicate_kind_shape p
row_shape (existential_row p) = existential_kind_shape p
row_shape (clauses_row clauses) = clauses_row_shape clauses
row_shape (tys_row tys) = tys_row_shape tys
row_shape (consts_row consts) = consts_row_shape consts
row_shape (args_row args) = args_row_shape args
row_shape (pats_row pats) = pats_row_shape pats
row_shape (vars_row vars) = vars_row_shape vars
row_shape (existentials_row ps) = existentials_row_shape ps
row_shape (assumptions_row ps) = assumptions_row_shape ps
row_shape (text_row bytes) = text_row_shape bytes
row_shape (declared_row n d) = declaration_row_shape n d
row_shape (defined_row n vs) = definition_row_shape n vs

-- the row of a kind
abbrev pub kind_row : Kind → Row
kind_row (kind.Ty k) = type_row k
kind_row (kind.Const k) = const_row k
kind_row (kind.Pat k) = pat_row k
kind_row (kind.Predicate p) = predicate_row p
kind_row (kind.Existential p) = existential_row p

-- the place of a table among all tables
abbrev pub table_number : Table → ℕ
table_number Types = 0
table_number Consts = 1
table_number Patterns = 2
table_number Predicates = 3
table_number Existentials = 4
table_number ClauseLists = 5
table_number TypeLists = 6
table_number ConstLists = 7
table_number ArgLists = 8
table_number PatternLists = 9
table_number VarLists = 10
table_number ExistentialLists = 11
table_number AssumptionLists = 12
table_number Symbols = 13
table_number Declarations = 14
table_number Definitions = 15

-- the row is in the table
abbrev pub is_in : Table → Row → Bool
is_in t r = table_number (row_table r) == table_number t

-- the rows of one table, oldest first: a handle's number is its row's place here
unfoldable pub table : Table → List Row → List Row
table t [] = []
table t (r ∷ rows) = if is_in t r then table t rows ++ r ∷ [] else table t rows

-- how many rows each table has
abbrev pub size : List Row → Sizes
size rows t = length (table t rows)

-- the tree of a handle: the shape of its row, filled with the trees that handles had before the row was added
unfoldable pub meaning : List Row → Meaning
meaning [] t n = tree.node (text_label []) tree.none
meaning (r ∷ rows) t n = if is_in t r && (n == length (table t rows)) then fill (meaning rows)
    (row_shape r) else meaning rows t n

-- how many rows of all tables came before the row of a handle
unfoldable pub age : List Row → Table → ℕ → ℕ
age [] t n = 0
age (r ∷ rows) t n = if is_in t r && (n == length (table t rows)) then length rows else age rows t n

-- r is none of the rows
unfoldable pub IsNew : Row → List Row → Type 0
IsNew r [] = ⊤
IsNew r (q ∷ rows) = (q ≢ r) × IsNew r rows

-- the number names a predicate that is a clause
pub record IsClause (rows : List Row) (n : ℕ) : Type 0 where
  pub within : n < size rows Predicates
  pub clause : IsTrue (is_clause_tree (meaning rows Predicates n))

-- each of the clauses names a predicate that is a clause
abbrev pub AreClauses : List Row → List Clause → Type 0
AreClauses rows [] = ⊤
AreClauses rows (c ∷ cs) = IsClause rows c.number × AreClauses rows cs

-- the items of a list of clauses are clauses, and a definition has no more variants and fields than indices can number
abbrev pub IsWellFormed : List Row → Row → Type 0
IsWellFormed rows (clauses_row cs) = AreClauses rows cs
IsWellFormed rows (defined_row n vs) = HasIndices vs
IsWellFormed rows _ = ⊤

-- each row is stored once, names only rows before it, has only indices below the greatest, and is well-formed
unfoldable pub AreRows : List Row → Type 0
AreRows [] = ⊤
AreRows (r ∷ rows) = HasParts (size rows) (row_shape r) × IsNew r rows × IndicesFitIn (row_shape r)
    × IsWellFormed rows r × AreRows rows

-- each handle in a shape names one of the a oldest rows
abbrev mutual
  pub IsOlder : List Row → ℕ → Shape → Type 0
  IsOlder rows a (param s i name) = ⊤
  IsOlder rows a (bound s d e) = ⊤
  IsOlder rows a (region r) = ⊤
  IsOlder rows a (term l ss) = AreOlder rows a ss
  IsOlder rows a (node l ss) = AreOlder rows a ss
  IsOlder rows a (binder n s) = IsOlder rows a s
  IsOlder rows a (stored t n) = age rows t n < a
  IsOlder rows a (part_of t n e) = age rows t n < a

  -- the same for each of the shapes
  pub AreOlder : List Row → ℕ → Shapes → Type 0
  AreOlder rows a none = ⊤
  AreOlder rows a (also s ss) = IsOlder rows a s × AreOlder rows a ss

-- the new rows are the old ones, and perhaps more: so each handle in range stays in range
pub record Grows (old new : List Row) : Type 0 where
  pub more : List Row
  pub kept : new ≡ more ++ old
  pub in_range : (t : Table) → size old t ≤ size new t
