-- What stays, and what is new, when a row comes.
use Rattle.std.proofs.Common.{◌≡◌, ℕ, zero, suc, ◌<◌, ◌≤◌, ◌⊎◌, inl, inr, ⊎_elim, Bool, true, false, cond, ◌&&◌, eqb}
use Rattle.std.proofs.Common.{List, [], ◌∷◌, ◌++◌, length, slice_get, get_or, Some, refl, sym, ap, subst, ◌∙◌, arith}
use Rattle.std.proofs.lemmas.List.{length_push}
use Rattle.std.proofs.lemmas.Bool.Decides.{nat_tests}
use Rattle.std.proofs.lemmas.Bool.{eqb-true}
use Rattle.std.proofs.lemmas.Bool.{cases_lt}
use Rattle.std.proofs.lemmas.Option.{same_Some, slice_get-get_or}
use Rattle.tt_kinds.specs.declared.table.Table.{Table}
use Rattle.tt_kinds.specs.declared.table.Table.TheVariants.{Types, Consts, Patterns, Predicates, Existentials}
use Rattle.tt_kinds.specs.declared.table.Table.TheVariants.{ClauseLists, TypeLists, ConstLists, ArgLists, PatternLists}
use Rattle.tt_kinds.specs.declared.table.Table.TheVariants.{VarLists, ExistentialLists, AssumptionLists, Symbols}
use Rattle.tt_kinds.specs.declared.table.Table.TheVariants.{Declarations, Definitions}
use Rattle.tt_kinds.specs.Shape.{fill}
use Rattle.tt_interner.specs.Rows.{Row, row_table, table_number, is_in, table, size, meaning, age, row_shape}

-- an earlier item stays where it is
pub slice_get-push_before : {X : Type 0} (xs : List X) (y : X) (n : ℕ) → n < length xs → slice_get (xs ++ y ∷ []) n ≡ slice_get xs n
slice_get-push_before [] y n h = absurd (omega arith)
slice_get-push_before (x ∷ xs) y zero h = refl
slice_get-push_before (x ∷ xs) y (suc n) h = slice_get-push_before xs y n (omega arith)

-- and the new one is last
pub slice_get-push_last : {X : Type 0} (xs : List X) (y : X) → slice_get (xs ++ y ∷ []) (length xs) ≡ Some y
slice_get-push_last [] y = refl
slice_get-push_last (x ∷ xs) y = slice_get-push_last xs y

-- the table of a number
abbrev table_at : ℕ → Table
table_at zero = Types
table_at (suc zero) = Consts
table_at (suc (suc zero)) = Patterns
table_at (suc (suc (suc zero))) = Predicates
table_at (suc (suc (suc (suc zero)))) = Existentials
table_at (suc (suc (suc (suc (suc zero))))) = ClauseLists
table_at (suc (suc (suc (suc (suc (suc zero)))))) = TypeLists
table_at (suc (suc (suc (suc (suc (suc (suc zero))))))) = ConstLists
table_at (suc (suc (suc (suc (suc (suc (suc (suc zero)))))))) = ArgLists
table_at (suc (suc (suc (suc (suc (suc (suc (suc (suc zero))))))))) = PatternLists
table_at (suc (suc (suc (suc (suc (suc (suc (suc (suc (suc zero)))))))))) = VarLists
table_at (suc (suc (suc (suc (suc (suc (suc (suc (suc (suc (suc zero))))))))))) = ExistentialLists
table_at (suc (suc (suc (suc (suc (suc (suc (suc (suc (suc (suc (suc zero)))))))))))) = AssumptionLists
table_at (suc (suc (suc (suc (suc (suc (suc (suc (suc (suc (suc (suc (suc zero))))))))))))) = Symbols
table_at (suc (suc (suc (suc (suc (suc (suc (suc (suc (suc (suc (suc (suc (suc zero)))))))))))))) = Declarations
table_at _ = Definitions

table_at-table_number : (t : Table) → table_at (table_number t) ≡ t
table_at-table_number Types = refl
table_at-table_number Consts = refl
table_at-table_number Patterns = refl
table_at-table_number Predicates = refl
table_at-table_number Existentials = refl
table_at-table_number ClauseLists = refl
table_at-table_number TypeLists = refl
table_at-table_number ConstLists = refl
table_at-table_number ArgLists = refl
table_at-table_number PatternLists = refl
table_at-table_number VarLists = refl
table_at-table_number ExistentialLists = refl
table_at-table_number AssumptionLists = refl
table_at-table_number Symbols = refl
table_at-table_number Declarations = refl
table_at-table_number Definitions = refl

-- a row is in the table that the test says
pub in_table : (t : Table) (r : Row) → is_in t r ≡ true → row_table r ≡ t
in_table t r e =
    sym (table_at-table_number (row_table r)) ∙ ap table_at (eqb-true (table_number (row_table r)) (table_number t) e) ∙ table_at-table_number t

pub is_in_self : (t : Table) → eqb (table_number t) (table_number t) ≡ true
is_in_self Types = refl
is_in_self Consts = refl
is_in_self Patterns = refl
is_in_self Predicates = refl
is_in_self Existentials = refl
is_in_self ClauseLists = refl
is_in_self TypeLists = refl
is_in_self ConstLists = refl
is_in_self ArgLists = refl
is_in_self PatternLists = refl
is_in_self VarLists = refl
is_in_self ExistentialLists = refl
is_in_self AssumptionLists = refl
is_in_self Symbols = refl
is_in_self Declarations = refl
is_in_self Definitions = refl

-- a row is in its own table
pub is_in_own : (r : Row) → is_in (row_table r) r ≡ true
is_in_own r = is_in_self (row_table r)

module _ (r : Row) (rows : List Row) where
  -- a new row is put at the end of the table that it is in
  pub table-own : (t : Table) → is_in t r ≡ true → table t (r ∷ rows) ≡ table t rows ++ r ∷ []
  unfolding table
  table-own t e = ap (λ b. cond b (table t rows ++ r ∷ []) (table t rows)) e

  -- a new row leaves the tables as they are that it isn't in
  pub table-other : (t : Table) → is_in t r ≡ false → table t (r ∷ rows) ≡ table t rows
  unfolding table
  table-other t e = ap (λ b. cond b (table t rows ++ r ∷ []) (table t rows)) e

  -- a new row is the last of its table
  pub table-new : table (row_table r) (r ∷ rows) ≡ table (row_table r) rows ++ r ∷ []
  table-new = table-own (row_table r) (is_in_own r)

  -- a handle of the rows with r is one of the rows before, or r's own
  pub record IsNewest (t : Table) (n : ℕ) : Type 0 where
    pub same_table : row_table r ≡ t
    pub last : n ≡ size rows t

  -- a handle that is in range with the new row is in range before it, or is the new row's
  pub place_cases : (t : Table) (n : ℕ) → n < size (r ∷ rows) t → (n < size rows t) ⊎ IsNewest t n
  place_cases t n h = by (is_in t r) refl
    where
      by : (b : Bool) → is_in t r ≡ b → (n < size rows t) ⊎ IsNewest t n
      by false e = inl (subst (λ l. n < length l) (table-other t e) h)
      by true e =
          let within : n < length (table t rows ++ r ∷ []) = subst (λ l. n < length l) (table-own t e) h in
          ⊎_elim inl (λ past. inr (record { same_table = in_table t r e; last = omega (arith, length_push (table t rows) r) })) (cases_lt n (length (table t rows)))

  -- an older row stays where it is
  pub row-old : (t : Table) (n : ℕ) → n < size rows t → slice_get (table t (r ∷ rows)) n ≡ slice_get (table t rows) n
  row-old t n h = by (is_in t r) refl
    where
      by : (b : Bool) → is_in t r ≡ b → slice_get (table t (r ∷ rows)) n ≡ slice_get (table t rows) n
      by false e = ap (λ l. slice_get l n) (table-other t e)
      by true e = ap (λ l. slice_get l n) (table-own t e) ∙ slice_get-push_before (table t rows) r n h

  -- and the new one is at the end of its table
  pub row-new : slice_get (table (row_table r) (r ∷ rows)) (size rows (row_table r)) ≡ Some r
  row-new = ap (λ l. slice_get l (size rows (row_table r))) table-new ∙ slice_get-push_last (table (row_table r) rows) r

  -- tables only grow
  pub size-more : (t : Table) → size rows t ≤ size (r ∷ rows) t
  size-more t = by (is_in t r) refl
    where
      by : (b : Bool) → is_in t r ≡ b → size rows t ≤ size (r ∷ rows) t
      by false e = let same = ap length (table-other t e) in omega arith
      by true e = let more = ap length (table-own t e) in omega (arith, length_push (table t rows) r)

  -- a handle keeps its tree
  pub meaning-old : (t : Table) (n : ℕ) → n < size rows t → meaning (r ∷ rows) t n ≡ meaning rows t n
  unfolding meaning
  meaning-old t n h = ap (λ b. cond (is_in t r && b) (fill (meaning rows) (row_shape r)) (meaning rows t n)) (differs) ∙ never (is_in t r)
    where
      differs : eqb n (length (table t rows)) ≡ false
      differs = grind (arith, nat_tests)

      never : (b : Bool) → cond (b && false) (fill (meaning rows) (row_shape r)) (meaning rows t n) ≡ meaning rows t n
      never true = refl
      never false = refl

  -- and the new one has its shape's
  pub meaning-new : meaning (r ∷ rows) (row_table r) (size rows (row_table r)) ≡ fill (meaning rows) (row_shape r)
  unfolding meaning
  meaning-new = ap (λ b. cond (b && eqb (length (table (row_table r) rows)) (length (table (row_table r) rows))) (fill (meaning rows) (row_shape r)) (meaning rows (row_table r) (size rows (row_table r)))) (is_in_own r)
      ∙ ap (λ b. cond b (fill (meaning rows) (row_shape r)) (meaning rows (row_table r) (size rows (row_table r)))) equal
    where
      equal : eqb (length (table (row_table r) rows)) (length (table (row_table r) rows)) ≡ true
      equal = grind (arith, nat_tests)

  -- a handle keeps its age
  pub age-old : (t : Table) (n : ℕ) → n < size rows t → age (r ∷ rows) t n ≡ age rows t n
  unfolding age
  age-old t n h = ap (λ b. cond (is_in t r && b) (length rows) (age rows t n)) (differs) ∙ never (is_in t r)
    where
      differs : eqb n (length (table t rows)) ≡ false
      differs = grind (arith, nat_tests)

      never : (b : Bool) → cond (b && false) (length rows) (age rows t n) ≡ age rows t n
      never true = refl
      never false = refl

  -- and the new one comes after all rows
  pub age-new : age (r ∷ rows) (row_table r) (size rows (row_table r)) ≡ length rows
  unfolding age
  age-new = ap (λ b. cond (b && eqb (length (table (row_table r) rows)) (length (table (row_table r) rows))) (length rows) (age rows (row_table r) (size rows (row_table r)))) (is_in_own r)
      ∙ ap (λ b. cond b (length rows) (age rows (row_table r) (size rows (row_table r)))) equal
    where
      equal : eqb (length (table (row_table r) rows)) (length (table (row_table r) rows)) ≡ true
      equal = grind (arith, nat_tests)

-- whatever rows come, a handle stays in range and keeps its tree
pub keeps : (added rows : List Row) (t : Table) (n : ℕ) → n < size rows t → (n < size (added ++ rows) t) × (meaning (added ++ rows) t n ≡ meaning rows t n)
keeps [] rows t n h = (h, refl)
keeps (r ∷ added) rows t n h =
    let before = keeps added rows t n h in
    let more = size-more r (added ++ rows) t in
    (omega (arith, before.0), meaning-old r (added ++ rows) t n before.0 ∙ before.1)

-- and its row
pub slice_get-keeps : (added rows : List Row) (t : Table) (n : ℕ) → n < size rows t → slice_get (table t (added ++ rows)) n ≡ slice_get (table t rows) n
slice_get-keeps [] rows t n h = refl
slice_get-keeps (r ∷ added) rows t n h = row-old r (added ++ rows) t n (keeps added rows t n h).0 ∙ slice_get-keeps added rows t n h

-- a number in range has the same row in its table after other rows are added
pub get_or-keeps : (added rows : List Row) (t : Table) (n : ℕ) (d : Row) → n < size rows t → get_or (table t (added ++ rows)) n d ≡ get_or (table t rows) n d
get_or-keeps added rows t n d h = same_Some _ _
    (sym (slice_get-get_or (table t (added ++ rows)) n d (keeps added rows t n h).0) ∙ slice_get-keeps added rows t n h ∙ slice_get-get_or (table t rows) n d h)
