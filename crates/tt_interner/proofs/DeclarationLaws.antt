-- The entries of declarations, and the row that comes last.
use Rattle.std.proofs.Common.{◌≡◌, ◌↔◌, ℕ, zero, suc, ◌+◌, ◌<◌, ◌≤◌, Bool, true, false, eqb, List, [], ◌∷◌, ◌++◌}
use Rattle.std.proofs.Common.{length, map, slice_get, get_or, Some, Result, Ok, Err, refl, sym, ap, subst, ◌∙◌, arith}
use Rattle.std.specs.Cmp.Lexicographic.{bytes_decides}
use Rattle.std.proofs.lemmas.Bool.{eqb-true, eq-eqb}
use Rattle.std.proofs.lemmas.List.{length-map}
use Rattle.std.proofs.lemmas.Option.{same_Some, none-some, get_or_from_slice_get, slice_get_within}
use Rattle.tt_kinds.specs.declared.declaration.Declaration.{Declaration}
use Rattle.tt_kinds.specs.declared.table.Table.TheVariants.{Symbols, Declarations}
use Rattle.tt_kinds.specs.declared.declaration.DeclarationKind.{DeclarationKind}
use Rattle.tt_kinds.specs.Handle.{Symbol}
use Rattle.tt_kinds.specs.declared.id.DefId.{DefId}
use Rattle.tt_index.specs.declared.refusal.Refusal.{Refusal}
use Rattle.tt_kinds.specs.Shape.{fill, text_of, name_of}
use Rattle.tt_interner.specs.Rows.{Row, text_row, declared_row, table, size, meaning, IsNew, AreRows, Grows}
use Rattle.tt_interner.specs.Declarations.{declaration_of, declared_at, Declares, is_anonymous}
use Rattle.tt_interner.specs.Stored.{Terms, IsAt, HasFirst, Adds, anonymous_text}
use Rattle.tt_interner.specs.Tables.{TableEntry, Tables, AreTables, table_entries, declared_entries, no_info}
use Rattle.tt_interner.proofs.RowLaws.{row-new, get_or-keeps}
use Rattle.tt_interner.proofs.FoundLaws.{IsNew-from_table}
use Rattle.tt_interner.proofs.StoreSteps.{Adds-extends}
use Rattle.tt_interner.proofs.Fill.{name_one}
use Rattle.tt_interner.proofs.Trees.{Means-row, distinct}

-- one declaration more
declared_entries-push : (n : ℕ) (ds : List Declaration) (d : Declaration) (m : ℕ) → n + length ds ≡ m
    → declared_entries n (ds ++ d ∷ []) ≡ declared_entries n ds ++ record { row = declared_row m d; info = no_info } ∷ []
declared_entries-push n [] d m count = let same : n ≡ m = omega arith in ap (λ k. record { row = declared_row k d; info = no_info } ∷ []) same
declared_entries-push n (e ∷ ds) d m count = ap (λ es. record { row = declared_row n e; info = no_info } ∷ es) (declared_entries-push (n + 1) ds d m (omega arith))

-- a declaration more is one entry more, whose number is how many there were before
pub declared_entries-added : (ds ds' : List Declaration) (d : Declaration) (n : ℕ) → ds' ≡ ds ++ d ∷ [] → length ds ≡ n
    → declared_entries 0 ds' ≡ declared_entries 0 ds ++ record { row = declared_row n d; info = no_info } ∷ []
declared_entries-added ds ds' d n more count = ap (declared_entries 0) more ∙ declared_entries-push 0 ds d n (omega arith)

length-declared_entries : (n : ℕ) (ds : List Declaration) → length (declared_entries n ds) ≡ length ds
length-declared_entries n [] = refl
length-declared_entries n (d ∷ ds) = let rest = length-declared_entries (n + 1) ds in omega arith

-- the row of a declaration
slice_get-declared : (n : ℕ) (ds : List Declaration) (i m : ℕ) (d : Declaration) → n + i ≡ m → slice_get ds i ≡ Some d
    → slice_get (map (λ (e : TableEntry). e.row) (declared_entries n ds)) i ≡ Some (declared_row m d)
slice_get-declared n [] i m d count at = absurd (none-some d at)
slice_get-declared n (e ∷ ds) zero m d count at =
    let same : n ≡ m = omega arith in let first = same_Some e d at in λ j. Some (declared_row (same j) (first j))
slice_get-declared n (e ∷ ds) (suc i) m d count at = slice_get-declared (n + 1) ds i m d (omega arith) at

abbrev place : Row → ℕ
place (declared_row n d) = n
place _ = 0

-- a number that no declaration has is new
IsNew-declared : (n : ℕ) (ds : List Declaration) (m : ℕ) (d : Declaration) → n + length ds ≤ m → IsNew (declared_row m d) (map (λ (e : TableEntry). e.row) (declared_entries n ds))
unfolding IsNew
IsNew-declared n [] m d h = tt
IsNew-declared n (e ∷ ds) m d h = ((λ same. let places : n ≡ m = ap place same in absurd (omega arith)), IsNew-declared (n + 1) ds m d (omega arith))

-- what the rows say of the declarations that are kept
module _ (rows : List Row) (ts : Tables) (limit : ℕ) (are : AreTables rows ts limit) (ds : List Declaration) (is : table_entries ts Declarations ≡ declared_entries 0 ds) where
  has_rows : table Declarations rows ≡ map (λ (e : TableEntry). e.row) (declared_entries 0 ds)
  has_rows = are.has Declarations ∙ ap (map (λ (e : TableEntry). e.row)) is

  -- as many declarations are kept as the rows have
  pub declared_count : length ds ≡ size rows Declarations
  declared_count = sym (ap length has_rows ∙ length-map (declared_entries 0 ds) (λ (e : TableEntry). e.row) ∙ length-declared_entries 0 ds)

  -- a declaration with the number of those that are kept is a new row
  pub declared_new : (n : ℕ) (d : Declaration) → length ds ≡ n → IsNew (declared_row n d) rows
  declared_new n d count = IsNew-from_table (declared_row n d) rows (subst (IsNew (declared_row n d)) (sym has_rows) (IsNew-declared 0 ds n d (omega arith)))

  -- the declaration that is kept at a place is the row of that number
  pub declared_is : (n : ℕ) (d : Declaration) → slice_get ds n ≡ Some d → IsAt rows (declared_row n d) n
  declared_is n d at = ap (λ l. slice_get l n) has_rows ∙ slice_get-declared 0 ds n n d (omega arith) at

-- what a row's declaration is
pub declared_at-row : (rows : List Row) (id : DefId) (d : Declaration) → IsAt rows (declared_row id.number d) id.number → d ≡ declared_at rows id
unfolding declared_at
declared_at-row rows id d at = ap declaration_of (sym (get_or_from_slice_get (table Declarations rows) id.number (declared_row id.number d) (text_row []) at))

-- an id in range keeps its declaration while the rows grow
pub declared_at-grows : (old new : List Row) → Grows old new → (id : DefId) → id.number < size old Declarations → declared_at new id ≡ declared_at old id
unfolding declared_at
declared_at-grows old new g id h =
    let same : get_or (table Declarations new) id.number (text_row []) ≡ get_or (table Declarations old) id.number (text_row []) = rw g.kept (get_or-keeps g.more old Declarations id.number (text_row []) h) in
    ap declaration_of same

-- what was added is declared
pub declared_at-new : (old new : List Row) (n : ℕ) (d : Declaration) → new ≡ declared_row (size old Declarations) d ∷ old → n ≡ size old Declarations → declared_at new (record { number = n }) ≡ d
declared_at-new old new n d is count = rw (is, count) (sym (declared_at-row (declared_row (size old Declarations) d ∷ old) (record { number = size old Declarations }) d (row-new (declared_row (size old Declarations) d) old)))

-- a call that adds the row of a declaration, or is refused, keeps the promise of declaring
pub Declares-added : {H : Type 0} (result : Result H Refusal) (number : H → ℕ) (old new : Terms) (kind : DeclarationKind) (name : Symbol)
    → Adds result number old new (declared_row (size old.rows Declarations) (record { kind = kind; name = name })) → Declares result number old new kind name
Declares-added (Ok h) number old new kind name adds = record { adds = adds; extends = Adds-extends adds; declared = declared_at-new old.rows new.rows (number h) (record { kind = kind; name = name }) adds.rows adds.last }
Declares-added (Err e) number old new kind name adds = record { adds = adds; extends = Adds-extends adds; declared = tt }

same_tests : (a b : Bool) → (a ≡ true → b ≡ true) → (b ≡ true → a ≡ true) → a ≡ b
same_tests true b f g = sym (f refl)
same_tests false true f g = g refl
same_tests false false f g = refl

-- the first text is `'_`, and no other is
pub anonymous_is_first : (rows : List Row) → AreRows rows → HasFirst rows → (name : Symbol) → name.number < size rows Symbols → is_anonymous rows name ≡ eqb name.number 0
unfolding is_anonymous fill
anonymous_is_first rows are first name h = same_tests (is_anonymous rows name) (eqb name.number 0)
    (λ is. eq-eqb name.number 0 (there (decides.0 is))) (λ is. decides.1 (back (eqb-true name.number 0 is)))
  where
    decides : (is_anonymous rows name ≡ true) ↔ (name_of (meaning rows) name.number ≡ anonymous_text)
    decides = bytes_decides (name_of (meaning rows) name.number) anonymous_text

    text : name_of (meaning rows) 0 ≡ anonymous_text
    text = ap text_of (Means-row rows are Symbols 0 (text_row anonymous_text) first.text).tree

    there : name_of (meaning rows) name.number ≡ anonymous_text → name.number ≡ 0
    there e = name_one (size rows) (meaning rows) (distinct rows are) name.number 0 h (slice_get_within (table Symbols rows) 0 (text_row anonymous_text) first.text) (e ∙ sym text)

    back : name.number ≡ 0 → name_of (meaning rows) name.number ≡ anonymous_text
    back e = ap (name_of (meaning rows)) e ∙ text
