-- The entries of definitions, and what the rows say of them.
use Rattle.std.proofs.Common.{◌≡◌, ◌↔◌, IsTrue, take, Bor, ⊎_elim, ℕ, suc, ◌≤◌, Bool, true, false, cond}
use Rattle.std.proofs.Common.{if◌then◌else◌, eqb, List, [], ◌∷◌, ◌++◌, length, map, slice_get, All, Option, Some, None}
use Rattle.std.proofs.Common.{is_some, Ok, refl, sym, ap, subst, ◌∙◌, arith}
use Rattle.std.specs.Map.{lookup}
use Rattle.std.specs.Option.{option_map, option_copied, option_or}
use Rattle.std.specs.declared.alloc.Global.{Global}
use Rattle.std.specs.declared.vec.Vec.{Vec}
use Rattle.std.proofs.lemmas.Bool.{eqb-true, eq-eqb, false≢true}
use Rattle.std.proofs.Math.Dec.{leb}
use Rattle.std.proofs.lemmas.Bool.Decides.{nat_tests}
use Rattle.std.proofs.lemmas.List.{length-map, map-append, take_all}
use Rattle.std.proofs.lemmas.List.Elements.{All-nil, All-cons, All-head, All-tail, All-map}
use Rattle.std.proofs.lemmas.Option.{none-some, same_Some, slice_get_within}
use Rattle.tt_index.specs.Greatest.{greatest}
use Rattle.tt_kinds.specs.Variant.{Variant, variant_of, HasIndices}
use Rattle.tt_kinds.specs.Shape.{IsPart, AreParts, item_shapes}
use Rattle.tt_kinds.specs.Values.{symbol_shape, option_shape, field_def_shape, variant_shape}
use Rattle.tt_kinds.specs.Handle.{Symbol}
use Rattle.tt_kinds.specs.declared.variant.FieldDef.{FieldDef}
use Rattle.tt_kinds.specs.declared.variant.VariantDef.{VariantDef}
use Rattle.tt_kinds.specs.declared.id.Id.{Id}
use Rattle.tt_kinds.specs.declared.table.Table.TheVariants.{Definitions}
use Rattle.tt_interner.specs.Rows.{Row, defined_row, is_in, table, size, IsNew, IsWellFormed, AreRows, Grows}
use Rattle.tt_interner.specs.Definitions.{variants_in, variants_among, variants_of, IsDefined, HasOwnName, IsOwnField}
use Rattle.tt_interner.specs.Definitions.{IsOwnVariant, FitsDeclaration, Defines}
use Rattle.tt_interner.specs.Stored.{Terms, IsAt, Adds}
use Rattle.tt_interner.specs.Tables.{TableEntry, Tables, AreTables, table_entries, defined_entries, no_info}
use Rattle.tt_interner.proofs.RowLaws.{table-own, table-other, row-old, place_cases}
use Rattle.tt_interner.proofs.Trees.{Means-row, row_at_newest}
use Rattle.tt_interner.proofs.FoundLaws.{IsNew-from_table}
use Rattle.tt_interner.proofs.StoreSteps.{Adds-extends}

-- the rows that are kept
abbrev kept_rows : {S : Type 0} → List (Id S × Vec VariantDef Global) → List Row
kept_rows es = map (λ (e : TableEntry). e.row) (defined_entries es)

-- a definition's variants, without their vectors
abbrev variants : Vec VariantDef Global → List Variant
variants vs = map variant_of vs.items

-- one definition more
pub defined_entries-push : {S : Type 0} (es es' : List (Id S × Vec VariantDef Global)) (id : Id S) (vs : Vec VariantDef Global) → es' ≡ es ++ (id, vs) ∷ []
    → defined_entries es' ≡ defined_entries es ++ record { row = defined_row id.number (map variant_of vs.items); info = no_info } ∷ []
defined_entries-push es es' id vs more =
    ap defined_entries more ∙ map-append (λ e. record { row = defined_row e.0.number (map variant_of e.1.items); info = no_info }) es ((id, vs) ∷ [])

-- what the rows define is what a look-up finds
variants-kept : {S : Type 0} (n : ℕ) (es : List (Id S × Vec VariantDef Global))
    → variants_among n (kept_rows es) ≡ option_map variants (lookup (λ (k : Id S). eqb n k.number) es)
variants-kept n [] = refl
variants-kept {S} n (e ∷ es) = by (eqb n e.0.number) (variants-kept n es)
  where
    by : (b : Bool) → variants_among n (kept_rows es) ≡ option_map variants (lookup (λ (k : Id S). eqb n k.number) es)
        → option_or (if b then Some (variants e.1) else None) (variants_among n (kept_rows es)) ≡ option_map variants (cond b (Some e.1) (lookup (λ (k : Id S). eqb n k.number) es))
    by true rest = refl
    by false rest = rest

-- a row that defines a data type has its variants
defined_by : (n : ℕ) (vs : List Variant) → variants_in n (defined_row n vs) ≡ Some vs
defined_by n vs = rw (eq-eqb n n refl) refl

-- no row is another data type's
IsNew-defined : (n : ℕ) (us : List Variant) (rs : List Row) → variants_among n rs ≡ None → IsNew (defined_row n us) rs
unfolding IsNew
IsNew-defined n us [] none = tt
IsNew-defined n us (r ∷ rs) none = by (variants_in n r) refl (IsNew-defined n us rs) none
  where
    by : (o : Option (List Variant)) → variants_in n r ≡ o → (variants_among n rs ≡ None → IsNew (defined_row n us) rs)
        → option_or o (variants_among n rs) ≡ None → IsNew (defined_row n us) (r ∷ rs)
    by None e rest none = (λ same. none-some us (sym e ∙ ap (variants_in n) same ∙ defined_by n us), rest none)
    by (Some vs) e rest none = absurd (none-some vs (sym none))

-- what the rows say of the definitions that are kept
module _ {S : Type 0} (rows : List Row) (ts : Tables) (limit : ℕ) (are : AreTables rows ts limit) (es : List (Id S × Vec VariantDef Global)) (is : table_entries ts Definitions ≡ defined_entries es) where
  has_rows : table Definitions rows ≡ kept_rows es
  has_rows = are.has Definitions ∙ ap (map (λ (e : TableEntry). e.row)) is

  -- as many definitions are kept as the rows have
  pub defined_count : length es ≡ size rows Definitions
  defined_count = sym (ap length has_rows ∙ length-map (defined_entries es) (λ (e : TableEntry). e.row) ∙ length-map es (λ e. record { row = defined_row e.0.number (map variant_of e.1.items); info = no_info }))

  pub variants-found : (n : ℕ) → variants_of rows n ≡ option_map variants (lookup (λ (k : Id S). eqb n k.number) es)
  unfolding variants_of
  variants-found n = ap (variants_among n) has_rows ∙ variants-kept n es

  -- a definition is a new row if the rows don't define its data type
  pub defined_new : (n : ℕ) (us : List Variant) → variants_of rows n ≡ None → IsNew (defined_row n us) rows
  unfolding variants_of
  defined_new n us none = IsNew-from_table (defined_row n us) rows (subst (IsNew (defined_row n us)) (sym has_rows) (IsNew-defined n us (kept_rows es) (sym (ap (variants_among n) has_rows) ∙ none)))

-- a definition that is found is found among more rows
among-append : (n : ℕ) (rs more : List Row) (vs : List Variant) → variants_among n rs ≡ Some vs → variants_among n (rs ++ more) ≡ Some vs
among-append n [] more vs e = absurd (none-some vs e)
among-append n (r ∷ rs) more vs e = by (variants_in n r) (among-append n rs more vs) e
  where
    by : (o : Option (List Variant)) → (variants_among n rs ≡ Some vs → variants_among n (rs ++ more) ≡ Some vs)
        → option_or o (variants_among n rs) ≡ Some vs → option_or o (variants_among n (rs ++ more)) ≡ Some vs
    by None rest e = rest e
    by (Some us) rest e = e

variants-more : (r : Row) (rows : List Row) (n : ℕ) (vs : List Variant) → variants_of rows n ≡ Some vs → variants_of (r ∷ rows) n ≡ Some vs
unfolding variants_of
variants-more r rows n vs e = by (is_in Definitions r) refl
  where
    by : (b : Bool) → is_in Definitions r ≡ b → variants_among n (table Definitions (r ∷ rows)) ≡ Some vs
    by true p = ap (variants_among n) (table-own r rows Definitions p) ∙ among-append n (table Definitions rows) (r ∷ []) vs e
    by false p = ap (variants_among n) (table-other r rows Definitions p) ∙ e

variants-append : (more rows : List Row) (n : ℕ) (vs : List Variant) → variants_of rows n ≡ Some vs → variants_of (more ++ rows) n ≡ Some vs
variants-append [] rows n vs e = e
variants-append (r ∷ more) rows n vs e = variants-more r (more ++ rows) n vs (variants-append more rows n vs e)

-- a definition stays, whatever rows come
pub variants-grow : (old new : List Row) → Grows old new → (n : ℕ) (vs : List Variant) → variants_of old n ≡ Some vs → variants_of new n ≡ Some vs
variants-grow old new g n vs e = ap (λ rows. variants_of rows n) g.kept ∙ variants-append g.more old n vs e

-- what was added is found, where nothing was before
among-last : (n : ℕ) (rs : List Row) (vs : List Variant) → variants_among n rs ≡ None → variants_among n (rs ++ defined_row n vs ∷ []) ≡ Some vs
among-last n [] vs none = ap (λ o. option_or o None) (defined_by n vs)
among-last n (r ∷ rs) vs none = by (variants_in n r) (among-last n rs vs) none
  where
    by : (o : Option (List Variant)) → (variants_among n rs ≡ None → variants_among n (rs ++ defined_row n vs ∷ []) ≡ Some vs)
        → option_or o (variants_among n rs) ≡ None → option_or o (variants_among n (rs ++ defined_row n vs ∷ [])) ≡ Some vs
    by None rest none = rest none
    by (Some us) rest none = absurd (none-some us (sym none))

pub variants-new : (old new : List Row) (n : ℕ) (vs : List Variant) → new ≡ defined_row n vs ∷ old → variants_of old n ≡ None → variants_of new n ≡ Some vs
unfolding variants_of
variants-new old new n vs is none = rw is (ap (variants_among n) (table-own (defined_row n vs) old Definitions refl) ∙ among-last n (table Definitions old) vs none)

-- the parts of a definition are in range exactly where its names and types are
module _ (rows : List Row) where
  name-part : (name : Option Symbol) → HasOwnName rows name → IsPart (size rows) (option_shape symbol_shape name)
  name-part None own = (refl, tt, tt)
  name-part (Some x) own = (refl, tt, (own, tt))

  part-name : (name : Option Symbol) → IsPart (size rows) (option_shape symbol_shape name) → HasOwnName rows name
  part-name None parts = tt
  part-name (Some x) parts = parts.2.0

  fields-parts : (fs : List FieldDef) → All (IsOwnField rows) fs → AreParts (size rows) (item_shapes field_def_shape fs)
  fields-parts [] own = tt
  fields-parts (f ∷ fs) own =
      let first = All-head (IsOwnField rows) f fs own in
      ((refl, tt, (first.0, (first.1, tt))), fields-parts fs (All-tail (IsOwnField rows) f fs own))

  parts-fields : (fs : List FieldDef) → AreParts (size rows) (item_shapes field_def_shape fs) → All (IsOwnField rows) fs
  parts-fields [] parts = All-nil (IsOwnField rows)
  parts-fields (f ∷ fs) parts = All-cons (IsOwnField rows) f fs (parts.0.2.0, parts.0.2.1.0) (parts-fields fs parts.1)

  -- if the names and types in variants are in range, so are the variants' parts
  pub variants-parts : (vs : List VariantDef) → All (IsOwnVariant rows) vs → AreParts (size rows) (item_shapes variant_shape (map variant_of vs))
  variants-parts [] own = tt
  variants-parts (v ∷ vs) own =
      let first = All-head (IsOwnVariant rows) v vs own in
      ((refl, tt, (name-part v.name first.0, ((refl, tt, fields-parts v.fields.items first.1), tt))), variants-parts vs (All-tail (IsOwnVariant rows) v vs own))

  -- if variants' parts are in range, so are the names and types in the variants
  pub parts-variants : (vs : List VariantDef) → AreParts (size rows) (item_shapes variant_shape (map variant_of vs)) → All (IsOwnVariant rows) vs
  parts-variants [] parts = All-nil (IsOwnVariant rows)
  parts-variants (v ∷ vs) parts = All-cons (IsOwnVariant rows) v vs (part-name v.name parts.0.2.0, parts-fields v.fields.items parts.0.2.1.0.2) (parts-variants vs parts.1)

-- as many as before they lost their vectors
pub few-fields : (vs : List VariantDef) → FitsDeclaration vs → HasIndices (map variant_of vs)
few-fields vs fits = (let same = length-map vs variant_of in let few = fits.0 in omega arith, All-map (λ v. length v.fields ≤ greatest) variant_of vs fits.1)

-- variants fit a declaration if, without their vectors, indices can number them and their fields
pub fields-few : (vs : List VariantDef) → HasIndices (map variant_of vs) → FitsDeclaration vs
fields-few vs fits = (let same = length-map vs variant_of in let few = fits.0 in omega arith, unmapped vs fits.1)
  where
    unmapped : (us : List VariantDef) → All (λ v. length v.fields ≤ greatest) (map variant_of us) → All (λ v. length v.fields.items ≤ greatest) us
    unmapped [] h = All-nil (λ (v : VariantDef). length v.fields.items ≤ greatest)
    unmapped (u ∷ us) h = All-cons (λ (v : VariantDef). length v.fields.items ≤ greatest) u us
        (All-head (λ (v : Variant). length v.fields ≤ greatest) (variant_of u) (map variant_of us) h)
        (unmapped us (All-tail (λ (v : Variant). length v.fields ≤ greatest) (variant_of u) (map variant_of us) h))

-- a row that has the variants defines them
defines : (n : ℕ) (r : Row) (vs : List Variant) → variants_in n r ≡ Some vs → r ≡ defined_row n vs
defines n (defined_row m us) vs e = by (eqb n m) refl e
  where
    by : (b : Bool) → eqb n m ≡ b → (if b then Some us else None) ≡ Some vs → defined_row m us ≡ defined_row n vs
    by true p e = let numbers : n ≡ m = eqb-true n m p in let same = same_Some us vs e in λ j. defined_row (sym numbers j) (same j)
    by false p e = absurd (none-some vs e)
defines n _ vs e = absurd (none-some vs e)

-- the place of what is found
among-place : (n : ℕ) (rs : List Row) (vs : List Variant) → variants_among n rs ≡ Some vs → (i : ℕ) × (slice_get rs i ≡ Some (defined_row n vs))
among-place n [] vs e = absurd (none-some vs e)
among-place n (r ∷ rs) vs e = by (variants_in n r) refl (among-place n rs vs) e
  where
    by : (o : Option (List Variant)) → variants_in n r ≡ o → (variants_among n rs ≡ Some vs → (i : ℕ) × (slice_get rs i ≡ Some (defined_row n vs)))
        → option_or o (variants_among n rs) ≡ Some vs → (i : ℕ) × (slice_get (r ∷ rs) i ≡ Some (defined_row n vs))
    by None is rest e = let there = rest e in (suc there.0, there.1)
    by (Some us) is rest e = (0, ap Some (defines n r vs (is ∙ e)))

variants-at : (rows : List Row) (n : ℕ) (vs : List Variant) → variants_of rows n ≡ Some vs → (i : ℕ) × IsAt rows (defined_row n vs) i
unfolding variants_of
variants-at rows n vs e = among-place n (table Definitions rows) vs e

-- the parts of what is defined are in range
pub variants-in_range : (rows : List Row) → AreRows rows → (n : ℕ) (vs : List Variant) → variants_of rows n ≡ Some vs → AreParts (size rows) (item_shapes variant_shape vs)
variants-in_range rows are n vs e =
    let at = variants-at rows n vs e in
    (Means-row rows are Definitions at.0 (defined_row n vs) at.1).parts.1

-- and its indices fit
stored-few : (rows : List Row) → AreRows rows → (n : ℕ) (vs : List Variant) (i : ℕ) → IsAt rows (defined_row n vs) i → HasIndices vs
unfolding table AreRows
stored-few [] are n vs i at = absurd (none-some (defined_row n vs) at)
stored-few (r ∷ rows) are n vs i at = ⊎_elim
    (λ old. stored-few rows are.4 n vs i (sym (row-old r rows Definitions i old) ∙ at))
    (λ newest. subst (IsWellFormed rows) (same_Some r (defined_row n vs) (sym (row_at_newest r rows Definitions i newest) ∙ at)) are.3)
    (place_cases r rows Definitions i (slice_get_within (table Definitions (r ∷ rows)) i (defined_row n vs) at))

-- a defined data type has no more variants and fields than indices can number
pub variants-few : (rows : List Row) → AreRows rows → (n : ℕ) (vs : List Variant) → variants_of rows n ≡ Some vs → HasIndices vs
variants-few rows are n vs e = let at = variants-at rows n vs e in stored-few rows are n vs at.0 at.1

-- what isn't defined has no variants
pub undefined : (rows : List Row) (n : ℕ) → (IsDefined rows n → ⊥) → variants_of rows n ≡ None
undefined rows n h = by (variants_of rows n) refl
  where
    by : (o : Option (List Variant)) → variants_of rows n ≡ o → variants_of rows n ≡ None
    by None e = e
    by (Some vs) e = absurd (h (ap is_some e))

-- what a look-up in the map says
module _ {S : Type 0} (rows : List Row) (ts : Tables) (limit : ℕ) (are : AreTables rows ts limit) (es : List (Id S × Vec VariantDef Global)) (is : table_entries ts Definitions ≡ defined_entries es) where
  -- a look-up of a data type that isn't defined finds nothing
  pub not_there : (n : ℕ) → (IsDefined rows n → ⊥) → lookup (λ (k : Id S). eqb n k.number) es ≡ None
  not_there n h = by (lookup (λ (k : Id S). eqb n k.number) es) refl
    where
      by : (o : Option (Vec VariantDef Global)) → lookup (λ (k : Id S). eqb n k.number) es ≡ o → o ≡ None
      by None e = refl
      by (Some vs) e = absurd (none-some (map variant_of vs.items) (sym (undefined rows n h) ∙ variants-found rows ts limit are es is n ∙ ap (option_map variants) e))

  -- the variants that a look-up finds are the ones that the rows define
  pub there : (n : ℕ) (vs : Vec VariantDef Global) → lookup (λ (k : Id S). eqb n k.number) es ≡ Some vs → variants_of rows n ≡ Some (map variant_of vs.items)
  there n vs e = variants-found rows ts limit are es is n ∙ ap (option_map variants) e

  -- a data type that a look-up doesn't find isn't defined
  pub absent : (n : ℕ) → lookup (λ (k : Id S). eqb n k.number) es ≡ None → IsDefined rows n → ⊥
  absent n e h = false≢true (sym (ap is_some (variants-found rows ts limit are es is n ∙ ap (option_map variants) e)) ∙ h)

-- what a defining call promises of what it added
pub Defines-added : {H : Type 0} (number : H → ℕ) (h : H) (old new : Terms) (n : ℕ) {us : List Variant} (vs : List Variant) → us ≡ vs → variants_of old.rows n ≡ None
    → Adds (Ok h) number old new (defined_row n us) → Defines {T = Unit {0}} (Ok tt) old new n vs
Defines-added number h old new n {us} vs same none adds = let rows : new.rows ≡ defined_row n vs ∷ old.rows = adds.rows ∙ ap (λ l. defined_row n l ∷ old.rows) same in record {
  rows = rows;
  defined = variants-new old.rows new.rows n vs rows none;
  extends = Adds-extends adds;
  limit = adds.limit;
  counters = adds.counters;
  err = tt;
  cause = tt;
}

-- a borrow that is there is a value that is there
pub copied-some : {A : Type 0} (o : Option (Bor A)) → is_some o ≡ is_some (option_copied o)
copied-some None = refl
copied-some (Some x) = refl

mapped-some : {A B : Type 0} (f : A → B) (o : Option A) → is_some o ≡ is_some (option_map f o)
mapped-some f None = refl
mapped-some f (Some x) = refl

-- the map has what is defined
pub defined_test : {S : Type 0} (rows : List Row) (ts : Tables) (limit : ℕ) (are : AreTables rows ts limit) (es : List (Id S × Vec VariantDef Global)) (is : table_entries ts Definitions ≡ defined_entries es)
    → (n : ℕ) → is_some (lookup (λ (k : Id S). eqb n k.number) es) ≡ is_some (variants_of rows n)
defined_test rows ts limit are es is n =
    mapped-some variants (lookup (λ k. eqb n k.number) es) ∙ sym (ap is_some (variants-found rows ts limit are es is n))

-- a loop over all variants, and their number, decide whether the declaration fits
pub few-decides : (vs : List VariantDef) (i : ℕ) → length vs ≤ i → All (λ v. length v.fields.items ≤ greatest) (take i vs) → IsTrue (leb (length vs) greatest) ↔ FitsDeclaration vs
few-decides vs i past fields = (
  λ is. (grind (arith, nat_tests), subst (All (λ v. length v.fields.items ≤ greatest)) (take_all i vs past) fields),
  λ fits. let few = fits.0 in grind (arith, nat_tests),
)
