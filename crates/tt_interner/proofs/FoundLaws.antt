-- What a look-up in a table says of the rows.
use Rattle.std.proofs.Common.{◌≡◌, ℕ, zero, suc, Bool, true, false, cond, List, [], ◌∷◌, ◌++◌, slice_get, map, get_or}
use Rattle.std.proofs.Common.{Option, Some, None, position, refl, sym, ap, subst, ◌∙◌, is_some, if◌then◌else◌}
use Rattle.std.proofs.lemmas.Bool.{false≢true}
use Rattle.std.proofs.lemmas.Option.{slice_get-get_or, none-some, same_Some}
use Rattle.std.proofs.lemmas.List.Quantifiers.{position-Some}
use Rattle.std.proofs.lemmas.Map.{NonePasses}
use Rattle.std.specs.Map.{keys_of, values_of, lookup}
use Rattle.std.specs.Option.{option_map}
use Rattle.indexmap.specs.IndexMap.{insert_entry}
use Rattle.indexmap.proofs.MapLemmas.{some_index, value_index}
use Rattle.tt_kinds.specs.declared.table.Table.{Table}
use Rattle.tt_interner.specs.Rows.{Row, row_table, is_in, table, IsNew}
use Rattle.tt_flags.specs.declared.flag_computation.FlagComputation.{FlagComputation}
use Rattle.tt_interner.specs.Tables.{TableEntry, entries_by}
use Rattle.tt_interner.proofs.RowLaws.{table-own, table-other, is_in_own}

-- an option of which `is_some` is false is None
pub none_from_not_some : {X : Type 0} (o : Option X) → is_some o ≡ false → o ≡ None
none_from_not_some None e = refl
none_from_not_some (Some x) e = cc

-- a key that a look-up doesn't find has no place
pub no_place : {K V : Type 0} (test : K → Bool) (es : List (K × V)) (n : ℕ) → lookup test es ≡ None → position test (keys_of es) ≡ Some n → ⊥
no_place test es n none place = false≢true (sym (ap is_some none) ∙ sym (some_index test es) ∙ ap is_some place)

-- a look-up finds nothing where no key passes the test
pub no_value : {K V : Type 0} (test : K → Bool) (es : List (K × V)) → position test (keys_of es) ≡ None → lookup test es ≡ None
no_value test es none = none_from_not_some (lookup test es) (sym (some_index test es) ∙ ap is_some none)

-- the place of what a look-up finds
pub value_place : {K V : Type 0} (test : K → Bool) (es : List (K × V)) (v : V) → lookup test es ≡ Some v → (n : ℕ) × (position test (keys_of es) ≡ Some n) × (slice_get (values_of es) n ≡ Some v)
value_place test es v h = by (position test (keys_of es)) refl
  where
    by : (p : Option ℕ) → position test (keys_of es) ≡ p → (n : ℕ) × (position test (keys_of es) ≡ Some n) × (slice_get (values_of es) n ≡ Some v)
    by None p = absurd (none-some v (sym (no_value test es p) ∙ h))
    by (Some n) p = (n, p, rw p at (value_index test es) ∙ h)

-- an entry that is inserted as it is there changes nothing
pub insert_entry-same : {K V : Type 0} (eq : K → K → Bool) (k : K) (v : V) (es : List (K × V)) → lookup (eq k) es ≡ Some v → insert_entry eq es k v ≡ es
insert_entry-same eq k v [] h = absurd (none-some v h)
insert_entry-same eq k v (e ∷ es) h = by (eq k e.0) refl (insert_entry-same eq k v es)
  where
    by : (b : Bool) → eq k e.0 ≡ b → (lookup (eq k) es ≡ Some v → insert_entry eq es k v ≡ es) → insert_entry eq (e ∷ es) k v ≡ e ∷ es
    by true p rest =
        let same = same_Some e.1 v (sym (ap (λ b. cond b (Some e.1) (lookup (eq k) es)) p) ∙ h) in
        ap (λ b. if b then (e.0, v) ∷ es else (e ∷ insert_entry eq es k v)) p ∙ ap (λ w. (e.0, w) ∷ es) (sym same)
    by false p rest =
        ap (λ b. if b then (e.0, v) ∷ es else (e ∷ insert_entry eq es k v)) p ∙ ap (λ l. e ∷ l) (rest (sym (ap (λ b. cond b (Some e.1) (lookup (eq k) es)) p) ∙ h))

-- the row of the entry at an index is its key's row
pub slice_get-rows : {K V : Type 0} (row : K → Row) (info : V → FlagComputation) (es : List (K × V)) (i : ℕ) → slice_get (map (λ (e : TableEntry). e.row) (entries_by row info es)) i ≡ option_map row (slice_get (keys_of es) i)
slice_get-rows row info [] i = refl
slice_get-rows row info (e ∷ es) zero = refl
slice_get-rows row info (e ∷ es) (suc i) = slice_get-rows row info es i

-- the test for the key q passes exactly for the keys of the row r
pub record IsKey {K : Type 0} (test : K → Bool) (row : K → Row) (r : Row) : Type 0 where
  pub exact : (k : K) → test k ≡ true → row k ≡ r
  pub same : (k : K) → row k ≡ r → test k ≡ true

module _ {K V : Type 0} (test : K → Bool) (row : K → Row) (info : V → FlagComputation) (r : Row) (key : IsKey test row r) where
  -- the entry that passes is the entry of the row r
  pub found_row : (es : List (K × V)) (i : ℕ) → position test (keys_of es) ≡ Some i → slice_get (map (λ (e : TableEntry). e.row) (entries_by row info es)) i ≡ Some r
  found_row [] i e = absurd (none-some i e)
  found_row (first ∷ es) i e =
      let at = position-Some test (keys_of (first ∷ es)) i first.0 e in
      slice_get-rows row info (first ∷ es) i
      ∙ ap (option_map row) (slice_get-get_or (keys_of (first ∷ es)) i first.0 at.0)
      ∙ ap Some (key.exact (get_or (keys_of (first ∷ es)) i first.0) at.1)

  -- where no entry passes, none is the entry of the row r
  pub new_row : (es : List (K × V)) → NonePasses test es → IsNew r (map (λ (e : TableEntry). e.row) (entries_by row info es))
  unfolding IsNew
  new_row [] none = tt
  new_row (e ∷ es) none = (λ is. false≢true (sym none.0 ∙ key.same e.0 is), new_row es none.1)

  -- where the row r is none of the entries', no entry passes
  pub absent_row : (es : List (K × V)) → IsNew r (map (λ (e : TableEntry). e.row) (entries_by row info es)) → lookup test es ≡ None
  unfolding IsNew
  absent_row [] new = refl
  absent_row (e ∷ es) new = by (test e.0) refl (absent_row es new.1)
    where
      by : (b : Bool) → test e.0 ≡ b → lookup test es ≡ None → lookup test (e ∷ es) ≡ None
      by true e' rest = absurd (new.0 (key.exact e.0 e'))
      by false e' rest = ap (λ b. cond b (Some e.1) (lookup test es)) e' ∙ rest

IsNew-append : (r : Row) (xs ys : List Row) → IsNew r (xs ++ ys) → IsNew r xs × IsNew r ys
unfolding IsNew
IsNew-append r [] ys new = (tt, new)
IsNew-append r (x ∷ xs) ys new = let rest = IsNew-append r xs ys new.1 in ((new.0, rest.0), rest.1)

-- a row that its table doesn't have is new
pub IsNew-from_table : (r : Row) (rows : List Row) → IsNew r (table (row_table r) rows) → IsNew r rows
unfolding IsNew table
IsNew-from_table r [] new = tt
IsNew-from_table r (q ∷ rows) new = by (is_in (row_table r) q) refl (IsNew-from_table r rows)
  where
    by : (b : Bool) → is_in (row_table r) q ≡ b → (IsNew r (table (row_table r) rows) → IsNew r rows) → IsNew r (q ∷ rows)
    by true e rest =
        let parts = IsNew-append r (table (row_table r) rows) (q ∷ []) (subst (IsNew r) (table-own q rows (row_table r) e) new) in
        (parts.1.0, rest parts.0)
    by false e rest =
        (λ same. false≢true (sym e ∙ ap (is_in (row_table r)) same ∙ is_in_own r), rest (subst (IsNew r) (table-other q rows (row_table r) e) new))

IsNew-push : (r : Row) (xs : List Row) (y : Row) → IsNew r xs → (y ≡ r → ⊥) → IsNew r (xs ++ y ∷ [])
unfolding IsNew
IsNew-push r [] y new apart = (apart, tt)
IsNew-push r (x ∷ xs) y new apart = (new.0, IsNew-push r xs y new.1 apart)

-- a new row is in no table
pub IsNew-table : (r : Row) (rows : List Row) (t : Table) → IsNew r rows → IsNew r (table t rows)
unfolding IsNew table
IsNew-table r [] t new = tt
IsNew-table r (q ∷ rows) t new = by (is_in t q) refl (IsNew-table r rows t new.1)
  where
    by : (b : Bool) → is_in t q ≡ b → IsNew r (table t rows) → IsNew r (table t (q ∷ rows))
    by true e rest = subst (IsNew r) (sym (table-own q rows t e)) (IsNew-push r (table t rows) q rest new.0)
    by false e rest = subst (IsNew r) (sym (table-other q rows t e)) rest
