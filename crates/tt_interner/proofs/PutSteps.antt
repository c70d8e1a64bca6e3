-- What a call owes that finds or adds an entry by one look-up, by what its value was.
use Rattle.std.proofs.Common.{◌≡◌, ℕ, ◌<◌, ◌≤◌, Bool, List, [], ◌∷◌, ◌++◌, length, position, Some, None, Result, Ok}
use Rattle.std.proofs.Common.{Err, ◌⊎◌, inl, inr, refl, sym, ap, subst, ◌∙◌, arith}
use Rattle.std.specs.Map.{keys_of, lookup}
use Rattle.tt_kinds.specs.declared.table.Table.{Table}
use Rattle.tt_flags.specs.declared.flag_computation.FlagComputation.{FlagComputation}
use Rattle.tt_index.specs.declared.refusal.Refusal.{Refusal}
use Rattle.tt_index.specs.declared.refusal.Refusal.TheVariants.{Memory, TableFull}
use Rattle.tt_kinds.specs.Shape.{fill, HasParts, IsTooDeep}
use Rattle.tt_kinds.specs.Range.{IndicesFitIn}
use Rattle.tt_interner.specs.Rows.{Row, row_table, row_shape, size, meaning, IsNew, IsWellFormed, AreRows}
use Rattle.tt_interner.specs.Stored.{Terms, Counters, IsInfo, IsAt, Puts, Builds}
use Rattle.tt_interner.specs.Info.{keeps_info}
use Rattle.std.specs.Prelude.{IsTrue}
use Rattle.tt_interner.specs.Tables.{Tables, table_entries, with_entries, rows_in_order, entries_by, Keeps}
use Rattle.tt_interner.proofs.FoundLaws.{IsKey}
use Rattle.tt_interner.proofs.StoreSteps.{Builds-put}
use Rattle.tt_interner.proofs.TableLaws.{count, same_info, found_or_absent, kept, added, unchanged, still_kept, refused}

ok_one : (a b : ℕ) (result : Result ℕ Refusal) → result ≡ Ok a → result ≡ Ok b → a ≡ b
ok_one a b result p q = cc

ok_err : (n : ℕ) (e : Refusal) (result : Result ℕ Refusal) → result ≡ Ok n → result ≡ Err e → ⊥
ok_err n e result p q = cc

-- the row r has the key of an entry of its table, or of none
module _ {K : Type 0} (order : List Table) (ts : Tables) (limit : ℕ) (counters : Counters) (old : Terms) (view_is : record { rows = rows_in_order order ts; limit = limit; counters = counters } ≡ old) (keeps : Keeps order ts limit)
    (row : K → Row) (test : K → Bool) (r : Row) (key : IsKey test row r) (es : List (K × FlagComputation)) (is : table_entries ts (row_table r) ≡ entries_by row (λ v. v) es) where
  -- a table has no more entries than the limit
  pub few : length es ≤ limit
  few = let many = count _ _ _ keeps.tables (row_table r) row (λ v. v) es is in let within = keeps.tables.within (row_table r) in omega arith

  are : AreRows old.rows
  are = subst (λ (v : Terms). AreRows v.rows) view_is keeps.tables.are

  module _ (info : FlagComputation) (is_info : IsInfo info (fill (meaning old.rows) (row_shape r))) where
    -- what a table keeps for the row, if it keeps cached information, is what was computed for it
    pub same : IsTrue (keeps_info (row_table r)) → (there : FlagComputation) → lookup test es ≡ Some there → there ≡ info
    same has_info there h = same_info _ _ _ keeps.tables (row_table r) row es is has_info test r refl key there info h
        (subst (λ (v : Terms). IsInfo info (fill (meaning v.rows) (row_shape r))) (sym view_is) is_info)

    -- where it was found, nothing changed
    module _ (order' : List Table) (es' : List (K × FlagComputation)) (back : with_entries ts (row_table r) (entries_by row (λ v. v) es) ≡ ts) (result : Result ℕ Refusal)
        (found : (n : ℕ) → position test (keys_of es) ≡ Some n → (result ≡ Ok n) × (order' ≡ order) × (es' ≡ es)) where
      stays : es' ≡ es → with_entries ts (row_table r) (entries_by row (λ v. v) es') ≡ ts
      stays e = ap (λ x. with_entries ts (row_table r) (entries_by row (λ v. v) x)) e ∙ back

      -- else an entry was added
      module _ (n' : ℕ) (ok : result ≡ Ok n') (noted : position test (keys_of es) ≡ None → order' ≡ order ++ row_table r ∷ [])
          (more : position test (keys_of es) ≡ None → entries_by row (λ v. v) es' ≡ entries_by row (λ v. v) es ++ (record { row = r; info = info }) ∷ [])
          (last : position test (keys_of es) ≡ None → (n' ≡ length es) × (n' < limit)) where
        pushed : position test (keys_of es) ≡ None → with_entries ts (row_table r) (entries_by row (λ v. v) es') ≡ with_entries ts (row_table r) (table_entries ts (row_table r) ++ (record { row = r; info = info }) ∷ [])
        pushed none = ap (with_entries ts (row_table r)) (more none ∙ ap (λ l. l ++ (record { row = r; info = info }) ∷ []) (sym is))

        -- whether an entry was found or added, the fields agree afterwards
        pub put_kept : HasParts (size old.rows) (row_shape r) → IndicesFitIn (row_shape r) → IsWellFormed old.rows r → Keeps order' (with_entries ts (row_table r) (entries_by row (λ v. v) es')) limit
        put_kept parts fit holds =
            let many = count _ _ _ keeps.tables (row_table r) row (λ v. v) es is in
            found_or_absent _ _ _ keeps.tables (row_table r) row (λ v. v) es is test r refl key
            (λ n place at. still_kept order order' ts _ limit counters old view_is keeps (found n place).1 (stays (found n place).2))
            (λ none new. kept order order' ts _ limit counters old view_is keeps (record { row = r; info = info }) (pushed none) (noted none) n' ((last none).0 ∙ many) (last none).1
            parts fit holds (subst (λ (v : Terms). IsNew r v.rows) view_is new) is_info)

        -- the returned number is the row's, which was there and nothing changed, or was added as a new one
        pub put : {H : Type 0} (number : H → ℕ) (h : H) → number h ≡ n' → Puts (Ok h) number old (record { rows = rows_in_order order' (with_entries ts (row_table r) (entries_by row (λ v. v) es')); limit = limit; counters = counters }) r
        put number h named =
            let many = count _ _ _ keeps.tables (row_table r) row (λ v. v) es is in
            found_or_absent _ _ _ keeps.tables (row_table r) row (λ v. v) es is test r refl key
            (λ n place at. inl (
              h,
              refl,
              subst (λ (v : Terms). IsAt v.rows r (number h)) view_is (subst (IsAt (rows_in_order order ts) r) (sym (named ∙ ok_one n' n result ok (found n place).0)) at),
              unchanged order order' ts _ limit counters old view_is keeps (found n place).1 (stays (found n place).2),
            ))
            (λ none new. inr (
              subst (λ (v : Terms). IsNew r v.rows) view_is new,
              added order order' ts _ limit counters old view_is keeps (record { row = r; info = info }) (pushed none) (noted none) n' ((last none).0 ∙ many) (last none).1 number h named,
            ))

        -- a call that returns the row's number keeps the promise of a building call
        pub built : {H : Type 0} (number : H → ℕ) (h : H) → number h ≡ n' → (IsTooDeep (row_shape r) → ⊥)
            → Builds (Ok h) number old (record { rows = rows_in_order order' (with_entries ts (row_table r) (entries_by row (λ v. v) es')); limit = limit; counters = counters }) r
        built number h named shallow = Builds-put number old r are (Ok h) _ shallow (put number h named)

      -- or it was refused
      module _ (e : Refusal) (err : result ≡ Err e) (order_stays : order' ≡ order) (entries_stay : es' ≡ es)
          (cause : (e ≡ Memory) ⊎ ((e ≡ TableFull) × (limit ≤ length es))) (full : position test (keys_of es) ≡ None → limit ≤ length es → result ≡ Err TableFull) where
        -- a call that is refused changed nothing, and the row is new
        pub put_refused : {H : Type 0} (number : H → ℕ) → Puts (Err e) number old (record { rows = rows_in_order order' (with_entries ts (row_table r) (entries_by row (λ v. v) es')); limit = limit; counters = counters }) r
        put_refused number =
            let many = count _ _ _ keeps.tables (row_table r) row (λ v. v) es is in
            found_or_absent _ _ _ keeps.tables (row_table r) row (λ v. v) es is test r refl key
            (λ n place at. absurd (ok_err n e result (found n place).0 err))
            (λ none new. let is_new = subst (λ (v : Terms). IsNew r v.rows) view_is new in inr (
              is_new,
              refused order order' ts _ limit counters old view_is keeps order_stays (stays entries_stay) number r result e (length es) err many cause (full none) is_new,
            ))

        -- a call that is refused the row keeps the promise of a building call
        pub built_refused : {H : Type 0} (number : H → ℕ) → (IsTooDeep (row_shape r) → ⊥)
            → Builds (Err e) number old (record { rows = rows_in_order order' (with_entries ts (row_table r) (entries_by row (λ v. v) es')); limit = limit; counters = counters }) r
        built_refused number shallow = Builds-put number old r are (Err e) _ shallow (put_refused number)
