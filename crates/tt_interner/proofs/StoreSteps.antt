-- What is found or added, whichever the table.
use Rattle.std.proofs.Common.{◌≡◌, ℕ, List, [], ◌∷◌, Result, Ok, Err, OnErr, IfOk, arith, ◌⊎◌, ⊎_elim, ap, ◌<◌, ◌≤◌}
use Rattle.std.proofs.Common.{inl, inr, refl, sym, subst, ◌∙◌}
use Rattle.std.proofs.lemmas.Option.{slice_get_within}
use Rattle.tt_index.specs.declared.refusal.Refusal.{Refusal}
use Rattle.tt_index.specs.declared.refusal.Refusal.TheVariants.{Memory, TableFull, GreatestIndex}
use Rattle.tt_kinds.specs.Shape.{fill, IsTooDeep}
use Rattle.tt_kinds.proofs.RangeLaws.{fits-not_deep}
use Rattle.tt_interner.specs.Rows.{Row, row_table, row_shape, table, size, meaning, IsNew, AreRows, Grows}
use Rattle.tt_interner.specs.Stored.{Terms, Extends, IsAt, IsCause, Stores, Adds, Puts, Builds}
use Rattle.tt_interner.proofs.RowLaws.{row-new, meaning-new}
use Rattle.tt_interner.proofs.Growth.{Grows-more, Grows-refl}
use Rattle.tt_interner.proofs.Trees.{Means-row, IsNew-row, distinct}

module _ (rows : List Row) (r : Row) where
  pub Stores-found : (n : ℕ) → IsAt rows r n → Stores rows rows r n
  Stores-found n at = record { stored = at; grown = inl refl }

  pub Stores-added : (after : List Row) (n : ℕ) → IsNew r rows → after ≡ r ∷ rows → n ≡ size rows (row_table r) → Stores rows after r n
  Stores-added after n new is last = record { stored = rw (is, last) (row-new r rows); grown = inr (is, new) }

  -- the handle of a row that is there means the tree of the row's shape
  pub means_found : AreRows rows → (n : ℕ) → IsAt rows r n → meaning rows (row_table r) n ≡ fill (meaning rows) (row_shape r)
  means_found are n at = (Means-row rows are (row_table r) n r at).tree

  pub means_added : (after : List Row) (n : ℕ) → after ≡ r ∷ rows → n ≡ size rows (row_table r) → meaning after (row_table r) n ≡ fill (meaning rows) (row_shape r)
  means_added after n is last = rw (is, last) (meaning-new r rows)

  -- a row has one place
  pub place_one : AreRows rows → (n m : ℕ) → IsAt rows r n → IsAt rows r m → n ≡ m
  place_one are n m at at' = (distinct rows are).numbers (row_table r) (row_table r) n m
      (slice_get_within (table (row_table r) rows) n r at) (slice_get_within (table (row_table r) rows) m r at')
      (means_found are n at ∙ sym (means_found are m at'))

  -- what is stored isn't new
  pub not_new : (n : ℕ) → IsAt rows r n → IsNew r rows → ⊥
  not_new n at new = IsNew-row r rows new (row_table r) n r at refl

-- a handle that is stored is in range
pub in_range : (rows : List Row) (r : Row) (n : ℕ) → IsAt rows r n → n < size rows (row_table r)
in_range rows r n at = slice_get_within (table (row_table r) rows) n r at

pub Grows-row : (r : Row) (rows : List Row) → Grows rows (r ∷ rows)
Grows-row r rows = Grows-more (r ∷ []) refl

-- whether the row was added or refused
pub Grows-add : {H : Type 0} (result : Result H Refusal) (r : Row) (old new : Terms) → IfOk result (λ h. new.rows ≡ r ∷ old.rows) → OnErr result (new ≡ old) → Grows old.rows new.rows
Grows-add (Ok h) r old new is same = subst (Grows old.rows) (sym is) (Grows-row r old.rows)
Grows-add (Err e) r old new is same = subst (λ (t : Terms). Grows old.rows t.rows) (sym same) (Grows-refl old.rows)

-- what is added, or refused, leaves the rest as it is
pub Adds-extends : {H : Type 0} {result : Result H Refusal} {number : H → ℕ} {old new : Terms} {r : Row} → Adds result number old new r → Extends old new
Adds-extends {result = result} {old = old} {new = new} {r = r} adds = record { rows = Grows-add result r old new adds.rows adds.err; limit = adds.limit }

-- and so does what is built
pub Builds-extends : {H : Type 0} {result : Result H Refusal} {number : H → ℕ} {old new : Terms} {r : Row} → Builds result number old new r → Extends old new
Builds-extends b = record { rows = b.grows; limit = b.limit }

-- where an index is too great, the row is new
pub deep_new : (r : Row) → IsTooDeep (row_shape r) → (rows : List Row) → AreRows rows → IsNew r rows
unfolding IsNew AreRows
deep_new r deep [] are = tt
deep_new r deep (q ∷ rows) are = (λ same. fits-not_deep (row_shape q) are.2 (subst (λ x. IsTooDeep (row_shape x)) (sym same) deep), deep_new r deep rows are.4)

module _ {H : Type 0} (number : H → ℕ) (old : Terms) (r : Row) (are : AreRows old.rows) where
  -- the row was found
  pub Builds-found : (h : H) → IsAt old.rows r (number h) → Builds (Ok h) number old old r
  Builds-found h at = record {
    in_range = in_range old.rows r (number h) at;
    means = means_found old.rows r are (number h) at;
    grows = Grows-refl old.rows;
    stored = Stores-found old.rows r (number h) at;
    limit = refl;
    counters = refl;
    found = λ n at'. ((h, refl, place_one old.rows r are (number h) n at at'), refl);
    err = tt;
    absent = tt;
    cause = tt;
    deep = λ deep. absurd ((Means-row old.rows are (row_table r) (number h) r at).shallow deep);
    full = λ new shallow past. absurd (not_new old.rows r (number h) at new);
  }

  -- its index is too great
  pub Builds-deep : IsTooDeep (row_shape r) → Builds (Err GreatestIndex) number old old r
  Builds-deep deep = let new = deep_new r deep old.rows are in record {
    in_range = tt;
    means = tt;
    grows = Grows-refl old.rows;
    stored = tt;
    limit = refl;
    counters = refl;
    found = λ n at. absurd (not_new old.rows r n at new);
    err = refl;
    absent = new;
    cause = deep;
    deep = λ d. refl;
    full = λ d shallow past. absurd (shallow deep);
  }

  -- it was not there
  pub Builds-added : (result : Result H Refusal) (new : Terms) → IsNew r old.rows → (IsTooDeep (row_shape r) → ⊥) → Adds result number old new r → Builds result number old new r
  Builds-added (Ok h) new is_new shallow adds = record {
    in_range = rw (adds.rows, adds.last) (in_range (r ∷ old.rows) r (size old.rows (row_table r)) (row-new r old.rows));
    means = means_added old.rows r new.rows (number h) adds.rows adds.last;
    grows = Grows-add {H = H} (Ok h) r old new adds.rows adds.err;
    stored = Stores-added old.rows r new.rows (number h) is_new adds.rows adds.last;
    limit = adds.limit;
    counters = adds.counters;
    found = λ n at. absurd (not_new old.rows r n at is_new);
    err = tt;
    absent = tt;
    cause = tt;
    deep = λ deep. absurd (shallow deep);
    full = λ n s past. adds.full past;
  }
  Builds-added (Err e) new is_new shallow adds = record {
    in_range = tt;
    means = tt;
    grows = Grows-add {H = H} (Err e) r old new adds.rows adds.err;
    stored = tt;
    limit = adds.limit;
    counters = adds.counters;
    found = λ n at. absurd (not_new old.rows r n at is_new);
    err = adds.err;
    absent = is_new;
    cause = adds.cause;
    deep = λ deep. absurd (shallow deep);
    full = λ n s past. adds.full past;
  }

-- the row was there, or it was not
pub Builds-put : {H : Type 0} (number : H → ℕ) (old : Terms) (r : Row) → AreRows old.rows → (result : Result H Refusal) (new : Terms) → (IsTooDeep (row_shape r) → ⊥)
    → Puts result number old new r → Builds result number old new r
Builds-put number old r are result new shallow (inl f) = rw (f.1, f.3) (Builds-found number old r are f.0 f.2)
Builds-put number old r are result new shallow (inr a) = Builds-added number old r are result new a.0 shallow a.1

module _ {H : Type 0} (number : H → ℕ) (old : Terms) (r : Row) where
  -- the row was added
  pub Adds-ok : (h : H) (new : Terms) → new.rows ≡ r ∷ old.rows → number h ≡ size old.rows (row_table r) → number h < old.limit → new.limit ≡ old.limit → new.counters ≡ old.counters → Adds (Ok h) number old new r
  Adds-ok h new rows last room limit counters = record {
    rows = rows;
    last = last;
    limit = limit;
    counters = counters;
    err = tt;
    cause = tt;
    full = λ past. absurd (omega arith);
  }

  -- it was refused
  pub Adds-err : {G : Type 0} (result : Result G Refusal) (e : Refusal) (count : ℕ) → result ≡ Err e → count ≡ size old.rows (row_table r)
      → (e ≡ Memory) ⊎ ((e ≡ TableFull) × (old.limit ≤ count)) → (old.limit ≤ count → result ≡ Err TableFull) → IsNew r old.rows → Adds (Err e) number old old r
  Adds-err result e count is counts cause full is_new = record {
    rows = tt;
    last = tt;
    limit = refl;
    counters = refl;
    err = refl;
    cause = ⊎_elim (λ memory. subst (IsCause old r) (sym memory) tt) (λ past. subst (IsCause old r) (sym past.0) (is_new, (let h = past.1 in omega arith))) cause;
    full = λ past. let refused = full (omega arith) in let same : e ≡ TableFull = cc in ap Err same;
  }

-- the same of another handle
module _ {H G : Type 0} (number : H → ℕ) (number' : G → ℕ) (old new : Terms) (r : Row) where
  -- the promise of a building call holds of another handle with the same number
  pub Builds-ok_as : (h : H) (g : G) → number' g ≡ number h → Builds (Ok h) number old new r → Builds (Ok g) number' old new r
  Builds-ok_as h g same b = record {
    in_range = rw same b.in_range;
    means = rw same b.means;
    grows = b.grows;
    stored = rw same b.stored;
    limit = b.limit;
    counters = b.counters;
    found = λ n at. let f = b.found n at in ((g, refl, same ∙ ap number (ok_one _ _ refl f.0.1) ∙ f.0.2), f.1);
    err = tt;
    absent = tt;
    cause = tt;
    deep = λ deep. absurd (ok_err _ _ refl (b.deep deep));
    full = λ n s past. absurd (ok_err _ _ refl (b.full n s past));
  }
    where
      ok_one : (a : H) (result : Result H Refusal) → result ≡ Ok h → result ≡ Ok a → h ≡ a
      ok_one a result p q = cc

      ok_err : (e : Refusal) (result : Result H Refusal) → result ≡ Ok h → result ≡ Err e → ⊥
      ok_err e result p q = cc

  -- the promise of a building call that is refused holds for handles of any type
  pub Builds-err_as : (e : Refusal) → Builds (Err e) number old new r → Builds (Err e) number' old new r
  Builds-err_as e b = record {
    in_range = tt;
    means = tt;
    grows = b.grows;
    stored = tt;
    limit = b.limit;
    counters = b.counters;
    found = λ n at. absurd (err_ok _ _ refl (b.found n at).0.1);
    err = b.err;
    absent = b.absent;
    cause = b.cause;
    deep = λ deep. ap Err (err_one _ _ refl (b.deep deep));
    full = λ n s past. ap Err (err_one _ _ refl (b.full n s past));
  }
    where
      err_ok : (a : H) (result : Result H Refusal) → result ≡ Err e → result ≡ Ok a → ⊥
      err_ok a result p q = cc

      err_one : (u : Refusal) (result : Result H Refusal) → result ≡ Err e → result ≡ Err u → e ≡ u
      err_one u result p q = cc
