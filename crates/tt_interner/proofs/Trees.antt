-- Handles in range have equal trees only if they are equal.
use Rattle.std.proofs.Common.{◌≡◌, ℕ, ◌<◌, ⊎_elim, List, [], ◌∷◌, slice_get, get_or, Some, refl, sym, ap, subst, ◌∙◌}
use Rattle.std.proofs.Common.{arith}
use Rattle.std.proofs.lemmas.Option.{slice_get_within, same_Some, none-some, slice_get-get_or}
use Rattle.tt_kinds.specs.declared.table.Table.{Table}
use Rattle.tt_kinds.specs.declared.table.Table.TheVariants.{VarLists, Symbols}
use Rattle.tt_kinds.specs.Label.{var_list_label, text_label}
use Rattle.tt_kinds.specs.Tree as tree
use Rattle.tt_kinds.specs.Shape.{fill, text_of, vars_of, HasParts, IsTooDeep}
use Rattle.tt_kinds.proofs.RangeLaws.{fits-not_deep}
use Rattle.tt_interner.specs.Rows.{Row, text_row, row_table, row_shape, table, size, meaning, IsNew, AreRows}
use Rattle.tt_interner.proofs.Fill.{fill-one_row, Distinguishes, tree_table}
use Rattle.tt_interner.proofs.Growth.{HasParts-more, row-same}
use Rattle.tt_interner.proofs.RowLaws.{IsNewest, place_cases, row-old, row-new, size-more, meaning-old, meaning-new}
use Rattle.tt_interner.proofs.ShapeLaws.{shape_one, root_of_row, text_of_row, vars_of_row}
use Rattle.tt_interner.proofs.ViewLaws.{row_no_view}

-- a row that is new is none of the tables'
pub IsNew-row : (r : Row) (rows : List Row) → IsNew r rows → (t : Table) (n : ℕ) (q : Row) → slice_get (table t rows) n ≡ Some q → q ≡ r → ⊥
unfolding IsNew table
IsNew-row r [] new t n q e same = absurd (none-some q e)
IsNew-row r (p ∷ rows) new t n q e same = ⊎_elim
    (λ old. IsNew-row r rows new.1 t n q (sym (row-old p rows t n old) ∙ e) same)
    (λ newest. new.0 (same_Some p q (sym (last_row newest) ∙ e) ∙ same))
    (place_cases p rows t n (slice_get_within (table t (p ∷ rows)) n q e))
  where
    last_row : IsNewest p rows t n → slice_get (table t (p ∷ rows)) n ≡ Some p
    last_row newest = subst (λ u. slice_get (table u (p ∷ rows)) n ≡ Some p) newest.same_table
        (subst (λ m. slice_get (table (row_table p) (p ∷ rows)) m ≡ Some p) (sym (newest.last ∙ ap (size rows) (sym newest.same_table))) (row-new p rows))

-- what a handle's row says of its tree
pub record Means (rows : List Row) (t : Table) (n : ℕ) (q : Row) : Type 0 where
  pub same_table : row_table q ≡ t
  pub parts : HasParts (size rows) (row_shape q)
  pub shallow : IsTooDeep (row_shape q) → ⊥
  pub tree : meaning rows t n ≡ fill (meaning rows) (row_shape q)

-- what it said before the row r came, it says after
Means-old : (r : Row) (rows : List Row) (t : Table) (n : ℕ) (q : Row) → n < size rows t → Means rows t n q → Means (r ∷ rows) t n q
Means-old r rows t n q h means = record {
  same_table = means.same_table;
  parts = HasParts-more (size rows) (size (r ∷ rows)) (size-more r rows) (row_shape q) means.parts;
  shallow = means.shallow;
  tree = meaning-old r rows t n h ∙ means.tree
      ∙ row-same (meaning rows) (meaning (r ∷ rows)) (size rows) (λ u m k. sym (meaning-old r rows u m k)) (row_shape q) means.parts;
}

Means-new : (r : Row) (rows : List Row) → HasParts (size rows) (row_shape r) → (IsTooDeep (row_shape r) → ⊥) → Means (r ∷ rows) (row_table r) (size rows (row_table r)) r
Means-new r rows parts shallow = record {
  same_table = refl;
  parts = HasParts-more (size rows) (size (r ∷ rows)) (size-more r rows) (row_shape r) parts;
  shallow = shallow;
  tree = meaning-new r rows ∙ row-same (meaning rows) (meaning (r ∷ rows)) (size rows) (λ u m k. sym (meaning-old r rows u m k)) (row_shape r) parts;
}

Means-at : (r : Row) (rows : List Row) (t : Table) (n : ℕ) (q : Row) → IsNewest r rows t n → r ≡ q → Means (r ∷ rows) (row_table r) (size rows (row_table r)) r → Means (r ∷ rows) t n q
Means-at r rows t n q newest same means =
    subst (Means (r ∷ rows) t n) same
    (subst (λ u. Means (r ∷ rows) u n r) newest.same_table
    (subst (λ m. Means (r ∷ rows) (row_table r) m r) (ap (size rows) newest.same_table ∙ sym newest.last) means))

-- the newest row is found in its table, at its handle's number
pub row_at_newest : (r : Row) (rows : List Row) (t : Table) (n : ℕ) → IsNewest r rows t n → slice_get (table t (r ∷ rows)) n ≡ Some r
row_at_newest r rows t n newest = subst (λ u. slice_get (table u (r ∷ rows)) n ≡ Some r) newest.same_table
    (subst (λ m. slice_get (table (row_table r) (r ∷ rows)) m ≡ Some r) (ap (size rows) newest.same_table ∙ sym newest.last) (row-new r rows))

-- a handle's tree comes of its row's shape
pub Means-row : (rows : List Row) → AreRows rows → (t : Table) (n : ℕ) (q : Row) → slice_get (table t rows) n ≡ Some q → Means rows t n q
unfolding table AreRows
Means-row [] are t n q e = absurd (none-some q e)
Means-row (r ∷ rows) are t n q e = ⊎_elim
    (λ old. Means-old r rows t n q old (Means-row rows are.4 t n q (sym (row-old r rows t n old) ∙ e)))
    (λ newest. Means-at r rows t n q newest (same_Some r q (sym (row_at_newest r rows t n newest) ∙ e)) (Means-new r rows are.0 (fits-not_deep (row_shape r) are.2)))
    (place_cases r rows t n (slice_get_within (table t (r ∷ rows)) n q e))

-- each handle in range has a row
pub row_within : (rows : List Row) (t : Table) (n : ℕ) → n < size rows t → (q : Row) × (slice_get (table t rows) n ≡ Some q)
row_within rows t n h = let q = get_or (table t rows) n (text_row []) in (q, slice_get-get_or (table t rows) n (text_row []) h)

module _ (rows : List Row) (are : AreRows rows) where
  pub root_within : (t : Table) (n : ℕ) → n < size rows t → tree_table (meaning rows t n) ≡ Some t
  root_within t n h =
      let at = row_within rows t n h in
      let means = Means-row rows are t n at.0 at.1 in
      ap tree_table means.tree ∙ root_of_row (meaning rows) at.0 ∙ ap Some means.same_table

  pub text_within : (n : ℕ) → n < size rows Symbols → meaning rows Symbols n ≡ tree.node (text_label (text_of (meaning rows Symbols n))) tree.none
  text_within n h =
      let at = row_within rows Symbols n h in
      let means = Means-row rows are Symbols n at.0 at.1 in
      means.tree ∙ text_of_row (meaning rows) at.0 means.same_table ∙ ap (λ x. tree.node (text_label (text_of x)) tree.none) (sym means.tree)

  -- a stored list of variables means a node that is labelled with them and has no children
  pub vars_within : (n : ℕ) → n < size rows VarLists → meaning rows VarLists n ≡ tree.node (var_list_label (vars_of (meaning rows VarLists n))) tree.none
  vars_within n h =
      let at = row_within rows VarLists n h in
      let means = Means-row rows are VarLists n at.0 at.1 in
      means.tree ∙ vars_of_row (meaning rows) at.0 means.same_table ∙ ap (λ x. tree.node (var_list_label (vars_of x)) tree.none) (sym means.tree)

  pub table_within : (t u : Table) (n m : ℕ) → n < size rows t → m < size rows u → meaning rows t n ≡ meaning rows u m → t ≡ u
  table_within t u n m p q e = same_Some t u (sym (root_within t n p) ∙ ap tree_table e ∙ root_within u m q)

-- the new row's tree isn't an older one
new_tree : (r : Row) (rows : List Row) → AreRows rows → Distinguishes (size rows) (meaning rows) → HasParts (size rows) (row_shape r) → IsNew r rows
    → (u : Table) (m : ℕ) → m < size rows u → fill (meaning rows) (row_shape r) ≡ meaning rows u m → ⊥
new_tree r rows are d parts new u m h e =
    let at = row_within rows u m h in
    let means = Means-row rows are u m at.0 at.1 in
    IsNew-row r rows new u m at.0 at.1
    (shape_one at.0 r (sym (fill-one_row (size rows) (meaning rows) d (row_shape r) (row_shape at.0) (row_no_view r) (row_no_view at.0) parts means.parts (e ∙ means.tree))))

-- the tree of the new row's handle
newest_tree : (r : Row) (rows : List Row) (t : Table) (n : ℕ) → IsNewest r rows t n → meaning (r ∷ rows) t n ≡ fill (meaning rows) (row_shape r)
newest_tree r rows t n newest = subst (λ u. meaning (r ∷ rows) u n ≡ fill (meaning rows) (row_shape r)) newest.same_table
    (subst (λ m. meaning (r ∷ rows) (row_table r) m ≡ fill (meaning rows) (row_shape r)) (ap (size rows) newest.same_table ∙ sym newest.last) (meaning-new r rows))

-- equal trees have equal numbers after the row r, if they had before
numbers_more : (r : Row) (rows : List Row) → AreRows rows → Distinguishes (size rows) (meaning rows) → HasParts (size rows) (row_shape r) → IsNew r rows
    → (t u : Table) (n m : ℕ) → n < size (r ∷ rows) t → m < size (r ∷ rows) u → meaning (r ∷ rows) t n ≡ meaning (r ∷ rows) u m → n ≡ m
numbers_more r rows are before parts new t u n m p q e = ⊎_elim
    (λ old. ⊎_elim
    (λ old'. before.numbers t u n m old old' (sym (meaning-old r rows t n old) ∙ e ∙ meaning-old r rows u m old'))
    (λ newest'. absurd (new_tree r rows are before parts new t n old (sym (newest_tree r rows u m newest') ∙ sym e ∙ meaning-old r rows t n old)))
    (place_cases r rows u m q))
    (λ newest. ⊎_elim
    (λ old'. absurd (new_tree r rows are before parts new u m old' (sym (newest_tree r rows t n newest) ∙ e ∙ meaning-old r rows u m old')))
    (λ newest'. newest.last ∙ ap (size rows) (sym newest.same_table ∙ newest'.same_table) ∙ sym newest'.last)
    (place_cases r rows u m q))
    (place_cases r rows t n p)

-- handles in range have different trees
pub distinct : (rows : List Row) → AreRows rows → Distinguishes (size rows) (meaning rows)
unfolding table AreRows
distinct [] are = record {
  tables = table_within [] are;
  numbers = λ t u n m p q e. absurd (omega (arith, p));
  roots = root_within [] are;
  vars = vars_within [] are;
  texts = text_within [] are;
}
distinct (r ∷ rows) are = record {
  tables = table_within (r ∷ rows) are;
  numbers = numbers_more r rows are.4 (distinct rows are.4) are.0 are.1;
  roots = root_within (r ∷ rows) are;
  vars = vars_within (r ∷ rows) are;
  texts = text_within (r ∷ rows) are;
}
