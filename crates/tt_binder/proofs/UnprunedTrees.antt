-- The terms in the trees of values are of tables of terms.
use Rattle.std.proofs.Common.{inl, inr, ◌≡◌, ℕ, ◌<◌, List, [], ◌∷◌, refl, arith}
use Rattle.std.specs.Prelude.{◌⊎◌, ⊤}
use Rattle.tt_kinds.specs.Label.{Sort, type_sort, const_sort, Label, type_label, const_label}
use Rattle.tt_kinds.specs.Tree as tree
use Rattle.tt_kinds.specs.Tree.{Depth, Tree}
use Rattle.tt_kinds.specs.Shape as shape
use Rattle.tt_kinds.specs.Shape.{Shape, Shapes, Meaning, Sizes, fill, fill_all, name_of, rename_label, IsPart, AreParts}
use Rattle.tt_kinds.specs.Shape.{HasParts}
use Rattle.tt_kinds.specs.Kinds.{Form, param, bound, plain, under, relabelled, form_shape, ty_form, const_form}
use Rattle.tt_kinds.specs.declared.table.Table.{Table}
use Rattle.tt_kinds.proofs.ForestLaws.{IsOfEach, list-each}
use Rattle.tt_interner.specs.Rows.{Row, type_row, const_row, pat_row, predicate_row, existential_row, clauses_row}
use Rattle.tt_interner.specs.Rows.{tys_row, consts_row, args_row, pats_row, vars_row, existentials_row, assumptions_row}
use Rattle.tt_interner.specs.Rows.{text_row, declared_row, defined_row, row_shape, table, size, meaning, AreRows}
use Rattle.tt_interner.proofs.RowLaws.{IsNewest, place_cases, meaning-old, meaning-new}
use Rattle.tt_visit.specs.Root.{hooked, unhooked, term_root}
use Rattle.tt_fold.specs.Steps.{IsPartOf, tree_in}
use Rattle.tt_binder.proofs.UnprunedLaws.{IsRooted, IsRooted_all}

-- the root of a term is a stored one's
abbrev HasRoot : Tree Depth → Type 0
HasRoot (tree.term l ts) = (term_root l ≡ hooked) ⊎ (term_root l ≡ unhooked)
HasRoot _ = ⊤

each-rooted : IsOfEach IsRooted_all IsRooted
each-rooted = record {
  nothing = tt;
  first = λ t ts h. h.0;
  others = λ t ts h. h.1;
  more = λ t ts h hs. (h, hs);
}

module _ (size : Sizes) (f : Meaning) (good : (t : Table) (n : ℕ) → n < size t → IsRooted (f t n)) where
  mutual
    unfolding fill

    part-rooted : (s : Shape) → IsPart size s → IsRooted (fill f s)
    part-rooted (shape.param s i name) p = tt
    part-rooted (shape.bound s d e) p = tt
    part-rooted (shape.region r) p = tt
    part-rooted (shape.term l ss) p = absurd p
    part-rooted (shape.node l ss) p = parts-rooted ss p.2
    part-rooted (shape.binder n s) p = part-rooted s p.1
    part-rooted (shape.stored t n) p = good t n p
    part-rooted (shape.part_of t n e) p = list-each IsRooted_all IsRooted each-rooted (λ l ts h. h) e (f t n) (good t n p)

    parts-rooted : (ss : Shapes) → AreParts size ss → IsRooted_all (fill_all f ss)
    parts-rooted shape.none p = tt
    parts-rooted (shape.also s ss) p = (part-rooted s p.0, parts-rooted ss p.1)

  row-rooted : (s : Shape) → HasParts size s → HasRoot (fill f s) → IsRooted (fill f s)
  unfolding fill
  row-rooted (shape.param s i name) p root = tt
  row-rooted (shape.bound s d e) p root = tt
  row-rooted (shape.region r) p root = absurd p
  row-rooted (shape.term l ss) p root = (root, parts-rooted ss p.1)
  row-rooted (shape.node l ss) p root = parts-rooted ss p.1
  row-rooted (shape.binder n s) p root = absurd p
  row-rooted (shape.stored t n) p root = absurd p
  row-rooted (shape.part_of t n e) p root = absurd p

form-root : {L : Type 0} (label : L → Label ℕ) (sort : Sort) (f : Meaning) → ((l : L) → term_root (rename_label (name_of f) (label l)) ≡ hooked) → (k : Form L)
    → HasRoot (fill f (form_shape sort (relabelled label k)))
unfolding fill
form-root label sort f labels (param i name) = tt
form-root label sort f labels (bound d e) = tt
form-root label sort f labels (plain l p) = inl (labels l)
form-root label sort f labels (under l vars m p) = inl (labels l)

row-root : (f : Meaning) (r : Row) → HasRoot (fill f (row_shape r))
unfolding fill
row-root f (type_row k) = form-root type_label type_sort f (λ l. refl) (ty_form k)
row-root f (const_row k) = form-root const_label const_sort f (λ l. refl) (const_form k)
row-root f (pat_row k) = inr refl
row-root f (predicate_row b) = inl refl
row-root f (existential_row b) = inr refl
row-root f (clauses_row cs) = inl refl
row-root f (tys_row tys) = tt
row-root f (consts_row cs) = tt
row-root f (args_row args) = tt
row-root f (pats_row ps) = tt
row-root f (vars_row vs) = tt
row-root f (existentials_row ps) = tt
row-root f (assumptions_row ps) = tt
row-root f (text_row bytes) = tt
row-root f (declared_row n d) = tt
row-root f (defined_row n vs) = tt

stored-rooted : (rows : List Row) → AreRows rows → (t : Table) (n : ℕ) → n < size rows t → IsRooted (meaning rows t n)
unfolding table AreRows
stored-rooted [] are t n h = absurd (omega (arith, h))
stored-rooted (r ∷ rows) are t n h = elim (place_cases r rows t n h) [
  | inl old ↦ rw (meaning-old r rows t n old) (stored-rooted rows are.4 t n old)
  | inr newest ↦ at_newest newest (row-rooted (size rows) (meaning rows) (stored-rooted rows are.4) (row_shape r) are.0 (row-root (meaning rows) r))
]
  where
    at_newest : IsNewest r rows t n → IsRooted (fill (meaning rows) (row_shape r)) → IsRooted (meaning (r ∷ rows) t n)
    at_newest newest rooted =
        let same : meaning (r ∷ rows) t n ≡ fill (meaning rows) (row_shape r) = rw (newest.last, ← newest.same_table) (meaning-new r rows) in
        rw same rooted

-- each term in the tree of an interner's value is of a table of terms
pub value_rooted : (rows : List Row) → AreRows rows → (s : Shape) → IsPartOf rows s → IsRooted (tree_in rows s)
value_rooted rows are s part = part-rooted (size rows) (meaning rows) (stored-rooted rows are) s part
