-- Which values of an interner fit, by its rows.
use Rattle.std.proofs.Common.{inl, inr, ◌≡◌, ℕ, ◌+◌, ◌<◌, ◌≤◌, List, [], ◌∷◌, refl, arith}
use Rattle.tt_index.specs.Greatest.{greatest}
use Rattle.tt_kinds.specs.Label.{Sort, Label, type_label, const_label, type_sort, const_sort}
use Rattle.tt_kinds.specs.Reading.{read, FitsUnder}
use Rattle.tt_kinds.specs.Shape.{Shape, IsPart, fill}
use Rattle.tt_kinds.specs.Kinds.{Form, param, bound, plain, under, relabelled, form_shape, ty_form, pattern_form}
use Rattle.tt_kinds.specs.Kinds.{predicate_form, existential_form, value_form, const_kind_shape, ty_shape, const_shape}
use Rattle.tt_kinds.specs.Kinds.{pat_shape, clause_shape, existential_shape}
use Rattle.tt_kinds.specs.Range.{IndicesFit, IndicesFitIn, binders_in, binders_among}
use Rattle.tt_kinds.specs.Fitting.{BindersFit}
use Rattle.tt_kinds.specs.declared.const_kind.ValTreeKind.TheVariants as valtree
use Rattle.tt_kinds.specs.declared.const_kind.ValTreeKind.{ValTreeKind}
use Rattle.tt_kinds.specs.declared.const_kind.ConstKind.{ConstKind}
use Rattle.tt_kinds.specs.declared.const_kind.ConstKind.TheVariants as const
use Rattle.tt_kinds.specs.declared.table.Table.{Table}
use Rattle.tt_kinds.specs.declared.table.Table.TheVariants.{Types, Predicates, Existentials}
use Rattle.tt_kinds.proofs.RangeLaws.{parts-unbound, items-unbound, args-unbound, assumptions-unbound, part-fits}
use Rattle.tt_kinds.proofs.RangeLaws.{row-fits}
use Rattle.tt_kinds.specs.Values.{declared_shapes}
use Rattle.tt_kinds.proofs.ValueLaws.{declared_by}
use Rattle.tt_kinds.proofs.FittingLaws.{tree-fits, part-binders, row-binders}
use Rattle.tt_interner.specs.Rows.{Row, type_row, const_row, pat_row, predicate_row, existential_row, clauses_row}
use Rattle.tt_interner.specs.Rows.{tys_row, consts_row, args_row, pats_row, vars_row, existentials_row, assumptions_row}
use Rattle.tt_interner.specs.Rows.{text_row, declared_row, defined_row, row_table, row_shape, table, size, meaning}
use Rattle.tt_interner.specs.Rows.{AreRows}
use Rattle.tt_interner.specs.Fitting.{nesting_bound}
use Rattle.tt_interner.proofs.DefinitionShapes.{definition-unbound}
use Rattle.tt_interner.proofs.RowLaws.{IsNewest, place_cases, size-more, meaning-old, meaning-new}
use Rattle.tt_interner.proofs.TableLaws.{size_own}

-- a new row's tree
newest : (r : Row) (rows : List Row) (t : Table) (n : ℕ) → IsNewest r rows t n → meaning (r ∷ rows) t n ≡ fill (meaning rows) (row_shape r)
newest r rows t n at = rw (at.last, ← at.same_table) (meaning-new r rows)

stored-fits : (rows : List Row) → AreRows rows → (t : Table) (n : ℕ) → n < size rows t → IndicesFit (meaning rows t n)
unfolding table AreRows
stored-fits [] are t n h = absurd (omega (arith, h))
stored-fits (r ∷ rows) are t n h = elim (place_cases r rows t n h) [
  | inl old ↦ rw (meaning-old r rows t n old) (stored-fits rows are.4 t n old)
  | inr at ↦ rw (newest r rows t n at) (row-fits (size rows) (meaning rows) (stored-fits rows are.4) (row_shape r) are.0 are.2)
]

-- the indices of a value's tree are in range
pub value_indices-fit : (rows : List Row) (s : Shape) → AreRows rows → IsPart (size rows) s → IndicesFitIn s → IndicesFit (fill (meaning rows) s)
value_indices-fit rows s are part fits = part-fits (size rows) (meaning rows) (stored-fits rows are) s part fits

-- a value fits, if its binders do
pub value-fits : (rows : List Row) (s : Shape) → AreRows rows → IsPart (size rows) s → IndicesFitIn s → BindersFit 0 (fill (meaning rows) s) → FitsUnder 0 (read 0 (fill (meaning rows) s))
value-fits rows s are part fits binders = tree-fits 0 (fill (meaning rows) s) (value_indices-fit rows s are part fits) binders

form-binders : (s : Sort) (k : Form (Label ℕ)) → binders_in (form_shape s k) ≤ 1
form-binders s (param i name) = omega arith
form-binders s (bound d e) = omega arith
form-binders s (plain l p) = let none_has = parts-unbound p in omega arith
form-binders s (under l vars m p) = let none_has = parts-unbound p in omega arith

const-unbound : (k : ConstKind) → binders_in (const_kind_shape k) ≡ 0
const-unbound (const.Param p) = refl
const-unbound (const.Infer i) = refl
const-unbound (const.Bound i b) = refl
const-unbound (const.Placeholder p) = refl
const-unbound (const.Unevaluated u) = refl
const-unbound (const.Value v) = of_value v.valtree.kind
  where
    of_value : (w : ValTreeKind) → binders_in (form_shape const_sort (relabelled const_label (value_form v.ty w))) ≡ 0
    of_value (valtree.Leaf s) = refl
    of_value (valtree.Branch cs) = refl
const-unbound (const.Error e) = refl
const-unbound (const.Expr e) = refl

-- each row has at most one binder, and none but in those tables
row-binding : (r : Row) (rows : List Row) → binders_in (row_shape r) + nesting_bound rows ≤ nesting_bound (r ∷ rows)
row-binding r rows = own r (size-more r rows Types) (size-more r rows Predicates) (size-more r rows Existentials) (size_own r rows)
  where
    own : (q : Row) → size rows Types ≤ size (q ∷ rows) Types → size rows Predicates ≤ size (q ∷ rows) Predicates → size rows Existentials ≤ size (q ∷ rows) Existentials
        → size (q ∷ rows) (row_table q) ≡ size rows (row_table q) + 1 → binders_in (row_shape q) + nesting_bound rows ≤ nesting_bound (q ∷ rows)
    own (type_row k) a b c more = let one = form-binders type_sort (relabelled type_label (ty_form k)) in omega arith
    own (const_row k) a b c more = let none_has = const-unbound k in omega arith
    own (pat_row k) a b c more = let none_has = parts-unbound (pattern_form k).parts in omega arith
    own (predicate_row p) a b c more = let none_has = parts-unbound (predicate_form p.value).parts in omega arith
    own (existential_row p) a b c more = let none_has = parts-unbound (existential_form p.value).parts in omega arith
    own (clauses_row cs) a b c more = let none_has = items-unbound clause_shape (λ x. refl) cs in omega arith
    own (tys_row ts) a b c more = let none_has = items-unbound ty_shape (λ x. refl) ts in omega arith
    own (consts_row cs) a b c more = let none_has = items-unbound const_shape (λ x. refl) cs in omega arith
    own (args_row args) a b c more = let none_has = args-unbound args in omega arith
    own (pats_row ps) a b c more = let none_has = items-unbound pat_shape (λ x. refl) ps in omega arith
    own (vars_row vs) a b c more = omega arith
    own (existentials_row ps) a b c more = let none_has = items-unbound existential_shape (λ x. refl) ps in omega arith
    own (assumptions_row ps) a b c more = let none_has = assumptions-unbound ps in omega arith
    own (text_row bytes) a b c more = omega arith
    own (declared_row n d) a b c more = let none_has : binders_among (declared_shapes d.kind) ≡ 0 = declared_by (λ ss. binders_among ss ≡ 0) refl (λ vars tys. refl) d.kind in omega arith
    own (defined_row n vs) a b c more = let none_has = definition-unbound vs in omega arith

stored-binders : (rows : List Row) → AreRows rows → (k : ℕ) (t : Table) (n : ℕ) → n < size rows t → k + nesting_bound rows ≤ greatest → BindersFit k (meaning rows t n)
unfolding table AreRows
stored-binders [] are k t n h low = absurd (omega (arith, h))
stored-binders (r ∷ rows) are k t n h low = elim (place_cases r rows t n h) [
  | inl old ↦ rw (meaning-old r rows t n old) (stored-binders rows are.4 k t n old (let more = row-binding r rows in omega arith))
  | inr at ↦ rw (newest r rows t n at)
      (row-binders (size rows) (meaning rows) (nesting_bound rows) (stored-binders rows are.4) k (row_shape r) are.0 (let more = row-binding r rows in omega arith))
]

-- few rows nest few binders
pub few_rows-fit : (rows : List Row) (k : ℕ) (s : Shape) → AreRows rows → IsPart (size rows) s → k + binders_in s + nesting_bound rows ≤ greatest
    → BindersFit k (fill (meaning rows) s)
few_rows-fit rows k s are part low = part-binders (size rows) (meaning rows) (nesting_bound rows) (stored-binders rows are) k s part low
