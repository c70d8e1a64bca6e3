-- At which stored terms an inspector of types is asked.
use Rattle.std.proofs.Common.{◌≡◌, ◌<◌, ℕ, List, [], ◌∷◌, ◌⊎◌, Bool, true, false, ControlFlow, Continue, Break, inl}
use Rattle.std.proofs.Common.{inr, refl, sym, ◌∙◌, arith}
use Rattle.std.specs.ControlFlow.{MatchControlFlow}
use Rattle.std.proofs.lemmas.Bool.{true≢false}
use Rattle.tt_kinds.specs.Label.{TypeLabel, ConstLabel, type_sort, const_sort, type_label, const_label}
use Rattle.tt_kinds.specs.Tree.{Depth, Tree}
use Rattle.tt_kinds.specs.Shape.{Meaning, IsPart, fill, stored}
use Rattle.tt_kinds.specs.Kinds.{Form, param, bound, plain, under, relabelled, form_shape, ty_form, const_form}
use Rattle.tt_kinds.specs.declared.table.Table.{Table}
use Rattle.tt_kinds.specs.declared.table.Table.TheVariants.{Types}
use Rattle.tt_interner.specs.Rows.{Row, type_row, const_row, pat_row, predicate_row, existential_row, clauses_row}
use Rattle.tt_interner.specs.Rows.{tys_row, consts_row, args_row, pats_row, vars_row, existentials_row, assumptions_row}
use Rattle.tt_interner.specs.Rows.{text_row, declared_row, defined_row, row_table, row_shape, size, meaning, table}
use Rattle.tt_interner.proofs.RowLaws.{IsNewest, place_cases, meaning-old, meaning-new}
use Rattle.tt_visit.specs.Types.{TypeVisits, is_type_tree}
use Rattle.tt_visit.specs.declared.visitor.Next.{Next}
use Rattle.tt_visit.specs.declared.visitor.Next.TheVariants.{Descend}

-- the table of types
abbrev pub is_types : Table → Bool
is_types Types = true
is_types _ = false

type-type : (f : Meaning) (x : Form TypeLabel) → is_type_tree (fill f (form_shape type_sort (relabelled type_label x))) ≡ true
unfolding fill
type-type f (param i name) = refl
type-type f (bound d e) = refl
type-type f (plain l p) = refl
type-type f (under l vars r p) = refl

const-type : (f : Meaning) (x : Form ConstLabel) → is_type_tree (fill f (form_shape const_sort (relabelled const_label x))) ≡ false
unfolding fill
const-type f (param i name) = refl
const-type f (bound d e) = refl
const-type f (plain l p) = refl
const-type f (under l vars r p) = refl

row-type : (f : Meaning) (r : Row) → is_type_tree (fill f (row_shape r)) ≡ is_types (row_table r)
unfolding fill
row-type f (type_row k) = type-type f (ty_form k)
row-type f (const_row k) = const-type f (const_form k)
row-type f (pat_row k) = refl
row-type f (predicate_row p) = refl
row-type f (existential_row p) = refl
row-type f (clauses_row cs) = refl
row-type f (tys_row ts) = refl
row-type f (consts_row cs) = refl
row-type f (args_row args) = refl
row-type f (pats_row ps) = refl
row-type f (vars_row vs) = refl
row-type f (existentials_row ps) = refl
row-type f (assumptions_row ps) = refl
row-type f (text_row bytes) = refl
row-type f (declared_row n d) = refl
row-type f (defined_row n vs) = refl

type-more : (r : Row) (rows : List Row) (t : Table) (n : ℕ) → (n < size rows t → is_type_tree (meaning rows t n) ≡ is_types t)
    → (n < size rows t) ⊎ IsNewest r rows t n → is_type_tree (meaning (r ∷ rows) t n) ≡ is_types t
type-more r rows t n before (inl low) = rw (meaning-old r rows t n low) (before low)
type-more r rows t n before (inr is) =
    let whole : is_type_tree (meaning (r ∷ rows) (row_table r) (size rows (row_table r))) ≡ is_types (row_table r) = rw (meaning-new r rows) (row-type (meaning rows) r) in
    rw (is.last, ← is.same_table) whole

-- types are stored in their table alone
pub stored-type : (rows : List Row) (t : Table) (n : ℕ) → n < size rows t → is_type_tree (meaning rows t n) ≡ is_types t
unfolding table
stored-type [] t n h = absurd (omega arith)
stored-type (r ∷ rows) t n h = type-more r rows t n (λ low. stored-type rows t n low) (place_cases r rows t n h)

-- what a handle of a table is
pub part-type : (rows : List Row) (t : Table) (n : ℕ) → IsPart (size rows) (stored t n) → is_type_tree (fill (meaning rows) (stored t n)) ≡ is_types t
unfolding fill
part-type rows t n h = stored-type rows t n h

-- the answer at a type, as one at a term
pub answers-type : {M B : Type 0} (H : TypeVisits M B) (m m1 : M) (t : Tree Depth) (r : ControlFlow B Next) → is_type_tree t ≡ true
    → MatchControlFlow r (λ next. H.on_type m t next m1) (λ b. H.type_breaks m t b m1)
    → MatchControlFlow r
    (λ next. (is_type_tree t ≡ true → H.on_type m t next m1) × (is_type_tree t ≡ false → (next ≡ Descend) × (m1 ≡ m)))
    (λ b. (is_type_tree t ≡ true) × H.type_breaks m t b m1)
answers-type H m m1 t (Continue next) is h = ((λ yes. h), λ no. absurd (true≢false (sym is ∙ no)))
answers-type H m m1 t (Break b) is h = (is, h)

-- what is no type is entered
pub enters-other : {M B : Type 0} (H : TypeVisits M B) (m : M) (t : Tree Depth) → is_type_tree t ≡ false
    → (is_type_tree t ≡ true → H.on_type m t Descend m) × (is_type_tree t ≡ false → (Descend ≡ Descend) × (m ≡ m))
enters-other H m t other = ((λ yes. absurd (true≢false (sym yes ∙ other))), λ no. (refl, refl))
