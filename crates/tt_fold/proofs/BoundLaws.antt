-- Bound variables of types and constants, moved, and the shifter's answers at stored terms.
use Rattle.std.proofs.Common.{List, [], ◌∷◌, Result, Ok, Err, MatchResult, Some, None, ◌≡◌, ℕ, suc, ◌+◌, ◌-◌, ◌<◌, ◌≤◌}
use Rattle.std.proofs.Common.{◌⊎◌, inl, inr, true, false, refl, ap, sym, subst, ◌∙◌, arith}
use Rattle.std.proofs.lemmas.Bool.{cases_lt, le-ltb}
use Rattle.std.proofs.lemmas.Option.{same_Some}
use Rattle.std.specs.Prelude.{⊤}
use Rattle.tt_index.specs.Greatest.{greatest}
use Rattle.tt_index.specs.declared.refusal.Refusal.{Refusal}
use Rattle.tt_index.specs.declared.refusal.Refusal.TheVariants.{Memory, TableFull, GreatestIndex}
use Rattle.tt_kinds.specs.Label.{Sort, type_sort, const_sort, Entry, Label, type_label, const_label}
use Rattle.tt_kinds.specs.Tree as tree
use Rattle.tt_kinds.specs.Tree.{Depth, Tree}
use Rattle.tt_kinds.specs.Reading.{place, reach, outer_binder, FitsAt}
use Rattle.tt_kinds.specs.Plain.{shifted}
use Rattle.tt_kinds.proofs.ReadingLaws.{place-outer, shifted-outer}
use Rattle.tt_kinds.proofs.OuterLaws.{shift_tree-low}
use Rattle.tt_kinds.specs.Bound.{depth, ty_entry, const_entry}
use Rattle.tt_kinds.specs.Shape.{Shape, bound, stored, HasParts, IsGreatest, Meaning, fill}
use Rattle.tt_kinds.specs.Kinds as forms
use Rattle.tt_kinds.specs.Kinds.{Form, form_shape, relabelled, ty_form, value_form, const_form, kind_table, kind_shape}
use Rattle.tt_kinds.specs.Kinds.{ty_kind_shape, const_kind_shape}
use Rattle.tt_kinds.specs.Handle.{Ty}
use Rattle.tt_kinds.specs.declared.bound.BoundTy.{BoundTy}
use Rattle.tt_kinds.specs.declared.bound.BoundConst.{BoundConst}
use Rattle.tt_kinds.specs.declared.bound.BoundVarIndexKind.{BoundVarIndexKind}
use Rattle.tt_kinds.specs.declared.bound.BoundVarIndexKind.TheVariants.{Bound, Canonical}
use Rattle.tt_kinds.specs.declared.ty_kind.TyKind.{TyKind}
use Rattle.tt_kinds.specs.declared.ty_kind.TyKind.TheVariants as ty
use Rattle.tt_kinds.specs.declared.const_kind.ConstKind.{ConstKind}
use Rattle.tt_kinds.specs.declared.const_kind.ConstKind.TheVariants as const
use Rattle.tt_kinds.specs.declared.const_kind.ValTreeKind.{ValTreeKind}
use Rattle.tt_kinds.specs.declared.const_kind.ValTreeKind.TheVariants as valtree
use Rattle.tt_kinds.specs.declared.parts.Kind.{Kind}
use Rattle.tt_kinds.specs.declared.parts.Kind.TheVariants as kind
use Rattle.tt_kinds.specs.declared.table.Table.{Table}
use Rattle.tt_kinds.specs.declared.table.Table.TheVariants.{Predicates, ClauseLists}
use Rattle.tt_kinds.specs.declared.table.TermTable.TheVariants as terms_of
use Rattle.tt_interner.specs.Rows.{Row, type_row, const_row, pat_row, predicate_row, existential_row, clauses_row}
use Rattle.tt_interner.specs.Rows.{tys_row, consts_row, args_row, pats_row, vars_row, existentials_row, assumptions_row}
use Rattle.tt_interner.specs.Rows.{text_row, declared_row, defined_row, row_table, row_shape, table, size, meaning}
use Rattle.tt_interner.specs.Stored.{Terms, Builds, IsCause}
use Rattle.tt_interner.proofs.RowLaws.{IsNewest, place_cases, meaning-old, meaning-new}
use Rattle.tt_visit.specs.Types.{is_type_tree}
use Rattle.tt_fold.proofs.PartLaws.{is_part, in_range, stored_tree}
use Rattle.tt_fold.proofs.ShiftLaws.{index-moved, shift_done}
use Rattle.tt_fold.specs.Remember.{Done, IsTaken}
use Rattle.tt_fold.specs.Steps.{IsPartOf, tree_in, IsRefused}
use Rattle.tt_fold.specs.Shift.{Shift, moved_tree, IsTooFar, IsVariable, shifting, IsTooGreat, IsPast, IsOuter}
use Rattle.tt_fold.specs.Shift.{bound_ty_in, bound_ty_of, bound_const_in, bound_const_of, moved_index}

-- the tree of a bound variable
abbrev pub bound_shape : Sort → BoundVarIndexKind → Entry ℕ → Shape
bound_shape o i e = bound o (depth i) e

-- a term of which nothing is bound outside is its own shift
pub term_kept : (n k : ℕ) (t : Tree Depth) → (k < outer_binder t → false ≡ true) → Done shifting n k t t
term_kept n k t closed = shift_done n k t t (sym (shift_tree-low k n t low))
  where
    low : outer_binder t ≤ k
    low = elim (cases_lt k (outer_binder t)) [ inl far ↦ absurd (let no : false ≡ true = closed far in cc) | inr le ↦ le ]

-- a type that is no variable, and of which something is bound outside, has to be taken apart
pub term_taken : (n k : ℕ) (t : Tree Depth) → is_type_tree t ≡ true → (IsVariable t → ⊥) → k < outer_binder t → IsTaken shifting n k t
term_taken n k (tree.term l ts) is other far = (is, far)
term_taken n k (tree.param o i name) is other far = absurd (omega (arith, far))
term_taken n k (tree.bound o d e) is other far = absurd (other tt)
term_taken n k (tree.region r) is other far = absurd (cc)
term_taken n k (tree.node l ts) is other far = absurd (cc)
term_taken n k (tree.binder vs t) is other far = absurd (cc)

index-outer : (k : ℕ) (i : BoundVarIndexKind) → k < reach (place 0 (depth i)) → IsOuter k i
index-outer k (Bound d) h = let low : k < suc (d - 0) = rw (place-outer 0 d (omega arith)) at h in omega arith
index-outer k Canonical h = omega (arith, h)

-- an index above the greatest
past-far : (n k : ℕ) (i : BoundVarIndexKind) → IsPast n k i → FitsAt k (place k (shifted n k (depth i))) → ⊥
past-far n k (Bound d) past fits =
    let above : k ≤ n + d = omega (arith, past.0) in
    let low : n + d - k + k < greatest = rw (shifted-outer n k d past.0, place-outer k (n + d) above) at fits in
    omega (arith, past.1)
past-far n k Canonical past fits = past

-- and the greatest itself
deep-far : (n k : ℕ) (i : BoundVarIndexKind) → IsOuter k i → IsGreatest (depth (moved_index n k i)) → FitsAt k (place k (shifted n k (depth i))) → ⊥
deep-far n k (Bound d) out deep fits =
    let above : k ≤ n + d = omega (arith, out) in
    let low : n + d - k + k < greatest = rw (shifted-outer n k d out, place-outer k (n + d) above) at fits in
    let high : greatest ≤ n + d = rw (le-ltb d k out) at deep in
    omega arith
deep-far n k Canonical out deep fits = out

module _ (f : Meaning) (s : Shift) (o : Sort) (i : BoundVarIndexKind) (e : Entry ℕ) where
  -- the variable, moved
  bound-moved : fill f (bound_shape o (moved_index s.amount s.under i) e) ≡ moved_tree s (fill f (bound_shape o i e))
  unfolding fill
  bound-moved = rw (index-moved s.amount s.under i) refl

  -- a variable that is bound outside
  pub bound_outer : (t : Tree Depth) → t ≡ fill f (bound_shape o i e) → s.under < outer_binder t → IsOuter s.under i
  unfolding fill
  bound_outer t same far = index-outer s.under i (rw same at far)

  -- the hook's answer
  pub term_given : (t r : Tree Depth) → t ≡ fill f (bound_shape o i e) → r ≡ moved_tree s (fill f (bound_shape o i e)) → IsVariable t × (r ≡ moved_tree s t)
  unfolding fill
  term_given t r same is = rw same (tt, is)

  -- what refuses the tree of a bound variable's shape refuses an equal tree
  pub term_refused : (unbuilt : Tree Depth → Refusal → Type 0) (t : Tree Depth) (r : Refusal) → t ≡ fill f (bound_shape o i e)
      → IsTooGreat r (IsTooFar s (fill f (bound_shape o i e))) ⊎ unbuilt (moved_tree s (fill f (bound_shape o i e))) r
      → IsTooGreat r (IsTooFar s t) ⊎ unbuilt (moved_tree s t) r
  term_refused unbuilt t r same cause = rw same cause

  -- a bound variable whose moved index would be above the greatest is too far out to be moved
  pub past_too_far : IsPast s.amount s.under i → IsTooFar s (fill f (bound_shape o i e))
  unfolding fill
  past_too_far past = past-far s.amount s.under i past

  deep_too_far : IsOuter s.under i → IsGreatest (depth (moved_index s.amount s.under i)) → IsTooFar s (fill f (bound_shape o i e))
  unfolding fill
  deep_too_far out deep = deep-far s.amount s.under i out deep

-- a bound variable, as it is stored
pub bound_stored : {H : Type 0} (number : H → ℕ) (t : Table) (row : BoundVarIndexKind → Row) (o : Sort) (e : Entry ℕ)
    → ((j : BoundVarIndexKind) → row_table (row j) ≡ t) → ((j : BoundVarIndexKind) → row_shape (row j) ≡ bound_shape o j e)
    → (terms terms1 : Terms) (j : BoundVarIndexKind) (result : Result H Refusal)
    → HasParts (size terms.rows) (row_shape (row j)) → Builds result number terms terms1 (row j)
    → MatchResult result
    (λ h. IsPartOf terms1.rows (stored t (number h)) × (tree_in terms1.rows (stored t (number h)) ≡ tree_in terms.rows (bound_shape o j e)))
    (λ r. IsTooGreat r (IsGreatest (depth j)) ⊎ IsRefused terms1 (tree_in terms.rows (bound_shape o j e)) r)
bound_stored {H} number t row o e of_table of_shape terms terms1 j result parts built = go result built
  where
    shaped : tree_in terms.rows (row_shape (row j)) ≡ tree_in terms.rows (bound_shape o j e)
    shaped = ap (tree_in terms.rows) (of_shape j)

    why : (r : Refusal) → IsCause terms (row j) r → IsTooGreat r (IsGreatest (depth j)) ⊎ IsRefused terms (tree_in terms.rows (bound_shape o j e)) r
    why Memory cause = inr (Memory, (refl, tt))
    why TableFull cause = inr (TableFull, (refl, record { row = row j; fills = shaped; parts = parts; new = cause.0; full = cause.1 }))
    why GreatestIndex cause = inl (refl, rw (of_shape j) at cause)
    why _ cause = absurd cause

    go : (result : Result H Refusal) → Builds result number terms terms1 (row j) → MatchResult result
        (λ h. IsPartOf terms1.rows (stored t (number h)) × (tree_in terms1.rows (stored t (number h)) ≡ tree_in terms.rows (bound_shape o j e)))
        (λ r. IsTooGreat r (IsGreatest (depth j)) ⊎ IsRefused terms1 (tree_in terms.rows (bound_shape o j e)) r)
    go (Ok h) b = (
      is_part terms1.rows t (number h) (rw (of_table j) at b.in_range),
      stored_tree terms1.rows t (number h) ∙ (rw (of_table j) at b.means) ∙ shaped,
    )
    go (Err r) b = rw b.err (why r b.cause)

-- a moved bound variable, as it is built
pub bound_built : {H : Type 0} (number : H → ℕ) (t : Table) (row : BoundVarIndexKind → Row) (o : Sort) (e : Entry ℕ)
    → ((j : BoundVarIndexKind) → row_table (row j) ≡ t) → ((j : BoundVarIndexKind) → row_shape (row j) ≡ bound_shape o j e)
    → (terms terms1 : Terms) (s : Shift) (i j : BoundVarIndexKind) (result : Result H Refusal) → IsOuter s.under i → j ≡ moved_index s.amount s.under i
    → HasParts (size terms.rows) (row_shape (row j)) → Builds result number terms terms1 (row j)
    → MatchResult result
    (λ h. IsPartOf terms1.rows (stored t (number h)) × (tree_in terms1.rows (stored t (number h)) ≡ moved_tree s (tree_in terms.rows (bound_shape o i e))))
    (λ r. IsTooGreat r (IsTooFar s (tree_in terms.rows (bound_shape o i e))) ⊎ IsRefused terms1 (moved_tree s (tree_in terms.rows (bound_shape o i e))) r)
bound_built {H} number t row o e of_table of_shape terms terms1 s i j result out same parts built =
    go result (bound_stored number t row o e of_table of_shape terms terms1 j result parts built)
  where
    moved : tree_in terms.rows (bound_shape o j e) ≡ moved_tree s (tree_in terms.rows (bound_shape o i e))
    moved = ap (λ j. tree_in terms.rows (bound_shape o j e)) same ∙ bound-moved (meaning terms.rows) s o i e

    go : (result : Result H Refusal)
        → MatchResult result
        (λ h. IsPartOf terms1.rows (stored t (number h)) × (tree_in terms1.rows (stored t (number h)) ≡ tree_in terms.rows (bound_shape o j e)))
        (λ r. IsTooGreat r (IsGreatest (depth j)) ⊎ IsRefused terms1 (tree_in terms.rows (bound_shape o j e)) r)
        → MatchResult result
        (λ h. IsPartOf terms1.rows (stored t (number h)) × (tree_in terms1.rows (stored t (number h)) ≡ moved_tree s (tree_in terms.rows (bound_shape o i e))))
        (λ r. IsTooGreat r (IsTooFar s (tree_in terms.rows (bound_shape o i e))) ⊎ IsRefused terms1 (moved_tree s (tree_in terms.rows (bound_shape o i e))) r)
    go (Ok h) is = (is.0, is.1 ∙ moved)
    go (Err r) is = elim is [
      | inl deep ↦ inl (deep.0, deep_too_far (meaning terms.rows) s o i e out (rw same at deep.1))
      | inr unbuilt ↦ inr (subst (λ u. IsRefused terms1 u r) moved unbuilt)
    ]

-- the form is no bound variable's
abbrev IsFree : {L : Type 0} → Form L → Type 0
IsFree (forms.bound d e) = ⊥
IsFree _ = ⊤

-- no more is the tree
abbrev IsUnbound : Tree Depth → Type 0
IsUnbound (tree.bound o d e) = ⊥
IsUnbound _ = ⊤

free-unbound : (f : Meaning) (o : Sort) (x : Form (Label ℕ)) → IsFree x → IsUnbound (fill f (form_shape o x))
unfolding fill
free-unbound f o (forms.param i name) h = tt
free-unbound f o (forms.bound d e) h = absurd h
free-unbound f o (forms.plain l p) h = tt
free-unbound f o (forms.under l vars m p) h = tt

free-relabelled : {L : Type 0} (g : L → Label ℕ) (x : Form L) → IsFree x → IsFree (relabelled g x)
free-relabelled g (forms.param i name) h = tt
free-relabelled g (forms.bound d e) h = absurd h
free-relabelled g (forms.plain l p) h = tt
free-relabelled g (forms.under l vars m p) h = tt

unbound-other : (t : Tree Depth) → IsUnbound t → IsVariable t → ⊥
unbound-other (tree.bound o d e) h is = h
unbound-other _ h is = is

-- types
abbrev pair_of : {A B : Type 0} → A → B → A × B
pair_of x y = (x, y)

same_pair : {A B : Type 0} (j i : A) (c b : B) → Some (pair_of j c) ≡ Some (pair_of i b) → (j ≡ i) × (c ≡ b)
same_pair {A} {B} j i c b h =
    let first : A × B = (j, c) in
    let second : A × B = (i, b) in
    let same : first ≡ second = same_Some first second h in
    (ap (λ p. p.0) same, ap (λ p. p.1) same)

is_bound_ty : (f : Meaning) (k : TyKind) (i : BoundVarIndexKind) (b : BoundTy) → bound_ty_in k ≡ Some (i, b) → fill f (ty_kind_shape k) ≡ fill f (bound_shape type_sort i (ty_entry b))
is_bound_ty f (ty.Bound j c) i b h = let same = same_pair j i c b h in rw (same.0, same.1) refl
is_bound_ty f _ i b h = absurd (cc)

free_ty : (k : TyKind) → bound_ty_in k ≡ None → IsFree (ty_form k)
free_ty (ty.Bound j c) h = absurd (cc)
free_ty _ h = tt

-- the tree of a kind that is a bound type is the tree of the variable
pub type_tree : (f : Meaning) (k : Kind) (i : BoundVarIndexKind) (b : BoundTy) → bound_ty_of k ≡ Some (i, b) → fill f (kind_shape k) ≡ fill f (bound_shape type_sort i (ty_entry b))
type_tree f (kind.Ty k) i b h = is_bound_ty f k i b h
type_tree f (kind.Const k) i b h = absurd (cc)
type_tree f (kind.Pat k) i b h = absurd (cc)
type_tree f (kind.Predicate k) i b h = absurd (cc)
type_tree f (kind.Existential k) i b h = absurd (cc)

-- the tree of any other kind of type is no bound variable
pub type_other : (f : Meaning) (k : Kind) → kind_table k ≡ terms_of.Types → bound_ty_of k ≡ None → IsVariable (fill f (kind_shape k)) → ⊥
type_other f (kind.Ty k) t h = unbound-other (fill f (ty_kind_shape k)) (free-unbound f type_sort (relabelled type_label (ty_form k)) (free-relabelled type_label (ty_form k) (free_ty k h)))
type_other f (kind.Const k) t h = absurd (cc)
type_other f (kind.Pat k) t h = absurd (cc)
type_other f (kind.Predicate k) t h = absurd (cc)
type_other f (kind.Existential k) t h = absurd (cc)

-- constants
is_bound_const : (f : Meaning) (k : ConstKind) (i : BoundVarIndexKind) (b : BoundConst) → bound_const_in k ≡ Some (i, b)
    → fill f (const_kind_shape k) ≡ fill f (bound_shape const_sort i (const_entry b))
is_bound_const f (const.Bound j c) i b h = let same = same_pair j i c b h in rw (same.0, same.1) refl
is_bound_const f _ i b h = absurd (cc)

free_value : (t : Ty) (k : ValTreeKind) → IsFree (value_form t k)
free_value t (valtree.Leaf x) = tt
free_value t (valtree.Branch cs) = tt

free_const : (k : ConstKind) → bound_const_in k ≡ None → IsFree (const_form k)
free_const (const.Bound j c) h = absurd (cc)
free_const (const.Value v) h = free_value v.ty v.valtree.kind
free_const _ h = tt

-- the tree of a kind that is a bound constant is the tree of the variable
pub const_tree : (f : Meaning) (k : Kind) (i : BoundVarIndexKind) (b : BoundConst) → bound_const_of k ≡ Some (i, b) → fill f (kind_shape k) ≡ fill f (bound_shape const_sort i (const_entry b))
const_tree f (kind.Ty k) i b h = absurd (cc)
const_tree f (kind.Const k) i b h = is_bound_const f k i b h
const_tree f (kind.Pat k) i b h = absurd (cc)
const_tree f (kind.Predicate k) i b h = absurd (cc)
const_tree f (kind.Existential k) i b h = absurd (cc)

-- the tree of any other kind of constant is no bound variable
pub const_other : (f : Meaning) (k : Kind) → kind_table k ≡ terms_of.Consts → bound_const_of k ≡ None → IsVariable (fill f (kind_shape k)) → ⊥
const_other f (kind.Ty k) t h = absurd (cc)
const_other f (kind.Const k) t h = unbound-other (fill f (const_kind_shape k)) (free-unbound f const_sort (relabelled const_label (const_form k)) (free-relabelled const_label (const_form k) (free_const k h)))
const_other f (kind.Pat k) t h = absurd (cc)
const_other f (kind.Predicate k) t h = absurd (cc)
const_other f (kind.Existential k) t h = absurd (cc)

-- predicates and lists of clauses
abbrev IsOfClauses : Table → Type 0
IsOfClauses Predicates = ⊤
IsOfClauses ClauseLists = ⊤
IsOfClauses _ = ⊥

-- they are no bound variables, and no types
record IsOther (t : Tree Depth) : Type 0 where
  unbound : IsUnbound t
  no_type : is_type_tree t ≡ false

row-other : (f : Meaning) (r : Row) → IsOfClauses (row_table r) → IsOther (fill f (row_shape r))
unfolding fill
row-other f (type_row k) h = absurd h
row-other f (const_row k) h = absurd h
row-other f (pat_row k) h = absurd h
row-other f (predicate_row p) h = record { unbound = tt; no_type = refl }
row-other f (existential_row p) h = absurd h
row-other f (clauses_row cs) h = record { unbound = tt; no_type = refl }
row-other f (tys_row ts) h = absurd h
row-other f (consts_row cs) h = absurd h
row-other f (args_row args) h = absurd h
row-other f (pats_row ps) h = absurd h
row-other f (vars_row vs) h = absurd h
row-other f (existentials_row ps) h = absurd h
row-other f (assumptions_row ps) h = absurd h
row-other f (text_row bytes) h = absurd h
row-other f (declared_row n d) h = absurd h
row-other f (defined_row n vs) h = absurd h

other-more : (r : Row) (rows : List Row) (t : Table) (n : ℕ) → IsOfClauses t → (n < size rows t → IsOther (meaning rows t n))
    → (n < size rows t) ⊎ IsNewest r rows t n → IsOther (meaning (r ∷ rows) t n)
other-more r rows t n of before (inl low) = rw (meaning-old r rows t n low) (before low)
other-more r rows t n of before (inr is) =
    let whole : IsOther (meaning (r ∷ rows) (row_table r) (size rows (row_table r))) = rw (meaning-new r rows) (row-other (meaning rows) r (rw is.same_table of)) in
    rw (is.last, ← is.same_table) whole

clauses-other : (rows : List Row) (t : Table) (n : ℕ) → IsOfClauses t → n < size rows t → IsOther (meaning rows t n)
unfolding table
clauses-other [] t n of h = absurd (omega arith)
clauses-other (r ∷ rows) t n of h = other-more r rows t n of (λ low. clauses-other rows t n of low) (place_cases r rows t n h)

-- the tree of a stored predicate, or of a stored list of clauses, is no bound variable
pub clauses_other : (rows : List Row) (t : Table) (n : ℕ) → IsOfClauses t → IsPartOf rows (stored t n) → IsVariable (tree_in rows (stored t n)) → ⊥
clauses_other rows t n of h is = unbound-other (meaning rows t n) (clauses-other rows t n of (in_range rows t n h)).unbound (subst IsVariable (stored_tree rows t n) is)
