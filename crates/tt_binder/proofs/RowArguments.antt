-- What rows say of the terms and the arguments in them.
use Rattle.std.proofs.Common.{inl, inr, ◌≡◌, ℕ, ◌<◌, List, [], ◌∷◌, refl, subst, arith, Bool, false}
use Rattle.std.specs.Prelude.{Option, Some, None, slice_get, IsTrue, ⊤}
use Rattle.tt_kinds.specs.Label.{Name, Sort, type_sort, const_sort, Label, type_label, const_label, is_type}
use Rattle.tt_kinds.specs.Label.{is_type_or_clause}
use Rattle.tt_kinds.specs.Tree as tree
use Rattle.tt_kinds.specs.Tree.{Depth, Tree}
use Rattle.tt_kinds.specs.Shape.{Meaning, fill, name_of, rename_label}
use Rattle.tt_kinds.specs.Kinds.{Form, param, bound, plain, under, relabelled, form_shape, ty_form, const_form}
use Rattle.tt_kinds.specs.Kinds.{ty_kind_shape, const_kind_shape, ty_shape, const_shape, predicate_shape, clauses_shape}
use Rattle.tt_kinds.specs.declared.table.Table.{Table}
use Rattle.tt_kinds.specs.declared.table.Table.TheVariants.{Types, Consts, Predicates, ClauseLists, ArgLists}
use Rattle.tt_kinds.specs.Handle.{Ty}
use Rattle.tt_kinds.specs.Handle.{Const}
use Rattle.tt_kinds.specs.Handle.{Predicate}
use Rattle.tt_kinds.specs.Handle.{Clauses}
use Rattle.tt_kinds.specs.Handle.{GenericArgs}
use Rattle.tt_kinds.specs.declared.ty_kind.TyKind.{TyKind}
use Rattle.tt_kinds.specs.declared.const_kind.ConstKind.{ConstKind}
use Rattle.tt_interner.specs.Rows.{Row, type_row, const_row, pat_row, predicate_row, existential_row, clauses_row}
use Rattle.tt_interner.specs.Rows.{tys_row, consts_row, args_row, pats_row, vars_row, existentials_row, assumptions_row}
use Rattle.tt_interner.specs.Rows.{text_row, declared_row, defined_row, row_table, row_shape, table, size, meaning}
use Rattle.tt_interner.specs.Rows.{AreRows}
use Rattle.tt_interner.proofs.RowLaws.{IsNewest, place_cases, meaning-old, meaning-new}
use Rattle.tt_interner.proofs.Trees.{Means-row}
use Rattle.tt_interner.specs.Stored.{IsAt}
use Rattle.tt_fold.specs.Steps.{IsPartOf, tree_in}
use Rattle.tt_interner.specs.Arguments.{AreArguments, row_args, args_at}
use Rattle.tt_binder.specs.Instance.{IsOfClauses}
use Rattle.tt_binder.specs.Instantiation.{IsTypeOrClause, is_const, IsInnerConst}
use Rattle.tt_kinds.specs.Param.{IsParam}

-- the arguments of a stored list are among the rows
row_args_parts : (rows : List Row) → AreRows rows → (n : ℕ) (o : Option Row) → slice_get (table ArgLists rows) n ≡ o → AreArguments rows (row_args o)
row_args_parts rows are n None e = tt
row_args_parts rows are n (Some (args_row args)) e = (Means-row rows are ArgLists n (args_row args) e).parts.1
row_args_parts rows are n (Some _) e = tt

-- the handles in the arguments of a stored list name rows
pub are_arguments_at : (rows : List Row) (args : GenericArgs) → AreRows rows → AreArguments rows (args_at rows args)
are_arguments_at rows args are = row_args_parts rows are args.number (slice_get (table ArgLists rows) args.number) refl

-- what a parameter, a variable or a term of a sort and of some labels is
abbrev IsOfSort : Sort → (Label Name → Bool) → Tree Depth → Type 0
IsOfSort sort of_label (tree.param s i name) = s ≡ sort
IsOfSort sort of_label (tree.bound s d e) = s ≡ sort
IsOfSort sort of_label (tree.term l ts) = IsTrue (of_label l)
IsOfSort sort of_label _ = ⊥

-- the tree is a type's; a constant's; a predicate's or a clause list's
abbrev pub IsTypeTree : Tree Depth → Type 0
IsTypeTree t = IsOfSort type_sort is_type t

abbrev pub IsConstTree : Tree Depth → Type 0
IsConstTree t = IsOfSort const_sort is_const t

abbrev pub IsClauseTree : Tree Depth → Type 0
IsClauseTree (tree.term l ts) = (is_type l ≡ false) × IsTrue (is_type_or_clause l)
IsClauseTree _ = ⊥

-- what the trees of a table are
abbrev IsOf : Table → Tree Depth → Type 0
IsOf Types t = IsTypeTree t
IsOf Consts t = IsConstTree t
IsOf Predicates t = IsClauseTree t
IsOf ClauseLists t = IsClauseTree t
IsOf _ t = ⊤

form_is : {L : Type 0} (label : L → Label ℕ) (sort : Sort) (of_label : Label Name → Bool) (f : Meaning) → ((l : L) → IsTrue (of_label (rename_label (name_of f) (label l))))
    → (k : Form L) → IsOfSort sort of_label (fill f (form_shape sort (relabelled label k)))
unfolding fill
form_is label sort of_label f labels (param i name) = refl
form_is label sort of_label f labels (bound d e) = refl
form_is label sort of_label f labels (plain l p) = labels l
form_is label sort of_label f labels (under l vars m p) = labels l

row_is : (f : Meaning) (r : Row) → IsOf (row_table r) (fill f (row_shape r))
unfolding fill
row_is f (type_row k) = form_is type_label type_sort is_type f (λ l. refl) (ty_form k)
row_is f (const_row k) = form_is const_label const_sort is_const f (λ l. refl) (const_form k)
row_is f (pat_row k) = tt
row_is f (predicate_row b) = (refl, refl)
row_is f (existential_row b) = tt
row_is f (clauses_row cs) = (refl, refl)
row_is f (tys_row tys) = tt
row_is f (consts_row cs) = tt
row_is f (args_row args) = tt
row_is f (pats_row ps) = tt
row_is f (vars_row vs) = tt
row_is f (existentials_row ps) = tt
row_is f (assumptions_row ps) = tt
row_is f (text_row bytes) = tt
row_is f (declared_row n d) = tt
row_is f (defined_row n vs) = tt

newest_is : (r : Row) (rows : List Row) (t : Table) (n : ℕ) → IsNewest r rows t n → IsOf t (meaning (r ∷ rows) t n)
newest_is r rows t n newest =
    let same : meaning (r ∷ rows) t n ≡ fill (meaning rows) (row_shape r) = rw (newest.last, ← newest.same_table) (meaning-new r rows) in
    rw same (subst (λ u. IsOf u (fill (meaning rows) (row_shape r))) newest.same_table (row_is (meaning rows) r))

stored_is : (rows : List Row) (t : Table) (n : ℕ) → n < size rows t → IsOf t (meaning rows t n)
unfolding table
stored_is [] t n h = absurd (omega (arith, h))
stored_is (r ∷ rows) t n h = elim (place_cases r rows t n h) [
  | inl old ↦ rw (meaning-old r rows t n old) (stored_is rows t n old)
  | inr newest ↦ newest_is r rows t n newest
]

-- a type, a predicate and a clause list stay where they hold no parameter
type_label_stays : (l : Label Name) → IsTrue (is_type l) → IsTrue (is_type_or_clause l)
type_label_stays (type_label l) h = refl
type_label_stays _ h = cc

-- a type is one of the terms that stay where they hold no parameter
pub type_kept : (t : Tree Depth) → IsTypeTree t → IsTypeOrClause t
type_kept (tree.param s i name) is = rw is refl
type_kept (tree.bound s d e) is = rw is refl
type_kept (tree.term l ts) is = type_label_stays l is
type_kept _ is = absurd is

-- a predicate or a clause list is one of the terms that stay where they hold no parameter
pub clause_kept : (t : Tree Depth) → IsClauseTree t → IsTypeOrClause t
clause_kept (tree.term l ts) is = is.1
clause_kept _ is = absurd is

-- the tree of a stored type is one of the terms that stay where they hold no parameter
pub type_stays : (rows : List Row) (n : ℕ) → n < size rows Types → IsTypeOrClause (meaning rows Types n)
type_stays rows n h = type_kept (meaning rows Types n) (stored_is rows Types n h)

-- the tree of a stored predicate or clause list is one of the terms that stay where they hold no parameter
pub clause_stays : (rows : List Row) (t : Table) (n : ℕ) → IsOfClauses t → n < size rows t → IsTypeOrClause (meaning rows t n)
clause_stays rows Predicates n of h = clause_kept (meaning rows Predicates n) (stored_is rows Predicates n h)
clause_stays rows ClauseLists n of h = clause_kept (meaning rows ClauseLists n) (stored_is rows ClauseLists n h)
clause_stays rows _ n of h = absurd of

-- a constant that is no parameter
pub inner_const : (t : Tree Depth) → IsConstTree t → ((i : ℕ) → IsParam const_sort i t → ⊥) → IsInnerConst t
inner_const (tree.param s i name) is other = absurd (other i (is, refl))
inner_const (tree.bound s d e) is other = is
inner_const (tree.term l ts) is other = is
inner_const _ is other = absurd is

-- the same of handles
pub type_within : (rows : List Row) (ty : Ty) → IsPartOf rows (ty_shape ty) → ty.number < size rows Types
type_within rows ty h = h

-- a constant's handle that is in range names a row of its table
pub const_within : (rows : List Row) (c : Const) → IsPartOf rows (const_shape c) → c.number < size rows Consts
const_within rows c h = h

-- the tree of a type's handle is a type
pub type_is : (rows : List Row) (ty : Ty) → IsPartOf rows (ty_shape ty) → IsTypeTree (tree_in rows (ty_shape ty))
unfolding fill
type_is rows ty h = stored_is rows Types ty.number (type_within rows ty h)

-- the tree of a constant's handle is a constant
pub const_is : (rows : List Row) (c : Const) → IsPartOf rows (const_shape c) → IsConstTree (tree_in rows (const_shape c))
unfolding fill
const_is rows c h = stored_is rows Consts c.number (const_within rows c h)

-- the tree of a predicate's handle is a predicate or a clause list
pub predicate_is : (rows : List Row) (p : Predicate) → IsPartOf rows (predicate_shape p) → IsClauseTree (tree_in rows (predicate_shape p))
unfolding fill
predicate_is rows p h = stored_is rows Predicates p.number h

-- the tree of a clause list's handle is a predicate or a clause list
pub clauses_is : (rows : List Row) (cs : Clauses) → IsPartOf rows (clauses_shape cs) → IsClauseTree (tree_in rows (clauses_shape cs))
unfolding fill
clauses_is rows cs h = stored_is rows ClauseLists cs.number h

-- a type's tree is its kind's, and so with constants
pub kind_tree : (rows : List Row) (ty : Ty) (kind : TyKind) → AreRows rows → IsAt rows (type_row kind) ty.number → tree_in rows (ty_shape ty) ≡ fill (meaning rows) (ty_kind_shape kind)
unfolding fill
kind_tree rows ty kind are at = (Means-row rows are Types ty.number (type_row kind) at).tree

-- a constant's tree is the tree of the kind in its row
pub const_kind_tree : (rows : List Row) (c : Const) (kind : ConstKind) → AreRows rows → IsAt rows (const_row kind) c.number → tree_in rows (const_shape c) ≡ fill (meaning rows) (const_kind_shape kind)
unfolding fill
const_kind_tree rows c kind are at = (Means-row rows are Consts c.number (const_row kind) at).tree
