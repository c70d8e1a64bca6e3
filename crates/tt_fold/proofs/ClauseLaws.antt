-- The lists of clauses in a tree: in stored terms they hold clauses alone, and so they do in a tree with other indices
-- or other trees for parameters.
use Rattle.std.proofs.Common.{inl, inr, ◌≡◌, ℕ, suc, ◌<◌, List, [], ◌∷◌, refl, sym, subst, arith, Bool, true, false}
use Rattle.std.specs.Prelude.{IsTrue, not, ⊤}
use Rattle.tt_kinds.specs.Label.{Name, Sort, Entry, type_sort, const_sort, Label, type_label, const_label}
use Rattle.tt_kinds.specs.Label.{predicate_label, clause_list_label, clause_label, record_label}
use Rattle.tt_kinds.specs.Tree as tree
use Rattle.tt_kinds.specs.Tree.{Depth, Tree, Forest, none, also, rebuild, rebuild_all}
use Rattle.tt_kinds.specs.Plain.{shifted, shift_tree}
use Rattle.tt_kinds.specs.Shape as shape
use Rattle.tt_kinds.specs.Shape.{Shape, Shapes, Meaning, Sizes, fill, fill_all, name_of, rename_label, item_shapes}
use Rattle.tt_kinds.specs.Shape.{IsPart, AreParts, HasParts}
use Rattle.tt_kinds.specs.Kinds.{Form, param, bound, plain, under, relabelled, form_shape, ty_form, const_form}
use Rattle.tt_kinds.specs.Kinds.{clause_shape}
use Rattle.tt_kinds.specs.declared.table.Table.{Table}
use Rattle.tt_kinds.specs.Handle.{Clause}
use Rattle.tt_interner.specs.Clauses.{is_clause_part, is_clause_inside, is_clause_tree, HasOther}
use Rattle.tt_kinds.proofs.ForestLaws.{IsOfEach, list-each}
use Rattle.tt_interner.specs.Rows.{Row, type_row, const_row, pat_row, predicate_row, existential_row, clauses_row}
use Rattle.tt_interner.specs.Rows.{tys_row, consts_row, args_row, pats_row, vars_row, existentials_row, assumptions_row}
use Rattle.tt_interner.specs.Rows.{text_row, declared_row, defined_row, row_shape, table, size, meaning, AreRows}
use Rattle.tt_interner.specs.Rows.{AreClauses, IsWellFormed}
use Rattle.tt_interner.specs.Stored.{IsNoClauseList}
use Rattle.tt_interner.proofs.RowLaws.{IsNewest, place_cases, meaning-old, meaning-new}
use Rattle.tt_fold.specs.Walk.{LosesClause}
use Rattle.tt_fold.specs.Leaves.{with_leaves, with_leaves_all, reindexed}
use Rattle.tt_fold.proofs.LeafLaws.{with_leaves-rebuild, with_leaves_all-rebuild}
use Rattle.tt_fold.specs.Steps.{IsPartOf, tree_in}
use Rattle.tt_fold.specs.Stands.{StandsIn, StandsAmong, itself, in_term, in_node, in_binder, in_first, in_later}

abbrev mutual
  -- each list of clauses in the tree holds clauses alone
  pub KeepsClauses : Tree Depth → Type 0
  KeepsClauses (tree.param s i name) = ⊤
  KeepsClauses (tree.bound s d e) = ⊤
  KeepsClauses (tree.region r) = ⊤
  KeepsClauses (tree.term l ts) = (IsNoClauseList (tree.term l ts) → ⊥) × KeepsClauses_all ts
  KeepsClauses (tree.node l ts) = KeepsClauses_all ts
  KeepsClauses (tree.binder vs t) = KeepsClauses t

  -- the same for trees in order
  pub KeepsClauses_all : Forest Depth → Type 0
  KeepsClauses_all none = ⊤
  KeepsClauses_all (also t ts) = KeepsClauses t × KeepsClauses_all ts

-- the contents of such a tree are such trees, and is no bad list
mutual
  stands-keeps : {u t : Tree Depth} → StandsIn u t → KeepsClauses t → KeepsClauses u
  stands-keeps itself h = h
  stands-keeps (in_term m) h = among-keeps m h.1
  stands-keeps (in_node m) h = among-keeps m h
  stands-keeps (in_binder m) h = stands-keeps m h

  among-keeps : {u : Tree Depth} {ts : Forest Depth} → StandsAmong u ts → KeepsClauses_all ts → KeepsClauses u
  among-keeps (in_first m) h = stands-keeps m h.0
  among-keeps (in_later m) h = among-keeps m h.1

no_bad_list : (u : Tree Depth) → KeepsClauses u → IsNoClauseList u → ⊥
no_bad_list (tree.term l ts) h bad = h.0 bad
no_bad_list _ h bad = bad

-- if each list of clauses in a tree holds clauses alone, no part of the tree is a list with another item
pub never_bad : {u t : Tree Depth} → StandsIn u t → KeepsClauses t → IsNoClauseList u → ⊥
never_bad {u} m h bad = no_bad_list u (stands-keeps m h) bad

-- where no bad list occurs in a tree, it is such a tree
mutual
  -- if no part of a tree is a list of clauses with another item, each list of clauses in it holds clauses alone
  pub keeps-fine : (t : Tree Depth) → ((u : Tree Depth) → StandsIn u t → IsNoClauseList u → ⊥) → KeepsClauses t
  keeps-fine (tree.param s i name) h = tt
  keeps-fine (tree.bound s d e) h = tt
  keeps-fine (tree.region r) h = tt
  keeps-fine (tree.term l ts) h = (h (tree.term l ts) itself, all-keep-fine ts (λ u m. h u (in_term m)))
  keeps-fine (tree.node l ts) h = all-keep-fine ts (λ u m. h u (in_node m))
  keeps-fine (tree.binder vs t) h = keeps-fine t (λ u m. h u (in_binder m))

  all-keep-fine : (ts : Forest Depth) → ((u : Tree Depth) → StandsAmong u ts → IsNoClauseList u → ⊥) → KeepsClauses_all ts
  all-keep-fine none h = tt
  all-keep-fine (also t ts) h = (keeps-fine t (λ u m. h u (in_first m)), all-keep-fine ts (λ u m. h u (in_later m)))

-- other trees for leaves leave clauses what they are
module _ (variable : ℕ → Sort → Depth → Entry Name → Tree Depth) (parameter : ℕ → Sort → ℕ → Name → Tree Depth) where
  clause_part : (k : ℕ) (t : Tree Depth) → is_clause_part t ≡ true → is_clause_part (with_leaves variable parameter k t) ≡ true
  clause_part k (tree.node (record_label m) ts) h = h
  clause_part k _ h = cc

  clause_inside : (k : ℕ) (ts : Forest Depth) → is_clause_inside ts ≡ true → is_clause_inside (with_leaves_all variable parameter k ts) ≡ true
  clause_inside k (also (tree.binder vs t) none) h = clause_part (suc k) t h
  clause_inside k _ h = cc

  clause_tree : (k : ℕ) (t : Tree Depth) → is_clause_tree t ≡ true → is_clause_tree (with_leaves variable parameter k t) ≡ true
  clause_tree k (tree.term predicate_label ts) h = clause_inside k ts h
  clause_tree k _ h = cc

  other_before : (k : ℕ) (t : Tree Depth) → IsTrue (not (is_clause_tree (with_leaves variable parameter k t))) → IsTrue (not (is_clause_tree t))
  other_before k t h = by (is_clause_tree t) refl
    where
      by : (b : Bool) → is_clause_tree t ≡ b → IsTrue (not (is_clause_tree t))
      by true e = let never = rw (clause_tree k t e) at h in cc
      by false e = rw e refl

  others_before : (k : ℕ) (ts : Forest Depth) → HasOther (with_leaves_all variable parameter k ts) → HasOther ts
  others_before k none h = h
  others_before k (also t ts) h = elim h [ inl a ↦ inl (other_before k t a) | inr b ↦ inr (others_before k ts b) ]

  pub leaves_list_before : (k : ℕ) (l : Label Name) (ts : Forest Depth) → IsNoClauseList (tree.term l (with_leaves_all variable parameter k ts)) → IsNoClauseList (tree.term l ts)
  leaves_list_before k clause_list_label ts h = others_before k ts h
  leaves_list_before k _ ts h = absurd h

  -- and a clause by itself one
  pub leaves-keep_clause : (k : ℕ) (l : Label Name) (ts : Forest Depth) → LosesClause l ts (with_leaves_all variable parameter k ts) → ⊥
  leaves-keep_clause k clause_label ts h = h.0 (others_before k ts h.1)
  leaves-keep_clause k _ ts h = h

  module _ (bound_given : (k : ℕ) (s : Sort) (d : Depth) (e : Entry Name) → KeepsClauses (variable k s d e)) (given : (k : ℕ) (s : Sort) (i : ℕ) (name : Name) → KeepsClauses (parameter k s i name)) where
    mutual
      -- other trees for leaves add no list of clauses with another item, if the trees have none
      pub leaves-keep : (k : ℕ) (t : Tree Depth) → KeepsClauses t → KeepsClauses (with_leaves variable parameter k t)
      leaves-keep k (tree.param s i name) h = given k s i name
      leaves-keep k (tree.bound s d e) h = bound_given k s d e
      leaves-keep k (tree.region r) h = tt
      leaves-keep k (tree.term l ts) h = (λ bad. h.0 (leaves_list_before k l ts bad), leaves_all-keep k ts h.1)
      leaves-keep k (tree.node l ts) h = leaves_all-keep k ts h
      leaves-keep k (tree.binder vs t) h = leaves-keep (suc k) t h

      leaves_all-keep : (k : ℕ) (ts : Forest Depth) → KeepsClauses_all ts → KeepsClauses_all (with_leaves_all variable parameter k ts)
      leaves_all-keep k none h = tt
      leaves_all-keep k (also t ts) h = (leaves-keep k t h.0, leaves_all-keep k ts h.1)

-- and so do other indices and other trees for parameters
module _ (index : ℕ → Depth → Depth) (parameter : ℕ → Sort → ℕ → Name → Tree Depth) where
  -- a list of clauses has another item only if it had one before its indices and parameters were replaced
  pub list_before : (k : ℕ) (l : Label Name) (ts : Forest Depth) → IsNoClauseList (tree.term l (rebuild_all index parameter k ts)) → IsNoClauseList (tree.term l ts)
  list_before k l ts h =
      leaves_list_before (reindexed index) parameter k l ts (subst (λ us. IsNoClauseList (tree.term l us)) (sym (with_leaves_all-rebuild index parameter k ts)) h)

  -- where indices and parameters are replaced, a clause by itself stays a clause
  pub rebuild-keeps_clause : (k : ℕ) (l : Label Name) (ts : Forest Depth) → LosesClause l ts (rebuild_all index parameter k ts) → ⊥
  rebuild-keeps_clause k l ts h =
      leaves-keep_clause (reindexed index) parameter k l ts (subst (λ us. LosesClause l ts us) (sym (with_leaves_all-rebuild index parameter k ts)) h)

  -- other trees for parameters add no list of clauses with another item, if the trees have none
  pub rebuild-keeps : ((k : ℕ) (s : Sort) (i : ℕ) (name : Name) → KeepsClauses (parameter k s i name)) → (k : ℕ) (t : Tree Depth) → KeepsClauses t → KeepsClauses (rebuild index parameter k t)
  rebuild-keeps given k t h =
      subst KeepsClauses (with_leaves-rebuild index parameter k t) (leaves-keep (reindexed index) parameter (λ j s d e. tt) given k t h)

-- if each list of clauses in a tree holds clauses alone, so does each in the shifted tree
pub shift-keeps : (n : ℕ) (t : Tree Depth) → KeepsClauses t → KeepsClauses (shift_tree 0 n t)
shift-keeps n t h = rebuild-keeps (shifted n) (λ k s i name. tree.param s i name) (λ k s i name. tt) 0 t h

each-keeps : IsOfEach KeepsClauses_all KeepsClauses
each-keeps = record {
  nothing = tt;
  first = λ t ts h. h.0;
  others = λ t ts h. h.1;
  more = λ t ts h hs. (h, hs);
}

-- the trees of shapes whose handles mean such trees
module _ (size : Sizes) (f : Meaning) (good : (t : Table) (n : ℕ) → n < size t → KeepsClauses (f t n)) where
  mutual
    unfolding fill

    part-keeps : (s : Shape) → IsPart size s → KeepsClauses (fill f s)
    part-keeps (shape.param s i name) p = tt
    part-keeps (shape.bound s d e) p = tt
    part-keeps (shape.region r) p = tt
    part-keeps (shape.term l ss) p = absurd p
    part-keeps (shape.node l ss) p = parts-keep ss p.2
    part-keeps (shape.binder n s) p = part-keeps s p.1
    part-keeps (shape.stored t n) p = good t n p
    part-keeps (shape.part_of t n e) p = list-each KeepsClauses_all KeepsClauses each-keeps (λ l ts h. h) e (f t n) (good t n p)

    parts-keep : (ss : Shapes) → AreParts size ss → KeepsClauses_all (fill_all f ss)
    parts-keep shape.none p = tt
    parts-keep (shape.also s ss) p = (part-keeps s p.0, parts-keep ss p.1)

  row-keeps : (s : Shape) → HasParts size s → (IsNoClauseList (fill f s) → ⊥) → KeepsClauses (fill f s)
  unfolding fill
  row-keeps (shape.param s i name) p fine = tt
  row-keeps (shape.bound s d e) p fine = tt
  row-keeps (shape.region r) p fine = absurd p
  row-keeps (shape.term l ss) p fine = (fine, parts-keep ss p.1)
  row-keeps (shape.node l ss) p fine = parts-keep ss p.1
  row-keeps (shape.binder n s) p fine = absurd p
  row-keeps (shape.stored t n) p fine = absurd p
  row-keeps (shape.part_of t n e) p fine = absurd p

-- a stored list of clauses holds clauses alone, and no other row is such a list
clauses_fine : (rows : List Row) (cs : List Clause) → AreClauses rows cs → HasOther (fill_all (meaning rows) (item_shapes clause_shape cs)) → ⊥
unfolding fill
clauses_fine rows [] are h = h
clauses_fine rows (c ∷ cs) are h = elim h [ inl a ↦ (let never = rw are.0.clause at a in cc) | inr b ↦ clauses_fine rows cs are.1 b ]

form_fine : {L : Type 0} (label : L → Label ℕ) (sort : Sort) (f : Meaning) → ((l : L) (ts : Forest Depth) → IsNoClauseList (tree.term (rename_label (name_of f) (label l)) ts) → ⊥)
    → (k : Form L) → IsNoClauseList (fill f (form_shape sort (relabelled label k))) → ⊥
unfolding fill
form_fine label sort f labels (param i name) h = h
form_fine label sort f labels (bound d e) h = h
form_fine label sort f labels (plain l p) h = labels l _ h
form_fine label sort f labels (under l vars m p) h = labels l _ h

row_fine : (rows : List Row) (r : Row) → IsWellFormed rows r → IsNoClauseList (fill (meaning rows) (row_shape r)) → ⊥
unfolding fill
row_fine rows (type_row k) holds h = form_fine type_label type_sort (meaning rows) (λ l ts bad. bad) (ty_form k) h
row_fine rows (const_row k) holds h = form_fine const_label const_sort (meaning rows) (λ l ts bad. bad) (const_form k) h
row_fine rows (pat_row k) holds h = h
row_fine rows (predicate_row b) holds h = h
row_fine rows (existential_row b) holds h = h
row_fine rows (clauses_row cs) holds h = clauses_fine rows cs holds h
row_fine rows (tys_row tys) holds h = h
row_fine rows (consts_row cs) holds h = h
row_fine rows (args_row args) holds h = h
row_fine rows (pats_row ps) holds h = h
row_fine rows (vars_row vs) holds h = h
row_fine rows (existentials_row ps) holds h = h
row_fine rows (assumptions_row ps) holds h = h
row_fine rows (text_row bytes) holds h = h
row_fine rows (declared_row n d) holds h = h
row_fine rows (defined_row n vs) holds h = h

stored_keeps : (rows : List Row) → AreRows rows → (t : Table) (n : ℕ) → n < size rows t → KeepsClauses (meaning rows t n)
unfolding table AreRows
stored_keeps [] are t n h = absurd (omega (arith, h))
stored_keeps (r ∷ rows) are t n h = elim (place_cases r rows t n h) [
  | inl old ↦ rw (meaning-old r rows t n old) (stored_keeps rows are.4 t n old)
  | inr newest ↦ at_newest newest (row-keeps (size rows) (meaning rows) (stored_keeps rows are.4) (row_shape r) are.0 (row_fine rows r are.3))
]
  where
    at_newest : IsNewest r rows t n → KeepsClauses (fill (meaning rows) (row_shape r)) → KeepsClauses (meaning (r ∷ rows) t n)
    at_newest newest keeps =
        let same : meaning (r ∷ rows) t n ≡ fill (meaning rows) (row_shape r) = rw (newest.last, ← newest.same_table) (meaning-new r rows) in
        rw same keeps

-- in the tree of a value whose handles name rows, each list of clauses holds clauses alone
pub value_keeps : (rows : List Row) → AreRows rows → (s : Shape) → IsPartOf rows s → KeepsClauses (tree_in rows s)
value_keeps rows are s part = part-keeps (size rows) (meaning rows) (stored_keeps rows are) s part
