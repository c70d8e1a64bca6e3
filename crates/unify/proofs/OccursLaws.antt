-- A variable and a type that holds it never become one tree: trees are finite.
use Rattle.std.proofs.Common.{◌≡◌, refl, ℕ, zero, suc, ◌<◌, ◌≤◌, List, [], ◌∷◌, length, Bool, true, false, Option, Some}
use Rattle.std.proofs.Common.{None, sym, subst, ap, ◌∙◌, arith}
use Rattle.std.specs.Prelude.{⊤, if◌then◌else◌, ◌&&◌, ◌==◌}
use Rattle.tt_kinds.specs.Label.{Name, Label, Sort, type_sort, const_sort, type_label, const_label}
use Rattle.tt_kinds.specs.Tree as tree
use Rattle.tt_kinds.specs.Tree.{Depth, Tree, Forest, count_trees, take_trees, drop_trees}
use Rattle.tt_kinds.specs.Shape as shape
use Rattle.tt_kinds.specs.Shape.{Shape, Shapes, Meaning, Sizes, fill, fill_all, items_of, item_count}
use Rattle.tt_kinds.specs.Shape.{first_item, item_shapes, IsPart, AreParts, HasParts}
use Rattle.tt_kinds.specs.Kinds.{Form, param, bound, plain, under, form_shape, kind_form, relabelled, ty_form}
use Rattle.tt_kinds.specs.Kinds.{const_form, parts_shapes, ty_shape, clause_shape, const_shape, arg_shape, pat_shape}
use Rattle.tt_kinds.specs.Kinds.{existential_shape}
use Rattle.tt_kinds.specs.Values.{assumption_shape, declared_shapes, variant_shape}
use Rattle.tt_kinds.specs.Handle.{Ty}
use Rattle.tt_kinds.specs.declared.table.Table.{Table}
use Rattle.tt_kinds.specs.declared.table.Table.TheVariants.{Types}
use Rattle.tt_kinds.specs.declared.parts.Kind.TheVariants as kind
use Rattle.tt_interner.specs.Rows.{Row, type_row, const_row, pat_row, predicate_row, existential_row, clauses_row}
use Rattle.tt_interner.specs.Rows.{tys_row, consts_row, args_row, pats_row, vars_row, existentials_row, assumptions_row}
use Rattle.tt_interner.specs.Rows.{text_row, declared_row, defined_row, row_shape, is_in, table, size, meaning, AreRows}
use Rattle.tt_fold.specs.Steps.{tree_in}
use Rattle.unify.specs.Substitution.{Substitution, Assignment, variable_of, variable_in, bound_to, every}
use Rattle.unify.specs.Substitution.{assign, assign_all, IsWithout, AreWithout}
use Rattle.unify.specs.Triangular.{weight, weights}
use Rattle.unify.proofs.SubstitutionLaws.{no_variable}
use Rattle.unify.proofs.FormEqualities.{contents, IsBare, kind_bare}
use Rattle.unify.proofs.GeneralLaws.{variable_assigned}

abbrev mutual
  -- no variable in the tree has contents
  pub IsProper : Tree Depth → Type 0
  IsProper (tree.param o i name) = ⊤
  IsProper (tree.bound o d e) = ⊤
  IsProper (tree.region r) = ⊤
  IsProper (tree.term l ts) = ((v : ℕ) → variable_of l ≡ Some v → ts ≡ tree.none) × AreProper ts
  IsProper (tree.node l ts) = AreProper ts
  IsProper (tree.binder vs t) = IsProper t

  -- the same for trees in order
  pub AreProper : Forest Depth → Type 0
  AreProper tree.none = ⊤
  AreProper (tree.also t ts) = IsProper t × AreProper ts

-- no variable in an entry has contents
abbrev pub AllProper : Substitution → Type 0
AllProper entries = (v : ℕ) (t : Tree Depth) → entries v ≡ Some t → IsProper t

module _ (ρ : Assignment) (v : ℕ) where
  term_lighter : (l : Label Name) (ts : Forest Depth) (o : Option ℕ) → variable_of l ≡ o
      → ((w : ℕ) → variable_of l ≡ Some w → ts ≡ tree.none) → (weights (assign_all ρ ts) < weight (ρ v) → AreWithout v ts)
      → weight (assign ρ (tree.term l ts)) < weight (ρ v) → IsWithout v (tree.term l ts)
  term_lighter l ts None e bare below h =
      let free : bound_to (every ρ) l ≡ None = no_variable (every ρ) l e in
      let less : suc (weights (assign_all ρ ts)) < weight (ρ v) = rw free at h in
      ((λ is. cc), below (omega (arith, less)))
  term_lighter l ts (Some w) e bare below h = (
    (λ is. let same : w ≡ v = cc in
        let less : weight (ρ w) < weight (ρ v) = subst (λ x. weight x < weight (ρ v)) (variable_assigned ρ (tree.term l ts) w e) h in
        let never : weight (ρ v) < weight (ρ v) = subst (λ n. weight (ρ n) < weight (ρ v)) same less in
        absurd (omega (arith, never))),
    subst (AreWithout v) (sym (bare w e)) tt,
  )

  mutual
    -- a tree that becomes less than the variable does holds no such variable
    lighter : (t : Tree Depth) → IsProper t → weight (assign ρ t) < weight (ρ v) → IsWithout v t
    lighter (tree.param o i name) proper h = tt
    lighter (tree.bound o d e) proper h = tt
    lighter (tree.region r) proper h = tt
    lighter (tree.term l ts) proper h = term_lighter l ts (variable_of l) refl proper.0 (all_lighter ts proper.1) h
    lighter (tree.node l ts) proper h = all_lighter ts proper (omega (arith, h))
    lighter (tree.binder vs t) proper h = lighter t proper (omega (arith, h))

    all_lighter : (ts : Forest Depth) → AreProper ts → weights (assign_all ρ ts) < weight (ρ v) → AreWithout v ts
    all_lighter tree.none proper h = tt
    all_lighter (tree.also t ts) proper h = (lighter t proper.0 (omega (arith, h)), all_lighter ts proper.1 (omega (arith, h)))

  term_heavy : (l : Label Name) (ts : Forest Depth) (o : Option ℕ) → variable_of l ≡ o
      → ((w : ℕ) → variable_of l ≡ Some w → ts ≡ tree.none) → (variable_of l ≡ Some v → ⊥) → (weights (assign_all ρ ts) < weight (ρ v) → AreWithout v ts)
      → weight (assign ρ (tree.term l ts)) ≤ weight (ρ v) → IsWithout v (tree.term l ts)
  term_heavy l ts None e bare other below h =
      let free : bound_to (every ρ) l ≡ None = no_variable (every ρ) l e in
      let less : suc (weights (assign_all ρ ts)) ≤ weight (ρ v) = rw free at h in
      (other, below (omega (arith, less)))
  term_heavy l ts (Some w) e bare other below h = (other, subst (AreWithout v) (sym (bare w e)) tt)

  -- a tree that becomes no more than the variable does, and is another one, holds no such variable
  pub no_heavier : (t : Tree Depth) → IsProper t → (variable_in t ≡ Some v → ⊥) → weight (assign ρ t) ≤ weight (ρ v) → IsWithout v t
  no_heavier (tree.param o i name) proper other h = tt
  no_heavier (tree.bound o d e) proper other h = tt
  no_heavier (tree.region r) proper other h = tt
  no_heavier (tree.term l ts) proper other h = term_heavy l ts (variable_of l) refl proper.0 other (all_lighter ts proper.1) h
  no_heavier (tree.node l ts) proper other h = all_lighter ts proper (omega (arith, h))
  no_heavier (tree.binder vs t) proper other h = lighter t proper (omega (arith, h))

  -- so does a tree that becomes what the variable does
  never_within : (t : Tree Depth) → IsProper t → (variable_in t ≡ Some v → ⊥) → ρ v ≡ assign ρ t → IsWithout v t
  never_within t proper other h = let same : weight (ρ v) ≡ weight (assign ρ t) = ap weight h in no_heavier t proper other (omega (arith, same))

-- The interner's trees are proper.

proper_taken : (n : ℕ) (ts : Forest Depth) → AreProper ts → AreProper (take_trees n ts)
proper_taken zero ts h = tt
proper_taken (suc n) tree.none h = tt
proper_taken (suc n) (tree.also t ts) h = (h.0, proper_taken n ts h.1)

proper_dropped : (n : ℕ) (ts : Forest Depth) → AreProper ts → AreProper (drop_trees n ts)
proper_dropped zero ts h = h
proper_dropped (suc n) tree.none h = tt
proper_dropped (suc n) (tree.also t ts) h = proper_dropped n ts h.1

proper_items : (t : Tree Depth) → IsProper t → AreProper (items_of t)
proper_items (tree.param o i name) h = tt
proper_items (tree.bound o d e) h = tt
proper_items (tree.region r) h = tt
proper_items (tree.term l ts) h = tt
proper_items (tree.node l ts) h = h
proper_items (tree.binder vs t) h = tt

module _ (sizes : Sizes) (m : Meaning) (each : (t : Table) (n : ℕ) → IsProper (m t n)) where
  mutual
    unfolding fill

    part_proper : (s : Shape) → IsPart sizes s → IsProper (fill m s)
    part_proper (shape.param s i name) h = tt
    part_proper (shape.bound s d e) h = tt
    part_proper (shape.region r) h = tt
    part_proper (shape.term l ss) h = absurd h
    part_proper (shape.node l ss) h = parts_proper ss h.2
    part_proper (shape.binder n s) h = part_proper s h.1
    part_proper (shape.stored t n) h = each t n
    part_proper (shape.part_of t n e) h =
        let items = items_of (m t n) in
        proper_taken (item_count e (count_trees items)) (drop_trees (first_item e) items) (proper_dropped (first_item e) items (proper_items (m t n) (each t n)))

    parts_proper : (ss : Shapes) → AreParts sizes ss → AreProper (fill_all m ss)
    parts_proper shape.none h = tt
    parts_proper (shape.also s ss) h = (part_proper s h.0, parts_proper ss h.1)

  form_proper : (s : Sort) (f : Form (Label ℕ)) → IsBare m s f → HasParts sizes (form_shape s f) → IsProper (fill m (form_shape s f))
  unfolding fill
  form_proper s (param i name) bare h = tt
  form_proper s (bound d e) bare h = tt
  form_proper s (plain l p) bare h = ((λ v e. ap (fill_all m) (bare v e)), parts_proper (parts_shapes p) h.1)
  form_proper s (under l vars r p) bare h = ((λ v e. ap (fill_all m) (bare v e)), parts_proper (contents (under l vars r p)) h.1)

  row_proper : (r : Row) → HasParts sizes (row_shape r) → IsProper (fill m (row_shape r))
  unfolding fill
  row_proper (type_row k) h = form_proper type_sort (relabelled type_label (ty_form k)) (kind_bare m (kind.Ty k)) h
  row_proper (const_row k) h = form_proper const_sort (relabelled const_label (const_form k)) (kind_bare m (kind.Const k)) h
  row_proper (pat_row k) h = form_proper const_sort (kind_form (kind.Pat k)) (kind_bare m (kind.Pat k)) h
  row_proper (predicate_row p) h = form_proper const_sort (kind_form (kind.Predicate p)) (kind_bare m (kind.Predicate p)) h
  row_proper (existential_row p) h = form_proper const_sort (kind_form (kind.Existential p)) (kind_bare m (kind.Existential p)) h
  row_proper (clauses_row cs) h = ((λ v e. absurd (cc)), parts_proper (item_shapes clause_shape cs) h.1)
  row_proper (tys_row ts) h = parts_proper (item_shapes ty_shape ts) h.1
  row_proper (consts_row cs) h = parts_proper (item_shapes const_shape cs) h.1
  row_proper (args_row args) h = parts_proper (item_shapes arg_shape args) h.1
  row_proper (pats_row ps) h = parts_proper (item_shapes pat_shape ps) h.1
  row_proper (vars_row vs) h = tt
  row_proper (existentials_row ps) h = parts_proper (item_shapes existential_shape ps) h.1
  row_proper (assumptions_row ps) h = parts_proper (item_shapes assumption_shape ps) h.1
  row_proper (text_row bytes) h = tt
  row_proper (declared_row n d) h = parts_proper (declared_shapes d.kind) h.1
  row_proper (defined_row n vs) h = parts_proper (item_shapes variant_shape vs) h.1

proper_either : (b : Bool) (t u : Tree Depth) → IsProper t → IsProper u → IsProper (if b then t else u)
proper_either true t u h k = h
proper_either false t u h k = k

meaning_proper : (rows : List Row) → AreRows rows → (t : Table) (n : ℕ) → IsProper (meaning rows t n)
unfolding meaning AreRows
meaning_proper [] are t n = tt
meaning_proper (r ∷ rows) are t n =
    proper_either (is_in t r && (n == length (table t rows))) (fill (meaning rows) (row_shape r)) (meaning rows t n)
    (row_proper (size rows) (meaning rows) (meaning_proper rows are.4) r are.0) (meaning_proper rows are.4 t n)

-- a type's tree is proper
pub type_proper : (rows : List Row) → AreRows rows → (t : Ty) → IsProper (tree_in rows (ty_shape t))
unfolding fill
type_proper rows are t = meaning_proper rows are Types t.number
