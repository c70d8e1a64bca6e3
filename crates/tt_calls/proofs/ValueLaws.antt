-- Where a tree is a value's, its contents are, and its lists and texts are stored.
use Rattle.std.proofs.Common.{◌≡◌, ℕ, zero, suc, ◌<◌, List, [], ◌∷◌, Some, refl, ap, sym, subst, ◌∙◌}
use Rattle.std.specs.Prelude.{slice_get}
use Rattle.std.proofs.lemmas.Option.{none-some}
use Rattle.tt_kinds.specs.Label.{Name, VarKind, Label, var_list_label, record_label, sequence_record}
use Rattle.tt_kinds.specs.Tree as tree
use Rattle.tt_kinds.specs.Tree.{Tree, Forest, Depth}
use Rattle.tt_kinds.specs.Shape as shape
use Rattle.tt_kinds.specs.Shape.{Shape, Shapes, Extent, items_of, items_in, fill, fill_all, name_of, vars_of}
use Rattle.tt_kinds.specs.Shape.{rename_label, IsNamedLabel, HasParts, IsPart, AreParts}
use Rattle.tt_kinds.specs.declared.table.Table.{Table}
use Rattle.tt_kinds.specs.declared.table.Table.TheVariants.{VarLists}
use Rattle.tt_kinds.proofs.ForestLaws.{IsOfEach, part-each}
use Rattle.tt_interner.specs.Rows.{Row, row_table, row_shape, size, meaning, IsNew, AreRows}
use Rattle.tt_interner.proofs.Trees.{row_within, Means-row, IsNew-row, distinct, vars_within}
use Rattle.tt_interner.proofs.Fill.{fill-one_row, tree_table, label_table-rename}
use Rattle.tt_interner.proofs.ShapeLaws.{shape_one, root_of_row}
use Rattle.tt_interner.proofs.ViewLaws.{row_no_view}
use Rattle.tt_calls.specs.CallForm.{all_trees}
use Rattle.tt_calls.specs.Room.{HasValue, HasValues}

-- the first of some values
first-shape : (rows : List Row) (ss : Shapes) (t : Tree Depth) (ts : Forest Depth) → AreParts (size rows) ss → fill_all (meaning rows) ss ≡ tree.also t ts → HasValue rows t
unfolding fill
first-shape rows shape.none t ts h e = absurd (cc)
first-shape rows (shape.also s ss) t ts h e = record { shape = s; part = h.0; means = (let same = e in cc) }

-- if values have some trees in order, a value has the first of the trees
pub first-value : (rows : List Row) (t : Tree Depth) (ts : Forest Depth) → HasValues rows (tree.also t ts) → HasValue rows t
first-value rows t ts v = first-shape rows v.shapes t ts v.parts v.means

-- the others
later-shapes : (rows : List Row) (ss : Shapes) (t : Tree Depth) (ts : Forest Depth) → AreParts (size rows) ss → fill_all (meaning rows) ss ≡ tree.also t ts → HasValues rows ts
unfolding fill
later-shapes rows shape.none t ts h e = absurd (cc)
later-shapes rows (shape.also s ss) t ts h e = record { shapes = ss; parts = h.1; means = (let same = e in cc) }

-- if values have some trees in order, values have the trees after the first
pub later-values : (rows : List Row) (t : Tree Depth) (ts : Forest Depth) → HasValues rows (tree.also t ts) → HasValues rows ts
later-values rows t ts v = later-shapes rows v.shapes t ts v.parts v.means

each-value : (rows : List Row) → IsOfEach (HasValues rows) (HasValue rows)
unfolding fill
each-value rows = record {
  nothing = record { shapes = shape.none; parts = tt; means = refl };
  first = first-value rows;
  others = later-values rows;
  more = λ t ts v vs. record { shapes = shape.also v.shape vs.shapes; parts = (v.part, vs.parts); means = rw (v.means, vs.means) refl };
}

module _ (rows : List Row) (are : AreRows rows) where
  -- the children of a row that is a term
  term-row : (s : Shape) (l : Label Name) (ts : Forest Depth) → HasParts (size rows) s → fill (meaning rows) s ≡ tree.term l ts → HasValues rows ts
  unfolding fill
  term-row (shape.term m ss) l ts h e = record { shapes = ss; parts = h.1; means = (let same = e in cc) }
  term-row (shape.param o j n) l ts h e = absurd (cc)
  term-row (shape.bound o d y) l ts h e = absurd (cc)
  term-row (shape.region r) l ts h e = absurd h
  term-row (shape.node m ss) l ts h e = absurd (cc)
  term-row (shape.binder n b) l ts h e = absurd h
  term-row (shape.stored t n) l ts h e = absurd h
  term-row (shape.part_of t n x) l ts h e = absurd h

  term-part : (s : Shape) (l : Label Name) (ts : Forest Depth) → IsPart (size rows) s → fill (meaning rows) s ≡ tree.term l ts → HasValues rows ts
  unfolding fill
  term-part (shape.stored t n) l ts h e =
      let at = row_within rows t n h in
      let means = Means-row rows are t n at.0 at.1 in
      term-row (row_shape at.0) l ts means.parts (sym means.tree ∙ e)
  term-part (shape.param o j n) l ts h e = absurd (cc)
  term-part (shape.bound o d y) l ts h e = absurd (cc)
  term-part (shape.region r) l ts h e = absurd (cc)
  term-part (shape.term m ss) l ts h e = absurd h
  term-part (shape.node m ss) l ts h e = absurd (cc)
  term-part (shape.binder n b) l ts h e = absurd (cc)
  term-part (shape.part_of t n x) l ts h e = absurd (cc)

  -- the children of a term
  pub in-term : (l : Label Name) (ts : Forest Depth) → HasValue rows (tree.term l ts) → HasValues rows ts
  in-term l ts v = term-part v.shape l ts v.part v.means

  -- a node with this label and these children, whose names are texts
  pub record IsNode (l : Label Name) (ts : Forest Depth) : Type 0 where
    pub label : Label ℕ
    pub named : IsNamedLabel (size rows) label
    pub renamed : rename_label (name_of (meaning rows)) label ≡ l
    pub children : HasValues rows ts

  node-row : (s : Shape) (l : Label Name) (ts : Forest Depth) → HasParts (size rows) s → fill (meaning rows) s ≡ tree.node l ts → IsNode l ts
  unfolding fill
  node-row (shape.node m ss) l ts h e = record {
    label = m;
    named = h.0;
    renamed = (let same = e in cc);
    children = record { shapes = ss; parts = h.1; means = (let same = e in cc) };
  }
  node-row (shape.param o j n) l ts h e = absurd (cc)
  node-row (shape.bound o d y) l ts h e = absurd (cc)
  node-row (shape.region r) l ts h e = absurd h
  node-row (shape.term m ss) l ts h e = absurd (cc)
  node-row (shape.binder n b) l ts h e = absurd h
  node-row (shape.stored t n) l ts h e = absurd h
  node-row (shape.part_of t n x) l ts h e = absurd h

  node-stored : (t : Table) (n : ℕ) (l : Label Name) (ts : Forest Depth) → n < size rows t → meaning rows t n ≡ tree.node l ts → IsNode l ts
  node-stored t n l ts h e =
      let at = row_within rows t n h in
      let means = Means-row rows are t n at.0 at.1 in
      node-row (row_shape at.0) l ts means.parts (sym means.tree ∙ e)

  -- the items of a row that is a list
  row-items : (s : Shape) → HasParts (size rows) s → HasValues rows (items_of (fill (meaning rows) s))
  unfolding fill
  row-items (shape.node m ss) h = record { shapes = ss; parts = h.1; means = refl }
  row-items (shape.param o j n) h = (each-value rows).nothing
  row-items (shape.bound o d y) h = (each-value rows).nothing
  row-items (shape.term m ss) h = (each-value rows).nothing
  row-items (shape.region r) h = absurd h
  row-items (shape.binder n b) h = absurd h
  row-items (shape.stored t n) h = absurd h
  row-items (shape.part_of t n x) h = absurd h

  -- a part of a list is a record of some of its items
  node-some : (t : Table) (n : ℕ) (x : Extent) (l : Label Name) (ts : Forest Depth) → n < size rows t → fill (meaning rows) (shape.part_of t n x) ≡ tree.node l ts → IsNode l ts
  unfolding fill
  node-some t n x l ts h e =
      let at = row_within rows t n h in
      let means = Means-row rows are t n at.0 at.1 in
      let all : HasValues rows (items_of (meaning rows t n)) = subst (λ u. HasValues rows (items_of u)) (sym means.tree) (row-items (row_shape at.0) means.parts) in
      let some : items_in x (items_of (meaning rows t n)) ≡ ts = cc in
      record {
        label = record_label sequence_record;
        named = tt;
        renamed = (let same = e in cc);
        children = subst (HasValues rows) some (part-each (HasValues rows) (HasValue rows) (each-value rows) x (items_of (meaning rows t n)) all);
      }

  node-part : (s : Shape) (l : Label Name) (ts : Forest Depth) → IsPart (size rows) s → fill (meaning rows) s ≡ tree.node l ts → IsNode l ts
  unfolding fill
  node-part (shape.stored t n) l ts h e = node-stored t n l ts h e
  node-part (shape.part_of t n x) l ts h e = node-some t n x l ts h e
  node-part (shape.node m ss) l ts h e = record {
    label = m;
    named = h.1;
    renamed = (let same = e in cc);
    children = record { shapes = ss; parts = h.2; means = (let same = e in cc) };
  }
  node-part (shape.param o j n) l ts h e = absurd (cc)
  node-part (shape.bound o d y) l ts h e = absurd (cc)
  node-part (shape.region r) l ts h e = absurd (cc)
  node-part (shape.term m ss) l ts h e = absurd h
  node-part (shape.binder n b) l ts h e = absurd (cc)

  -- what a list or a record is
  pub in-node : (l : Label Name) (ts : Forest Depth) → HasValue rows (tree.node l ts) → IsNode l ts
  in-node l ts v = node-part v.shape l ts v.part v.means

  -- the contents of a binder
  pub record IsUnder (vs : List (VarKind Name)) (t : Tree Depth) : Type 0 where
    pub body : HasValue rows t
    pub vars : HasValue rows (tree.node (var_list_label vs) tree.none)

  binder-row : (s : Shape) (vs : List (VarKind Name)) (t : Tree Depth) → HasParts (size rows) s → fill (meaning rows) s ≡ tree.binder vs t → ⊥
  unfolding fill
  binder-row (shape.binder n b) vs t h e = h
  binder-row (shape.param o j n) vs t h e = cc
  binder-row (shape.bound o d y) vs t h e = cc
  binder-row (shape.region r) vs t h e = h
  binder-row (shape.term m ss) vs t h e = cc
  binder-row (shape.node m ss) vs t h e = cc
  binder-row (shape.stored u n) vs t h e = h
  binder-row (shape.part_of u n x) vs t h e = h

  binder-part : (s : Shape) (vs : List (VarKind Name)) (t : Tree Depth) → IsPart (size rows) s → fill (meaning rows) s ≡ tree.binder vs t → IsUnder vs t
  unfolding fill
  binder-part (shape.binder n b) vs t h e =
      let of_list : vars_of (meaning rows VarLists n) ≡ vs = cc in
      record {
        body = record { shape = b; part = h.1; means = (let same = e in cc) };
        vars = record { shape = shape.stored VarLists n; part = h.0; means = vars_within rows are n h.0 ∙ ap (λ ws. tree.node (var_list_label ws) tree.none) of_list };
      }
  binder-part (shape.stored u n) vs t h e =
      let at = row_within rows u n h in
      let means = Means-row rows are u n at.0 at.1 in
      absurd (binder-row (row_shape at.0) vs t means.parts (sym means.tree ∙ e))
  binder-part (shape.param o j n) vs t h e = absurd (cc)
  binder-part (shape.bound o d y) vs t h e = absurd (cc)
  binder-part (shape.region r) vs t h e = absurd (cc)
  binder-part (shape.term m ss) vs t h e = absurd h
  binder-part (shape.node m ss) vs t h e = absurd (cc)
  binder-part (shape.part_of u n x) vs t h e = absurd (cc)

  -- if a value has a binder's tree, there are values of what is under the binder and of its list of variables
  pub in-binder : (vs : List (VarKind Name)) (t : Tree Depth) → HasValue rows (tree.binder vs t) → IsUnder vs t
  in-binder vs t v = binder-part v.shape vs t v.part v.means

  -- a value that is no handle has no table
  no-table : (s : Shape) (r : Row) → IsPart (size rows) s → HasParts (size rows) (row_shape r) → IsNew r rows
      → fill (meaning rows) s ≡ fill (meaning rows) (row_shape r) → tree_table (fill (meaning rows) s) ≡ Some (row_table r) → ⊥
  unfolding fill
  no-table (shape.stored t n) r h parts new e k =
      let at = row_within rows t n h in
      let means = Means-row rows are t n at.0 at.1 in
      let same = fill-one_row (size rows) (meaning rows) (distinct rows are) (row_shape at.0) (row_shape r) (row_no_view at.0) (row_no_view r) means.parts parts (sym means.tree ∙ e) in
      IsNew-row r rows new t n at.0 at.1 (shape_one at.0 r same)
  no-table (shape.param o j n) r h parts new e k = none-some _ (sym h.0 ∙ k)
  no-table (shape.bound o d y) r h parts new e k = none-some _ (sym h.0 ∙ k)
  no-table (shape.region x) r h parts new e k = none-some _ k
  no-table (shape.term m ss) r h parts new e k = h
  no-table (shape.node m ss) r h parts new e k = none-some _ (sym (label_table-rename (name_of (meaning rows)) m ∙ h.0) ∙ k)
  no-table (shape.binder n b) r h parts new e k = none-some _ k
  no-table (shape.part_of t n x) r h parts new e k = none-some _ k

  -- a new row's tree is no value's
  pub new-lacks : (r : Row) → HasParts (size rows) (row_shape r) → IsNew r rows → HasValue rows (fill (meaning rows) (row_shape r)) → ⊥
  new-lacks r parts new v = no-table v.shape r v.part parts new v.means (ap tree_table v.means ∙ root_of_row (meaning rows) r)

-- the value at a place
pub value-at : {X : Type 0} (of_one : X → Tree Depth) (rows : List Row) (xs : List X) (i : ℕ) (x : X) → slice_get xs i ≡ Some x
    → HasValues rows (all_trees of_one xs) → HasValue rows (of_one x)
value-at of_one rows [] i x here v = absurd (cc)
value-at of_one rows (y ∷ xs) zero x here v = let same : y ≡ x = cc in subst (λ (z : _). HasValue rows (of_one z)) same (first-value rows _ _ v)
value-at of_one rows (y ∷ xs) (suc i) x here v = value-at of_one rows xs i x here (later-values rows _ _ v)
