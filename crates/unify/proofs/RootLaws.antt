-- What an assignment of types leaves of a tree: the table of its root, and so the sorts of children.
use Rattle.std.proofs.Common.{◌≡◌, refl, ℕ, ◌<◌, List, [], ◌∷◌, All, length, Option, Some, None, sym, ap, ◌∙◌}
use Rattle.std.proofs.Common.{Bool, true, false, zero, suc, arith}
use Rattle.std.proofs.lemmas.Bool.{false≢true}
use Rattle.std.specs.Prelude.{IsTrue}
use Rattle.tt_kinds.specs.Label.{Name, Label, type_label, infer_type, is_type, label_table}
use Rattle.tt_kinds.specs.declared.ty_kind.InferTy.TheVariants.{TyVar}
use Rattle.tt_kinds.specs.declared.table.Table.{Table}
use Rattle.tt_kinds.specs.declared.table.Table.TheVariants as table
use Rattle.tt_kinds.specs.declared.table.Table.TheVariants.{Types}
use Rattle.tt_kinds.specs.declared.table.TermTable.{TermTable}
use Rattle.tt_kinds.specs.declared.table.TermTable.TheVariants as terms_of
use Rattle.tt_kinds.specs.Tree as tree
use Rattle.tt_kinds.specs.Tree.{Depth, Tree, Forest, count_trees}
use Rattle.tt_kinds.specs.Shape.{Shapes, Meaning, Sizes, AreParts, append, fill, fill_all, sort_table}
use Rattle.tt_kinds.specs.Parts.{ChildSort, absent, a_region, a_stored, child_sort, IsItem}
use Rattle.tt_kinds.specs.TermTable.{term_table}
use Rattle.tt_kinds.specs.Kinds.{region_shape, child_shapes, children_shapes, items_tree}
use Rattle.tt_kinds.specs.declared.region_kind.RegionKind.{RegionKind}
use Rattle.tt_kinds.specs.declared.region_kind.RegionKind.TheVariants.{ReStatic}
use Rattle.tt_kinds.specs.declared.parts.Child.{Child}
use Rattle.tt_kinds.specs.declared.parts.Child.TheVariants as child
use Rattle.std.proofs.lemmas.Option.{same_Some}
use Rattle.tt_interner.proofs.Fill.{Distinguishes, tree_table}
use Rattle.tt_interner.proofs.InfoLaws.{AreParts-append}
use Rattle.unify.specs.Substitution.{Assignment, GivesTypes, IsType, assign, assign_all}

-- a type's tree has the table of types
label_of_type : (l : Label Name) → IsTrue (is_type l) → label_table l ≡ Some Types
label_of_type (type_label l) h = refl
label_of_type l h = absurd (false≢true h)

pub type_root : (t : Tree Depth) → IsType t → tree_table t ≡ Some Types
type_root (tree.param s i name) h = ap sort_table h
type_root (tree.bound s d e) h = ap sort_table h
type_root (tree.region r) h = absurd h
type_root (tree.term l ts) h = label_of_type l h
type_root (tree.node l ts) h = absurd h
type_root (tree.binder vs t) h = absurd h

-- what a child is whose tree has this table
abbrev pub table_sort : Option Table → ChildSort
table_sort (Some table.Types) = a_stored terms_of.Types
table_sort (Some table.Consts) = a_stored terms_of.Consts
table_sort (Some table.Patterns) = a_stored terms_of.Patterns
table_sort (Some table.Predicates) = a_stored terms_of.Predicates
table_sort (Some table.Existentials) = a_stored terms_of.Existentials
table_sort (Some table.ClauseLists) = a_stored terms_of.ClauseLists
table_sort (Some table.TypeLists) = a_stored terms_of.TypeLists
table_sort (Some table.ConstLists) = a_stored terms_of.ConstLists
table_sort (Some table.ArgLists) = a_stored terms_of.ArgLists
table_sort (Some table.PatternLists) = a_stored terms_of.PatternLists
table_sort (Some table.ExistentialLists) = a_stored terms_of.ExistentialLists
table_sort _ = a_region

-- what the first of the trees is, as a child
abbrev pub first_sort : Forest Depth → ChildSort
first_sort tree.none = absent
first_sort (tree.also t ts) = table_sort (tree_table t)

-- what the second of the trees is, as a child
abbrev pub second_sort : Forest Depth → ChildSort
second_sort tree.none = absent
second_sort (tree.also t ts) = first_sort ts

-- no child comes after a place without one
abbrev pub are_told : Child → Child → Bool
are_told child.Absent child.Absent = true
are_told child.Absent d = false
are_told c d = true

stored_back : (t : TermTable) → table_sort (Some (term_table t)) ≡ a_stored t
stored_back terms_of.Types = refl
stored_back terms_of.Consts = refl
stored_back terms_of.Patterns = refl
stored_back terms_of.Predicates = refl
stored_back terms_of.Existentials = refl
stored_back terms_of.ClauseLists = refl
stored_back terms_of.TypeLists = refl
stored_back terms_of.ConstLists = refl
stored_back terms_of.ArgLists = refl
stored_back terms_of.PatternLists = refl
stored_back terms_of.ExistentialLists = refl

-- tables with one tree at the root are one
pub table_one : (t u : TermTable) → term_table t ≡ term_table u → t ≡ u
table_one t u e = (let same : a_stored t ≡ a_stored u = sym (stored_back t) ∙ ap (λ x. table_sort (Some x)) e ∙ stored_back u in cc)

region_root : (m : Meaning) (r : RegionKind) → tree_table (fill m (region_shape r)) ≡ None
unfolding fill
region_root m ReStatic = refl
region_root m _ = refl

module _ (ρ : Assignment) where
  items_root : (s : TermTable) (ts : Forest Depth) → tree_table (assign ρ (items_tree s ts)) ≡ Some (term_table s)
  items_root terms_of.Types ts = refl
  items_root terms_of.Consts ts = refl
  items_root terms_of.Patterns ts = refl
  items_root terms_of.Predicates ts = refl
  items_root terms_of.Existentials ts = refl
  items_root terms_of.ClauseLists ts = refl
  items_root terms_of.TypeLists ts = refl
  items_root terms_of.ConstLists ts = refl
  items_root terms_of.ArgLists ts = refl
  items_root terms_of.PatternLists ts = refl
  items_root terms_of.ExistentialLists ts = refl

  -- two lists that become one tree are of one table
  pub items_tables : (s s' : TermTable) (ts us : Forest Depth) → assign ρ (items_tree s ts) ≡ assign ρ (items_tree s' us) → s ≡ s'
  items_tables s s' ts us h =
      table_one s s' (same_Some (term_table s) (term_table s') (sym (items_root s ts) ∙ ap tree_table h ∙ items_root s' us))

  -- an assignment leaves a region as it is
  pub region_left : (m : Meaning) (r : RegionKind) → assign ρ (fill m (region_shape r)) ≡ fill m (region_shape r)
  unfolding fill
  region_left m ReStatic = refl
  region_left m _ = refl

  -- an item has one tree
  item_count : (m : Meaning) (s : TermTable) (c : Child) (ss : Shapes) → IsItem s (child_sort c)
      → count_trees (assign_all ρ (fill_all m (append (child_shapes c) ss))) ≡ suc (count_trees (assign_all ρ (fill_all m ss)))
  unfolding fill
  item_count m s child.Absent ss h = absurd h
  item_count m s (child.Region r) ss h = refl
  item_count m s (child.Stored n) ss h = refl

  -- a list has a tree for each item
  pub items_count : (m : Meaning) (s : TermTable) (cs : List Child) → All (λ c. IsItem s (child_sort c)) cs
      → count_trees (assign_all ρ (fill_all m (children_shapes cs))) ≡ length cs
  unfolding fill
  items_count m s [] fit = refl
  items_count m s (c ∷ cs) fit =
      item_count m s c (children_shapes cs) (fit zero c (omega arith))
      ∙ ap suc (items_count m s cs (λ k e l. fit (suc k) e (omega (arith, l))))

module _ (ρ : Assignment) (types : GivesTypes ρ) where
  term_kept : (l : Label Name) (ts : Forest Depth) → tree_table (assign ρ (tree.term l ts)) ≡ label_table l
  term_kept (type_label (infer_type (TyVar v))) ts = type_root (ρ v) (types v)
  term_kept l ts = refl

  -- an assignment of types leaves the table of a tree's root
  pub table_kept : (t : Tree Depth) → tree_table (assign ρ t) ≡ tree_table t
  table_kept (tree.param s i name) = refl
  table_kept (tree.bound s d e) = refl
  table_kept (tree.region r) = refl
  table_kept (tree.term l ts) = term_kept l ts
  table_kept (tree.node l ts) = refl
  table_kept (tree.binder vs t) = refl

  module _ (size : Sizes) (m : Meaning) (d : Distinguishes size m) where
    -- the table of a stored term's tree
    pub stored_root : (t : Table) (n : ℕ) → n < size t → tree_table (assign ρ (m t n)) ≡ Some t
    stored_root t n h = table_kept (m t n) ∙ d.roots t n h

    -- what an assignment of types makes of a child tells the child's sort
    pub child_told : (c : Child) → AreParts size (child_shapes c) → first_sort (assign_all ρ (fill_all m (child_shapes c))) ≡ child_sort c
    unfolding fill
    child_told child.Absent h = refl
    child_told (child.Region r) h = ap table_sort (table_kept (fill m (region_shape r)) ∙ region_root m r)
    child_told (child.Stored k) h = ap table_sort (stored_root (term_table k.table) k.number h.0) ∙ stored_back k.table

    -- and what it makes of two children tells both sorts
    pub parts_told : (b c : Child) → are_told b c ≡ true → AreParts size (append (child_shapes b) (child_shapes c))
        → (first_sort (assign_all ρ (fill_all m (append (child_shapes b) (child_shapes c)))) ≡ child_sort b)
        × (second_sort (assign_all ρ (fill_all m (append (child_shapes b) (child_shapes c)))) ≡ child_sort c)
    unfolding fill
    parts_told child.Absent child.Absent told h = (refl, refl)
    parts_told child.Absent c told h = absurd (false≢true told)
    parts_told b c told h =
        let parts = AreParts-append size (child_shapes b) (child_shapes c) h in
        (child_told b parts.0, child_told c parts.1)
