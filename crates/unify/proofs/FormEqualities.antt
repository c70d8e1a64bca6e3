-- What an assignment that makes two terms equal makes of their parts.
use Rattle.std.proofs.Common.{◌≡◌, refl, ℕ, zero, suc, List, [], ◌∷◌, slice_get, Option, Some, None, sym, subst, ap}
use Rattle.std.proofs.Common.{◌∙◌, All, arith, not, true, false}
use Rattle.std.proofs.lemmas.Bool.{true≢false, false≢true}
use Rattle.std.specs.Prelude.{Bool, ⊤}
use Rattle.std.proofs.lemmas.Option.{none-some, same_Some}
use Rattle.tt_kinds.specs.Label.{Name, Label, Sort, const_sort, const_label, record_label}
use Rattle.tt_kinds.specs.declared.ty_kind.InferTy.TheVariants.{TyVar}
use Rattle.tt_kinds.specs.Tree as tree
use Rattle.tt_kinds.specs.Tree.{Depth, Tree, Forest}
use Rattle.tt_kinds.specs.Shape as shape
use Rattle.tt_kinds.specs.Shape.{Shape, Shapes, append, Meaning, fill, fill_all, name_of, rename_label}
use Rattle.tt_kinds.specs.declared.table.Table.TheVariants.{VarLists}
use Rattle.tt_kinds.specs.Parts.{child_sort, AreLike, IsItem}
use Rattle.tt_kinds.specs.Kinds.{Form, param, bound, plain, under, form_parts, refilled, form_shape, kind_form}
use Rattle.tt_kinds.specs.Kinds.{kind_sort, kind_shape, relabelled, value_form, parts_shapes, child_shapes}
use Rattle.tt_kinds.specs.Kinds.{children_shapes, items_tree, handle_shape}
use Rattle.tt_kinds.specs.declared.parts.Child.{Child}
use Rattle.tt_kinds.specs.declared.parts.Child.TheVariants as child
use Rattle.tt_kinds.specs.declared.parts.Parts.{Parts}
use Rattle.tt_kinds.specs.declared.parts.Kind.{Kind}
use Rattle.tt_kinds.specs.declared.parts.Kind.TheVariants as kind
use Rattle.tt_kinds.specs.declared.ty_kind.TyKind.TheVariants as ty
use Rattle.tt_kinds.specs.declared.const_kind.ConstKind.TheVariants as const
use Rattle.tt_kinds.specs.declared.const_kind.ValTreeKind.{ValTreeKind}
use Rattle.tt_kinds.specs.declared.const_kind.ValTreeKind.TheVariants as valtree
use Rattle.tt_kinds.specs.Handle.{Ty}
use Rattle.tt_kinds.specs.contracts.parts.KindPartialEq.TheImpl as kinds
use Rattle.tt_kinds.specs.contracts.table.TermTablePartialEq.TheImpl as tables
use Rattle.tt_kinds.specs.declared.handle.AnyHandle.{AnyHandle}
use Rattle.tt_kinds.specs.declared.table.TermTable.{TermTable}
use Rattle.tt_kinds.specs.declared.table.TermTable.TheVariants as terms_of
use Rattle.tt_kinds.proofs.KindEqualityLaws.{any_kind_exact}
use Rattle.unify.specs.Substitution.{Assignment, variable_of, variable_in, bound_to, every, assign, assign_all}
use Rattle.unify.proofs.SubstitutionLaws.{bound_variable, inside, first_tree, other_trees}

-- what is in a tree of this form
abbrev pub contents : Form (Label ℕ) → Shapes
contents (param i name) = shape.none
contents (bound d e) = shape.none
contents (plain l p) = parts_shapes p
contents (under l vars r p) = shape.also (shape.binder vars.number (shape.node (record_label r) (parts_shapes p))) shape.none

-- a form whose tree is a variable has no contents
abbrev pub IsBare : Meaning → Sort → Form (Label ℕ) → Type 0
IsBare m s f = (v : ℕ) → variable_in (fill m (form_shape s f)) ≡ Some v → contents f ≡ shape.none

value_bare : (m : Meaning) (t : Ty) (k : ValTreeKind) → IsBare m const_sort (relabelled const_label (value_form t k))
unfolding fill
value_bare m t (valtree.Leaf s) v h = absurd (cc)
value_bare m t (valtree.Branch cs) v h = absurd (cc)

-- a variable has no parts
pub kind_bare : (m : Meaning) (k : Kind) → IsBare m (kind_sort k) (kind_form k)
unfolding fill
kind_bare m (kind.Ty (ty.Infer (TyVar w))) v h = refl
kind_bare m (kind.Ty k) v h = absurd (cc)
kind_bare m (kind.Const (const.Value x)) v h = value_bare m x.ty x.valtree.kind v h
kind_bare m (kind.Const k) v h = absurd (cc)
kind_bare m (kind.Pat k) v h = absurd (cc)
kind_bare m (kind.Predicate b) v h = absurd (cc)
kind_bare m (kind.Existential b) v h = absurd (cc)

-- both children are there, or neither is
abbrev Alike : Child → Child → Type 0
Alike child.Absent child.Absent = ⊤
Alike child.Absent d = ⊥
Alike c child.Absent = ⊥
Alike c d = ⊤

-- children of one sort
like_alike : (c d : Child) → child_sort d ≡ child_sort c → Alike c d
like_alike child.Absent child.Absent e = tt
like_alike child.Absent d e = absurd (cc)
like_alike c child.Absent e = absurd (cc)
like_alike c d e = tt

items_alike : (s : TermTable) (c d : Child) → IsItem s (child_sort c) → IsItem s (child_sort d) → Alike c d
items_alike s child.Absent d first second = absurd first
items_alike s c child.Absent first second = absurd second
items_alike s c d first second = tt

-- what is not told apart is equal
pub tested : (b : Bool) → not b ≡ false → b ≡ true
tested true e = refl
tested false e = absurd (true≢false e)

pub table_exact : (s s' : TermTable) → (tables.ghosts).eq s s' ≡ true → s ≡ s'
table_exact terms_of.Types terms_of.Types e = refl
table_exact terms_of.Consts terms_of.Consts e = refl
table_exact terms_of.Patterns terms_of.Patterns e = refl
table_exact terms_of.Predicates terms_of.Predicates e = refl
table_exact terms_of.Existentials terms_of.Existentials e = refl
table_exact terms_of.ClauseLists terms_of.ClauseLists e = refl
table_exact terms_of.TypeLists terms_of.TypeLists e = refl
table_exact terms_of.ConstLists terms_of.ConstLists e = refl
table_exact terms_of.ArgLists terms_of.ArgLists e = refl
table_exact terms_of.PatternLists terms_of.PatternLists e = refl
table_exact terms_of.ExistentialLists terms_of.ExistentialLists e = refl
table_exact _ _ e = absurd (false≢true e)

-- tables that `!=` doesn't tell apart are equal
pub same_table : (s s' : TermTable) → not ((tables.ghosts).eq s s') ≡ false → s ≡ s'
same_table s s' h = table_exact s s' (tested ((tables.ghosts).eq s s') h)

module _ (ρ : Assignment) where
  -- two terms of one label, which become one tree
  same_contents : (l : Label Name) (ts us : Forest Depth) (o : Option (Tree Depth)) → bound_to (every ρ) l ≡ o
      → ((v : ℕ) → variable_of l ≡ Some v → ts ≡ us)
      → assign ρ (tree.term l ts) ≡ assign ρ (tree.term l us) → assign_all ρ ts ≡ assign_all ρ us
  same_contents l ts us None e bare h = let same : tree.term l (assign_all ρ ts) ≡ tree.term l (assign_all ρ us) = rw e at h in ap inside same
  same_contents l ts us (Some b) e bare h = let found = bound_variable (every ρ) l b e in ap (assign_all ρ) (bare found.variable found.is)

  -- two lists of one table, which become one tree
  pub same_items : (s : TermTable) (ts us : Forest Depth) → assign ρ (items_tree s ts) ≡ assign ρ (items_tree s us) → assign_all ρ ts ≡ assign_all ρ us
  same_items terms_of.Types ts us h = ap inside h
  same_items terms_of.Consts ts us h = ap inside h
  same_items terms_of.Patterns ts us h = ap inside h
  same_items terms_of.Predicates ts us h = ap inside h
  same_items terms_of.Existentials ts us h = ap inside h
  same_items terms_of.ClauseLists ts us h = ap inside h
  same_items terms_of.TypeLists ts us h = ap inside h
  same_items terms_of.ConstLists ts us h = ap inside h
  same_items terms_of.ArgLists ts us h = ap inside h
  same_items terms_of.PatternLists ts us h = ap inside h
  same_items terms_of.ExistentialLists ts us h = ap inside h

  module _ (m : Meaning) where
    -- the first of children in order, and the others
    split : (c d : Child) (ss us : Shapes) → Alike c d
        → assign_all ρ (fill_all m (append (child_shapes c) ss)) ≡ assign_all ρ (fill_all m (append (child_shapes d) us))
        → (assign_all ρ (fill_all m (child_shapes c)) ≡ assign_all ρ (fill_all m (child_shapes d)))
        × (assign_all ρ (fill_all m ss) ≡ assign_all ρ (fill_all m us))
    unfolding fill
    split child.Absent child.Absent ss us a h = (refl, h)
    split child.Absent d ss us a h = absurd a
    split c child.Absent ss us a h = absurd a
    split c d ss us a h = (ap (λ ts. tree.also (first_tree (m VarLists 0) ts) tree.none) h, ap other_trees h)

    equal_forms : (s s' : Sort) (f : Form (Label ℕ)) (q : Parts) → IsBare m s f
        → q ≡ form_parts (refilled q f) → IsBare m s' (refilled q f)
        → assign ρ (fill m (form_shape s f)) ≡ assign ρ (fill m (form_shape s' (refilled q f)))
        → assign_all ρ (fill_all m (parts_shapes (form_parts f))) ≡ assign_all ρ (fill_all m (parts_shapes q))
    unfolding fill
    equal_forms s s' (param i name) q bare is bare' h = ap (λ x. assign_all ρ (fill_all m (parts_shapes x))) (sym is)
    equal_forms s s' (bound d e) q bare is bare' h = ap (λ x. assign_all ρ (fill_all m (parts_shapes x))) (sym is)
    equal_forms s s' (plain l p) q bare is bare' h =
        same_contents (rename_label (name_of m) l) (fill_all m (parts_shapes p)) (fill_all m (parts_shapes q)) (bound_to (every ρ) (rename_label (name_of m) l)) refl
        (λ v e. ap (fill_all m) (bare v e ∙ sym (bare' v e))) h
    equal_forms s s' (under l vars r p) q bare is bare' h =
        let inner = same_contents (rename_label (name_of m) l) (fill_all m (contents (under l vars r p))) (fill_all m (contents (under l vars r q))) (bound_to (every ρ) (rename_label (name_of m) l)) refl
        (λ v e. ap (fill_all m) (bare v e ∙ sym (bare' v e))) h in
        ap (λ ts. inside (first_tree (m VarLists 0) (inside (first_tree (m VarLists 0) ts)))) inner

    -- two kinds that are equal once their parts are, and become one tree: so do their parts, one by one
    pub equal_parts : (k other : Kind) → kind_form other ≡ refilled (form_parts (kind_form other)) (kind_form k)
        → AreLike (form_parts (kind_form k)) (form_parts (kind_form other))
        → assign ρ (fill m (kind_shape k)) ≡ assign ρ (fill m (kind_shape other))
        → (assign_all ρ (fill_all m (child_shapes (form_parts (kind_form k)).first)) ≡ assign_all ρ (fill_all m (child_shapes (form_parts (kind_form other)).first)))
        × (assign_all ρ (fill_all m (child_shapes (form_parts (kind_form k)).second)) ≡ assign_all ρ (fill_all m (child_shapes (form_parts (kind_form other)).second)))
    equal_parts k other is like h =
        let p : Parts = form_parts (kind_form k) in
        let q : Parts = form_parts (kind_form other) in
        let all : assign_all ρ (fill_all m (parts_shapes p)) ≡ assign_all ρ (fill_all m (parts_shapes q)) =
        subst (λ g. q ≡ form_parts g → IsBare m (kind_sort other) g → assign ρ (fill m (kind_shape k)) ≡ assign ρ (fill m (form_shape (kind_sort other) g))
        → assign_all ρ (fill_all m (parts_shapes p)) ≡ assign_all ρ (fill_all m (parts_shapes q))) (sym is)
        (equal_forms (kind_sort k) (kind_sort other) (kind_form k) q (kind_bare m k)) refl (kind_bare m other) h in
        split p.first q.first (child_shapes p.second) (child_shapes q.second) (like_alike p.first q.first like.first) all

    -- two lists that become one: so do their items, one by one
    pub equal_items : (s : TermTable) (cs ds : List Child) → All (λ c. IsItem s (child_sort c)) cs → All (λ c. IsItem s (child_sort c)) ds
        → assign_all ρ (fill_all m (children_shapes cs)) ≡ assign_all ρ (fill_all m (children_shapes ds))
        → (i : ℕ) (c d : Child) → slice_get cs i ≡ Some c → slice_get ds i ≡ Some d
        → assign_all ρ (fill_all m (child_shapes c)) ≡ assign_all ρ (fill_all m (child_shapes d))
    equal_items s [] ds fit fit' h i c d at at' = absurd (none-some c at)
    equal_items s (x ∷ cs) [] fit fit' h i c d at at' = absurd (none-some d at')
    equal_items s (x ∷ cs) (y ∷ ds) fit fit' h zero c d at at' =
        let both = split x y (children_shapes cs) (children_shapes ds) (items_alike s x y (fit zero x (omega arith)) (fit' zero y (omega arith))) h in
        ap (λ z. assign_all ρ (fill_all m (child_shapes z))) (sym (same_Some x c at)) ∙ both.0
        ∙ ap (λ z. assign_all ρ (fill_all m (child_shapes z))) (same_Some y d at')
    equal_items s (x ∷ cs) (y ∷ ds) fit fit' h (suc i) c d at at' =
        let both = split x y (children_shapes cs) (children_shapes ds) (items_alike s x y (fit zero x (omega arith)) (fit' zero y (omega arith))) h in
        equal_items s cs ds (λ k e l. fit (suc k) e (omega (arith, l))) (λ k e l. fit' (suc k) e (omega (arith, l))) both.1 i c d at at'

    -- two terms that become one tree, from what was read of them and tested
    pub parts_met : (l r : AnyHandle) (k other made : Kind) (p q : Parts) → p ≡ form_parts (kind_form k) → q ≡ form_parts (kind_form other)
        → AreLike p q → kind_form made ≡ refilled q (kind_form k) → not ((kinds.ghosts).eq made other) ≡ false
        → fill m (handle_shape l) ≡ fill m (kind_shape k) → fill m (handle_shape r) ≡ fill m (kind_shape other)
        → assign ρ (fill m (handle_shape l)) ≡ assign ρ (fill m (handle_shape r))
        → (assign_all ρ (fill_all m (child_shapes p.first)) ≡ assign_all ρ (fill_all m (child_shapes q.first)))
        × (assign_all ρ (fill_all m (child_shapes p.second)) ≡ assign_all ρ (fill_all m (child_shapes q.second)))
    parts_met l r k other made p q is is' like made_is same means means' h =
        let exact : made ≡ other = any_kind_exact made other (tested ((kinds.ghosts).eq made other) same) in
        let form : kind_form other ≡ refilled (form_parts (kind_form other)) (kind_form k) = sym (ap kind_form exact) ∙ made_is ∙ ap (λ x. refilled x (kind_form k)) is' in
        let alike : AreLike (form_parts (kind_form k)) (form_parts (kind_form other)) =
        subst (λ x. AreLike x (form_parts (kind_form other))) is (subst (λ x. AreLike p x) is' like) in
        let both = equal_parts k other form alike (sym (ap (assign ρ) means) ∙ h ∙ ap (assign ρ) means') in (
          ap (λ (x : Parts). assign_all ρ (fill_all m (child_shapes x.first))) is ∙ both.0 ∙ ap (λ (x : Parts). assign_all ρ (fill_all m (child_shapes x.first))) (sym is'),
          ap (λ (x : Parts). assign_all ρ (fill_all m (child_shapes x.second))) is ∙ both.1 ∙ ap (λ (x : Parts). assign_all ρ (fill_all m (child_shapes x.second))) (sym is'),
        )

    -- items of two lists that become one tree, from what was read of them
    pub items_met : (l r : AnyHandle) (s s' : TermTable) (cs ds : List Child) → s ≡ s'
        → fill m (handle_shape l) ≡ items_tree s (fill_all m (children_shapes cs)) → fill m (handle_shape r) ≡ items_tree s' (fill_all m (children_shapes ds))
        → All (λ c. IsItem s (child_sort c)) cs → All (λ c. IsItem s' (child_sort c)) ds
        → assign ρ (fill m (handle_shape l)) ≡ assign ρ (fill m (handle_shape r))
        → (i : ℕ) (c d : Child) → slice_get cs i ≡ Some c → slice_get ds i ≡ Some d
        → assign_all ρ (fill_all m (child_shapes c)) ≡ assign_all ρ (fill_all m (child_shapes d))
    items_met l r s s' cs ds e is is' fit fit' h =
        let fits : All (λ c. IsItem s (child_sort c)) ds = subst (λ x. All (λ c. IsItem x (child_sort c)) ds) (sym e) fit' in
        let other : fill m (handle_shape r) ≡ items_tree s (fill_all m (children_shapes ds)) = is' ∙ ap (λ x. items_tree x (fill_all m (children_shapes ds))) (sym e) in
        equal_items s cs ds fit fits
        (same_items s (fill_all m (children_shapes cs)) (fill_all m (children_shapes ds)) (sym (ap (assign ρ) is) ∙ h ∙ ap (assign ρ) other))
