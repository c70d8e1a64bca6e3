-- What an assignment of types that leaves two terms' roots doesn't make equal: terms that differ in more than their
-- parts, and lists of other sorts or lengths.
use Rattle.std.proofs.Common.{◌≡◌, refl, ℕ, List, [], All, length, Some, sym, subst, ap, ◌∙◌}
use Rattle.std.proofs.Common.{Bool, true, false, not, ◌&&◌}
use Rattle.std.proofs.lemmas.Bool.{true≢false, false≢true}
use Rattle.tt_kinds.specs.Label.{Name, Label, Sort, VarKind, type_label, const_label, predicate_label}
use Rattle.tt_kinds.specs.Label.{existential_label, record_label, infer_type, fn_ptr_type, unsafe_binder_type}
use Rattle.tt_kinds.specs.declared.ty_kind.InferTy.TheVariants.{TyVar}
use Rattle.tt_kinds.specs.declared.table.Table.TheVariants.{VarLists}
use Rattle.tt_kinds.specs.Tree as tree
use Rattle.tt_kinds.specs.Tree.{Depth, Tree, Forest, count_trees}
use Rattle.tt_kinds.specs.Shape.{Meaning, HasParts, fill, fill_all, name_of, vars_of}
use Rattle.tt_kinds.specs.Shape.{rename_entry, rename_label}
use Rattle.tt_kinds.specs.Parts.{child_sort, AreLike, IsItem, term_kind_child}
use Rattle.tt_kinds.specs.Kinds.{Form, param, bound, plain, under, form_parts, refilled, form_shape, kind_form}
use Rattle.tt_kinds.specs.Kinds.{kind_sort, kind_shape, kind_table, relabelled, value_form, parts_shapes}
use Rattle.tt_kinds.specs.Kinds.{children_shapes, items_tree, handle_shape, predicate_form, existential_form}
use Rattle.tt_kinds.specs.Kinds.{RecordForm}
use Rattle.tt_kinds.specs.declared.parts.Child.{Child}
use Rattle.tt_kinds.specs.declared.parts.Child.TheVariants as child
use Rattle.tt_kinds.specs.declared.parts.Parts.{Parts}
use Rattle.tt_kinds.specs.declared.parts.Kind.{Kind}
use Rattle.tt_kinds.specs.declared.parts.Kind.TheVariants as kind
use Rattle.tt_kinds.specs.contracts.parts.KindPartialEq.TheImpl as kinds
use Rattle.tt_kinds.specs.contracts.parts.KindEq.TheImpl.Laws as kind_laws
use Rattle.tt_kinds.specs.contracts.table.TermTablePartialEq.TheImpl as tables
use Rattle.tt_kinds.specs.contracts.table.TermTableEq.TheImpl.Laws as table_laws
use Rattle.tt_kinds.specs.declared.handle.AnyHandle.{AnyHandle}
use Rattle.tt_kinds.specs.declared.table.TermTable.{TermTable}
use Rattle.tt_kinds.specs.contracts.parts.ChildPartialEq.TheImpl as children
use Rattle.tt_kinds.specs.contracts.parts.ChildEq.TheImpl.Laws as child_laws
use Rattle.tt_kinds.specs.declared.ty_kind.TyKind.TheVariants as ty
use Rattle.tt_kinds.specs.declared.const_kind.ConstKind.TheVariants as const
use Rattle.tt_kinds.specs.declared.const_kind.ValTreeKind.{ValTreeKind}
use Rattle.tt_kinds.specs.declared.const_kind.ValTreeKind.TheVariants as valtree
use Rattle.tt_kinds.specs.declared.pattern.PatternKind.TheVariants as pattern
use Rattle.tt_kinds.specs.declared.predicate_kind.ClauseKind.{ClauseKind}
use Rattle.tt_kinds.specs.declared.predicate_kind.ClauseKind.TheVariants as clause
use Rattle.tt_kinds.specs.declared.predicate_kind.PredicateKind.{PredicateKind}
use Rattle.tt_kinds.specs.declared.predicate_kind.PredicateKind.TheVariants as predicate
use Rattle.tt_kinds.specs.declared.existential.ExistentialPredicate.{ExistentialPredicate}
use Rattle.tt_kinds.specs.declared.existential.ExistentialPredicate.TheVariants as existential
use Rattle.tt_kinds.specs.declared.term.TermKind.{TermKind}
use Rattle.tt_kinds.specs.declared.term.TermKind.TheVariants as term
use Rattle.tt_kinds.specs.Handle.{Ty}
use Rattle.tt_kinds.proofs.EqualityLaws.{both}
use Rattle.tt_interner.specs.Rows.{Row, meaning, size, row_shape, kind_row, AreRows}
use Rattle.tt_interner.specs.Nodes.{row_kind}
use Rattle.tt_interner.proofs.Fill.{fill-one_row}
use Rattle.tt_interner.proofs.InfoLaws.{form_has_parts}
use Rattle.tt_interner.proofs.NodeSteps.{same-sort, refilled_parts}
use Rattle.tt_interner.proofs.ShapeLaws.{shape_one}
use Rattle.tt_interner.proofs.Trees.{distinct}
use Rattle.tt_interner.proofs.ViewLaws.{row_no_view}
use Rattle.unify.specs.Substitution.{Assignment, GivesTypes, LeavesRoot, variable_of, assign, assign_all}
use Rattle.unify.proofs.SubstitutionLaws.{inside, first_tree}
use Rattle.unify.proofs.FormEqualities.{IsBare, kind_bare, same_items}
use Rattle.unify.proofs.RootLaws.{are_told, first_sort, second_sort, parts_told, items_tables, items_count}

-- the contents of a term of this label are under a binder
abbrev has_binder : {N : Type 0} → Label N → Bool
has_binder (type_label (fn_ptr_type h)) = true
has_binder (type_label unsafe_binder_type) = true
has_binder predicate_label = true
has_binder existential_label = true
has_binder _ = false

-- names tell nothing of it
binder_renamed : (name : ℕ → Name) (l : Label ℕ) → has_binder (rename_label name l) ≡ has_binder l
binder_renamed name predicate_label = refl
binder_renamed name _ = refl

-- the label tells whether the contents are under a binder, and the trees of the parts tell their sorts
abbrev is_regular : Form (Label ℕ) → Bool
is_regular (param i name) = true
is_regular (bound d e) = true
is_regular (plain l p) = not (has_binder l) && are_told p.first p.second
is_regular (under l vars r p) = has_binder l && are_told p.first p.second

value_regular : (t : Ty) (k : ValTreeKind) → is_regular (relabelled const_label (value_form t k)) ≡ true
value_regular t (valtree.Leaf s) = refl
value_regular t (valtree.Branch cs) = refl

-- a term alone, and two terms
term_alone : (k : TermKind) → are_told (term_kind_child k) child.Absent ≡ true
term_alone (term.Ty t) = refl
term_alone (term.Const c) = refl

terms_told : (k l : TermKind) → are_told (term_kind_child k) (term_kind_child l) ≡ true
terms_told (term.Ty t) (term.Ty u) = refl
terms_told (term.Ty t) (term.Const c) = refl
terms_told (term.Const c) (term.Ty u) = refl
terms_told (term.Const c) (term.Const d) = refl

abbrev record_told : RecordForm → Bool
record_told f = are_told f.parts.first f.parts.second

clause_told : (k : ClauseKind) → record_told (predicate_form (predicate.Clause k)) ≡ true
clause_told (clause.Projection p) = refl
clause_told (clause.WellFormed t) = term_alone t.kind
clause_told _ = refl

predicate_told : (k : PredicateKind) → record_told (predicate_form k) ≡ true
predicate_told (predicate.Clause c) = clause_told c
predicate_told (predicate.NormalizesTo p) = refl
predicate_told (predicate.AliasRelate a b r) = terms_told a.kind b.kind
predicate_told _ = refl

existential_told : (k : ExistentialPredicate) → record_told (existential_form k) ≡ true
existential_told (existential.Trait t) = refl
existential_told (existential.Projection p) = refl
existential_told (existential.AutoTrait d) = refl

kind_regular : (k : Kind) → is_regular (kind_form k) ≡ true
kind_regular (kind.Ty ty.Bool) = refl
kind_regular (kind.Ty _) = refl
kind_regular (kind.Const (const.Value v)) = value_regular v.ty v.valtree.kind
kind_regular (kind.Const _) = refl
kind_regular (kind.Pat pattern.NotNull) = refl
kind_regular (kind.Pat _) = refl
kind_regular (kind.Predicate b) = predicate_told b.value
kind_regular (kind.Existential b) = existential_told b.value

-- the parts of a kind are told
regular_told : (f : Form (Label ℕ)) → is_regular f ≡ true → are_told (form_parts f).first (form_parts f).second ≡ true
regular_told (param i name) h = refl
regular_told (bound d e) h = refl
regular_told (plain l p) h = (both (not (has_binder l)) (are_told p.first p.second) h).1
regular_told (under l vars r p) h = (both (has_binder l) (are_told p.first p.second) h).1

not_both : (b : Bool) → b ≡ true → not b ≡ true → ⊥
not_both true h n = false≢true n
not_both false h n = false≢true h

-- a label that is of both kinds of forms
never_both : (name : ℕ → Name) (l k : Label ℕ) → rename_label name l ≡ rename_label name k → not (has_binder l) ≡ true → has_binder k ≡ true → ⊥
never_both name l k e flat deep =
    not_both (has_binder l) (sym (binder_renamed name l) ∙ ap has_binder e ∙ binder_renamed name k ∙ deep) flat

abbrev label_in : Tree Depth → Label Name
label_in (tree.term l ts) = l
label_in (tree.node l ts) = l
label_in _ = predicate_label

abbrev vars_in : Tree Depth → List (VarKind Name)
vars_in (tree.binder vs t) = vs
vars_in _ = []

module _ (ρ : Assignment) (m : Meaning) where
  -- what the assignment makes of a form's tree if it leaves the root
  abbrev rooted : Sort → Form (Label ℕ) → Tree Depth
  rooted s (param i name) = tree.param s i (name_of m name)
  rooted s (bound d e) = tree.bound s d (rename_entry (name_of m) e)
  rooted s (plain l p) = tree.term (rename_label (name_of m) l) (assign_all ρ (fill_all m (parts_shapes p)))
  rooted s (under l vars r p) = tree.term (rename_label (name_of m) l) (tree.also
      (tree.binder (vars_of (m VarLists vars.number)) (tree.node (rename_label (name_of m) (record_label r)) (assign_all ρ (fill_all m (parts_shapes p))))) tree.none)

  term_rooted : (l : Label Name) (ts : Forest Depth) → ((v : ℕ) → variable_of l ≡ Some v → ts ≡ tree.none)
      → LeavesRoot ρ (tree.term l ts) → assign ρ (tree.term l ts) ≡ tree.term l (assign_all ρ ts)
  term_rooted (type_label (infer_type (TyVar v))) ts bare leaves =
      leaves v refl ∙ ap (λ us. tree.term (type_label (infer_type (TyVar v))) (assign_all ρ us)) (sym (bare v refl))
  term_rooted l ts bare leaves = refl

  form_rooted : (s : Sort) (f : Form (Label ℕ)) → IsBare m s f → LeavesRoot ρ (fill m (form_shape s f)) → assign ρ (fill m (form_shape s f)) ≡ rooted s f
  unfolding fill
  form_rooted s (param i name) bare leaves = refl
  form_rooted s (bound d e) bare leaves = refl
  form_rooted s (plain l p) bare leaves =
      term_rooted (rename_label (name_of m) l) (fill_all m (parts_shapes p)) (λ v e. ap (fill_all m) (bare v e)) leaves
  form_rooted s (under l vars r p) bare leaves =
      term_rooted (rename_label (name_of m) l) _ (λ v e. ap (fill_all m) (bare v e)) leaves

  -- Two forms that become one tree differ in their parts alone, which become the same.
  record Alike (s s' : Sort) (f g : Form (Label ℕ)) : Type 0 where
    pub trees : fill m (form_shape s (refilled (form_parts g) f)) ≡ fill m (form_shape s' g)
    pub parts : assign_all ρ (fill_all m (parts_shapes (form_parts f))) ≡ assign_all ρ (fill_all m (parts_shapes (form_parts g)))

  forms_alike : (s s' : Sort) (f g : Form (Label ℕ)) → is_regular f ≡ true → is_regular g ≡ true → rooted s f ≡ rooted s' g → Alike s s' f g
  unfolding fill
  forms_alike s s' (param i name) (param j other) told told' h = record { trees = h; parts = refl }
  forms_alike s s' (bound d e) (bound c x) told told' h = record { trees = h; parts = refl }
  forms_alike s s' (plain l p) (plain k q) told told' h = record {
    trees = ap (λ x. tree.term (label_in x) (fill_all m (parts_shapes q))) h;
    parts = ap inside h;
  }
  forms_alike s s' (under l vars r p) (under k others x q) told told' h =
      let binders = ap (λ t. first_tree t (inside t)) h in
      let records = ap (λ t. first_tree t (inside t)) binders in
      record {
        trees = λ i. tree.term (label_in (h i)) (tree.also (tree.binder (vars_in (binders i)) (tree.node (label_in (records i)) (fill_all m (parts_shapes q)))) tree.none);
        parts = ap inside records;
      }
  forms_alike s s' (plain l p) (under k others x q) told told' h =
      absurd (never_both (name_of m) l k (ap label_in h) (both (not (has_binder l)) (are_told p.first p.second) told).0 (both (has_binder k) (are_told q.first q.second) told').0)
  forms_alike s s' (under l vars r p) (plain k q) told told' h =
      absurd (never_both (name_of m) k l (sym (ap label_in h)) (both (not (has_binder k)) (are_told q.first q.second) told').0 (both (has_binder l) (are_told p.first p.second) told).0)
  forms_alike s s' _ _ told told' h = absurd (cc)

kind_row_shape : (k : Kind) → row_shape (kind_row k) ≡ kind_shape k
kind_row_shape (kind.Ty k) = refl
kind_row_shape (kind.Const k) = refl
kind_row_shape (kind.Pat k) = refl
kind_row_shape (kind.Predicate b) = refl
kind_row_shape (kind.Existential b) = refl

kind_back : (k : Kind) → row_kind (kind_row k) ≡ k
kind_back (kind.Ty k) = refl
kind_back (kind.Const k) = refl
kind_back (kind.Pat k) = refl
kind_back (kind.Predicate b) = refl
kind_back (kind.Existential b) = refl

module _ (rows : List Row) (are : AreRows rows) where
  -- kinds of one tree are one
  kind_one : (j k : Kind) → HasParts (size rows) (kind_shape j) → HasParts (size rows) (kind_shape k) → fill (meaning rows) (kind_shape j) ≡ fill (meaning rows) (kind_shape k) → j ≡ k
  kind_one j k p q h =
      let shapes : row_shape (kind_row j) ≡ row_shape (kind_row k) = fill-one_row (size rows) (meaning rows) (distinct rows are) (row_shape (kind_row j)) (row_shape (kind_row k))
      (row_no_view (kind_row j)) (row_no_view (kind_row k))
      (subst (HasParts (size rows)) (sym (kind_row_shape j)) p) (subst (HasParts (size rows)) (sym (kind_row_shape k)) q)
      (ap (fill (meaning rows)) (kind_row_shape j) ∙ h ∙ ap (fill (meaning rows)) (sym (kind_row_shape k))) in
      sym (kind_back j) ∙ ap row_kind (shape_one (kind_row j) (kind_row k) shapes) ∙ kind_back k

  module _ (ρ : Assignment) (types : GivesTypes ρ) where
    kinds_alike : (k other : Kind) → LeavesRoot ρ (fill (meaning rows) (kind_shape k)) → LeavesRoot ρ (fill (meaning rows) (kind_shape other))
        → assign ρ (fill (meaning rows) (kind_shape k)) ≡ assign ρ (fill (meaning rows) (kind_shape other))
        → Alike ρ (meaning rows) (kind_sort k) (kind_sort other) (kind_form k) (kind_form other)
    kinds_alike k other leaves leaves' h =
        forms_alike ρ (meaning rows) (kind_sort k) (kind_sort other) (kind_form k) (kind_form other) (kind_regular k) (kind_regular other)
        (sym (form_rooted ρ (meaning rows) (kind_sort k) (kind_form k) (kind_bare (meaning rows) k) leaves) ∙ h
        ∙ form_rooted ρ (meaning rows) (kind_sort other) (kind_form other) (kind_bare (meaning rows) other) leaves')

    -- the parts of two kinds that become one tree are of the same sorts
    parts_like : (k other : Kind) → HasParts (size rows) (kind_shape k) → HasParts (size rows) (kind_shape other)
        → assign_all ρ (fill_all (meaning rows) (parts_shapes (form_parts (kind_form k)))) ≡ assign_all ρ (fill_all (meaning rows) (parts_shapes (form_parts (kind_form other))))
        → AreLike (form_parts (kind_form k)) (form_parts (kind_form other))
    parts_like k other in_k in_other same =
        let p : Parts = form_parts (kind_form k) in
        let q : Parts = form_parts (kind_form other) in
        let old = parts_told ρ types (size rows) (meaning rows) (distinct rows are) p.first p.second (regular_told (kind_form k) (kind_regular k))
        (form_has_parts (kind_sort k) (size rows) (kind_form k) in_k) in
        let new = parts_told ρ types (size rows) (meaning rows) (distinct rows are) q.first q.second (regular_told (kind_form other) (kind_regular other))
        (form_has_parts (kind_sort other) (size rows) (kind_form other) in_other) in
        record { first = sym new.0 ∙ ap first_sort (sym same) ∙ old.0; second = sym new.1 ∙ ap second_sort (sym same) ∙ old.1 }

    -- a kind like the first that has the second's parts is the second
    made_same : (k other made : Kind) → HasParts (size rows) (kind_shape k) → HasParts (size rows) (kind_shape other)
        → kind_table made ≡ kind_table k → kind_form made ≡ refilled (form_parts (kind_form other)) (kind_form k)
        → fill (meaning rows) (form_shape (kind_sort k) (refilled (form_parts (kind_form other)) (kind_form k))) ≡ fill (meaning rows) (kind_shape other)
        → made ≡ other
    made_same k other made in_k in_other table form same =
        let q : Parts = form_parts (kind_form other) in
        let shape : kind_shape made ≡ form_shape (kind_sort k) (refilled q (kind_form k)) =
        ap (λ s. form_shape s (kind_form made)) (same-sort made k table) ∙ ap (form_shape (kind_sort k)) form in
        let parts : HasParts (size rows) (kind_shape made) =
        subst (HasParts (size rows)) (sym shape) (refilled_parts (size rows) (kind_sort k) q (kind_form k) in_k (form_has_parts (kind_sort other) (size rows) (kind_form other) in_other)) in
        kind_one made other parts in_other (ap (fill (meaning rows)) shape ∙ same)

    -- two terms that become one tree are alike: the one has the other's kind, once it has the other's parts
    pub terms_alike : (l r : AnyHandle) (k other : Kind) (p q : Parts) → p ≡ form_parts (kind_form k) → q ≡ form_parts (kind_form other)
        → HasParts (size rows) (kind_shape k) → HasParts (size rows) (kind_shape other)
        → fill (meaning rows) (handle_shape l) ≡ fill (meaning rows) (kind_shape k) → fill (meaning rows) (handle_shape r) ≡ fill (meaning rows) (kind_shape other)
        → LeavesRoot ρ (fill (meaning rows) (handle_shape l)) → LeavesRoot ρ (fill (meaning rows) (handle_shape r))
        → assign ρ (fill (meaning rows) (handle_shape l)) ≡ assign ρ (fill (meaning rows) (handle_shape r))
        → AreLike p q × ((made : Kind) → kind_table made ≡ kind_table k → kind_form made ≡ refilled q (kind_form k) → made ≡ other)
    terms_alike l r k other p q is is' in_k in_other means means' leaves leaves' h =
        let alike = kinds_alike k other (subst (LeavesRoot ρ) means leaves) (subst (LeavesRoot ρ) means' leaves') (sym (ap (assign ρ) means) ∙ h ∙ ap (assign ρ) means') in (
          subst (λ x. AreLike x q) (sym is) (subst (AreLike (form_parts (kind_form k))) (sym is') (parts_like k other in_k in_other alike.parts)),
          λ made table form. made_same k other made in_k in_other table (form ∙ ap (λ x. refilled x (kind_form k)) is') alike.trees,
        )

-- two lists that become one tree are of one sort and have as many items
pub lists_alike : (ρ : Assignment) (m : Meaning) (l r : AnyHandle) (s s' : TermTable) (cs ds : List Child)
    → fill m (handle_shape l) ≡ items_tree s (fill_all m (children_shapes cs)) → fill m (handle_shape r) ≡ items_tree s' (fill_all m (children_shapes ds))
    → All (λ c. IsItem s (child_sort c)) cs → All (λ c. IsItem s' (child_sort c)) ds
    → assign ρ (fill m (handle_shape l)) ≡ assign ρ (fill m (handle_shape r)) → (s ≡ s') × (length cs ≡ length ds)
lists_alike ρ m l r s s' cs ds is is' fit fit' h =
    let ts : Forest Depth = fill_all m (children_shapes cs) in
    let us : Forest Depth = fill_all m (children_shapes ds) in
    let same : assign ρ (items_tree s ts) ≡ assign ρ (items_tree s' us) = sym (ap (assign ρ) is) ∙ h ∙ ap (assign ρ) is' in
    let sorts : s ≡ s' = items_tables ρ s s' ts us same in
    let items : assign_all ρ ts ≡ assign_all ρ us = same_items ρ s ts us (same ∙ ap (λ x. assign ρ (items_tree x us)) (sym sorts)) in
    (sorts, sym (items_count ρ m s cs fit) ∙ ap count_trees items ∙ items_count ρ m s' ds fit')

-- kinds that `!=` tells apart are not equal
pub other_kind : (k other : Kind) → not ((kinds.ghosts).eq k other) ≡ true → k ≡ other → ⊥
other_kind k other differ same = not_both ((kinds.ghosts).eq k other) (subst (λ x. (kinds.ghosts).eq k x ≡ true) same ((kind_laws.laws-law).refl k)) differ

-- nor are such tables
pub other_table : (s s' : TermTable) → not ((tables.ghosts).eq s s') ≡ true → s ≡ s' → ⊥
other_table s s' differ same = not_both ((tables.ghosts).eq s s') (subst (λ x. (tables.ghosts).eq s x ≡ true) same ((table_laws.laws-law).refl s)) differ

-- nor are such children
pub other_child : (c d : Child) → (children.ghosts).eq c d ≡ false → c ≡ d → ⊥
other_child c d differ same = true≢false (sym (subst (λ x. (children.ghosts).eq c x ≡ true) same ((child_laws.laws-law).refl c)) ∙ differ)
