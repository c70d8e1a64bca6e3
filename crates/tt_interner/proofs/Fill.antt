-- What a shape's tree tells of the shape.
use Rattle.std.proofs.Common.{◌≡◌, ℕ, ◌<◌, List, [], ◌∷◌, Option, Some, None, refl, sym, ap, ◌∙◌}
use Rattle.std.specs.Prelude.{map, ⊤}
use Rattle.tt_kinds.specs.declared.table.Table.{Table}
use Rattle.tt_kinds.specs.declared.table.Table.TheVariants.{VarLists, Symbols}
use Rattle.tt_kinds.specs.Label.{Name, RegionName, anonymous, printed, named, environment, VarKind, region_variable}
use Rattle.tt_kinds.specs.Label.{type_variable, const_variable, Entry, FreeRegion, static_region, erased_region}
use Rattle.tt_kinds.specs.Label.{region_var, error_region, late_param_region, placeholder_region, RecordLabel}
use Rattle.tt_kinds.specs.Label.{fn_sig_tys_record, pair_record, triple_record, absent_record, present_record}
use Rattle.tt_kinds.specs.Label.{sequence_record, unsafe_binder_record, trait_record, host_effect_record}
use Rattle.tt_kinds.specs.Label.{region_outlives_record, type_outlives_record, projection_record, const_has_type_record}
use Rattle.tt_kinds.specs.Label.{well_formed_record, const_evaluatable_record, unstable_feature_record}
use Rattle.tt_kinds.specs.Label.{dyn_compatible_record, subtype_record, coerce_record, const_equate_record}
use Rattle.tt_kinds.specs.Label.{ambiguous_record, normalizes_to_record, alias_relate_record, existential_trait_record}
use Rattle.tt_kinds.specs.Label.{existential_projection_record, auto_trait_record, trait_ref_record, alias_term_record}
use Rattle.tt_kinds.specs.Label.{alias_ty_record, outlives_record, type_and_mut_record, fn_sig_record, param_env_record}
use Rattle.tt_kinds.specs.Label.{witness_types_record, bare_param_record, bare_bound_record, bare_type_record}
use Rattle.tt_kinds.specs.Label.{bare_const_record, bare_pattern_record, Label, type_label, const_label, pattern_label}
use Rattle.tt_kinds.specs.Label.{predicate_label, existential_label, clause_list_label, list_label, var_list_label}
use Rattle.tt_kinds.specs.Label.{text_label, declaration_label, definition_label, record_label, error_label}
use Rattle.tt_kinds.specs.Label.{clause_label, label_table}
use Rattle.tt_kinds.specs.Tree as tree
use Rattle.tt_kinds.specs.Tree.{Tree, Depth}
use Rattle.tt_kinds.specs.Shape.{Shape, Shapes, param, bound, region, term, node, binder, stored, part_of, none, also}
use Rattle.tt_kinds.specs.Shape.{Meaning, Sizes, text_of, vars_of, name_of, rename_region, rename_kind, rename_entry}
use Rattle.tt_kinds.specs.Shape.{rename_free, rename_record, rename_label, fill, fill_all, sort_table, IsNamed}
use Rattle.tt_kinds.specs.Shape.{IsNamedKind, AreNamedKinds, IsNamedFree, IsNamedRecord, IsNamedLabel, IsPart, AreParts}
use Rattle.tt_kinds.specs.Shape.{HasParts}

-- the table that a tree is stored in, as its root says
abbrev pub tree_table : Tree Depth → Option Table
tree_table (tree.param s i name) = sort_table s
tree_table (tree.bound s d e) = sort_table s
tree_table (tree.region r) = None
tree_table (tree.term l ts) = label_table l
tree_table (tree.node l ts) = label_table l
tree_table (tree.binder vs t) = None

abbrev mutual
  -- no part of a list is in the shape: its tree is the tree of the items written out, so that it tells no list
  pub HasNoView : Shape → Type 0
  HasNoView (param s i name) = ⊤
  HasNoView (bound s d e) = ⊤
  HasNoView (region r) = ⊤
  HasNoView (term l ss) = HaveNoViews ss
  HasNoView (node l ss) = HaveNoViews ss
  HasNoView (binder n s) = HasNoView s
  HasNoView (stored t n) = ⊤
  HasNoView (part_of t n e) = ⊥

  -- the same of shapes in order
  pub HaveNoViews : Shapes → Type 0
  HaveNoViews none = ⊤
  HaveNoViews (also s ss) = HasNoView s × HaveNoViews ss

-- names tell nothing of a label's table
pub label_table-rename : (name : ℕ → Name) (l : Label ℕ) → label_table (rename_label name l) ≡ label_table l
label_table-rename name (type_label l) = refl
label_table-rename name (list_label t) = refl
label_table-rename name (var_list_label vs) = refl
label_table-rename name (text_label bytes) = refl
label_table-rename name (declaration_label i k n) = refl
label_table-rename name (definition_label i vs) = refl
label_table-rename name (record_label l) = refl
label_table-rename name (error_label e) = refl
label_table-rename name clause_label = refl
label_table-rename name (const_label l) = refl
label_table-rename name (pattern_label l) = refl
label_table-rename name predicate_label = refl
label_table-rename name existential_label = refl
label_table-rename name clause_list_label = refl

-- handles in range have different trees, whose roots tell the table
pub record Distinguishes (size : Sizes) (f : Meaning) : Type 0 where
  pub tables : (t u : Table) (n m : ℕ) → n < size t → m < size u → f t n ≡ f u m → t ≡ u
  pub numbers : (t u : Table) (n m : ℕ) → n < size t → m < size u → f t n ≡ f u m → n ≡ m
  pub roots : (t : Table) (n : ℕ) → n < size t → tree_table (f t n) ≡ Some t
  pub vars : (n : ℕ) → n < size VarLists → f VarLists n ≡ tree.node (var_list_label (vars_of (f VarLists n))) tree.none
  pub texts : (n : ℕ) → n < size Symbols → f Symbols n ≡ tree.node (text_label (text_of (f Symbols n))) tree.none

module _ (size : Sizes) (f : Meaning) (d : Distinguishes size f) where
  -- one text has one number
  pub name_one : (n m : ℕ) → n < size Symbols → m < size Symbols → name_of f n ≡ name_of f m → n ≡ m
  name_one n m p q e = d.numbers Symbols Symbols n m p q (d.texts n p ∙ ap (λ b. tree.node (text_label b) tree.none) e ∙ sym (d.texts m q))

  -- what is named by texts in range is named by one number
  region_one : (a b : RegionName ℕ) → IsNamed size a → IsNamed size b → rename_region (name_of f) a ≡ rename_region (name_of f) b → a ≡ b
  region_one anonymous anonymous p q e = refl
  region_one (printed n) (printed m) p q e = let texts : name_of f n ≡ name_of f m = cc in ap printed (name_one n m p q texts)
  region_one (named c) (named c') p q e = cc
  region_one environment environment p q e = refl
  region_one _ _ p q e = cc

  kind_one : (a b : VarKind ℕ) → IsNamedKind size a → IsNamedKind size b → rename_kind (name_of f) a ≡ rename_kind (name_of f) b → a ≡ b
  kind_one (region_variable r) (region_variable r') p q e =
      let names : rename_region (name_of f) r ≡ rename_region (name_of f) r' = cc in ap region_variable (region_one r r' p q names)
  kind_one (type_variable k) (type_variable k') p q e = cc
  kind_one const_variable const_variable p q e = refl
  kind_one _ _ p q e = cc

  kinds_one : (xs ys : List (VarKind ℕ)) → AreNamedKinds size xs → AreNamedKinds size ys → map (rename_kind (name_of f)) xs ≡ map (rename_kind (name_of f)) ys → xs ≡ ys
  kinds_one [] [] p q e = refl
  kinds_one (a ∷ xs) (b ∷ ys) p q e =
      let firsts : rename_kind (name_of f) a ≡ rename_kind (name_of f) b = cc in
      let others : map (rename_kind (name_of f)) xs ≡ map (rename_kind (name_of f)) ys = cc in
      let first = kind_one a b p.0 q.0 firsts in let rest = kinds_one xs ys p.1 q.1 others in cc
  kinds_one _ _ p q e = cc

  entry_one : (a b : Entry ℕ) → IsNamedKind size a.kind → IsNamedKind size b.kind → rename_entry (name_of f) a ≡ rename_entry (name_of f) b → a ≡ b
  entry_one a b p q e =
      let vars : a.var ≡ b.var = ap (λ x. x.var) e in
      let kinds : a.kind ≡ b.kind = kind_one a.kind b.kind p q (ap (λ x. x.kind) e) in
      λ i. record { var = vars i; kind = kinds i }

  free_one : (a b : FreeRegion ℕ) → IsNamedFree size a → IsNamedFree size b → rename_free (name_of f) a ≡ rename_free (name_of f) b → a ≡ b
  free_one static_region static_region p q e = refl
  free_one erased_region erased_region p q e = refl
  free_one (region_var x) (region_var y) p q e = cc
  free_one (error_region x) (error_region y) p q e = cc
  free_one (late_param_region c r) (late_param_region c' r') p q e =
      let scopes : c ≡ c' = cc in let names : rename_region (name_of f) r ≡ rename_region (name_of f) r' = cc in
      let same = region_one r r' p q names in cc
  free_one (placeholder_region u v r) (placeholder_region u' v' r') p q e =
      let universes : u ≡ u' = cc in let vars : v ≡ v' = cc in let names : rename_region (name_of f) r ≡ rename_region (name_of f) r' = cc in
      let same = region_one r r' p q names in cc
  free_one _ _ p q e = cc

  record_one : (a b : RecordLabel ℕ) → IsNamedRecord size a → IsNamedRecord size b → rename_record (name_of f) a ≡ rename_record (name_of f) b → a ≡ b
  record_one fn_sig_tys_record fn_sig_tys_record p q e = refl
  record_one pair_record pair_record p q e = refl
  record_one triple_record triple_record p q e = refl
  record_one absent_record absent_record p q e = refl
  record_one present_record present_record p q e = refl
  record_one sequence_record sequence_record p q e = refl
  record_one unsafe_binder_record unsafe_binder_record p q e = refl
  record_one (trait_record d) (trait_record d') p q e = cc
  record_one (host_effect_record d c) (host_effect_record d' c') p q e = cc
  record_one region_outlives_record region_outlives_record p q e = refl
  record_one type_outlives_record type_outlives_record p q e = refl
  record_one (projection_record d) (projection_record d') p q e = cc
  record_one const_has_type_record const_has_type_record p q e = refl
  record_one well_formed_record well_formed_record p q e = refl
  record_one const_evaluatable_record const_evaluatable_record p q e = refl
  record_one (unstable_feature_record n) (unstable_feature_record n') p q e = let texts : name_of f n ≡ name_of f n' = cc in ap unstable_feature_record (name_one n n' p q texts)
  record_one (dyn_compatible_record d) (dyn_compatible_record d') p q e = cc
  record_one (subtype_record b) (subtype_record b') p q e = cc
  record_one coerce_record coerce_record p q e = refl
  record_one const_equate_record const_equate_record p q e = refl
  record_one ambiguous_record ambiguous_record p q e = refl
  record_one (normalizes_to_record d) (normalizes_to_record d') p q e = cc
  record_one (alias_relate_record r) (alias_relate_record r') p q e = cc
  record_one (existential_trait_record d) (existential_trait_record d') p q e = cc
  record_one (existential_projection_record d) (existential_projection_record d') p q e = cc
  record_one (auto_trait_record d) (auto_trait_record d') p q e = cc
  record_one (trait_ref_record d) (trait_ref_record d') p q e = cc
  record_one (alias_term_record d) (alias_term_record d') p q e = cc
  record_one (alias_ty_record k) (alias_ty_record k') p q e = cc
  record_one outlives_record outlives_record p q e = refl
  record_one (type_and_mut_record m) (type_and_mut_record m') p q e = cc
  record_one (fn_sig_record k) (fn_sig_record k') p q e = cc
  record_one param_env_record param_env_record p q e = refl
  record_one witness_types_record witness_types_record p q e = refl
  record_one (bare_param_record s i n) (bare_param_record s' i' n') p q e =
      let texts : name_of f n ≡ name_of f n' = cc in let same = name_one n n' p q texts in cc
  record_one (bare_bound_record s d v) (bare_bound_record s' d' v') p q e =
      let entries : rename_entry (name_of f) v ≡ rename_entry (name_of f) v' = cc in let same = entry_one v v' p q entries in cc
  record_one (bare_type_record l) (bare_type_record l') p q e = cc
  record_one (bare_const_record l) (bare_const_record l') p q e = cc
  record_one (bare_pattern_record l) (bare_pattern_record l') p q e = cc
  record_one _ _ p q e = cc

  label_one : (a b : Label ℕ) → IsNamedLabel size a → IsNamedLabel size b → rename_label (name_of f) a ≡ rename_label (name_of f) b → a ≡ b
  label_one (type_label l) (type_label l') p q e = cc
  label_one (list_label t) (list_label t') p q e = cc
  label_one (var_list_label vs) (var_list_label vs') p q e =
      let kinds : map (rename_kind (name_of f)) vs ≡ map (rename_kind (name_of f)) vs' = cc in ap var_list_label (kinds_one vs vs' p q kinds)
  label_one (text_label bytes) (text_label bytes') p q e = cc
  label_one (declaration_label i k n) (declaration_label i' k' n') p q e =
      let places : i ≡ i' = cc in let kinds : k ≡ k' = cc in let texts : name_of f n ≡ name_of f n' = cc in
      let names = name_one n n' p q texts in cc
  label_one (definition_label i vs) (definition_label i' vs') p q e = cc
  label_one (record_label l) (record_label l') p q e =
      let records : rename_record (name_of f) l ≡ rename_record (name_of f) l' = cc in ap record_label (record_one l l' p q records)
  label_one (error_label x) (error_label x') p q e = cc
  label_one clause_label clause_label p q e = refl
  label_one (const_label l) (const_label l') p q e = cc
  label_one (pattern_label l) (pattern_label l') p q e = cc
  label_one predicate_label predicate_label p q e = refl
  label_one existential_label existential_label p q e = refl
  label_one clause_list_label clause_list_label p q e = refl
  label_one _ _ p q e = cc

  -- one list of variables has one number
  pub vars_one : (n m : ℕ) → n < size VarLists → m < size VarLists → vars_of (f VarLists n) ≡ vars_of (f VarLists m) → n ≡ m
  vars_one n m p q e = d.numbers VarLists VarLists n m p q (d.vars n p ∙ ap (λ vs. tree.node (var_list_label vs) tree.none) e ∙ sym (d.vars m q))

  -- a part that is written out isn't the tree of a handle
  pub not_stored : (t : Table) (n : ℕ) (x : Tree Depth) → n < size t → f t n ≡ x → tree_table x ≡ None → ⊥
  not_stored t n x p e inline = let root = d.roots t n p in let same = ap tree_table e in cc

  mutual
    unfolding fill

    -- two shapes in range that hold no part of a list are one if their trees are
    pub fill-one : (s s' : Shape) → HasNoView s → HasNoView s' → IsPart size s → IsPart size s' → fill f s ≡ fill f s' → s ≡ s'
    fill-one (stored t n) (stored u m) v w p q e = let tables = d.tables t u n m p q e in let numbers = d.numbers t u n m p q e in cc
    fill-one (stored t n) (param s i name) v w p q e = absurd (not_stored t n _ p e q.0)
    fill-one (stored t n) (bound s c x) v w p q e = absurd (not_stored t n _ p e q.0)
    fill-one (stored t n) (region r) v w p q e = absurd (not_stored t n _ p e refl)
    fill-one (stored t n) (node l ss) v w p q e = absurd (not_stored t n _ p e (label_table-rename (name_of f) l ∙ q.0))
    fill-one (stored t n) (binder vs s) v w p q e = absurd (not_stored t n _ p e refl)
    fill-one (param s i name) (stored t n) v w p q e = absurd (not_stored t n _ q (sym e) p.0)
    fill-one (bound s c x) (stored t n) v w p q e = absurd (not_stored t n _ q (sym e) p.0)
    fill-one (region r) (stored t n) v w p q e = absurd (not_stored t n _ q (sym e) refl)
    fill-one (node l ss) (stored t n) v w p q e = absurd (not_stored t n _ q (sym e) (label_table-rename (name_of f) l ∙ p.0))
    fill-one (binder vs s) (stored t n) v w p q e = absurd (not_stored t n _ q (sym e) refl)
    fill-one (term l ss) s' v w p q e = absurd p
    fill-one s (term l ss) v w p q e = absurd q
    fill-one (part_of t n x) s' v w p q e = absurd v
    fill-one s (part_of t n x) v w p q e = absurd w
    fill-one (param s i name) (param s' j name') v w p q e =
        let sorts : s ≡ s' = cc in let indices : i ≡ j = cc in
        let texts : name_of f name ≡ name_of f name' = cc in
        let names = name_one name name' p.1 q.1 texts in cc
    fill-one (bound s c x) (bound s' c' x') v w p q e =
        let sorts : s ≡ s' = cc in let depths : c ≡ c' = cc in
        let entries : rename_entry (name_of f) x ≡ rename_entry (name_of f) x' = cc in
        let same = entry_one x x' p.1 q.1 entries in cc
    fill-one (region r) (region r') v w p q e =
        let regions : rename_free (name_of f) r ≡ rename_free (name_of f) r' = cc in ap region (free_one r r' p q regions)
    fill-one (node l ss) (node l' ss') v w p q e =
        let labels : rename_label (name_of f) l ≡ rename_label (name_of f) l' = cc in let parts : fill_all f ss ≡ fill_all f ss' = cc in
        let same_labels = label_one l l' p.1 q.1 labels in let same = fill_all-one ss ss' v w p.2 q.2 parts in cc
    fill-one (binder n s) (binder m s') v w p q e =
        let vars : vars_of (f VarLists n) ≡ vars_of (f VarLists m) = cc in let parts : fill f s ≡ fill f s' = cc in
        let lists = vars_one n m p.0 q.0 vars in let same = fill-one s s' v w p.1 q.1 parts in cc
    fill-one _ _ v w p q e = cc

    pub fill_all-one : (ss ss' : Shapes) → HaveNoViews ss → HaveNoViews ss' → AreParts size ss → AreParts size ss' → fill_all f ss ≡ fill_all f ss' → ss ≡ ss'
    fill_all-one none none v w p q e = refl
    fill_all-one (also s ss) (also s' ss') v w p q e =
        let firsts : fill f s ≡ fill f s' = cc in let others : fill_all f ss ≡ fill_all f ss' = cc in
        let first = fill-one s s' v.0 w.0 p.0 q.0 firsts in let rest = fill_all-one ss ss' v.1 w.1 p.1 q.1 others in cc
    fill_all-one _ _ v w p q e = cc

  -- the shapes of two rows are one if their trees are
  pub fill-one_row : (s s' : Shape) → HasNoView s → HasNoView s' → HasParts size s → HasParts size s' → fill f s ≡ fill f s' → s ≡ s'
  unfolding fill
  fill-one_row (param s i name) (param s' j name') v w p q e =
      let sorts : s ≡ s' = cc in let indices : i ≡ j = cc in
      let texts : name_of f name ≡ name_of f name' = cc in
      let names = name_one name name' p q texts in cc
  fill-one_row (bound s c x) (bound s' c' x') v w p q e =
      let sorts : s ≡ s' = cc in let depths : c ≡ c' = cc in
      let entries : rename_entry (name_of f) x ≡ rename_entry (name_of f) x' = cc in
      let same = entry_one x x' p q entries in cc
  fill-one_row (term l ss) (term l' ss') v w p q e =
      let labels : rename_label (name_of f) l ≡ rename_label (name_of f) l' = cc in let parts : fill_all f ss ≡ fill_all f ss' = cc in
      let same_labels = label_one l l' p.0 q.0 labels in let same = fill_all-one ss ss' v w p.1 q.1 parts in cc
  fill-one_row (node l ss) (node l' ss') v w p q e =
      let labels : rename_label (name_of f) l ≡ rename_label (name_of f) l' = cc in let parts : fill_all f ss ≡ fill_all f ss' = cc in
      let same_labels = label_one l l' p.0 q.0 labels in let same = fill_all-one ss ss' v w p.1 q.1 parts in cc
  fill-one_row (stored t n) s' v w p q e = absurd p
  fill-one_row s (stored t n) v w p q e = absurd q
  fill-one_row (part_of t n x) s' v w p q e = absurd p
  fill-one_row s (part_of t n x) v w p q e = absurd q
  fill-one_row (binder n s) s' v w p q e = absurd p
  fill-one_row s (binder n s') v w p q e = absurd q
  fill-one_row (region r) s' v w p q e = absurd p
  fill-one_row s (region r) v w p q e = absurd q
  fill-one_row _ _ v w p q e = cc
