-- The texts of stored terms: each is its head, then its parts, then its end.
use Rattle.std.proofs.Common.{◌≡◌, ℕ, List, [], ◌++◌, true, false, refl, ap, sym, ◌∙◌}
use Rattle.std.specs.Prelude.{Bool, Option, Some, None, cond}
use Rattle.std.proofs.lemmas.List.{append-nil}
use Rattle.tt_kinds.specs.Label.{Name, Sort, region_sort, type_sort, const_sort, VarKind, region_variable}
use Rattle.tt_kinds.specs.Label.{type_variable, const_variable, RegionName, anonymous, printed, named, environment}
use Rattle.tt_kinds.specs.Label.{TypeLabel, infer_type, raw_ptr_type}
use Rattle.tt_kinds.specs.Label.{ConstLabel, infer_const, PatternLabel, range_pattern, RecordLabel, fn_sig_tys_record}
use Rattle.tt_kinds.specs.Label.{pair_record, subtype_record, unstable_feature_record, bare_param_record}
use Rattle.tt_kinds.specs.Label.{bare_bound_record, bare_type_record, bare_const_record, bare_pattern_record, Label}
use Rattle.tt_kinds.specs.Label.{type_label, const_label, pattern_label, predicate_label, existential_label}
use Rattle.tt_kinds.specs.Label.{record_label, clause_list_label, list_label}
use Rattle.tt_kinds.specs.Tree as tree
use Rattle.tt_kinds.specs.Tree.{Depth, at, canonical, Tree, Forest, none, also, node, term, count_trees}
use Rattle.tt_kinds.specs.Shape.{Meaning, Sizes, fill, fill_all, name_of, rename_label, rename_record}
use Rattle.tt_kinds.specs.Shape.{rename_region, rename_kind, vars_of, IsNamed, IsNamedLabel, IsNamedRecord}
use Rattle.tt_kinds.specs.Shape.{HasParts, IsPart}
use Rattle.tt_kinds.specs.Kinds.{Form, param, bound, plain, under, form_parts, form_binder, form_shape, kind_form}
use Rattle.tt_kinds.specs.Kinds.{kind_sort, kind_shape, relabelled, ty_form, const_form, value_form, pattern_form}
use Rattle.tt_kinds.specs.Kinds.{predicate_form, existential_form, RecordForm, record_shape, parts_shapes, region_shape}
use Rattle.tt_kinds.specs.Kinds.{items_label, items_tree}
use Rattle.tt_kinds.specs.Bound.{depth, region_name}
use Rattle.tt_kinds.specs.Handle.{Ty, BoundVarKinds}
use Rattle.tt_kinds.specs.declared.table.Table.TheVariants.{VarLists}
use Rattle.tt_kinds.specs.declared.ty_kind.TyKind.{TyKind}
use Rattle.tt_kinds.specs.declared.ty_kind.TyKind.TheVariants as ty
use Rattle.tt_kinds.specs.declared.ty_kind.InferTy.TheVariants.{TyVar}
use Rattle.tt_kinds.specs.declared.const_kind.InferConst.TheVariants.{Var}
use Rattle.tt_kinds.specs.declared.bound.BoundTyKind.{BoundTyKind}
use Rattle.tt_kinds.specs.declared.bound.BoundTyKind.TheVariants as bound_ty
use Rattle.tt_kinds.specs.declared.const_kind.ConstKind.{ConstKind}
use Rattle.tt_kinds.specs.declared.const_kind.ConstKind.TheVariants as const
use Rattle.tt_kinds.specs.declared.const_kind.ValTreeKind.{ValTreeKind}
use Rattle.tt_kinds.specs.declared.const_kind.ValTreeKind.TheVariants as valtree
use Rattle.tt_index.specs.declared.qualifier.Mutability.TheVariants.{Not, Mut}
use Rattle.tt_kinds.specs.declared.region_kind.RegionKind.{RegionKind}
use Rattle.tt_kinds.specs.declared.region_kind.RegionKind.TheVariants.{ReEarlyParam, ReBound, ReLateParam, ReStatic}
use Rattle.tt_kinds.specs.declared.region_kind.RegionKind.TheVariants.{ReVar, RePlaceholder, ReErased, ReError}
use Rattle.tt_kinds.specs.declared.parts.Parts.{Parts}
use Rattle.tt_kinds.specs.declared.parts.Kind.{Kind}
use Rattle.tt_kinds.specs.declared.parts.Kind.TheVariants as kind
use Rattle.tt_kinds.specs.TermTable.{is_clause_table, term_table}
use Rattle.tt_kinds.specs.declared.table.TermTable.{TermTable}
use Rattle.tt_print.specs.declared.ir_print.layout.Style.{Style}
use Rattle.tt_print.specs.declared.ir_print.layout.Style.TheVariants as style
use Rattle.tt_print.specs.Text.{Head, no_head, head_in, fn_head, variable_head, variable_title}
use Rattle.tt_print.specs.Text.{region_title}
use Rattle.tt_print.specs.Text.{ty_title, type_head, const_head, pattern_head, record_head, bound_head}
use Rattle.tt_print.specs.Text.{region_name_head, type_style, record_style, style_in, before_child, closing, head_text}
use Rattle.tt_print.specs.Text.{variables_text, text_in, texts}
use Rattle.tt_print.specs.declared.ir_print.spelling.Spelling.{Spelling}
use Rattle.tt_print.specs.Spelling.{head_of, form_head, form_style, region_head, rename_head, IsNamedSubject}
use Rattle.tt_print.specs.Spelling.{binder_text, spelled_text}

-- a label's head names what the label names
module _ (f : ℕ → Name) where
  type-renamed : (l : TypeLabel) → rename_head f (type_head l) ≡ type_head l
  type-renamed (infer_type (TyVar v)) = refl
  type-renamed (infer_type _) = refl
  type-renamed (raw_ptr_type Not) = refl
  type-renamed (raw_ptr_type Mut) = refl
  type-renamed _ = refl

  const-renamed : (l : ConstLabel) → rename_head f (const_head l) ≡ const_head l
  const-renamed (infer_const (Var v)) = refl
  const-renamed (infer_const _) = refl
  const-renamed _ = refl

  pattern-renamed : (l : PatternLabel) → rename_head f (pattern_head l) ≡ pattern_head l
  pattern-renamed range_pattern = refl
  pattern-renamed _ = refl

  fn-renamed : (s : Style) → rename_head f (fn_head s) ≡ fn_head s
  fn-renamed (style.Signature k) = refl
  fn-renamed _ = refl

  bound-renamed : (s : Sort) (d : Depth) (var : ℕ) → rename_head f (bound_head s d var) ≡ bound_head s d var
  bound-renamed region_sort (at d) var = refl
  bound-renamed region_sort canonical var = refl
  bound-renamed type_sort (at d) var = refl
  bound-renamed type_sort canonical var = refl
  bound-renamed const_sort (at d) var = refl
  bound-renamed const_sort canonical var = refl

  record-renamed : (s : Style) (l : RecordLabel ℕ) → rename_head f (record_head s l) ≡ record_head s (rename_record f l)
  record-renamed s fn_sig_tys_record = fn-renamed s
  record-renamed s (subtype_record true) = refl
  record-renamed s (subtype_record false) = refl
  record-renamed s (bare_bound_record o (Some d) e) = bound-renamed o (at d) e.var
  record-renamed s (bare_bound_record o None e) = bound-renamed o canonical e.var
  record-renamed s (bare_type_record l) = type-renamed l
  record-renamed s (bare_const_record l) = const-renamed l
  record-renamed s (bare_pattern_record l) = pattern-renamed l
  record-renamed s _ = refl

  head-renamed : (s : Style) (l : Label ℕ) → rename_head f (head_in s l) ≡ head_in s (rename_label f l)
  head-renamed s (type_label l) = type-renamed l
  head-renamed s (const_label l) = const-renamed l
  head-renamed s (pattern_label l) = pattern-renamed l
  head-renamed s (record_label l) = record-renamed s l
  head-renamed s _ = refl

  -- to replace the name in a variable's head is to take the head of the variable with another name
  pub variable-renamed : (n : ℕ) (v : VarKind ℕ) → rename_head f (variable_head n v) ≡ variable_head n (rename_kind f v)
  variable-renamed n (region_variable r) = refl
  variable-renamed n (type_variable k) = refl
  variable-renamed n const_variable = refl

  region_title-renamed : (r : RegionName ℕ) → rename_head f (region_title r) ≡ region_title (rename_region f r)
  region_title-renamed anonymous = refl
  region_title-renamed (printed n) = refl
  region_title-renamed (named d) = refl
  region_title-renamed environment = refl

  ty_title-renamed : (k : BoundTyKind) → rename_head f (ty_title k) ≡ ty_title k
  ty_title-renamed bound_ty.Anon = refl
  ty_title-renamed (bound_ty.Param d) = refl

  -- to replace the name in a variable's title is to take the title of the variable with another name
  pub title-renamed : (v : VarKind ℕ) → rename_head f (variable_title v) ≡ variable_title (rename_kind f v)
  title-renamed (region_variable r) = region_title-renamed r
  title-renamed (type_variable k) = ty_title-renamed k
  title-renamed const_variable = refl

  called-renamed : (r : RegionName ℕ) → rename_head f (region_name_head r) ≡ region_name_head (rename_region f r)
  called-renamed anonymous = refl
  called-renamed (printed n) = refl
  called-renamed (named d) = refl
  called-renamed environment = refl

  record-style-renamed : (s : Style) (l : RecordLabel ℕ) → record_style s (rename_record f l) ≡ record_style s l
  record-style-renamed s pair_record = refl
  record-style-renamed s _ = refl

  style-renamed : (s : Style) (l : Label ℕ) → style_in s (rename_label f l) ≡ style_in s l
  style-renamed s (record_label l) = record-style-renamed s l
  style-renamed s _ = refl

module _ (item_name : ℕ → Name) where
  -- nothing is around one child of this style
  record IsBareAround (s : Style) : Type 0 where
    before : before_child item_name s 0 true ≡ []
    after : closing item_name s 1 ≡ []

  -- a type under a binder: nothing is around its record, and nothing in front of the binder
  abbrev IsOuterType : Form TypeLabel → Type 0
  IsOuterType (param i name) = Unit {0}
  IsOuterType (bound d e) = Unit {0}
  IsOuterType (plain l p) = Unit {0}
  IsOuterType (under l vars m p) = IsBareAround (type_style l) × (type_head {N = ℕ} l ≡ no_head)

  outer-type : (k : TyKind) → IsOuterType (ty_form k)
  outer-type (ty.FnPtr b h) = (record { before = refl; after = refl }, refl)
  outer-type (ty.UnsafeBinder b) = (record { before = refl; after = refl }, refl)
  outer-type _ = tt

-- no constant is under a binder
abbrev IsOuterConst : Form ConstLabel → Type 0
IsOuterConst (param i name) = Unit {0}
IsOuterConst (bound d e) = Unit {0}
IsOuterConst (plain l p) = Unit {0}
IsOuterConst (under l vars m p) = ⊥

outer-value : (t : Ty) (v : ValTreeKind) → IsOuterConst (value_form t v)
outer-value t (valtree.Leaf s) = tt
outer-value t (valtree.Branch cs) = tt

outer-const : (k : ConstKind) → IsOuterConst (const_form k)
outer-const (const.Value v) = outer-value v.ty v.valtree.kind
outer-const _ = tt

module _ (item_name : ℕ → Name) (f : Meaning) where
  -- the variables of a form's binder, its head, its parts and its end
  abbrev spelled : Sort → Form (Label ℕ) → List ℕ
  spelled s x =
      binder_text item_name f (form_binder x) ++ (head_text item_name (rename_head (name_of f) (form_head s x))
      ++ (texts item_name (form_style x) 0 (fill_all f (parts_shapes (form_parts x))) ++ closing item_name (form_style x) (count_trees (fill_all f (parts_shapes (form_parts x))))))

  -- a name by itself, as a term without children
  pub name-text : (name : List ℕ) → name ≡ ([] ++ (name ++ [])) ++ ([] ++ [])
  name-text name = sym (append-nil name) ∙ sym (append-nil (name ++ []))

  bound-text : (s : Sort) (d : Depth) (var : ℕ) → head_text item_name (bound_head s d var) ≡ head_text item_name (rename_head (name_of f) (bound_head s d var)) ++ ([] ++ [])
  bound-text s d var =
      ap (head_text item_name) (sym (bound-renamed (name_of f) s d var)) ∙ sym (append-nil (head_text item_name (rename_head (name_of f) (bound_head s d var))))

  plain-text : (s : Style) (l : Label ℕ) (ts : Forest Depth) → style_in s l ≡ style_in style.Joined l → head_in s l ≡ head_in style.Joined l
      → text_in item_name s (tree.term (rename_label (name_of f) l) ts)
      ≡ head_text item_name (rename_head (name_of f) (head_in style.Joined l)) ++ (texts item_name (style_in style.Joined l) 0 ts ++ closing item_name (style_in style.Joined l) (count_trees ts))
  plain-text s l ts same alike =
      rw (style-renamed (name_of f) s l, same, ← head-renamed (name_of f) s l, alike) refl

  -- what is under a binder, with nothing around it
  alone-text : (t : List ℕ) → (([] ++ (t ++ [])) ++ []) ≡ t
  alone-text t = append-nil (t ++ []) ∙ append-nil t

  under-text : (s : Style) (l : Label ℕ) (m : RecordLabel ℕ) (vs : List (VarKind Name)) (ts : Forest Depth) → style_in s l ≡ style_in style.Joined l → IsBareAround item_name (style_in style.Joined l)
      → head_in s l ≡ no_head
      → text_in item_name s (tree.term (rename_label (name_of f) l) (also (tree.binder vs (tree.node (record_label (rename_record (name_of f) m)) ts)) none))
      ≡ variables_text item_name 0 vs ++ (head_text item_name (rename_head (name_of f) (record_head (style_in style.Joined l) m))
      ++ (texts item_name (record_style (style_in style.Joined l) m) 0 ts ++ closing item_name (record_style (style_in style.Joined l) m) (count_trees ts)))
  under-text s l m vs ts same bare empty =
      rw (
        style-renamed (name_of f) s l,
        same,
        bare.before,
        bare.after,
        ← head-renamed (name_of f) s l,
        empty,
        record-style-renamed (name_of f) (style_in style.Joined l) m,
        ← record-renamed (name_of f) (style_in style.Joined l) m,
      )
      (alone-text (variables_text item_name 0 vs ++ (head_text item_name (rename_head (name_of f) (record_head (style_in style.Joined l) m))
      ++ (texts item_name (record_style (style_in style.Joined l) m) 0 ts ++ closing item_name (record_style (style_in style.Joined l) m) (count_trees ts)))))

  type-text : (s : Style) (x : Form TypeLabel) → IsOuterType item_name x → text_in item_name s (fill f (form_shape type_sort (relabelled type_label x))) ≡ spelled type_sort (relabelled type_label x)
  unfolding fill fill_all
  type-text s (param i name) h = name-text (name_of f name)
  type-text s (bound d e) h = bound-text type_sort d e.var
  type-text s (plain l p) h = plain-text s (type_label l) (fill_all f (parts_shapes p)) refl refl
  type-text s (under l vars m p) h =
      under-text s (type_label l) m (vars_of (f VarLists vars.number)) (fill_all f (parts_shapes p)) refl h.0 h.1

  const-text : (s : Style) (x : Form ConstLabel) → IsOuterConst x → text_in item_name s (fill f (form_shape const_sort (relabelled const_label x))) ≡ spelled const_sort (relabelled const_label x)
  unfolding fill fill_all
  const-text s (param i name) h = name-text (name_of f name)
  const-text s (bound d e) h = bound-text const_sort d e.var
  const-text s (plain l p) h = plain-text s (const_label l) (fill_all f (parts_shapes p)) refl refl
  const-text s (under l vars m p) h = absurd h

  bare : IsBareAround item_name style.Joined
  bare = record { before = refl; after = refl }

  -- the text of a stored term, by its kind
  pub kind-text : (s : Style) (k : Kind) → text_in item_name s (fill f (kind_shape k)) ≡ spelled (kind_sort k) (kind_form k)
  unfolding fill fill_all
  kind-text s (kind.Ty k) = type-text s (ty_form k) (outer-type item_name k)
  kind-text s (kind.Const k) = const-text s (const_form k) (outer-const k)
  kind-text s (kind.Pat k) = plain-text s (pattern_label (pattern_form k).label) (fill_all f (parts_shapes (pattern_form k).parts)) refl refl
  kind-text s (kind.Predicate b) = under-text s predicate_label (predicate_form b.value).label (vars_of (f VarLists b.bound_vars.number)) (fill_all f (parts_shapes (predicate_form b.value).parts)) refl bare refl
  kind-text s (kind.Existential b) = under-text s existential_label (existential_form b.value).label (vars_of (f VarLists b.bound_vars.number)) (fill_all f (parts_shapes (existential_form b.value).parts)) refl bare refl

  -- what is written of a kind is its text
  pub kind-written : (s : Style) (k : Kind) (vars : Option BoundVarKinds) (h : Head ℕ) (x : Style) (p : Parts) (n : ℕ) (end : List ℕ) → vars ≡ form_binder (kind_form k) → h ≡ form_head (kind_sort k) (kind_form k) → x ≡ form_style (kind_form k)
      → p ≡ form_parts (kind_form k) → n ≡ count_trees (fill_all f (parts_shapes p)) → end ≡ closing item_name x n
      → binder_text item_name f vars ++ (head_text item_name (rename_head (name_of f) h) ++ (texts item_name x 0 (fill_all f (parts_shapes p)) ++ end))
      ≡ text_in item_name s (fill f (kind_shape k))
  kind-written s k vars h x p n end of_vars of_head of_style of_parts of_count of_end = rw (of_end, of_count, of_parts, of_style, of_head, of_vars) (sym (kind-text s k))

  record-text : (l : RecordLabel ℕ) (ts : Forest Depth)
      → head_text item_name (rename_head (name_of f) (record_head style.Joined l)) ++ (texts item_name (record_style style.Joined l) 0 ts ++ closing item_name (record_style style.Joined l) (count_trees ts))
      ≡ text_in item_name style.Joined (tree.node (record_label (rename_record (name_of f) l)) ts)
  record-text l ts = rw (record-style-renamed (name_of f) style.Joined l, ← record-renamed (name_of f) style.Joined l) refl

  -- what is spelled as a record, around its parts, is the record's text
  pub record-spelled : (s : Spelling) (x : RecordForm) → head_of s ≡ record_head style.Joined x.label → s.style ≡ record_style style.Joined x.label
      → spelled_text item_name f s (fill_all f (parts_shapes x.parts)) ≡ text_in item_name style.Joined (fill f (record_shape x))
  unfolding fill
  record-spelled s x of_head of_style =
      let ts = fill_all f (parts_shapes x.parts) in
      ap (λ (h : Head ℕ). head_text item_name (rename_head (name_of f) h) ++ (texts item_name s.style 0 ts ++ closing item_name s.style (count_trees ts))) of_head
      ∙ ap (λ (y : Style). head_text item_name (rename_head (name_of f) (record_head style.Joined x.label)) ++ (texts item_name y 0 ts ++ closing item_name y (count_trees ts))) of_style
      ∙ record-text x.label ts

  -- the text of a region
  pub region-text : (s : Style) (r : RegionKind) → head_text item_name (rename_head (name_of f) (region_head (region_shape r))) ≡ text_in item_name s (fill f (region_shape r))
  unfolding fill
  region-text s (ReEarlyParam p) = append-nil (name_of f p.name.number)
  region-text s (ReBound i b) = ap (head_text item_name) (bound-renamed (name_of f) region_sort (depth i) b.var)
  region-text s (ReLateParam p) = ap (head_text item_name) (called-renamed (name_of f) (region_name p.kind))
  region-text s ReStatic = refl
  region-text s (ReVar v) = refl
  region-text s (RePlaceholder p) = refl
  region-text s ReErased = refl
  region-text s (ReError e) = refl

  -- the text of a list, by the style of the term that holds it
  pub list-text : (s : Style) (o : TermTable) (ts : Forest Depth)
      → texts item_name (style_in {N = Name} s (items_label o)) 0 ts ++ closing item_name (style_in {N = Name} s (items_label o)) (count_trees ts) ≡ text_in item_name s (items_tree o ts)
  list-text s o ts = by (is_clause_table o)
    where
      by : (b : Bool)
          → texts item_name (style_in {N = Name} s (cond b clause_list_label (list_label (term_table o)))) 0 ts
          ++ closing item_name (style_in {N = Name} s (cond b clause_list_label (list_label (term_table o)))) (count_trees ts)
          ≡ text_in item_name s (cond b (term clause_list_label ts) (node (list_label (term_table o)) ts))
      by true = refl
      by false = refl

  -- what is written of a list is its text
  pub list-written : (s : Style) (o : TermTable) (ts : Forest Depth) (t : Tree Depth) (x : Style) (n : ℕ) (end : List ℕ) → x ≡ style_in {N = Name} s (items_label o) → t ≡ items_tree o ts
      → n ≡ count_trees ts → end ≡ closing item_name x n → texts item_name x 0 ts ++ end ≡ text_in item_name s t
  list-written s o ts t x n end of_style of_tree of_count of_end = rw (of_end, of_count, of_style, of_tree) (list-text s o ts)

-- the names in a head are in the table of symbols where those of the term are
module _ (size : Sizes) where
  type-named : (l : TypeLabel) → IsNamedSubject size (type_head l).subject
  type-named (infer_type (TyVar v)) = tt
  type-named (infer_type _) = tt
  type-named (raw_ptr_type Not) = tt
  type-named (raw_ptr_type Mut) = tt
  type-named _ = tt

  const-named : (l : ConstLabel) → IsNamedSubject size (const_head l).subject
  const-named (infer_const (Var v)) = tt
  const-named (infer_const _) = tt
  const-named _ = tt

  pattern-named : (l : PatternLabel) → IsNamedSubject size (pattern_head l).subject
  pattern-named range_pattern = tt
  pattern-named _ = tt

  fn-named : (s : Style) → IsNamedSubject size (fn_head s).subject
  fn-named (style.Signature k) = tt
  fn-named _ = tt

  bound-named : (s : Sort) (d : Depth) (var : ℕ) → IsNamedSubject size (bound_head s d var).subject
  bound-named region_sort (at d) var = tt
  bound-named region_sort canonical var = tt
  bound-named type_sort (at d) var = tt
  bound-named type_sort canonical var = tt
  bound-named const_sort (at d) var = tt
  bound-named const_sort canonical var = tt

  -- the name in a record's head is in range if the names in its label are
  pub record-named : (s : Style) (l : RecordLabel ℕ) → IsNamedRecord size l → IsNamedSubject size (record_head s l).subject
  record-named s (unstable_feature_record n) h = h
  record-named s fn_sig_tys_record h = fn-named s
  record-named s (subtype_record true) h = tt
  record-named s (subtype_record false) h = tt
  record-named s (bare_param_record o i n) h = h
  record-named s (bare_bound_record o (Some d) e) h = bound-named o (at d) e.var
  record-named s (bare_bound_record o None e) h = bound-named o canonical e.var
  record-named s (bare_type_record l) h = type-named l
  record-named s (bare_const_record l) h = const-named l
  record-named s (bare_pattern_record l) h = pattern-named l
  record-named s _ h = tt

  head-named : (s : Style) (l : Label ℕ) → IsNamedLabel size l → IsNamedSubject size (head_in s l).subject
  head-named s (type_label l) h = type-named l
  head-named s (const_label l) h = const-named l
  head-named s (pattern_label l) h = pattern-named l
  head-named s (record_label l) h = record-named s l h
  head-named s _ h = tt

  form-named : (s : Sort) (x : Form (Label ℕ)) → HasParts size (form_shape s x) → IsNamedSubject size (form_head s x).subject
  form-named s (param i name) h = h
  form-named s (bound d e) h = bound-named s d e.var
  form-named s (plain l p) h = head-named style.Joined l h.0
  form-named s (under l vars m p) h = record-named (style_in style.Joined l) m h.1.0.1.1

  -- the name in a kind's head is in range if what the kind holds is
  pub kind-named : (k : Kind) → HasParts size (kind_shape k) → IsNamedSubject size (form_head (kind_sort k) (kind_form k)).subject
  kind-named k h = form-named (kind_sort k) (kind_form k) h

  called-named : (r : RegionName ℕ) → IsNamed size r → IsNamedSubject size (region_name_head r).subject
  called-named anonymous h = tt
  called-named (printed n) h = h
  called-named (named d) h = tt
  called-named environment h = tt

  pub region-named : (r : RegionKind) → IsPart size (region_shape r) → IsNamedSubject size (region_head (region_shape r)).subject
  region-named (ReEarlyParam p) h = h.1
  region-named (ReBound i b) h = bound-named region_sort (depth i) b.var
  region-named (ReLateParam p) h = called-named (region_name p.kind) h
  region-named _ h = tt
