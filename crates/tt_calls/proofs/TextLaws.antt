-- The texts in values: where a tree is a value's, its texts are stored.
use Rattle.std.proofs.Common.{◌≡◌, ℕ, zero, suc, ◌<◌, List, [], ◌∷◌, map, Option, Some, None, refl, ap, sym, ◌∙◌}
use Rattle.std.specs.Prelude.{slice_get, IfSome}
use Rattle.std.specs.Option.{option_map}
use Rattle.std.proofs.lemmas.Option.{none-some, same_Some, slice_get-map}
use Rattle.tt_kinds.specs.Label.{Name, Sort, RegionName, anonymous, printed, named, environment, VarKind}
use Rattle.tt_kinds.specs.Label.{region_variable, type_variable, const_variable, FreeRegion, static_region}
use Rattle.tt_kinds.specs.Label.{erased_region, region_var, error_region, late_param_region, placeholder_region}
use Rattle.tt_kinds.specs.Label.{unstable_feature_record, Label, RecordLabel, var_list_label, text_label, record_label}
use Rattle.tt_kinds.specs.Tree as tree
use Rattle.tt_kinds.specs.Tree.{Tree, Forest, Depth, node}
use Rattle.tt_kinds.specs.Shape as shape
use Rattle.tt_kinds.specs.Shape.{Shape, Sizes, Meaning, fill, name_of, text_of, rename_region, rename_kind, rename_free}
use Rattle.tt_kinds.specs.Shape.{rename_label, IsNamed, IsNamedKind, IsNamedFree, AreNamedKinds, IsNamedLabel, HasParts}
use Rattle.tt_kinds.specs.Shape.{IsPart}
use Rattle.tt_kinds.specs.declared.table.Table.TheVariants.{Symbols}
use Rattle.tt_interner.specs.Rows.{Row, text_row, row_shape, size, meaning, IsNew, AreRows}
use Rattle.tt_interner.proofs.Trees.{row_within, Means-row}
use Rattle.tt_interner.proofs.ShapeLaws.{text_of_row}
use Rattle.tt_calls.specs.declared.call.RegionNameCall.{RegionNameCall}
use Rattle.tt_calls.specs.declared.call.RegionNameCall.TheVariants as region_name
use Rattle.tt_calls.specs.declared.call.VariableCall.{VariableCall}
use Rattle.tt_calls.specs.declared.call.VariableCall.TheVariants as variable
use Rattle.tt_calls.specs.declared.call.RegionCall.{RegionCall}
use Rattle.tt_calls.specs.declared.call.RegionCall.TheVariants.{ReEarlyParam, ReBound, ReLateParam, ReStatic}
use Rattle.tt_calls.specs.declared.call.RegionCall.TheVariants.{ReVar, RePlaceholder, ReErased, ReError}
use Rattle.tt_calls.specs.CallForm.{called, variable_kind, region_call_tree, name_text, region_text}
use Rattle.tt_calls.specs.CallForm.{variable_name_text}
use Rattle.tt_calls.specs.Room.{HasValue, LacksValue, LacksText}
use Rattle.tt_calls.specs.Parts.{record_text}
use Rattle.tt_calls.proofs.ValueLaws.{IsNode, in-node, new-lacks}

-- the text that a bound region is called
abbrev kept_text : RegionName Name → Option Name
kept_text anonymous = None
kept_text (printed name) = Some name
kept_text (named d) = None
kept_text environment = None

-- the text in a variable's kind
abbrev var_text : VarKind Name → Option Name
var_text (region_variable r) = kept_text r
var_text (type_variable k) = None
var_text const_variable = None

-- the text in a region that is neither a parameter nor bound
abbrev free_text : FreeRegion Name → Option Name
free_text static_region = None
free_text erased_region = None
free_text (region_var x) = None
free_text (error_region e) = None
free_text (late_param_region d r) = kept_text r
free_text (placeholder_region u v r) = kept_text r

-- the text of a leaf
abbrev tree_text : Tree Depth → Option Name
tree_text (tree.param s i name) = Some name
tree_text (tree.bound s d e) = var_text e.kind
tree_text (tree.region r) = free_text r
tree_text (tree.term l ts) = None
tree_text (tree.node l ts) = None
tree_text (tree.binder vs t) = None

-- the text is in the table of symbols
record IsText (f : Meaning) (size_of : Sizes) (name : Name) : Type 0 where
  number : ℕ
  within : number < size_of Symbols
  is : name_of f number ≡ name

module _ (f : Meaning) (size_of : Sizes) where
  called-text : (r : RegionName ℕ) (name : Name) → IsNamed size_of r → kept_text (rename_region (name_of f) r) ≡ Some name → IsText f size_of name
  called-text anonymous name h e = absurd (none-some name e)
  called-text (printed n) name h e = record { number = n; within = h; is = same_Some _ name e }
  called-text (named d) name h e = absurd (none-some name e)
  called-text environment name h e = absurd (none-some name e)

  kind-text : (k : VarKind ℕ) (name : Name) → IsNamedKind size_of k → var_text (rename_kind (name_of f) k) ≡ Some name → IsText f size_of name
  kind-text (region_variable r) name h e = called-text r name h e
  kind-text (type_variable k) name h e = absurd (none-some name e)
  kind-text const_variable name h e = absurd (none-some name e)

  region-text : (r : FreeRegion ℕ) (name : Name) → IsNamedFree size_of r → free_text (rename_free (name_of f) r) ≡ Some name → IsText f size_of name
  region-text static_region name h e = absurd (none-some name e)
  region-text erased_region name h e = absurd (none-some name e)
  region-text (region_var x) name h e = absurd (none-some name e)
  region-text (error_region x) name h e = absurd (none-some name e)
  region-text (late_param_region d r) name h e = called-text r name h e
  region-text (placeholder_region u v r) name h e = called-text r name h e

  -- the text of a row that is a leaf
  row-text : (sh : Shape) (name : Name) → HasParts size_of sh → tree_text (fill f sh) ≡ Some name → IsText f size_of name
  unfolding fill
  row-text (shape.param o j n) name h e = record { number = n; within = h; is = same_Some _ name e }
  row-text (shape.bound o d y) name h e = kind-text y.kind name h e
  row-text (shape.region r) name h e = absurd h
  row-text (shape.term l ss) name h e = absurd (none-some name e)
  row-text (shape.node l ss) name h e = absurd (none-some name e)
  row-text (shape.binder n b) name h e = absurd h
  row-text (shape.stored t n) name h e = absurd h
  row-text (shape.part_of t n x) name h e = absurd h

  -- the texts of variables
  kinds-text : (ws : List (VarKind ℕ)) (vs : List (VarKind Name)) (i : ℕ) (v : VarKind Name) (name : Name) → AreNamedKinds size_of ws
      → map (rename_kind (name_of f)) ws ≡ vs → slice_get vs i ≡ Some v → var_text v ≡ Some name → IsText f size_of name
  kinds-text [] [] i v name h same here e = absurd (cc)
  kinds-text [] (u ∷ vs) i v name h same here e = absurd (cc)
  kinds-text (w ∷ ws) [] i v name h same here e = absurd (cc)
  kinds-text (w ∷ ws) (u ∷ vs) zero v name h same here e =
      let is : rename_kind (name_of f) w ≡ v = cc in kind-text w name h.0 (ap var_text is ∙ e)
  kinds-text (w ∷ ws) (u ∷ vs) (suc i) v name h same here e =
      let rest : map (rename_kind (name_of f)) ws ≡ vs = cc in kinds-text ws vs i v name h.1 rest here e

  label-text : (m : Label ℕ) (vs : List (VarKind Name)) (i : ℕ) (v : VarKind Name) (name : Name) → IsNamedLabel size_of m
      → rename_label (name_of f) m ≡ var_list_label vs → slice_get vs i ≡ Some v → var_text v ≡ Some name → IsText f size_of name
  label-text (var_list_label ws) vs i v name h same here e =
      let kinds : map (rename_kind (name_of f)) ws ≡ vs = cc in kinds-text ws vs i v name h kinds here e
  label-text _ vs i v name h same here e = absurd (cc)

  -- the text of a feature
  feature-text : (m : Label ℕ) (name : Name) → IsNamedLabel size_of m → rename_label (name_of f) m ≡ record_label (unstable_feature_record name) → IsText f size_of name
  feature-text (record_label (unstable_feature_record n)) name h same = record { number = n; within = h; is = (let e = same in cc) }
  feature-text _ name h same = absurd (cc)

module _ (rows : List Row) (are : AreRows rows) where
  -- the text of a child that is a leaf
  part-text : (s : Shape) (name : Name) → IsPart (size rows) s → tree_text (fill (meaning rows) s) ≡ Some name → IsText (meaning rows) (size rows) name
  unfolding fill
  part-text (shape.param o j n) name h e = record { number = n; within = h.1; is = same_Some _ name e }
  part-text (shape.bound o d y) name h e = kind-text (meaning rows) (size rows) y.kind name h.1 e
  part-text (shape.region r) name h e = region-text (meaning rows) (size rows) r name h e
  part-text (shape.term l ss) name h e = absurd h
  part-text (shape.node l ss) name h e = absurd (none-some name e)
  part-text (shape.binder n b) name h e = absurd (none-some name e)
  part-text (shape.part_of t n x) name h e = absurd (none-some name e)
  part-text (shape.stored t n) name h e =
      let at = row_within rows t n h in
      let means = Means-row rows are t n at.0 at.1 in
      row-text (meaning rows) (size rows) (row_shape at.0) name means.parts (ap tree_text (sym means.tree) ∙ e)

  -- a text in the table is no new one
  known-text : (name : Name) → IsText (meaning rows) (size rows) name → IsNew (text_row name) rows → ⊥
  unfolding fill
  known-text name text new =
      let row = row_within rows Symbols text.number text.within in
      let says = Means-row rows are Symbols text.number row.0 row.1 in
      let is : text_of (fill (meaning rows) (row_shape row.0)) ≡ name = ap text_of (sym says.tree) ∙ text.is in
      new-lacks rows are (text_row name) (tt, tt) new
      (record {
        shape = shape.stored Symbols text.number;
        part = text.within;
        means = says.tree ∙ text_of_row (meaning rows) row.0 says.same_table ∙ ap (λ bytes. node (text_label bytes) tree.none) is;
      })

  lacking : (o : Option Name) (t : Tree Depth) → tree_text t ≡ o → LacksText rows o → HasValue rows t → ⊥
  lacking None t e lacks v = lacks
  lacking (Some name) t e lacks v = known-text name (part-text v.shape name v.part (ap tree_text v.means ∙ e)) lacks

name-text : (ids : ℕ → ℕ) (c : RegionNameCall) → kept_text (called ids c) ≡ name_text c
name-text ids region_name.Anon = refl
name-text ids (region_name.NamedForPrinting text) = refl
name-text ids (region_name.Named p) = refl
name-text ids region_name.ClosureEnv = refl

tree-text : (ids : ℕ → ℕ) (r : RegionCall) → tree_text (region_call_tree ids r) ≡ region_text r
tree-text ids (ReEarlyParam index name) = refl
tree-text ids (ReBound i var name) = name-text ids name
tree-text ids (ReLateParam p name) = name-text ids name
tree-text ids ReStatic = refl
tree-text ids (ReVar v) = refl
tree-text ids (RePlaceholder u var name) = name-text ids name
tree-text ids ReErased = refl
tree-text ids (ReError e) = refl

-- no value is a region whose text is none
pub region-lacks : (rows : List Row) (ids : ℕ → ℕ) (r : RegionCall) → LacksText rows (region_text r) → LacksValue rows (region_call_tree ids r)
region-lacks rows ids r lacks are v = lacking rows are (region_text r) (region_call_tree ids r) (tree-text ids r) lacks v

-- nor a parameter whose name is none
pub param-lacks : (rows : List Row) (s : Sort) (i : ℕ) (name : Name) → IsNew (text_row name) rows → LacksValue rows (tree.param s i name)
param-lacks rows s i name new are v = lacking rows are (Some name) (tree.param s i name) refl new v

var-text : (ids : ℕ → ℕ) (c : VariableCall) → var_text (variable_kind ids c) ≡ variable_name_text c
var-text ids (variable.Ty k) = refl
var-text ids (variable.Region k) = name-text ids k
var-text ids variable.Const = refl

named-variable : (rows : List Row) (are : AreRows rows) (vs : List (VarKind Name)) (i : ℕ) (v : VarKind Name) (o : Option Name) → slice_get vs i ≡ Some v → var_text v ≡ o
    → LacksText rows o → IsNode rows are (var_list_label vs) tree.none → ⊥
named-variable rows are vs i v None here e lacks n = lacks
named-variable rows are vs i v (Some name) here e lacks n =
    known-text rows are name (label-text (meaning rows) (size rows) n.label vs i v name n.named n.renamed here e) lacks

-- nor a list of variables with such a name
pub variable-lacks : (rows : List Row) (ids : ℕ → ℕ) (cs : List VariableCall) (i : ℕ) (c : VariableCall) → slice_get cs i ≡ Some c → LacksText rows (variable_name_text c)
    → LacksValue rows (node (var_list_label (map (variable_kind ids) cs)) tree.none)
variable-lacks rows ids cs i c here lacks are v =
    named-variable rows are (map (variable_kind ids) cs) i (variable_kind ids c) (variable_name_text c)
    (slice_get-map (variable_kind ids) cs i ∙ ap (option_map (variable_kind ids)) here) (var-text ids c) lacks
    (in-node rows are (var_list_label (map (variable_kind ids) cs)) tree.none v)

-- where a value is a record, the name in its label is stored
pub record-lacks : (rows : List Row) → AreRows rows → (m : RecordLabel Name) (ts : Forest Depth) → HasValue rows (node (record_label m) ts)
    → IfSome (record_text m) (λ t. IsNew (text_row t) rows → ⊥)
record-lacks rows are (unstable_feature_record name) ts v = λ new.
    let n = in-node rows are (record_label (unstable_feature_record name)) ts v in
    known-text rows are name (feature-text (meaning rows) (size rows) n.label name n.named n.renamed) new
record-lacks rows are _ ts v = tt
