-- The promises of the walk's calls on terms, lists and the parts of kinds.
use Rattle.std.specs.Prelude.{◌≡◌, ◌++◌, ℕ, Option, Some, None, Result, Ok, Err, ⊤}
use Rattle.std.specs.Prelude.{List as Listed}
use Rattle.tt_kinds.specs.Label.{Name, VarKind, Label}
use Rattle.tt_kinds.specs.Tree.{Depth, Tree, Forest}
use Rattle.tt_kinds.specs.Shape.{Shape, Shapes, AreParts, fill_all, item_shapes, rename_label}
use Rattle.tt_kinds.specs.Parts.{child_sort, AreLike}
use Rattle.tt_kinds.specs.Kinds as form
use Rattle.tt_kinds.specs.Kinds.{Form, handle_shape, child_shapes, parts_shapes, children_shapes}
use Rattle.tt_kinds.specs.Handle.{BoundVarKinds}
use Rattle.tt_kinds.specs.TermTable.{term_table}
use Rattle.tt_kinds.specs.declared.handle.AnyHandle.{AnyHandle}
use Rattle.tt_kinds.specs.declared.parts.Child.{Child}
use Rattle.tt_kinds.specs.declared.parts.Child.TheVariants as child
use Rattle.tt_kinds.specs.declared.parts.Parts.{Parts}
use Rattle.tt_interner.specs.Rows.{Row, size, meaning}
use Rattle.tt_interner.specs.Stored.{Terms, Extends}
use Rattle.tt_visit.specs.Root.{hooked, table_root}
use Rattle.tt_fold.specs.Walk.{Hooks, WalksAll, any_trees, wanted_in}
use Rattle.tt_fold.specs.Counts.{Standing, stands}
use Rattle.tt_fold.specs.Steps.{IsPartOf, tree_in, HasVars, vars_in}
use Rattle.tt_fold.specs.declared.folder.Step.{Step}
use Rattle.tt_fold.specs.declared.folder.Step.TheVariants as step

-- the handles in the shapes name rows
abbrev pub ArePartsOf : Listed Row → Shapes → Type 0
ArePartsOf rows ss = AreParts (size rows) ss

-- the trees of the shapes among the rows
abbrev pub trees_in : Listed Row → Shapes → Forest Depth
trees_in rows ss = fill_all (meaning rows) ss

-- the tree of a stored term or list
abbrev pub handle_tree : Listed Row → AnyHandle → Tree Depth
handle_tree rows r = tree_in rows (handle_shape r)

-- a child's tree, if there is one
abbrev pub child_trees : Listed Row → Child → Forest Depth
child_trees rows c = trees_in rows (child_shapes c)

-- the trees of parts, in order
abbrev pub parts_trees : Listed Row → Parts → Forest Depth
parts_trees rows p = trees_in rows (parts_shapes p)

-- the trees of a list's children, in order
abbrev pub children_trees : Listed Row → Listed Child → Forest Depth
children_trees rows cs = trees_in rows (children_shapes cs)

-- the result is among the rows, in the same table
pub record IsStoredFor (x : AnyHandle) (rows : Listed Row) (y : AnyHandle) : Type 0 where
  pub owned : IsPartOf rows (handle_shape y)
  pub like : y.table ≡ x.table

-- the result is among the rows, and of the same sort
pub record IsChildFor (x : Child) (rows : Listed Row) (y : Child) : Type 0 where
  pub owned : ArePartsOf rows (child_shapes y)
  pub like : child_sort y ≡ child_sort x

-- the results are among the rows, and of the same sorts
pub record ArePartsFor (x : Parts) (rows : Listed Row) (y : Parts) : Type 0 where
  pub owned : ArePartsOf rows (parts_shapes y)
  pub like : AreLike x y

-- the stored term has a hook
abbrev pub HasHook : AnyHandle → Type 0
HasHook r = table_root (term_table r.table) ≡ hooked

-- the handle in a hook's answer is among the rows, and of the same table
abbrev pub IsStepFor : AnyHandle → Listed Row → Step AnyHandle → Type 0
IsStepFor x rows (step.Replace n) = IsStoredFor x rows n
IsStepFor x rows step.Keep = ⊤
IsStepFor x rows step.Descend = ⊤

-- a hook's answer, with f applied to its value
abbrev pub map_step : {A B : Type 0} → (A → B) → Step A → Step B
map_step f (step.Replace x) = step.Replace (f x)
map_step f step.Keep = step.Keep
map_step f step.Descend = step.Descend

-- a result, with f applied to its value
abbrev pub map_ok : {A B E : Type 0} → (A → B) → Result A E → Result B E
map_ok f (Ok x) = Ok (f x)
map_ok f (Err e) = Err e

-- the binder's list of variables, if there is one, is among the rows
abbrev pub HasBinder : Listed Row → Option BoundVarKinds → Type 0
HasBinder rows None = ⊤
HasBinder rows (Some vars) = HasVars rows vars

-- the variables of the binder, if there is one
abbrev pub binder_in : Listed Row → Option BoundVarKinds → Option (Listed (VarKind Name))
binder_in rows None = None
binder_in rows (Some vars) = Some (vars_in rows vars)

-- there are no children and no binder
pub record IsChildless (bound_vars : Option BoundVarKinds) (parts : Parts) : Type 0 where
  pub binder : bound_vars ≡ None
  pub first : parts.first ≡ child.Absent
  pub second : parts.second ≡ child.Absent

-- the children of a term with the label may become any trees
abbrev pub HoldsAny : Label ℕ → Type 0
HoldsAny l = (name : ℕ → Name) → wanted_in (rename_label name l) ≡ any_trees

-- a form that has children or a binder, and is no list of clauses
abbrev pub IsInner : Form (Label ℕ) → Type 0
IsInner (form.param i name) = ⊥
IsInner (form.bound d e) = ⊥
IsInner (form.plain l p) = HoldsAny l
IsInner (form.under l vars m p) = HoldsAny l

-- The first values of the list were folded, which gave `values`; `rest` is left. Before, the interner is `terms` and
-- the folder's state is s; afterwards they are terms' and s'.
pub record FoldsValues {M E S T : Type 0} (shape : T → Shape) (owned : Listed Row → S → Type 0)
    (means : Listed Row → S → M) (H : Hooks (Standing M) E)
    (terms : Terms) (s : S) (list values rest : Listed T) (terms' : Terms) (s' : S) : Type 0 where
  pub front : Listed T
  pub split : list ≡ front ++ rest
  pub extends : Extends terms terms'
  pub is_owned : owned terms'.rows s'
  pub are_values : ArePartsOf terms'.rows (item_shapes shape values)
  pub walked : WalksAll H (stands means terms s) (trees_in terms.rows (item_shapes shape front))
      (trees_in terms'.rows (item_shapes shape values)) (stands means terms' s')
