-- The frames of a visit: what is left of terms and lists, and how much there is to visit.
use Rattle.std.specs.Prelude.{◌≡◌, ℕ, suc, ◌+◌, ◌<◌, ◌≤◌, max, List, [], ◌∷◌, ◌++◌, length, drop, Option, Some, None}
use Rattle.std.specs.Prelude.{◌⊎◌, ⊤, IsTrue}
use Rattle.std.specs.Option.{option_to_list}
use Rattle.std.specs.ControlFlow.{MatchControlFlow}
use Rattle.std.specs.declared.ops.ControlFlow.{ControlFlow}
use Rattle.std.specs.declared.ops.ControlFlow.TheVariants.{Continue, Break}
use Rattle.tt_kinds.specs.Tree.{Depth, Tree, Forest, param, bound, region, term, node, binder, none, also}
use Rattle.tt_kinds.specs.Shape.{Sizes, AreParts, IsPart, fill, fill_all, vars_of}
use Rattle.tt_kinds.specs.Kinds.{children_shapes, handle_shape}
use Rattle.tt_kinds.specs.TermTable.{has_items, term_table}
use Rattle.tt_kinds.specs.Handle.{BoundVarKinds}
use Rattle.tt_kinds.specs.declared.parts.Child.{Child}
use Rattle.tt_kinds.specs.declared.parts.Child.TheVariants as child
use Rattle.tt_kinds.specs.declared.handle.AnyHandle.{AnyHandle}
use Rattle.tt_kinds.specs.declared.parts.Parts.{Parts}
use Rattle.tt_kinds.specs.declared.table.Table.TheVariants.{VarLists}
use Rattle.tt_interner.specs.Children.{children_at}
use Rattle.tt_interner.specs.Rows.{Row, age, meaning, size}
use Rattle.tt_visit.specs.Steps.{AreVarsStored}
use Rattle.tt_visit.specs.Visit.{Visits, GoesOverAll, BreaksAll}
use Rattle.tt_visit.specs.declared.frame.Frame.{Frame}
use Rattle.tt_visit.specs.declared.frame.Remaining.{Remaining}
use Rattle.tt_visit.specs.declared.frame.Remaining.TheVariants as rest

-- the child, if there is one
abbrev pub present : Child → List Child
present child.Absent = []
present (child.Region r) = child.Region r ∷ []
present (child.Stored h) = child.Stored h ∷ []

-- the children that are left after the first
abbrev pub rest_children : List Row → Remaining → List Child
rest_children rows (rest.Nothing vars) = []
rest_children rows (rest.Region r vars) = child.Region r ∷ []
rest_children rows (rest.Stored h vars) = child.Stored h ∷ []
rest_children rows (rest.Items l index len) = drop index (children_at rows l)

-- the binder that the visit leaves after the children
abbrev pub rest_binder : Remaining → Option BoundVarKinds
rest_binder (rest.Nothing vars) = vars
rest_binder (rest.Region r vars) = vars
rest_binder (rest.Stored h vars) = vars
rest_binder (rest.Items l index len) = None

-- the children that are left
abbrev pub frame_children : List Row → Frame → List Child
frame_children rows f = option_to_list f.first ++ rest_children rows f.rest

-- the list is stored, and has this number of items
abbrev pub HasItems : List Row → AnyHandle → ℕ → Type 0
HasItems rows l len = IsPart (size rows) (handle_shape l) × IsTrue (has_items l.table) × (len ≡ length (children_at rows l))

-- the index of an item that is left is one of the list's
abbrev pub IsWithin : Remaining → Type 0
IsWithin (rest.Nothing vars) = ⊤
IsWithin (rest.Region r vars) = ⊤
IsWithin (rest.Stored h vars) = ⊤
IsWithin (rest.Items l index len) = index < len

-- if items of a list are left, the list is stored and has them
abbrev pub IsRest : List Row → Remaining → Type 0
IsRest rows (rest.Nothing vars) = ⊤
IsRest rows (rest.Region r vars) = ⊤
IsRest rows (rest.Stored h vars) = ⊤
IsRest rows (rest.Items l index len) = HasItems rows l len × (index < len)

-- what is left was added to the others, or it is nothing
abbrev pub IsKept : List Remaining → Remaining → List Remaining → Type 0
IsKept before r after = (after ≡ before ++ r ∷ []) ⊎ ((r ≡ rest.Nothing None) × (after ≡ before))

-- how many rows came before a stored term or list
abbrev pub stored_age : List Row → AnyHandle → ℕ
stored_age rows h = age rows (term_table h.table) h.number

-- how many rows there have to be at least for a child
abbrev pub child_height : List Row → Child → ℕ
child_height rows child.Absent = 0
child_height rows (child.Region r) = 0
child_height rows (child.Stored h) = suc (stored_age rows h)

-- the same for parts
abbrev pub parts_height : List Row → Parts → ℕ
parts_height rows p = max (child_height rows p.first) (child_height rows p.second)

-- the same for children
abbrev pub children_height : List Row → List Child → ℕ
children_height rows [] = 0
children_height rows (c ∷ cs) = max (child_height rows c) (children_height rows cs)

abbrev mutual
  -- how much there is to visit in a tree
  pub tree_work : Tree Depth → ℕ
  tree_work (param s i name) = 1
  tree_work (bound s d e) = 1
  tree_work (region r) = 1
  tree_work (term l ts) = suc (suc (forest_work ts))
  tree_work (node l ts) = suc (suc (forest_work ts))
  tree_work (binder vs t) = suc (tree_work t)

  -- the same for trees
  pub forest_work : Forest Depth → ℕ
  forest_work none = 0
  forest_work (also t ts) = suc (suc (tree_work t)) + forest_work ts

-- how much there is to visit in a child
abbrev pub child_work : List Row → Child → ℕ
child_work rows child.Absent = 1
child_work rows (child.Region r) = 1
child_work rows (child.Stored h) = suc (suc (tree_work (fill (meaning rows) (handle_shape h))))

-- the same for children
abbrev pub children_work : List Row → List Child → ℕ
children_work rows [] = 0
children_work rows (c ∷ cs) = child_work rows c + children_work rows cs

-- What is left of a term or a list: children, and the binder that they are under.
pub record Todo : Type 0 where
  pub children : List Child
  pub binder : Option BoundVarKinds

-- what is left in a frame
abbrev pub frame_todo : List Row → Frame → Todo
frame_todo rows f = record { children = frame_children rows f; binder = rest_binder f.rest }

-- the same after the first child
abbrev pub rest_todo : List Row → Remaining → Todo
rest_todo rows r = record { children = rest_children rows r; binder = rest_binder r }

-- what is left of terms in the other order, the innermost first
abbrev pub inward : List Remaining → List Remaining
inward [] = []
inward (r ∷ rs) = inward rs ++ r ∷ []

-- the trees of the children
abbrev pub todo_trees : List Row → Todo → Forest Depth
todo_trees rows t = fill_all (meaning rows) (children_shapes t.children)

-- what is left is stored
pub record IsTodo (rows : List Row) (t : Todo) : Type 0 where
  pub parts : AreParts (size rows) (children_shapes t.children)
  pub binder : AreVarsStored (size rows) t.binder

-- the same of a frame
pub record IsFrame (rows : List Row) (f : Frame) : Type 0 where
  pub rest : IsRest rows f.rest
  pub todo : IsTodo rows (frame_todo rows f)

-- what is left of terms is stored, and no child needs more rows than the height
abbrev pub AreRests : List Row → ℕ → List Remaining → Type 0
AreRests rows h [] = ⊤
AreRests rows h (r ∷ rs) = IsRest rows r × IsTodo rows (rest_todo rows r)
    × (children_height rows (rest_children rows r) ≤ h) × AreRests rows h rs

-- the binders that the visit leaves are stored
abbrev pub AreBinders : Sizes → List Remaining → Type 0
AreBinders size [] = ⊤
AreBinders size (r ∷ rs) = AreVarsStored size (rest_binder r) × AreBinders size rs

-- the frame holds the parts of a term, under its binder
pub record HoldsParts (parts : Parts) (vars : Option BoundVarKinds) (f : Frame) : Type 0 where
  pub rest : (rows : List Row) → IsRest rows f.rest
  pub children : (rows : List Row) → frame_children rows f ≡ parts.first ∷ present parts.second
  pub binder : rest_binder f.rest ≡ vars

module _ {M B : Type 0} (V : Visits M B) (rows : List Row) where
  -- the visitor leaves the binder of a term, if there is one
  abbrev pub VisitorLeaves : M → Option BoundVarKinds → M → Type 0
  VisitorLeaves s None s' = s' ≡ s
  VisitorLeaves s (Some vars) s' = V.leave s (vars_of (meaning rows VarLists vars.number)) s'

  -- the visitor goes over what is left of a term, and leaves its binder
  pub record GoesOn (s : M) (t : Todo) (s' : M) : Type 0 where
    pub after : M
    pub goes : GoesOverAll V s (todo_trees rows t) after
    pub leaves : VisitorLeaves after t.binder s'

  -- the same for a visit that breaks
  pub record BreaksOn (s : M) (t : Todo) (b : B) (s' : M) : Type 0 where
    pub after : M
    pub breaks : BreaksAll V s (todo_trees rows t) b after
    pub leaves : VisitorLeaves after t.binder s'

  -- the visitor goes over what is left of terms, the innermost first
  abbrev pub StackGoes : M → List Remaining → M → Type 0
  StackGoes s [] s' = s' ≡ s
  StackGoes s (r ∷ rs) s' = (s1 : M) × GoesOn s (rest_todo rows r) s1 × StackGoes s1 rs s'

  -- the visitor leaves the binders of the terms, the innermost first
  abbrev pub StackLeaves : M → List Remaining → M → Type 0
  StackLeaves s [] s' = s' ≡ s
  StackLeaves s (r ∷ rs) s' = (s1 : M) × VisitorLeaves s (rest_binder r) s1 × StackLeaves s1 rs s'

  -- the visit of what is left of the terms breaks, and the visitor leaves the binders around the break
  abbrev pub StackBreaks : M → List Remaining → B → M → Type 0
  StackBreaks s [] b s' = ⊥
  StackBreaks s (r ∷ rs) b s' =
      ((s1 : M) × BreaksOn s (rest_todo rows r) b s1 × StackLeaves s1 rs s')
      ⊎ ((s1 : M) × GoesOn s (rest_todo rows r) s1 × StackBreaks s1 rs b s')

  module _ (goes : M → Type 0) (breaks : B → M → Type 0) (height work : ℕ) where
    -- A visit that was begun has come to a state with this frame left. Its children need fewer rows than the height and
    -- less work, and when the frame is visited, so is the whole.
    pub record Inside (f : Frame) (s : M) : Type 0 where
      pub is_frame : IsFrame rows f
      pub low : children_height rows (frame_children rows f) < height
      pub light : children_work rows (frame_children rows f) + 1 < work
      pub ends : (s' : M) → GoesOn s (frame_todo rows f) s' → goes s'
      pub fails : (b : B) (s' : M) → BreaksOn s (frame_todo rows f) b s' → breaks b s'

    -- the same, where perhaps nothing is left
    abbrev pub Begun : Option Frame → M → Type 0
    Begun None s = goes s
    Begun (Some f) s = Inside f s

-- the frame that a call returned, if any, is stored
abbrev pub HasFrame : {B : Type 0} → List Row → ControlFlow B (Option Frame) → Type 0
HasFrame rows (Continue (Some f)) = IsFrame rows f
HasFrame rows (Continue None) = ⊤
HasFrame rows (Break b) = ⊤

module _ {M B S : Type 0} (means : List Row → S → M) (V : Visits M B) where
  -- A call began the visit of x in the visitor's state s, and returned r: the visit broke, or it is done, or r has the
  -- frame that is left of it.
  abbrev pub BeginsVisit : {X : Type 0} → (M → X → M → Type 0) → (M → X → B → M → Type 0) → ℕ → ℕ → List Row → S → X
      → ControlFlow B (Option Frame) → S → Type 0
  BeginsVisit goes breaks height work rows s x r s' = MatchControlFlow r
      (λ o. Begun V rows (goes (means rows s) x) (breaks (means rows s) x) height work o (means rows s'))
      (λ b. breaks (means rows s) x b (means rows s'))

module _ {M B : Type 0} (V : Visits M B) (rows : List Row) where
  -- a call finished a visit that was begun
  abbrev pub FinishesVisit : M → ControlFlow B (Option Frame) → ControlFlow B (Unit {0}) → M → Type 0
  FinishesVisit s (Break b) r s' = (r ≡ Break b) × (s' ≡ s)
  FinishesVisit s (Continue None) r s' = (r ≡ Continue (tt {0})) × (s' ≡ s)
  FinishesVisit s (Continue (Some f)) r s' = MatchControlFlow r
      (λ _. GoesOn V rows s (frame_todo rows f) s')
      (λ b. BreaksOn V rows s (frame_todo rows f) b s')
