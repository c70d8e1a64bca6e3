-- What holds at each turn of the walk over stored terms.
use Rattle.std.specs.Prelude.{◌≡◌, ◌<◌, ◌⊎◌, ◌+◌, ◌-◌, ◌^◌, ℕ, suc, Option, Some, None, [], ◌∷◌, ◌++◌, length, drop}
use Rattle.std.specs.Prelude.{slice_get, get_or, All, Result, ⊤, Bool, true, false, cond, IsTrue}
use Rattle.std.specs.Prelude.{List as Listed}
use Rattle.tt_index.specs.declared.refusal.Refusal.{Refusal}
use Rattle.tt_index.specs.declared.refusal.Refusal.TheVariants.{Memory, NotAClause}
use Rattle.tt_kinds.specs.Label.{Label, record_label, text_label}
use Rattle.tt_kinds.specs.Tree.{Depth, Tree, param, bound, region, term, node, binder, Forest, none, also}
use Rattle.tt_kinds.specs.Shape.{HasParts, name_of, rename_label}
use Rattle.tt_kinds.specs.Parts.{child_sort, IsItem}
use Rattle.tt_kinds.specs.TermTable.{has_items, term_table}
use Rattle.tt_kinds.specs.Kinds as kinds
use Rattle.tt_kinds.specs.Kinds.{Form, form_parts, kind_form, kind_shape, kind_table, child_shapes, children_shapes}
use Rattle.tt_kinds.specs.Kinds.{handle_shape}
use Rattle.tt_kinds.specs.declared.handle.AnyHandle.{AnyHandle}
use Rattle.tt_kinds.specs.declared.parts.Child.{Child}
use Rattle.tt_kinds.specs.declared.parts.Child.TheVariants as child
use Rattle.tt_kinds.specs.declared.parts.Parts.{Parts}
use Rattle.tt_interner.specs.Rows.{Row, size, meaning}
use Rattle.tt_interner.specs.Stored.{Terms, Extends}
use Rattle.tt_interner.specs.Children.{children_at}
use Rattle.tt_interner.specs.Nodes.{stored_kind}
use Rattle.tt_visit.specs.Frames.{present}
use Rattle.tt_fold.specs.Walk.{Hooks, Wanted, Walks, WalksInside, Fails, HasUnwanted}
use Rattle.tt_fold.specs.Counts.{Standing, stands}
use Rattle.tt_fold.specs.Steps.{Goes, errors_of, vars_in, IsPartOf}
use Rattle.tt_fold.specs.Parts.{ArePartsOf, child_trees, children_trees, IsStoredFor, IsInner, handle_tree}
use Rattle.tt_fold.specs.Stack.{Outline, plain, under, items, whole, binder_of, wanted_by, TakesAny, Asks, Opens}
use Rattle.tt_fold.specs.Stack.{Begins, Rebuilds, RebuildFails, Finishes, FinishFails, Rests, RestFails, Context}
use Rattle.tt_fold.specs.Stack.{Proceeds, Halts}
use Rattle.tt_fold.specs.declared.stack.Begun.{Begun}
use Rattle.tt_fold.specs.declared.stack.Begun.TheVariants as begun
use Rattle.tt_fold.specs.declared.stack.Frame.{Frame}
use Rattle.tt_fold.specs.declared.folder.Step.{Step}
use Rattle.tt_fold.specs.declared.folder.Step.TheVariants as step

-- the outline of a form
abbrev pub form_outline : Listed Row → Form (Label ℕ) → Outline
form_outline rows (kinds.param i name) = plain (text_label [])
form_outline rows (kinds.bound d e) = plain (text_label [])
form_outline rows (kinds.plain l p) = plain (rename_label (name_of (meaning rows)) l)
form_outline rows (kinds.under l vars m p) =
    under (rename_label (name_of (meaning rows)) l) (vars_in rows vars)
    (rename_label (name_of (meaning rows)) (record_label m))

-- the outline of a stored term or list
abbrev pub outline_of : Listed Row → AnyHandle → Outline
outline_of rows h = cond (has_items h.table) (items h.table) (form_outline rows (kind_form (stored_kind rows h)))

-- the children of a stored term
abbrev pub term_parts_at : Listed Row → AnyHandle → Parts
term_parts_at rows h = form_parts (kind_form (stored_kind rows h))

-- the parts of a term that are walked: the first, and the second if it is there
abbrev pub walked_parts : Parts → Listed Child
walked_parts p = p.first ∷ present p.second

-- the first two values as the parts of a term; a part without a value is absent
abbrev pub parts_of : Listed Child → Parts
parts_of vs = record { first = get_or vs 0 child.Absent; second = get_or vs 1 child.Absent }

-- the children of a frame's list, or the walked parts of its term
abbrev pub children_in : Listed Row → Frame → Listed Child
children_in rows f = cond (has_items f.handle.table) (children_at rows f.handle)
    (walked_parts (term_parts_at rows f.handle))

-- how many children are absent
abbrev pub absent_among : Listed Child → ℕ
absent_among [] = 0
absent_among (child.Absent ∷ cs) = suc (absent_among cs)
absent_among (child.Region r ∷ cs) = absent_among cs
absent_among (child.Stored h ∷ cs) = absent_among cs

-- the term is stored, and it has contents
pub record IsTermFrame (rows : Listed Row) (h : AnyHandle) (count : ℕ) : Type 0 where
  pub in_range : h.number < size rows (term_table h.table)
  pub table : kind_table (stored_kind rows h) ≡ h.table
  pub named : HasParts (size rows) (kind_shape (stored_kind rows h))
  pub inner : IsInner (kind_form (stored_kind rows h))
  pub counted : count ≡ length (walked_parts (term_parts_at rows h))

-- the list is stored, and has this many children
pub record IsListFrame (rows : Listed Row) (l : AnyHandle) (count : ℕ) : Type 0 where
  pub in_range : l.number < size rows (term_table l.table)
  pub parts : ArePartsOf rows (children_shapes (children_at rows l))
  pub fit : All (λ c. IsItem l.table (child_sort c)) (children_at rows l)
  pub counted : count ≡ length (children_at rows l)
  pub fits : count < 2 ^ 64

-- what holds of a frame's list, or of its term
abbrev pub IsMadeOf : Listed Row → AnyHandle → ℕ → Bool → Type 0
IsMadeOf rows h count true = IsListFrame rows h count
IsMadeOf rows h count false = IsTermFrame rows h count

-- the frame's term or list is among the rows, and its tree is made of its children's trees
pub record IsFoldFrame (rows : Listed Row) (f : Frame) : Type 0 where
  pub part : IsPartOf rows (handle_shape f.handle)
  pub tree : handle_tree rows f.handle ≡ whole (outline_of rows f.handle) (children_trees rows (children_in rows f))
  pub made : IsMadeOf rows f.handle f.count (has_items f.handle.table)

-- each value is of the sort of the child in its place
abbrev pub AreAlike : Listed Child → Listed Child → Type 0
AreAlike [] cs = ⊤
AreAlike (v ∷ vs) [] = ⊥
AreAlike (v ∷ vs) (c ∷ cs) = (child_sort v ≡ child_sort c) × AreAlike vs cs

-- the values may be the results of the frame's first children
pub record Holds (rows : Listed Row) (f : Frame) (values : Listed Child) : Type 0 where
  pub frame : IsFoldFrame rows f
  pub owned : ArePartsOf rows (children_shapes values)
  pub alike : AreAlike values (children_in rows f)
  pub wanted : HasUnwanted (wanted_by (outline_of rows f.handle)) (children_trees rows values) → ⊥

-- the trees of the children that were not begun
abbrev pub left_of : Listed Row → Frame → Forest Depth
left_of rows f = children_trees rows (drop f.next (children_in rows f))

-- the value may be one of the list's items
abbrev pub FitsList : AnyHandle → Child → Type 0
FitsList l value = IsTrue (has_items l.table) → IsItem l.table (child_sort value)

-- the value may be one of the frame's results, if it is what the child has to become
pub record IsResult (rows : Listed Row) (f : Frame) (value : Child) : Type 0 where
  pub owned : ArePartsOf rows (child_shapes value)
  pub fit : FitsList f.handle value

-- why a value is not kept: the memory for it is refused, or it is not what the child has to become
abbrev pub IsNotKept : Wanted → Forest Depth → Refusal → Type 0
IsNotKept w ts e = ((HasUnwanted w ts → ⊥) × (e ≡ Memory)) ⊎ (HasUnwanted w ts × (e ≡ NotAClause))

-- what was begun is the frame of a child's contents, or a value that may be one of this frame's results
abbrev pub IsFrameOrResult : Listed Row → Frame → Begun → Type 0
IsFrameOrResult rows f (begun.Done y) = IsResult rows f (child.Stored y)
IsFrameOrResult rows f (begun.Inside inner) = ⊤

-- the result is kept as the last value, or the frame is suspended and the frame of the contents comes next
abbrev pub HasAdvanced : Listed Row → Frame → Listed Frame → Listed Child → Begun → Frame → Listed Frame → Listed Child
    → Type 0
HasAdvanced rows f fs vs (begun.Done y) f' fs' vs' = (f' ≡ f) × (fs' ≡ fs) × (vs' ≡ vs ++ child.Stored y ∷ [])
    × (HasUnwanted (wanted_by (outline_of rows f.handle)) (child_trees rows (child.Stored y)) → ⊥)
HasAdvanced rows f fs vs (begun.Inside inner) f' fs' vs' = (f' ≡ inner) × (fs' ≡ fs ++ f ∷ []) × (vs' ≡ vs)

-- why the walk ends: the result isn't kept, or the memory for the frame is refused
abbrev pub IsStuck : Listed Row → Frame → Begun → Refusal → Type 0
IsStuck rows f (begun.Done y) e = IsNotKept (wanted_by (outline_of rows f.handle))
    (child_trees rows (child.Stored y)) e
IsStuck rows f (begun.Inside inner) e = e ≡ Memory

-- the last n values
abbrev pub last_of : ℕ → Listed Child → Listed Child
last_of n values = drop (length values - n) values

-- a frame and the results of its first children
pub record BegunFrame : Type 0 where
  pub frame : Frame
  pub values : Listed Child

-- the frames alone, the outermost first, of a list with the innermost first
abbrev pub frames_of : Listed BegunFrame → Listed Frame
frames_of [] = []
frames_of (p ∷ ps) = frames_of ps ++ p.frame ∷ []

-- the results in these frames, in the order in which they came
abbrev pub values_of : Listed BegunFrame → Listed Child
values_of [] = []
values_of (p ∷ ps) = values_of ps ++ p.values

-- a frame's context: its tree, its outline, its results, and the children that are left
abbrev pub context_of : Listed Row → BegunFrame → Context
context_of rows p = record {
  before = handle_tree rows p.frame.handle;
  outline = outline_of rows p.frame.handle;
  done = children_trees rows p.values;
  left = left_of rows p.frame;
}

-- the contexts of frames, in the same order
abbrev pub contexts : Listed Row → Listed BegunFrame → Listed Context
contexts rows [] = []
contexts rows (p ∷ ps) = context_of rows p ∷ contexts rows ps

-- the item is the frame's child that is being walked, and the values may be the results of the frame's earlier children
pub record IsBelow (rows : Listed Row) (item : AnyHandle) (p : BegunFrame) : Type 0 where
  pub holds : Holds rows p.frame p.values
  pub counted : length p.values + 1 ≡ p.frame.next
  pub walked : slice_get (children_in rows p.frame) (length p.values) ≡ Some (child.Stored item)

-- The frames around an item, from the innermost to the root's: the item is the child that is being walked in the first
-- frame, the first frame's term or list is this child in the second frame, and so on. The last frame's term or list is
-- the root.
abbrev pub AreBelow : Listed Row → AnyHandle → AnyHandle → Listed BegunFrame → Type 0
AreBelow rows root item [] = item ≡ root
AreBelow rows root item (p ∷ ps) = IsBelow rows item p × AreBelow rows root p.frame.handle ps

abbrev mutual
  -- the work of the walk of a tree, which is a measure that shows that the loop ends
  pub work : Tree Depth → ℕ
  work (param s i name) = 0
  work (bound s d e) = 0
  work (region r) = 0
  work (term l ts) = suc (suc (suc (work_all ts)))
  work (node l ts) = suc (suc (suc (work_all ts)))
  work (binder vs t) = work t

  pub work_all : Forest Depth → ℕ
  work_all none = 0
  work_all (also t ts) = suc (work t) + work_all ts

-- the work that is left in a frame
abbrev pub frame_work : Listed Row → Frame → ℕ
frame_work rows f = suc (absent_among (drop f.next (children_in rows f)) + work_all (left_of rows f))

-- the work that is left in frames
abbrev pub frames_work : Listed Row → Listed Frame → ℕ
frames_work rows [] = 0
frames_work rows (f ∷ fs) = frame_work rows f + frames_work rows fs

-- the work that is left in the innermost frame and the frames around it
abbrev pub total_work : Listed Row → Frame → Listed Frame → ℕ
total_work rows f fs = frame_work rows f + frames_work rows fs

-- the frame of the term or the list with all of its children left
pub record IsNewFrame (rows : Listed Row) (item : AnyHandle) (f : Frame) : Type 0 where
  pub is : IsFoldFrame rows f
  pub same : f.handle ≡ item
  pub start : f.next ≡ 0

module _ {M E : Type 0} (H : Hooks M E) where
  -- the hook answered for the term or list, which has this tree
  abbrev pub IsAsked : Tree Depth → AnyHandle → Listed Row → Step AnyHandle → M → M → Type 0
  IsAsked t item rows (step.Replace y) s s' = IsStoredFor item rows y × Walks H s t (handle_tree rows y) s'
  IsAsked t item rows step.Keep s s' = Walks H s t t s'
  IsAsked t item rows step.Descend s s' = Asks H t s s'

  -- the contents of the term were begun, or there are none
  abbrev pub IsOpen : Tree Depth → AnyHandle → Listed Row → Option Frame → M → M → Type 0
  IsOpen t item rows (Some f) s s' = IsNewFrame rows item f × TakesAny (outline_of rows item)
      × Opens H (binder_of (outline_of rows item)) s s'
  IsOpen t item rows None s s' = WalksInside H s t t s'

  -- the term or list has its result, or its children are next
  abbrev pub IsBegun : Tree Depth → AnyHandle → Listed Row → Begun → M → M → Type 0
  IsBegun t item rows (begun.Done y) s s' = IsStoredFor item rows y × Walks H s t (handle_tree rows y) s'
  IsBegun t item rows (begun.Inside f) s s' = IsNewFrame rows item f
      × Begins H t (outline_of rows item) (left_of rows f) s s'

  -- the frame's term or list is built from the results
  abbrev pub IsRebuilt : Listed Row → Frame → Listed Child → Listed Row → AnyHandle → M → M → Type 0
  IsRebuilt rows0 f results rows y s s' =
      IsStoredFor f.handle rows y × Rebuilds H (outline_of rows0 f.handle) (children_trees rows0 results) s
      (handle_tree rows y) s'

module _ {M E S : Type 0} (owned : Listed Row → S → Type 0) (means : Listed Row → S → M) (H : Hooks (Standing M) E)
    (gives : Refusal → E → Type 0) where
  -- the call began the term or list, or failed as a walk of it may fail
  abbrev pub BeginsStored : AnyHandle → Terms → S → Result Begun E → Terms → S → Type 0
  BeginsStored h terms s r terms' s' = Goes owned means
      (IsBegun H (handle_tree terms.rows h) h)
      (λ m e m'. Fails H (errors_of gives terms') m (handle_tree terms.rows h) e m')
      terms s r terms' s'

  -- the call built the frame's term or list from the results of its children
  abbrev pub RebuildsFrame : Frame → Listed Child → Terms → S → Result AnyHandle E → Terms → S → Type 0
  RebuildsFrame f results terms s r terms' s' = Goes owned means
      (IsRebuilt H terms.rows f results)
      (RebuildFails H (errors_of gives terms') (outline_of terms.rows f.handle) (children_trees terms.rows results))
      terms s r terms' s'

  -- the call returned the answer of the hook after the contents, or the rebuilt term or list if it has no hook
  abbrev pub FinishesItem : AnyHandle → AnyHandle → Terms → S → Result AnyHandle E → Terms → S → Type 0
  FinishesItem before rebuilt terms s r terms' s' = Goes owned means
      (λ rows y m m'. IsStoredFor before rows y
      × Finishes H (handle_tree terms.rows before) (handle_tree terms.rows rebuilt) m (handle_tree rows y) m')
      (FinishFails H (errors_of gives terms') (handle_tree terms.rows before) (handle_tree terms.rows rebuilt))
      terms s r terms' s'

-- The walk of the root's children began with the interner terms0 and the state s0. It has come to `terms` and the state
-- s, to the innermost frame, to the frames around it and to the values of all of them. Whatever way the rest of the
-- walk goes, it completes the walk of the root's children.
pub record Going {M E S : Type 0} (owned : Listed Row → S → Type 0) (means : Listed Row → S → M)
    (H : Hooks (Standing M) E) (gives : Refusal → E → Type 0)
    (terms0 : Terms) (s0 : S) (first : Frame) (terms : Terms) (s : S) (frame : Frame) (frames : Listed Frame)
    (values : Listed Child) : Type 0 where
  pub below : Listed BegunFrame
  pub results : Listed Child
  pub frames_are : frames ≡ frames_of below
  pub values_are : values ≡ values_of below ++ results
  pub extends : Extends terms0 terms
  pub is_owned : owned terms.rows s
  pub holds : Holds terms.rows frame results
  pub counted : length results ≡ frame.next
  pub below_are : AreBelow terms.rows first.handle frame.handle below
  pub ends : (u : Tree Depth) (s' : Standing M)
      → Proceeds H (handle_tree terms.rows frame.handle) (outline_of terms.rows frame.handle)
      (children_trees terms.rows results) (left_of terms.rows frame) (contexts terms.rows below)
      (stands means terms s) u s'
      → Rests H (outline_of terms0.rows first.handle) (left_of terms0.rows first) (stands means terms0 s0) u s'
  -- the meaning of an error depends on the interner at the end
  pub fails : (final : Terms) (e : E) (s' : Standing M)
      → Halts H (errors_of gives final) (handle_tree terms.rows frame.handle) (outline_of terms.rows frame.handle)
      (children_trees terms.rows results) (left_of terms.rows frame) (contexts terms.rows below)
      (stands means terms s) e s'
      → RestFails H (errors_of gives final) (outline_of terms0.rows first.handle) (left_of terms0.rows first)
      (stands means terms0 s0) e s'
