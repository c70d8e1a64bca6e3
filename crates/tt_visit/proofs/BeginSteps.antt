-- How visits begin, over plain variables.
use Rattle.std.proofs.Common.{◌≡◌, ℕ, suc, ◌+◌, ◌<◌, ◌≤◌, List, [], ◌∷◌, Option, Some, None, ControlFlow, Continue}
use Rattle.std.proofs.Common.{Break, refl, ap, arith, All, MatchOption}
use Rattle.std.specs.ControlFlow.{MatchControlFlow}
use Rattle.std.specs.Prelude.{Bool, true, false, cond}
use Rattle.tt_kinds.specs.Label.{Sort, Label, clause_list_label, list_label}
use Rattle.tt_kinds.specs.Tree.{Depth, Forest, term, node}
use Rattle.tt_kinds.specs.Shape.{Shapes, none, also, append, Meaning, AreParts, fill, fill_all, vars_of}
use Rattle.tt_kinds.specs.Kinds.{Form, param, bound, plain, under, form_parts, form_shape, kind_form, kind_sort}
use Rattle.tt_kinds.specs.Kinds.{kind_shape, child_shapes, children_shapes, parts_shapes, items_tree}
use Rattle.tt_kinds.specs.Parts.{child_sort, IsItem}
use Rattle.tt_kinds.specs.Handle.{BoundVarKinds}
use Rattle.tt_kinds.specs.declared.parts.Child.{Child}
use Rattle.tt_kinds.specs.declared.parts.Child.TheVariants as child
use Rattle.tt_kinds.specs.declared.parts.Kind.{Kind}
use Rattle.tt_kinds.specs.declared.handle.AnyHandle.{AnyHandle}
use Rattle.tt_kinds.specs.declared.table.TermTable.{TermTable}
use Rattle.tt_kinds.specs.TermTable.{is_clause_table, term_table}
use Rattle.tt_kinds.specs.declared.parts.Parts.{Parts}
use Rattle.tt_kinds.specs.declared.table.Table.TheVariants.{VarLists}
use Rattle.tt_interner.specs.Children.{children_at}
use Rattle.tt_interner.specs.Rows.{Row, meaning, size}
use Rattle.tt_visit.specs.Steps.{AreVarsStored, GoesUnder, BreaksUnder}
use Rattle.tt_visit.specs.Visit.{Visits, GoesOverAll, all_seen, node_seen, value_seen, binder_seen, BreaksAll}
use Rattle.tt_visit.specs.Visit.{node_broke, value_broke, under_broke}
use Rattle.tt_visit.specs.declared.visitor.Next.TheVariants.{Descend}
use Rattle.tt_visit.specs.Frames.{present, rest_binder, frame_children, children_height, children_work, child_height}
use Rattle.tt_visit.specs.Frames.{child_work, parts_height, tree_work, forest_work, frame_todo, IsFrame, HoldsParts}
use Rattle.tt_visit.specs.Frames.{VisitorLeaves, GoesOn, BreaksOn, Inside, Begun, HasFrame, FinishesVisit}
use Rattle.tt_visit.specs.declared.frame.Frame.{Frame}
use Rattle.tt_visit.proofs.VisitSteps.{flow-weaker}

module _ {M B : Type 0} (V : Visits M B) (rows : List Row) (s : M) where
  -- a visit that was begun also meets weaker promises, within greater bounds
  pub begun-weaker : {P P' : M → Type 0} {Q Q' : B → M → Type 0} {h w h' w' : ℕ} (r : ControlFlow B (Option Frame))
      → MatchControlFlow r (λ o. Begun V rows P Q h w o s) (λ b. Q b s)
      → ((s2 : M) → P s2 → P' s2) → ((b : B) (s2 : M) → Q b s2 → Q' b s2) → h ≤ h' → w ≤ w'
      → MatchControlFlow r (λ o. Begun V rows P' Q' h' w' o s) (λ b. Q' b s)
  begun-weaker (Break b) k f g hh ww = g b s k
  begun-weaker (Continue None) k f g hh ww = f s k
  begun-weaker (Continue (Some x)) k f g hh ww = record {
    is_frame = k.is_frame;
    low = omega (arith, k.low, hh);
    light = omega (arith, k.light, ww);
    ends = λ s2 p. f s2 (k.ends s2 p);
    fails = λ b s2 p. g b s2 (k.fails b s2 p);
  }

  -- a visit that was begun is taken to its end
  pub has-frame : (P : M → Type 0) (Q : B → M → Type 0) (h w : ℕ) (begun : ControlFlow B (Option Frame))
      → MatchControlFlow begun (λ o. Begun V rows P Q h w o s) (λ b. Q b s) → HasFrame rows begun
  has-frame P Q h w (Break b) k = tt
  has-frame P Q h w (Continue None) k = tt
  has-frame P Q h w (Continue (Some f)) k = k.is_frame

-- a visit that was begun and then taken to its end has gone over the whole, or broken in it
pub finished : {M B : Type 0} (V : Visits M B) (rows : List Row) (P : M → Type 0) (Q : B → M → Type 0) (h w : ℕ) (s1 s2 : M)
    (begun : ControlFlow B (Option Frame)) (r : ControlFlow B (Unit {0}))
    → MatchControlFlow begun (λ o. Begun V rows P Q h w o s1) (λ b. Q b s1) → FinishesVisit V rows s1 begun r s2
    → MatchControlFlow r (λ _. P s2) (λ b. Q b s2)
finished V rows P Q h w s1 s2 (Break b) r k e = rw (e.0, e.1) k
finished V rows P Q h w s1 s2 (Continue None) r k e = rw (e.0, e.1) k
finished V rows P Q h w s1 s2 (Continue (Some f)) r k e = flow-weaker r e (λ _ p. k.ends s2 p) (λ b p. k.fails b s2 p)

-- a child that is there
shapes-present : (c : Child) → children_shapes (present c) ≡ child_shapes c
shapes-present child.Absent = refl
shapes-present (child.Region r) = refl
shapes-present (child.Stored r) = refl

present-height : (rows : List Row) (c : Child) → children_height rows (present c) ≤ child_height rows c
present-height rows child.Absent = omega arith
present-height rows (child.Region r) = omega arith
present-height rows (child.Stored r) = omega arith

present-work : (rows : List Row) (c : Child) → children_work rows (present c) ≤ forest_work (fill_all (meaning rows) (child_shapes c))
unfolding fill_all
present-work rows child.Absent = omega arith
present-work rows (child.Region r) = omega arith
present-work rows (child.Stored r) = omega arith

child-work : (rows : List Row) (c : Child) → child_work rows c ≤ forest_work (fill_all (meaning rows) (child_shapes c)) + 1
unfolding fill_all
child-work rows child.Absent = omega arith
child-work rows (child.Region r) = omega arith
child-work rows (child.Stored r) = omega arith

work-append : (f : Meaning) (ss us : Shapes) → forest_work (fill_all f (append ss us)) ≡ forest_work (fill_all f ss) + forest_work (fill_all f us)
unfolding fill_all
work-append f none us = omega arith
work-append f (also x ss) us = omega (arith, work-append f ss us)

-- the parts of a term
module _ {rows : List Row} {p : Parts} {vars : Option BoundVarKinds} {f : Frame} where
  -- a frame that holds stored parts of a term, under its stored variables if it has some, is stored
  pub holds-frame : HoldsParts p vars f → AreVarsStored (size rows) vars → AreParts (size rows) (parts_shapes p) → IsFrame rows f
  holds-frame h stored are = record {
    rest = h.rest rows;
    todo = record { parts = rw (h.children rows, shapes-present p.second) are; binder = rw h.binder stored };
  }

  pub holds-inside : {M B : Type 0} {V : Visits M B} {P : M → Type 0} {Q : B → M → Type 0} {s : M}
      → HoldsParts p vars f → AreVarsStored (size rows) vars → AreParts (size rows) (parts_shapes p)
      → ((m s2 : M) → GoesOverAll V s (fill_all (meaning rows) (parts_shapes p)) m → VisitorLeaves V rows m vars s2 → P s2)
      → ((b : B) (m s2 : M) → BreaksAll V s (fill_all (meaning rows) (parts_shapes p)) b m → VisitorLeaves V rows m vars s2 → Q b s2)
      → Inside V rows P Q (parts_height rows p + 1) (forest_work (fill_all (meaning rows) (parts_shapes p)) + 3) f s
  holds-inside h stored are g k = record {
    is_frame = holds-frame h stored are;
    low = omega (arith, ap (children_height rows) (h.children rows), present-height rows p.second);
    light = omega (arith, ap (children_work rows) (h.children rows), child-work rows p.first, present-work rows p.second, work-append (meaning rows) (child_shapes p.first) (child_shapes p.second));
    ends = λ s2 q. g q.after s2 (rw (h.children rows, shapes-present p.second) at q.goes) (rw h.binder at q.leaves);
    fails = λ b s2 q. k b q.after s2 (rw (h.children rows, shapes-present p.second) at q.breaks) (rw h.binder at q.leaves);
  }

-- to visit what a frame leaves of parts without a binder is to visit the trees of the parts
pub parts-visited : {M B : Type 0} (V : Visits M B) (rows : List Row) (p : Parts) (f : Frame) (s s' : M) (r : ControlFlow B (Unit {0}))
    → HoldsParts p None f → MatchControlFlow r (λ _. GoesOn V rows s (frame_todo rows f) s') (λ b. BreaksOn V rows s (frame_todo rows f) b s')
    → MatchControlFlow r (λ _. GoesOverAll V s (fill_all (meaning rows) (parts_shapes p)) s') (λ b. BreaksAll V s (fill_all (meaning rows) (parts_shapes p)) b s')
parts-visited V rows p f s s' r h e =
    flow-weaker r e
    (λ _ q. let l : s' ≡ q.after = rw h.binder at q.leaves in rw l (rw (h.children rows, shapes-present p.second) at q.goes))
    (λ b q. let l : s' ≡ q.after = rw h.binder at q.leaves in rw l (rw (h.children rows, shapes-present p.second) at q.breaks))

-- parts without a binder
pub begins-bare : {M B : Type 0} (V : Visits M B) (rows : List Row) (p : Parts) (s : M) (o : Option Frame)
    → MatchOption o (parts_shapes p ≡ none) (HoldsParts p None) → AreParts (size rows) (parts_shapes p)
    → Begun V rows (GoesOverAll V s (fill_all (meaning rows) (parts_shapes p))) (BreaksAll V s (fill_all (meaning rows) (parts_shapes p)))
    (parts_height rows p + 1) (forest_work (fill_all (meaning rows) (parts_shapes p)) + 3) o s
unfolding fill_all
begins-bare V rows p s None h are = rw h all_seen
begins-bare V rows p s (Some f) h are = holds-inside h tt are (λ m s2 g l. rw l g) (λ b m s2 g l. rw l g)

-- parts under a binder that was entered
pub begins-under : {M B : Type 0} {V : Visits M B} {rows : List Row} {p : Parts} {vars : BoundVarKinds} {f : Frame} {s s1 : M}
    → V.enter s (vars_of (meaning rows VarLists vars.number)) Descend s1 → HoldsParts p (Some vars) f
    → vars.number < size rows VarLists → AreParts (size rows) (parts_shapes p)
    → Inside V rows (GoesUnder V (meaning rows) s (Some vars) (fill_all (meaning rows) (parts_shapes p)))
    (BreaksUnder V (meaning rows) s (Some vars) (fill_all (meaning rows) (parts_shapes p)))
    (parts_height rows p + 1) (forest_work (fill_all (meaning rows) (parts_shapes p)) + 3) f s1
begins-under hook h stored are =
    holds-inside h stored are
    (λ m s2 g l r. binder_seen hook (value_seen (node_seen refl g)) l)
    (λ b m s2 g l r. under_broke hook (value_broke (node_broke refl g)) l)

-- the parts of a kind are less work than the kind
form-work : (f : Meaning) (s : Sort) (x : Form (Label ℕ)) → forest_work (fill_all f (parts_shapes (form_parts x))) + 1 ≤ tree_work (fill f (form_shape s x))
unfolding fill fill_all
form-work f s (param i name) = omega arith
form-work f s (bound d e) = omega arith
form-work f s (plain l p) = omega arith
form-work f s (under l vars m p) = omega arith

-- there is less to visit in the parts of a kind than in the kind's tree
pub kind-work : (f : Meaning) (k : Kind) → forest_work (fill_all f (parts_shapes (form_parts (kind_form k)))) + 1 ≤ tree_work (fill f (kind_shape k))
kind-work f k = form-work f (kind_sort k) (kind_form k)

-- the items of a list are less work than the list
item-work : (rows : List Row) (s : TermTable) (c : Child) → IsItem s (child_sort c) → child_work rows c ≤ forest_work (fill_all (meaning rows) (child_shapes c))
unfolding fill_all
item-work rows s child.Absent h = absurd h
item-work rows s (child.Region r) h = omega arith
item-work rows s (child.Stored r) h = omega arith

items-work : (rows : List Row) (s : TermTable) (cs : List Child) → All (λ c. IsItem s (child_sort c)) cs
    → children_work rows cs ≤ forest_work (fill_all (meaning rows) (children_shapes cs))
items-work rows s [] h = omega arith
items-work rows s (c ∷ cs) h =
    let first = item-work rows s c (h 0 c (omega arith)) in
    let more = items-work rows s cs (λ k d lt. h (suc k) d (omega (arith, lt))) in
    omega (arith, first, more, work-append (meaning rows) (child_shapes c) (children_shapes cs))

items-tree-work : (s : TermTable) (ts : Forest Depth) → tree_work (items_tree s ts) ≡ suc (suc (forest_work ts))
items-tree-work s ts = by (is_clause_table s)
  where
    by : (b : Bool) → tree_work (cond b (term clause_list_label ts) (node (list_label (term_table s)) ts)) ≡ suc (suc (forest_work ts))
    by true = refl
    by false = refl

-- there is less to visit in the items of a stored list than in the list as a child
pub list-light : (rows : List Row) (l : AnyHandle) → All (λ c. IsItem l.table (child_sort c)) (children_at rows l)
    → meaning rows (term_table l.table) l.number ≡ items_tree l.table (fill_all (meaning rows) (children_shapes (children_at rows l)))
    → children_work rows (children_at rows l) + 1 < child_work rows (child.Stored l)
unfolding fill
list-light rows l fit means =
    omega (arith, items-work rows l.table (children_at rows l) fit, ap tree_work means, items-tree-work l.table (fill_all (meaning rows) (children_shapes (children_at rows l))))

-- the items of a list
pub begins-list : {M B : Type 0} {V : Visits M B} {rows : List Row} {P : M → Type 0} {Q : B → M → Type 0} {h w : ℕ} {f : Frame} {s : M}
    → IsFrame rows f → rest_binder f.rest ≡ None → children_height rows (frame_children rows f) < h → children_work rows (frame_children rows f) + 1 < w
    → ((s2 : M) → GoesOverAll V s (fill_all (meaning rows) (children_shapes (frame_children rows f))) s2 → P s2)
    → ((b : B) (s2 : M) → BreaksAll V s (fill_all (meaning rows) (children_shapes (frame_children rows f))) b s2 → Q b s2)
    → Inside V rows P Q h w f s
begins-list is bare low light g k = record {
  is_frame = is;
  low = low;
  light = light;
  ends = λ s2 q. let l : s2 ≡ q.after = rw bare at q.leaves in g s2 (rw l q.goes);
  fails = λ b s2 q. let l : s2 ≡ q.after = rw bare at q.leaves in k b s2 (rw l q.breaks);
}
