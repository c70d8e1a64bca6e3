-- The turns of a visit's loop over plain variables.
use Rattle.std.proofs.Common.{◌≡◌, ℕ, suc, ◌+◌, ◌<◌, ◌≤◌, max, List, [], ◌∷◌, ◌++◌, length, Option, None, refl, ap, inl}
use Rattle.std.proofs.Common.{inr, arith}
use Rattle.tt_kinds.specs.Shape.{append, Sizes, AreParts, fill_all}
use Rattle.tt_kinds.specs.Kinds.{child_shapes, children_shapes}
use Rattle.tt_kinds.specs.declared.parts.Child.{Child}
use Rattle.tt_kinds.specs.declared.parts.Child.TheVariants as child
use Rattle.tt_kinds.specs.Handle.{BoundVarKinds}
use Rattle.tt_interner.specs.Rows.{Row, meaning, size}
use Rattle.tt_visit.specs.Steps.{AreVarsStored}
use Rattle.tt_visit.specs.Visit.{Visits, GoesOverAll, all_seen, BreaksAll}
use Rattle.tt_visit.specs.Frames.{rest_children, rest_binder, frame_children, IsRest, IsKept, inward, children_height}
use Rattle.tt_visit.specs.Frames.{children_work, child_height, child_work, frame_todo, rest_todo, IsFrame, AreRests}
use Rattle.tt_visit.specs.Frames.{AreBinders, VisitorLeaves, GoesOn, BreaksOn, StackGoes, StackLeaves, StackBreaks}
use Rattle.tt_visit.specs.Frames.{Inside}
use Rattle.tt_visit.specs.declared.frame.Frame.{Frame}
use Rattle.tt_visit.specs.declared.frame.Remaining.{Remaining}
use Rattle.tt_visit.specs.declared.frame.Remaining.TheVariants as rest
use Rattle.tt_visit.proofs.VisitSteps.{seen-append, broke-before, broke-after, parts-before, parts-after}

-- what is left of terms, from the inside and from the outside
pub inward-more : (rs : List Remaining) (r : Remaining) → inward (rs ++ r ∷ []) ≡ r ∷ inward rs
inward-more [] r = refl
inward-more (x ∷ rs) r = ap (λ l. l ++ x ∷ []) (inward-more rs r)

pub inward-none : (rs : List Remaining) → length rs ≡ 0 → inward rs ≡ []
inward-none [] e = refl
inward-none (r ∷ rs) e = absurd (omega (arith, e))

pub rests-binders : (rows : List Row) (h : ℕ) (rs : List Remaining) → AreRests rows h rs → AreBinders (size rows) rs
rests-binders rows h [] are = tt
rests-binders rows h (r ∷ rs) are = (are.1.binder, rests-binders rows h rs are.3)

-- the work that is left around a term
abbrev pub rests_work : List Row → List Remaining → ℕ
rests_work rows [] = 0
rests_work rows (r ∷ rs) = suc (children_work rows (rest_children rows r)) + rests_work rows rs

some-work : (rows : List Row) (c : Child) → 0 < child_work rows c
some-work rows child.Absent = omega arith
some-work rows (child.Region r) = omega arith
some-work rows (child.Stored r) = omega arith

-- a child was taken from what is left
pub record Taken (rows : List Row) (f : Frame) (c : Child) (f' : Frame) : Type 0 where
  pub children : frame_children rows f ≡ c ∷ frame_children rows f'
  pub first : f'.first ≡ None
  pub binder : rest_binder f'.rest ≡ rest_binder f.rest
  pub rest : IsRest rows f'.rest

-- a child was taken if the other frame has the children after it, no first child, and the same binder
pub taken : (rows : List Row) (f : Frame) (c : Child) (f' : Frame) → frame_children rows f ≡ c ∷ frame_children rows f' → f'.first ≡ None
    → rest_binder f'.rest ≡ rest_binder f.rest → IsRest rows f'.rest → Taken rows f c f'
taken rows f c f' children first binder rest = record { children = children; first = first; binder = binder; rest = rest }

module _ {rows : List Row} {f f' : Frame} {c : Child} where
  taken-parts : Taken rows f c f' → IsFrame rows f → AreParts (size rows) (append (child_shapes c) (children_shapes (frame_children rows f')))
  taken-parts t is = rw t.children at is.todo.parts

  -- a child that was taken from a stored frame is stored
  pub taken-child : Taken rows f c f' → IsFrame rows f → AreParts (size rows) (child_shapes c)
  taken-child t is = parts-before (size rows) (child_shapes c) (children_shapes (frame_children rows f')) (taken-parts t is)

  pub taken-frame : Taken rows f c f' → IsFrame rows f → IsFrame rows f'
  taken-frame t is = record {
    rest = t.rest;
    todo = record {
      parts = parts-after (size rows) (child_shapes c) (children_shapes (frame_children rows f')) (taken-parts t is);
      binder = rw t.binder is.todo.binder;
    };
  }

  taken-rest : Taken rows f c f' → rest_children rows f'.rest ≡ frame_children rows f'
  taken-rest t = rw t.first refl

  pub taken-height : Taken rows f c f' → children_height rows (frame_children rows f) ≡ max (child_height rows c) (children_height rows (frame_children rows f'))
  taken-height t = ap (children_height rows) t.children

  pub taken-work : Taken rows f c f' → children_work rows (frame_children rows f) ≡ child_work rows c + children_work rows (frame_children rows f')
  taken-work t = ap (children_work rows) t.children

-- one child and then the rest
module _ {M B : Type 0} {V : Visits M B} {rows : List Row} {f f' : Frame} {c : Child} where
  past-goes : {s s1 s2 : M} → Taken rows f c f' → GoesOverAll V s (fill_all (meaning rows) (child_shapes c)) s1
      → GoesOn V rows s1 (frame_todo rows f') s2 → GoesOn V rows s (frame_todo rows f) s2
  past-goes {s} {s1} t w p = record {
    after = p.after;
    goes = rw t.children (seen-append V (meaning rows) (child_shapes c) (children_shapes (frame_children rows f')) s s1 p.after w p.goes);
    leaves = rw (← t.binder) p.leaves;
  }

  past-breaks : {s s1 s2 : M} {b : B} → Taken rows f c f' → GoesOverAll V s (fill_all (meaning rows) (child_shapes c)) s1
      → BreaksOn V rows s1 (frame_todo rows f') b s2 → BreaksOn V rows s (frame_todo rows f) b s2
  past-breaks {s} {s1} {b = b} t w p = record {
    after = p.after;
    breaks = rw t.children (broke-after V (meaning rows) (child_shapes c) (children_shapes (frame_children rows f')) s s1 p.after b w p.breaks);
    leaves = rw (← t.binder) p.leaves;
  }

  child-breaks : {s s1 : M} {b : B} (s2 : M) → Taken rows f c f' → BreaksAll V s (fill_all (meaning rows) (child_shapes c)) b s1
      → VisitorLeaves V rows s1 (rest_binder f'.rest) s2 → BreaksOn V rows s (frame_todo rows f) b s2
  child-breaks {s} {s1} {b} s2 t w l = record {
    after = s1;
    breaks = rw t.children (broke-before V (meaning rows) (child_shapes c) (children_shapes (frame_children rows f')) s s1 b w);
    leaves = rw (← t.binder) l;
  }

  rest-goes : {s s' : M} → Taken rows f c f' → GoesOn V rows s (rest_todo rows f'.rest) s' → GoesOn V rows s (frame_todo rows f') s'
  rest-goes t p = rw t.first p

  rest-breaks : {s s' : M} {b : B} → Taken rows f c f' → BreaksOn V rows s (rest_todo rows f'.rest) b s' → BreaksOn V rows s (frame_todo rows f') b s'
  rest-breaks t p = rw t.first p

-- no child is left
goes-none : {M B : Type 0} (V : Visits M B) (rows : List Row) (s : M) (cs : List Child) → cs ≡ [] → GoesOverAll V s (fill_all (meaning rows) (children_shapes cs)) s
unfolding fill_all
goes-none V rows s cs e = rw e all_seen

-- nothing is left of a term
goes-up : {M B : Type 0} (V : Visits M B) (rows : List Row) (m m1 : M) (f : Frame) (vars : Option BoundVarKinds) → frame_children rows f ≡ [] → vars ≡ rest_binder f.rest
    → VisitorLeaves V rows m vars m1 → GoesOn V rows m (frame_todo rows f) m1
goes-up V rows m m1 f vars done same l = record { after = m; goes = goes-none V rows m (frame_children rows f) done; leaves = rw (← same) l }

-- The visit of a frame, begun in the state s0, has come to the state s. Whatever comes of what is left makes the whole.
pub record Visiting {M B S : Type 0} (owned : List Row → S → Type 0) (means : List Row → S → M) (V : Visits M B) (rows : List Row) (s0 : S) (whole : Frame)
    (s : S) (f : Frame) (rs : List Remaining) : Type 0 where
  pub is_owned : owned rows s
  pub is_frame : IsFrame rows f
  pub low : children_height rows (frame_children rows f) ≤ children_height rows (frame_children rows whole)
  pub are_rests : AreRests rows (children_height rows (frame_children rows whole)) rs
  pub ends : (s1 s' : M) → GoesOn V rows (means rows s) (frame_todo rows f) s1 → StackGoes V rows s1 rs s' → GoesOn V rows (means rows s0) (frame_todo rows whole) s'
  pub fails : (b : B) (s1 s' : M) → BreaksOn V rows (means rows s) (frame_todo rows f) b s1 → StackLeaves V rows s1 rs s' → BreaksOn V rows (means rows s0) (frame_todo rows whole) b s'
  pub fails_around : (b : B) (s1 s' : M) → GoesOn V rows (means rows s) (frame_todo rows f) s1 → StackBreaks V rows s1 rs b s' → BreaksOn V rows (means rows s0) (frame_todo rows whole) b s'

module _ {M B S : Type 0} {owned : List Row → S → Type 0} {means : List Row → S → M} {V : Visits M B} {rows : List Row} {s0 : S} {whole : Frame} where
  -- the visit starts with the whole frame and an empty stack
  pub visiting-starts : (frames : List Remaining) → frames ≡ [] → owned rows s0 → IsFrame rows whole → Visiting owned means V rows s0 whole s0 whole (inward frames)
  visiting-starts frames empty o is = rw empty (record {
    is_owned = o;
    is_frame = is;
    low = omega arith;
    are_rests = tt;
    ends = λ s1 s' p e. rw e p;
    fails = λ b s1 s' p e. rw e p;
    fails_around = λ b s1 s' p never. absurd never;
  })

  -- a child was visited
  pub visiting-past : {s s1 : S} {f f' : Frame} {c : Child} {rs : List Remaining} → Visiting owned means V rows s0 whole s f rs → Taken rows f c f'
      → owned rows s1 → GoesOverAll V (means rows s) (fill_all (meaning rows) (child_shapes c)) (means rows s1)
      → Visiting owned means V rows s0 whole s1 f' rs
  visiting-past h t o w = record {
    is_owned = o;
    is_frame = taken-frame t h.is_frame;
    low = omega (arith, h.low, taken-height t);
    are_rests = h.are_rests;
    ends = λ s2 s' p q. h.ends s2 s' (past-goes t w p) q;
    fails = λ b s2 s' p q. h.fails b s2 s' (past-breaks t w p) q;
    fails_around = λ b s2 s' p q. h.fails_around b s2 s' (past-goes t w p) q;
  }

  -- the visit of a child broke
  pub visiting-breaks : {s : S} {f f' : Frame} {c : Child} {rs : List Remaining} {b : B} {m : M} (m1 m2 : M) → Visiting owned means V rows s0 whole s f rs → Taken rows f c f'
      → BreaksAll V (means rows s) (fill_all (meaning rows) (child_shapes c)) b m → VisitorLeaves V rows m (rest_binder f'.rest) m1 → StackLeaves V rows m1 rs m2
      → BreaksOn V rows (means rows s0) (frame_todo rows whole) b m2
  visiting-breaks {b} m1 m2 h t w l ls = h.fails b m1 m2 (child-breaks m1 t w l) ls

  -- a child is gone into
  module _ {s s1 : S} {f f' : Frame} {c : Child} {rs : List Remaining} {k w : ℕ} {inner : Frame} (h : Visiting owned means V rows s0 whole s f rs) (t : Taken rows f c f')
      (o : owned rows s1)
      (i : Inside V rows (GoesOverAll V (means rows s) (fill_all (meaning rows) (child_shapes c))) (BreaksAll V (means rows s) (fill_all (meaning rows) (child_shapes c))) k w inner (means rows s1)) where
    around : {m : M} (b : B) (s' : M) → GoesOverAll V (means rows s) (fill_all (meaning rows) (child_shapes c)) m → StackBreaks V rows m (f'.rest ∷ rs) b s'
        → BreaksOn V rows (means rows s0) (frame_todo rows whole) b s'
    around b s' g (inl q) = h.fails b q.0 s' (past-breaks t g (rest-breaks t q.1)) q.2
    around b s' g (inr q) = h.fails_around b q.0 s' (past-goes t g (rest-goes t q.1)) q.2

    visiting-inside : k ≤ child_height rows c → Visiting owned means V rows s0 whole s1 inner (f'.rest ∷ rs)
    visiting-inside below = record {
      is_owned = o;
      is_frame = i.is_frame;
      low = omega (arith, h.low, i.low, taken-height t, below);
      are_rests = (t.rest, rw t.first at (taken-frame t h.is_frame).todo, omega (arith, h.low, taken-height t, ap (children_height rows) (taken-rest t)), h.are_rests);
      ends = λ s2 s' p q. h.ends q.0 s' (past-goes t (i.ends s2 p) (rest-goes t q.1)) q.2;
      fails = λ b s2 s' p q. h.fails b q.0 s' (child-breaks q.0 t (i.fails b s2 p) q.1) q.2;
      fails_around = λ b s2 s' p q. around b s' (i.ends s2 p) q;
    }

  -- what is left needs no room where it is nothing
  visiting-drops : {s : S} {f : Frame} {r : Remaining} {rs : List Remaining} → r ≡ rest.Nothing None → Visiting owned means V rows s0 whole s f (r ∷ rs) → Visiting owned means V rows s0 whole s f rs
  visiting-drops {rs} is h =
      let v = rw is at h in
      record {
        is_owned = v.is_owned;
        is_frame = v.is_frame;
        low = v.low;
        are_rests = v.are_rests.3;
        ends = λ s2 s' p q. v.ends s2 s' p (s2, record { after = s2; goes = goes-none V rows s2 [] refl; leaves = refl }, q);
        fails = λ b s2 s' p q. v.fails b s2 s' p (s2, refl, q);
        fails_around = λ b s2 s' p q. v.fails_around b s2 s' p (inr (s2, record { after = s2; goes = goes-none V rows s2 [] refl; leaves = refl }, q));
      }

  kept-cases : {s : S} {f : Frame} {r : Remaining} (frames frames' : List Remaining) → IsKept frames r frames'
      → Visiting owned means V rows s0 whole s f (r ∷ inward frames) → Visiting owned means V rows s0 whole s f (inward frames')
  kept-cases {r} frames frames' (inl added) h = rw (added, inward-more frames r) h
  kept-cases frames frames' (inr same) h = rw same.1 (visiting-drops same.0 h)

  -- the visit goes on with the frame of a child that was gone into; what is left around it is on the stack
  pub visiting-into : {s s1 : S} {f f' : Frame} {c : Child} {k w : ℕ} {inner : Frame} (frames frames' : List Remaining)
      → Visiting owned means V rows s0 whole s f (inward frames) → Taken rows f c f' → owned rows s1
      → Inside V rows (GoesOverAll V (means rows s) (fill_all (meaning rows) (child_shapes c))) (BreaksAll V (means rows s) (fill_all (meaning rows) (child_shapes c))) k w inner (means rows s1)
      → k ≤ child_height rows c → IsKept frames f'.rest frames' → Visiting owned means V rows s0 whole s1 inner (inward frames')
  visiting-into frames frames' h t o i below kept = kept-cases frames frames' kept (visiting-inside h t o i below)

  -- with no child left and an empty stack, the visitor has gone over the whole frame once its binder is left
  pub visiting-ends : {s s1 : S} {f : Frame} {vars : Option BoundVarKinds} (frames : List Remaining)
      → Visiting owned means V rows s0 whole s f (inward frames) → frame_children rows f ≡ [] → vars ≡ rest_binder f.rest → VisitorLeaves V rows (means rows s) vars (means rows s1)
      → length frames ≡ 0 → GoesOn V rows (means rows s0) (frame_todo rows whole) (means rows s1)
  visiting-ends {s} {s1} {f} {vars} frames h done same l empty =
      h.ends (means rows s1) (means rows s1) (goes-up V rows (means rows s) (means rows s1) f vars done same l) (rw (inward-none frames empty) refl)

  -- with no child left, the visit goes on with the last of the stack once the frame's binder is left
  pub visiting-up : {s s1 : S} {f f1 : Frame} {vars : Option BoundVarKinds} (frames frames' : List Remaining) (r : Remaining)
      → Visiting owned means V rows s0 whole s f (inward frames) → frame_children rows f ≡ [] → vars ≡ rest_binder f.rest → VisitorLeaves V rows (means rows s) vars (means rows s1)
      → owned rows s1 → frames ≡ frames' ++ r ∷ [] → f1 ≡ record { first = None; rest = r } → Visiting owned means V rows s0 whole s1 f1 (inward frames')
  visiting-up {s} {s1} {f} {vars} frames frames' r h0 done same l o popped is =
      let h : Visiting owned means V rows s0 whole s f (r ∷ inward frames') = rw (popped, inward-more frames' r) at h0 in
      let up = goes-up V rows (means rows s) (means rows s1) f vars done same l in
      rw is (record {
        is_owned = o;
        is_frame = record { rest = h.are_rests.0; todo = h.are_rests.1 };
        low = h.are_rests.2;
        are_rests = h.are_rests.3;
        ends = λ s2 s' p q. h.ends (means rows s1) s' up (s2, p, q);
        fails = λ b s2 s' p q. h.fails_around b (means rows s1) s' up (inl (s2, p, q));
        fails_around = λ b s2 s' p q. h.fails_around b (means rows s1) s' up (inr (s2, p, q));
      })

  -- the binders around a term whose visit broke
  pub visiting-binders : {s : S} {f : Frame} (frames : List Remaining) → Visiting owned means V rows s0 whole s f (inward frames) → AreBinders (size rows) (inward frames)
  visiting-binders frames h = rests-binders rows (children_height rows (frame_children rows whole)) (inward frames) h.are_rests

-- each turn is less work
unfoldable pub total : List Row → Frame → List Remaining → ℕ
total rows f frames = suc (children_work rows (frame_children rows f)) + rests_work rows (inward frames)

module _ (rows : List Row) where
  -- a child that was visited leaves less work
  pub total-past : (f f' : Frame) (c : Child) (frames : List Remaining) → Taken rows f c f' → total rows f' frames < total rows f frames
  unfolding total
  total-past f f' c frames t = omega (arith, taken-work t, some-work rows c)

  kept-work : (frames frames' : List Remaining) (r : Remaining) → IsKept frames r frames' → rests_work rows (inward frames') ≤ suc (children_work rows (rest_children rows r)) + rests_work rows (inward frames)
  kept-work frames frames' r (inl added) = omega (arith, ap (λ rs. rests_work rows (inward rs)) added, ap (rests_work rows) (inward-more frames r))
  kept-work frames frames' r (inr same) = omega (arith, ap (λ rs. rests_work rows (inward rs)) same.1)

  -- going into a child leaves less work
  pub total-into : (f f' inner : Frame) (c : Child) (frames frames' : List Remaining) → Taken rows f c f' → children_work rows (frame_children rows inner) + 1 < child_work rows c
      → IsKept frames f'.rest frames' → total rows inner frames' < total rows f frames
  unfolding total
  total-into f f' inner c frames frames' t light kept = omega (arith, taken-work t, ap (children_work rows) (taken-rest t), light, kept-work frames frames' f'.rest kept)

  -- going on with the last of the stack leaves less work
  pub total-up : (f f1 : Frame) (frames frames' : List Remaining) (r : Remaining) → frame_children rows f ≡ [] → frames ≡ frames' ++ r ∷ [] → f1 ≡ record { first = None; rest = r }
      → total rows f1 frames' < total rows f frames
  unfolding total
  total-up f f1 frames frames' r done popped is =
      omega (arith, ap (children_work rows) done, ap (λ rs. rests_work rows (inward rs)) popped, ap (rests_work rows) (inward-more frames' r), ap (λ x. children_work rows (frame_children rows x)) is)

-- the binders around a break, one by one
pub binders-next : (size : Sizes) (frames frames' : List Remaining) (r : Remaining) → AreBinders size (inward frames) → frames ≡ frames' ++ r ∷ []
    → AreVarsStored size (rest_binder r) × AreBinders size (inward frames')
binders-next size frames frames' r are popped = rw (popped, inward-more frames' r) at are

-- the binders of a stack are left if the innermost one is, and then the binders around it
pub leaves-next : {M B : Type 0} (V : Visits M B) (rows : List Row) (m m1 m2 : M) (frames frames' : List Remaining) (r : Remaining) → frames ≡ frames' ++ r ∷ []
    → VisitorLeaves V rows m (rest_binder r) m1 → StackLeaves V rows m1 (inward frames') m2 → StackLeaves V rows m (inward frames) m2
leaves-next V rows m m1 m2 frames frames' r popped l ls = rw (popped, inward-more frames' r) (m1, l, ls)
