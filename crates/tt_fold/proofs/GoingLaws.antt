-- The turns of the walk over stored terms.
use Rattle.std.proofs.Common.{◌≡◌, ℕ, zero, suc, ◌+◌, ◌-◌, ◌<◌, ◌≤◌, [], ◌∷◌, ◌++◌, length, take, drop, slice_get}
use Rattle.std.proofs.Common.{Option, Some, None, Ok, Err, refl, ap, sym, subst, ◌∙◌, arith, append_assoc}
use Rattle.std.proofs.Common.{length-append, inl, inr}
use Rattle.std.proofs.Common.{List as Listed}
use Rattle.std.specs.Prelude.{IsSome, Bool, true, false, cond}
use Rattle.std.proofs.lemmas.List.{append-nil}
use Rattle.std.proofs.Math.Seq.{drop-append_seam, take-append_seam}
use Rattle.tt_index.specs.declared.refusal.Refusal.{Refusal}
use Rattle.tt_kinds.specs.Label.{Name, Label, clause_list_label, list_label}
use Rattle.tt_kinds.specs.Tree.{Depth, Tree, also, none, Forest, node, term}
use Rattle.tt_kinds.specs.TermTable.{is_clause_table, term_table}
use Rattle.tt_kinds.specs.declared.table.TermTable.TheVariants as terms_of
use Rattle.tt_kinds.specs.Parts.{a_stored}
use Rattle.tt_kinds.specs.Kinds.{child_shapes, handle_shape, region_shape}
use Rattle.tt_kinds.specs.declared.parts.Child.{Child}
use Rattle.tt_kinds.specs.declared.parts.Child.TheVariants as child
use Rattle.tt_kinds.specs.declared.handle.AnyHandle.{AnyHandle}
use Rattle.tt_interner.specs.Rows.{Row}
use Rattle.tt_interner.specs.Stored.{Terms, Extends}
use Rattle.tt_interner.proofs.Growth.{Extends-refl, Extends-trans, fill-grows}
use Rattle.tt_fold.specs.Walk.{Hooks, HasUnwanted, WalksAll, Fails, done, stopped, here}
use Rattle.tt_fold.specs.Counts.{Standing, stands}
use Rattle.tt_fold.specs.Steps.{Goes, IsPartOf, errors_of}
use Rattle.tt_fold.specs.Parts.{ArePartsOf, child_trees, children_trees, handle_tree, IsChildFor, IsStoredFor}
use Rattle.tt_fold.specs.Stack.{joined_trees, Outline, plain, under, items, whole, wanted_by, Begins, Rebuilds}
use Rattle.tt_fold.specs.Stack.{RebuildFails}
use Rattle.tt_fold.specs.Stack.{Finishes, FinishFails, Rests, RestFails, in_left, in_rebuild, in_finish, not_wanted}
use Rattle.tt_fold.specs.Going.{outline_of, children_in, absent_among, IsFoldFrame, Holds, IsNotKept, IsResult, last_of}
use Rattle.tt_fold.specs.Going.{left_of, BegunFrame, frames_of, values_of, work, work_all, frames_work, total_work}
use Rattle.tt_fold.specs.Going.{IsNewFrame, IsFrameOrResult, HasAdvanced, IsStuck, BeginsStored}
use Rattle.tt_fold.specs.Going.{Going}
use Rattle.tt_fold.specs.declared.stack.Begun.{Begun}
use Rattle.tt_fold.specs.declared.stack.Begun.TheVariants as begun
use Rattle.tt_fold.specs.declared.stack.Frame.{Frame}
use Rattle.tt_fold.proofs.PartLaws.{joined_trees-none, no_trees, no_parts, one_tree, only_part}
use Rattle.tt_fold.proofs.WantedLaws.{none-wanted, joined_trees-wanted, child_unwanted, memory_unbuilt}
use Rattle.tt_fold.proofs.WalkLaws.{FailsAll-before}
use Rattle.tt_fold.proofs.ChildLaws.{stored_for, stored_walks}
use Rattle.tt_fold.proofs.ItemSteps.{begun_list}
use Rattle.tt_fold.proofs.StackLaws.{proceeds_past, proceeds_into, proceeds_up, proceeds_end, proceeds_rests}
use Rattle.tt_fold.proofs.StackLaws.{halts_past, halts_into, halts_up, halts_rests}
use Rattle.tt_fold.proofs.FrameLaws.{last_trees, last_parts, get_part, drop_next}
use Rattle.tt_fold.proofs.FrameLaws.{trees_next, trees_end, alike_more, alike_length, frame-parts, frame_fits}
use Rattle.tt_fold.proofs.FrameLaws.{frame-count, frame-absent, item_tree-grows, outline-grows, children-grow}
use Rattle.tt_fold.proofs.FrameLaws.{frame-grows, values-grow, left-grows, holds-grows, below-grows, contexts-grow}
use Rattle.tt_fold.proofs.FrameLaws.{frame_work-grows, frames_work-append, frames_work-grows}

-- a frame with one more child begun
abbrev pub stepped : Frame → Frame
stepped f = record { handle = f.handle; count = f.count; next = f.next + 1 }

-- a frame with one more child begun is still the frame of its term or list
pub stepped-frame : {rows : Listed Row} {f : Frame} → IsFoldFrame rows f → IsFoldFrame rows (stepped f)
stepped-frame h = record { part = h.part; tree = h.tree; made = h.made }

-- the child that is next
pub next_part : {rows : Listed Row} {f : Frame} (c : Child) → IsFoldFrame rows f → slice_get (children_in rows f) f.next ≡ Some c → ArePartsOf rows (child_shapes c)
next_part {rows} {f} c h is_c = get_part rows (children_in rows f) f.next c is_c (frame-parts h)

-- no frame is there to be taken
abbrev pub no_frame : Option Frame
no_frame = None

-- where no frame could be taken off, there are 0 frames
pub no_frames : (n : ℕ) → (0 < n → IsSome no_frame) → n ≡ 0
no_frames zero f = refl
no_frames (suc n) f = (let never = f (omega arith) in cc)

-- the last frame is the first part's
record Top (below : Listed BegunFrame) (fs : Listed Frame) (f : Frame) : Type 0 where
  part : BegunFrame
  rest : Listed BegunFrame
  below_is : below ≡ part ∷ rest
  frame_is : part.frame ≡ f
  rest_is : frames_of rest ≡ fs

last_same : (xs ys : Listed Frame) (x y : Frame) → xs ++ x ∷ [] ≡ ys ++ y ∷ [] → (xs ≡ ys) × (x ≡ y)
last_same [] [] x y e = (refl, cc)
last_same [] (z ∷ ys) x y e = absurd (omega (arith, ap length e, length-append ys (y ∷ [])))
last_same (z ∷ xs) [] x y e = absurd (omega (arith, ap length e, length-append xs (x ∷ [])))
last_same (z ∷ xs) (w ∷ ys) x y e =
    let tails : xs ++ x ∷ [] ≡ ys ++ y ∷ [] = cc in
    let heads : z ≡ w = cc in
    let h = last_same xs ys x y tails in
    (rw (heads, h.0) refl, h.1)

top_part : (below : Listed BegunFrame) (fs : Listed Frame) (f : Frame) → frames_of below ≡ fs ++ f ∷ [] → Top below fs f
top_part [] fs f e = absurd (omega (arith, ap length e, length-append fs (f ∷ [])))
top_part (p ∷ ps) fs f e =
    let h = last_same (frames_of ps) fs p.frame f e in
    record { part = p; rest = ps; below_is = refl; frame_is = h.1; rest_is = h.0 }

no_below : (below : Listed BegunFrame) → length (frames_of below) ≡ 0 → below ≡ []
no_below [] e = refl
no_below (p ∷ ps) e = absurd (omega (arith, e, length-append (frames_of ps) (p.frame ∷ [])))

-- the work of a child
work_joined : (ts us : Forest Depth) → work_all (joined_trees ts us) ≡ work_all ts + work_all us
work_joined none us = omega arith
work_joined (also t ts) us = omega (arith, work_joined ts us)

absent_next : (c : Child) (cs : Listed Child) → absent_among cs ≤ absent_among (c ∷ cs)
absent_next child.Absent cs = omega arith
absent_next (child.Region r) cs = omega arith
absent_next (child.Stored h) cs = omega arith

-- a child is absent, or has a tree
work_next : (rows : Listed Row) (c : Child) (cs : Listed Child) → absent_among cs + 1 ≤ absent_among (c ∷ cs) + work_all (child_trees rows c)
work_next rows child.Absent cs = omega arith
work_next rows (child.Region r) cs = omega (arith, ap work_all (one_tree rows (region_shape r)))
work_next rows (child.Stored h) cs = omega (arith, ap work_all (one_tree rows (handle_shape h)))

work_items : (b : Bool) (l : Label Name) (ts : Forest Depth) → suc (suc (suc (work_all ts))) ≤ work (cond b (term clause_list_label ts) (node l ts))
work_items true l ts = omega arith
work_items false l ts = omega arith

work_whole : (o : Outline) (ts : Forest Depth) → suc (suc (suc (work_all ts))) ≤ work (whole o ts)
work_whole (plain l) ts = omega arith
work_whole (under l vs m) ts = omega arith
work_whole (items t) ts = work_items (is_clause_table t) (list_label (term_table t)) ts

-- what the walk of the whole promises where it fails
abbrev pub Failed : {M E S : Type 0} (owned : Listed Row → S → Type 0) (means : Listed Row → S → M) (H : Hooks (Standing M) E) (gives : Refusal → E → Type 0)
    (terms0 : Terms) (s0 : S) (first : Frame) → E → Terms → S → Type 0
Failed owned means H gives terms0 s0 first e terms s = Goes owned means
    (λ rows y m m'. IsStoredFor first.handle rows y × Rests H (outline_of terms0.rows first.handle) (left_of terms0.rows first) m (handle_tree rows y) m')
    (RestFails H (errors_of gives terms) (outline_of terms0.rows first.handle) (left_of terms0.rows first))
    terms0 s0 (Err e) terms s

-- what came of the innermost term or list, among the contexts around it
pub record Risen {M E S : Type 0} (owned : Listed Row → S → Type 0) (means : Listed Row → S → M) (H : Hooks (Standing M) E)
    (terms terms1 terms2 : Terms) (s s1 s2 : S) (f f' : Frame) (fs fs' : Listed Frame) (vs : Listed Child) (z y : AnyHandle) : Type 0 where
  pub all : f.count ≤ f.next
  pub popped : fs ≡ fs' ++ f' ∷ []
  pub extends : Extends terms terms1
  pub more : Extends terms1 terms2
  pub is_owned : owned terms2.rows s2
  pub built : Rebuilds H (outline_of terms.rows f.handle) (children_trees terms.rows (last_of f.count vs)) (stands means terms s) (handle_tree terms1.rows z) (stands means terms1 s1)
  pub finished : Finishes H (handle_tree terms1.rows f.handle) (handle_tree terms1.rows z) (stands means terms1 s1) (handle_tree terms2.rows y) (stands means terms2 s2)
  pub is_y : IsStoredFor f.handle terms2.rows y

module _ {M E S : Type 0} {owned : Listed Row → S → Type 0} {means : Listed Row → S → M} {H : Hooks (Standing M) E} {gives : Refusal → E → Type 0}
    {terms0 : Terms} {s0 : S} {first : Frame} where
  -- the walk starts with a frame of which all children are left, an empty stack and no values
  pub going_starts : {fs : Listed Frame} {vs : Listed Child} → owned terms0.rows s0 → IsFoldFrame terms0.rows first → first.next ≡ 0 → fs ≡ [] → vs ≡ []
      → Going owned means H gives terms0 s0 first terms0 s0 first fs vs
  going_starts o is start no_frames no_values = rw (no_frames, no_values) (record {
    below = [];
    results = [];
    frames_are = refl;
    values_are = refl;
    extends = Extends-refl terms0;
    is_owned = o;
    holds = record {
      frame = is;
      owned = no_parts terms0.rows;
      alike = tt;
      wanted = rw (no_trees terms0.rows) (none-wanted _);
    };
    counted = sym start;
    below_are = refl;
    ends = λ u s' p. proceeds_rests (rw (no_trees terms0.rows) at p);
    fails = λ final e s' p. halts_rests (rw (no_trees terms0.rows) at p);
  })

  -- a child came to y
  pub going_past : {terms terms1 : Terms} {s s1 : S} {f : Frame} {fs : Listed Frame} {vs vs' : Listed Child} (c y : Child)
      → Going owned means H gives terms0 s0 first terms s f fs vs → slice_get (children_in terms.rows f) f.next ≡ Some c
      → Extends terms terms1 → owned terms1.rows s1 → IsChildFor c terms1.rows y
      → WalksAll H (stands means terms s) (child_trees terms.rows c) (child_trees terms1.rows y) (stands means terms1 s1)
      → (HasUnwanted (wanted_by (outline_of terms1.rows f.handle)) (child_trees terms1.rows y) → ⊥)
      → vs' ≡ vs ++ y ∷ [] → Going owned means H gives terms0 s0 first terms1 s1 (stepped f) fs vs'
  going_past {terms} {terms1} {f} c y h is_c extends o is_y w fit pushed =
      let g = extends.rows in
      let fr = h.holds.frame in
      let held = holds-grows g h.holds in
      let left = trees_next terms.rows (children_in terms.rows f) f.next c is_c in
      let t_same = item_tree-grows g fr in
      let o_same = outline-grows g fr in
      let more = last_trees terms1.rows h.results y in
      let r_same = values-grow g h.results h.holds.owned in
      let l_same = left-grows g (stepped-frame fr) in
      let c_same = contexts-grow g first.handle f.handle h.below h.below_are in
      let is_c1 = rw (← children-grow g fr, ← h.counted) at is_c in
      let fit1 = rw o_same at fit in
      record {
        below = h.below;
        results = h.results ++ y ∷ [];
        frames_are = h.frames_are;
        values_are = pushed ∙ ap (λ l. l ++ y ∷ []) h.values_are ∙ append_assoc (values_of h.below) h.results (y ∷ []);
        extends = Extends-trans h.extends extends;
        is_owned = o;
        holds = record {
          frame = stepped-frame held.frame;
          owned = last_parts terms1.rows h.results y held.owned is_y.owned;
          alike = alike_more h.results (children_in terms1.rows f) y c held.alike is_c1 is_y.like;
          wanted = rw more (joined_trees-wanted _ _ _ held.wanted fit);
        };
        counted = omega (arith, length-append h.results (y ∷ []), h.counted);
        below_are = below-grows g first.handle f.handle h.below h.below_are;
        ends = λ u s' p. h.ends u s' (rw left (proceeds_past w (rw (more, t_same, r_same, o_same, l_same, c_same) at p)));
        fails = λ final e s' p. h.fails final e s' (rw left (halts_past w fit1 (rw (more, t_same, r_same, o_same, l_same, c_same) at p)));
      }

  -- a child is begun
  pub going_into : {terms terms1 : Terms} {s s1 : S} {f n : Frame} {fs fs' : Listed Frame} {vs : Listed Child} (c : AnyHandle)
      → Going owned means H gives terms0 s0 first terms s f fs vs → slice_get (children_in terms.rows f) f.next ≡ Some (child.Stored c)
      → Extends terms terms1 → owned terms1.rows s1 → IsNewFrame terms1.rows c n
      → Begins H (handle_tree terms.rows c) (outline_of terms1.rows c) (left_of terms1.rows n) (stands means terms s) (stands means terms1 s1)
      → fs' ≡ fs ++ stepped f ∷ [] → Going owned means H gives terms0 s0 first terms1 s1 n fs' vs
  going_into {terms} {terms1} {f} {n} c h is_c extends o opened b pushed =
      let g = extends.rows in
      let fr = h.holds.frame in
      let held = holds-grows g h.holds in
      let part = only_part terms.rows (handle_shape c) (next_part (child.Stored c) fr is_c) in
      let left = trees_next terms.rows (children_in terms.rows f) f.next (child.Stored c) is_c ∙ ap (λ ts. joined_trees ts (left_of terms.rows (stepped f))) (one_tree terms.rows (handle_shape c)) in
      let t_same = item_tree-grows g fr in
      let o_same = outline-grows g fr in
      let r_same = values-grow g h.results h.holds.owned in
      let l_same = left-grows g (stepped-frame fr) in
      let c_same = contexts-grow g first.handle f.handle h.below h.below_are in
      let v_same : handle_tree terms1.rows n.handle ≡ handle_tree terms.rows c = ap (handle_tree terms1.rows) opened.same ∙ fill-grows terms.rows terms1.rows g (handle_shape c) part in
      let n_same : outline_of terms1.rows n.handle ≡ outline_of terms1.rows c = ap (outline_of terms1.rows) opened.same in
      let is_c1 = rw (← children-grow g fr, ← h.counted) at is_c in
      let p : BegunFrame = record { frame = stepped f; values = h.results } in
      record {
        below = p ∷ h.below;
        results = [];
        frames_are = pushed ∙ ap (λ l. l ++ stepped f ∷ []) h.frames_are;
        values_are = h.values_are ∙ sym (append-nil (values_of h.below ++ h.results));
        extends = Extends-trans h.extends extends;
        is_owned = o;
        holds = record { frame = opened.is; owned = no_parts terms1.rows; alike = tt; wanted = rw (no_trees terms1.rows) (none-wanted _) };
        counted = sym opened.start;
        below_are = (
          record {
            holds = record { frame = stepped-frame held.frame; owned = held.owned; alike = held.alike; wanted = held.wanted };
            counted = omega (arith, h.counted);
            walked = rw opened.same is_c1;
          },
          below-grows g first.handle f.handle h.below h.below_are,
        );
        ends = λ u s' q. h.ends u s' (rw left (proceeds_into b (rw (no_trees terms1.rows, v_same, n_same, t_same, r_same, o_same, l_same, c_same) at q)));
        fails = λ final e s' q. h.fails final e s' (rw left (halts_into b (rw (no_trees terms1.rows, v_same, n_same, t_same, r_same, o_same, l_same, c_same) at q)));
      }

  -- a refused growth
  pub going_stops : {terms : Terms} {s : S} {f : Frame} {fs : Listed Frame} {vs : Listed Child} {e : E}
      → Going owned means H gives terms0 s0 first terms s f fs vs → ((u : Tree Depth) → (errors_of gives terms).unbuilt u e) → Failed owned means H gives terms0 s0 first e terms s
  going_stops h b = record { extends = h.extends; is_owned = h.is_owned; outcome = h.fails _ _ _ (in_left (stopped b)) }

  -- a child fails
  pub going_child_fails : {terms terms1 : Terms} {s s1 : S} {f : Frame} {fs : Listed Frame} {vs : Listed Child} {t : Tree Depth} {e : E} (c : Child)
      → Going owned means H gives terms0 s0 first terms s f fs vs → slice_get (children_in terms.rows f) f.next ≡ Some c
      → child_trees terms.rows c ≡ also t none
      → Extends terms terms1 → owned terms1.rows s1 → Fails H (errors_of gives terms1) (stands means terms s) t e (stands means terms1 s1)
      → Failed owned means H gives terms0 s0 first e terms1 s1
  going_child_fails {terms} {f} c h is_c one extends o fails = record {
    extends = Extends-trans h.extends extends;
    is_owned = o;
    outcome = h.fails _ _ _ (rw (trees_next terms.rows (children_in terms.rows f) f.next c is_c, one) (in_left (here fails)));
  }

  -- the result of a child is not kept
  pub going_not_kept : {terms terms1 : Terms} {s s1 : S} {f : Frame} {fs : Listed Frame} {vs : Listed Child} {e : E} {r : Refusal} (c y : Child)
      → Going owned means H gives terms0 s0 first terms s f fs vs → slice_get (children_in terms.rows f) f.next ≡ Some c
      → Extends terms terms1 → owned terms1.rows s1 → IsChildFor c terms1.rows y
      → WalksAll H (stands means terms s) (child_trees terms.rows c) (child_trees terms1.rows y) (stands means terms1 s1)
      → IsNotKept (wanted_by (outline_of terms1.rows f.handle)) (child_trees terms1.rows y) r → gives r e
      → Failed owned means H gives terms0 s0 first e terms1 s1
  going_not_kept {terms} {terms1} {s} {f} {r} c y h is_c extends o is_y w (inl k) gave =
      going_stops (going_past c y h is_c extends o is_y w k.0 refl) (λ u. (r, (gave, memory_unbuilt terms1 u r k.1)))
  going_not_kept {terms} {terms1} {s} {f} {e} {r} c y h is_c extends o is_y w (inr k) gave =
      let bad = rw (outline-grows extends.rows h.holds.frame) at k.0 in
      record {
        extends = Extends-trans h.extends extends;
        is_owned = o;
        outcome = h.fails terms1 _ _ (rw (trees_next terms.rows (children_in terms.rows f) f.next c is_c)
            (in_left (FailsAll-before _ (child_unwanted (wanted_by (outline_of terms.rows f.handle)) terms.rows c w bad (subst (λ x. gives x e) k.1 gave)))));
      }

  -- what was begun is the frame of contents, or a result of the frame
  pub begun_fits : {terms terms1 : Terms} {s s1 : S} {f : Frame} {fs : Listed Frame} {vs : Listed Child} (c : AnyHandle) (b : Begun)
      → Going owned means H gives terms0 s0 first terms s f fs vs → slice_get (children_in terms.rows f) f.next ≡ Some (child.Stored c)
      → BeginsStored owned means H gives c terms s (Ok b) terms1 s1 → IsFrameOrResult terms1.rows (stepped f) b
  begun_fits c (begun.Done y) h is_c d =
      let is_y = d.outcome.0 in
      record { owned = (is_y.owned, tt); fit = frame_fits _ (child.Stored c) (child.Stored y) h.holds.frame is_c (ap a_stored is_y.like) }
  begun_fits c (begun.Inside n) h is_c d = tt

  -- the handle in a stored child that is next names a row
  pub next_stored : {terms : Terms} {s : S} {f : Frame} {fs : Listed Frame} {vs : Listed Child} (c : AnyHandle)
      → Going owned means H gives terms0 s0 first terms s f fs vs → slice_get (children_in terms.rows f) f.next ≡ Some (child.Stored c)
      → IsPartOf terms.rows (handle_shape c)
  next_stored {terms} c h is_c = only_part terms.rows (handle_shape c) (next_part (child.Stored c) h.holds.frame is_c)

  -- a list of types is begun at once, with the frame of its items
  pub begun_types : {terms : Terms} {s : S} {f n : Frame} {fs : Listed Frame} {vs : Listed Child} (c : AnyHandle)
      → Going owned means H gives terms0 s0 first terms s f fs vs → slice_get (children_in terms.rows f) f.next ≡ Some (child.Stored c)
      → c.table ≡ terms_of.TypeLists → IsNewFrame terms.rows c n
      → BeginsStored owned means H gives c terms s (Ok (begun.Inside n)) terms s
  begun_types {n} c h is_c table new =
      begun_list c n (next_stored c h is_c) (rw table refl) (λ hook. (let k = rw table at hook in cc)) h.is_owned new

  -- what came of the child that is next may be one of the frame's results
  pub past_result : {terms : Terms} {rows : Listed Row} {s : S} {f : Frame} {fs : Listed Frame} {vs : Listed Child} (c y : Child)
      → Going owned means H gives terms0 s0 first terms s f fs vs → slice_get (children_in terms.rows f) f.next ≡ Some c
      → IsChildFor c rows y → IsResult rows (stepped f) y
  past_result c y h is_c is_y = record { owned = is_y.owned; fit = frame_fits _ c y h.holds.frame is_c is_y.like }

  -- the walk goes on once a child is begun
  pub going_on : {terms terms1 : Terms} {s s1 : S} {f f' : Frame} {fs fs' : Listed Frame} {vs vs' : Listed Child} (c : AnyHandle) (b : Begun)
      → Going owned means H gives terms0 s0 first terms s f fs vs → slice_get (children_in terms.rows f) f.next ≡ Some (child.Stored c)
      → BeginsStored owned means H gives c terms s (Ok b) terms1 s1
      → HasAdvanced terms1.rows (stepped f) fs vs b f' fs' vs' → Going owned means H gives terms0 s0 first terms1 s1 f' fs' vs'
  going_on {terms} {terms1} c (begun.Done y) h is_c d to =
      rw (to.0, to.1) (going_past (child.Stored c) (child.Stored y) h is_c d.extends d.is_owned (stored_for d.outcome.0) (stored_walks terms.rows terms1.rows c y d.outcome.1) to.3 to.2)
  going_on c (begun.Inside n) h is_c d to = rw (to.0, to.2) (going_into c h is_c d.extends d.is_owned d.outcome.0 d.outcome.1 to.1)

  -- what was begun isn't kept, or its contents can't be next
  pub going_stuck : {terms terms1 : Terms} {s s1 : S} {f : Frame} {fs : Listed Frame} {vs : Listed Child} {e : E} {r : Refusal} (c : AnyHandle) (b : Begun)
      → Going owned means H gives terms0 s0 first terms s f fs vs → slice_get (children_in terms.rows f) f.next ≡ Some (child.Stored c)
      → BeginsStored owned means H gives c terms s (Ok b) terms1 s1
      → IsStuck terms1.rows (stepped f) b r → gives r e → Failed owned means H gives terms0 s0 first e terms1 s1
  going_stuck {terms} {terms1} c (begun.Done y) h is_c d stuck gave =
      going_not_kept (child.Stored c) (child.Stored y) h is_c d.extends d.is_owned (stored_for d.outcome.0) (stored_walks terms.rows terms1.rows c y d.outcome.1) stuck gave
  going_stuck {terms1} {r} c (begun.Inside n) h is_c d stuck gave =
      going_stops (going_into c h is_c d.extends d.is_owned d.outcome.0 d.outcome.1 refl) (λ u. (r, (gave, memory_unbuilt terms1 u r stuck)))

  -- the last values are the results of the innermost frame
  pub last_results : {terms : Terms} {s : S} {f : Frame} {fs : Listed Frame} {vs : Listed Child}
      → (h : Going owned means H gives terms0 s0 first terms s f fs vs) → f.count ≤ f.next → last_of f.count vs ≡ h.results
  last_results {terms} {f} {vs} h all =
      let k : length vs - f.count ≡ length (values_of h.below) =
      omega (arith, all, frame-count h.holds.frame, alike_length h.results (children_in terms.rows f) h.holds.alike, h.counted, ap length h.values_are, length-append (values_of h.below) h.results) in
      ap (λ m. drop m vs) k ∙ ap (drop (length (values_of h.below))) h.values_are ∙ drop-append_seam (values_of h.below) h.results

  pub first_values : {terms : Terms} {s : S} {f : Frame} {fs : Listed Frame} {vs : Listed Child}
      → (h : Going owned means H gives terms0 s0 first terms s f fs vs) → f.count ≤ f.next → take (length vs - f.count) vs ≡ values_of h.below
  first_values {terms} {f} {vs} h all =
      let k : length vs - f.count ≡ length (values_of h.below) =
      omega (arith, all, frame-count h.holds.frame, alike_length h.results (children_in terms.rows f) h.holds.alike, h.counted, ap length h.values_are, length-append (values_of h.below) h.results) in
      ap (λ m. take m vs) k ∙ ap (take (length (values_of h.below))) h.values_are ∙ take-append_seam (values_of h.below) h.results

  -- there are at least as many values as children in a frame whose children were all walked
  pub enough_values : {terms : Terms} {s : S} {f : Frame} {fs : Listed Frame} {vs : Listed Child}
      → (h : Going owned means H gives terms0 s0 first terms s f fs vs) → f.count ≤ f.next → f.count ≤ length vs
  enough_values {terms} {f} {vs} h all =
      omega (arith, all, frame-count h.holds.frame, alike_length h.results (children_in terms.rows f) h.holds.alike, h.counted, ap length h.values_are, length-append (values_of h.below) h.results)

  -- the last values came of the children of a frame whose children were all walked
  pub last_held : {terms : Terms} {s : S} {f : Frame} {fs : Listed Frame} {vs : Listed Child}
      → (h : Going owned means H gives terms0 s0 first terms s f fs vs) → f.count ≤ f.next → Holds terms.rows f (last_of f.count vs)
  last_held h all = rw (last_results h all) h.holds

  none_left : {terms : Terms} {s : S} {f : Frame} {fs : Listed Frame} {vs : Listed Child}
      → (h : Going owned means H gives terms0 s0 first terms s f fs vs) → f.count ≤ f.next → left_of terms.rows f ≡ none
  none_left {terms} {f} h all = trees_end terms.rows (children_in terms.rows f) f.next (omega (arith, all, frame-count h.holds.frame))

  -- the innermost term or list is not built
  pub going_rebuild_fails : {terms terms1 : Terms} {s s1 : S} {f : Frame} {fs : Listed Frame} {vs : Listed Child} {e : E}
      → (h : Going owned means H gives terms0 s0 first terms s f fs vs) → f.count ≤ f.next
      → Extends terms terms1 → owned terms1.rows s1
      → RebuildFails H (errors_of gives terms1) (outline_of terms.rows f.handle) (children_trees terms.rows (last_of f.count vs)) (stands means terms s) e (stands means terms1 s1)
      → Failed owned means H gives terms0 s0 first e terms1 s1
  going_rebuild_fails {terms} {f} {vs} h all extends o fails =
      let k = rw (last_results h all, ← joined_trees-none (children_trees terms.rows h.results)) at fails in
      record { extends = Extends-trans h.extends extends; is_owned = o; outcome = h.fails _ _ _ (rw (none_left h all) (in_rebuild done k)) }

  -- it is the outermost
  pub going_ends : {terms terms1 : Terms} {s s1 : S} {f : Frame} {fs : Listed Frame} {vs : Listed Child} (y : AnyHandle)
      → (h : Going owned means H gives terms0 s0 first terms s f fs vs) → f.count ≤ f.next → length fs ≡ 0
      → Extends terms terms1 → owned terms1.rows s1 → IsStoredFor f.handle terms1.rows y
      → Rebuilds H (outline_of terms.rows f.handle) (children_trees terms.rows (last_of f.count vs)) (stands means terms s) (handle_tree terms1.rows y) (stands means terms1 s1)
      → Goes owned means
      (λ rows z m m'. IsStoredFor first.handle rows z × Rests H (outline_of terms0.rows first.handle) (left_of terms0.rows first) m (handle_tree rows z) m')
      (RestFails H (errors_of gives terms1) (outline_of terms0.rows first.handle) (left_of terms0.rows first))
      terms0 s0 (Ok y) terms1 s1
  going_ends {terms} {terms1} {f} {vs} y h all empty extends o is_y built =
      let k = rw (last_results h all, ← joined_trees-none (children_trees terms.rows h.results)) at built in
      let bottom = no_below h.below (ap length (sym h.frames_are) ∙ empty) in
      let root : f.handle ≡ first.handle = rw bottom at h.below_are in
      record {
        extends = Extends-trans h.extends extends;
        is_owned = o;
        outcome = (subst (λ x. IsStoredFor x terms1.rows y) root is_y, h.ends _ _ (rw (none_left h all, bottom) (proceeds_end k)));
      }

  -- the hook after the innermost term fails
  pub going_finish_fails : {terms terms1 terms2 : Terms} {s s1 s2 : S} {f : Frame} {fs : Listed Frame} {vs : Listed Child} {e : E} (fs' : Listed Frame) (f' : Frame) (z : AnyHandle)
      → (h : Going owned means H gives terms0 s0 first terms s f fs vs) → f.count ≤ f.next → fs ≡ fs' ++ f' ∷ []
      → Extends terms terms1 → Extends terms1 terms2 → owned terms2.rows s2
      → Rebuilds H (outline_of terms.rows f.handle) (children_trees terms.rows (last_of f.count vs)) (stands means terms s) (handle_tree terms1.rows z) (stands means terms1 s1)
      → FinishFails H (errors_of gives terms2) (handle_tree terms1.rows f.handle) (handle_tree terms1.rows z) (stands means terms1 s1) e (stands means terms2 s2)
      → Failed owned means H gives terms0 s0 first e terms2 s2
  going_finish_fails {terms} {terms1} {f} {vs} fs' f' z h all popped extends more o built fails =
      let k = rw (last_results h all, ← joined_trees-none (children_trees terms.rows h.results)) at built in
      let fails1 = rw (item_tree-grows extends.rows h.holds.frame) at fails in
      let top = top_part h.below fs' f' (sym h.frames_are ∙ popped) in
      record {
        extends = Extends-trans h.extends (Extends-trans extends more);
        is_owned = o;
        outcome = h.fails _ _ _ (rw (none_left h all, top.below_is) (in_finish done k fails1));
      }

  -- an innermost term or list that is built and finished goes up to the frame around it
  pub rises : {terms terms1 terms2 : Terms} {s s1 s2 : S} {f f' : Frame} {fs fs' : Listed Frame} {vs : Listed Child} {z y : AnyHandle}
      → Going owned means H gives terms0 s0 first terms s f fs vs → f.count ≤ f.next → fs ≡ fs' ++ f' ∷ [] → Extends terms terms1 → Extends terms1 terms2 → owned terms2.rows s2
      → Rebuilds H (outline_of terms.rows f.handle) (children_trees terms.rows (last_of f.count vs)) (stands means terms s) (handle_tree terms1.rows z) (stands means terms1 s1)
      → Finishes H (handle_tree terms1.rows f.handle) (handle_tree terms1.rows z) (stands means terms1 s1) (handle_tree terms2.rows y) (stands means terms2 s2)
      → IsStoredFor f.handle terms2.rows y
      → Risen owned means H terms terms1 terms2 s s1 s2 f f' fs fs' vs z y
  rises h a b d e o r n i = record { all = a; popped = b; extends = d; more = e; is_owned = o; built = r; finished = n; is_y = i }

  -- the frame around the innermost, among more rows
  pub outer_frame : {terms terms2 : Terms} {s : S} {f : Frame} {fs : Listed Frame} {vs : Listed Child} (fs' : Listed Frame) (f' : Frame)
      → Going owned means H gives terms0 s0 first terms s f fs vs → fs ≡ fs' ++ f' ∷ [] → Extends terms terms2 → IsFoldFrame terms2.rows f'
  outer_frame {terms} {terms2} fs' f' h popped extends =
      let top = top_part h.below fs' f' (sym h.frames_are ∙ popped) in
      let are = rw top.below_is at h.below_are in
      subst (λ x. IsFoldFrame terms2.rows x) top.frame_is (frame-grows extends.rows are.0.holds.frame)

  -- what came of the innermost may be one of its results
  pub outer_result : {terms : Terms} {rows : Listed Row} {s : S} {f : Frame} {fs : Listed Frame} {vs : Listed Child} (fs' : Listed Frame) (f' : Frame) (y : AnyHandle)
      → Going owned means H gives terms0 s0 first terms s f fs vs → fs ≡ fs' ++ f' ∷ [] → IsStoredFor f.handle rows y → IsResult rows f' (child.Stored y)
  outer_result {rows} {f} fs' f' y h popped is_y =
      let top = top_part h.below fs' f' (sym h.frames_are ∙ popped) in
      let are = rw top.below_is at h.below_are in
      subst (λ x. IsResult rows x (child.Stored y)) top.frame_is (record { owned = (is_y.owned, tt); fit = frame_fits _ (child.Stored f.handle) (child.Stored y) are.0.holds.frame are.0.walked (ap a_stored is_y.like) })

  -- the walk goes on with the frame around, which has what came of the innermost as one value more
  pub going_up : {terms terms1 terms2 : Terms} {s s1 s2 : S} {f f' : Frame} {fs fs' : Listed Frame} {vs vs1 vs' : Listed Child} {z y : AnyHandle}
      → (h : Going owned means H gives terms0 s0 first terms s f fs vs) → Risen owned means H terms terms1 terms2 s s1 s2 f f' fs fs' vs z y
      → (HasUnwanted (wanted_by (outline_of terms2.rows f'.handle)) (child_trees terms2.rows (child.Stored y)) → ⊥)
      → vs1 ≡ take (length vs - f.count) vs → vs' ≡ vs1 ++ child.Stored y ∷ []
      → Going owned means H gives terms0 s0 first terms2 s2 f' fs' vs'
  going_up {terms} {terms1} {terms2} {s2} {f} {f'} {fs'} {vs} {vs'} {z} {y} h r fit taken pushed =
      let grows = Extends-trans r.extends r.more in
      let g = grows.rows in
      let fr = h.holds.frame in
      let k = rw (last_results h r.all, ← joined_trees-none (children_trees terms.rows h.results)) at r.built in
      let finished = rw (item_tree-grows r.extends.rows fr) at r.finished in
      let top = top_part h.below fs' f' (sym h.frames_are ∙ r.popped) in
      let p = top.part in
      let ps = top.rest in
      let are = rw top.below_is at h.below_are in
      let held = holds-grows g are.0.holds in
      let pf = are.0.holds.frame in
      let y_tree = one_tree terms2.rows (handle_shape y) in
      let t_same = item_tree-grows g pf in
      let o_same = outline-grows g pf in
      let last_is = last_trees terms2.rows p.values (child.Stored y) in
      let r_same = values-grow g p.values are.0.holds.owned in
      let l_same = left-grows g pf in
      let c_same = contexts-grow g first.handle p.frame.handle ps are.1 in
      let fit0 : HasUnwanted (wanted_by (outline_of terms2.rows p.frame.handle)) (child_trees terms2.rows (child.Stored y)) → ⊥ =
      subst (λ x. HasUnwanted (wanted_by (outline_of terms2.rows x.handle)) (child_trees terms2.rows (child.Stored y)) → ⊥) (sym top.frame_is) fit in
      let fit1 = rw (o_same, y_tree) at fit0 in
      let walked = rw (← children-grow g pf) at are.0.walked in
      subst (λ x. Going owned means H gives terms0 s0 first terms2 s2 x fs' vs') top.frame_is
      (record {
        below = ps;
        results = p.values ++ child.Stored y ∷ [];
        frames_are = sym top.rest_is;
        values_are = pushed ∙ ap (λ l. l ++ child.Stored y ∷ []) (taken ∙ first_values h r.all ∙ ap values_of top.below_is) ∙ append_assoc (values_of ps) p.values (child.Stored y ∷ []);
        extends = Extends-trans h.extends grows;
        is_owned = r.is_owned;
        holds = record {
          frame = held.frame;
          owned = last_parts terms2.rows p.values (child.Stored y) held.owned (r.is_y.owned, tt);
          alike = alike_more p.values (children_in terms2.rows p.frame) (child.Stored y) (child.Stored f.handle) held.alike walked (ap a_stored r.is_y.like);
          wanted = rw last_is (joined_trees-wanted _ _ _ held.wanted fit0);
        };
        counted = omega (arith, length-append p.values (child.Stored y ∷ []), are.0.counted);
        below_are = below-grows g first.handle p.frame.handle ps are.1;
        ends = λ u s' q. h.ends u s' (rw (none_left h r.all, top.below_is) (proceeds_up k finished (rw (last_is, y_tree, t_same, r_same, o_same, l_same, c_same) at q)));
        fails = λ final e s' q. h.fails final e s' (rw (none_left h r.all, top.below_is) (halts_up k finished fit1 (rw (last_is, y_tree, t_same, r_same, o_same, l_same, c_same) at q)));
      })

  -- its result is not kept
  pub going_up_not_kept : {terms terms1 terms2 : Terms} {s s1 s2 : S} {f f' : Frame} {fs fs' : Listed Frame} {vs vs1 : Listed Child} {z y : AnyHandle} {e : E} {r : Refusal}
      → (h : Going owned means H gives terms0 s0 first terms s f fs vs) → Risen owned means H terms terms1 terms2 s s1 s2 f f' fs fs' vs z y
      → vs1 ≡ take (length vs - f.count) vs
      → IsNotKept (wanted_by (outline_of terms2.rows f'.handle)) (child_trees terms2.rows (child.Stored y)) r → gives r e
      → Failed owned means H gives terms0 s0 first e terms2 s2
  going_up_not_kept {terms2} {r} h u taken (inl k) gave =
      going_stops (going_up h u k.0 taken refl) (λ t. (r, (gave, memory_unbuilt terms2 t r k.1)))
  going_up_not_kept {terms} {terms1} {terms2} {f} {f'} {fs'} {y} {e} h u taken (inr k) gave =
      let grows = Extends-trans u.extends u.more in
      let fr = h.holds.frame in
      let b = rw (last_results h u.all, ← joined_trees-none (children_trees terms.rows h.results)) at u.built in
      let finished = rw (item_tree-grows u.extends.rows fr) at u.finished in
      let top = top_part h.below fs' f' (sym h.frames_are ∙ u.popped) in
      let are = rw top.below_is at h.below_are in
      let y_tree = one_tree terms2.rows (handle_shape y) in
      let bad0 = subst (λ x. HasUnwanted (wanted_by (outline_of terms2.rows x.handle)) (child_trees terms2.rows (child.Stored y))) (sym top.frame_is) k.0 in
      let bad = rw (outline-grows grows.rows are.0.holds.frame, y_tree) at bad0 in
      record {
        extends = Extends-trans h.extends grows;
        is_owned = u.is_owned;
        outcome = h.fails _ _ _ (rw (none_left h u.all, top.below_is) (not_wanted done b finished bad (subst (λ x. gives x e) k.1 gave)));
      }

  -- the work falls
  work_same : {terms terms1 : Terms} {s : S} {f : Frame} {fs : Listed Frame} {vs : Listed Child}
      → (h : Going owned means H gives terms0 s0 first terms s f fs vs) → Extends terms terms1 → frames_work terms1.rows fs ≡ frames_work terms.rows fs
  work_same {f} h extends = rw h.frames_are (frames_work-grows extends.rows first.handle f.handle h.below h.below_are)

  -- a child that came to another leaves less work
  pub total_past : {terms terms1 : Terms} {s : S} {f : Frame} {fs : Listed Frame} {vs : Listed Child} (c : Child)
      → Going owned means H gives terms0 s0 first terms s f fs vs → slice_get (children_in terms.rows f) f.next ≡ Some c
      → Extends terms terms1 → total_work terms1.rows (stepped f) fs < total_work terms.rows f fs
  total_past {terms} {terms1} {f} {fs} c h is_c extends =
      let cs = children_in terms.rows f in
      let a = frame_work-grows extends.rows (stepped-frame h.holds.frame) in
      let b = ap absent_among (drop_next cs f.next c is_c) in
      let d = ap work_all (trees_next terms.rows cs f.next c is_c) ∙ work_joined (child_trees terms.rows c) (left_of terms.rows (stepped f)) in
      let w = work_next terms.rows c (drop (f.next + 1) cs) in
      omega (arith, a, b, d, w, work_same h extends)

  -- going into a child leaves less work
  pub total_into : {terms terms1 : Terms} {s s1 : S} {f n : Frame} {fs fs' : Listed Frame} {vs : Listed Child} (c : AnyHandle)
      → Going owned means H gives terms0 s0 first terms s f fs vs → slice_get (children_in terms.rows f) f.next ≡ Some (child.Stored c)
      → Extends terms terms1 → IsNewFrame terms1.rows c n
      → Begins H (handle_tree terms.rows c) (outline_of terms1.rows c) (left_of terms1.rows n) (stands means terms s) (stands means terms1 s1)
      → fs' ≡ fs ++ stepped f ∷ [] → total_work terms1.rows n fs' < total_work terms.rows f fs
  total_into {terms} {terms1} {f} {n} {fs} {fs'} c h is_c extends opened begins pushed =
      let cs = children_in terms.rows f in
      let a = frame_work-grows extends.rows (stepped-frame h.holds.frame) in
      let x = child.Stored c in
      let b = ap absent_among (drop_next cs f.next x is_c) in
      let d = ap work_all (trees_next terms.rows cs f.next x is_c) ∙ work_joined (child_trees terms.rows x) (left_of terms.rows (stepped f)) in
      let v = ap work_all (one_tree terms.rows (handle_shape c)) in
      let w = work_whole (outline_of terms1.rows c) (left_of terms1.rows n) in
      let t = ap work begins.is_whole in
      let few : absent_among (drop n.next (children_in terms1.rows n)) ≤ 2 = rw opened.start (frame-absent opened.is) in
      let p = ap (frames_work terms1.rows) pushed ∙ frames_work-append terms1.rows fs (stepped f) in
      let n_next = absent_next x (drop (f.next + 1) cs) in
      omega (arith, a, b, d, v, w, t, few, p, n_next, work_same h extends)

  -- less work is left once a child is begun
  pub total_on : {terms terms1 : Terms} {s s1 : S} {f : Frame} {fs : Listed Frame} {vs : Listed Child} (f' : Frame) (fs' : Listed Frame) (vs' : Listed Child) (c : AnyHandle) (b : Begun)
      → Going owned means H gives terms0 s0 first terms s f fs vs → slice_get (children_in terms.rows f) f.next ≡ Some (child.Stored c)
      → BeginsStored owned means H gives c terms s (Ok b) terms1 s1
      → HasAdvanced terms1.rows (stepped f) fs vs b f' fs' vs' → total_work terms1.rows f' fs' < total_work terms.rows f fs
  total_on f' fs' vs' c (begun.Done y) h is_c d to = rw (to.0, to.1) (total_past (child.Stored c) h is_c d.extends)
  total_on f' fs' vs' c (begun.Inside n) h is_c d to = rw to.0 (total_into c h is_c d.extends d.outcome.0 d.outcome.1 to.1)

  -- going on with the frame around leaves less work
  pub total_up : {terms terms1 : Terms} {s : S} {f : Frame} {fs : Listed Frame} {vs : Listed Child} (fs' : Listed Frame) (f' : Frame)
      → Going owned means H gives terms0 s0 first terms s f fs vs → fs ≡ fs' ++ f' ∷ [] → Extends terms terms1
      → total_work terms1.rows f' fs' < total_work terms.rows f fs
  total_up {terms} {terms1} {fs} fs' f' h popped extends =
      let p = ap (frames_work terms1.rows) popped ∙ frames_work-append terms1.rows fs' f' in
      omega (arith, p, work_same h extends)
