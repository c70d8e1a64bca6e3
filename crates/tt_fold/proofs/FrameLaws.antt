-- Frames among more rows, and the children that are left in them.
use Rattle.std.proofs.Common.{◌≡◌, ℕ, zero, suc, ◌+◌, ◌-◌, ◌^◌, ◌<◌, ◌≤◌, [], ◌∷◌, ◌++◌, length, drop, slice_get, get_or}
use Rattle.std.proofs.Common.{All, Some, refl, ap, sym, ◌∙◌, arith}
use Rattle.std.specs.Prelude.{Bool, true, false, cond, IsTrue}
use Rattle.std.proofs.Common.{List as Listed}
use Rattle.std.proofs.lemmas.Bool.{false≢true}
use Rattle.std.proofs.lemmas.List.{drop_more, length-drop}
use Rattle.std.proofs.Math.ListN.{drop_of_length-le}
use Rattle.std.proofs.lemmas.Option.{slice_get_within, get_or_from_slice_get, same_Some, none-some}
use Rattle.tt_kinds.specs.Label.{Label}
use Rattle.tt_kinds.specs.Tree.{also, none}
use Rattle.tt_kinds.specs.Parts.{child_sort, IsItem}
use Rattle.tt_kinds.specs.TermTable.{has_items, term_table}
use Rattle.tt_kinds.specs.Shape.{append}
use Rattle.tt_kinds.specs.Kinds.{Form, param, bound, plain, under, form_binder, form_parts, kind_form, kind_sort}
use Rattle.tt_kinds.specs.Kinds.{kind_shape, handle_shape, child_shapes, parts_shapes, children_shapes}
use Rattle.tt_kinds.specs.declared.parts.Child.{Child}
use Rattle.tt_kinds.specs.declared.parts.Child.TheVariants as child
use Rattle.tt_kinds.specs.declared.handle.AnyHandle.{AnyHandle}
use Rattle.tt_kinds.specs.declared.parts.Parts.{Parts}
use Rattle.tt_interner.specs.Rows.{Row, Grows}
use Rattle.tt_interner.specs.Children.{children_at}
use Rattle.tt_interner.specs.Nodes.{stored_kind}
use Rattle.tt_interner.proofs.Growth.{IsPart-grows, AreParts-grows, HasParts-grows, fill-grows, fill_all-grows}
use Rattle.tt_interner.proofs.Growth.{children_at-grows, stored_kind-grows}
use Rattle.tt_visit.specs.Frames.{present}
use Rattle.tt_fold.specs.Steps.{IsPartOf}
use Rattle.tt_fold.specs.Parts.{ArePartsOf, HasBinder, child_trees, children_trees, handle_tree, trees_in}
use Rattle.tt_fold.specs.Stack.{joined_trees}
use Rattle.tt_fold.specs.Stack as outline
use Rattle.tt_fold.specs.Going.{form_outline, outline_of, term_parts_at, walked_parts}
use Rattle.tt_fold.specs.Going.{children_in, absent_among, IsMadeOf, last_of}
use Rattle.tt_fold.specs.Going.{IsFoldFrame, FitsList, AreAlike, Holds, left_of, BegunFrame, frames_of, context_of}
use Rattle.tt_fold.specs.Going.{contexts}
use Rattle.tt_fold.specs.Going.{AreBelow, work_all, frame_work, frames_work}
use Rattle.tt_fold.specs.declared.stack.Frame.{Frame}
use Rattle.tt_fold.proofs.PartLaws.{one_tree, no_trees, append_trees, append_parts, right_parts, left_parts}
use Rattle.tt_fold.proofs.PartLaws.{children-append, children-one, in_range, vars-grow}
use Rattle.tt_fold.proofs.FormLaws.{KeepsLabels, form-labels, form-parts, form-binder, item-fits}

-- lists of children
pub last_trees : (rows : Listed Row) (cs : Listed Child) (c : Child) → children_trees rows (cs ++ c ∷ []) ≡ joined_trees (children_trees rows cs) (child_trees rows c)
last_trees rows cs c =
    ap (trees_in rows) (children-append cs (c ∷ []) ∙ ap (append (children_shapes cs)) (children-one c)) ∙ append_trees rows (children_shapes cs) (child_shapes c)

-- if the handles in some children and in one more name rows, so do the handles in all of them together
pub last_parts : (rows : Listed Row) (cs : Listed Child) (c : Child) → ArePartsOf rows (children_shapes cs) → ArePartsOf rows (child_shapes c) → ArePartsOf rows (children_shapes (cs ++ c ∷ []))
last_parts rows cs c h k = rw (children-append cs (c ∷ []), children-one c) (append_parts rows (children_shapes cs) (child_shapes c) h k)

-- a child that may be absent has the same shapes by itself and in a list
present_shapes : (c : Child) → children_shapes (present c) ≡ child_shapes c
present_shapes child.Absent = refl
present_shapes (child.Region r) = refl
present_shapes (child.Stored h) = refl

present_few : (c : Child) → length (present c) ≤ 1
present_few child.Absent = omega arith
present_few (child.Region r) = omega arith
present_few (child.Stored h) = omega arith

-- the shapes of the walked parts of a term, taken as a list of children, are the shapes of its parts
pub walked_shapes : (p : Parts) → children_shapes (walked_parts p) ≡ parts_shapes p
walked_shapes p = ap (append (child_shapes p.first)) (present_shapes p.second)

-- at most two parts of a term are walked
pub walked_few : (p : Parts) → length (walked_parts p) ≤ 2
walked_few p = omega (arith, present_few p.second)

pub drop_parts : (rows : Listed Row) (n : ℕ) (cs : Listed Child) → ArePartsOf rows (children_shapes cs) → ArePartsOf rows (children_shapes (drop n cs))
drop_parts rows zero cs h = h
drop_parts rows (suc n) [] h = h
drop_parts rows (suc n) (c ∷ cs) h = drop_parts rows n cs (right_parts rows (child_shapes c) (children_shapes cs) h)

-- if the handles in some children name rows, so do the handles in the child at each place
pub get_part : (rows : Listed Row) (cs : Listed Child) (n : ℕ) (c : Child) → slice_get cs n ≡ Some c → ArePartsOf rows (children_shapes cs) → ArePartsOf rows (child_shapes c)
get_part rows [] n c e h = absurd (none-some c e)
get_part rows (x ∷ cs) zero c e h = let part = left_parts rows (child_shapes x) (children_shapes cs) h in rw (same_Some x c e) at part
get_part rows (x ∷ cs) (suc n) c e h = get_part rows cs n c e (right_parts rows (child_shapes x) (children_shapes cs) h)

-- the children from a place on are the child at that place and the children after it
pub drop_next : (cs : Listed Child) (n : ℕ) (c : Child) → slice_get cs n ≡ Some c → drop n cs ≡ c ∷ drop (n + 1) cs
drop_next cs n c e = drop_more cs n c (slice_get_within cs n c e) ∙ ap (λ k. k ∷ drop (n + 1) cs) (get_or_from_slice_get cs n c c e)

-- the trees of the children from a place on are the tree of the child there, if any, and the trees after it
pub trees_next : (rows : Listed Row) (cs : Listed Child) (n : ℕ) (c : Child) → slice_get cs n ≡ Some c
    → children_trees rows (drop n cs) ≡ joined_trees (child_trees rows c) (children_trees rows (drop (n + 1) cs))
trees_next rows cs n c e = ap (children_trees rows) (drop_next cs n c e) ∙ append_trees rows (child_shapes c) (children_shapes (drop (n + 1) cs))

-- past the end of the children there are no more trees
pub trees_end : (rows : Listed Row) (cs : Listed Child) (n : ℕ) → length cs ≤ n → children_trees rows (drop n cs) ≡ none
trees_end rows cs n h = ap (children_trees rows) (drop_of_length-le cs h) ∙ no_trees rows

-- values and the children that they came of
pub alike_more : (vs cs : Listed Child) (v c : Child) → AreAlike vs cs → slice_get cs (length vs) ≡ Some c → child_sort v ≡ child_sort c → AreAlike (vs ++ v ∷ []) cs
alike_more [] [] v c h e s = absurd (none-some c e)
alike_more [] (k ∷ cs) v c h e s = (s ∙ ap child_sort (sym (same_Some k c e)), tt)
alike_more (x ∷ vs) [] v c h e s = absurd h
alike_more (x ∷ vs) (k ∷ cs) v c h e s = (h.0, alike_more vs cs v c h.1 e s)

-- there are at most as many values as children that they came of
pub alike_length : (vs cs : Listed Child) → AreAlike vs cs → length vs ≤ length cs
alike_length [] cs h = omega arith
alike_length (v ∷ vs) [] h = absurd h
alike_length (v ∷ vs) (c ∷ cs) h = omega (arith, alike_length vs cs h.1)

-- if a condition on sorts holds of all the children, it holds of the values that came of them
pub alike_all : (P : Child → Type 0) (vs cs : Listed Child) → ((v c : Child) → child_sort v ≡ child_sort c → P c → P v) → AreAlike vs cs → All P cs → All P vs
alike_all P [] cs f h a = λ k d lt. absurd (omega (arith, lt))
alike_all P (v ∷ vs) [] f h a = absurd h
alike_all P (v ∷ vs) (c ∷ cs) f h a = λ k d lt. elim k as (λ j. j < length (v ∷ vs) → P (get_or (v ∷ vs) j d)) [
  | zero ↦ λ l. f v c h.0 (a 0 c (omega arith))
  | suc j ↦ λ l. alike_all P vs cs f h.1 (λ i e lt2. a (suc i) e (omega (arith, lt2))) j d (omega (arith, l))
] lt

-- there are as many last values as are asked for, if there are so many
pub last_count : {n : ℕ} (vs : Listed Child) → n ≤ length vs → length (last_of n vs) ≡ n
last_count {n} vs full = omega (arith, length-drop (length vs - n) vs, full)

-- the children of a list, or the walked parts of a term
abbrev pub children_by : Listed Row → AnyHandle → Bool → Listed Child
children_by rows h b = cond b (children_at rows h) (walked_parts (term_parts_at rows h))

-- how many children a frame has
pub counted : (rows : Listed Row) (h : AnyHandle) (count : ℕ) (b : Bool) → IsMadeOf rows h count b → count ≡ length (children_by rows h b)
counted rows h count true m = m.counted
counted rows h count false m = m.counted

counted-fits : (rows : Listed Row) (h : AnyHandle) (count : ℕ) (b : Bool) → IsMadeOf rows h count b → count < 2 ^ 64
counted-fits rows h count true m = m.fits
counted-fits rows h count false m = omega (arith, m.counted, walked_few (term_parts_at rows h))

-- absent children are few
no_absent : (P : Child → Type 0) (cs : Listed Child) → (P child.Absent → ⊥) → All P cs → absent_among cs ≡ 0
no_absent P [] never a = refl
no_absent P (child.Absent ∷ cs) never a = absurd (never (a 0 child.Absent (omega arith)))
no_absent P (child.Region r ∷ cs) never a = no_absent P cs never (λ i e lt. a (suc i) e (omega (arith, lt)))
no_absent P (child.Stored h ∷ cs) never a = no_absent P cs never (λ i e lt. a (suc i) e (omega (arith, lt)))

absent_length : (cs : Listed Child) → absent_among cs ≤ length cs
absent_length [] = omega arith
absent_length (child.Absent ∷ cs) = omega (arith, absent_length cs)
absent_length (child.Region r ∷ cs) = omega (arith, absent_length cs)
absent_length (child.Stored h ∷ cs) = omega (arith, absent_length cs)

pub few_absent : (rows : Listed Row) (h : AnyHandle) (count : ℕ) (b : Bool) → IsMadeOf rows h count b → absent_among (children_by rows h b) ≤ 2
few_absent rows h count true m = omega (arith, no_absent (λ c. IsItem h.table (child_sort c)) (children_at rows h) (λ bad. bad) m.fit)
few_absent rows h count false m = omega (arith, absent_length (children_by rows h false), walked_few (term_parts_at rows h))

module _ {old new : Listed Row} (g : Grows old new) where
  -- when rows are added, a form whose labels and binder are in range keeps its outline
  pub form_outline-grows : (f : Form (Label ℕ)) → KeepsLabels old new f → HasBinder old (form_binder f) → form_outline new f ≡ form_outline old f
  form_outline-grows (param i name) k b = refl
  form_outline-grows (bound d e) k b = refl
  form_outline-grows (plain l p) k b = ap outline.plain (sym k.same)
  form_outline-grows (under l vars m p) k b = rw (k.0.same, k.1.same, vars-grow g vars b) refl

  outline_by-grows : (h : AnyHandle) (count : ℕ) (b : Bool) → IsMadeOf old h count b
      → cond b (outline.items h.table) (form_outline new (kind_form (stored_kind new h))) ≡ cond b (outline.items h.table) (form_outline old (kind_form (stored_kind old h)))
  outline_by-grows h count true m = refl
  outline_by-grows h count false m =
      let f = kind_form (stored_kind old h) in
      ap (λ k. form_outline new (kind_form k)) (stored_kind-grows old new g h m.in_range)
      ∙ form_outline-grows f (form-labels old new g (kind_sort (stored_kind old h)) f m.named) (form-binder old (kind_sort (stored_kind old h)) f m.named)

  children_by-grows : (h : AnyHandle) (count : ℕ) (b : Bool) → IsMadeOf old h count b → children_by new h b ≡ children_by old h b
  children_by-grows h count true m = children_at-grows old new g h m.in_range
  children_by-grows h count false m =
      ap (λ k. walked_parts (form_parts (kind_form k))) (stored_kind-grows old new g h m.in_range)

  made-grows : (h : AnyHandle) (count : ℕ) (b : Bool) → IsMadeOf old h count b → IsMadeOf new h count b
  made-grows h count true m =
      let same = children_at-grows old new g h m.in_range in
      record {
        in_range = in_range new (term_table h.table) h.number (IsPart-grows old new g (handle_shape h) m.in_range);
        parts = rw same (AreParts-grows old new g (children_shapes (children_at old h)) m.parts);
        fit = rw same m.fit;
        counted = rw same m.counted;
        fits = m.fits;
      }
  made-grows h count false m =
      let same = stored_kind-grows old new g h m.in_range in
      record {
        in_range = in_range new (term_table h.table) h.number (IsPart-grows old new g (handle_shape h) m.in_range);
        table = rw same m.table;
        named = rw same (HasParts-grows old new g (kind_shape (stored_kind old h)) m.named);
        inner = rw same m.inner;
        counted = rw same m.counted;
      }

pub children_by-parts : (rows : Listed Row) (h : AnyHandle) (count : ℕ) (b : Bool) → IsMadeOf rows h count b → ArePartsOf rows (children_shapes (children_by rows h b))
children_by-parts rows h count true m = m.parts
children_by-parts rows h count false m =
    let k = stored_kind rows h in
    rw (walked_shapes (form_parts (kind_form k))) (form-parts rows (kind_sort k) (kind_form k) m.named)

-- the handles in the children of a frame name rows
pub frame-parts : {rows : Listed Row} {f : Frame} → IsFoldFrame rows f → ArePartsOf rows (children_shapes (children_in rows f))
frame-parts {f} h = children_by-parts _ f.handle f.count (has_items f.handle.table) h.made

-- a value of the sort of a frame's child
fits_by : (rows : Listed Row) (h : AnyHandle) (count : ℕ) (b : Bool) (i : ℕ) (c y : Child)
    → IsMadeOf rows h count b → slice_get (children_by rows h b) i ≡ Some c → child_sort y ≡ child_sort c → IsTrue b → IsItem h.table (child_sort y)
fits_by rows h count true i c y m e s is = rw s (item-fits (λ x. IsItem h.table (child_sort x)) (children_at rows h) i c e m.fit)
fits_by rows h count false i c y m e s is = absurd (false≢true is)

-- a value of the sort of a frame's child may be an item of the frame's list, if the frame is a list's
pub frame_fits : {rows : Listed Row} {f : Frame} (i : ℕ) (c y : Child) → IsFoldFrame rows f → slice_get (children_in rows f) i ≡ Some c → child_sort y ≡ child_sort c → FitsList f.handle y
frame_fits {f} i c y h e s = fits_by _ f.handle f.count (has_items f.handle.table) i c y h.made e s

-- the count of a frame is the number of its children
pub frame-count : {rows : Listed Row} {f : Frame} → IsFoldFrame rows f → f.count ≡ length (children_in rows f)
frame-count {f} h = counted _ f.handle f.count (has_items f.handle.table) h.made

-- the count of a frame fits into 64 bits
pub frame-fits : {rows : Listed Row} {f : Frame} → IsFoldFrame rows f → f.count < 2 ^ 64
frame-fits {f} h = counted-fits _ f.handle f.count (has_items f.handle.table) h.made

-- at most two children of a frame are absent
pub frame-absent : {rows : Listed Row} {f : Frame} → IsFoldFrame rows f → absent_among (children_in rows f) ≤ 2
frame-absent {f} h = few_absent _ f.handle f.count (has_items f.handle.table) h.made

module _ {old new : Listed Row} (g : Grows old new) where
  -- when rows are added, a frame's term or list keeps its tree
  pub item_tree-grows : {f : Frame} → IsFoldFrame old f → handle_tree new f.handle ≡ handle_tree old f.handle
  item_tree-grows {f} h = fill-grows old new g (handle_shape f.handle) h.part

  -- when rows are added, a frame's term or list keeps its outline
  pub outline-grows : {f : Frame} → IsFoldFrame old f → outline_of new f.handle ≡ outline_of old f.handle
  outline-grows {f} h = outline_by-grows g f.handle f.count (has_items f.handle.table) h.made

  -- when rows are added, a frame's term or list keeps its children
  pub children-grow : {f : Frame} → IsFoldFrame old f → children_in new f ≡ children_in old f
  children-grow {f} h = children_by-grows g f.handle f.count (has_items f.handle.table) h.made

  -- when rows are added, a frame of the rows is still one
  pub frame-grows : {f : Frame} → IsFoldFrame old f → IsFoldFrame new f
  frame-grows {f} h = record {
    part = IsPart-grows old new g (handle_shape f.handle) h.part;
    tree = rw (item_tree-grows h, outline-grows h, children-grow h, fill_all-grows old new g (children_shapes (children_in old f)) (frame-parts h)) h.tree;
    made = made-grows g f.handle f.count (has_items f.handle.table) h.made;
  }

  -- when rows are added, children in range keep their trees
  pub values-grow : (vs : Listed Child) → ArePartsOf old (children_shapes vs) → children_trees new vs ≡ children_trees old vs
  values-grow vs h = fill_all-grows old new g (children_shapes vs) h

  -- when rows are added, the trees that are left in a frame stay the same
  pub left-grows : {f : Frame} → IsFoldFrame old f → left_of new f ≡ left_of old f
  left-grows {f} h =
      ap (λ cs. children_trees new (drop f.next cs)) (children-grow h)
      ∙ values-grow (drop f.next (children_in old f)) (drop_parts old f.next (children_in old f) (frame-parts h))

  -- when rows are added, values that came of a frame's first children still do
  pub holds-grows : {f : Frame} {vs : Listed Child} → Holds old f vs → Holds new f vs
  holds-grows {f} {vs} h = record {
    frame = frame-grows h.frame;
    owned = AreParts-grows old new g (children_shapes vs) h.owned;
    alike = rw (children-grow h.frame) h.alike;
    wanted = rw (outline-grows h.frame, values-grow vs h.owned) h.wanted;
  }

  -- when rows are added, the frames around a term or a list are still around it
  pub below-grows : (root item : AnyHandle) (ps : Listed BegunFrame) → AreBelow old root item ps → AreBelow new root item ps
  below-grows root item [] h = h
  below-grows root item (p ∷ ps) h = (
    record { holds = holds-grows h.0.holds; counted = h.0.counted; walked = rw (children-grow h.0.holds.frame) h.0.walked },
    below-grows root p.frame.handle ps h.1,
  )

  context-grows : (p : BegunFrame) → Holds old p.frame p.values → context_of new p ≡ context_of old p
  context-grows p h = rw (item_tree-grows h.frame, outline-grows h.frame, values-grow p.values h.owned, left-grows h.frame) refl

  -- when rows are added, the frames around a term or a list keep their contexts
  pub contexts-grow : (root item : AnyHandle) (ps : Listed BegunFrame) → AreBelow old root item ps → contexts new ps ≡ contexts old ps
  contexts-grow root item [] h = refl
  contexts-grow root item (p ∷ ps) h = rw (context-grows p h.0.holds, contexts-grow root p.frame.handle ps h.1) refl

  -- when rows are added, the work that is left in a frame stays the same
  pub frame_work-grows : {f : Frame} → IsFoldFrame old f → frame_work new f ≡ frame_work old f
  frame_work-grows {f} h =
      ap (λ cs. suc (absent_among (drop f.next cs) + work_all (left_of new f))) (children-grow h)
      ∙ ap (λ ts. suc (absent_among (drop f.next (children_in old f)) + work_all ts)) (left-grows h)

-- the work of frames
pub frames_work-append : (rows : Listed Row) (fs : Listed Frame) (f : Frame) → frames_work rows (fs ++ f ∷ []) ≡ frames_work rows fs + frame_work rows f
frames_work-append rows [] f = omega arith
frames_work-append rows (x ∷ fs) f = omega (arith, frames_work-append rows fs f)

-- when rows are added, the work left in the frames around a term or a list stays the same
pub frames_work-grows : {old new : Listed Row} → Grows old new → (root item : AnyHandle) (ps : Listed BegunFrame) → AreBelow old root item ps → frames_work new (frames_of ps) ≡ frames_work old (frames_of ps)
frames_work-grows g root item [] h = refl
frames_work-grows {old} {new} g root item (p ∷ ps) h =
    let a = frames_work-append new (frames_of ps) p.frame in
    let b = frames_work-append old (frames_of ps) p.frame in
    let c = frames_work-grows g root p.frame.handle ps h.1 in
    let d = frame_work-grows g h.0.holds.frame in
    omega (arith, a, b, c, d)
