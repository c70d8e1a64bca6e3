-- Pieces of a text: what is added, and what is left.
use Rattle.std.proofs.Common.{◌≡◌, ℕ, suc, ◌+◌, ◌<◌, ◌≤◌, ◌==◌, Bool, true, false, List, [], ◌∷◌, ◌++◌, Ok, Err, Result}
use Rattle.std.proofs.Common.{OnOk, length, drop, refl, ap, sym, ◌∙◌, append_assoc, arith}
use Rattle.std.specs.Prelude.{Some, None, Option, IsSome, cond, slice_get}
use Rattle.std.proofs.lemmas.Grind.{common_steps}
use Rattle.std.proofs.lemmas.List.{append-nil}
use Rattle.tt_kinds.specs.Label.{Name, Sort, Label, clause_list_label, list_label}
use Rattle.tt_kinds.specs.Tree.{Depth, Tree, Forest, count_trees, node, term}
use Rattle.tt_kinds.specs.Shape.{Shapes, Meaning, AreParts, fill, fill_all, append}
use Rattle.tt_kinds.specs.Kinds.{items_label, Form, param, bound, plain, under, form_parts, form_shape, kind_form}
use Rattle.tt_kinds.specs.Kinds.{kind_sort, kind_shape, child_shapes, children_shapes, parts_shapes, items_tree}
use Rattle.tt_kinds.specs.declared.parts.Child.{Child}
use Rattle.tt_kinds.specs.declared.parts.Child.TheVariants as child
use Rattle.tt_kinds.specs.declared.parts.Parts.{Parts}
use Rattle.tt_kinds.specs.declared.parts.Kind.{Kind}
use Rattle.tt_kinds.specs.TermTable.{is_clause_table, term_table}
use Rattle.tt_kinds.specs.declared.table.TermTable.{TermTable}
use Rattle.tt_interner.specs.Rows.{Row, size, meaning}
use Rattle.tt_print.specs.declared.ir_print.layout.Style.{Style}
use Rattle.tt_print.specs.declared.ir_print.layout.Place.TheVariants as place
use Rattle.tt_print.specs.declared.ir_print.pieces.Piece.{Piece}
use Rattle.tt_print.specs.Text.{style_in, are_none, before_child, closing, names, text_in, texts, child_text}
use Rattle.tt_print.specs.Text.{BeginsText, Writes}
use Rattle.tt_print.specs.Pieces.{inner_work, forest_pieces, inner_child_work, piece_text, pieces_text, pieces_work}
use Rattle.tt_print.specs.Pieces.{ArePieces, AddsPieces, Opened, OpensText, Left}
use Rattle.tt_print.proofs.PrintSteps.{begins-same, begins-more, writes-end}
use Rattle.tt_print.proofs.PrintLaws.{list-written}
use Rattle.tt_print.proofs.PrintParts.{AreItems, parts-written, count-items, item-then, drop-from}

-- no piece was left
abbrev no_piece : Option Piece
no_piece = None

module _ (rows : List Row) where
  abbrev work_of : Piece → ℕ
  work_of p = suc (inner_child_work (fill_all (meaning rows) (child_shapes p.child)))

  text-pushed : (ps : List Piece) (p : Piece) → pieces_text rows (ps ++ p ∷ []) ≡ piece_text rows p ++ pieces_text rows ps
  text-pushed [] p = sym (append-nil (piece_text rows p))
  text-pushed (q ∷ ps) p = ap (λ w. w ++ piece_text rows q) (text-pushed ps p) ∙ append_assoc (piece_text rows p) (pieces_text rows ps) (piece_text rows q)

  work-pushed : (ps : List Piece) (p : Piece) → pieces_work rows (ps ++ p ∷ []) ≡ work_of p + pieces_work rows ps
  work-pushed [] p = omega arith
  work-pushed (q ∷ ps) p = let before = work-pushed ps p in omega arith

  parts-pushed : (ps : List Piece) (p : Piece) → AreParts (size rows) (child_shapes p.child) → ArePieces rows ps → ArePieces rows (ps ++ p ∷ [])
  parts-pushed [] p h all = (tt, h)
  parts-pushed (q ∷ ps) p h all = (parts-pushed ps p h all.0, all.1)

  pub parts-popped : (ps : List Piece) (p : Piece) → ArePieces rows (ps ++ p ∷ []) → ArePieces rows ps × AreParts (size rows) (child_shapes p.child)
  parts-popped [] p all = (tt, all.1)
  parts-popped (q ∷ ps) p all = let rest = parts-popped ps p all.0 in ((rest.0, all.1), rest.1)

  -- a piece was added
  pushed : (old new : List Piece) (p : Piece) → new ≡ old ++ p ∷ [] → AreParts (size rows) (child_shapes p.child) → AddsPieces rows old new (piece_text rows p) (work_of p)
  pushed old new p is h = rw is (record { text = text-pushed old p; low = (let same = work-pushed old p in omega arith); parts = parts-pushed old p h })

  -- the same text, written another way, and as much work or more
  pub adds-as : (old new : List Piece) (x y : List ℕ) (m n : ℕ) → x ≡ y → m ≤ n → AddsPieces rows old new x m → AddsPieces rows old new y n
  adds-as old new x y m n same more h = record { text = h.text ∙ ap (λ w. w ++ pieces_text rows old) same; low = (let low = h.low in omega arith); parts = h.parts }

  -- nothing was added
  pub adds-nothing : (old : List Piece) → AddsPieces rows old old [] 0
  adds-nothing old = record { text = refl; low = omega arith; parts = λ h. h }

  -- pieces were added, and then others on top
  pub adds-then : (a b c : List Piece) (x y : List ℕ) (m n : ℕ) → AddsPieces rows a b x m → AddsPieces rows b c y n → AddsPieces rows a c (y ++ x) (n + m)
  adds-then a b c x y m n h k = record {
    text = k.text ∙ ap (λ w. y ++ w) h.text ∙ sym (append_assoc y x (pieces_text rows a));
    low = (let low = h.low in let then = k.low in omega arith);
    parts = λ all. k.parts (h.parts all);
  }

  -- the text after so many children was added
  pub adds-end : (old room new : List Piece) (s : Style) (n : ℕ) → room ≡ old → new ≡ room ++ record { style = s; place = place.After n; child = child.Absent } ∷ []
      → AddsPieces rows old new (closing (names rows) s n) 1
  unfolding fill_all
  adds-end old room new s n same is =
      let piece : Piece = record { style = s; place = place.After n; child = child.Absent } in
      adds-as old new _ _ _ _ (append-nil (closing (names rows) s n)) (omega arith) (pushed old new piece (is ∙ ap (λ ps. ps ++ piece ∷ []) same) tt)

  -- a child was added
  pub adds-child : (old room new : List Piece) (s : Style) (c : Child) (count : ℕ) (last : Bool) → are_none (fill_all (meaning rows) (child_shapes c)) ≡ false
      → room ≡ old → new ≡ room ++ record { style = s; place = place.Before count last; child = c } ∷ [] → AreParts (size rows) (child_shapes c)
      → AddsPieces rows old new (child_text (names rows) (before_child (names rows) s count last) s (fill_all (meaning rows) (child_shapes c))) (forest_pieces (fill_all (meaning rows) (child_shapes c)))
  unfolding fill_all
  adds-child old room new s child.Absent count last there same is h = let never = there in cc
  adds-child old room new s (child.Region r) count last there same is h =
      let piece : Piece = record { style = s; place = place.Before count last; child = child.Region r } in
      adds-as old new _ _ _ _ refl (omega arith) (pushed old new piece (is ∙ ap (λ ps. ps ++ piece ∷ []) same) h)
  adds-child old room new s (child.Stored n) count last there same is h =
      let piece : Piece = record { style = s; place = place.Before count last; child = child.Stored n } in
      adds-as old new _ _ _ _ refl (omega arith) (pushed old new piece (is ∙ ap (λ ps. ps ++ piece ∷ []) same) h)

  -- an absent child has no text
  pub adds-absent : (old : List Piece) (s : Style) (c : Child) (first : List ℕ) → are_none (fill_all (meaning rows) (child_shapes c)) ≡ true
      → AddsPieces rows old old (child_text (names rows) first s (fill_all (meaning rows) (child_shapes c))) (forest_pieces (fill_all (meaning rows) (child_shapes c)))
  unfolding fill_all
  adds-absent old s child.Absent first none = adds-nothing old
  adds-absent old s (child.Region r) first none = let never = none in cc
  adds-absent old s (child.Stored n) first none = let never = none in cc

  -- a text was begun by adding pieces alone
  pub opens-added : {T E : Type 0} (r : Result T E) (a : List ℕ) (old new : List Piece) (whole : List ℕ) (work : ℕ) → OnOk r (AddsPieces rows old new whole work) → OpensText rows r a a old new whole work
  opens-added (Ok x) a old new whole work h = record { opened = record { text = ap (λ w. a ++ w) h.text; low = h.low; parts = h.parts }; kept = begins-same a }
  opens-added (Err e) a old new whole work h = record { opened = tt; kept = begins-same a }

  -- a text was written, or refused, and no piece was added
  pub opens-written : {T E : Type 0} (r : Result T E) (a b : List ℕ) (old : List Piece) (whole : List ℕ) → Writes r a b whole → OpensText rows r a b old old whole 0
  opens-written (Ok x) a b old whole h = record {
    opened = record { text = ap (λ w. w ++ pieces_text rows old) h.written ∙ append_assoc a whole (pieces_text rows old); low = omega arith; parts = λ all. all };
    kept = h.kept;
  }
  opens-written (Err e) a b old whole h = record { opened = tt; kept = h.kept }

  -- a text was written, and a later one was begun
  pub opens-then : {T U E : Type 0} (x : T) (r : Result U E) (a b c : List ℕ) (old new : List Piece) (first rest : List ℕ) (work : ℕ) → Writes {T = T} {E = E} (Ok x) a b first
      → OpensText rows r b c old new rest work → OpensText rows r a c old new (first ++ rest) work
  opens-then x (Ok y) a b c old new first rest work h k = record {
    opened = record {
      text = k.opened.text ∙ ap (λ w. w ++ (rest ++ pieces_text rows old)) h.written ∙ append_assoc a first (rest ++ pieces_text rows old)
          ∙ ap (λ w. a ++ w) (sym (append_assoc first rest (pieces_text rows old)));
      low = k.opened.low;
      parts = k.opened.parts;
    };
    kept = begins-more a b c h.kept k.kept;
  }
  opens-then x (Err e) a b c old new first rest work h k = record { opened = tt; kept = begins-more a b c h.kept k.kept }

  -- the same text, written another way, and as much work or more
  pub opens-as : {T E : Type 0} (r : Result T E) (a b : List ℕ) (old new : List Piece) (x y : List ℕ) (m n : ℕ) → x ≡ y → m ≤ n → OpensText rows r a b old new x m → OpensText rows r a b old new y n
  opens-as (Ok z) a b old new x y m n same more h = record {
    opened = record {
      text = h.opened.text ∙ ap (λ w. a ++ (w ++ pieces_text rows old)) same;
      low = (let low = h.opened.low in omega arith);
      parts = h.opened.parts;
    };
    kept = h.kept;
  }
  opens-as (Err e) a b old new x y m n same more h = record { opened = tt; kept = h.kept }

  -- at the start nothing is written, and all is left
  pub left-starts : (a : List ℕ) (none ps : List Piece) (whole : List ℕ) (work : ℕ) → none ≡ [] → AddsPieces rows none ps whole work → Left rows a a ps whole
  left-starts a none ps whole work is h =
      let k = rw is at h in
      record { text = ap (λ w. a ++ w) (k.text ∙ append-nil whole); kept = begins-same a; parts = k.parts tt }

  -- a text was begun where nothing was left, and the rest of it is left
  pub left-begun : (a b : List ℕ) (none ps : List Piece) (whole : List ℕ) (work : ℕ) → none ≡ [] → Opened rows a b none ps whole work → BeginsText a b → Left rows a b ps whole
  left-begun a b none ps whole work is h kept =
      let k = rw is at h in
      record { text = k.text ∙ ap (λ w. a ++ w) (append-nil whole); kept = kept; parts = k.parts tt }

  -- all is left
  pub left-all : (a : List ℕ) (ps : List Piece) → ArePieces rows ps → Left rows a a ps (pieces_text rows ps)
  left-all a ps parts = record { text = refl; kept = begins-same a; parts = parts }

  -- what was left was written
  pub left-written : {T E : Type 0} (r : Result T E) (a b c : List ℕ) (ps : List Piece) (whole : List ℕ) → Left rows a b ps whole → Writes r b c (pieces_text rows ps) → Writes r a c whole
  left-written r a b c ps whole h k = writes-end r a b c (pieces_text rows ps) whole h.text h.kept k

  -- the next piece was taken and begun
  pub left-goes-on : (a b c : List ℕ) (ps rest new : List Piece) (p : Piece) (whole : List ℕ) (work : ℕ) → Left rows a b ps whole → ps ≡ rest ++ p ∷ []
      → Opened rows b c rest new (piece_text rows p) work → BeginsText b c → Left rows a c new whole
  left-goes-on a b c ps rest new p whole work h is k more = record {
    text = k.text ∙ ap (λ w. b ++ w) (sym (text-pushed rest p) ∙ ap (pieces_text rows) (sym is)) ∙ h.text;
    kept = begins-more a b c h.kept more;
    parts = k.parts (parts-popped rest p (rw is at h.parts)).0;
  }

  -- the handles in the next piece are in range
  pub left-piece : (a b : List ℕ) (ps rest : List Piece) (p : Piece) (whole : List ℕ) → Left rows a b ps whole → ps ≡ rest ++ p ∷ [] → AreParts (size rows) (child_shapes p.child)
  left-piece a b ps rest p whole h is = (parts-popped rest p (rw is at h.parts)).1

  -- less is left after a piece was begun
  pub left-smaller : (b c : List ℕ) (ps rest new : List Piece) (p : Piece) (whole : List ℕ) → ps ≡ rest ++ p ∷ []
      → Opened rows b c rest new whole (inner_child_work (fill_all (meaning rows) (child_shapes p.child))) → pieces_work rows new < pieces_work rows ps
  left-smaller b c ps rest new p whole is k =
      let before : pieces_work rows ps ≡ suc (inner_child_work (fill_all (meaning rows) (child_shapes p.child))) + pieces_work rows rest = ap (pieces_work rows) is ∙ work-pushed rest p in
      let low = k.low in
      omega arith

  -- all is written
  pub left-ends : {T E : Type 0} (x : T) (a b : List ℕ) (ps : List Piece) (whole : List ℕ) → Left rows a b ps whole → (0 < length ps → IsSome no_piece) → Writes {T = T} {E = E} (Ok x) a b whole
  left-ends x a b [] whole h none = record { written = sym (append-nil b) ∙ h.text; kept = h.kept }
  left-ends x a b (p ∷ ps) whole h none = absurd (let never = none (omega arith) in cc)

module _ (f : Meaning) where
  -- the work of a child, and then of others
  pub work-append : (c : Child) (us : Shapes) → forest_pieces (fill_all f (append (child_shapes c) us)) ≡ forest_pieces (fill_all f (child_shapes c)) + forest_pieces (fill_all f us)
  unfolding fill_all
  work-append child.Absent us = omega arith
  work-append (child.Region r) us = omega arith
  work-append (child.Stored n) us = omega arith

  work-form : (s : Sort) (x : Form (Label ℕ)) → suc (forest_pieces (fill_all f (parts_shapes (form_parts x)))) ≤ inner_work (fill f (form_shape s x))
  unfolding fill fill_all
  work-form s (param i name) = omega arith
  work-form s (bound d e) = omega arith
  work-form s (plain l p) = omega arith
  work-form s (under l vars m p) = omega arith

  -- the work of a kind's parts, and of the text after them
  pub work-kind : (k : Kind) → suc (forest_pieces (fill_all f (parts_shapes (form_parts (kind_form k))))) ≤ inner_work (fill f (kind_shape k))
  work-kind k = work-form (kind_sort k) (kind_form k)

-- the work of a list's items, and of the text after them
pub work-list : (o : TermTable) (ts : Forest Depth) → suc (forest_pieces ts) ≡ inner_work (items_tree o ts)
work-list o ts = by (is_clause_table o)
  where
    by : (b : Bool) → suc (forest_pieces ts) ≡ inner_work (cond b (term clause_list_label ts) (node (list_label (term_table o)) ts))
    by true = refl
    by false = refl

module _ (rows : List Row) (s : Style) where
  -- both parts were added, after the text after them
  pub adds-parts : {E : Type 0} (r : Result Unit E) (a b c d : List Piece) (p : Parts) (n before : ℕ) (no_second : Bool) → n ≡ count_trees (fill_all (meaning rows) (parts_shapes p))
      → before ≡ count_trees (fill_all (meaning rows) (child_shapes p.first)) → no_second ≡ are_none (fill_all (meaning rows) (child_shapes p.second)) → AddsPieces rows a b (closing (names rows) s n) 1
      → AddsPieces rows b c (child_text (names rows) (before_child (names rows) s before true) s (fill_all (meaning rows) (child_shapes p.second))) (forest_pieces (fill_all (meaning rows) (child_shapes p.second)))
      → OnOk r (AddsPieces rows c d (child_text (names rows) (before_child (names rows) s 0 no_second) s (fill_all (meaning rows) (child_shapes p.first))) (forest_pieces (fill_all (meaning rows) (child_shapes p.first))))
      → OnOk r (AddsPieces rows a d (texts (names rows) s 0 (fill_all (meaning rows) (parts_shapes p)) ++ closing (names rows) s (count_trees (fill_all (meaning rows) (parts_shapes p))))
      (suc (forest_pieces (fill_all (meaning rows) (parts_shapes p)))))
  adds-parts (Ok y) a b c d p n before no_second count is_first is_second h k l =
      let all = adds-then rows a c d _ _ _ _ (adds-then rows a b c _ _ _ _ h k) l in
      let first = child_text (names rows) (before_child (names rows) s 0 no_second) s (fill_all (meaning rows) (child_shapes p.first)) in
      let second = child_text (names rows) (before_child (names rows) s before true) s (fill_all (meaning rows) (child_shapes p.second)) in
      adds-as rows a d _ _ _ _
      (sym (append_assoc first second (closing (names rows) s n)) ∙ ap (λ w. w ++ closing (names rows) s n) (parts-written (names rows) (meaning rows) s p _ _ _ _ is_second refl is_first refl)
      ∙ ap (λ m. texts (names rows) s 0 (fill_all (meaning rows) (parts_shapes p)) ++ closing (names rows) s m) count)
      (let work = work-append (meaning rows) p.first (child_shapes p.second) in omega arith) all
  adds-parts (Err e) a b c d p n before no_second count is_first is_second h k l = tt

  -- no item was added yet
  pub adds-no-item : (list : List Child) (count : ℕ) (old new : List Piece) → count ≡ length list → AddsPieces rows old new (closing (names rows) s count) 1
      → AddsPieces rows old new (texts (names rows) s count (fill_all (meaning rows) (children_shapes (drop count list))) ++ closing (names rows) s count)
      (suc (forest_pieces (fill_all (meaning rows) (children_shapes (drop count list)))))
  unfolding fill_all
  adds-no-item list count old new of_count h =
      let ended : drop count list ≡ [] = grind (arith, common_steps) in
      rw ended h

  -- an item was added in front of the later ones
  pub adds-item : (o : TermTable) (list : List Child) (n i count : ℕ) (x : Child) (a b c : List Piece) → i ≡ n + 1 → slice_get list n ≡ Some x → AreItems (meaning rows) o list
      → count ≡ length list
      → AddsPieces rows a b (texts (names rows) s i (fill_all (meaning rows) (children_shapes (drop i list))) ++ closing (names rows) s count) (suc (forest_pieces (fill_all (meaning rows) (children_shapes (drop i list)))))
      → AddsPieces rows b c (child_text (names rows) (before_child (names rows) s n (n + 1 == count)) s (fill_all (meaning rows) (child_shapes x))) (forest_pieces (fill_all (meaning rows) (child_shapes x)))
      → AddsPieces rows a c (texts (names rows) s n (fill_all (meaning rows) (children_shapes (drop n list))) ++ closing (names rows) s count) (suc (forest_pieces (fill_all (meaning rows) (children_shapes (drop n list)))))
  adds-item o list n i count x a b c of_i here are of_count h k =
      let before = rw of_i at h in
      let now = rw of_count at k in
      let item = child_text (names rows) (before_child (names rows) s n (n + 1 == length list)) s (fill_all (meaning rows) (child_shapes x)) in
      let rest = texts (names rows) s (n + 1) (fill_all (meaning rows) (children_shapes (drop (n + 1) list))) in
      let work = work-append (meaning rows) x (children_shapes (drop (n + 1) list)) in
      let start : forest_pieces (fill_all (meaning rows) (children_shapes (drop n list))) ≡ forest_pieces (fill_all (meaning rows) (append (child_shapes x) (children_shapes (drop (n + 1) list)))) =
      ap (λ (cs : List Child). forest_pieces (fill_all (meaning rows) (children_shapes cs))) (drop-from list n x here) in
      adds-as rows a c _ _ _ _
      (sym (append_assoc item rest (closing (names rows) s count)) ∙ ap (λ w. w ++ closing (names rows) s count) (item-then (names rows) (meaning rows) s o list n x here are))
      (omega arith) (adds-then rows a b c _ _ _ _ before now)

-- all items of a list were added
pub adds-list : (rows : List Row) (s x : Style) (o : TermTable) (list : List Child) (t : Tree Depth) (n count : ℕ) (old new : List Piece) → n ≤ 0
    → x ≡ style_in {N = Name} s (items_label o) → t ≡ items_tree o (fill_all (meaning rows) (children_shapes list)) → count ≡ length list → AreItems (meaning rows) o list
    → AddsPieces rows old new (texts (names rows) x n (fill_all (meaning rows) (children_shapes (drop n list))) ++ closing (names rows) x count) (suc (forest_pieces (fill_all (meaning rows) (children_shapes (drop n list)))))
    → AddsPieces rows old new (text_in (names rows) s t) (inner_work t)
adds-list rows s x o list t n count old new ended of_style of_tree of_count are h =
    let zero_left : n ≡ 0 = omega arith in
    let all = rw zero_left at h in
    let ts = fill_all (meaning rows) (children_shapes list) in
    let work : inner_work t ≡ inner_work (items_tree o ts) = ap inner_work of_tree in
    let same = work-list o ts in
    adds-as rows old new _ _ _ _
    (list-written (names rows) (meaning rows) s o ts t x count _ of_style of_tree (of_count ∙ sym (count-items (meaning rows) o list are)) refl)
    (omega arith) all
