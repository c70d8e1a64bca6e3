-- The texts of parts and of the items of a list.
use Rattle.std.proofs.Common.{◌≡◌, ℕ, suc, ◌+◌, ◌<◌, ◌==◌, Bool, true, false, List, [], ◌∷◌, ◌++◌, length, drop, get_or}
use Rattle.std.proofs.Common.{refl, ap, sym, eq-eqb, ◌∙◌, append_assoc, arith}
use Rattle.std.specs.Prelude.{All, Some, slice_get}
use Rattle.std.proofs.lemmas.Grind.{common_steps}
use Rattle.std.proofs.lemmas.Bool.Decides.{nat_tests}
use Rattle.std.proofs.lemmas.List.{append-nil}
use Rattle.std.proofs.lemmas.List.Elements.{All-head, All-tail, All-drop}
use Rattle.std.proofs.lemmas.Option.{slice_get_within, get_or_from_slice_get}
use Rattle.tt_kinds.specs.Label.{Name}
use Rattle.tt_kinds.specs.Tree.{count_trees}
use Rattle.tt_kinds.specs.Shape.{Shapes, Meaning, fill, fill_all, name_of, append}
use Rattle.tt_kinds.specs.Kinds.{region_shape, handle_shape, child_shapes, children_shapes, parts_shapes}
use Rattle.tt_kinds.specs.Parts.{IsItem, child_sort, one_part}
use Rattle.tt_kinds.specs.declared.table.TermTable.{TermTable}
use Rattle.tt_kinds.specs.declared.parts.Child.{Child}
use Rattle.tt_kinds.specs.declared.parts.Child.TheVariants as child
use Rattle.tt_kinds.specs.declared.parts.Parts.{Parts}
use Rattle.tt_print.specs.declared.ir_print.layout.Style.{Style}
use Rattle.tt_print.specs.declared.ir_print.layout.Style.TheVariants as style
use Rattle.tt_print.specs.declared.ir_print.spelling.Spelling.{Spelling}
use Rattle.tt_print.specs.Text.{Head, word, are_none, before_child, closing, head_text, text_in, texts, child_text}
use Rattle.tt_print.specs.Spelling.{head_of, rename_head, spelled_text}

module _ (item_name : ℕ → Name) (f : Meaning) (s : Style) where
  -- the last child
  last-text : (n : ℕ) (c : Child) → child_text item_name (before_child item_name s n true) s (fill_all f (child_shapes c)) ≡ texts item_name s n (fill_all f (child_shapes c))
  unfolding fill_all
  last-text n child.Absent = refl
  last-text n (child.Region r) = ap (λ w. before_child item_name s n true ++ w) (sym (append-nil (text_in item_name s (fill f (region_shape r)))))
  last-text n (child.Stored m) = ap (λ w. before_child item_name s n true ++ w) (sym (append-nil (text_in item_name s (fill f (handle_shape m)))))

  -- a child, and then others
  child-then : (n : ℕ) (c : Child) (us : Shapes) → (c ≡ child.Absent → ⊥)
      → child_text item_name (before_child item_name s n (are_none (fill_all f us))) s (fill_all f (child_shapes c)) ++ texts item_name s (suc n) (fill_all f us)
      ≡ texts item_name s n (fill_all f (append (child_shapes c) us))
  unfolding fill_all
  child-then n child.Absent us there = absurd (there refl)
  child-then n (child.Region r) us there =
      append_assoc (before_child item_name s n (are_none (fill_all f us))) (text_in item_name s (fill f (region_shape r))) (texts item_name s (suc n) (fill_all f us))
  child-then n (child.Stored m) us there =
      append_assoc (before_child item_name s n (are_none (fill_all f us))) (text_in item_name s (fill f (handle_shape m))) (texts item_name s (suc n) (fill_all f us))

  two-text : (a b : Child)
      → child_text item_name (before_child item_name s 0 (are_none (fill_all f (child_shapes b)))) s (fill_all f (child_shapes a))
      ++ child_text item_name (before_child item_name s (count_trees (fill_all f (child_shapes a))) true) s (fill_all f (child_shapes b))
      ≡ texts item_name s 0 (fill_all f (append (child_shapes a) (child_shapes b)))
  unfolding fill_all
  two-text child.Absent b = last-text 0 b
  two-text (child.Region r) b =
      ap (λ w. child_text item_name (before_child item_name s 0 (are_none (fill_all f (child_shapes b)))) s (fill_all f (child_shapes (child.Region r))) ++ w) (last-text 1 b)
      ∙ child-then 0 (child.Region r) (child_shapes b) (λ e. let never = e in cc)
  two-text (child.Stored n) b =
      ap (λ w. child_text item_name (before_child item_name s 0 (are_none (fill_all f (child_shapes b)))) s (fill_all f (child_shapes (child.Stored n))) ++ w) (last-text 1 b)
      ∙ child-then 0 (child.Stored n) (child_shapes b) (λ e. let never = e in cc)

  -- both parts
  pub parts-text : (p : Parts)
      → child_text item_name (before_child item_name s 0 (are_none (fill_all f (child_shapes p.second)))) s (fill_all f (child_shapes p.first))
      ++ child_text item_name (before_child item_name s (count_trees (fill_all f (child_shapes p.first))) true) s (fill_all f (child_shapes p.second))
      ≡ texts item_name s 0 (fill_all f (parts_shapes p))
  parts-text p = two-text p.first p.second

  -- what is written of both parts is their text
  pub parts-written : (p : Parts) (a : Bool) (n : ℕ) (first second : List ℕ) → a ≡ are_none (fill_all f (child_shapes p.second)) → first ≡ before_child item_name s 0 a
      → n ≡ count_trees (fill_all f (child_shapes p.first)) → second ≡ before_child item_name s n true
      → child_text item_name first s (fill_all f (child_shapes p.first)) ++ child_text item_name second s (fill_all f (child_shapes p.second)) ≡ texts item_name s 0 (fill_all f (parts_shapes p))
  parts-written p a n first second of_a of_first of_n of_second = rw (of_first, of_second, of_a, of_n) (parts-text p)

module _ (f : Meaning) where
  count-then : (c : Child) (us : Shapes) → count_trees (fill_all f (child_shapes c)) + count_trees (fill_all f us) ≡ count_trees (fill_all f (append (child_shapes c) us))
  unfolding fill_all
  count-then child.Absent us = omega arith
  count-then (child.Region r) us = omega arith
  count-then (child.Stored n) us = omega arith

  -- how many parts there are
  pub count-parts : (p : Parts) → count_trees (fill_all f (child_shapes p.first)) + count_trees (fill_all f (child_shapes p.second)) ≡ count_trees (fill_all f (parts_shapes p))
  count-parts p = count-then p.first (child_shapes p.second)

-- a list holds no child that is absent
item-there : (o : TermTable) (c : Child) → IsItem o (child_sort c) → c ≡ child.Absent → ⊥
item-there o (child.Region r) h e = let never = e in cc
item-there o (child.Stored n) h e = let never = e in cc
item-there o child.Absent h e = h

-- the children from a place on are the child at that place and the children after it
pub drop-from : (list : List Child) (n : ℕ) (x : Child) → slice_get list n ≡ Some x → drop n list ≡ x ∷ drop (n + 1) list
drop-from list n x here =
    let is : get_or list n x ≡ x = get_or_from_slice_get list n x x here in
    let low : n < length list = slice_get_within list n x here in
    grind (arith, common_steps)

module _ (f : Meaning) (o : TermTable) where
  -- each child may be an item of a list of the sort
  abbrev pub AreItems : List Child → Type 0
  AreItems list = All (λ c. IsItem o (child_sort c)) list

  count-item : (c : Child) (us : Shapes) → (c ≡ child.Absent → ⊥) → count_trees (fill_all f (append (child_shapes c) us)) ≡ suc (count_trees (fill_all f us))
  unfolding fill_all
  count-item child.Absent us there = absurd (there refl)
  count-item (child.Region r) us there = refl
  count-item (child.Stored n) us there = refl

  -- each item is one tree
  pub count-items : (list : List Child) → AreItems list → count_trees (fill_all f (children_shapes list)) ≡ length list
  unfolding fill_all
  count-items [] h = refl
  count-items (c ∷ list) h =
      count-item c (children_shapes list) (item-there o c (All-head (λ c. IsItem o (child_sort c)) c list h))
      ∙ ap suc (count-items list (All-tail (λ c. IsItem o (child_sort c)) c list h))

  none-item : (c : Child) (us : Shapes) → (c ≡ child.Absent → ⊥) → are_none (fill_all f (append (child_shapes c) us)) ≡ false
  unfolding fill_all
  none-item child.Absent us there = absurd (there refl)
  none-item (child.Region r) us there = refl
  none-item (child.Stored n) us there = refl

  -- the items after the first m of k
  items-end : (rest : List Child) (m k : ℕ) → m + length rest ≡ k → AreItems rest → are_none (fill_all f (children_shapes rest)) ≡ (m == k)
  unfolding fill_all
  items-end [] m k count h = let same : m ≡ k = omega arith in sym (eq-eqb m k same)
  items-end (c ∷ rest) m k count h =
      none-item c (children_shapes rest) (item-there o c (All-head (λ c. IsItem o (child_sort c)) c rest h)) ∙ (let low : m < k = omega arith in grind (arith, nat_tests))

module _ (item_name : ℕ → Name) (f : Meaning) (s : Style) (o : TermTable) (list : List Child) (n : ℕ) where
  -- an item, and then the items after it
  pub item-then : (x : Child) → slice_get list n ≡ Some x → AreItems f o list
      → child_text item_name (before_child item_name s n (n + 1 == length list)) s (fill_all f (child_shapes x))
      ++ texts item_name s (n + 1) (fill_all f (children_shapes (drop (n + 1) list)))
      ≡ texts item_name s n (fill_all f (children_shapes (drop n list)))
  item-then x here are =
      let low : n < length list = slice_get_within list n x here in
      let start : drop n list ≡ x ∷ drop (n + 1) list = drop-from list n x here in
      let more : n + 1 + length (drop (n + 1) list) ≡ length list = grind (arith, common_steps) in
      let last : are_none (fill_all f (children_shapes (drop (n + 1) list))) ≡ (n + 1 == length list) =
      items-end f o (drop (n + 1) list) (n + 1) (length list) more (All-drop (λ c. IsItem o (child_sort c)) (n + 1) list are) in
      let item : IsItem o (child_sort x) = All-head (λ c. IsItem o (child_sort c)) x (drop (n + 1) list) (rw start at (All-drop (λ c. IsItem o (child_sort c)) n list are)) in
      let next : n + 1 ≡ suc n = omega arith in
      let rest = fill_all f (children_shapes (drop (n + 1) list)) in
      let whole : child_text item_name (before_child item_name s n (n + 1 == length list)) s (fill_all f (child_shapes x))
      ++ texts item_name s (suc n) (fill_all f (children_shapes (drop (n + 1) list))) ≡ texts item_name s n (fill_all f (children_shapes (drop n list))) =
      rw (start, ← last) (child-then item_name f s n x (children_shapes (drop (n + 1) list)) (item-there o x item)) in
      ap (λ (m : ℕ). child_text item_name (before_child item_name s n (n + 1 == length list)) s (fill_all f (child_shapes x)) ++ texts item_name s m rest) next ∙ whole

module _ (item_name : ℕ → Name) (f : Meaning) where
  -- a child by itself, with nothing around it
  alone-text : (c : Child) → texts item_name style.Joined 0 (fill_all f (parts_shapes (one_part c))) ++ closing item_name style.Joined (count_trees (fill_all f (parts_shapes (one_part c))))
      ≡ child_text item_name [] style.Joined (fill_all f (child_shapes c))
  unfolding fill_all
  alone-text child.Absent = refl
  alone-text (child.Region r) = append-nil (text_in item_name style.Joined (fill f (region_shape r)) ++ []) ∙ append-nil (text_in item_name style.Joined (fill f (region_shape r)))
  alone-text (child.Stored n) = append-nil (text_in item_name style.Joined (fill f (handle_shape n)) ++ []) ∙ append-nil (text_in item_name style.Joined (fill f (handle_shape n)))

  -- what is spelled by no word around one child is the child's text
  pub child-spelled : (s : Spelling) (c : Child) → head_of s ≡ word [] → s.style ≡ style.Joined
      → spelled_text item_name f s (fill_all f (parts_shapes (one_part c))) ≡ child_text item_name [] style.Joined (fill_all f (child_shapes c))
  child-spelled s c of_head of_style =
      let ts = fill_all f (parts_shapes (one_part c)) in
      ap (λ (h : Head ℕ). head_text item_name (rename_head (name_of f) h) ++ (texts item_name s.style 0 ts ++ closing item_name s.style (count_trees ts))) of_head
      ∙ ap (λ (x : Style). texts item_name x 0 ts ++ closing item_name x (count_trees ts)) of_style
      ∙ alone-text c
