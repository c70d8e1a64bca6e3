-- What takes the places of items and children, over plain variables.
use Rattle.std.proofs.Common.{◌≡◌, ℕ, zero, suc, List, [], ◌∷◌, ◌++◌, map, Result, Ok, Err, Some, refl, ap, subst, sym}
use Rattle.std.proofs.Common.{◌∙◌, inl, inr}
use Rattle.std.specs.Prelude.{IsErrAnd, slice_get}
use Rattle.std.specs.Option.{option_map}
use Rattle.std.proofs.lemmas.Option.{slice_get-map}
use Rattle.std.proofs.lemmas.List.{map-append}
use Rattle.std.specs.declared.alloc.Global.{Global}
use Rattle.std.specs.declared.vec.Vec.{Vec}
use Rattle.tt_index.specs.declared.refusal.Refusal.{Refusal}
use Rattle.tt_index.specs.declared.refusal.Refusal.TheVariants.{GreatestIndex, NoSuchAnswer}
use Rattle.tt_kinds.specs.Tree.{Tree, Depth, Forest}
use Rattle.tt_kinds.specs.Label.{Name, Label, type_label, dynamic_type}
use Rattle.tt_kinds.specs.Shape as shape
use Rattle.tt_kinds.specs.Shape.{Shape, Shapes, Sizes, fill, fill_all, name_of, rename_label}
use Rattle.tt_kinds.specs.Shape.{IsNamedLabel, IsPart, AreParts, item_shapes}
use Rattle.tt_kinds.specs.Kinds.{region_shape}
use Rattle.tt_kinds.specs.declared.region_kind.RegionKind.{RegionKind}
use Rattle.tt_interner.specs.Rows.{size, meaning}
use Rattle.tt_interner.specs.Stored.{Terms, Extends}
use Rattle.tt_interner.proofs.Growth.{IsPart-grows, AreParts-grows, fill-grows, fill_all-grows}
use Rattle.tt_calls.specs.declared.call.RegionCall.{RegionCall}
use Rattle.tt_calls.specs.CallForm.{ExistentialForm, trait_object, existentials_tree, existential_positions}
use Rattle.tt_calls.specs.CallForm.{IsExistentialTooDeep, all_trees, all_positions, AnyIsDeep, Named, Item, Part, one}
use Rattle.tt_calls.specs.CallForm.{a_region, CallForm, plain, region_call_tree}
use Rattle.tt_calls.specs.CallForm.{IsRegionTooDeep, item_tree, items_trees, item_positions, items_positions}
use Rattle.tt_calls.specs.CallForm.{part_positions, parts_positions, IsItemTooDeep, AreItemsTooDeep, IsPartTooDeep}
use Rattle.tt_calls.specs.CallForm.{ArePartsTooDeep, form_positions, IsFormTooDeep}
use Rattle.tt_calls.specs.Told.{Told, HasFullTable}
use Rattle.tt_calls.specs.Means.{number_at, tree_at, AreTerms}
use Rattle.tt_calls.specs.Build as build
use Rattle.tt_calls.specs.Build.{IsUnbuiltPart, IsUnusable, IsUsable, IsPlaced, ArePlaced, IsItemOfCall, AreItemsOf}
use Rattle.tt_calls.specs.Build.{IsPartOfCall}
use Rattle.tt_calls.specs.Build.{ArePartsOfCall, GivesPart, GivesParts, GivesPlaced, GivesItems, FillsPlaced}
use Rattle.tt_calls.specs.Build.{FillsItems}
use Rattle.tt_calls.specs.Build.{IsRegionOf, IsKindOf, GivesKind}

-- positions of two lists
pub AreTerms-append : (e : List Told) (ms ns : List Named) → AreTerms e ms → AreTerms e ns → AreTerms e (ms ++ ns)
AreTerms-append e [] ns h k = k
AreTerms-append e (m ∷ ms) ns h k = (h.0, AreTerms-append e ms ns h.1 k)

-- if the positions of two lists tell what is wanted there, so do the positions of the first
pub AreTerms-first : (e : List Told) (ms ns : List Named) → AreTerms e (ms ++ ns) → AreTerms e ms
AreTerms-first e [] ns h = tt
AreTerms-first e (m ∷ ms) ns h = (h.0, AreTerms-first e ms ns h.1)

-- if the positions of two lists tell what is wanted there, so do the positions of the second
pub AreTerms-second : (e : List Told) (ms ns : List Named) → AreTerms e (ms ++ ns) → AreTerms e ns
AreTerms-second e [] ns h = h
AreTerms-second e (m ∷ ms) ns h = AreTerms-second e ms ns h.1

-- a reason of a part is one of the whole
pub IsUnbuiltPart-weaker : (P : Type 0) (e d : List Told) (ps qs : List Named) (deep deeper : Type 0) (r : Refusal)
    → (AreTerms d qs → AreTerms e ps) → (deep → deeper) → IsUnbuiltPart P e ps deep r → IsUnbuiltPart P d qs deeper r
IsUnbuiltPart-weaker P e d ps qs deep deeper r n f (build.no_memory i) = build.no_memory i
IsUnbuiltPart-weaker P e d ps qs deep deeper r n f (build.no_row p i) = build.no_row p i
IsUnbuiltPart-weaker P e d ps qs deep deeper r n f (build.no_term h i) = build.no_term (λ a. h (n a)) i
IsUnbuiltPart-weaker P e d ps qs deep deeper r n f (build.no_index h i) = build.no_index (f h) i

-- the same of a child and the children
pub unbuilt-first : (P : Type 0) (e : List Told) (p : Part) (ps : List Part) (r : Refusal)
    → IsUnbuiltPart P e (part_positions p) (IsPartTooDeep p) r → IsUnbuiltPart P e (parts_positions (p ∷ ps)) (ArePartsTooDeep (p ∷ ps)) r
unbuilt-first P e p ps r h =
    IsUnbuiltPart-weaker P e e (part_positions p) (parts_positions (p ∷ ps)) (IsPartTooDeep p) (ArePartsTooDeep (p ∷ ps)) r
    (AreTerms-first e (part_positions p) (parts_positions ps)) inl h

pub unbuilt-later : (P : Type 0) (e : List Told) (p : Part) (ps : List Part) (r : Refusal)
    → IsUnbuiltPart P e (parts_positions ps) (ArePartsTooDeep ps) r → IsUnbuiltPart P e (parts_positions (p ∷ ps)) (ArePartsTooDeep (p ∷ ps)) r
unbuilt-later P e p ps r h =
    IsUnbuiltPart-weaker P e e (parts_positions ps) (parts_positions (p ∷ ps)) (ArePartsTooDeep ps) (ArePartsTooDeep (p ∷ ps)) r
    (AreTerms-second e (part_positions p) (parts_positions ps)) inr h

-- a reason why the second child was not built is a reason why the children were not
pub unbuilt-second : (P : Type 0) (e : List Told) (p q : Part) (ps : List Part) (r : Refusal)
    → IsUnbuiltPart P e (part_positions q) (IsPartTooDeep q) r → IsUnbuiltPart P e (parts_positions (p ∷ q ∷ ps)) (ArePartsTooDeep (p ∷ q ∷ ps)) r
unbuilt-second P e p q ps r h = unbuilt-later P e p (q ∷ ps) r (unbuilt-first P e q ps r h)

-- where nothing is named and nothing is deep
pub unbuilt-always : (P : Type 0) (e : List Told) (ns : List Named) (deep : Type 0) (r : Refusal)
    → IsUnbuiltPart P [] [] ⊥ r → IsUnbuiltPart P e ns deep r
unbuilt-always P e ns deep r h = IsUnbuiltPart-weaker P [] e [] ns ⊥ deep r (λ a. tt) (λ d. absurd d) h

-- what more rows leave as it is
pub placed-grows : {e : List Told} {t : Tree Depth} {ns : List Named} {deep : Type 0} {s : Shape} (old new : Terms) → Extends old new
    → IsPlaced old e t ns deep s → IsPlaced new e t ns deep s
placed-grows {e} {t} {ns} {deep} {s} old new x h = record {
  part = IsPart-grows old.rows new.rows x.rows s h.part;
  means = rw (fill-grows old.rows new.rows x.rows s h.part) h.means;
  named = h.named;
  shallow = h.shallow;
}

-- when rows are added, values that are placed in order are still so
pub all_placed-grow : {e : List Told} {ts : Forest Depth} {ns : List Named} {deep : Type 0} {ss : Shapes} (old new : Terms) → Extends old new
    → ArePlaced old e ts ns deep ss → ArePlaced new e ts ns deep ss
all_placed-grow {e} {ts} {ns} {deep} {ss} old new x h = record {
  parts = AreParts-grows old.rows new.rows x.rows ss h.parts;
  means = rw (fill_all-grows old.rows new.rows x.rows ss h.parts) h.means;
  named = h.named;
  shallow = h.shallow;
}

-- children in order
pub parts-none : (terms : Terms) (e : List Told) → ArePartsOfCall terms e [] shape.none
unfolding fill
parts-none terms e = record { parts = tt; means = refl; named = tt; shallow = λ d. d }

pub parts-also : (terms : Terms) (e : List Told) (p : Part) (ps : List Part) (s : Shape) (ss : Shapes) → IsPartOfCall terms e p s → ArePartsOfCall terms e ps ss
    → ArePartsOfCall terms e (p ∷ ps) (shape.also s ss)
unfolding fill
parts-also terms e p ps s ss h k = record {
  parts = (h.part, k.parts);
  means = rw (h.means, k.means) refl;
  named = AreTerms-append e (part_positions p) (parts_positions ps) h.named k.named;
  shallow = λ d. elim d [ inl x ↦ h.shallow x | inr x ↦ k.shallow x ];
}

-- the value in the place of an only child is all that a call puts in the children's places
pub parts-one : (terms : Terms) (e : List Told) (p : Part) (s : Shape) → IsPartOfCall terms e p s → ArePartsOfCall terms e (p ∷ []) (shape.also s shape.none)
parts-one terms e p s h = parts-also terms e p [] s shape.none h (parts-none terms e)

-- the values in the places of two children are all that a call puts in the children's places
pub parts-two : (terms : Terms) (e : List Told) (p q : Part) (s u : Shape) → IsPartOfCall terms e p s → IsPartOfCall terms e q u
    → ArePartsOfCall terms e (p ∷ q ∷ []) (shape.also s (shape.also u shape.none))
parts-two terms e p q s u h k = parts-also terms e p (q ∷ []) s (shape.also u shape.none) h (parts-one terms e q u k)

-- the positions that the items of a list name
module _ {X : Type 0} (names_of : X → List Named) where
  -- if the positions of a list's items and of one more tell what is wanted, so do all with this one behind
  pub named-append : (e : List Told) (xs : List X) (x : X) → AreTerms e (all_positions names_of xs) → AreTerms e (names_of x)
      → AreTerms e (all_positions names_of (xs ++ x ∷ []))
  named-append e [] x h k = AreTerms-append e (names_of x) [] k tt
  named-append e (w ∷ xs) x h k =
      AreTerms-append e (names_of w) (all_positions names_of (xs ++ x ∷ [])) (AreTerms-first e (names_of w) (all_positions names_of xs) h)
      (named-append e xs x (AreTerms-second e (names_of w) (all_positions names_of xs) h) k)

  -- if the positions that a list's items name tell what is wanted, so do those of each item
  pub named-among : (e : List Told) (xs : List X) (i : ℕ) (x : X) → slice_get xs i ≡ Some x → AreTerms e (all_positions names_of xs) → AreTerms e (names_of x)
  named-among e [] i x h k = absurd (cc)
  named-among e (w ∷ xs) zero x h k =
      let same : w ≡ x = cc in subst (λ (y : X). AreTerms e (names_of y)) same (AreTerms-first e (names_of w) (all_positions names_of xs) k)
  named-among e (w ∷ xs) (suc i) x h k = named-among e xs i x h (AreTerms-second e (names_of w) (all_positions names_of xs) k)

-- the items of a list that need the greatest index
module _ {X : Type 0} (deep_of : X → Type 0) where
  shallow-append : (xs : List X) (x : X) → (AnyIsDeep deep_of xs → ⊥) → (deep_of x → ⊥) → AnyIsDeep deep_of (xs ++ x ∷ []) → ⊥
  shallow-append [] x h k d = elim d [ inl y ↦ k y | inr y ↦ y ]
  shallow-append (w ∷ xs) x h k d = elim d [ inl y ↦ h (inl y) | inr y ↦ shallow-append xs x (λ z. h (inr z)) k y ]

  deep-among : (xs : List X) (i : ℕ) (x : X) → slice_get xs i ≡ Some x → deep_of x → AnyIsDeep deep_of xs
  deep-among [] i x h d = absurd (cc)
  deep-among (w ∷ xs) zero x h d = let same : x ≡ w = cc in inl (subst deep_of same d)
  deep-among (w ∷ xs) (suc i) x h d = inr (deep-among xs i x h d)

-- the items of a list in order, and the values
module _ {X T : Type 0} (tree_of : (ℕ → ℕ) → (ℕ → Tree Depth) → X → Tree Depth) (names_of : X → List Named) (deep_of : X → Type 0) (of_value : T → Shape) where
  parts-append : (size : Sizes) (ys : List T) (y : T) → AreParts size (item_shapes of_value ys) → IsPart size (of_value y)
      → AreParts size (item_shapes of_value (ys ++ y ∷ []))
  parts-append size [] y h k = (k, tt)
  parts-append size (z ∷ ys) y h k = (h.0, parts-append size ys y h.1 k)

  trees-append : (f : shape.Meaning) (ids : ℕ → ℕ) (at : ℕ → Tree Depth) (xs : List X) (ys : List T) (x : X) (y : T)
      → fill_all f (item_shapes of_value ys) ≡ all_trees (tree_of ids at) xs → fill f (of_value y) ≡ tree_of ids at x
      → fill_all f (item_shapes of_value (ys ++ y ∷ [])) ≡ all_trees (tree_of ids at) (xs ++ x ∷ [])
  unfolding fill
  trees-append f ids at [] [] x y h k = rw k refl
  trees-append f ids at [] (z ∷ ys) x y h k = absurd (cc)
  trees-append f ids at (w ∷ xs) [] x y h k = absurd (cc)
  trees-append f ids at (w ∷ xs) (z ∷ ys) x y h k =
      let first : fill f (of_value z) ≡ tree_of ids at w = cc in
      let rest : fill_all f (item_shapes of_value ys) ≡ all_trees (tree_of ids at) xs = cc in
      rw (first, trees-append f ids at xs ys x y rest k) refl

  -- no values are placed where there are no items
  pub all-none : (terms : Terms) (e : List Told) → ArePlaced terms e (all_trees (tree_of (number_at e) (tree_at e)) []) (all_positions names_of []) (AnyIsDeep deep_of []) (item_shapes of_value [])
  unfolding fill
  all-none terms e = record { parts = tt; means = refl; named = tt; shallow = λ d. d }

  -- if values are placed for a list's items and one for the next, they are placed for all with this one behind
  pub all-more : (terms : Terms) (e : List Told) (xs : List X) (ys : List T) (x : X) (y : T)
      → ArePlaced terms e (all_trees (tree_of (number_at e) (tree_at e)) xs) (all_positions names_of xs) (AnyIsDeep deep_of xs) (item_shapes of_value ys)
      → IsPlaced terms e (tree_of (number_at e) (tree_at e) x) (names_of x) (deep_of x) (of_value y)
      → ArePlaced terms e (all_trees (tree_of (number_at e) (tree_at e)) (xs ++ x ∷ [])) (all_positions names_of (xs ++ x ∷ [])) (AnyIsDeep deep_of (xs ++ x ∷ [])) (item_shapes of_value (ys ++ y ∷ []))
  all-more terms e xs ys x y h k = record {
    parts = parts-append (size terms.rows) ys y h.parts k.part;
    means = trees-append (meaning terms.rows) (number_at e) (tree_at e) xs ys x y h.means k.means;
    named = named-append names_of e xs x h.named k.named;
    shallow = shallow-append deep_of xs x h.shallow k.shallow;
  }

  -- a reason of one of them is one of them all
  pub unbuilt-one : (P : Type 0) (e : List Told) (xs : List X) (i : ℕ) (x : X) (r : Refusal) → slice_get xs i ≡ Some x
      → IsUnbuiltPart P e (names_of x) (deep_of x) r → IsUnbuiltPart P e (all_positions names_of xs) (AnyIsDeep deep_of xs) r
  unbuilt-one P e xs i x r h u =
      IsUnbuiltPart-weaker P e e (names_of x) (all_positions names_of xs) (deep_of x) (AnyIsDeep deep_of xs) r (named-among names_of e xs i x h) (deep-among deep_of xs i x h) u

-- where one is in a list, its image is in the list of images
pub get-mapped : {A B : Type 0} (f : A → B) (xs : List A) (i : ℕ) (x : A) → slice_get xs i ≡ Some x → slice_get (map f xs) i ≡ Some (f x)
get-mapped f xs i x h = slice_get-map f xs i ∙ ap (option_map f) h

-- items in order: the calls' items, and the values
module _ {C T : Type 0} (item : C → Item) (of_value : T → Shape) where
  -- no values are in the places of no items of a call
  pub items-none : (terms : Terms) (e : List Told) → AreItemsOf terms e (map item []) (item_shapes of_value [])
  items-none terms e = all-none item_tree item_positions IsItemTooDeep of_value terms e

  -- if values are in the places of a call's items and one is in the next one's, they are in the places of all
  pub items-more : (terms : Terms) (e : List Told) (cs : List C) (xs : List T) (c : C) (x : T)
      → AreItemsOf terms e (map item cs) (item_shapes of_value xs) → IsItemOfCall terms e (item c) (of_value x)
      → AreItemsOf terms e (map item (cs ++ c ∷ [])) (item_shapes of_value (xs ++ x ∷ []))
  items-more terms e cs xs c x h k =
      subst (λ (is : List Item). AreItemsOf terms e is (item_shapes of_value (xs ++ x ∷ []))) (sym (map-append item cs (c ∷ [])))
      (all-more item_tree item_positions IsItemTooDeep of_value terms e (map item cs) xs (item c) x h k)

  -- a reason of one of the items is one of them all
  pub unbuilt-among : (P : Type 0) (e : List Told) (cs : List C) (i : ℕ) (c : C) (r : Refusal) → slice_get cs i ≡ Some c
      → IsUnbuiltPart P e (item_positions (item c)) (IsItemTooDeep (item c)) r
      → IsUnbuiltPart P e (items_positions (map item cs)) (AreItemsTooDeep (map item cs)) r
  unbuilt-among P e cs i c r h u = unbuilt-one item_tree item_positions IsItemTooDeep of_value P e (map item cs) i (item c) r (get-mapped item cs i c h) u

-- what is named can't be used, where a part of it can't
pub unusable-weaker : (e : List Told) (ps qs : List Named) (deep deeper : Type 0) (r : Refusal)
    → (AreTerms e qs → AreTerms e ps) → (deep → deeper) → IsUnusable e ps deep r → IsUnusable e qs deeper r
unusable-weaker e ps qs deep deeper NoSuchAnswer n f h = λ a. h (n a)
unusable-weaker e ps qs deep deeper GreatestIndex n f h = f h
unusable-weaker e ps qs deep deeper _ n f h = absurd h

-- a handle that isn't there
pub unbuilt-unusable : (P : Type 0) (e : List Told) (ns : List Named) (deep : Type 0) (r : Refusal) → r ≡ NoSuchAnswer → IsUnbuiltPart P e ns deep r → IsUnusable e ns deep r
unbuilt-unusable P e ns deep r is (build.no_memory i) = absurd (cc)
unbuilt-unusable P e ns deep r is (build.no_row p i) = absurd (cc)
unbuilt-unusable P e ns deep r is (build.no_term h i) = subst (λ (x : Refusal). IsUnusable e ns deep x) (sym i) h
unbuilt-unusable P e ns deep r is (build.no_index h i) = absurd (cc)

-- items of calls that can be used
module _ {C : Type 0} (item : C → Item) where
  -- the positions of no items can be used
  pub usable-none : (e : List Told) → IsUsable e (items_positions (map item [])) (AreItemsTooDeep (map item []))
  usable-none e = record { named = tt; shallow = λ d. d }

  -- if the positions of items and of one more can be used, so can the positions of all with this one behind
  pub usable-more : (e : List Told) (cs : List C) (c : C) → IsUsable e (items_positions (map item cs)) (AreItemsTooDeep (map item cs))
      → IsUsable e (item_positions (item c)) (IsItemTooDeep (item c)) → IsUsable e (items_positions (map item (cs ++ c ∷ []))) (AreItemsTooDeep (map item (cs ++ c ∷ [])))
  usable-more e cs c h k =
      subst (λ (is : List Item). IsUsable e (items_positions is) (AreItemsTooDeep is)) (sym (map-append item cs (c ∷ [])))
      (record {
        named = named-append item_positions e (map item cs) (item c) h.named k.named;
        shallow = shallow-append IsItemTooDeep (map item cs) (item c) h.shallow k.shallow;
      })

  -- if the positions of one item can't be used, neither can the positions of all
  pub unusable-among : (e : List Told) (cs : List C) (i : ℕ) (c : C) (r : Refusal) → slice_get cs i ≡ Some c
      → IsUnusable e (item_positions (item c)) (IsItemTooDeep (item c)) r → IsUnusable e (items_positions (map item cs)) (AreItemsTooDeep (map item cs)) r
  unusable-among e cs i c r h u =
      let here = get-mapped item cs i c h in
      unusable-weaker e (item_positions (item c)) (items_positions (map item cs)) (IsItemTooDeep (item c)) (AreItemsTooDeep (map item cs)) r
      (named-among item_positions e (map item cs) i (item c) here) (deep-among IsItemTooDeep (map item cs) i (item c) here) u

-- a region
pub region-part : (terms : Terms) (e : List Told) (c : RegionCall) (r : RegionKind) → IsRegionOf terms (region_call_tree (number_at e) c) (IsRegionTooDeep c) r
    → IsPartOfCall terms e (one (a_region c)) (region_shape r)
region-part terms e c r h = record { part = h.part; means = h.means; named = tt; shallow = h.shallow }

-- a reason why a region was not built is such a reason whatever was told earlier
pub region-unbuilt : (P : Type 0) (e : List Told) (c : RegionCall) (r : Refusal) → IsUnbuiltPart P [] [] (IsRegionTooDeep c) r
    → IsUnbuiltPart P e [] (IsRegionTooDeep c) r
region-unbuilt P e c r h = IsUnbuiltPart-weaker P [] e [] [] (IsRegionTooDeep c) (IsRegionTooDeep c) r (λ a. tt) (λ d. d) h

-- the kind of a label and its children
pub plain-kind : (terms : Terms) (e : List Told) (l : Label Name) (ps : List Part) (m : Label ℕ) (ss : Shapes) → ArePartsOfCall terms e ps ss
    → IsNamedLabel (size terms.rows) m → rename_label (name_of (meaning terms.rows)) m ≡ l
    → IsKindOf terms e (plain l ps) (shape.term m ss)
unfolding fill
plain-kind terms e l ps m ss h n q = record {
  parts = (n, h.parts);
  means = rw (q, h.means) refl;
  named = h.named;
  deep = (λ d. absurd d, h.shallow);
}

-- what a question mark passes on
pub part-passed : {H : Type 0} (terms : Terms) (e : List Told) (p : Part) (of_value : H → Shape) (result : Result H Refusal) (r : Refusal) → IsErrAnd result (λ x. x ≡ r)
    → IsUnbuiltPart (HasFullTable terms) e (part_positions p) (IsPartTooDeep p) r → GivesPart terms e p of_value result
part-passed terms e p of_value (Ok l) r h k = absurd h
part-passed terms e p of_value (Err x) r h k = record { ok = tt; err = rw h k }

-- an error that is passed on is the refusal of a value, if it is a reason why the value was not built
pub placed-passed : {H : Type 0} (terms : Terms) (e : List Told) (t : Tree Depth) (ns : List Named) (deep : Type 0) (of_value : H → Shape) (result : Result H Refusal) (r : Refusal) → IsErrAnd result (λ x. x ≡ r)
    → IsUnbuiltPart (HasFullTable terms) e ns deep r → GivesPlaced terms e t ns deep of_value result
placed-passed terms e t ns deep of_value (Ok l) r h k = absurd h
placed-passed terms e t ns deep of_value (Err x) r h k = record { ok = tt; err = rw h k }

-- the kind of a trait object
pub dynamic-kind : (terms : Terms) (e : List Told) (xs : List ExistentialForm) (c : RegionCall) (s : Shape) (r : RegionKind)
    → IsPlaced terms e (existentials_tree (number_at e) (tree_at e) xs) (all_positions existential_positions xs) (AnyIsDeep IsExistentialTooDeep xs) s
    → IsRegionOf terms (region_call_tree (number_at e) c) (IsRegionTooDeep c) r
    → IsKindOf terms e (trait_object xs c) (shape.term (type_label dynamic_type) (shape.also s (shape.also (region_shape r) shape.none)))
unfolding fill
dynamic-kind terms e xs c s r h k = record {
  parts = (tt, (h.part, (k.part, tt)));
  means = rw (h.means, k.means) refl;
  named = h.named;
  deep = (λ d. absurd d, λ d. elim d [ inl x ↦ h.shallow x | inr x ↦ k.shallow x ]);
}

-- an error that is passed on is the refusal of children, if it is a reason why they were not built
pub parts-passed : {H : Type 0} (terms : Terms) (e : List Told) (ps : List Part) (of_value : H → Shapes) (result : Result H Refusal) (r : Refusal) → IsErrAnd result (λ x. x ≡ r)
    → IsUnbuiltPart (HasFullTable terms) e (parts_positions ps) (ArePartsTooDeep ps) r → GivesParts terms e ps of_value result
parts-passed terms e ps of_value (Ok l) r h k = absurd h
parts-passed terms e ps of_value (Err x) r h k = record { ok = tt; err = rw h k }

-- an error that is passed on is the refusal of a vector of items, if it is a reason why they were not built
pub items-passed : {H : Type 0} (terms : Terms) (e : List Told) (is : List Item) (of_value : H → Shape) (result : Result (Vec H Global) Refusal) (r : Refusal) → IsErrAnd result (λ x. x ≡ r)
    → IsUnbuiltPart (HasFullTable terms) e (items_positions is) (AreItemsTooDeep is) r → GivesItems terms e is of_value result
items-passed terms e is of_value (Ok l) r h k = absurd h
items-passed terms e is of_value (Err x) r h k = record { ok = tt; err = rw h k }

-- an error that is passed on is the refusal of values in order, if it is a reason why they were not built
pub all_placed-passed : {R : Type 0} (terms : Terms) (e : List Told) (ts : Forest Depth) (ns : List Named) (deep : Type 0) (ss : Shapes) (result : Result R Refusal) (r : Refusal) → IsErrAnd result (λ x. x ≡ r)
    → IsUnbuiltPart (HasFullTable terms) e ns deep r → FillsPlaced terms e ts ns deep ss result
all_placed-passed terms e ts ns deep ss (Ok l) r h k = absurd h
all_placed-passed terms e ts ns deep ss (Err x) r h k = record { ok = tt; err = rw h k }

-- an error that is passed on is the refusal of the values of items, if it is a reason why they were not built
pub puts-passed : {H R : Type 0} (terms : Terms) (e : List Told) (is : List Item) (of_value : H → Shape) (values : List H) (result : Result R Refusal) (r : Refusal) → IsErrAnd result (λ x. x ≡ r)
    → IsUnbuiltPart (HasFullTable terms) e (items_positions is) (AreItemsTooDeep is) r → FillsItems terms e is of_value values result
puts-passed terms e is of_value values result r h k =
    all_placed-passed terms e (items_trees (number_at e) (tree_at e) is) (items_positions is) (AreItemsTooDeep is) (item_shapes of_value values) result r h k

-- an error that is passed on is the refusal of a kind, if it is a reason why the kind was not built
pub kind-passed : {K : Type 0} (terms : Terms) (e : List Told) (f : CallForm) (of_kind : K → Shape) (result : Result K Refusal) (r : Refusal) → IsErrAnd result (λ x. x ≡ r)
    → IsUnbuiltPart (HasFullTable terms) e (form_positions f) (IsFormTooDeep f) r → GivesKind terms e f of_kind result
kind-passed terms e f of_kind (Ok k) r h u = absurd h
kind-passed terms e f of_kind (Err x) r h u = record { ok = tt; err = rw h u }
