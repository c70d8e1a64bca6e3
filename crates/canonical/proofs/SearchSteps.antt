-- Steps of a search for the variables of a type.
use Rattle.std.proofs.Common.{◌≡◌, ℕ, ◌<◌, suc, zero, inl, inr, None, Some, List, [], ◌∷◌, ◌++◌, Bool, true, drop}
use Rattle.std.proofs.Common.{length, slice_get, refl, sym, subst, ap, ◌∙◌}
use Rattle.std.specs.Prelude.{OnOk, Result, Ok, Err}
use Rattle.std.specs.List.{list_any}
use Rattle.std.proofs.lemmas.Bool.{cases_Bool}
use Rattle.std.proofs.lemmas.Option.{same_Some}
use Rattle.indexmap.specs.IndexSet.{insert_key}
use Rattle.tt_kinds.specs.Label.{Label, Sort}
use Rattle.tt_kinds.specs.Tree as tree
use Rattle.tt_kinds.specs.Tree.{Depth, Tree, Forest}
use Rattle.tt_kinds.specs.Shape as shape
use Rattle.tt_kinds.specs.Shape.{Shapes, append, Meaning, fill, fill_all}
use Rattle.tt_kinds.specs.Kinds.{Form, param, bound, plain, under, form_parts, form_shape, kind_form, kind_sort}
use Rattle.tt_kinds.specs.Kinds.{kind_shape, parts_shapes, child_shapes, children_shapes, items_tree}
use Rattle.tt_kinds.specs.Kinds.{region_shape, ty_shape}
use Rattle.tt_kinds.specs.Handle.{Ty}
use Rattle.tt_kinds.specs.TermTable.{term_table}
use Rattle.tt_kinds.specs.declared.handle.AnyHandle.{AnyHandle}
use Rattle.tt_kinds.specs.declared.parts.Child.{Child}
use Rattle.tt_kinds.specs.declared.parts.Child.TheVariants as child
use Rattle.tt_kinds.specs.declared.parts.Parts.{Parts}
use Rattle.tt_kinds.specs.declared.parts.Kind.{Kind}
use Rattle.tt_kinds.specs.declared.region_kind.RegionKind.{RegionKind}
use Rattle.tt_kinds.specs.declared.region_kind.RegionKind.TheVariants.{ReBound, ReEarlyParam}
use Rattle.tt_kinds.specs.declared.table.TermTable.{TermTable}
use Rattle.tt_kinds.specs.declared.table.TermTable.TheVariants as terms_of
use Rattle.tt_interner.specs.Owned.{tree_in}
use Rattle.tt_interner.specs.Rows.{Row, meaning, size}
use Rattle.tt_interner.specs.Stored.{Terms}
use Rattle.unify.specs.Pairs.{child_trees}
use Rattle.unify.specs.Substitution.{variable_of, variable_in}
use Rattle.unify.proofs.OccursLaws.{IsProper}
use Rattle.canonical.specs.Canonical.{noted, collect, collect_all}
use Rattle.canonical.specs.Search.{Has, Knows, AreKnown, collect_visit, collect_pending, IsGood, AreGood, Pushes}
use Rattle.canonical.specs.declared.search.Visit.{Visit}
use Rattle.canonical.specs.declared.search.Visit.TheVariants.{Enter, Leave}
use Rattle.canonical.proofs.CollectLaws.{collect_knows, noted_keeps}

-- what follows from what holds on success
pub on_ok : {T E A Z : Type 0} (r : Result T E) → OnOk r A → (A → Z) → OnOk r Z
on_ok (Ok x) a f = f a
on_ok (Err e) a f = tt

-- a variable's tree adds the variable
pub collected_variable : (t : Tree Depth) (v : ℕ) (found : List ℕ) → IsProper t → variable_in t ≡ Some v
    → collect t found ≡ noted (Some v) found
collected_variable (tree.term l ts) v found proper is =
    ap (λ us. collect_all us (noted (variable_of l) found)) (proper.0 v is) ∙ ap (λ o. noted o found) is
collected_variable t v found proper is = absurd (cc)

module _ (rows : List Row) where
  -- what is known stays known if no variable is lost
  pub known_more : (tys : List Ty) (found more : List ℕ) → ((v : ℕ) → Has found v → Has more v)
      → AreKnown rows tys found
      → AreKnown rows tys more
  known_more [] found more keeps known = tt
  known_more (ty ∷ tys) found more keeps known = (
    (λ v. elim (known.0 v) [ inl there ↦ inl (keeps v there) | inr without ↦ inr without ]),
    known_more tys found more keeps known.1,
  )

  -- one more variable is found
  pub known_noted : (tys : List Ty) (found : List ℕ) (v : ℕ) → AreKnown rows tys found
      → AreKnown rows tys (noted (Some v) found)
  known_noted tys found v known = known_more tys found (noted (Some v) found) (noted_keeps (Some v) found) known

  known_last : (tys : List Ty) (ty : Ty) (found : List ℕ) → AreKnown rows tys found
      → Knows found (tree_in rows (ty_shape ty))
      → AreKnown rows (tys ++ ty ∷ []) found
  known_last [] ty found known own = (own, tt)
  known_last (x ∷ tys) ty found known own = (known.0, known_last tys ty found known.1 own)

  -- one more type is seen
  pub known_inserted : (eq : Ty → Ty → Bool) (tys : List Ty) (ty : Ty) (found : List ℕ) → AreKnown rows tys found
      → Knows found (tree_in rows (ty_shape ty)) → AreKnown rows (insert_key eq tys ty) found
  known_inserted eq tys ty found known own = elim (cases_Bool (list_any (eq ty) tys)) [
    | inl old ↦ rw old known
    | inr new ↦ rw new (known_last tys ty found known own)
  ]

  -- a type that was seen adds nothing
  pub seen_known : (eq : Ty → Ty → Bool) → ((a b : Ty) → eq a b ≡ true → a ≡ b)
      → (tys : List Ty) (ty : Ty) (found : List ℕ)
      → AreKnown rows tys found → list_any (eq ty) tys ≡ true → Knows found (tree_in rows (ty_shape ty))
  seen_known eq exact [] ty found known there = absurd (cc)
  seen_known eq exact (x ∷ tys) ty found known there = elim (cases_Bool (eq ty x)) [
    | inl alike ↦ subst (λ a. Knows found (tree_in rows (ty_shape a))) (sym (exact ty x alike)) known.0
    | inr other ↦ seen_known eq exact tys ty found known.1 (rw other at there)
  ]

module _ (terms : Terms) where
  abbrev m : Meaning
  m = meaning terms.rows

  -- one more visit is pending, which is made first
  pub pending_more : (vs : List Visit) (v : Visit) (found : List ℕ)
      → collect_pending terms (vs ++ v ∷ []) found ≡ collect_pending terms vs (collect_visit terms v found)
  pending_more [] v found = refl
  pending_more (w ∷ vs) v found = ap (collect_visit terms w) (pending_more vs v found)

  pub good_more : (vs : List Visit) (v : Visit) (found : List ℕ) → IsGood terms v found
      → AreGood terms vs (collect_visit terms v found) → AreGood terms (vs ++ v ∷ []) found
  good_more [] v found own good = (own, tt)
  good_more (w ∷ vs) v found own good =
      (subst (IsGood terms w) (sym (pending_more vs v found)) good.0, good_more vs v found own good.1)

  pub good_last : (vs : List Visit) (v : Visit) (found : List ℕ) → AreGood terms (vs ++ v ∷ []) found
      → IsGood terms v found × AreGood terms vs (collect_visit terms v found)
  good_last [] v found good = (good.0, tt)
  good_last (w ∷ vs) v found good =
      let rest = good_last vs v found good.1 in
      (rest.0, (subst (IsGood terms w) (pending_more vs v found) good.0, rest.1))

  -- nothing is pushed
  pub pushes_none : (vs : List Visit) → Pushes terms vs (λ found. found) vs
  pushes_none vs = record { good = λ found good. good; all = λ found. refl }

  -- what changes lists alike is the same
  pub pushes_as : (old new : List Visit) (f g : List ℕ → List ℕ) → ((found : List ℕ) → f found ≡ g found)
      → Pushes terms old f new → Pushes terms old g new
  pushes_as old new f g same pushed = record {
    good = λ found good. pushed.good found (subst (AreGood terms old) (sym (same found)) good);
    all = λ found. pushed.all found ∙ ap (collect_pending terms old) (same found);
  }

  -- what is pushed later is visited first
  pub pushes_twice : (old mid new : List Visit) (f g : List ℕ → List ℕ) → Pushes terms old f mid
      → Pushes terms mid g new
      → Pushes terms old (λ found. f (g found)) new
  pushes_twice old mid new f g first second = record {
    good = λ found good. second.good found (first.good (g found) good);
    all = λ found. second.all found ∙ first.all (g found);
  }

  -- a row is pushed
  pub pushes_row : (vs : List Visit) (h : AnyHandle) → h.number < size terms.rows (term_table h.table)
      → Pushes terms vs (collect_all (child_trees terms (child.Stored h))) (vs ++ Enter h ∷ [])
  unfolding fill
  pushes_row vs h own = record {
    good = λ found good. good_more vs (Enter h) found own good;
    all = λ found. pending_more vs (Enter h) found;
  }

  region_adds : (r : RegionKind) (found : List ℕ) → collect (fill m (region_shape r)) found ≡ found
  unfolding fill
  region_adds (ReBound i b) found = refl
  region_adds (ReEarlyParam p) found = refl
  region_adds r found = refl

  -- a child that is no row has no variables
  pub pushes_nothing : (vs : List Visit) (c : Child) → ((h : AnyHandle) → c ≡ child.Stored h → ⊥)
      → Pushes terms vs (collect_all (child_trees terms c)) vs
  unfolding fill
  pushes_nothing vs (child.Stored h) other = absurd (other h refl)
  pushes_nothing vs child.Absent other = pushes_none vs
  pushes_nothing vs (child.Region r) other =
      pushes_as vs vs (λ found. found) (collect_all (child_trees terms (child.Region r)))
      (λ found. sym (region_adds r found)) (pushes_none vs)

  -- a type is left after its parts
  pub pushes_leaving : (old new : List Visit) (ty : Ty) (t : Tree Depth) → t ≡ tree_in terms.rows (ty_shape ty)
      → Pushes terms (old ++ Leave ty ∷ []) (collect t) new → Pushes terms old (collect t) new
  pushes_leaving old new ty t same pushed = record {
    good = λ found good. pushed.good found
        (good_more old (Leave ty) (collect t found) (subst (Knows (collect t found)) same (collect_knows t found))
        good);
    all = λ found. pushed.all found ∙ pending_more old (Leave ty) (collect t found);
  }

  collect_appended : (ss us : Shapes) (found : List ℕ)
      → collect_all (fill_all m (append ss us)) found ≡ collect_all (fill_all m us) (collect_all (fill_all m ss) found)
  unfolding fill
  collect_appended shape.none us found = refl
  collect_appended (shape.also s ss) us found = collect_appended ss us (collect (fill m s) found)

  form_collected : (s : Sort) (f : Form (Label ℕ)) (found : List ℕ) → variable_in (fill m (form_shape s f)) ≡ None
      → collect (fill m (form_shape s f)) found ≡ collect_all (fill_all m (parts_shapes (form_parts f))) found
  unfolding fill
  form_collected s (param i name) found none = refl
  form_collected s (bound d e) found none = refl
  form_collected s (plain l p) found none = ap (λ o. collect_all (fill_all m (parts_shapes p)) (noted o found)) none
  form_collected s (under l vars r p) found none =
      ap (λ o. collect_all (fill_all m (parts_shapes p)) (noted o found)) none

  -- a term that is no variable is pushed by its parts
  pub pushes_parts : (old mid new : List Visit) (t : Tree Depth) (k : Kind) (p : Parts) → p ≡ form_parts (kind_form k)
      → t ≡ fill m (kind_shape k) → variable_in t ≡ None
      → Pushes terms old (collect_all (child_trees terms p.second)) mid
      → Pushes terms mid (collect_all (child_trees terms p.first)) new → Pushes terms old (collect t) new
  pushes_parts old mid new t k p is same none second first =
      pushes_as old new _ (collect t) all
      (pushes_twice old mid new (collect_all (child_trees terms p.second)) (collect_all (child_trees terms p.first))
      second first)
    where
      all : (found : List ℕ)
          → collect_all (child_trees terms p.second) (collect_all (child_trees terms p.first) found) ≡ collect t found
      all found =
          sym (collect_appended (child_shapes p.first) (child_shapes p.second) found)
          ∙ ap (λ q. collect_all (fill_all m (parts_shapes q)) found) is
          ∙ sym (form_collected (kind_sort k) (kind_form k) found (subst (λ u. variable_in u ≡ None) same none))
          ∙ ap (λ u. collect u found) (sym same)

  -- the children of a list from the one of this number on
  abbrev pub from_place : ℕ → List Child → Forest Depth
  from_place k cs = fill_all m (children_shapes (drop k cs))

  dropped_all : (cs : List Child) → drop (length cs) cs ≡ []
  dropped_all [] = refl
  dropped_all (c ∷ cs) = dropped_all cs

  dropped_one : (cs : List Child) (k : ℕ) (c : Child) → slice_get cs k ≡ Some c → drop k cs ≡ c ∷ drop (suc k) cs
  dropped_one [] k c at = absurd (cc)
  dropped_one (x ∷ cs) zero c at = ap (λ y. y ∷ cs) (same_Some x c at)
  dropped_one (x ∷ cs) (suc k) c at = dropped_one cs k c at

  -- no child is pushed
  pub pushes_begin : (vs : List Visit) (cs : List Child) (k : ℕ) → k ≡ length cs
      → Pushes terms vs (collect_all (from_place k cs)) vs
  unfolding fill
  pushes_begin vs cs k is =
      subst (λ ds. Pushes terms vs (collect_all (fill_all m (children_shapes ds))) vs)
      (sym (ap (λ n. drop n cs) is ∙ dropped_all cs)) (pushes_none vs)

  -- one child more, which is visited before the others
  pub pushes_next : (old mid new : List Visit) (cs : List Child) (k : ℕ) (c : Child) → slice_get cs k ≡ Some c
      → Pushes terms old (collect_all (from_place (suc k) cs)) mid
      → Pushes terms mid (collect_all (child_trees terms c)) new
      → Pushes terms old (collect_all (from_place k cs)) new
  pushes_next old mid new cs k c at rest one =
      pushes_as old new _ (collect_all (from_place k cs)) all
      (pushes_twice old mid new (collect_all (from_place (suc k) cs)) (collect_all (child_trees terms c)) rest one)
    where
      all : (found : List ℕ)
          → collect_all (from_place (suc k) cs) (collect_all (child_trees terms c) found) ≡ collect_all
          (from_place k cs) found
      all found =
          sym (collect_appended (child_shapes c) (children_shapes (drop (suc k) cs)) found)
          ∙ ap (λ ds. collect_all (fill_all m (children_shapes ds)) found) (sym (dropped_one cs k c at))

  items_collected : (s : TermTable) (ts : Forest Depth) (found : List ℕ)
      → collect (items_tree s ts) found ≡ collect_all ts found
  items_collected terms_of.ClauseLists ts found = refl
  items_collected s ts found = refl

  -- all children are pushed
  pub pushes_items : (old new : List Visit) (t : Tree Depth) (s : TermTable) (cs : List Child)
      → t ≡ items_tree s (fill_all m (children_shapes cs)) → Pushes terms old (collect_all (from_place zero cs)) new
      → Pushes terms old (collect t) new
  pushes_items old new t s cs is pushed =
      pushes_as old new (collect_all (from_place zero cs)) (collect t)
      (λ found. sym (ap (λ u. collect u found) is ∙ items_collected s (fill_all m (children_shapes cs)) found)) pushed
