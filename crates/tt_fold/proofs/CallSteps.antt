-- The walk of types and lists of types by calls: what the calls promise makes what the whole promises.
use Rattle.std.proofs.Common.{◌≡◌, ℕ, ◌+◌, ◌<◌, [], ◌∷◌, ◌++◌, ◌≤◌, length, drop, slice_get, Result, Ok, Err, Option, Some}
use Rattle.std.proofs.Common.{refl, ap, sym, subst, ◌∙◌, arith}
use Rattle.std.specs.Prelude.{IsTrue}
use Rattle.std.proofs.Common.{List as Listed}
use Rattle.std.proofs.lemmas.List.{drop_more, append-nil}
use Rattle.std.proofs.lemmas.Option.{slice_get_within, get_or_from_slice_get}
use Rattle.std.proofs.lemmas.Result.{MatchResult-weaker}
use Rattle.std.proofs.Math.ListN.{drop_of_length-le}
use Rattle.tt_index.specs.declared.refusal.Refusal.{Refusal}
use Rattle.tt_index.specs.declared.refusal.Refusal.TheVariants.{Memory, TableFull, GreatestIndex}
use Rattle.tt_kinds.specs.Label.{Label, list_label}
use Rattle.tt_kinds.specs.Tree as tree
use Rattle.tt_kinds.specs.Tree.{Depth, Tree}
use Rattle.tt_kinds.specs.Shape.{HasParts, fill, item_shapes}
use Rattle.tt_kinds.specs.Kinds.{kind_form, kind_sort, kind_shape, form_binder, form_parts, form_shape}
use Rattle.tt_kinds.specs.Kinds.{refilled}
use Rattle.tt_kinds.specs.Kinds.{handle_shape, parts_shapes, region_shape, ty_shape, tys_shape, Form}
use Rattle.tt_kinds.specs.Kinds as form
use Rattle.tt_kinds.specs.TermTable.{is_term, term_table}
use Rattle.tt_kinds.specs.Handle.{Ty, Tys, BoundVarKinds, any_handle}
use Rattle.tt_kinds.specs.declared.table.Table.TheVariants.{TypeLists}
use Rattle.tt_kinds.specs.declared.parts.Child.{Child}
use Rattle.tt_kinds.specs.declared.parts.Child.TheVariants as child
use Rattle.tt_kinds.specs.declared.handle.AnyHandle.{AnyHandle}
use Rattle.tt_kinds.specs.declared.handle.Handle.{Handle}
use Rattle.tt_kinds.specs.declared.region_kind.RegionKind.{RegionKind}
use Rattle.tt_kinds.specs.declared.table.TermTable.{TermTable}
use Rattle.tt_kinds.specs.declared.table.TermTable.TheVariants as terms_of
use Rattle.tt_kinds.specs.declared.parts.Kind.{Kind}
use Rattle.tt_kinds.specs.declared.parts.Parts.{Parts}
use Rattle.tt_interner.specs.Rows.{Row, size, meaning, Grows, tys_row, row_shape, row_table}
use Rattle.tt_interner.specs.Stored.{Terms, Extends, IsAt, IsCause, IsUnbuilt}
use Rattle.tt_interner.specs.Reads.{Reads}
use Rattle.tt_interner.proofs.Growth.{Extends-refl, Extends-trans, IsPart-grows, IsAt-grows, fill-grows, fill_all-grows}
use Rattle.tt_visit.specs.Root.{root, a_part}
use Rattle.tt_fold.specs.Walk.{Hooks, Errors, Walks, WalksInside, WalksAll, Descends, Fails, InsideFails, DescentFails}
use Rattle.tt_fold.specs.Walk.{FailsAll, IsTerm, any_trees, replace, keep, descend, replaced, kept}
use Rattle.tt_fold.specs.Walk.{descended, rebuilt, at_node, term_failed, descent_failed, inside_failed, after_failed}
use Rattle.tt_fold.specs.Walk.{node_failed, node_not_built, here, stopped, ChildFails, child_failed}
use Rattle.tt_fold.specs.Counts.{Standing, stands}
use Rattle.tt_fold.specs.Steps.{Goes, Folds, IsPartOf, IsPartBy, tree_in, tree_by}
use Rattle.tt_fold.specs.Still.{IsAlone}
use Rattle.tt_fold.specs.Parts.{ArePartsOf, ArePartsFor, parts_trees, trees_in, IsStoredFor, handle_tree, HasBinder}
use Rattle.tt_fold.specs.Parts.{binder_in, IsInner, IsChildFor, child_trees}
use Rattle.tt_fold.specs.Stack.{Outline, whole, wanted_by, binder_of, TakesAny, Opens, Leaves, EnterFails, LeaveFails}
use Rattle.tt_fold.specs.Stack.{rebuilds, in_children, in_whole, not_left, not_rebuilt, joined_trees}
use Rattle.tt_fold.specs.Going.{form_outline}
use Rattle.tt_fold.specs.Calls.{FoldsTypes}
use Rattle.tt_fold.proofs.PartLaws.{stored_tree, vars-grow, one_tree}
use Rattle.tt_fold.proofs.FormLaws.{form-labels, form-parts, form-binder}
use Rattle.tt_fold.proofs.WalkLaws.{FailsAll-append}
use Rattle.tt_fold.proofs.ChildLaws.{stored_for, stored_walks, region_for, region_walks, region_falls}
use Rattle.tt_fold.proofs.ChildLaws.{absent_for, absent_walks}
use Rattle.tt_fold.proofs.FrameLaws.{form_outline-grows}
use Rattle.tt_fold.proofs.StackLaws.{walks_contents, inside_rest_fails, enter_fails_inside}
use Rattle.tt_fold.proofs.ItemSteps.{unit_err, form_whole, form_any, form_binder_of, item_root, refilled_whole}
use Rattle.tt_fold.proofs.ChildSteps.{stored_no_part}
use Rattle.tt_fold.proofs.VecSteps.{trees-append, sequence-part, values_none, value_part, values_more}

-- a type is a term with a hook
ty_is_term : (rows : Listed Row) (ty : Ty) → IsPartOf rows (ty_shape ty) → IsTerm (tree_in rows (ty_shape ty))
ty_is_term rows ty part = item_root rows (any_handle terms_of.Types ty) part

-- a list of types is not one of the terms that have a hook
pub tys_not_alone : (h : AnyHandle) → h.table ≡ terms_of.TypeLists → IsAlone (handle_shape h) → ⊥
tys_not_alone h is alone = (let hook = rw is at alone in cc)

-- when rows are added, a binder in range keeps its variables
binder-grows : {old new : Listed Row} → Grows old new → (b : Option BoundVarKinds) → HasBinder old b → binder_in new b ≡ binder_in old b
binder-grows g Option.None h = refl
binder-grows g (Some vars) h = ap Some (vars-grow g vars h)

-- any trees may come of the children of a form
form_wanted : (rows : Listed Row) (f : Form (Label ℕ)) → IsInner f → wanted_by (form_outline rows f) ≡ any_trees
form_wanted rows (form.param i name) is = refl
form_wanted rows (form.bound d e) is = refl
form_wanted rows (form.plain l p) is = refl
form_wanted rows (form.under l vars m p) is = refl

-- The children of a term are next: its tree by its outline, and its binder is entered.
pub record IsEntered {M E S : Type 0} (owned : Listed Row → S → Type 0) (means : Listed Row → S → M) (H : Hooks (Standing M) E)
    (terms : Terms) (s : S) (n : AnyHandle) (o : Outline) (b : Option BoundVarKinds) (p : Parts) (terms1 : Terms) (s1 : S) : Type 0 where
  pub extends : Extends terms terms1
  pub is_owned : owned terms1.rows s1
  pub tree : handle_tree terms.rows n ≡ whole o (parts_trees terms.rows p)
  pub any : TakesAny o
  pub wanted : wanted_by o ≡ any_trees
  pub no_part : root (whole o (parts_trees terms.rows p)) ≡ a_part → ⊥
  pub opens : Opens H (binder_of o) (stands means terms s) (stands means terms1 s1)
  pub binder : binder_of o ≡ binder_in terms.rows b
  pub vars : HasBinder terms.rows b
  pub parts : ArePartsOf terms.rows (parts_shapes p)

module _ {M E S : Type 0} {owned : Listed Row → S → Type 0} {means : Listed Row → S → M} {H : Hooks (Standing M) E} {errors : Errors E} where
  -- a type is not walked if its hook fails
  pub ty_not_asked : {terms terms1 : Terms} {s s1 : S} {ty : Ty} {e : E} → IsPartOf terms.rows (ty_shape ty) → Extends terms terms1 → owned terms1.rows s1
      → H.term_fails errors.unbuilt (stands means terms s) (tree_in terms.rows (ty_shape ty)) e (stands means terms1 s1)
      → Folds owned means (IsPartBy ty_shape) (tree_by ty_shape) (Walks H) (Fails H errors) terms s ty (Err e) terms1 s1
  ty_not_asked {terms} {ty} part extends o fails =
      record { extends = extends; is_owned = o; outcome = term_failed (ty_is_term terms.rows ty part) fails }

  -- a type comes to the type that its hook puts in its place
  pub ty_replaced : {terms terms1 : Terms} {s s1 : S} {ty new : Ty} (m : AnyHandle) → IsPartOf terms.rows (ty_shape ty) → Extends terms terms1 → owned terms1.rows s1
      → IsStoredFor (any_handle terms_of.Types ty) terms1.rows m → m ≡ any_handle terms_of.Types new
      → H.on_term (stands means terms s) (tree_in terms.rows (ty_shape ty)) (replace (handle_tree terms1.rows m)) (stands means terms1 s1)
      → Folds owned means (IsPartBy ty_shape) (tree_by ty_shape) (Walks H) (Fails H errors) terms s ty (Ok new) terms1 s1
  ty_replaced {terms} {ty} m part extends o is same asked =
      let part_new = rw same at is.owned in
      let answered = rw same at asked in
      record { extends = extends; is_owned = o; outcome = (part_new, replaced (ty_is_term terms.rows ty part) answered) }

  -- a type that its hook keeps comes to itself
  pub ty_kept : {terms terms1 : Terms} {s s1 : S} {ty : Ty} → IsPartOf terms.rows (ty_shape ty) → Extends terms terms1 → owned terms1.rows s1
      → H.on_term (stands means terms s) (tree_in terms.rows (ty_shape ty)) keep (stands means terms1 s1)
      → Folds owned means (IsPartBy ty_shape) (tree_by ty_shape) (Walks H) (Fails H errors) terms s ty (Ok ty) terms1 s1
  ty_kept {terms} {ty} part extends o asked = record {
    extends = extends;
    is_owned = o;
    outcome = (
      IsPart-grows _ _ extends.rows (ty_shape ty) part,
      rw (fill-grows _ _ extends.rows (ty_shape ty) part) (kept (ty_is_term terms.rows ty part) asked),
    );
  }

  -- if the hook answers to descend, the descent is the walk
  pub ty_descends : {terms terms1 terms2 : Terms} {s s1 s2 : S} {ty : Ty} {r : Result Ty E} → IsPartOf terms.rows (ty_shape ty) → Extends terms terms1
      → H.on_term (stands means terms s) (tree_in terms.rows (ty_shape ty)) descend (stands means terms1 s1)
      → Folds owned means (IsPartBy ty_shape) (tree_by ty_shape) (Descends H) (DescentFails H errors) terms1 s1 ty r terms2 s2
      → Folds owned means (IsPartBy ty_shape) (tree_by ty_shape) (Walks H) (Fails H errors) terms s ty r terms2 s2
  ty_descends {terms} {ty} {r} part extends asked d =
      let o = rw (fill-grows _ _ extends.rows (ty_shape ty) part) at d.outcome in
      let is = ty_is_term terms.rows ty part in
      record {
        extends = Extends-trans extends d.extends;
        is_owned = d.is_owned;
        outcome = MatchResult-weaker r o (λ y h. (h.0, descended is asked h.1)) (λ e h. descent_failed is asked h);
      }

  -- a descent fails if the contents fail
  pub descent_fails_inside : {terms terms1 : Terms} {s s1 : S} {ty : Ty} {e : E}
      → Folds owned means (IsStoredFor (any_handle terms_of.Types ty)) handle_tree (WalksInside H) (InsideFails H errors) terms s (any_handle terms_of.Types ty) (Err e) terms1 s1
      → Folds owned means (IsPartBy ty_shape) (tree_by ty_shape) (Descends H) (DescentFails H errors) terms s ty (Err e) terms1 s1
  descent_fails_inside d = record { extends = d.extends; is_owned = d.is_owned; outcome = inside_failed d.outcome }

  -- it fails if the hook after the contents fails
  pub descent_fails_after : {terms terms1 terms2 : Terms} {s s1 s2 : S} {ty : Ty} {u : AnyHandle} {e : E} {other : Errors E} → IsPartOf terms.rows (ty_shape ty)
      → Folds owned means (IsStoredFor (any_handle terms_of.Types ty)) handle_tree (WalksInside H) (InsideFails H other) terms s (any_handle terms_of.Types ty) (Ok u) terms1 s1
      → Extends terms1 terms2 → owned terms2.rows s2
      → H.after_fails errors.unbuilt (stands means terms1 s1) (tree_in terms1.rows (ty_shape ty)) (handle_tree terms1.rows u) e (stands means terms2 s2)
      → Folds owned means (IsPartBy ty_shape) (tree_by ty_shape) (Descends H) (DescentFails H errors) terms s ty (Err e) terms2 s2
  descent_fails_after {ty} part d extends o fails =
      let k = rw (fill-grows _ _ d.extends.rows (ty_shape ty) part) at fails in
      record { extends = Extends-trans d.extends extends; is_owned = o; outcome = after_failed d.outcome.1 k }

  -- it ends with the type that this hook returns
  pub descent_ends : {terms terms1 terms2 : Terms} {s s1 s2 : S} {ty new : Ty} {u : AnyHandle} {other : Errors E} (m : AnyHandle) → IsPartOf terms.rows (ty_shape ty)
      → Folds owned means (IsStoredFor (any_handle terms_of.Types ty)) handle_tree (WalksInside H) (InsideFails H other) terms s (any_handle terms_of.Types ty) (Ok u) terms1 s1
      → Extends terms1 terms2 → owned terms2.rows s2 → IsStoredFor (any_handle terms_of.Types ty) terms2.rows m → m ≡ any_handle terms_of.Types new
      → H.after_term (stands means terms1 s1) (tree_in terms1.rows (ty_shape ty)) (handle_tree terms1.rows u) (handle_tree terms2.rows m) (stands means terms2 s2)
      → Folds owned means (IsPartBy ty_shape) (tree_by ty_shape) (Descends H) (DescentFails H errors) terms s ty (Ok new) terms2 s2
  descent_ends {ty} m part d extends o is same after =
      let k = rw (fill-grows _ _ d.extends.rows (ty_shape ty) part, same) at after in
      let part_new = rw same at is.owned in
      record { extends = Extends-trans d.extends extends; is_owned = o; outcome = (part_new, rebuilt d.outcome.1 k) }

  -- a handle whose term or list fails as a value of its table
  pub stored_fails : {K : Type 0} {terms terms1 : Terms} {s s1 : S} {h : AnyHandle} {x : Handle K} {e : E} (l : TermTable) → h ≡ any_handle l x
      → Folds owned means (IsPartBy (λ (y : Handle K). handle_shape (any_handle l y))) (tree_by (λ (y : Handle K). handle_shape (any_handle l y))) (Walks H) (Fails H errors) terms s x (Err e) terms1 s1
      → Folds owned means (IsStoredFor h) handle_tree (Walks H) (Fails H errors) terms s h (Err e) terms1 s1
  stored_fails l same d = rw same (record { extends = d.extends; is_owned = d.is_owned; outcome = d.outcome })

  -- it comes to the term or list that the value comes to
  pub stored_folds : {K : Type 0} {terms terms1 : Terms} {s s1 : S} {h : AnyHandle} {x new : Handle K} (l : TermTable) → h ≡ any_handle l x
      → Folds owned means (IsPartBy (λ (y : Handle K). handle_shape (any_handle l y))) (tree_by (λ (y : Handle K). handle_shape (any_handle l y))) (Walks H) (Fails H errors) terms s x (Ok new) terms1 s1
      → Folds owned means (IsStoredFor h) handle_tree (Walks H) (Fails H errors) terms s h (Ok (any_handle l new)) terms1 s1
  stored_folds l same d = rw same (record { extends = d.extends; is_owned = d.is_owned; outcome = (record { owned = d.outcome.0; like = refl }, d.outcome.1) })

  -- a child that is a term or a list
  pub child_not_folded : {terms terms1 : Terms} {s s1 : S} {c : Child} {h : AnyHandle} {e : E} → c ≡ child.Stored h
      → Folds owned means (IsStoredFor h) handle_tree (Walks H) (Fails H errors) terms s h (Err e) terms1 s1
      → Folds owned means (IsChildFor c) child_trees (WalksAll H) (ChildFails H errors) terms s c (Err e) terms1 s1
  child_not_folded {terms} {h} same d =
      rw same (record { extends = d.extends; is_owned = d.is_owned; outcome = rw (one_tree terms.rows (handle_shape h)) (child_failed d.outcome) })

  -- it comes to the term or list that comes of it
  pub child_folded : {terms terms1 : Terms} {s s1 : S} {c : Child} {h y : AnyHandle} → c ≡ child.Stored h
      → Folds owned means (IsStoredFor h) handle_tree (Walks H) (Fails H errors) terms s h (Ok y) terms1 s1
      → Folds owned means (IsChildFor c) child_trees (WalksAll H) (ChildFails H errors) terms s c (Ok (child.Stored y)) terms1 s1
  child_folded {terms} {terms1} {h} {y} same d =
      rw same (record { extends = d.extends; is_owned = d.is_owned; outcome = (stored_for d.outcome.0, stored_walks terms.rows terms1.rows h y d.outcome.1) })

  -- a child that is a region
  pub region_not_folded : {terms terms1 : Terms} {s s1 : S} {c : Child} {x : RegionKind} {e : E} → c ≡ child.Region x → Extends terms terms1 → owned terms1.rows s1
      → H.region_fails errors.unbuilt (stands means terms s) (tree_in terms.rows (region_shape x)) e (stands means terms1 s1)
      → Folds owned means (IsChildFor c) child_trees (WalksAll H) (ChildFails H errors) terms s c (Err e) terms1 s1
  region_not_folded {terms} {x} same extends o h =
      rw same (record { extends = extends; is_owned = o; outcome = rw (one_tree terms.rows (region_shape x)) (child_failed (region_falls terms.rows x h)) })

  -- it comes to what the region's hook returns
  pub region_folded : {terms terms1 : Terms} {s s1 : S} {c : Child} {x y : RegionKind} → c ≡ child.Region x → Extends terms terms1 → owned terms1.rows s1 → IsPartOf terms1.rows (region_shape y)
      → H.on_region (stands means terms s) (tree_in terms.rows (region_shape x)) (tree_in terms1.rows (region_shape y)) (stands means terms1 s1)
      → Folds owned means (IsChildFor c) child_trees (WalksAll H) (ChildFails H errors) terms s c (Ok (child.Region y)) terms1 s1
  region_folded {terms} {terms1} {x} {y} same extends o part h =
      rw same (record { extends = extends; is_owned = o; outcome = (region_for part, region_walks terms.rows terms1.rows x y h) })

  -- an absent child stays absent
  pub absent_folded : {terms : Terms} {s : S} {c : Child} → c ≡ child.Absent → owned terms.rows s
      → Folds owned means (IsChildFor c) child_trees (WalksAll H) (ChildFails H errors) terms s c (Ok child.Absent) terms s
  absent_folded {terms} same o =
      rw same (record { extends = Extends-refl terms; is_owned = o; outcome = (absent_for terms.rows, absent_walks terms.rows terms.rows) })

  -- the contents of a term aren't walked if its binder isn't entered
  pub not_entered : {terms terms1 : Terms} {s s1 : S} {b : Option BoundVarKinds} {e : E} (n : AnyHandle) (k : Kind)
      → meaning terms.rows (term_table n.table) n.number ≡ fill (meaning terms.rows) (kind_shape k) → IsInner (kind_form k)
      → b ≡ form_binder (kind_form k)
      → Goes owned means (λ _ _ m m'. Opens H (binder_in terms.rows b) m m') (EnterFails H errors (binder_in terms.rows b)) terms s (unit_err e) terms1 s1
      → Folds owned means (IsStoredFor n) handle_tree (WalksInside H) (InsideFails H errors) terms s n (Err e) terms1 s1
  not_entered {terms} n k is inner vars_are d =
      let f = kind_form k in
      let tree = stored_tree terms.rows (term_table n.table) n.number ∙ is ∙ form_whole terms.rows (kind_sort k) f inner in
      let fails = rw (vars_are, ← form_binder_of terms.rows f) at d.outcome in
      record { extends = d.extends; is_owned = d.is_owned; outcome = rw tree (enter_fails_inside (form_outline terms.rows f) _ (form_any terms.rows f inner) fails) }

  -- they are next once it is
  pub entered : {terms terms1 : Terms} {s s1 : S} {b : Option BoundVarKinds} {p : Parts} (n : AnyHandle) (k : Kind) → IsTrue (is_term n.table) → IsPartOf terms.rows (handle_shape n)
      → meaning terms.rows (term_table n.table) n.number ≡ fill (meaning terms.rows) (kind_shape k)
      → HasParts (size terms.rows) (kind_shape k) → IsInner (kind_form k)
      → b ≡ form_binder (kind_form k) → p ≡ form_parts (kind_form k)
      → Goes owned means (λ _ _ m m'. Opens H (binder_in terms.rows b) m m') (EnterFails H errors (binder_in terms.rows b)) terms s (Ok (tt {0})) terms1 s1
      → IsEntered owned means H terms s n (form_outline terms.rows (kind_form k)) b p terms1 s1
  entered {terms} {b} {p} n k term part is named inner vars_are parts_are d =
      let f = kind_form k in
      let form_tree = stored_tree terms.rows (term_table n.table) n.number ∙ is ∙ form_whole terms.rows (kind_sort k) f inner in
      let tree : handle_tree terms.rows n ≡ whole (form_outline terms.rows f) (parts_trees terms.rows p) = rw parts_are form_tree in
      record {
        extends = d.extends;
        is_owned = d.is_owned;
        tree = tree;
        any = form_any terms.rows f inner;
        wanted = form_wanted terms.rows f inner;
        no_part = subst (λ t. root t ≡ a_part → ⊥) tree (stored_no_part terms.rows n term part);
        opens = rw (vars_are, ← form_binder_of terms.rows f) at d.outcome;
        binder = rw vars_are (form_binder_of terms.rows f);
        vars = rw vars_are (form-binder terms.rows (kind_sort k) f named);
        parts = rw parts_are (form-parts terms.rows (kind_sort k) f named);
      }

  -- the contents fail if a child fails
  pub contents_fail_in_parts : {terms terms1 terms2 : Terms} {s s1 s2 : S} {n : AnyHandle} {o : Outline} {b : Option BoundVarKinds} {p : Parts} {e : E}
      → IsEntered owned means H terms s n o b p terms1 s1
      → Folds owned means (ArePartsFor p) parts_trees (WalksAll H) (FailsAll H errors any_trees) terms1 s1 p (Err e) terms2 s2
      → Folds owned means (IsStoredFor n) handle_tree (WalksInside H) (InsideFails H errors) terms s n (Err e) terms2 s2
  contents_fail_in_parts {p} i f =
      let fails = rw (fill_all-grows _ _ i.extends.rows (parts_shapes p) i.parts, ← i.wanted) at f.outcome in
      record { extends = Extends-trans i.extends f.extends; is_owned = f.is_owned; outcome = rw i.tree (inside_rest_fails _ i.any i.no_part i.opens (in_children fails)) }

  -- they fail if the binder isn't left
  pub contents_not_left : {terms terms1 terms2 terms3 : Terms} {s s1 s2 s3 : S} {n : AnyHandle} {o : Outline} {b : Option BoundVarKinds} {p q : Parts} {e : E} {other : Errors E}
      → IsEntered owned means H terms s n o b p terms1 s1
      → Folds owned means (ArePartsFor p) parts_trees (WalksAll H) (FailsAll H other any_trees) terms1 s1 p (Ok q) terms2 s2
      → Goes owned means (λ _ _ m m'. Leaves H (binder_in terms2.rows b) m m') (LeaveFails H errors (binder_in terms2.rows b)) terms2 s2 (unit_err e) terms3 s3
      → Folds owned means (IsStoredFor n) handle_tree (WalksInside H) (InsideFails H errors) terms s n (Err e) terms3 s3
  contents_not_left {b} {p} i f d =
      let walked = rw (fill_all-grows _ _ i.extends.rows (parts_shapes p) i.parts) at f.outcome.1 in
      let fails = rw (binder-grows (Extends-trans i.extends f.extends).rows b i.vars, ← i.binder) at d.outcome in
      record {
        extends = Extends-trans (Extends-trans i.extends f.extends) d.extends;
        is_owned = d.is_owned;
        outcome = rw i.tree (inside_rest_fails _ i.any i.no_part i.opens (in_whole walked (not_left fails)));
      }

  -- they fail if the term with the results is not stored
  pub contents_not_stored : {terms terms1 terms2 terms3 terms4 : Terms} {s s1 s2 s3 : S} {n : AnyHandle} {o : Outline} {b : Option BoundVarKinds} {p q : Parts} {e : E} {other another : Errors E} (u : Tree Depth)
      → IsEntered owned means H terms s n o b p terms1 s1
      → Folds owned means (ArePartsFor p) parts_trees (WalksAll H) (FailsAll H other any_trees) terms1 s1 p (Ok q) terms2 s2
      → Goes owned means (λ _ _ m m'. Leaves H (binder_in terms2.rows b) m m') (LeaveFails H another (binder_in terms2.rows b)) terms2 s2 (Ok (tt {0})) terms3 s3
      → u ≡ whole o (parts_trees terms2.rows q) → terms4 ≡ terms3 → errors.unbuilt u e
      → Folds owned means (IsStoredFor n) handle_tree (WalksInside H) (InsideFails H errors) terms s n (Err e) terms4 s3
  contents_not_stored {b} {p} u i f d built same unbuilt =
      let walked = rw (fill_all-grows _ _ i.extends.rows (parts_shapes p) i.parts) at f.outcome.1 in
      let leaves = rw (binder-grows (Extends-trans i.extends f.extends).rows b i.vars, ← i.binder) at d.outcome in
      let missing = rw built at unbuilt in
      rw same (record {
        extends = Extends-trans (Extends-trans i.extends f.extends) d.extends;
        is_owned = d.is_owned;
        outcome = rw i.tree (inside_rest_fails _ i.any i.no_part i.opens (in_whole walked (not_rebuilt (rw i.wanted (λ h. h)) leaves missing)));
      })

  -- they are walked if it is
  pub contents_stored : {terms terms1 terms2 terms3 terms4 : Terms} {s s1 s2 s3 : S} {n u : AnyHandle} {o : Outline} {b : Option BoundVarKinds} {p q : Parts} {other another : Errors E}
      → IsEntered owned means H terms s n o b p terms1 s1
      → Folds owned means (ArePartsFor p) parts_trees (WalksAll H) (FailsAll H other any_trees) terms1 s1 p (Ok q) terms2 s2
      → Goes owned means (λ _ _ m m'. Leaves H (binder_in terms2.rows b) m m') (LeaveFails H another (binder_in terms2.rows b)) terms2 s2 (Ok (tt {0})) terms3 s3
      → handle_tree terms4.rows u ≡ whole o (parts_trees terms2.rows q) → IsStoredFor n terms4.rows u
      → Extends terms3 terms4 → owned terms4.rows s3 → stands means terms4 s3 ≡ stands means terms3 s3
      → Folds owned means (IsStoredFor n) handle_tree (WalksInside H) (InsideFails H errors) terms s n (Ok u) terms4 s3
  contents_stored {b} {p} i f d built is extends o still =
      let walked = rw (fill_all-grows _ _ i.extends.rows (parts_shapes p) i.parts) at f.outcome.1 in
      let leaves = rw (binder-grows (Extends-trans i.extends f.extends).rows b i.vars, ← i.binder) at d.outcome in
      record {
        extends = Extends-trans (Extends-trans (Extends-trans i.extends f.extends) d.extends) extends;
        is_owned = o;
        outcome = (is, rw (i.tree, built, still) (walks_contents _ i.any i.no_part i.opens walked (rebuilds (rw i.wanted (λ h. h)) leaves)));
      }

-- the tree of a kind with other children
pub refilled_tree : {rows rows2 rows3 : Listed Row} (k j : Kind) (q : Parts) → Grows rows rows3 → Grows rows2 rows3 → HasParts (size rows) (kind_shape k) → IsInner (kind_form k)
    → ArePartsOf rows2 (parts_shapes q) → kind_form j ≡ refilled q (kind_form k) → kind_sort j ≡ kind_sort k
    → tree_in rows3 (kind_shape j) ≡ whole (form_outline rows (kind_form k)) (parts_trees rows2 q)
refilled_tree {rows} {rows2} {rows3} k j q g g2 named inner parts same_form same_sort =
    let f = kind_form k in
    let outline : form_outline rows3 f ≡ form_outline rows f = form_outline-grows g f (form-labels rows rows3 g (kind_sort k) f named) (form-binder rows (kind_sort k) f named) in
    let trees : trees_in rows3 (parts_shapes q) ≡ parts_trees rows2 q = fill_all-grows rows2 rows3 g2 (parts_shapes q) parts in
    ap (λ s. tree_in rows3 (form_shape s (kind_form j))) same_sort ∙ ap (λ x. tree_in rows3 (form_shape (kind_sort k) x)) same_form
    ∙ refilled_whole rows3 (kind_sort k) q f inner ∙ rw (outline, trees) refl

-- why a list of types was not stored
pub tys_not_stored : (terms : Terms) (list : Listed Ty) (r : Refusal) → ArePartsOf terms.rows (item_shapes ty_shape list) → IsCause terms (tys_row list) r
    → IsUnbuilt terms (tree_in terms.rows (row_shape (tys_row list))) r
tys_not_stored terms list Memory parts h = tt
tys_not_stored terms list TableFull parts h = record { row = tys_row list; fills = refl; parts = (tt, parts); new = h.0; full = h.1 }
tys_not_stored terms list GreatestIndex parts h = absurd h
tys_not_stored terms list _ parts h = absurd h

-- lists of types
list_tree_is : (rows : Listed Row) (list : Listed Ty) → tree_in rows (row_shape (tys_row list)) ≡ tree.node (list_label TypeLists) (trees_in rows (item_shapes ty_shape list))
unfolding fill
list_tree_is rows list = refl

list_tree_of : (rows : Listed Row) (tys : Tys) → tree_in rows (tys_shape tys) ≡ meaning rows TypeLists tys.number
list_tree_of rows tys = stored_tree rows TypeLists tys.number

list_parts : (rows : Listed Row) (list : Listed Ty) → HasParts (size rows) (row_shape (tys_row list)) → ArePartsOf rows (item_shapes ty_shape list)
list_parts rows list h = h.1

-- a list has one row
same_items : (rows : Listed Row) (xs ys : Listed Ty) (n : ℕ) → IsAt rows (tys_row xs) n → IsAt rows (tys_row ys) n → xs ≡ ys
same_items rows xs ys n p q = (let e : Some (tys_row xs) ≡ Some (tys_row ys) = sym p ∙ q in cc)

module _ {M E S : Type 0} {owned : Listed Row → S → Type 0} {means : Listed Row → S → M} {H : Hooks (Standing M) E} where
  -- at the start no type of a list is folded
  pub types_none : {terms : Terms} {s : S} {tys : Tys} {count : ℕ} {types : Listed Ty} (list : Listed Ty) → owned terms.rows s → Reads terms.rows TypeLists tys.number (tys_row list) → count ≡ length list → types ≡ []
      → FoldsTypes owned means H terms s tys count 0 types terms s
  types_none {terms} {tys} list o r counted empty = record {
    list = list;
    row = r.row;
    counted = counted;
    parts = list_parts terms.rows list r.parts;
    tree = list_tree_of terms.rows tys ∙ r.means ∙ list_tree_is terms.rows list;
    folded = values_none ty_shape o empty refl;
  }

  -- the next type is below the count
  pub types_inside : {terms terms1 : Terms} {s s1 : S} {tys : Tys} {count next : ℕ} {types : Listed Ty} → FoldsTypes owned means H terms s tys count next types terms1 s1 → next < count
      → (list : Listed Ty) → IsAt terms1.rows (tys_row list) tys.number → next < length list
  types_inside {terms1} {tys} h below list at =
      let same = same_items terms1.rows list h.list tys.number at (IsAt-grows _ _ h.folded.extends.rows _ _ h.row) in
      omega (arith, below, h.counted, ap length same)

  -- the type that is next
  next_type : {terms terms1 : Terms} {s s1 : S} {tys : Tys} {count next : ℕ} {types : Listed Ty} {ty : Ty} → (h : FoldsTypes owned means H terms s tys count next types terms1 s1)
      → ((list : Listed Ty) → IsAt terms1.rows (tys_row list) tys.number → slice_get list next ≡ Some ty)
      → drop next h.list ≡ ty ∷ drop (next + 1) h.list
  next_type {next} {ty} h is =
      let e = is h.list (IsAt-grows _ _ h.folded.extends.rows _ _ h.row) in
      drop_more h.list next ty (slice_get_within h.list next ty e) ∙ ap (λ x. x ∷ drop (next + 1) h.list) (get_or_from_slice_get h.list next ty ty e)

  -- it is in range
  pub next_in_range : {terms terms1 : Terms} {s s1 : S} {tys : Tys} {count next : ℕ} {types : Listed Ty} {ty : Ty} → FoldsTypes owned means H terms s tys count next types terms1 s1
      → ((list : Listed Ty) → IsAt terms1.rows (tys_row list) tys.number → slice_get list next ≡ Some ty)
      → IsPartOf terms1.rows (ty_shape ty)
  next_in_range {terms} {ty} h is =
      IsPart-grows _ _ h.folded.extends.rows (ty_shape ty) (value_part ty_shape (sequence-part ty_shape terms.rows h.list h.parts) h.folded (next_type h is))

  -- it was folded
  pub types_more : {terms terms1 terms2 : Terms} {s s1 s2 : S} {tys : Tys} {count next : ℕ} {types more : Listed Ty} {ty new : Ty} {other : Errors E}
      → FoldsTypes owned means H terms s tys count next types terms1 s1
      → ((list : Listed Ty) → IsAt terms1.rows (tys_row list) tys.number → slice_get list next ≡ Some ty)
      → Folds owned means (IsPartBy ty_shape) (tree_by ty_shape) (Walks H) (Fails H other) terms1 s1 ty (Ok new) terms2 s2
      → more ≡ types ++ new ∷ [] → FoldsTypes owned means H terms s tys count (next + 1) more terms2 s2
  types_more {terms} h is d pushed = record {
    list = h.list;
    row = h.row;
    counted = h.counted;
    parts = h.parts;
    tree = h.tree;
    folded = values_more ty_shape (sequence-part ty_shape terms.rows h.list h.parts) h.folded (next_type h is) d pushed;
  }

  module _ {errors : Errors E} where
    -- the list fails if it fails
    pub types_one_fails : {terms terms1 terms2 : Terms} {s s1 s2 : S} {tys : Tys} {count next : ℕ} {types : Listed Ty} {ty : Ty} {e : E}
        → FoldsTypes owned means H terms s tys count next types terms1 s1
        → ((list : Listed Ty) → IsAt terms1.rows (tys_row list) tys.number → slice_get list next ≡ Some ty)
        → Folds owned means (IsPartBy ty_shape) (tree_by ty_shape) (Walks H) (Fails H errors) terms1 s1 ty (Err e) terms2 s2
        → Folds owned means (IsPartBy tys_shape) (tree_by tys_shape) (Walks H) (Fails H errors) terms s tys (Err e) terms2 s2
    unfolding fill
    types_one_fails {terms} {next} {ty} h is d =
        let p = h.folded in
        let taken = next_type h is in
        let split : h.list ≡ p.front ++ ty ∷ drop (next + 1) h.list = p.split ∙ ap (λ r. p.front ++ r) taken in
        let fails = rw (fill-grows _ _ p.extends.rows (ty_shape ty) (value_part ty_shape (sequence-part ty_shape terms.rows h.list h.parts) p taken)) at d.outcome in
        let trees : trees_in terms.rows (item_shapes ty_shape h.list) ≡ joined_trees (trees_in terms.rows (item_shapes ty_shape p.front)) (trees_in terms.rows (item_shapes ty_shape (ty ∷ drop (next + 1) h.list))) =
        ap (λ xs. trees_in terms.rows (item_shapes ty_shape xs)) split ∙ trees-append ty_shape terms.rows p.front (ty ∷ drop (next + 1) h.list) in
        record { extends = Extends-trans p.extends d.extends; is_owned = d.is_owned; outcome = rw (h.tree, trees) (node_failed (FailsAll-append p.walked (λ x. x) (here fails))) }

    -- the list fails if the memory for a result is refused
    pub types_stop : {terms terms1 : Terms} {s s1 : S} {tys : Tys} {count next : ℕ} {types : Listed Ty} {e : E}
        → FoldsTypes owned means H terms s tys count next types terms1 s1 → ((u : Tree Depth) → errors.unbuilt u e)
        → Folds owned means (IsPartBy tys_shape) (tree_by tys_shape) (Walks H) (Fails H errors) terms s tys (Err e) terms1 s1
    types_stop {terms} {next} h unbuilt =
        let p = h.folded in
        let trees : trees_in terms.rows (item_shapes ty_shape h.list) ≡ joined_trees (trees_in terms.rows (item_shapes ty_shape p.front)) (trees_in terms.rows (item_shapes ty_shape (drop next h.list))) =
        ap (λ xs. trees_in terms.rows (item_shapes ty_shape xs)) p.split ∙ trees-append ty_shape terms.rows p.front (drop next h.list) in
        record { extends = p.extends; is_owned = p.is_owned; outcome = rw (h.tree, trees) (node_failed (FailsAll-append p.walked (λ x. x) (stopped unbuilt))) }

  -- all types of the list were folded
  types_all : {terms terms1 : Terms} {s s1 : S} {tys : Tys} {count next : ℕ} {types : Listed Ty} → (h : FoldsTypes owned means H terms s tys count next types terms1 s1) → count ≤ next → h.list ≡ h.folded.front
  types_all {next} h all =
      let none : drop next h.list ≡ [] = drop_of_length-le h.list (omega (arith, all, h.counted)) in
      h.folded.split ∙ ap (λ r. h.folded.front ++ r) none ∙ append-nil h.folded.front

  module _ {errors : Errors E} where
    -- the list of the results is not stored
    pub types_not_stored : {terms terms1 terms2 : Terms} {s s1 : S} {tys : Tys} {count next : ℕ} {types : Listed Ty} {e : E}
        → FoldsTypes owned means H terms s tys count next types terms1 s1 → count ≤ next → terms2 ≡ terms1
        → errors.unbuilt (tree_in terms1.rows (row_shape (tys_row types))) e
        → Folds owned means (IsPartBy tys_shape) (tree_by tys_shape) (Walks H) (Fails H errors) terms s tys (Err e) terms2 s1
    types_not_stored {terms} {terms1} {types} h all same unbuilt =
        let walked = rw (← types_all h all) at h.folded.walked in
        let missing = rw (list_tree_is terms1.rows types) at unbuilt in
        rw same (record { extends = h.folded.extends; is_owned = h.folded.is_owned; outcome = rw h.tree (node_not_built walked missing) })

    -- or it is
    pub types_stored : {terms terms1 terms2 : Terms} {s s1 : S} {tys new : Tys} {count next : ℕ} {types : Listed Ty}
        → FoldsTypes owned means H terms s tys count next types terms1 s1 → count ≤ next
        → Extends terms1 terms2 → owned terms2.rows s1 → stands means terms2 s1 ≡ stands means terms1 s1
        → new.number < size terms2.rows (row_table (tys_row types))
        → meaning terms2.rows (row_table (tys_row types)) new.number ≡ fill (meaning terms1.rows) (row_shape (tys_row types))
        → Folds owned means (IsPartBy tys_shape) (tree_by tys_shape) (Walks H) (Fails H errors) terms s tys (Ok new) terms2 s1
    types_stored {terms} {terms1} {terms2} {new} {types} h all extends o still in_range means_row =
        let walked = rw (← types_all h all) at h.folded.walked in
        let built = list_tree_of terms2.rows new ∙ means_row ∙ list_tree_is terms1.rows types in
        record {
          extends = Extends-trans h.folded.extends extends;
          is_owned = o;
          outcome = (in_range, rw (h.tree, built, still) (at_node walked (λ x. x)));
        }
