-- One step of a fold over plain variables: what the parts promise makes what the whole promises.
use Rattle.std.proofs.Common.{◌≡◌, ◌<◌, Result, Ok, Err, Option, Some, None, refl, ap, subst, ◌∙◌}
use Rattle.std.proofs.Common.{List as Listed}
use Rattle.std.proofs.lemmas.Result.{MatchResult-weaker}
use Rattle.tt_index.specs.declared.refusal.Refusal.{Refusal}
use Rattle.tt_index.specs.declared.refusal.Refusal.TheVariants.{Memory, TableFull, GreatestIndex, NotAClause}
use Rattle.tt_kinds.specs.TermTable.{term_table}
use Rattle.tt_kinds.specs.Kinds.{kind_shape, kind_table, handle_shape, region_shape, child_shapes}
use Rattle.tt_kinds.specs.Kinds.{parts_shapes}
use Rattle.tt_kinds.specs.Shape.{fill, HasParts, IsTooDeep}
use Rattle.tt_kinds.specs.Handle.{BoundVarKinds}
use Rattle.tt_kinds.specs.declared.region_kind.RegionKind.{RegionKind}
use Rattle.tt_kinds.specs.declared.handle.AnyHandle.{AnyHandle}
use Rattle.tt_kinds.specs.declared.table.TermTable.{TermTable}
use Rattle.tt_kinds.specs.declared.parts.Child.{Child}
use Rattle.tt_kinds.specs.declared.parts.Parts.{Parts}
use Rattle.tt_kinds.specs.declared.parts.Kind.{Kind}
use Rattle.tt_kinds.specs.declared.parts.Kind.TheVariants as kind
use Rattle.tt_interner.specs.Rows.{Row, row_table, row_shape, kind_row, size, meaning}
use Rattle.tt_interner.specs.Stored.{Terms, Extends, IsCause, IsUnbuilt}
use Rattle.tt_visit.proofs.VisitSteps.{root-region}
use Rattle.tt_fold.specs.Walk.{Errors, ChildFails, any_trees, IsRegion, Hooks, WalksAll, WalksUnder, in_open, in_binder}
use Rattle.tt_fold.specs.Walk.{FailsAll, FailsUnder, in_open_failed, in_under_failed, in_leave_failed}
use Rattle.tt_fold.specs.Counts.{Standing, stands}
use Rattle.tt_fold.specs.Steps.{Folds, IsPartOf, tree_in, HasVars, vars_in}
use Rattle.tt_fold.specs.Parts.{ArePartsOf, handle_tree, child_trees, parts_trees, IsStoredFor, IsChildFor}
use Rattle.tt_fold.specs.Parts.{ArePartsFor, binder_in}
use Rattle.tt_interner.proofs.Growth.{Extends-trans, AreParts-grows, fill_all-grows}
use Rattle.tt_fold.proofs.PartLaws.{is_part, in_range, stored_tree, append_parts, right_parts, append_trees, vars-grow}
use Rattle.tt_fold.proofs.WantedLaws.{child_fails}
use Rattle.tt_fold.proofs.WalkLaws.{WalksAll-append, FailsAll-append, FailsAll-before}

-- what a region is
pub region-is : (rows : Listed Row) (r : RegionKind) → IsRegion (tree_in rows (region_shape r))
region-is rows r = root-region (meaning rows) r

-- what a stored term is
pub stored_is_kind : (rows : Listed Row) (h : AnyHandle) (k : Kind) → meaning rows (term_table h.table) h.number ≡ fill (meaning rows) (kind_shape k) → handle_tree rows h ≡ tree_in rows (kind_shape k)
stored_is_kind rows h k is = stored_tree rows (term_table h.table) h.number ∙ is

-- a term that was stored
kind_row-table : (k : Kind) → row_table (kind_row k) ≡ term_table (kind_table k)
kind_row-table (kind.Ty k) = refl
kind_row-table (kind.Const k) = refl
kind_row-table (kind.Pat k) = refl
kind_row-table (kind.Predicate k) = refl
kind_row-table (kind.Existential k) = refl

kind_row-shape : (k : Kind) → row_shape (kind_row k) ≡ kind_shape k
kind_row-shape (kind.Ty k) = refl
kind_row-shape (kind.Const k) = refl
kind_row-shape (kind.Pat k) = refl
kind_row-shape (kind.Predicate k) = refl
kind_row-shape (kind.Existential k) = refl

-- a handle that is in range for a kind may be the result of a term, if the kind and the term are of one table
pub stored_term : (rows : Listed Row) (h u : AnyHandle) (k : Kind) → u.number < size rows (row_table (kind_row k)) → u.table ≡ kind_table k → kind_table k ≡ h.table → IsStoredFor h rows u
stored_term rows h u k lt t like =
    record { owned = is_part rows (term_table u.table) u.number (rw t (rw (kind_row-table k) at lt)); like = t ∙ like }

-- a handle that means the row of a kind has the kind's tree
pub stored_term_tree : (rows rows1 : Listed Row) (u : AnyHandle) (k : Kind) → meaning rows1 (row_table (kind_row k)) u.number ≡ fill (meaning rows) (row_shape (kind_row k)) → u.table ≡ kind_table k
    → handle_tree rows1 u ≡ tree_in rows (kind_shape k)
stored_term_tree rows rows1 u k h t =
    let m = rw (kind_row-table k, kind_row-shape k) at h in
    stored_tree rows1 (term_table u.table) u.number ∙ ap (λ x. meaning rows1 (term_table x) u.number) t ∙ m

-- why a term was not stored
pub not_stored : (terms : Terms) (k : Kind) (r : Refusal) → HasParts (size terms.rows) (kind_shape k) → (IsTooDeep (kind_shape k) → ⊥) → IsCause terms (kind_row k) r → IsUnbuilt terms (tree_in terms.rows (kind_shape k)) r
not_stored terms k Memory parts shallow h = tt
not_stored terms k TableFull parts shallow h = record {
  row = kind_row k;
  fills = ap (tree_in terms.rows) (kind_row-shape k);
  parts = rw (kind_row-shape k) parts;
  new = h.0;
  full = h.1;
}
not_stored terms k GreatestIndex parts shallow h = absurd (shallow (rw (kind_row-shape k) at h))
not_stored terms k _ parts shallow h = absurd h

-- a list that was stored
pub stored_list : (rows : Listed Row) (u : AnyHandle) (l : TermTable) → u.table ≡ l → u.number < size rows (term_table l) → IsPartOf rows (handle_shape u)
stored_list rows u l same h = is_part rows (term_table u.table) u.number (rw same h)

-- the tree of a list is what its number means in its table
pub stored_list_tree : (rows : Listed Row) (u : AnyHandle) (l : TermTable) → u.table ≡ l → handle_tree rows u ≡ meaning rows (term_table l) u.number
stored_list_tree rows u l same = stored_tree rows (term_table u.table) u.number ∙ ap (λ x. meaning rows (term_table x) u.number) same

-- if a refusal is `NotAClause`, an error that it gives is an error that `NotAClause` gives
pub gives_no_clause : {E : Type 0} (gives : Refusal → E → Type 0) (r : Refusal) (e : E) → r ≡ NotAClause → gives r e → gives NotAClause e
gives_no_clause gives r e same h = subst (λ x. gives x e) same h

-- the state means what it meant, and the counts are the same
pub stands-still : {M S : Type 0} (means : Listed Row → S → M) (terms terms1 : Terms) (s : S)
    → means terms1.rows s ≡ means terms.rows s → terms1.counters ≡ terms.counters → stands means terms1 s ≡ stands means terms s
stands-still means terms terms1 s m c = rw (m, c) refl

module _ {M E S : Type 0} {owned : Listed Row → S → Type 0} {means : Listed Row → S → M} {H : Hooks (Standing M) E} where
  module _ {errors : Errors E} where
    -- parts with no binder
    pub open_contents : {terms terms1 : Terms} {s s1 : S} {p : Parts} {r : Result Parts E} {b : Option BoundVarKinds}
        → b ≡ None
        → Folds owned means (ArePartsFor p) parts_trees (WalksAll H) (FailsAll H errors any_trees) terms s p r terms1 s1
        → Folds owned means (ArePartsFor p) parts_trees (WalksUnder H (binder_in terms.rows b)) (FailsUnder H errors (binder_in terms.rows b)) terms s p r terms1 s1
    open_contents {r} same d =
        rw same (record { extends = d.extends; is_owned = d.is_owned; outcome = MatchResult-weaker r d.outcome (λ y h. (h.0, in_open h.1)) (λ e h. in_open_failed h) })

    -- binders
    pub under_parts_fail : {terms terms1 terms2 : Terms} {s s1 s2 : S} {p : Parts} {e : E} (vars : BoundVarKinds)
        → ArePartsOf terms.rows (parts_shapes p) → Extends terms terms1 → H.enter (stands means terms s) (vars_in terms.rows vars) (stands means terms1 s1)
        → Folds owned means (ArePartsFor p) parts_trees (WalksAll H) (FailsAll H errors any_trees) terms1 s1 p (Err e) terms2 s2
        → Folds owned means (ArePartsFor p) parts_trees (WalksUnder H (Some (vars_in terms.rows vars))) (FailsUnder H errors (Some (vars_in terms.rows vars))) terms s p (Err e) terms2 s2
    under_parts_fail {p} vars owns extends enter d =
        let o = rw (fill_all-grows _ _ extends.rows (parts_shapes p) owns) at d.outcome in
        record { extends = Extends-trans extends d.extends; is_owned = d.is_owned; outcome = in_under_failed enter o }

    -- the fold of parts under a binder fails if the hook after the binder fails
    pub under_leave_fails : {terms terms1 terms2 terms3 : Terms} {s s1 s2 s3 : S} {p q : Parts} {e : E} (vars : BoundVarKinds) {other : Errors E}
        → HasVars terms.rows vars → ArePartsOf terms.rows (parts_shapes p) → Extends terms terms1
        → H.enter (stands means terms s) (vars_in terms.rows vars) (stands means terms1 s1)
        → Folds owned means (ArePartsFor p) parts_trees (WalksAll H) (FailsAll H other any_trees) terms1 s1 p (Ok q) terms2 s2
        → Extends terms2 terms3 → owned terms3.rows s3 → H.leave_fails errors.unbuilt (stands means terms2 s2) (vars_in terms2.rows vars) e (stands means terms3 s3)
        → Folds owned means (ArePartsFor p) parts_trees (WalksUnder H (Some (vars_in terms.rows vars))) (FailsUnder H errors (Some (vars_in terms.rows vars))) terms s p (Err e) terms3 s3
    under_leave_fails {p} vars has owns extends enter d more owned3 leave =
        let o = rw (fill_all-grows _ _ extends.rows (parts_shapes p) owns) at d.outcome in
        let l = rw (vars-grow (Extends-trans extends d.extends).rows vars has) at leave in
        record { extends = Extends-trans extends (Extends-trans d.extends more); is_owned = owned3; outcome = in_leave_failed enter o.1 l }

    -- parts are folded under a binder if it is entered, they are folded, and it is left
    pub under_folds : {terms terms1 terms2 terms3 : Terms} {s s1 s2 s3 : S} {p q : Parts} (vars : BoundVarKinds) {other : Errors E}
        → HasVars terms.rows vars → ArePartsOf terms.rows (parts_shapes p) → Extends terms terms1
        → H.enter (stands means terms s) (vars_in terms.rows vars) (stands means terms1 s1)
        → Folds owned means (ArePartsFor p) parts_trees (WalksAll H) (FailsAll H other any_trees) terms1 s1 p (Ok q) terms2 s2
        → Extends terms2 terms3 → owned terms3.rows s3 → H.leave (stands means terms2 s2) (vars_in terms2.rows vars) (stands means terms3 s3)
        → Folds owned means (ArePartsFor p) parts_trees (WalksUnder H (Some (vars_in terms.rows vars))) (FailsUnder H errors (Some (vars_in terms.rows vars))) terms s p (Ok q) terms3 s3
    under_folds {p} {q} vars has owns extends enter d more owned3 leave =
        let o = rw (fill_all-grows _ _ extends.rows (parts_shapes p) owns) at d.outcome in
        let l = rw (vars-grow (Extends-trans extends d.extends).rows vars has) at leave in
        record {
          extends = Extends-trans extends (Extends-trans d.extends more);
          is_owned = owned3;
          outcome = (
            record { owned = AreParts-grows _ _ more.rows (parts_shapes q) o.0.owned; like = o.0.like },
            rw (fill_all-grows _ _ more.rows (parts_shapes q) o.0.owned) (in_binder enter o.1 l),
          );
        }

    -- the two parts
    pub parts_first_fails : {terms terms1 : Terms} {s s1 : S} {p : Parts} {e : E}
        → Folds owned means (IsChildFor p.first) child_trees (WalksAll H) (ChildFails H errors) terms s p.first (Err e) terms1 s1
        → Folds owned means (ArePartsFor p) parts_trees (WalksAll H) (FailsAll H errors any_trees) terms s p (Err e) terms1 s1
    parts_first_fails {terms} {p} d =
        record { extends = d.extends; is_owned = d.is_owned; outcome = rw (append_trees terms.rows (child_shapes p.first) (child_shapes p.second)) (FailsAll-before _ (child_fails d.outcome)) }

    -- the fold of two parts fails if the first is folded and the fold of the second fails
    pub parts_second_fails : {terms terms1 terms2 : Terms} {s s1 s2 : S} {p : Parts} {x : Child} {e : E} {other : Errors E}
        → ArePartsOf terms.rows (parts_shapes p)
        → Folds owned means (IsChildFor p.first) child_trees (WalksAll H) (ChildFails H other) terms s p.first (Ok x) terms1 s1
        → Folds owned means (IsChildFor p.second) child_trees (WalksAll H) (ChildFails H errors) terms1 s1 p.second (Err e) terms2 s2
        → Folds owned means (ArePartsFor p) parts_trees (WalksAll H) (FailsAll H errors any_trees) terms s p (Err e) terms2 s2
    parts_second_fails {terms} {p} owns a b =
        let second = right_parts terms.rows (child_shapes p.first) (child_shapes p.second) owns in
        let o = rw (fill_all-grows _ _ a.extends.rows (child_shapes p.second) second) at b.outcome in
        record {
          extends = Extends-trans a.extends b.extends;
          is_owned = b.is_owned;
          outcome = rw (append_trees terms.rows (child_shapes p.first) (child_shapes p.second)) (FailsAll-append a.outcome.1 (λ h. h) (child_fails o));
        }

    -- two parts are folded if the first is folded and then the second
    pub parts_fold : {terms terms1 terms2 : Terms} {s s1 s2 : S} {p : Parts} {x y : Child} {other : Errors E}
        → ArePartsOf terms.rows (parts_shapes p)
        → Folds owned means (IsChildFor p.first) child_trees (WalksAll H) (ChildFails H other) terms s p.first (Ok x) terms1 s1
        → Folds owned means (IsChildFor p.second) child_trees (WalksAll H) (ChildFails H errors) terms1 s1 p.second (Ok y) terms2 s2
        → Folds owned means (ArePartsFor p) parts_trees (WalksAll H) (FailsAll H errors any_trees) terms s p (Ok (record { first = x; second = y })) terms2 s2
    parts_fold {terms} {terms2} {p} {x} {y} owns a b =
        let second = right_parts terms.rows (child_shapes p.first) (child_shapes p.second) owns in
        let o = rw (fill_all-grows _ _ a.extends.rows (child_shapes p.second) second) at b.outcome in
        let w = rw (← fill_all-grows _ _ b.extends.rows (child_shapes x) a.outcome.0.owned) at a.outcome.1 in
        record {
          extends = Extends-trans a.extends b.extends;
          is_owned = b.is_owned;
          outcome = (
            record {
              owned = append_parts terms2.rows (child_shapes x) (child_shapes y) (AreParts-grows _ _ b.extends.rows (child_shapes x) a.outcome.0.owned) o.0.owned;
              like = record { first = a.outcome.0.like; second = o.0.like };
            },
            rw (append_trees terms.rows (child_shapes p.first) (child_shapes p.second), append_trees terms2.rows (child_shapes x) (child_shapes y)) (WalksAll-append w o.1),
          );
        }
