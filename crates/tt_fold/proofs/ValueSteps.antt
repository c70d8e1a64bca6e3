-- The folds of values that are not stored, from the same of their contents.
use Rattle.std.proofs.Common.{◌≡◌, List, Result, Ok, Err, MatchResult}
use Rattle.std.proofs.lemmas.Result.{MatchResult-weaker}
use Rattle.tt_kinds.specs.Tree.{Depth, Tree}
use Rattle.tt_kinds.specs.Shape.{Shape, stored, fill}
use Rattle.tt_kinds.specs.Handle.{any_handle}
use Rattle.tt_kinds.specs.TermTable.{term_table}
use Rattle.tt_kinds.specs.Kinds.{region_shape, binder_shape}
use Rattle.tt_kinds.specs.declared.handle.AnyHandle.{AnyHandle}
use Rattle.tt_kinds.specs.declared.handle.Handle.{Handle}
use Rattle.tt_kinds.specs.declared.table.Table.{Table}
use Rattle.tt_kinds.specs.declared.table.TermTable.{TermTable}
use Rattle.tt_kinds.specs.declared.binder.Binder.{Binder}
use Rattle.tt_kinds.specs.declared.region_kind.RegionKind.{RegionKind}
use Rattle.tt_interner.specs.Rows.{Row}
use Rattle.tt_interner.specs.Stored.{Terms, Extends}
use Rattle.tt_interner.proofs.Growth.{Extends-trans, IsPart-grows, fill-grows}
use Rattle.tt_fold.specs.Walk.{Errors, Hooks, Walks, at_region, at_binder, Fails, region_failed, enter_failed}
use Rattle.tt_fold.specs.Walk.{under_failed, leave_failed, WalksInside, InsideFails, SuperWalks, super_term}
use Rattle.tt_fold.specs.Walk.{super_binder, SuperFails, super_term_failed, super_binder_failed}
use Rattle.tt_fold.specs.Counts.{Standing, stands}
use Rattle.tt_fold.specs.Steps.{Folds, IsPartOf, tree_in, IsPartBy, tree_by, HasVars, vars_in}
use Rattle.tt_fold.specs.Parts.{handle_tree, IsStoredFor}
use Rattle.tt_fold.proofs.PartLaws.{vars-kept, vars-grow}
use Rattle.tt_fold.proofs.FoldSteps.{region-is}

-- the contents of the values
pub binder-has : {T : Type 0} (of_value : T → Shape) (rows : List Row) (x : Binder T) → IsPartBy (binder_shape of_value) rows x → HasVars rows x.bound_vars
binder-has of_value rows x h = h.0

-- if the handles in a value with its binder name rows, so do the handles in the value
pub binder-value : {T : Type 0} (of_value : T → Shape) (rows : List Row) (x : Binder T) → IsPartBy (binder_shape of_value) rows x → IsPartBy of_value rows x.value
binder-value of_value rows x h = h.1

binder-part : {T : Type 0} (of_value : T → Shape) (rows : List Row) (x : Binder T) → HasVars rows x.bound_vars → IsPartBy of_value rows x.value → IsPartBy (binder_shape of_value) rows x
binder-part of_value rows x h k = (h, k)

module _ {M E S : Type 0} {owned : List Row → S → Type 0} {means : List Row → S → M} {H : Hooks (Standing M) E} where
  -- a region is folded to what its hook returns, and the fold fails if the hook fails
  pub region_folds : {terms terms1 : Terms} {s s1 : S} (errors : Errors E) (x : RegionKind) (r : Result RegionKind E)
      → Extends terms terms1 → owned terms1.rows s1
      → MatchResult r
      (λ y. IsPartOf terms1.rows (region_shape y)
      × H.on_region (stands means terms s) (tree_in terms.rows (region_shape x)) (tree_in terms1.rows (region_shape y)) (stands means terms1 s1))
      (λ e. H.region_fails errors.unbuilt (stands means terms s) (tree_in terms.rows (region_shape x)) e (stands means terms1 s1))
      → Folds owned means (IsPartBy region_shape) (tree_by region_shape) (Walks H) (Fails H errors) terms s x r terms1 s1
  region_folds {terms} errors x r extends o d = record {
    extends = extends;
    is_owned = o;
    outcome = MatchResult-weaker r d (λ y h. (h.0, at_region (region-is terms.rows x) h.1)) (λ e h. region_failed (region-is terms.rows x) h);
  }

  module _ {errors : Errors E} where
    -- binders
    module _ {T : Type 0} (of_value : T → Shape) where
      -- the fold of a binder fails if the hook before its value fails
      pub binder_enter_fails : {terms terms1 : Terms} {s s1 : S} {x : Binder T} {e : E}
          → Extends terms terms1 → owned terms1.rows s1 → H.enter_fails errors.unbuilt (stands means terms s) (vars_in terms.rows x.bound_vars) e (stands means terms1 s1)
          → Folds owned means (IsPartBy (binder_shape of_value)) (tree_by (binder_shape of_value)) (Walks H) (Fails H errors) terms s x (Err e) terms1 s1
      unfolding fill
      binder_enter_fails extends o h = record { extends = extends; is_owned = o; outcome = enter_failed h }

      -- the fold of a binder fails if it is entered and the fold of its value fails
      pub binder_value_fails : {terms terms1 terms2 : Terms} {s s1 s2 : S} {x : Binder T} {e : E}
          → IsPartBy of_value terms.rows x.value → Extends terms terms1
          → H.enter (stands means terms s) (vars_in terms.rows x.bound_vars) (stands means terms1 s1)
          → Folds owned means (IsPartBy of_value) (tree_by of_value) (Walks H) (Fails H errors) terms1 s1 x.value (Err e) terms2 s2
          → Folds owned means (IsPartBy (binder_shape of_value)) (tree_by (binder_shape of_value)) (Walks H) (Fails H errors) terms s x (Err e) terms2 s2
      unfolding fill
      binder_value_fails {x} part extends enter d =
          let o = rw (fill-grows _ _ extends.rows (of_value x.value) part) at d.outcome in
          record { extends = Extends-trans extends d.extends; is_owned = d.is_owned; outcome = under_failed enter o }

      -- the fold of a binder fails if its value is folded and the hook after the value fails
      pub binder_leave_fails : {terms terms1 terms2 terms3 : Terms} {s s1 s2 s3 : S} {x : Binder T} {y : T} {e : E} {other : Errors E}
          → HasVars terms.rows x.bound_vars → IsPartBy of_value terms.rows x.value → Extends terms terms1
          → H.enter (stands means terms s) (vars_in terms.rows x.bound_vars) (stands means terms1 s1)
          → Folds owned means (IsPartBy of_value) (tree_by of_value) (Walks H) (Fails H other) terms1 s1 x.value (Ok y) terms2 s2
          → Extends terms2 terms3 → owned terms3.rows s3 → H.leave_fails errors.unbuilt (stands means terms2 s2) (vars_in terms2.rows x.bound_vars) e (stands means terms3 s3)
          → Folds owned means (IsPartBy (binder_shape of_value)) (tree_by (binder_shape of_value)) (Walks H) (Fails H errors) terms s x (Err e) terms3 s3
      unfolding fill
      binder_leave_fails {x} has part extends enter d more owned3 leave =
          let o = rw (fill-grows _ _ extends.rows (of_value x.value) part) at d.outcome in
          let l = rw (vars-grow (Extends-trans extends d.extends).rows x.bound_vars has) at leave in
          record { extends = Extends-trans extends (Extends-trans d.extends more); is_owned = owned3; outcome = leave_failed enter o.1 l }

      -- a binder is folded to the same variables around its value's result
      pub binder_folds : {terms terms1 terms2 terms3 : Terms} {s s1 s2 s3 : S} {x : Binder T} {y : T} {other : Errors E}
          → HasVars terms.rows x.bound_vars → IsPartBy of_value terms.rows x.value → Extends terms terms1
          → H.enter (stands means terms s) (vars_in terms.rows x.bound_vars) (stands means terms1 s1)
          → Folds owned means (IsPartBy of_value) (tree_by of_value) (Walks H) (Fails H other) terms1 s1 x.value (Ok y) terms2 s2
          → Extends terms2 terms3 → owned terms3.rows s3 → H.leave (stands means terms2 s2) (vars_in terms2.rows x.bound_vars) (stands means terms3 s3)
          → Folds owned means (IsPartBy (binder_shape of_value)) (tree_by (binder_shape of_value)) (Walks H) (Fails H errors) terms s x (Ok (record { value = y; bound_vars = x.bound_vars })) terms3 s3
      unfolding fill
      binder_folds {terms} {terms3} {x} {y} has part extends enter d more owned3 leave =
          let o = rw (fill-grows _ _ extends.rows (of_value x.value) part) at d.outcome in
          let before = Extends-trans extends d.extends in
          let l = rw (vars-grow before.rows x.bound_vars has) at leave in
          let whole = Extends-trans before more in
          let same_vars : vars_in terms3.rows x.bound_vars ≡ vars_in terms.rows x.bound_vars = vars-grow whole.rows x.bound_vars has in
          let same = fill-grows _ _ more.rows (of_value y) o.0 in
          record {
            extends = whole;
            is_owned = owned3;
            outcome = (
              binder-part of_value terms3.rows (record { value = y; bound_vars = x.bound_vars }) (vars-kept whole.rows x.bound_vars has) (IsPart-grows _ _ more.rows (of_value y) o.0),
              rw (same, same_vars) (at_binder enter o.1 l),
            );
          }

      -- without the binder's own hooks
      pub super_binder_fails : {terms terms1 : Terms} {s s1 : S} {x : Binder T} {e : E}
          → Folds owned means (IsPartBy of_value) (tree_by of_value) (Walks H) (Fails H errors) terms s x.value (Err e) terms1 s1
          → Folds owned means (IsPartBy (binder_shape of_value)) (tree_by (binder_shape of_value)) (SuperWalks H) (SuperFails H errors) terms s x (Err e) terms1 s1
      unfolding fill
      super_binder_fails d = record { extends = d.extends; is_owned = d.is_owned; outcome = super_binder_failed d.outcome }

      -- without its own hooks, a binder is folded to the same variables around its value's result
      pub super_binder_folds : {terms terms1 : Terms} {s s1 : S} {x : Binder T} {y : T}
          → HasVars terms.rows x.bound_vars
          → Folds owned means (IsPartBy of_value) (tree_by of_value) (Walks H) (Fails H errors) terms s x.value (Ok y) terms1 s1
          → Folds owned means (IsPartBy (binder_shape of_value)) (tree_by (binder_shape of_value)) (SuperWalks H) (SuperFails H errors) terms s x (Ok (record { value = y; bound_vars = x.bound_vars })) terms1 s1
      unfolding fill
      super_binder_folds {terms1} {x} {y} has d =
          let o = d.outcome in
          record {
            extends = d.extends;
            is_owned = d.is_owned;
            outcome = (
              binder-part of_value terms1.rows (record { value = y; bound_vars = x.bound_vars }) (vars-kept d.extends.rows x.bound_vars has) o.0,
              rw (vars-grow d.extends.rows x.bound_vars has) (super_binder o.1),
            );
          }

-- a handle of a table of terms or lists, by the walk of what is stored
module _ {K : Type 0} (l : TermTable) (t : Table) (same : term_table l ≡ t) {M E S : Type 0} {owned : List Row → S → Type 0} {means : List Row → S → M}
    {walks : Standing M → Tree Depth → Tree Depth → Standing M → Type 0} {fails : Standing M → Tree Depth → E → Standing M → Type 0} where
  -- the fold of a handle fails if the fold of what is stored fails
  pub handle_fails : {terms terms1 : Terms} {s s1 : S} {e : E} (x : Handle K)
      → Folds owned means (IsStoredFor (any_handle l x)) handle_tree walks fails terms s (any_handle l x) (Err e) terms1 s1
      → Folds owned means (IsPartBy (λ (y : Handle K). stored t y.number)) (tree_by (λ (y : Handle K). stored t y.number)) walks fails terms s x (Err e) terms1 s1
  handle_fails x d = rw (← same) (record { extends = d.extends; is_owned = d.is_owned; outcome = d.outcome })

  -- a handle is folded to the handle of what came of what is stored
  pub handle_folds : {terms terms1 : Terms} {s s1 : S} (x y : Handle K) {h : AnyHandle} → h ≡ any_handle l y
      → Folds owned means (IsStoredFor (any_handle l x)) handle_tree walks fails terms s (any_handle l x) (Ok h) terms1 s1
      → Folds owned means (IsPartBy (λ (z : Handle K). stored t z.number)) (tree_by (λ (z : Handle K). stored t z.number)) walks fails terms s x (Ok y) terms1 s1
  handle_folds x y is d =
      let o = rw is at d.outcome in
      rw (← same) (record { extends = d.extends; is_owned = d.is_owned; outcome = (o.0.owned, o.1) })

-- the walk inside a term is the walk without the hook at the term itself
pub super_stored : {M E S T : Type 0} {owned : List Row → S → Type 0} {means : List Row → S → M} {H : Hooks (Standing M) E} {errors : Errors E} {owns : List Row → T → Type 0} {tree : List Row → T → Tree Depth}
    {terms terms1 : Terms} {s s1 : S} {x : T} {r : Result T E}
    → Folds owned means owns tree (WalksInside H) (InsideFails H errors) terms s x r terms1 s1
    → Folds owned means owns tree (SuperWalks H) (SuperFails H errors) terms s x r terms1 s1
super_stored {r} d = record { extends = d.extends; is_owned = d.is_owned; outcome = MatchResult-weaker r d.outcome (λ y k. (k.0, super_term k.1)) (λ e k. super_term_failed k) }
