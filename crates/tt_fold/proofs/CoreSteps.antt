-- The hooks of each table's terms, as hooks of stored terms.
use Rattle.std.proofs.Common.{◌≡◌, List, Result, Ok, Err, MatchResult, refl}
use Rattle.tt_kinds.specs.Tree.{Depth, Tree}
use Rattle.tt_kinds.specs.Shape.{Shape}
use Rattle.tt_kinds.specs.Handle.{any_handle}
use Rattle.tt_kinds.specs.Kinds.{handle_shape}
use Rattle.tt_kinds.specs.declared.handle.AnyHandle.{AnyHandle}
use Rattle.tt_kinds.specs.declared.handle.Handle.{Handle}
use Rattle.tt_kinds.specs.declared.table.TermTable.{TermTable}
use Rattle.tt_interner.specs.Rows.{Row}
use Rattle.tt_interner.specs.Stored.{Terms, Extends}
use Rattle.tt_fold.specs.Walk.{Hooks}
use Rattle.tt_fold.specs.Counts.{Standing, stands}
use Rattle.tt_fold.specs.Steps.{Goes, IsPartOf, tree_in, answer_of, OwnsStep}
use Rattle.tt_fold.specs.Parts.{handle_tree, IsStoredFor, IsStepFor, map_ok, map_step}
use Rattle.tt_fold.specs.declared.folder.Step.{Step}
use Rattle.tt_fold.specs.declared.folder.Step.TheVariants as step

module _ {K : Type 0} (l : TermTable) where
  -- the shape of a handle of the table
  abbrev typed_shape : Handle K → Shape
  typed_shape x = handle_shape (any_handle l x)

  step_is_for : (rows : List Row) (h : AnyHandle) (x : Handle K) (p : Step (Handle K)) → h ≡ any_handle l x → OwnsStep typed_shape rows p → IsStepFor h rows (map_step (any_handle l) p)
  step_is_for rows h x (step.Replace y) is part = rw is (record { owned = part; like = refl })
  step_is_for rows h x step.Keep is part = tt
  step_is_for rows h x step.Descend is part = tt

  step_answer : (rows : List Row) (p : Step (Handle K)) → answer_of handle_shape rows (map_step (any_handle l) p) ≡ answer_of typed_shape rows p
  step_answer rows (step.Replace y) = refl
  step_answer rows step.Keep = refl
  step_answer rows step.Descend = refl

  module _ {M E S : Type 0} {owned : List Row → S → Type 0} {means : List Row → S → M} (H : Hooks (Standing M) E) {unbuilt : Tree Depth → E → Type 0} {terms terms1 : Terms} {s s1 : S} where
    -- before a term
    pub asks : {h : AnyHandle} (x : Handle K) (r : Result (Step (Handle K)) E) → h ≡ any_handle l x → Extends terms terms1 → owned terms1.rows s1
        → MatchResult r
        (λ p. OwnsStep typed_shape terms1.rows p × H.on_term (stands means terms s) (tree_in terms.rows (typed_shape x)) (answer_of typed_shape terms1.rows p) (stands means terms1 s1))
        (λ e. H.term_fails unbuilt (stands means terms s) (tree_in terms.rows (typed_shape x)) e (stands means terms1 s1))
        → Goes owned means
        (λ rows p m m'. IsStepFor h rows p × H.on_term m (handle_tree terms.rows h) (answer_of handle_shape rows p) m')
        (λ m e m'. H.term_fails unbuilt m (handle_tree terms.rows h) e m')
        terms s (map_ok (map_step (any_handle l)) r) terms1 s1
    asks {h} x (Ok p) is extends o k = record {
      extends = extends;
      is_owned = o;
      outcome = (step_is_for terms1.rows h x p is k.0, rw (is, step_answer terms1.rows p) k.1);
    }
    asks {h} x (Err e) is extends o k = record { extends = extends; is_owned = o; outcome = rw is k }

    -- after a term
    pub asks_after : {h q : AnyHandle} (x y : Handle K) (r : Result (Handle K) E) → h ≡ any_handle l x → q ≡ any_handle l y → Extends terms terms1 → owned terms1.rows s1
        → MatchResult r
        (λ z. IsPartOf terms1.rows (typed_shape z) × H.after_term (stands means terms s) (tree_in terms.rows (typed_shape x)) (tree_in terms.rows (typed_shape y)) (tree_in terms1.rows (typed_shape z)) (stands means terms1 s1))
        (λ e. H.after_fails unbuilt (stands means terms s) (tree_in terms.rows (typed_shape x)) (tree_in terms.rows (typed_shape y)) e (stands means terms1 s1))
        → Goes owned means
        (λ rows z p p'. IsStoredFor h rows z × H.after_term p (handle_tree terms.rows h) (handle_tree terms.rows q) (handle_tree rows z) p')
        (λ p e p'. H.after_fails unbuilt p (handle_tree terms.rows h) (handle_tree terms.rows q) e p')
        terms s (map_ok (any_handle l) r) terms1 s1
    asks_after {h} x y (Ok z) is is_rebuilt extends o k = record {
      extends = extends;
      is_owned = o;
      outcome = (rw is (record { owned = k.0; like = refl }), rw (is, is_rebuilt) k.1);
    }
    asks_after {h} x y (Err e) is is_rebuilt extends o k = record { extends = extends; is_owned = o; outcome = rw (is, is_rebuilt) k }
