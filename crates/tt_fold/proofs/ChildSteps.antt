-- The walk of a stored term or list from its begin to its end: what the calls promise makes what the whole promises.
use Rattle.std.proofs.Common.{◌≡◌, List, drop, Result, Ok, Err, Some, None, refl, ap, sym, subst, ◌∙◌}
use Rattle.std.proofs.lemmas.Result.{MatchResult-weaker}
use Rattle.std.specs.Prelude.{IsTrue}
use Rattle.tt_kinds.specs.Tree.{Depth, Tree}
use Rattle.tt_kinds.specs.TermTable.{is_term, term_table}
use Rattle.tt_kinds.specs.Kinds.{handle_shape}
use Rattle.tt_kinds.specs.declared.handle.AnyHandle.{AnyHandle}
use Rattle.tt_kinds.specs.declared.table.TermTable.{TermTable}
use Rattle.tt_kinds.specs.declared.table.TermTable.TheVariants as terms_of
use Rattle.tt_interner.specs.Rows.{Row}
use Rattle.tt_interner.specs.Stored.{Terms}
use Rattle.tt_interner.proofs.Growth.{Extends-trans, IsPart-grows, fill-grows}
use Rattle.tt_visit.specs.Root.{root, table_root, a_part}
use Rattle.tt_fold.specs.Walk.{Hooks, Errors, Walks, WalksInside, Fails, InsideFails}
use Rattle.tt_fold.specs.Counts.{Standing, stands}
use Rattle.tt_fold.specs.Steps.{Goes, Folds, IsPartOf}
use Rattle.tt_fold.specs.Still.{IsAlone, EndsAt}
use Rattle.tt_fold.specs.Parts.{children_trees, handle_tree, IsStoredFor}
use Rattle.tt_fold.specs.Stack.{whole, binder_of, TakesAny, Opens, Rests, RestFails, Finishes, FinishFails}
use Rattle.tt_fold.specs.Going.{outline_of, children_in, left_of, IsNewFrame, IsOpen, IsBegun}
use Rattle.tt_fold.specs.declared.stack.Begun.TheVariants as begun
use Rattle.tt_fold.specs.declared.stack.Frame.{Frame}
use Rattle.tt_fold.proofs.ItemSteps.{item_root, never_descends}
use Rattle.tt_fold.proofs.StackLaws.{walks_contents, walks_whole, inside_rest_fails, fails_whole, finish_fails}

-- a term is no list without a hook
term_no_part : (t : TermTable) → IsTrue (is_term t) → table_root (term_table t) ≡ a_part → ⊥
term_no_part terms_of.Types is e = cc
term_no_part terms_of.Consts is e = cc
term_no_part terms_of.Patterns is e = cc
term_no_part terms_of.Predicates is e = cc
term_no_part terms_of.Existentials is e = cc
term_no_part terms_of.ClauseLists is e = cc
term_no_part _ is e = cc

-- a stored term is no part of a term
pub stored_no_part : (rows : List Row) (h : AnyHandle) → IsTrue (is_term h.table) → IsPartOf rows (handle_shape h) → root (handle_tree rows h) ≡ a_part → ⊥
stored_no_part rows h is part e = term_no_part h.table is (sym (item_root rows h part) ∙ e)

-- the children of a frame that is opened
opened_tree : (old : List Row) {rows : List Row} {h : AnyHandle} {f : Frame} → handle_tree rows h ≡ handle_tree old h → IsNewFrame rows h f
    → handle_tree old h ≡ whole (outline_of rows f.handle) (left_of rows f)
opened_tree old {rows} {h} {f} same is =
    let left : left_of rows f ≡ children_trees rows (children_in rows f) = ap (λ k. children_trees rows (drop k (children_in rows f))) is.start in
    sym same ∙ ap (handle_tree rows) (sym is.same) ∙ is.is.tree ∙ ap (whole (outline_of rows f.handle)) (sym left)

module _ {M E S : Type 0} {owned : List Row → S → Type 0} {means : List Row → S → M} {H : Hooks (Standing M) E} where
  -- the result of what is inside a term or a list is of its table
  pub rest_is : {terms1 terms2 : Terms} {s1 s2 : S} {h y : AnyHandle} {f : Frame} {another : Errors E} → IsNewFrame terms1.rows h f
      → Goes owned means
      (λ rows z m m'. IsStoredFor f.handle rows z × Rests H (outline_of terms1.rows f.handle) (left_of terms1.rows f) m (handle_tree rows z) m')
      (RestFails H another (outline_of terms1.rows f.handle) (left_of terms1.rows f)) terms1 s1 (Ok y) terms2 s2
      → IsStoredFor h terms2.rows y
  rest_is {terms2} {y} opened w = subst (λ x. IsStoredFor x terms2.rows y) opened.same w.outcome.0

  -- where the walk ends at once, it is not inside
  pub never_inside : {terms terms1 : Terms} {s s1 : S} {h : AnyHandle} {f : Frame} {touches_nothing : Tree Depth → Type 0} {other : Errors E}
      → IsPartOf terms.rows (handle_shape h)
      → Goes owned means (IsBegun H (handle_tree terms.rows h) h) (λ m x m'. Fails H other m (handle_tree terms.rows h) x m') terms s (Ok (begun.Inside f)) terms1 s1
      → IsAlone (handle_shape h) → EndsAt H touches_nothing (stands means terms s) (handle_tree terms.rows h) → ⊥
  never_inside {terms} {h} part d alone ends = never_descends terms.rows h part alone ends d.outcome.1.asked

module _ {M E S : Type 0} {owned : List Row → S → Type 0} {means : List Row → S → M} {H : Hooks (Standing M) E} {errors : Errors E} where
  -- a term or a list that is done at once, or fails at once
  pub stored_not_begun : {terms terms1 : Terms} {s s1 : S} {h : AnyHandle} {e : E}
      → Goes owned means (IsBegun H (handle_tree terms.rows h) h) (λ m x m'. Fails H errors m (handle_tree terms.rows h) x m') terms s (Err e) terms1 s1
      → Folds owned means (IsStoredFor h) handle_tree (Walks H) (Fails H errors) terms s h (Err e) terms1 s1
  stored_not_begun d = record { extends = d.extends; is_owned = d.is_owned; outcome = d.outcome }

  -- a term or a list that came to another at once is folded to it
  pub stored_done : {terms terms1 : Terms} {s s1 : S} {h y : AnyHandle} {other : Errors E}
      → Goes owned means (IsBegun H (handle_tree terms.rows h) h) (λ m x m'. Fails H other m (handle_tree terms.rows h) x m') terms s (Ok (begun.Done y)) terms1 s1
      → Folds owned means (IsStoredFor h) handle_tree (Walks H) (Fails H errors) terms s h (Ok y) terms1 s1
  stored_done d = record { extends = d.extends; is_owned = d.is_owned; outcome = d.outcome }

  -- what is inside a term or a list fails
  pub stored_rest_fails : {terms terms1 terms2 : Terms} {s s1 s2 : S} {h : AnyHandle} {f : Frame} {e : E} {other : Errors E}
      → Goes owned means (IsBegun H (handle_tree terms.rows h) h) (λ m x m'. Fails H other m (handle_tree terms.rows h) x m') terms s (Ok (begun.Inside f)) terms1 s1
      → Goes owned means
      (λ rows y m m'. IsStoredFor f.handle rows y × Rests H (outline_of terms1.rows f.handle) (left_of terms1.rows f) m (handle_tree rows y) m')
      (RestFails H errors (outline_of terms1.rows f.handle) (left_of terms1.rows f)) terms1 s1 (Err e) terms2 s2
      → Folds owned means (IsStoredFor h) handle_tree (Walks H) (Fails H errors) terms s h (Err e) terms2 s2
  stored_rest_fails {terms1} {terms2} {s1} {s2} {f} {e} d r =
      let opened = d.outcome.0 in
      let k = subst (λ x. RestFails H errors (outline_of terms1.rows x) (left_of terms1.rows f) (stands means terms1 s1) e (stands means terms2 s2)) opened.same r.outcome in
      record { extends = Extends-trans d.extends r.extends; is_owned = r.is_owned; outcome = fails_whole d.outcome.1 k }

  -- the hook after the contents
  pub stored_ends : {terms terms1 terms2 terms3 : Terms} {s s1 s2 s3 : S} {h y : AnyHandle} {f : Frame} {r : Result AnyHandle E} {other another : Errors E} → IsPartOf terms.rows (handle_shape h)
      → Goes owned means (IsBegun H (handle_tree terms.rows h) h) (λ m x m'. Fails H other m (handle_tree terms.rows h) x m') terms s (Ok (begun.Inside f)) terms1 s1
      → Goes owned means
      (λ rows z m m'. IsStoredFor f.handle rows z × Rests H (outline_of terms1.rows f.handle) (left_of terms1.rows f) m (handle_tree rows z) m')
      (RestFails H another (outline_of terms1.rows f.handle) (left_of terms1.rows f)) terms1 s1 (Ok y) terms2 s2
      → Goes owned means
      (λ rows z m m'. IsStoredFor h rows z × Finishes H (handle_tree terms2.rows h) (handle_tree terms2.rows y) m (handle_tree rows z) m')
      (FinishFails H errors (handle_tree terms2.rows h) (handle_tree terms2.rows y)) terms2 s2 r terms3 s3
      → Folds owned means (IsStoredFor h) handle_tree (Walks H) (Fails H errors) terms s h r terms3 s3
  stored_ends {terms1} {terms2} {s1} {s2} {h} {y} {f = frame} {r} part d w f =
      let opened = d.outcome.0 in
      let rests = subst (λ x. Rests H (outline_of terms1.rows x) (left_of terms1.rows frame) (stands means terms1 s1) (handle_tree terms2.rows y) (stands means terms2 s2)) opened.same w.outcome.1 in
      let o = rw (fill-grows _ _ (Extends-trans d.extends w.extends).rows (handle_shape h) part) at f.outcome in
      record {
        extends = Extends-trans (Extends-trans d.extends w.extends) f.extends;
        is_owned = f.is_owned;
        outcome = MatchResult-weaker r o
            (λ z k. (k.0, walks_whole d.outcome.1 rests.walked rests.built k.1))
            (λ e k. finish_fails d.outcome.1 rests.walked rests.built k);
      }

  -- the contents of a term
  pub inside_not_open : {terms terms1 : Terms} {s s1 : S} {h : AnyHandle} {e : E}
      → Goes owned means (IsOpen H (handle_tree terms.rows h) h) (λ m x m'. InsideFails H errors m (handle_tree terms.rows h) x m') terms s (Err e) terms1 s1
      → Folds owned means (IsStoredFor h) handle_tree (WalksInside H) (InsideFails H errors) terms s h (Err e) terms1 s1
  inside_not_open d = record { extends = d.extends; is_owned = d.is_owned; outcome = d.outcome }

  -- the contents of a term are folded to the term itself if there is nothing to begin
  pub inside_none : {terms terms1 : Terms} {s s1 : S} {h : AnyHandle} {other : Errors E} → IsPartOf terms.rows (handle_shape h)
      → Goes owned means (IsOpen H (handle_tree terms.rows h) h) (λ m x m'. InsideFails H other m (handle_tree terms.rows h) x m') terms s (Ok None) terms1 s1
      → Folds owned means (IsStoredFor h) handle_tree (WalksInside H) (InsideFails H errors) terms s h (Ok h) terms1 s1
  inside_none {h} part d = record {
    extends = d.extends;
    is_owned = d.is_owned;
    outcome = (record { owned = IsPart-grows _ _ d.extends.rows (handle_shape h) part; like = refl }, rw (fill-grows _ _ d.extends.rows (handle_shape h) part) d.outcome);
  }

  -- the fold of a term's contents, once they were begun, is the walk of what is left of them
  pub inside_walks : {terms terms1 terms2 : Terms} {s s1 s2 : S} {h : AnyHandle} {f : Frame} {r : Result AnyHandle E} {other : Errors E} → IsTrue (is_term h.table) → IsPartOf terms.rows (handle_shape h)
      → Goes owned means (IsOpen H (handle_tree terms.rows h) h) (λ m x m'. InsideFails H other m (handle_tree terms.rows h) x m') terms s (Ok (Some f)) terms1 s1
      → Goes owned means
      (λ rows y m m'. IsStoredFor f.handle rows y × Rests H (outline_of terms1.rows f.handle) (left_of terms1.rows f) m (handle_tree rows y) m')
      (RestFails H errors (outline_of terms1.rows f.handle) (left_of terms1.rows f)) terms1 s1 r terms2 s2
      → Folds owned means (IsStoredFor h) handle_tree (WalksInside H) (InsideFails H errors) terms s h r terms2 s2
  inside_walks {terms} {terms1} {terms2} {s} {s1} {h} {r} is part d w =
      let opened = d.outcome.0 in
      let any = subst (λ x. TakesAny (outline_of terms1.rows x)) (sym opened.same) d.outcome.1 in
      let opens = subst (λ x. Opens H (binder_of (outline_of terms1.rows x)) (stands means terms s) (stands means terms1 s1)) (sym opened.same) d.outcome.2 in
      let tree = opened_tree terms.rows (fill-grows _ _ d.extends.rows (handle_shape h) part) opened in
      let no_part = subst (λ t. root t ≡ a_part → ⊥) tree (stored_no_part terms.rows h is part) in
      record {
        extends = Extends-trans d.extends w.extends;
        is_owned = w.is_owned;
        outcome = MatchResult-weaker r w.outcome
            (λ y k. (subst (λ x. IsStoredFor x terms2.rows y) opened.same k.0, rw tree (walks_contents _ any no_part opens k.1.walked k.1.built)))
            (λ e k. rw tree (inside_rest_fails _ any no_part opens k));
      }
