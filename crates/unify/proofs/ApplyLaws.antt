-- The walk of a folder that resolves is substitution.
use Rattle.std.proofs.Common.{◌≡◌, refl, Some, None, Result, Ok, Err, IfOk, Bool, true, false, sym, ◌∙◌}
use Rattle.tt_kinds.specs.Label.{Name, Label, type_label}
use Rattle.tt_kinds.specs.Tree as tree
use Rattle.tt_kinds.specs.Tree.{Depth, Tree, Forest}
use Rattle.tt_visit.specs.Root.{unhooked, a_region, root, term_root, node_root}
use Rattle.tt_visit.specs.Types.{is_type_tree}
use Rattle.tt_fold.specs.Walk.{Answer, replace, keep, descend, Walks, at_region, replaced, kept}
use Rattle.tt_fold.specs.Walk.{descended, passed, at_node, at_binder, Descends, rebuilt, WalksInside, in_term, in_param}
use Rattle.tt_fold.specs.Walk.{in_bound, WalksAll, done, next}
use Rattle.tt_fold.specs.Types.{TypeHooks, never_fails}
use Rattle.tt_fold.specs.TypesOnce.{steadily}
use Rattle.tt_fold.specs.Counts.{Standing}
use Rattle.unify.specs.Substitution.{apply, apply_all}
use Rattle.unify.specs.Bindings.{read}
use Rattle.unify.specs.Resolver.{binding, Resolves, put, entered}
use Rattle.unify.specs.Resolver as resolver

-- the hooks of a folder that resolves
abbrev pub resolving : {E : Type 0} → TypeHooks (Standing (Tree Depth)) E
resolving = never_fails (λ s t a. Resolves s.state t a)

module _ (table : Tree Depth) where
  no_region_term : (l : Label Name) → term_root l ≡ a_region → ⊥
  no_region_term (type_label l) h = absurd (cc)
  no_region_term l h = absurd (cc)

  no_region_node : (l : Label Name) → node_root l ≡ a_region → ⊥
  no_region_node (type_label l) h = absurd (cc)
  no_region_node l h = absurd (cc)

  -- a region stays as it is
  region_stays : (t : Tree Depth) → root t ≡ a_region → apply (read table) t ≡ t
  region_stays (tree.param o i name) h = refl
  region_stays (tree.bound o d e) h = refl
  region_stays (tree.region r) h = refl
  region_stays (tree.term l ts) h = absurd (no_region_term l h)
  region_stays (tree.node l ts) h = absurd (no_region_node l h)
  region_stays (tree.binder vs t) h = absurd (cc)

  -- what is no type has no binding
  no_type : (t : Tree Depth) → is_type_tree t ≡ false → binding (read table) t ≡ None
  no_type (tree.term (type_label l) ts) h = absurd (cc)
  no_type t h = refl

  unhooked_free : (t : Tree Depth) → root t ≡ unhooked → binding (read table) t ≡ None
  unhooked_free (tree.term (type_label l) ts) h = absurd (cc)
  unhooked_free t h = refl

  -- a bound variable becomes its binding
  put_binding : (t r : Tree Depth) → binding (read table) t ≡ Some r → r ≡ apply (read table) t
  put_binding (tree.term l ts) r h = rw h refl
  put_binding (tree.param o i name) r h = absurd (cc)
  put_binding (tree.bound o d e) r h = absurd (cc)
  put_binding (tree.region x) r h = absurd (cc)
  put_binding (tree.node l ts) r h = absurd (cc)
  put_binding (tree.binder vs t) r h = absurd (cc)

  was_put : {t r : Tree Depth} → Resolves table t (replace r) → binding (read table) t ≡ Some r
  was_put (put h) = h

  was_kept : {t : Tree Depth} → Resolves table t keep → apply (read table) t ≡ t
  was_kept (resolver.kept h) = h

  was_entered : {t : Tree Depth} → Resolves table t descend → binding (read table) t ≡ None
  was_entered (entered h) = h

  -- a resolver's answer at any term
  abbrev Answered : Tree Depth → Answer → Type 0
  Answered t a = (is_type_tree t ≡ true → Resolves table t a) × (is_type_tree t ≡ false → a ≡ descend)

  replaced_is : (t r : Tree Depth) (b : Bool) → is_type_tree t ≡ b → Answered t (replace r) → r ≡ apply (read table) t
  replaced_is t r true e on = put_binding t r (was_put (on.0 e))
  replaced_is t r false e on = let wrong = on.1 e in absurd (cc)

  kept_is : (t : Tree Depth) (b : Bool) → is_type_tree t ≡ b → Answered t keep → t ≡ apply (read table) t
  kept_is t true e on = sym (was_kept (on.0 e))
  kept_is t false e on = let wrong = on.1 e in absurd (cc)

  entered_is : (t : Tree Depth) (b : Bool) → is_type_tree t ≡ b → Answered t descend → binding (read table) t ≡ None
  entered_is t true e on = was_entered (on.0 e)
  entered_is t false e on = no_type t e

  module _ {E : Type 0} where
    mutual
      -- a resolver's walk is substitution
      pub walk_applies : {t r : Tree Depth} → Walks (steadily (resolving {E = E}) table) tt t r tt → r ≡ apply (read table) t
      walk_applies {t = t} (at_region it on) = on.0 ∙ sym (region_stays t it)
      walk_applies {t} {r} (replaced it on) = replaced_is t r (is_type_tree t) refl ((λ e. (on.0 e).2.0), (λ e. (on.1 e).0))
      walk_applies {t} (kept it on) = kept_is t (is_type_tree t) refl ((λ e. (on.0 e).2.0), (λ e. (on.1 e).0))
      walk_applies {t} (descended it on d) = descent_applies d (entered_is t (is_type_tree t) refl ((λ e. (on.0 e).2.0), (λ e. (on.1 e).0)))
      walk_applies {t} (passed it w) = inside_applies w (unhooked_free t it)
      walk_applies (at_node ws fit) = rw (all_apply ws) refl
      walk_applies (at_binder into w out) = rw (walk_applies w) refl

      descent_applies : {t r : Tree Depth} → Descends (steadily (resolving {E = E}) table) tt t r tt → binding (read table) t ≡ None → r ≡ apply (read table) t
      descent_applies (rebuilt w after) free = after.0 ∙ inside_applies w free

      inside_applies : {t r : Tree Depth} → WalksInside (steadily (resolving {E = E}) table) tt t r tt → binding (read table) t ≡ None → r ≡ apply (read table) t
      inside_applies (in_term ws fit) free = rw (free, all_apply ws) refl
      inside_applies in_param free = refl
      inside_applies in_bound free = refl

      all_apply : {ts us : Forest Depth} → WalksAll (steadily (resolving {E = E}) table) tt ts us tt → us ≡ apply_all (read table) ts
      all_apply done = refl
      all_apply (next w ws) = rw (walk_applies w, all_apply ws) refl

-- so is the outcome of a fold
pub outcome_applies : {T E : Type 0} (table : Tree Depth) (tree_of : T → Tree Depth) (t : Tree Depth) (r : Result T E)
    → IfOk r (λ x. Walks (steadily (resolving {E = E}) table) tt t (tree_of x) tt) → IfOk r (λ x. tree_of x ≡ apply (read table) t)
outcome_applies table tree_of t (Ok x) h = walk_applies table h
outcome_applies table tree_of t (Err e) h = tt
