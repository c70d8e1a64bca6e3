-- Each turn of the walk, seen from what is left to do.
use Rattle.std.proofs.Common.{◌≡◌, List, [], ◌∷◌, Bool, true, false, refl, ap, sym, ◌∙◌}
use Rattle.std.specs.Prelude.{cond}
use Rattle.tt_kinds.specs.Label.{Name, Sort, region_sort, type_sort, const_sort, Label, type_label, const_label}
use Rattle.tt_kinds.specs.Label.{pattern_label, predicate_label, existential_label, clause_list_label, list_label}
use Rattle.tt_kinds.specs.Label.{var_list_label, text_label, declaration_label, definition_label, record_label}
use Rattle.tt_kinds.specs.Label.{error_label, clause_label}
use Rattle.tt_kinds.specs.Tree.{Depth, Tree, Forest, none, also, term, node}
use Rattle.tt_kinds.specs.TermTable.{is_clause_table, term_table}
use Rattle.tt_kinds.specs.declared.table.TermTable.{TermTable}
use Rattle.tt_visit.specs.Root.{root, sort_root, term_root, a_part}
use Rattle.tt_fold.specs.Walk.{Hooks, Errors, any_trees, clause_trees, HasUnwanted, Walks, descended, passed, rebuilt}
use Rattle.tt_fold.specs.Walk.{at_node, at_binder, WalksInside, in_term, in_param, in_bound, WalksAll, done, Fails}
use Rattle.tt_fold.specs.Walk.{descent_failed, passed_failed, inside_failed, after_failed, InsideFails}
use Rattle.tt_fold.specs.Walk.{in_term_failed, not_built, FailsAll, here, no_clause, enter_failed, under_failed}
use Rattle.tt_fold.specs.Walk.{leave_failed, node_failed, node_not_built}
use Rattle.tt_fold.specs.Stack.{joined_trees, Outline, plain, under, items, whole, wanted_by, TakesAny, binder_of, Asks}
use Rattle.tt_fold.specs.Stack.{asks}
use Rattle.tt_fold.specs.Stack.{passes, at_list, Opens, opens_bare, opens_binder, leaves_bare, leaves_binder, Begins}
use Rattle.tt_fold.specs.Stack.{Rebuilds, rebuilds, Finishes, finishes, unasked, Rests, EnterFails, enter_fails}
use Rattle.tt_fold.specs.Stack.{leave_fails, RebuildFails, not_left, not_rebuilt, FinishFails, RestFails, in_children}
use Rattle.tt_fold.specs.Stack.{in_whole, Context, with_result, Proceeds, last, more, Halts, in_left, in_rebuild}
use Rattle.tt_fold.specs.Stack.{in_finish, not_wanted, above}
use Rattle.tt_fold.proofs.WantedLaws.{any-wanted}
use Rattle.tt_fold.proofs.WalkLaws.{WalksAll-append, WalksAll-one, FailsAll-append}

joined_trees-assoc : (ts us vs : Forest Depth) → joined_trees (joined_trees ts us) vs ≡ joined_trees ts (joined_trees us vs)
joined_trees-assoc none us vs = refl
joined_trees-assoc (also t ts) us vs = ap (also t) (joined_trees-assoc ts us vs)

-- no stored term is a list
no_part : (l : Label Name) → term_root l ≡ a_part → ⊥
no_part (type_label l) e = cc
no_part (const_label l) e = cc
no_part predicate_label e = cc
no_part clause_list_label e = cc
no_part (pattern_label l) e = cc
no_part existential_label e = cc
no_part (list_label t) e = cc
no_part (var_list_label vs) e = cc
no_part (text_label cs) e = cc
no_part (declaration_label n k m) e = cc
no_part (definition_label n vs) e = cc
no_part (record_label l) e = cc
no_part (error_label n) e = cc
no_part clause_label e = cc

-- nor is a parameter or a bound variable
no_sort_part : (o : Sort) → sort_root o ≡ a_part → ⊥
no_sort_part region_sort e = cc
no_sort_part type_sort e = cc
no_sort_part const_sort e = cc

term_no_part : {t : Tree Depth} (o : Outline) (ts : Forest Depth) → t ≡ whole o ts → (root t ≡ a_part → ⊥) → root (whole o ts) ≡ a_part → ⊥
term_no_part o ts e h is = h (ap root e ∙ is)

-- the tree of a list of a table, by whether it is one of clauses
abbrev items_by : Bool → TermTable → Forest Depth → Tree Depth
items_by b t ts = cond b (term clause_list_label ts) (node (list_label (term_table t)) ts)

module _ {M E : Type 0} {H : Hooks M E} where
  -- the walk of the items of a list of clauses, which is a term
  items_contents : {ts us : Forest Depth} {s s' : M} (b : Bool) (t : TermTable)
      → (root (items_by b t ts) ≡ a_part → ⊥) → WalksAll H s ts us s' → (HasUnwanted (cond b clause_trees any_trees) us → ⊥) → WalksInside H s (items_by b t ts) (items_by b t us) s'
  items_contents true t is w fit = in_term w fit
  items_contents false t is w fit = absurd (is refl)

  -- the walk of any other list
  items_walk : {ts us : Forest Depth} {s s' : M} (b : Bool) (t : TermTable) → root (items_by b t ts) ≡ a_part → WalksAll H s ts us s' → Walks H s (items_by b t ts) (items_by b t us) s'
  items_walk true t is w = absurd (no_part clause_list_label is)
  items_walk false t is w = at_node w (λ h. h)

  -- the walk of a term's contents
  pub walks_contents : {ts us : Forest Depth} {u : Tree Depth} {s s1 s2 s3 : M} (o : Outline)
      → TakesAny o → (root (whole o ts) ≡ a_part → ⊥) → Opens H (binder_of o) s s1 → WalksAll H s1 ts us s2 → Rebuilds H o us s2 u s3 → WalksInside H s (whole o ts) u s3
  walks_contents (plain l) any is opens_bare w (rebuilds fit leaves_bare) = in_term w (any-wanted _ _ any)
  walks_contents (under l vs m) any is (opens_binder enter) w (rebuilds fit (leaves_binder leave)) =
      in_term (WalksAll-one (at_binder enter (at_node w (any.1 _ _)) leave)) (any-wanted _ _ any.0)
  walks_contents (items t) any is opens_bare w (rebuilds fit leaves_bare) = items_contents (is_clause_table t) t is w fit

  -- the walk of a list's items
  walks_list : {ts us : Forest Depth} {u : Tree Depth} {s s1 s2 s3 : M} (o : Outline)
      → root (whole o ts) ≡ a_part → Opens H (binder_of o) s s1 → WalksAll H s1 ts us s2 → Rebuilds H o us s2 u s3 → Walks H s (whole o ts) u s3
  walks_list (plain l) is o w r = absurd (no_part l is)
  walks_list (under l vs m) is o w r = absurd (no_part l is)
  walks_list (items t) is opens_bare w (rebuilds fit leaves_bare) = items_walk (is_clause_table t) t is w

  -- the walk of a term or a list with its hooks
  walks_by : {t : Tree Depth} {ts us : Forest Depth} {u r : Tree Depth} {s s0 s1 s2 s3 s4 : M} {o : Outline}
      → t ≡ whole o ts → TakesAny o → Asks H t s s0 → Opens H (binder_of o) s0 s1 → WalksAll H s1 ts us s2 → Rebuilds H o us s2 u s3 → Finishes H t u s3 r s4 → Walks H s t r s4
  walks_by {ts} {o} e any (asks is hook) opens w r (finishes is2 after) =
      descended is hook (rebuilt (rw e (walks_contents o any (term_no_part o ts e (λ no. let h = sym is ∙ no in cc)) opens w r)) after)
  walks_by e any (asks is hook) opens w r (unasked never) = absurd (never is)
  walks_by e any (passes is) opens w r (finishes is2 after) = (let h = sym is ∙ is2 in cc)
  walks_by {ts} {o} e any (passes is) opens w r (unasked never) =
      passed is (rw e (walks_contents o any (term_no_part o ts e (λ no. let h = sym is ∙ no in cc)) opens w r))
  walks_by e any (at_list is) opens w r (finishes is2 after) = (let h = sym is ∙ is2 in cc)
  walks_by {o} e any (at_list is) opens w r (unasked never) = rw e (walks_list o (ap root (sym e) ∙ is) opens w r)

  -- a term or a list is walked if it is begun, its children are walked, it is rebuilt and then finished
  pub walks_whole : {t u r : Tree Depth} {ts us : Forest Depth} {s s1 s2 s3 s4 : M} {o : Outline}
      → Begins H t o ts s s1 → WalksAll H s1 ts us s2 → Rebuilds H o us s2 u s3 → Finishes H t u s3 r s4 → Walks H s t r s4
  walks_whole b w r f = walks_by b.is_whole b.any b.asked b.opened w r f

  -- some children came to others
  pub proceeds_past : {t r : Tree Depth} {o : Outline} {vs us ds ts : Forest Depth} {cs : List Context} {s s1 s' : M}
      → WalksAll H s vs us s1 → Proceeds H t o (joined_trees ds us) ts cs s1 r s' → Proceeds H t o ds (joined_trees vs ts) cs s r s'
  proceeds_past {us} {ds} w (last {us = xs} ws c) = last (WalksAll-append w ws) (rw (joined_trees-assoc ds us xs) at c)
  proceeds_past {us} {ds} w (more {us = xs} ws c f p) = more (WalksAll-append w ws) (rw (joined_trees-assoc ds us xs) at c) f p

  -- a child is begun
  pub proceeds_into : {t v r : Tree Depth} {o n : Outline} {ds ts vs : Forest Depth} {cs : List Context} {s s1 s' : M}
      → Begins H v n vs s s1 → Proceeds H v n none vs (record { before = t; outline = o; done = ds; left = ts } ∷ cs) s1 r s'
      → Proceeds H t o ds (also v ts) cs s r s'
  proceeds_into b (more ws c f p) = proceeds_past (WalksAll-one (walks_whole b ws c f)) p

  -- a term or a list is done
  pub proceeds_up : {t u v r : Tree Depth} {o : Outline} {ds : Forest Depth} {c : Context} {cs : List Context} {s s1 s2 s' : M}
      → Rebuilds H o (joined_trees ds none) s u s1 → Finishes H t u s1 v s2
      → Proceeds H c.before c.outline (with_result c v) c.left cs s2 r s' → Proceeds H t o ds none (c ∷ cs) s r s'
  proceeds_up b f p = more done b f p

  -- if no child of the outermost tree is left, what is built of its results is what comes of it
  pub proceeds_end : {t u : Tree Depth} {o : Outline} {ds : Forest Depth} {s s' : M}
      → Rebuilds H o (joined_trees ds none) s u s' → Proceeds H t o ds none [] s u s'
  proceeds_end b = last done b

  -- what comes of the outermost tree
  pub proceeds_rests : {t u : Tree Depth} {o : Outline} {ts : Forest Depth} {s s' : M} → Proceeds H t o none ts [] s u s' → Rests H o ts s u s'
  proceeds_rests (last {us} {s1} ws b) = record { results = us; between = s1; walked = ws; built = b }

  -- a term is walked, and not a list
  inside_no_part : {t u : Tree Depth} {s s' : M} → WalksInside H s t u s' → root t ≡ a_part → ⊥
  inside_no_part (in_term {l} w fit) is = no_part l is
  inside_no_part (in_param {o}) is = no_sort_part o is
  inside_no_part (in_bound {o}) is = no_sort_part o is

  -- a term without children
  pub leaf_walks : {t u r : Tree Depth} {s s1 s2 s' : M} → Asks H t s s1 → WalksInside H s1 t u s2 → Finishes H t u s2 r s' → Walks H s t r s'
  leaf_walks (asks is hook) w (finishes is2 after) = descended is hook (rebuilt w after)
  leaf_walks (asks is hook) w (unasked never) = absurd (never is)
  leaf_walks (passes is) w (finishes is2 after) = (let h = sym is ∙ is2 in cc)
  leaf_walks (passes is) w (unasked never) = passed is w
  leaf_walks (at_list is) w f = absurd (inside_no_part w is)

module _ {M E : Type 0} {H : Hooks M E} {errors : Errors E} where
  -- the items of a list of clauses fail
  items_contents_fail : {ts : Forest Depth} {e : E} {s s' : M} (b : Bool) (t : TermTable)
      → (root (items_by b t ts) ≡ a_part → ⊥) → FailsAll H errors (cond b clause_trees any_trees) s ts e s' → InsideFails H errors s (items_by b t ts) e s'
  items_contents_fail true t is f = in_term_failed f
  items_contents_fail false t is f = absurd (is refl)

  -- the items of any other list fail
  items_fail : {ts : Forest Depth} {e : E} {s s' : M} (b : Bool) (t : TermTable)
      → root (items_by b t ts) ≡ a_part → FailsAll H errors (cond b clause_trees any_trees) s ts e s' → Fails H errors s (items_by b t ts) e s'
  items_fail true t is f = absurd (no_part clause_list_label is)
  items_fail false t is f = node_failed f

  -- the list of their results is not built
  items_not_built : {ts us : Forest Depth} {e : E} {s s' : M} (b : Bool) (t : TermTable)
      → root (items_by b t ts) ≡ a_part → WalksAll H s ts us s' → errors.unbuilt (items_by b t us) e → Fails H errors s (items_by b t ts) e s'
  items_not_built true t is w u = absurd (no_part clause_list_label is)
  items_not_built false t is w u = node_not_built w u

  -- the contents of a term fail
  contents_fail : {ts : Forest Depth} {e : E} {s s1 s' : M} (o : Outline)
      → TakesAny o → (root (whole o ts) ≡ a_part → ⊥) → Opens H (binder_of o) s s1 → FailsAll H errors (wanted_by o) s1 ts e s' → InsideFails H errors s (whole o ts) e s'
  contents_fail (plain l) any is opens_bare f = in_term_failed (rw any f)
  contents_fail (under l vs m) any is (opens_binder enter) f = in_term_failed (here (under_failed enter (node_failed f)))
  contents_fail (items t) any is opens_bare f = items_contents_fail (is_clause_table t) t is f

  contents_not_built : {ts us : Forest Depth} {e : E} {s s1 s2 s' : M} (o : Outline)
      → TakesAny o → (root (whole o ts) ≡ a_part → ⊥) → Opens H (binder_of o) s s1 → WalksAll H s1 ts us s2 → RebuildFails H errors o us s2 e s' → InsideFails H errors s (whole o ts) e s'
  contents_not_built (under l vs m) any is (opens_binder enter) w (not_left (leave_fails h)) =
      in_term_failed (here (leave_failed enter (at_node w (any.1 _ _)) h))
  contents_not_built (plain l) any is opens w (not_left x) = elim x [ ]
  contents_not_built (items _) any is opens w (not_left x) = elim x [ ]
  contents_not_built o any is opens w (not_rebuilt fit leaves b) = not_built (walks_contents o any is opens w (rebuilds fit leaves)) b

  -- a term's contents fail, from the begin of its children
  pub inside_rest_fails : {ts : Forest Depth} {e : E} {s s1 s' : M} (o : Outline)
      → TakesAny o → (root (whole o ts) ≡ a_part → ⊥) → Opens H (binder_of o) s s1 → RestFails H errors o ts s1 e s' → InsideFails H errors s (whole o ts) e s'
  inside_rest_fails o any is opens (in_children f) = contents_fail o any is opens f
  inside_rest_fails o any is opens (in_whole w f) = contents_not_built o any is opens w f

  -- the items of a list fail
  list_rest_fails : {ts : Forest Depth} {e : E} {s s1 s' : M} (o : Outline)
      → root (whole o ts) ≡ a_part → Opens H (binder_of o) s s1 → RestFails H errors o ts s1 e s' → Fails H errors s (whole o ts) e s'
  list_rest_fails (plain l) is o f = absurd (no_part l is)
  list_rest_fails (under l vs m) is o f = absurd (no_part l is)
  list_rest_fails (items t) is opens_bare (in_children f) = items_fail (is_clause_table t) t is f
  list_rest_fails (items t) is opens_bare (in_whole w (not_rebuilt fit leaves_bare b)) = items_not_built (is_clause_table t) t is w b
  list_rest_fails (items t) is opens_bare (in_whole w (not_left x)) = elim x [ ]

  -- the walk of a term or a list with its hooks fails
  fails_by : {t : Tree Depth} {ts : Forest Depth} {e : E} {s s0 s1 s' : M} {o : Outline}
      → t ≡ whole o ts → TakesAny o → Asks H t s s0 → Opens H (binder_of o) s0 s1 → RestFails H errors o ts s1 e s' → Fails H errors s t e s'
  fails_by {ts} {o} e any (asks is hook) opens f =
      descent_failed is hook (inside_failed (rw e (inside_rest_fails o any (term_no_part o ts e (λ no. let h = sym is ∙ no in cc)) opens f)))
  fails_by {ts} {o} e any (passes is) opens f =
      passed_failed is (rw e (inside_rest_fails o any (term_no_part o ts e (λ no. let h = sym is ∙ no in cc)) opens f))
  fails_by {o} e any (at_list is) opens f = rw e (list_rest_fails o (ap root (sym e) ∙ is) opens f)

  -- the walk of a term or a list fails if it is begun and what is left of it fails
  pub fails_whole : {t : Tree Depth} {e : E} {ts : Forest Depth} {s s1 s' : M} {o : Outline}
      → Begins H t o ts s s1 → RestFails H errors o ts s1 e s' → Fails H errors s t e s'
  fails_whole b f = fails_by b.is_whole b.any b.asked b.opened f

  -- the hook after it fails
  finish_fails_by : {t u : Tree Depth} {e : E} {ts us : Forest Depth} {s s0 s1 s2 s3 s' : M} {o : Outline}
      → t ≡ whole o ts → TakesAny o → Asks H t s s0 → Opens H (binder_of o) s0 s1 → WalksAll H s1 ts us s2 → Rebuilds H o us s2 u s3 → FinishFails H errors t u s3 e s' → Fails H errors s t e s'
  finish_fails_by {ts} {o} e any (asks is hook) opens w r f =
      descent_failed is hook (after_failed (rw e (walks_contents o any (term_no_part o ts e (λ no. let h = sym is ∙ no in cc)) opens w r)) f.failed)
  finish_fails_by e any (passes is) opens w r f = (let h = sym is ∙ f.is in cc)
  finish_fails_by e any (at_list is) opens w r f = (let h = sym is ∙ f.is in cc)

  -- the walk of a term fails if its children are walked, it is rebuilt, and the hook after it fails
  pub finish_fails : {t u : Tree Depth} {e : E} {ts us : Forest Depth} {s s1 s2 s3 s' : M} {o : Outline}
      → Begins H t o ts s s1 → WalksAll H s1 ts us s2 → Rebuilds H o us s2 u s3 → FinishFails H errors t u s3 e s' → Fails H errors s t e s'
  finish_fails b w r f = finish_fails_by b.is_whole b.any b.asked b.opened w r f

  -- some children came to others
  pub halts_past : {t : Tree Depth} {e : E} {o : Outline} {vs us ds ts : Forest Depth} {cs : List Context} {s s1 s' : M}
      → WalksAll H s vs us s1 → (HasUnwanted (wanted_by o) us → ⊥) → Halts H errors t o (joined_trees ds us) ts cs s1 e s' → Halts H errors t o ds (joined_trees vs ts) cs s e s'
  halts_past w fit (in_left f) = in_left (FailsAll-append w fit f)
  halts_past {us} {ds} w fit (in_rebuild {us = xs} ws f) = in_rebuild (WalksAll-append w ws) (rw (joined_trees-assoc ds us xs) at f)
  halts_past {us} {ds} w fit (in_finish {us = xs} ws b f) = in_finish (WalksAll-append w ws) (rw (joined_trees-assoc ds us xs) at b) f
  halts_past {us} {ds} w fit (not_wanted {us = xs} ws b f bad u) = not_wanted (WalksAll-append w ws) (rw (joined_trees-assoc ds us xs) at b) f bad u
  halts_past {us} {ds} w fit (above {us = xs} ws b f good p) = above (WalksAll-append w ws) (rw (joined_trees-assoc ds us xs) at b) f good p

  -- a child is begun
  pub halts_into : {t v : Tree Depth} {e : E} {o n : Outline} {ds ts vs : Forest Depth} {cs : List Context} {s s1 s' : M}
      → Begins H v n vs s s1 → Halts H errors v n none vs (record { before = t; outline = o; done = ds; left = ts } ∷ cs) s1 e s'
      → Halts H errors t o ds (also v ts) cs s e s'
  halts_into b (in_left f) = in_left (here (fails_whole b (in_children f)))
  halts_into b (in_rebuild ws f) = in_left (here (fails_whole b (in_whole ws f)))
  halts_into b (in_finish ws r f) = in_left (here (finish_fails b ws r f))
  halts_into b (not_wanted ws r f bad u) = in_left (no_clause (walks_whole b ws r f) bad u)
  halts_into b (above ws r f good p) = halts_past (WalksAll-one (walks_whole b ws r f)) good p

  -- a term or a list is done
  pub halts_up : {t u v : Tree Depth} {e : E} {o : Outline} {ds : Forest Depth} {c : Context} {cs : List Context} {s s1 s2 s' : M}
      → Rebuilds H o (joined_trees ds none) s u s1 → Finishes H t u s1 v s2 → (HasUnwanted (wanted_by c.outline) (also v none) → ⊥)
      → Halts H errors c.before c.outline (with_result c v) c.left cs s2 e s' → Halts H errors t o ds none (c ∷ cs) s e s'
  halts_up b f good p = above done b f good p

  -- an error that comes with nothing around the tree is one of what is left of it
  pub halts_rests : {t : Tree Depth} {e : E} {o : Outline} {ts : Forest Depth} {s s' : M} → Halts H errors t o none ts [] s e s' → RestFails H errors o ts s e s'
  halts_rests (in_left f) = in_children f
  halts_rests (in_rebuild ws f) = in_whole ws f

  -- a binder is not entered
  pub enter_fails_inside : {e : E} {s s' : M} (o : Outline) (ts : Forest Depth) → TakesAny o → EnterFails H errors (binder_of o) s e s' → InsideFails H errors s (whole o ts) e s'
  enter_fails_inside (under l vs m) ts any (enter_fails h) = in_term_failed (here (enter_failed h))
  enter_fails_inside (plain _) ts any x = elim x [ ]
  enter_fails_inside (items _) ts any x = elim x [ ]

  -- a term whose contents can't be begun
  pub asks_fails : {t : Tree Depth} {e : E} {s s1 s' : M} → Asks H t s s1 → InsideFails H errors s1 t e s' → Fails H errors s t e s'
  asks_fails (asks is hook) f = descent_failed is hook (inside_failed f)
  asks_fails (passes is) f = passed_failed is f
  asks_fails (at_list is) (in_term_failed {l} f) = absurd (no_part l is)
  asks_fails (at_list is) (not_built w b) = absurd (inside_no_part w is)

  -- a term without children
  pub leaf_fails : {t u : Tree Depth} {e : E} {s s1 s2 s' : M} → Asks H t s s1 → WalksInside H s1 t u s2 → FinishFails H errors t u s2 e s' → Fails H errors s t e s'
  leaf_fails (asks is hook) w f = descent_failed is hook (after_failed w f.failed)
  leaf_fails (passes is) w f = (let h = sym is ∙ f.is in cc)
  leaf_fails (at_list is) w f = (let h = sym is ∙ f.is in cc)
