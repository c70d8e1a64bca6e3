-- A folder that answers types by the type alone gives the same tree where it remembers what came of them.
use Rattle.std.proofs.Common.{◌≡◌, ◌⊎◌, inl, inr, List, true, false, refl, sym, ap, ◌∙◌}
use Rattle.std.proofs.lemmas.Bool.{cases_Bool, true≢false}
use Rattle.std.specs.Prelude.{⊤}
use Rattle.tt_kinds.specs.Tree.{Depth, Tree, Forest}
use Rattle.tt_kinds.specs.Shape.{Shape, fill}
use Rattle.tt_interner.specs.Rows.{Row, meaning}
use Rattle.tt_visit.specs.Types.{is_type_tree}
use Rattle.tt_fold.specs.Walk.{Errors, Wanted, IsTerm, Answer, replace, keep, descend, Walks, Descends}
use Rattle.tt_fold.specs.Walk.{WalksInside, WalksAll, at_region, replaced, kept, descended, passed, rebuilt, at_node}
use Rattle.tt_fold.specs.Walk.{at_binder, in_term, in_param, in_bound, done, next, Fails, DescentFails, InsideFails}
use Rattle.tt_fold.specs.Walk.{FailsAll, region_failed, term_failed, descent_failed, passed_failed, enter_failed}
use Rattle.tt_fold.specs.Walk.{under_failed, leave_failed, node_failed, node_not_built, clause_lost, stopped}
use Rattle.tt_fold.specs.Walk.{inside_failed, not_built, after_failed, in_term_failed, here as fails_here, later}
use Rattle.tt_fold.specs.Walk.{no_clause}
use Rattle.tt_fold.specs.Counts.{Standing}
use Rattle.tt_fold.specs.Steps.{tree_by}
use Rattle.tt_fold.specs.Places.{IsIn}
use Rattle.tt_fold.specs.Remember.{Memo, State}
use Rattle.tt_fold.specs.Types.{TypeHooks}
use Rattle.tt_fold.specs.TypesOnce.{with_counters, IsSteady, IsMeaning, noted_with, steadily, OnType, recalled}
use Rattle.tt_fold.specs.TypesOnce.{answered}
use Rattle.tt_fold.specs.TypesOnce.{Noted, recalling}

-- the state of a folder means the same after each answer
abbrev pub Stays : {M E S : Type 0} → (List Row → S → M) → TypeHooks (Standing M) E → Type 0
Stays {M} means H = (s s' : Standing M) (t : Tree Depth) (a : Answer) → IsMeaning means s.state → IsMeaning means s'.state → H.on_type s t a s' → s'.state ≡ s.state

-- one without handles has one meaning
pub stays : {E S : Type 0} (shape : S → Shape) (H : TypeHooks (Standing (Tree Depth)) E) → IsSteady shape H → Stays (tree_by shape) H
unfolding fill
stays shape H (inl none) s s' t a before after h = after.same ∙ ap (λ x. fill (meaning after.rows) x) (none after.folder) ∙ sym (ap (λ x. fill (meaning before.rows) x) (none before.folder)) ∙ sym before.same
stays shape H (inr same) s s' t a before after h = same s s' t a h

module _ {M E S : Type 0} (means : List Row → S → M) (H : TypeHooks (Standing M) E) (steady : Stays means H) (m : M) (is_meaning : IsMeaning means m) where
  -- what is remembered is what comes of a type without memory
  abbrev pub Knows : List Memo → Type 0
  Knows memory = (n : Memo) → IsIn n memory → Walks (steadily H m) tt n.place.standing n.result tt

  -- the folder's state means the same, and what it remembers is right
  pub record Recalls (s : Standing (State M ⊤)) : Type 0 where
    pub rule : s.state.rule ≡ m
    pub knows : Knows s.state.memory

  -- the answer at a term is one without memory, or what came of it without memory
  record Answers (t : Tree Depth) (a : Answer) (s' : Standing (State M ⊤)) : Type 0 where
    stays : Recalls s'
    gives : (steadily H m).on_term tt t a tt ⊎ ((r : Tree Depth) × (a ≡ replace r) × Walks (steadily H m) tt t r tt)

  at_type : {s s' : Standing (State M ⊤)} {t : Tree Depth} {a : Answer} → OnType means H s t a s' → is_type_tree t ≡ true → Recalls s → Answers t a s'
  at_type {s} (recalled {t} {r} h) is_ty known = record { stays = known; gives = inr (r, refl, known.knows (noted_with t r) h) }
  at_type {s} (answered {t} {a} {q} new meaning h) is_ty known =
      let at_m : H.on_type (with_counters m s.counters) t a q = rw known.rule at h in
      let same : q.state ≡ m = steady (with_counters m s.counters) q t a is_meaning meaning at_m in
      let own : H.on_type (with_counters m s.counters) t a (with_counters m q.counters) = rw same at at_m in
      record {
        stays = record { rule = same; knows = known.knows };
        gives = inl (λ _. (s.counters, q.counters, own), λ other. absurd (true≢false (sym is_ty ∙ other)));
      }

  at_term : {s s' : Standing (State M ⊤)} {t : Tree Depth} {a : Answer} → (recalling means H).on_term s t a s' → Recalls s → Answers t a s'
  at_term {s} {s'} {t} {a} h known = elim (cases_Bool (is_type_tree t)) [
    | inl is_ty ↦ at_type (h.0 is_ty) is_ty known
    | inr other ↦ rw (h.1 other).1 (record { stays = known; gives = inl (λ is_ty. absurd (true≢false (sym is_ty ∙ other)), λ _. ((h.1 other).0, refl)) })
  ]

  noted : {s s' : Standing (State M ⊤)} {t r : Tree Depth} → (is_type_tree t ≡ true → Noted means H s t r s') × (is_type_tree t ≡ false → s' ≡ s)
      → Recalls s → Walks (steadily H m) tt t r tt → Recalls s'
  noted {s} {s'} {t} {r} h known w = elim (cases_Bool (is_type_tree t)) [
    | inl is_ty ↦ record {
      rule = (h.0 is_ty).rule ∙ known.rule;
      knows = λ n there. elim ((h.0 is_ty).each n there) [ inl new ↦ rw new w | inr older ↦ known.knows n older ];
    }
    | inr other ↦ rw (h.1 other) known
  ]

  -- of the tree comes what comes of it without memory
  pub record Does (t r : Tree Depth) (s' : Standing (State M ⊤)) : Type 0 where
    pub stays : Recalls s'
    pub plain : Walks (steadily H m) tt t r tt

  record DoesInside (t u : Tree Depth) (s' : Standing (State M ⊤)) : Type 0 where
    stays : Recalls s'
    plain : WalksInside (steadily H m) tt t u tt

  record DoesAll (ts us : Forest Depth) (s' : Standing (State M ⊤)) : Type 0 where
    stays : Recalls s'
    plain : WalksAll (steadily H m) tt ts us tt

  not_replaced : (r : Tree Depth) → descend ≡ replace r → ⊥
  not_replaced r h = cc

  not_kept : (r : Tree Depth) → keep ≡ replace r → ⊥
  not_kept r h = cc

  same_answer : (r u : Tree Depth) → replace r ≡ replace u → r ≡ u
  same_answer r u h = cc

  mutual
    -- a walk with a memory gives what the walk without it gives, and what it remembers stays right
    pub does : {s s' : Standing (State M ⊤)} {t r : Tree Depth} → Walks (recalling means H) s t r s' → Recalls s → Does t r s'
    does {s} {s'} (at_region is h) known = rw h.1 (record { stays = known; plain = at_region is (h.0, refl) })
    does {s} {s'} (replaced {t} {r} is h) known =
        let n = at_term h known in
        record { stays = n.stays; plain = elim n.gives [ inl own ↦ replaced is own | inr w ↦ rw (same_answer r w.0 w.1) w.2 ] }
    does {s} {s'} (kept is h) known =
        let n = at_term h known in
        record { stays = n.stays; plain = elim n.gives [ inl own ↦ kept is own | inr w ↦ absurd (not_kept w.0 w.1) ] }
    does {s} {s'} (descended {s1} {t} {r} is h d) known =
        let n = at_term h known in
        elim n.gives [ inl own ↦ does_descent d is own n.stays | inr w ↦ absurd (not_replaced w.0 w.1) ]
    does (passed is w) known = let n = does_inside w known in record { stays = n.stays; plain = passed is n.plain }
    does (at_node w fit) known = let n = does_all w known in record { stays = n.stays; plain = at_node n.plain fit }
    does {s} {s'} (at_binder {s1} {s2} enter w leave) known =
        let n = does w (rw enter known) in
        record { stays = rw leave n.stays; plain = at_binder refl n.plain refl }

    does_descent : {s s' : Standing (State M ⊤)} {t r : Tree Depth} → Descends (recalling means H) s t r s' → IsTerm t → (steadily H m).on_term tt t descend tt → Recalls s → Does t r s'
    does_descent {s} {s'} (rebuilt {s1} {t} {u} {r} w after) is own known =
        let n = does_inside w known in
        let whole : Walks (steadily H m) tt t r tt = descended is own (rebuilt n.plain (after.0, refl)) in
        record { stays = noted (after.1, after.2) n.stays whole; plain = whole }

    does_inside : {s s' : Standing (State M ⊤)} {t u : Tree Depth} → WalksInside (recalling means H) s t u s' → Recalls s → DoesInside t u s'
    does_inside (in_term w fit) known = let n = does_all w known in record { stays = n.stays; plain = in_term n.plain fit }
    does_inside in_param known = record { stays = known; plain = in_param }
    does_inside in_bound known = record { stays = known; plain = in_bound }

    does_all : {s s' : Standing (State M ⊤)} {ts us : Forest Depth} → WalksAll (recalling means H) s ts us s' → Recalls s → DoesAll ts us s'
    does_all done known = record { stays = known; plain = done }
    does_all (next w more) known =
        let n = does w known in
        let rest = does_all more n.stays in
        record { stays = rest.stays; plain = next n.plain rest.plain }

  -- where it fails, it fails so without memory too, but for want of memory, which may come earlier
  module _ (errors : Errors E) where
    mutual
      -- an error that ends a walk with a memory may also end the walk without it
      pub fails : {s s' : Standing (State M ⊤)} {t : Tree Depth} {e : E} → Fails (recalling means H) errors s t e s' → Recalls s → Fails (steadily H m) errors tt t e tt
      fails (region_failed is h) known = absurd h
      fails {s} (term_failed {t} {e} is h) known =
          let own : H.type_fails errors.unbuilt (with_counters m s.counters) t e h.1.0 = rw known.rule at h.1.1 in
          term_failed is (h.0, (s.counters, h.1.0, own))
      fails {s} {s'} (descent_failed is h d) known =
          let n = at_term h known in
          elim n.gives [ inl own ↦ descent_failed is own (fails_descent d n.stays) | inr w ↦ absurd (not_replaced w.0 w.1) ]
      fails (passed_failed is d) known = passed_failed is (fails_inside d known)
      fails (enter_failed h) known = absurd h
      fails (under_failed enter d) known = under_failed refl (fails d (rw enter known))
      fails (leave_failed enter w h) known = absurd h
      fails (node_failed d) known = node_failed (fails_all d known)
      fails (node_not_built w b) known = node_not_built (does_all w known).plain b
      fails (clause_lost w lost b) known = clause_lost (does_all w known).plain lost b

      fails_descent : {s s' : Standing (State M ⊤)} {t : Tree Depth} {e : E} → DescentFails (recalling means H) errors s t e s' → Recalls s → DescentFails (steadily H m) errors tt t e tt
      fails_descent (inside_failed d) known = inside_failed (fails_inside d known)
      fails_descent (after_failed w h) known = inside_failed (not_built (does_inside w known).plain h.1)

      fails_inside : {s s' : Standing (State M ⊤)} {t : Tree Depth} {e : E} → InsideFails (recalling means H) errors s t e s' → Recalls s → InsideFails (steadily H m) errors tt t e tt
      fails_inside (in_term_failed d) known = in_term_failed (fails_all d known)
      fails_inside (not_built w b) known = not_built (does_inside w known).plain b

      fails_all : {w : Wanted} {s s' : Standing (State M ⊤)} {ts : Forest Depth} {e : E} → FailsAll (recalling means H) errors w s ts e s' → Recalls s → FailsAll (steadily H m) errors w tt ts e tt
      fails_all (stopped h) known = stopped h
      fails_all (fails_here d) known = fails_here (fails d known)
      fails_all (no_clause g bad h) known = no_clause (does g known).plain bad h
      fails_all (later g fit d) known = let n = does g known in later n.plain fit (fails_all d n.stays)
