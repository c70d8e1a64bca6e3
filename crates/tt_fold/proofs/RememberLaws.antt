-- A folder that remembers does its task, and is refused only for a reason.
use Rattle.std.proofs.Common.{◌≡◌, ℕ, suc, ◌-◌, ◌≤◌, ◌⊎◌, inl, inr, List, [], ◌∷◌, ◌++◌, refl, ap, subst, ◌∙◌, arith}
use Rattle.tt_index.specs.Greatest.{greatest}
use Rattle.tt_index.specs.declared.refusal.Refusal.{Refusal}
use Rattle.tt_index.specs.declared.refusal.Refusal.TheVariants.{GreatestIndex}
use Rattle.tt_kinds.specs.Label.{Name, VarKind, Label}
use Rattle.tt_kinds.specs.Tree.{Depth, Tree, Forest, term, node, binder, none, also}
use Rattle.tt_kinds.proofs.ChildLaws.{here as among_here, later as among_later}
use Rattle.tt_fold.specs.Walk.{Errors, Walks, Descends, WalksInside, WalksAll, at_region, replaced, kept, descended}
use Rattle.tt_fold.specs.Walk.{passed, rebuilt, at_node, at_binder, in_term, in_param, in_bound, done, next, Fails}
use Rattle.tt_fold.specs.Walk.{DescentFails, InsideFails, FailsAll, region_failed, term_failed, descent_failed}
use Rattle.tt_fold.specs.Walk.{passed_failed, enter_failed, under_failed, leave_failed, node_failed, node_not_built}
use Rattle.tt_fold.specs.Walk.{clause_lost, stopped, inside_failed, not_built, after_failed, in_term_failed}
use Rattle.tt_fold.specs.Walk.{here as fails_here, later, no_clause, Wanted, any_trees, wanted_in, HasUnwanted}
use Rattle.tt_fold.specs.Walk.{LosesClause}
use Rattle.tt_fold.specs.Counts.{Standing}
use Rattle.tt_fold.specs.Places.{IsIn}
use Rattle.tt_fold.specs.Stands.{itself, in_term as stands_in_term, in_node as stands_in_node}
use Rattle.tt_fold.specs.Stands.{in_binder as stands_in_binder, in_first, in_later}
use Rattle.tt_fold.specs.Remember.{Memo, State, Task, memo, deeper, shallower, one_more, made, made_all, Done, given}
use Rattle.tt_fold.specs.Remember.{remembered, left_alone, taken_apart, gone_into, AfterTerm, noted, noted_again}
use Rattle.tt_fold.specs.Remember.{not_noted, remembering}
use Rattle.tt_fold.proofs.ClauseLaws.{leaves-keep_clause}
use Rattle.tt_fold.proofs.WantedLaws.{first-unwanted, later-unwanted, unwanted-list, TellsOfLists}
use Rattle.tt_fold.proofs.PlaceLaws.{IsIn-append, IsIn-only}
use Rattle.tt_fold.proofs.TaskLaws.{DoneAll, Refuses, without, too_far, caused, RefusesAll, without_any, without_one}
use Rattle.tt_fold.proofs.TaskLaws.{without_lists, too_far_all, caused_among, TaskLaws}

ap2 : {A B C : Type 0} (f : A → B → C) {a a' : A} {b b' : B} → a ≡ a' → b ≡ b' → f a b ≡ f a' b'
ap2 f p q = cc

module _ {R K : Type 0} (T : Task R K) (laws : TaskLaws T) where
  -- what is remembered was done by the rule
  abbrev pub Knows : State R K → Type 0
  Knows s = (m : Memo) → IsIn m s.memory → Done T s.rule m.place.under m.place.standing m.result

  -- a walk goes on by the same rule under as many binders, and still knows
  pub record Stays (s s' : Standing (State R K)) : Type 0 where
    pub rule : s'.state.rule ≡ s.state.rule
    pub under : s'.state.under ≡ s.state.under
    pub knows : Knows s'.state
    pub rises : T.Rises s.counters s'.counters

  -- the folder did its task on a tree, and on trees
  pub record Does (s : Standing (State R K)) (t r : Tree Depth) (s' : Standing (State R K)) : Type 0 where
    pub stays : Stays s s'
    pub is_done : Done T s.state.rule s.state.under t r

  pub record DoesAll (s : Standing (State R K)) (ts us : Forest Depth) (s' : Standing (State R K)) : Type 0 where
    pub stays : Stays s s'
    pub are_done : DoneAll T s.state.rule s.state.under ts us

  still : (s : Standing (State R K)) → Knows s.state → Stays s s
  still s knows = record { rule = refl; under = refl; knows = knows; rises = laws.rises_still s.counters }

  then_stays : (s s1 s' : Standing (State R K)) → Stays s s1 → Stays s1 s' → Stays s s'
  then_stays s s1 s' m n = record {
    rule = n.rule ∙ m.rule;
    under = n.under ∙ m.under;
    knows = n.knows;
    rises = laws.rises_then s.counters s1.counters s'.counters m.rises n.rises;
  }

  -- one binder in, and out again
  in_and_out : (s s1 s2 s' : Standing (State R K)) → s1 ≡ deeper s → Stays s1 s2 → s' ≡ shallower s2 → Stays s s'
  in_and_out s s1 s2 s' enter m leave =
      let passed : s2.state.under ≡ suc s.state.under = m.under ∙ ap (λ q. q.state.under) enter in
      let back : s2.state.under - 1 ≡ s.state.under = omega (arith, passed) in
      let up = rw enter at m.rises in
      rw leave (record { rule = m.rule ∙ ap (λ q. q.state.rule) enter; under = back; knows = m.knows; rises = up })

  -- a note of what was done
  knows-noted : (s : State R K) (t r : Tree Depth) (memory : List Memo) → Knows s → Done T s.rule s.under t r
      → ((m : Memo) → IsIn m memory → (m ≡ memo s t r) ⊎ IsIn m s.memory)
      → (m : Memo) → IsIn m memory → Done T s.rule m.place.under m.place.standing m.result
  knows-noted s t r memory knows d each m h = elim (each m h) [ inl e ↦ rw e d | inr older ↦ knows m older ]

  noted_last : (s : State R K) (t r : Tree Depth) (m : Memo) → IsIn m (s.memory ++ memo s t r ∷ []) → (m ≡ memo s t r) ⊎ IsIn m s.memory
  noted_last s t r m h = elim (IsIn-append m s.memory (memo s t r ∷ []) h) [ inl older ↦ inr older | inr last ↦ inl (IsIn-only m (memo s t r) last) ]

  after_stays : {s s' : Standing (State R K)} {t u r : Tree Depth} → AfterTerm T s t u r s' → Knows s.state → Done T s.state.rule s.state.under t u → Stays s s'
  after_stays {s} (noted {t} {r} is) knows d =
      record { rule = refl; under = refl; knows = knows-noted s.state t r _ knows d (noted_last s.state t r); rises = laws.rises_still s.counters }
  after_stays {s} (noted_again {t} {r} {memory} is there each) knows d =
      record { rule = refl; under = refl; knows = knows-noted s.state t r memory knows d each; rises = laws.rises_still s.counters }
  after_stays {s} (not_noted is) knows d = still s knows

  after_same : {s s' : Standing (State R K)} {t u r : Tree Depth} → AfterTerm T s t u r s' → r ≡ u
  after_same (noted is) = refl
  after_same (noted_again is there each) = refl
  after_same (not_noted is) = refl

  -- the parts of a whole
  done_term : (q : R) (k : ℕ) (l : Label Name) (ts us : Forest Depth) → T.IsEntered q k (term l ts) → DoneAll T q k ts us → Done T q k (term l ts) (term l us)
  done_term q k l ts us entered d = record { plain = ap (term l) d.plain; allows = laws.allows_term q k l ts entered d.allow }

  done_node : (q : R) (k : ℕ) (l : Label Name) (ts us : Forest Depth) → DoneAll T q k ts us → Done T q k (node l ts) (node l us)
  done_node q k l ts us d = record { plain = ap (node l) d.plain; allows = laws.allows_node q k l ts d.allow }

  done_binder : (q : R) (k : ℕ) (vs : List (VarKind Name)) (t u : Tree Depth) → Done T q (suc k) t u → Done T q k (binder vs t) (binder vs u)
  done_binder q k vs t u d = record { plain = ap (binder vs) d.plain; allows = laws.allows_binder q k vs t d.allows }

  done_also : (q : R) (k : ℕ) (t u : Tree Depth) (ts us : Forest Depth) → Done T q k t u → DoneAll T q k ts us → DoneAll T q k (also t ts) (also u us)
  done_also q k t u ts us d ds = record { plain = ap2 also d.plain ds.plain; allow = (d.allows, ds.allow) }

  mutual
    -- a walk by a folder that remembers does its task, and all that is remembered was done by the rule
    pub does : {s s' : Standing (State R K)} {t r : Tree Depth} → Walks (remembering T) s t r s' → Knows s.state → Does s t r s'
    does {s} (at_region is h) knows = rw h.0 (record { stays = still s knows; is_done = h.1 })
    does {s} (replaced {t} {r} is (given {kept} {c} g)) knows =
        let n = laws.given s t r kept c g in
        record { stays = record { rule = refl; under = refl; knows = knows; rises = n.rises }; is_done = n.is_done }
    does {s} (replaced {t} {r} is (remembered h)) knows = record { stays = still s knows; is_done = knows (memo s.state t r) h }
    does {s} (kept is (left_alone d)) knows = record { stays = still s knows; is_done = d }
    does {s} {s'} (descended {t} {r} is (taken_apart taken new) d) knows =
        let n = does_descent d (laws.taken_entered s.state.rule s.state.under t taken) knows in
        let one : Stays s (one_more T s) = record { rule = refl; under = refl; knows = knows; rises = laws.rises_one s.counters } in
        record { stays = then_stays s (one_more T s) s' one n.stays; is_done = n.is_done }
    does (descended is (gone_into other entered) d) knows = does_descent d entered knows
    does {s} (passed {t} is w) knows = does_inside w (laws.passed_entered s.state.rule s.state.under t is) knows
    does {s} (at_node {l} {ts} {us} w fit) knows =
        let n = does_all w knows in
        record { stays = n.stays; is_done = done_node s.state.rule s.state.under l ts us n.are_done }
    does {s} {s'} (at_binder {s1} {s2} {vs} {t} {u} enter w leave) knows =
        let n = does w (rw enter knows) in
        let d = rw enter at n.is_done in
        record { stays = in_and_out s s1 s2 s' enter n.stays leave; is_done = done_binder s.state.rule s.state.under vs t u d }

    does_descent : {s s' : Standing (State R K)} {t r : Tree Depth} → Descends (remembering T) s t r s' → T.IsEntered s.state.rule s.state.under t → Knows s.state → Does s t r s'
    does_descent {s} {s'} (rebuilt {s1} {t} {u} {r} w after) entered knows =
        let n = does_inside w entered knows in
        let d = rw (← n.stays.rule, ← n.stays.under) at n.is_done in
        record { stays = then_stays s s1 s' n.stays (after_stays after n.stays.knows d); is_done = rw (after_same after) n.is_done }

    -- the same for the contents of a term that is entered
    pub does_inside : {s s' : Standing (State R K)} {t u : Tree Depth} → WalksInside (remembering T) s t u s' → T.IsEntered s.state.rule s.state.under t → Knows s.state → Does s t u s'
    does_inside {s} (in_term {l} {ts} {us} w fit) entered knows =
        let n = does_all w knows in
        record { stays = n.stays; is_done = done_term s.state.rule s.state.under l ts us entered n.are_done }
    does_inside {s} (in_param {o} {i} {name}) entered knows = record { stays = still s knows; is_done = laws.param_stays s.state.rule s.state.under o i name entered }
    does_inside {s} (in_bound {o} {d} {e}) entered knows = record { stays = still s knows; is_done = laws.bound_stays s.state.rule s.state.under o d e entered }

    pub does_all : {s s' : Standing (State R K)} {ts us : Forest Depth} → WalksAll (remembering T) s ts us s' → Knows s.state → DoesAll s ts us s'
    does_all {s} done knows = record { stays = still s knows; are_done = record { plain = refl; allow = tt } }
    does_all {s} {s'} (next {s1} {t} {u} {ts} {us} w more) knows =
        let m = does w knows in
        let n = does_all more m.stays.knows in
        let rest = rw (m.stays.rule, m.stays.under) at n.are_done in
        record { stays = then_stays s s1 s' m.stays n.stays; are_done = done_also s.state.rule s.state.under t u ts us m.is_done rest }

  -- a reason in a part is one in the whole
  module _ (unbuilt : Tree Depth → Refusal → Type 0) (q : R) (k : ℕ) where
    refuses_first : (w : Wanted) (t : Tree Depth) (ts : Forest Depth) (e : Refusal) → Refuses T unbuilt q k t e → RefusesAll T unbuilt w q k (also t ts) e
    refuses_first w t ts e (without u m h) = without_one u (in_first m) h
    refuses_first w t ts e (too_far is unfit) = too_far_all is (λ fits. unfit fits.0)
    refuses_first w t ts e (caused h) = caused_among t among_here h

    refuses_later : (w : Wanted) (t : Tree Depth) (ts : Forest Depth) (e : Refusal) → RefusesAll T unbuilt w q k ts e → RefusesAll T unbuilt w q k (also t ts) e
    refuses_later w t ts e (without_any h) = without_any h
    refuses_later w t ts e (without_one u m h) = without_one u (in_later m) h
    refuses_later w t ts e (without_lists bad h) = without_lists (later-unwanted w (made T q k t) (made_all T q k ts) bad) h
    refuses_later w t ts e (too_far_all is unfit) = too_far_all is (λ fits. unfit fits.1)
    refuses_later w t ts e (caused_among u m h) = caused_among u (among_later m) h

    refuses_term : (l : Label Name) (ts : Forest Depth) (e : Refusal) → T.IsEntered q k (term l ts) → RefusesAll T unbuilt (wanted_in l) q k ts e → Refuses T unbuilt q k (term l ts) e
    refuses_term l ts e entered (without_any h) = without (made T q k (term l ts)) itself (h (made T q k (term l ts)))
    refuses_term l ts e entered (without_one u m h) = without u (stands_in_term m) h
    refuses_term l ts e entered (without_lists bad h) = without (made T q k (term l ts)) itself (h (made T q k (term l ts)) (unwanted-list l (made_all T q k ts) bad))
    refuses_term l ts e entered (too_far_all is unfit) = too_far is unfit
    refuses_term l ts e entered (caused_among u m h) = caused (laws.cause_term q k l u ts e entered m h)

    refuses_node : (l : Label Name) (ts : Forest Depth) (e : Refusal) → RefusesAll T unbuilt any_trees q k ts e → Refuses T unbuilt q k (node l ts) e
    refuses_node l ts e (without_any h) = without (made T q k (node l ts)) itself (h (made T q k (node l ts)))
    refuses_node l ts e (without_one u m h) = without u (stands_in_node m) h
    refuses_node l ts e (without_lists bad h) = absurd bad
    refuses_node l ts e (too_far_all is unfit) = too_far is unfit
    refuses_node l ts e (caused_among u m h) = caused (laws.cause_node q k l u ts e m h)

    refuses_binder : (vs : List (VarKind Name)) (t : Tree Depth) (e : Refusal) → Refuses T unbuilt q (suc k) t e → Refuses T unbuilt q k (binder vs t) e
    refuses_binder vs t e (without u m h) = without u (stands_in_binder m) h
    refuses_binder vs t e (too_far is unfit) = too_far is (λ fits. unfit fits.1)
    refuses_binder vs t e (caused h) = caused (laws.cause_binder q k vs t e h)

    too_deep : (vs : List (VarKind Name)) (t : Tree Depth) (e : Refusal) → e ≡ GreatestIndex → greatest ≤ k → Refuses T unbuilt q k (binder vs t) e
    too_deep vs t e is deep = too_far is (λ fits. omega (arith, fits.0, deep))

  module _ (errors : Errors Refusal) (tells : TellsOfLists errors) where
    -- why a walk is refused, and that its counts don't fall
    pub record Refused (s : Standing (State R K)) (t : Tree Depth) (e : Refusal) (s' : Standing (State R K)) : Type 0 where
      pub why : Refuses T errors.unbuilt s.state.rule s.state.under t e
      pub rises : T.Rises s.counters s'.counters

    record RefusedAmong (w : Wanted) (s : Standing (State R K)) (ts : Forest Depth) (e : Refusal) (s' : Standing (State R K)) : Type 0 where
      why : RefusesAll T errors.unbuilt w s.state.rule s.state.under ts e
      rises : T.Rises s.counters s'.counters

    mutual
      -- if a walk by a folder that remembers fails, the rule has a reason for it, and the counts don't fall
      pub refused : {s s' : Standing (State R K)} {t : Tree Depth} {e : Refusal} → Fails (remembering T) errors s t e s' → Knows s.state → Refused s t e s'
      refused {s} {t} {e} (region_failed is h) knows =
          record { why = laws.region_refused errors.unbuilt s.state.rule s.state.under t e h.1; rises = rw h.0 (laws.rises_still s.counters) }
      refused {s} {s'} {t} {e} (term_failed is h) knows = let r = laws.term_refused errors.unbuilt s t e s' h in record { why = r.why; rises = r.rises }
      refused {s} {s'} {t} (descent_failed is (taken_apart taken new) d) knows =
          let r = refused_descent d (laws.taken_entered s.state.rule s.state.under t taken) knows in
          record { why = r.why; rises = laws.rises_then s.counters (T.count s.counters) s'.counters (laws.rises_one s.counters) r.rises }
      refused (descent_failed is (gone_into other entered) d) knows = refused_descent d entered knows
      refused {s} {t} (passed_failed is d) knows = refused_inside d (laws.passed_entered s.state.rule s.state.under t is) knows
      refused {s} (enter_failed {vs} {t} {e} h) knows =
          record { why = too_deep errors.unbuilt s.state.rule s.state.under vs t e h.1 h.2; rises = rw h.0 (laws.rises_still s.counters) }
      refused {s} (under_failed {vs} {t} {e} enter d) knows =
          let r = rw enter at (refused d (rw enter knows)) in
          record { why = refuses_binder errors.unbuilt s.state.rule s.state.under vs t e r.why; rises = r.rises }
      refused (leave_failed enter w h) knows = absurd h
      refused {s} (node_failed {l} {ts} {e} d) knows =
          let r = refused_all d knows in
          record { why = refuses_node errors.unbuilt s.state.rule s.state.under l ts e r.why; rises = r.rises }
      refused {s} (node_not_built {l} {ts} {us} {e} w b) knows =
          let n = does_all w knows in
          let here_built = subst (λ vs. errors.unbuilt (node l vs) e) n.are_done.plain b in
          record { why = without (made T s.state.rule s.state.under (node l ts)) itself here_built; rises = n.stays.rises }
      refused {s} (clause_lost {l} {ts} w lost b) knows =
          let never = subst (λ vs. LosesClause l ts vs) (does_all w knows).are_done.plain lost in
          absurd (leaves-keep_clause (T.variable s.state.rule) (T.parameter s.state.rule) s.state.under l ts never)

      refused_descent : {s s' : Standing (State R K)} {t : Tree Depth} {e : Refusal} → DescentFails (remembering T) errors s t e s' → T.IsEntered s.state.rule s.state.under t
          → Knows s.state → Refused s t e s'
      refused_descent (inside_failed d) entered knows = refused_inside d entered knows
      refused_descent {s} (after_failed {s1} {t} {u} {e} w h) entered knows =
          let n = does_inside w entered knows in
          let lost = subst (λ v. errors.unbuilt v e) n.is_done.plain h.2 in
          record { why = without (made T s.state.rule s.state.under t) itself lost; rises = rw h.0 n.stays.rises }

      refused_inside : {s s' : Standing (State R K)} {t : Tree Depth} {e : Refusal} → InsideFails (remembering T) errors s t e s' → T.IsEntered s.state.rule s.state.under t
          → Knows s.state → Refused s t e s'
      refused_inside {s} (in_term_failed {l} {ts} {e} d) entered knows =
          let r = refused_all d knows in
          record { why = refuses_term errors.unbuilt s.state.rule s.state.under l ts e entered r.why; rises = r.rises }
      refused_inside {s} (not_built {t} {u} {e} w b) entered knows =
          let n = does_inside w entered knows in
          let lost = subst (λ v. errors.unbuilt v e) n.is_done.plain b in
          record { why = without (made T s.state.rule s.state.under t) itself lost; rises = n.stays.rises }

      refused_all : {w : Wanted} {s s' : Standing (State R K)} {ts : Forest Depth} {e : Refusal} → FailsAll (remembering T) errors w s ts e s' → Knows s.state → RefusedAmong w s ts e s'
      refused_all {s} (stopped h) knows = record { why = without_any h; rises = laws.rises_still s.counters }
      refused_all {w} {s} (fails_here {t} {ts} {e} d) knows =
          let r = refused d knows in
          record { why = refuses_first errors.unbuilt s.state.rule s.state.under w t ts e r.why; rises = r.rises }
      refused_all {w} {s} (no_clause {t} {u} {ts} {e} g bad h) knows =
          let n = does g knows in
          let known = subst (λ v. HasUnwanted w (also v none)) n.is_done.plain bad in
          let among = first-unwanted w (made T s.state.rule s.state.under t) (made_all T s.state.rule s.state.under ts) known in
          record { why = without_lists among (λ v none. tells v e none h); rises = n.stays.rises }
      refused_all {w} {s} {s'} (later {s1} {t} {ts} {e} g fit d) knows =
          let n = does g knows in
          let r = refused_all d n.stays.knows in
          let why = rw (n.stays.rule, n.stays.under) at r.why in
          record {
            why = refuses_later errors.unbuilt s.state.rule s.state.under w t ts e why;
            rises = laws.rises_then s.counters s1.counters s'.counters n.stays.rises r.rises;
          }
