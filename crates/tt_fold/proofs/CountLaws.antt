-- How many types a folder that remembers takes apart: each at most once under as many binders.
use Rattle.std.proofs.Common.{◌≡◌, ℕ, ◌+◌, ◌≤◌, inl, inr, List, [], ◌∷◌, ◌++◌, length, true, false, refl, sym, ap}
use Rattle.std.proofs.Common.{subst, ◌∙◌, arith, length-append, append_assoc}
use Rattle.std.proofs.lemmas.List.{append-nil}
use Rattle.tt_index.specs.declared.refusal.Refusal.{Refusal}
use Rattle.tt_kinds.specs.Tree.{Depth, Tree, Forest, param, bound, region, term, node, binder}
use Rattle.tt_kinds.specs.Count.{TypeAt}
use Rattle.tt_visit.specs.Types.{is_type_tree}
use Rattle.tt_fold.specs.Walk.{Errors, Walks, Descends, WalksInside, WalksAll, at_region, replaced, kept}
use Rattle.tt_fold.specs.Walk.{descended, passed, rebuilt, at_node, at_binder, in_term, in_param, in_bound, done, next}
use Rattle.tt_fold.specs.Walk.{Fails, DescentFails, InsideFails, FailsAll, region_failed, term_failed, descent_failed}
use Rattle.tt_fold.specs.Walk.{passed_failed, enter_failed, under_failed, leave_failed, node_failed, node_not_built}
use Rattle.tt_fold.specs.Walk.{clause_lost, stopped, inside_failed, not_built, after_failed, in_term_failed}
use Rattle.tt_fold.specs.Walk.{here as fails_here, later, no_clause, Wanted}
use Rattle.tt_fold.specs.Counts.{Standing}
use Rattle.tt_fold.specs.Places.{IsIn, AreDistinct, CountsPairs, IsPlaceIn, IsPlaceAmong}
use Rattle.tt_fold.specs.Remember.{Memo, State, Task, here, memo, places, one_more, IsTaken, given, remembered}
use Rattle.tt_fold.specs.Remember.{left_alone, taken_apart, gone_into, AfterTerm, noted, noted_again, not_noted}
use Rattle.tt_fold.specs.Remember.{remembering}
use Rattle.tt_fold.proofs.PlaceLaws.{IsIn-append, IsIn-only, IsIn-left, IsIn-right, AreDistinct-last, IsPlaceInside}
use Rattle.tt_fold.proofs.PlaceLaws.{inside-smaller, place-inside}
use Rattle.tt_fold.proofs.TaskLaws.{TaskLaws}
use Rattle.tt_fold.proofs.RememberLaws.{Knows, does, does_inside}

places-append : (memory : List Memo) (m : Memo) → places (memory ++ m ∷ []) ≡ places memory ++ m.place ∷ []
places-append [] m = refl
places-append (x ∷ memory) m = ap (λ xs. x.place ∷ xs) (places-append memory m)

taken-type : {R K : Type 0} (T : Task R K) (q : R) (k : ℕ) (t : Tree Depth) → IsTaken T q k t → is_type_tree t ≡ true
taken-type T q k (term l ts) h = h.0
taken-type T q k (param s i name) h = absurd h
taken-type T q k (bound s d e) h = absurd h
taken-type T q k (region r) h = absurd h
taken-type T q k (node l ts) h = absurd h
taken-type T q k (binder vs t) h = absurd h

taken-place : {R K : Type 0} (T : Task R K) (q : R) (k : ℕ) (t : Tree Depth) → IsTaken T q k t → IsPlaceIn (record { standing = t; under = k }) k t
taken-place T q k (term l ts) h = inl refl
taken-place T q k (param s i name) h = absurd h
taken-place T q k (bound s d e) h = absurd h
taken-place T q k (region r) h = absurd h
taken-place T q k (node l ts) h = absurd h
taken-place T q k (binder vs t) h = absurd h

both-types : {A : Type 0} (t : Tree Depth) → is_type_tree t ≡ true → is_type_tree t ≡ false → A
both-types t is other = absurd (let never : true ≡ false = sym is ∙ other in cc)

module _ {R K : Type 0} (T : Task R K) (laws : TaskLaws T) where
  -- what the folder took apart from one state to another, and remembers: each is at a place that meets P, and has to be
  -- taken apart, and none was remembered
  pub record Counts (P : TypeAt → Type 0) (s s' : Standing (State R K)) : Type 0 where
    pub started : List TypeAt
    pub few : T.amount s'.counters ≤ T.amount s.counters + length started
    pub memory : places s'.state.memory ≡ places s.state.memory ++ started
    pub distinct : AreDistinct (places s'.state.memory)
    pub each : (p : TypeAt) → IsIn p started → P p × IsTaken T s.state.rule p.under p.standing

  -- the same up to a refusal, with what was taken apart and isn't remembered yet
  pub record CountsSome (P : TypeAt → Type 0) (s s' : Standing (State R K)) : Type 0 where
    pub started : List TypeAt
    pub few : T.amount s'.counters ≤ T.amount s.counters + length started
    pub distinct : AreDistinct started
    pub new : (p : TypeAt) → IsIn p started → IsIn p (places s.state.memory) → ⊥
    pub each : (p : TypeAt) → IsIn p started → P p × IsTaken T s.state.rule p.under p.standing

  nothing : (P : TypeAt → Type 0) (s : Standing (State R K)) → AreDistinct (places s.state.memory) → Counts P s s
  nothing P s d = record { started = []; few = omega arith; memory = sym (append-nil (places s.state.memory)); distinct = d; each = λ p h. absurd h }

  -- of a list without repetitions the later items are others than the earlier
  apart : (xs ys : List TypeAt) → AreDistinct (xs ++ ys) → (p : TypeAt) → IsIn p ys → IsIn p xs → ⊥
  apart [] ys d p b a = a
  apart (x ∷ xs) ys d p b (inl e) = d.0 (IsIn-right x xs ys (rw (← e) b))
  apart (x ∷ xs) ys d p b (inr a) = apart xs ys d.1 p b a

  distinct-later : (xs ys : List TypeAt) → AreDistinct (xs ++ ys) → AreDistinct ys
  distinct-later [] ys d = d
  distinct-later (x ∷ xs) ys d = distinct-later xs ys d.1

  both_distinct : (xs ys : List TypeAt) → AreDistinct xs → AreDistinct ys → ((p : TypeAt) → IsIn p ys → IsIn p xs → ⊥) → AreDistinct (xs ++ ys)
  both_distinct [] ys d e f = e
  both_distinct (x ∷ xs) ys d e f = (
    λ h. elim (IsIn-append x xs ys h) [ inl a ↦ d.0 a | inr b ↦ f x b (inl refl) ],
    both_distinct xs ys d.1 e (λ p b a. f p b (inr a)),
  )

  -- what a whole walk counts, it counts up to where another one ends
  counts_some : (P Q : TypeAt → Type 0) (s s' : Standing (State R K)) → ((p : TypeAt) → P p → Q p) → Counts P s s' → CountsSome Q s s'
  counts_some P Q s s' f n =
      let whole = subst (λ xs. AreDistinct xs) n.memory n.distinct in
      record {
        started = n.started;
        few = n.few;
        distinct = distinct-later (places s.state.memory) n.started whole;
        new = apart (places s.state.memory) n.started whole;
        each = λ p h. (f p (n.each p h).0, (n.each p h).1);
      }

  nothing_some : (P : TypeAt → Type 0) (s s' : Standing (State R K)) → T.amount s'.counters ≤ T.amount s.counters → CountsSome P s s'
  nothing_some P s s' le = record { started = []; few = omega (arith, le); distinct = tt; new = λ p h g. h; each = λ p h. absurd h }

  -- the type itself comes to what was taken apart inside
  itself_some : (s s' : Standing (State R K)) (t : Tree Depth) → IsTaken T s.state.rule s.state.under t → (IsIn (here s.state t) (places s.state.memory) → ⊥)
      → CountsSome (λ p. IsPlaceInside p s.state.under t) (one_more T s) s' → CountsSome (λ p. IsPlaceIn p s.state.under t) s s'
  itself_some s s' t taken new n = record {
    started = here s.state t ∷ n.started;
    few = omega (arith, n.few, laws.count_one s.counters);
    distinct = (λ h. inside-smaller s.state.under s.state.under t (n.each (here s.state t) h).0, n.distinct);
    new = λ p h. elim h [ inl e ↦ rw e new | inr h ↦ n.new p h ];
    each = λ p h. elim h [
      | inl e ↦ rw e (taken-place T s.state.rule s.state.under t taken, taken)
      | inr h ↦ (place-inside p s.state.under t (n.each p h).0, (n.each p h).1)
    ];
  }

  -- what is noted at the end
  after_counts : (s s1 s' : Standing (State R K)) (t u r : Tree Depth) → IsTaken T s.state.rule s.state.under t → (started : List TypeAt)
      → T.amount s1.counters ≤ T.amount s.counters + length (started ++ here s.state t ∷ [])
      → places s1.state.memory ≡ places s.state.memory ++ started → AreDistinct (places s1.state.memory)
      → ((p : TypeAt) → IsIn p started → IsPlaceIn p s.state.under t × IsTaken T s.state.rule p.under p.standing)
      → here s1.state t ≡ here s.state t → (IsIn (here s1.state t) (places s1.state.memory) → ⊥)
      → AfterTerm T s1 t u r s' → Counts (λ p. IsPlaceIn p s.state.under t) s s'
  after_counts s s1 s' t u r taken started few memory distinct each at_same not_there (noted is) =
      let more : places (s1.state.memory ++ memo s1.state t u ∷ []) ≡ places s1.state.memory ++ here s1.state t ∷ [] = places-append s1.state.memory (memo s1.state t u) in
      record {
        started = started ++ here s.state t ∷ [];
        few = few;
        memory = more ∙ ap (λ xs. xs ++ here s1.state t ∷ []) memory ∙ ap (λ p. (places s.state.memory ++ started) ++ p ∷ []) at_same ∙ append_assoc (places s.state.memory) started (here s.state t ∷ []);
        distinct = rw more (AreDistinct-last (places s1.state.memory) (here s1.state t) distinct not_there);
        each = λ p h. elim (IsIn-append p started (here s.state t ∷ []) h) [
          | inl before ↦ each p before
          | inr last ↦ rw (IsIn-only p (here s.state t) last) (taken-place T s.state.rule s.state.under t taken, taken)
        ];
      }
  after_counts s s1 s' t u r taken started few memory distinct each at_same not_there (noted_again is there which) = absurd (not_there there)
  after_counts s s1 s' t u r taken started few memory distinct each at_same not_there (not_noted is) = both-types t (taken-type T s.state.rule s.state.under t taken) is

  unnoted : (s s' : Standing (State R K)) (t u r : Tree Depth) → is_type_tree t ≡ false → AfterTerm T s t u r s' → s' ≡ s
  unnoted s s' t u r other (noted is) = both-types t is other
  unnoted s s' t u r other (noted_again is there which) = both-types t is other
  unnoted s s' t u r other (not_noted is) = refl

  -- what was counted inside a term, and what was done at its end
  record CountsDescent (s : Standing (State R K)) (t r : Tree Depth) (s' : Standing (State R K)) : Type 0 where
    before : Standing (State R K)
    result : Tree Depth
    inside : Counts (λ p. IsPlaceInside p s.state.under t) s before
    same : before.state.under ≡ s.state.under
    after : AfterTerm T before t result r s'

  -- of a type that is taken apart
  of_taken : (s s' : Standing (State R K)) (t r : Tree Depth) → IsTaken T s.state.rule s.state.under t → (IsIn (here s.state t) (places s.state.memory) → ⊥)
      → CountsDescent (one_more T s) t r s' → Counts (λ p. IsPlaceIn p s.state.under t) s s'
  of_taken s s' t r taken new c =
      let n = c.inside in
      let s1 = c.before in
      let not_inside : IsIn (here s.state t) n.started → ⊥ = λ h. inside-smaller s.state.under s.state.under t (n.each (here s.state t) h).0 in
      let at_same : here s1.state t ≡ here s.state t = ap (λ k. record { standing = t; under = k }) c.same in
      let not_there : IsIn (here s1.state t) (places s1.state.memory) → ⊥ =
      λ h. elim (IsIn-append (here s.state t) (places s.state.memory) n.started (subst (λ xs. IsIn (here s.state t) xs) n.memory (subst (λ p. IsIn p (places s1.state.memory)) at_same h))) [
        | inl b ↦ new b
        | inr a ↦ not_inside a
      ] in
      let one = laws.count_one s.counters in
      after_counts s s1 s' t c.result r taken n.started (omega (arith, n.few, one, length-append n.started (here s.state t ∷ []))) n.memory n.distinct
      (λ p h. (place-inside p s.state.under t (n.each p h).0, (n.each p h).1)) at_same not_there c.after

  -- of a term that is gone into
  of_gone : (s s' : Standing (State R K)) (t r : Tree Depth) → is_type_tree t ≡ false → CountsDescent s t r s' → Counts (λ p. IsPlaceInside p s.state.under t) s s'
  of_gone s s' t r other c = rw (unnoted c.before s' t c.result r other c.after) c.inside

  outside : (s s' : Standing (State R K)) (t : Tree Depth) → Counts (λ p. IsPlaceInside p s.state.under t) s s' → Counts (λ p. IsPlaceIn p s.state.under t) s s'
  outside s s' t n = record { started = n.started; few = n.few; memory = n.memory; distinct = n.distinct; each = λ p h. (place-inside p s.state.under t (n.each p h).0, (n.each p h).1) }

  mutual
    pub counts : {s s' : Standing (State R K)} {t r : Tree Depth} → Walks (remembering T) s t r s' → Knows T laws s.state → AreDistinct (places s.state.memory)
        → Counts (λ p. IsPlaceIn p s.state.under t) s s'
    counts {s} (at_region {t} is h) knows d = rw h.0 (nothing (λ p. IsPlaceIn p s.state.under t) s d)
    counts {s} (replaced {t} {r} is (given {kept} {c} g)) knows d =
        let le = (laws.given s t r kept c g).amount in
        record { started = []; few = omega (arith, le); memory = sym (append-nil (places s.state.memory)); distinct = d; each = λ p h. absurd h }
    counts {s} (replaced {t} is (remembered h)) knows d = nothing (λ p. IsPlaceIn p s.state.under t) s d
    counts {s} (kept {t} is (left_alone h)) knows d = nothing (λ p. IsPlaceIn p s.state.under t) s d
    counts {s} {s'} (descended {t} {r} is (taken_apart taken new) w) knows d =
        of_taken s s' t r taken new (counts_descent w (laws.taken_entered s.state.rule s.state.under t taken) knows d)
    counts {s} {s'} (descended {t} {r} is (gone_into other entered) w) knows d = outside s s' t (of_gone s s' t r other (counts_descent w entered knows d))
    counts {s} {s'} (passed {t} is w) knows d = outside s s' t (counts_inside w knows d)
    counts {s} (at_node w fit) knows d = let n = counts_all w knows d in record { started = n.started; few = n.few; memory = n.memory; distinct = n.distinct; each = n.each }
    counts {s} (at_binder enter w leave) knows d =
        let n = rw enter at (counts w (rw enter knows) (rw enter d)) in
        rw leave (record { started = n.started; few = n.few; memory = n.memory; distinct = n.distinct; each = n.each })

    counts_descent : {s s' : Standing (State R K)} {t r : Tree Depth} → Descends (remembering T) s t r s' → T.IsEntered s.state.rule s.state.under t → Knows T laws s.state
        → AreDistinct (places s.state.memory) → CountsDescent s t r s'
    counts_descent (rebuilt {s1} {t} {u} {r} w after) entered knows d =
        record { before = s1; result = u; inside = counts_inside w knows d; same = (does_inside T laws w entered knows).stays.under; after = after }

    counts_inside : {s s' : Standing (State R K)} {t u : Tree Depth} → WalksInside (remembering T) s t u s' → Knows T laws s.state → AreDistinct (places s.state.memory)
        → Counts (λ p. IsPlaceInside p s.state.under t) s s'
    counts_inside (in_term w fit) knows d = let n = counts_all w knows d in record { started = n.started; few = n.few; memory = n.memory; distinct = n.distinct; each = n.each }
    counts_inside {s} (in_param {o} {i} {name}) knows d = nothing (λ p. ⊥) s d
    counts_inside {s} (in_bound {o} {d = x} {e}) knows d = nothing (λ p. ⊥) s d

    counts_all : {s s' : Standing (State R K)} {ts us : Forest Depth} → WalksAll (remembering T) s ts us s' → Knows T laws s.state → AreDistinct (places s.state.memory)
        → Counts (λ p. IsPlaceAmong p s.state.under ts) s s'
    counts_all {s} done knows d = nothing (λ p. ⊥) s d
    counts_all {s} (next {s1} {t} {ts = rest} w more) knows d =
        let m = counts w knows d in
        let o = (does T laws w knows).stays in
        let n = rw (o.under) at (counts_all more o.knows m.distinct) in
        record {
          started = m.started ++ n.started;
          few = omega (arith, n.few, m.few, length-append m.started n.started);
          memory = n.memory ∙ ap (λ xs. xs ++ n.started) m.memory ∙ append_assoc (places s.state.memory) m.started n.started;
          distinct = n.distinct;
          each = λ p h. elim (IsIn-append p m.started n.started h) [
            | inl b ↦ (inl (m.each p b).0, (m.each p b).1)
            | inr a ↦ (inr (n.each p a).0, rw o.rule at (n.each p a).1)
          ];
        }

  -- the same up to a refusal
  module _ (errors : Errors Refusal) where
    -- what was taken apart before a tree comes to what was in it
    first_then : (P Q V : TypeAt → Type 0) (s s1 s' : Standing (State R K)) → s1.state.rule ≡ s.state.rule → ((p : TypeAt) → P p → V p) → ((p : TypeAt) → Q p → V p)
        → Counts P s s1 → CountsSome Q s1 s' → CountsSome V s s'
    first_then P Q V s s1 s' rule into_first into_rest m n =
        let whole = subst (λ xs. AreDistinct xs) m.memory m.distinct in
        let new : (p : TypeAt) → IsIn p n.started → IsIn p (places s.state.memory ++ m.started) → ⊥ = λ p h g. n.new p h (subst (λ xs. IsIn p xs) (sym m.memory) g) in
        record {
          started = m.started ++ n.started;
          few = omega (arith, n.few, m.few, length-append m.started n.started);
          distinct = both_distinct m.started n.started (distinct-later (places s.state.memory) m.started whole) n.distinct
              (λ p h g. new p h (IsIn-right p (places s.state.memory) m.started g));
          new = λ p h g. elim (IsIn-append p m.started n.started h) [
            | inl b ↦ apart (places s.state.memory) m.started whole p b g
            | inr a ↦ new p a (IsIn-left p (places s.state.memory) m.started g)
          ];
          each = λ p h. elim (IsIn-append p m.started n.started h) [
            | inl b ↦ (into_first p (m.each p b).0, (m.each p b).1)
            | inr a ↦ (into_rest p (n.each p a).0, rw rule at (n.each p a).1)
          ];
        }

    wider : (P Q : TypeAt → Type 0) (s s' : Standing (State R K)) → ((p : TypeAt) → P p → Q p) → CountsSome P s s' → CountsSome Q s s'
    wider P Q s s' f n = record { started = n.started; few = n.few; distinct = n.distinct; new = n.new; each = λ p h. (f p (n.each p h).0, (n.each p h).1) }

    mutual
      pub counts_failed : {s s' : Standing (State R K)} {t : Tree Depth} {e : Refusal} → Fails (remembering T) errors s t e s' → Knows T laws s.state
          → AreDistinct (places s.state.memory) → CountsSome (λ p. IsPlaceIn p s.state.under t) s s'
      counts_failed {s} {s'} {t} (region_failed is h) knows d = let same = ap (λ q. T.amount q.counters) h.0 in nothing_some (λ p. IsPlaceIn p s.state.under t) s s' (omega (arith, same))
      counts_failed {s} {s'} {t} {e} (term_failed is h) knows d =
          nothing_some (λ p. IsPlaceIn p s.state.under t) s s' (laws.term_refused errors.unbuilt s t e s' h).amount
      counts_failed {s} {s'} {t} (descent_failed is (taken_apart taken new) f) knows d = itself_some s s' t taken new (counts_failed_descent f (laws.taken_entered s.state.rule s.state.under t taken) knows d)
      counts_failed {s} {s'} {t} (descent_failed is (gone_into other entered) f) knows d =
          wider (λ p. IsPlaceInside p s.state.under t) (λ p. IsPlaceIn p s.state.under t) s s' (λ p h. place-inside p s.state.under t h) (counts_failed_descent f entered knows d)
      counts_failed {s} {s'} {t} (passed_failed is f) knows d =
          wider (λ p. IsPlaceInside p s.state.under t) (λ p. IsPlaceIn p s.state.under t) s s' (λ p h. place-inside p s.state.under t h) (counts_failed_inside f knows d)
      counts_failed {s} {s'} {t} (enter_failed h) knows d = let same = ap (λ q. T.amount q.counters) h.0 in nothing_some (λ p. IsPlaceIn p s.state.under t) s s' (omega (arith, same))
      counts_failed {s} (under_failed enter f) knows d =
          let n = rw enter at (counts_failed f (rw enter knows) (rw enter d)) in
          record { started = n.started; few = n.few; distinct = n.distinct; new = n.new; each = n.each }
      counts_failed (leave_failed enter w h) knows d = absurd h
      counts_failed (node_failed f) knows d = let n = counts_failed_all f knows d in record { started = n.started; few = n.few; distinct = n.distinct; new = n.new; each = n.each }
      counts_failed {s} {s'} {t} (node_not_built w b) knows d = counts_some _ (λ p. IsPlaceIn p s.state.under t) s s' (λ p h. h) (counts_all w knows d)
      counts_failed {s} {s'} {t} (clause_lost w lost b) knows d = counts_some _ (λ p. IsPlaceIn p s.state.under t) s s' (λ p h. h) (counts_all w knows d)

      counts_failed_descent : {s s' : Standing (State R K)} {t : Tree Depth} {e : Refusal} → DescentFails (remembering T) errors s t e s' → T.IsEntered s.state.rule s.state.under t
          → Knows T laws s.state → AreDistinct (places s.state.memory) → CountsSome (λ p. IsPlaceInside p s.state.under t) s s'
      counts_failed_descent (inside_failed f) entered knows d = counts_failed_inside f knows d
      counts_failed_descent {s} {s'} {t} (after_failed w h) entered knows d =
          rw h.0 (counts_some (λ p. IsPlaceInside p s.state.under t) (λ p. IsPlaceInside p s.state.under t) s _ (λ p h. h) (counts_inside w knows d))

      counts_failed_inside : {s s' : Standing (State R K)} {t : Tree Depth} {e : Refusal} → InsideFails (remembering T) errors s t e s'
          → Knows T laws s.state → AreDistinct (places s.state.memory) → CountsSome (λ p. IsPlaceInside p s.state.under t) s s'
      counts_failed_inside (in_term_failed f) knows d = let n = counts_failed_all f knows d in record { started = n.started; few = n.few; distinct = n.distinct; new = n.new; each = n.each }
      counts_failed_inside {s} {s'} {t} (not_built w b) knows d =
          counts_some (λ p. IsPlaceInside p s.state.under t) (λ p. IsPlaceInside p s.state.under t) s s' (λ p h. h) (counts_inside w knows d)

      counts_failed_all : {w : Wanted} {s s' : Standing (State R K)} {ts : Forest Depth} {e : Refusal} → FailsAll (remembering T) errors w s ts e s'
          → Knows T laws s.state → AreDistinct (places s.state.memory) → CountsSome (λ p. IsPlaceAmong p s.state.under ts) s s'
      counts_failed_all {w} {s} {s'} {ts} (stopped h) knows d = nothing_some (λ p. IsPlaceAmong p s.state.under ts) s s' (omega arith)
      counts_failed_all {w} {s} {s'} {ts} (fails_here {t} f) knows d = wider (λ p. IsPlaceIn p s.state.under t) (λ p. IsPlaceAmong p s.state.under ts) s s' (λ p h. inl h) (counts_failed f knows d)
      counts_failed_all {w} {s} {s'} {ts} (no_clause {t} g bad h) knows d =
          counts_some (λ p. IsPlaceIn p s.state.under t) (λ p. IsPlaceAmong p s.state.under ts) s s' (λ p h. inl h) (counts g knows d)
      counts_failed_all {w} {s} {s'} {ts} (later {s1} {t} {ts = rest} g fit f) knows d =
          let m = counts g knows d in
          let o = (does T laws g knows).stays in
          let n = counts_failed_all f o.knows m.distinct in
          first_then (λ p. IsPlaceIn p s.state.under t) (λ p. IsPlaceAmong p s1.state.under rest) (λ p. IsPlaceAmong p s.state.under ts) s s1 s' o.rule
          (λ p h. inl h) (λ p h. inr (rw o.under at h)) m n

-- from a state that remembers nothing
module _ {R K : Type 0} (T : Task R K) (laws : TaskLaws T) (among : List TypeAt) (s s' : Standing (State R K)) (t : Tree Depth) (fresh : s.state.memory ≡ [])
    (all : (p : TypeAt) → IsPlaceIn p s.state.under t → IsTaken T s.state.rule p.under p.standing → IsIn p among) where
  -- of a state that remembers nothing, all that is remembered was done by the rule
  pub knows-nothing : Knows T laws s.state
  knows-nothing m h = absurd (subst (λ ms. IsIn m ms) fresh h)

  remembers-none : AreDistinct (places s.state.memory)
  remembers-none = rw fresh tt

  pairs_of : CountsSome T laws (λ p. IsPlaceIn p s.state.under t) s s' → CountsPairs among (T.amount s.counters) (T.amount s'.counters)
  pairs_of n = record { pairs = n.started; distinct = n.distinct; each = λ p h. all p (n.each p h).0 (n.each p h).1; few = n.few }

  -- a walk counts distinct places among those where a type has to be taken apart
  pub pairs_walked : (r : Tree Depth) → Walks (remembering T) s t r s' → CountsPairs among (T.amount s.counters) (T.amount s'.counters)
  pairs_walked r w =
      pairs_of (counts_some T laws (λ p. IsPlaceIn p s.state.under t) (λ p. IsPlaceIn p s.state.under t) s s' (λ p h. h) (counts T laws w knows-nothing remembers-none))

  -- and so does one that is refused
  pub pairs_failed : (errors : Errors Refusal) (e : Refusal) → Fails (remembering T) errors s t e s' → CountsPairs among (T.amount s.counters) (T.amount s'.counters)
  pairs_failed errors e f = pairs_of (counts_failed T laws errors f knows-nothing remembers-none)
