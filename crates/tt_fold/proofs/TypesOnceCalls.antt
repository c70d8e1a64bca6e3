-- A folder of types that remembers has no type taken apart twice.
use Rattle.std.proofs.Common.{◌≡◌, ◌≤◌, ◌⊎◌, inl, inr, List, [], ◌∷◌, ◌++◌, true, refl, subst, ◌∙◌, arith}
use Rattle.std.proofs.lemmas.Bool.{cases_Bool}
use Rattle.std.specs.Prelude.{⊤}
use Rattle.tt_kinds.specs.Tree.{Depth, Tree, Forest, param, bound, region, term, node, binder}
use Rattle.tt_interner.specs.Rows.{Row}
use Rattle.tt_interner.specs.Stored.{Counters}
use Rattle.tt_visit.specs.Types.{is_type_tree}
use Rattle.tt_fold.specs.Walk.{Errors, Wanted, Answer, replace, keep, descend, Walks, Descends}
use Rattle.tt_fold.specs.Walk.{WalksInside, WalksAll, at_region, replaced, kept, descended, passed, rebuilt, at_node}
use Rattle.tt_fold.specs.Walk.{at_binder, in_term, in_param, in_bound, done, next, Fails, DescentFails, InsideFails}
use Rattle.tt_fold.specs.Walk.{FailsAll, region_failed, term_failed, descent_failed, passed_failed, enter_failed}
use Rattle.tt_fold.specs.Walk.{under_failed, leave_failed, node_failed, node_not_built, clause_lost, stopped}
use Rattle.tt_fold.specs.Walk.{inside_failed, not_built, after_failed, in_term_failed, here as fails_here, later}
use Rattle.tt_fold.specs.Walk.{no_clause}
use Rattle.tt_fold.specs.Counts.{Standing}
use Rattle.tt_fold.specs.Places.{IsIn, AreDistinct}
use Rattle.tt_fold.specs.Remember.{State, places}
use Rattle.tt_fold.specs.Stands.{StandsIn, StandsAmong, itself, in_term as stands_in_term, in_node as stands_in_node}
use Rattle.tt_fold.specs.Stands.{in_binder as stands_in_binder, in_first, in_later}
use Rattle.tt_fold.specs.Types.{TypeHooks}
use Rattle.tt_fold.specs.TypesOnce.{with_counters, IsMeaning, IsTypeOf, noted_at, Calls, no_more, takes_apart, goes_on}
use Rattle.tt_fold.specs.TypesOnce.{CallsOnce, FailsAt, FailsOnce, OnType, recalled, answered, Noted, recalling}
use Rattle.tt_fold.proofs.PlaceLaws.{IsIn-append, size, size_all}
use Rattle.tt_fold.proofs.TypesOnceLaws.{Stays}

mutual
  size-stands : {u t : Tree Depth} → StandsIn u t → size u ≤ size t
  size-stands itself = omega arith
  size-stands (stands_in_term h) = let le = size-among h in omega arith
  size-stands (stands_in_node h) = size-among h
  size-stands (stands_in_binder h) = size-stands h

  size-among : {u : Tree Depth} {ts : Forest Depth} → StandsAmong u ts → size u ≤ size_all ts
  size-among (in_first h) = let le = size-stands h in omega arith
  size-among (in_later h) = let le = size-among h in omega arith

-- the tree u occurs in a child of the term t
abbrev pub IsInside : Tree Depth → Tree Depth → Type 0
IsInside u (term l ts) = StandsAmong u ts
IsInside u _ = ⊥

-- no term occurs in its own children
not-inside : (t : Tree Depth) → IsInside t t → ⊥
not-inside (term l ts) h = let le = size-among h in omega arith
not-inside (param s i name) h = h
not-inside (bound s d e) h = h
not-inside (region r) h = h
not-inside (node l ts) h = h
not-inside (binder vs t) h = h

inside-stands : (u t : Tree Depth) → IsInside u t → StandsIn u t
inside-stands u (term l ts) h = stands_in_term h
inside-stands u (param s i name) h = absurd h
inside-stands u (bound s d e) h = absurd h
inside-stands u (region r) h = absurd h
inside-stands u (node l ts) h = absurd h
inside-stands u (binder vs t) h = absurd h

both_distinct : {A : Type 0} (xs ys : List A) → AreDistinct xs → AreDistinct ys → ((x : A) → IsIn x ys → IsIn x xs → ⊥) → AreDistinct (xs ++ ys)
both_distinct [] ys d e f = e
both_distinct (x ∷ xs) ys d e f = (
  λ h. elim (IsIn-append x xs ys h) [ inl a ↦ d.0 a | inr b ↦ f x b (inl refl) ],
  both_distinct xs ys d.1 e (λ p b a. f p b (inr a)),
)

no-replacement : (r : Tree Depth) → replace r ≡ descend → ⊥
no-replacement r h = cc

no-keeping : keep ≡ descend → ⊥
no-keeping h = cc

module _ {M E S : Type 0} (means : List Row → S → M) (H : TypeHooks (Standing M) E) (steady : Stays means H) (m : M) (is_meaning : IsMeaning means m) where
  Calls-append : {c c1 c' : Counters} {ts us : List (Tree Depth)} → Calls H m c ts c1 → Calls H m c1 us c' → Calls H m c (ts ++ us) c'
  Calls-append no_more b = b
  Calls-append (takes_apart h a) b = takes_apart h (Calls-append a b)
  Calls-append (goes_on other h a) b = goes_on other h (Calls-append a b)

  -- the result of the type is remembered
  abbrev IsKnown : Standing (State M ⊤) → Tree Depth → Type 0
  IsKnown s u = IsIn (noted_at u) (places s.state.memory)

  -- What the hook had taken apart from one state to another: types that meet P, none of which was remembered, and all
  -- of which are.
  pub record Takes (P : Tree Depth → Type 0) (s s' : Standing (State M ⊤)) : Type 0 where
    pub rule : s'.state.rule ≡ m
    pub types : List (Tree Depth)
    pub calls : Calls H m s.counters types s'.counters
    pub distinct : AreDistinct types
    pub new : (u : Tree Depth) → IsIn u types → IsKnown s u → ⊥
    pub older : (u : Tree Depth) → IsKnown s u → IsKnown s' u
    pub noted : (u : Tree Depth) → IsIn u types → IsKnown s' u
    pub each : (u : Tree Depth) → IsIn u types → (is_type_tree u ≡ true) × P u

  -- the hook is called once more, at a type that meets P, and fails
  pub record FailsThere (P : Tree Depth → Type 0) (unbuilt : Tree Depth → E → Type 0) (c : Counters) (e : E) (c' : Counters) : Type 0 where
    pub type : Tree Depth
    pub is_type : is_type_tree type ≡ true
    pub place : P type
    pub end : Standing M
    pub fails : H.type_fails unbuilt (with_counters m c) type e end
    pub counters : c' ≡ end.counters

  -- the same up to an error
  pub record TakesSome (P : Tree Depth → Type 0) (unbuilt : Tree Depth → E → Type 0) (s : Standing (State M ⊤)) (e : E) (c' : Counters) : Type 0 where
    pub before : Counters
    pub types : List (Tree Depth)
    pub calls : Calls H m s.counters types before
    pub last : (c' ≡ before) ⊎ FailsThere P unbuilt before e c'
    pub distinct : AreDistinct types
    pub new : (u : Tree Depth) → IsIn u types → IsKnown s u → ⊥
    pub each : (u : Tree Depth) → IsIn u types → (is_type_tree u ≡ true) × P u

  nothing : (P : Tree Depth → Type 0) (s : Standing (State M ⊤)) → s.state.rule ≡ m → Takes P s s
  nothing P s rule = record { rule = rule; types = []; calls = no_more; distinct = tt; new = λ u h. absurd h; older = λ u h. h; noted = λ u h. absurd h; each = λ u h. absurd h }

  wider : (P Q : Tree Depth → Type 0) (s s' : Standing (State M ⊤)) → ((u : Tree Depth) → P u → Q u) → Takes P s s' → Takes Q s s'
  wider P Q s s' f n = record {
    rule = n.rule;
    types = n.types;
    calls = n.calls;
    distinct = n.distinct;
    new = n.new;
    older = n.older;
    noted = n.noted;
    each = λ u h. ((n.each u h).0, f u (n.each u h).1);
  }

  -- one after the other
  both : (P Q V : Tree Depth → Type 0) (s s1 s' : Standing (State M ⊤)) → ((u : Tree Depth) → P u → V u) → ((u : Tree Depth) → Q u → V u)
      → Takes P s s1 → Takes Q s1 s' → Takes V s s'
  both P Q V s s1 s' f g a b = record {
    rule = b.rule;
    types = a.types ++ b.types;
    calls = Calls-append a.calls b.calls;
    distinct = both_distinct a.types b.types a.distinct b.distinct (λ u second before. b.new u second (a.noted u before));
    new = λ u h known. elim (IsIn-append u a.types b.types h) [ inl before ↦ a.new u before known | inr second ↦ b.new u second (a.older u known) ];
    older = λ u h. b.older u (a.older u h);
    noted = λ u h. elim (IsIn-append u a.types b.types h) [ inl before ↦ b.older u (a.noted u before) | inr second ↦ b.noted u second ];
    each = λ u h. elim (IsIn-append u a.types b.types h) [
      | inl before ↦ ((a.each u before).0, f u (a.each u before).1)
      | inr second ↦ ((b.each u second).0, g u (b.each u second).1)
    ];
  }

  -- what a hook began that had a type taken apart
  record Begins (s : Standing (State M ⊤)) (t : Tree Depth) (s1 : Standing (State M ⊤)) : Type 0 where
    rule : s1.state.rule ≡ m
    memory : s1.state.memory ≡ s.state.memory
    new : IsKnown s t → ⊥
    call : H.on_type (with_counters m s.counters) t descend (with_counters m s1.counters)

  own-call : (s : Standing (State M ⊤)) (t : Tree Depth) (a : Answer) (q : Standing M) → s.state.rule ≡ m → IsMeaning means q.state
      → H.on_type (with_counters s.state.rule s.counters) t a q → (q.state ≡ m) × H.on_type (with_counters m s.counters) t a (with_counters m q.counters)
  own-call s t a q rule meaning h =
      let at_m : H.on_type (with_counters m s.counters) t a q = rw rule at h in
      let same : q.state ≡ m = steady (with_counters m s.counters) q t a is_meaning meaning at_m in
      (same, rw same at at_m)

  begins : {s s1 : Standing (State M ⊤)} {t : Tree Depth} {a : Answer} → OnType means H s t a s1 → a ≡ descend → s.state.rule ≡ m → Begins s t s1
  begins (recalled {t} {r} h) is rule = absurd (no-replacement r is)
  begins {s} (answered {t} {a} {q} new meaning h) is rule =
      let own = own-call s t a q rule meaning h in
      record { rule = own.0; memory = refl; new = new; call = rw is at own.1 }

  -- an answer that has nothing taken apart
  answers : (P : Tree Depth → Type 0) {s s1 : Standing (State M ⊤)} {t : Tree Depth} {a : Answer} → OnType means H s t a s1 → (a ≡ descend → ⊥) → s.state.rule ≡ m → Takes P s s1
  answers P {s} (recalled {t} {r} h) other rule = nothing P s rule
  answers P {s} (answered {t} {a} {q} new meaning h) other rule =
      let own = own-call s t a q rule meaning h in
      record { rule = own.0; types = []; calls = goes_on other own.1 no_more; distinct = tt; new = λ u h. absurd h; older = λ u h. h; noted = λ u h. absurd h; each = λ u h. absurd h }

  answers_term : (P : Tree Depth → Type 0) {s s1 : Standing (State M ⊤)} {t : Tree Depth} {a : Answer} → (recalling means H).on_term s t a s1 → (a ≡ descend → ⊥) → s.state.rule ≡ m → Takes P s s1
  answers_term P {s} {s1} {t} {a} h other rule = elim (cases_Bool (is_type_tree t)) [
    | inl is ↦ answers P (h.0 is) other rule
    | inr not_type ↦ absurd (other (h.1 not_type).0)
  ]

  -- what was taken apart inside a term, and what was noted at its end
  record TakesDescent (t r : Tree Depth) (s1 s' : Standing (State M ⊤)) : Type 0 where
    before : Standing (State M ⊤)
    result : Tree Depth
    inside : Takes (λ u. IsInside u t) s1 before
    after : (recalling means H).after_term before t result r s'

  -- of a type
  of_type : (s s1 s2 s' : Standing (State M ⊤)) (t r : Tree Depth) → is_type_tree t ≡ true → Begins s t s1 → Takes (λ u. IsInside u t) s1 s2 → Noted means H s2 t r s'
      → Takes (λ u. StandsIn u t) s s'
  of_type s s1 s2 s' t r is b n note =
      let earlier : (u : Tree Depth) → IsKnown s u → IsKnown s1 u = λ u h. rw b.memory h in
      let all : Calls H m s.counters (t ∷ n.types) s2.counters = takes_apart b.call n.calls in
      record {
        rule = note.rule ∙ n.rule;
        types = t ∷ n.types;
        calls = rw note.counters all;
        distinct = (λ h. not-inside t (n.each t h).1, n.distinct);
        new = λ u h known. elim h [ inl same ↦ b.new (subst (λ v. IsKnown s v) same known) | inr h ↦ n.new u h (earlier u known) ];
        older = λ u h. note.older (noted_at u) (n.older u (earlier u h));
        noted = λ u h. elim h [ inl same ↦ rw same note.noted | inr h ↦ note.older (noted_at u) (n.noted u h) ];
        each = λ u h. elim h [ inl same ↦ rw same (is, itself) | inr h ↦ ((n.each u h).0, inside-stands u t (n.each u h).1) ];
      }

  -- of any term
  of_term : {s s1 s' : Standing (State M ⊤)} {t r : Tree Depth} → (recalling means H).on_term s t descend s1 → s.state.rule ≡ m → TakesDescent t r s1 s' → Takes (λ u. StandsIn u t) s s'
  of_term {s} {s1} {s'} {t} {r} h rule d = elim (cases_Bool (is_type_tree t)) [
    | inl is ↦ of_type s s1 d.before s' t r is (begins (h.0 is) refl rule) d.inside (d.after.1 is)
    | inr not_type ↦ (let n : Takes (λ u. StandsIn u t) s1 d.before = wider (λ u. IsInside u t) (λ u. StandsIn u t) s1 d.before (λ u h. inside-stands u t h) d.inside in
        rw (d.after.2 not_type) (subst (λ q. Takes (λ u. StandsIn u t) q d.before) (h.1 not_type).1 n))
  ]

  rule-then : {s s1 : Standing (State M ⊤)} {t : Tree Depth} → (recalling means H).on_term s t descend s1 → s.state.rule ≡ m → s1.state.rule ≡ m
  rule-then {s} {s1} {t} h rule = elim (cases_Bool (is_type_tree t)) [
    | inl is ↦ (begins (h.0 is) refl rule).rule
    | inr not_type ↦ rw (h.1 not_type).1 rule
  ]

  mutual
    pub takes : {s s' : Standing (State M ⊤)} {t r : Tree Depth} → Walks (recalling means H) s t r s' → s.state.rule ≡ m → Takes (λ u. StandsIn u t) s s'
    takes {s} (at_region {t} is h) rule = rw h.1 (nothing (λ u. StandsIn u t) s rule)
    takes (replaced {t} {r} is h) rule = answers_term (λ u. StandsIn u t) h (no-replacement r) rule
    takes (kept {t} is h) rule = answers_term (λ u. StandsIn u t) h no-keeping rule
    takes (descended {s1} {t} {r} is h d) rule = of_term h rule (takes_descent d (rule-then h rule))
    takes {s} {s'} (passed {t} is w) rule = wider (λ u. IsInside u t) (λ u. StandsIn u t) s s' (λ u h. inside-stands u t h) (takes_inside w rule)
    takes {s} {s'} (at_node {l} {ts} {us} w fit) rule = wider (λ u. StandsAmong u ts) (λ u. StandsIn u (node l ts)) s s' (λ u h. stands_in_node h) (takes_all w rule)
    takes {s} {s'} (at_binder {s1} {s2} {vs} {t} {u} enter w leave) rule =
        let n : Takes (λ v. StandsIn v t) s s2 = subst (λ q. Takes (λ v. StandsIn v t) q s2) enter (takes w (rw enter rule)) in
        rw leave (wider (λ v. StandsIn v t) (λ v. StandsIn v (binder vs t)) s s2 (λ v h. stands_in_binder h) n)

    takes_descent : {s s' : Standing (State M ⊤)} {t r : Tree Depth} → Descends (recalling means H) s t r s' → s.state.rule ≡ m → TakesDescent t r s s'
    takes_descent (rebuilt {s1} {t} {u} {r} w after) rule = record { before = s1; result = u; inside = takes_inside w rule; after = after }

    takes_inside : {s s' : Standing (State M ⊤)} {t u : Tree Depth} → WalksInside (recalling means H) s t u s' → s.state.rule ≡ m → Takes (λ u. IsInside u t) s s'
    takes_inside (in_term w fit) rule = takes_all w rule
    takes_inside {s} (in_param {o} {i} {name}) rule = nothing (λ u. ⊥) s rule
    takes_inside {s} (in_bound {o} {d} {e}) rule = nothing (λ u. ⊥) s rule

    takes_all : {s s' : Standing (State M ⊤)} {ts us : Forest Depth} → WalksAll (recalling means H) s ts us s' → s.state.rule ≡ m → Takes (λ u. StandsAmong u ts) s s'
    takes_all {s} done rule = nothing (λ u. StandsAmong u _) s rule
    takes_all {s} {s'} {ts} (next {s1} {t} {u} {ts = rest} w more) rule =
        let n = takes w rule in
        both (λ u. StandsIn u t) (λ u. StandsAmong u rest) (λ u. StandsAmong u ts) s s1 s' (λ u h. in_first h) (λ u h. in_later h) n (takes_all more n.rule)

  -- the same up to an error
  module _ (errors : Errors E) where
    abbrev Some : (Tree Depth → Type 0) → Standing (State M ⊤) → E → Counters → Type 0
    Some P = TakesSome P errors.unbuilt

    -- a whole walk before an error that is no call's
    ended : (P : Tree Depth → Type 0) (s s1 : Standing (State M ⊤)) (e : E) (c' : Counters) → c' ≡ s1.counters → Takes P s s1 → Some P s e c'
    ended P s s1 e c' same n = record { before = s1.counters; types = n.types; calls = n.calls; last = inl same; distinct = n.distinct; new = n.new; each = n.each }

    wider_last : (P Q : Tree Depth → Type 0) (c : Counters) (e : E) (c' : Counters) → ((u : Tree Depth) → P u → Q u)
        → (c' ≡ c) ⊎ FailsThere P errors.unbuilt c e c' → (c' ≡ c) ⊎ FailsThere Q errors.unbuilt c e c'
    wider_last P Q c e c' f (inl same) = inl same
    wider_last P Q c e c' f (inr h) = inr (record { type = h.type; is_type = h.is_type; place = f h.type h.place; end = h.end; fails = h.fails; counters = h.counters })

    wider_some : (P Q : Tree Depth → Type 0) (s : Standing (State M ⊤)) (e : E) (c' : Counters) → ((u : Tree Depth) → P u → Q u) → Some P s e c' → Some Q s e c'
    wider_some P Q s e c' f n = record {
      before = n.before;
      types = n.types;
      calls = n.calls;
      last = wider_last P Q n.before e c' f n.last;
      distinct = n.distinct;
      new = n.new;
      each = λ u h. ((n.each u h).0, f u (n.each u h).1);
    }

    first_then : (P Q V : Tree Depth → Type 0) (s s1 : Standing (State M ⊤)) (e : E) (c' : Counters) → ((u : Tree Depth) → P u → V u) → ((u : Tree Depth) → Q u → V u)
        → Takes P s s1 → Some Q s1 e c' → Some V s e c'
    first_then P Q V s s1 e c' f g a b = record {
      before = b.before;
      types = a.types ++ b.types;
      calls = Calls-append a.calls b.calls;
      last = wider_last Q V b.before e c' g b.last;
      distinct = both_distinct a.types b.types a.distinct b.distinct (λ u second before. b.new u second (a.noted u before));
      new = λ u h known. elim (IsIn-append u a.types b.types h) [ inl before ↦ a.new u before known | inr second ↦ b.new u second (a.older u known) ];
      each = λ u h. elim (IsIn-append u a.types b.types h) [
        | inl before ↦ ((a.each u before).0, f u (a.each u before).1)
        | inr second ↦ ((b.each u second).0, g u (b.each u second).1)
      ];
    }

    some_of_type : (s s1 : Standing (State M ⊤)) (t : Tree Depth) (e : E) (c' : Counters) → is_type_tree t ≡ true → Begins s t s1 → Some (λ u. IsInside u t) s1 e c' → Some (λ u. StandsIn u t) s e c'
    some_of_type s s1 t e c' is b n =
        let earlier : (u : Tree Depth) → IsKnown s u → IsKnown s1 u = λ u h. rw b.memory h in
        record {
          before = n.before;
          types = t ∷ n.types;
          calls = takes_apart b.call n.calls;
          last = wider_last (λ u. IsInside u t) (λ u. StandsIn u t) n.before e c' (λ u h. inside-stands u t h) n.last;
          distinct = (λ h. not-inside t (n.each t h).1, n.distinct);
          new = λ u h known. elim h [ inl same ↦ b.new (subst (λ v. IsKnown s v) same known) | inr h ↦ n.new u h (earlier u known) ];
          each = λ u h. elim h [ inl same ↦ rw same (is, itself) | inr h ↦ ((n.each u h).0, inside-stands u t (n.each u h).1) ];
        }

    some_of_term : {s s1 : Standing (State M ⊤)} {t : Tree Depth} (e : E) (c' : Counters) → (recalling means H).on_term s t descend s1 → s.state.rule ≡ m
        → Some (λ u. IsInside u t) s1 e c' → Some (λ u. StandsIn u t) s e c'
    some_of_term {s} {s1} {t} e c' h rule n = elim (cases_Bool (is_type_tree t)) [
      | inl is ↦ some_of_type s s1 t e c' is (begins (h.0 is) refl rule) n
      | inr not_type ↦ subst (λ q. Some (λ u. StandsIn u t) q e c') (h.1 not_type).1 (wider_some (λ u. IsInside u t) (λ u. StandsIn u t) s1 e c' (λ u h. inside-stands u t h) n)
    ]

    mutual
      pub takes_some : {s s' : Standing (State M ⊤)} {t : Tree Depth} {e : E} → Fails (recalling means H) errors s t e s' → s.state.rule ≡ m → Some (λ u. StandsIn u t) s e s'.counters
      takes_some (region_failed is h) rule = absurd h
      takes_some {s} {s'} (term_failed {t} {e} is h) rule =
          let own : H.type_fails errors.unbuilt (with_counters m s.counters) t e h.1.0 = rw rule at h.1.1 in
          record {
            before = s.counters;
            types = [];
            calls = no_more;
            distinct = tt;
            new = λ u h. absurd h;
            each = λ u h. absurd h;
            last = inr (record { type = t; is_type = h.0; place = itself; end = h.1.0; fails = own; counters = h.1.2 });
          }
      takes_some {s} {s'} (descent_failed {s1} {t} {e} is h d) rule = some_of_term e s'.counters h rule (takes_some_descent d (rule-then h rule))
      takes_some {s} {s'} (passed_failed {t} {e} is d) rule = wider_some (λ u. IsInside u t) (λ u. StandsIn u t) s e s'.counters (λ u h. inside-stands u t h) (takes_some_inside d rule)
      takes_some (enter_failed h) rule = absurd h
      takes_some {s} {s'} (under_failed {s1} {vs} {t} {e} enter d) rule =
          let n : Some (λ v. StandsIn v t) s e s'.counters = subst (λ q. Some (λ v. StandsIn v t) q e s'.counters) enter (takes_some d (rw enter rule)) in
          wider_some (λ v. StandsIn v t) (λ v. StandsIn v (binder vs t)) s e s'.counters (λ v h. stands_in_binder h) n
      takes_some (leave_failed enter w h) rule = absurd h
      takes_some {s} {s'} (node_failed {l} {ts} {e} d) rule = wider_some (λ u. StandsAmong u ts) (λ u. StandsIn u (node l ts)) s e s'.counters (λ u h. stands_in_node h) (takes_some_all d rule)
      takes_some {s} {s'} (node_not_built {l} {ts} {us} {e} w b) rule =
          wider_some (λ u. StandsAmong u ts) (λ u. StandsIn u (node l ts)) s e s'.counters (λ u h. stands_in_node h) (ended (λ u. StandsAmong u ts) s s' e s'.counters refl (takes_all w rule))
      takes_some {s} {s'} (clause_lost {l} {ts} {us} {e} w lost b) rule =
          wider_some (λ u. StandsAmong u ts) (λ u. StandsIn u (node l ts)) s e s'.counters (λ u h. stands_in_node h) (ended (λ u. StandsAmong u ts) s s' e s'.counters refl (takes_all w rule))

      takes_some_descent : {s s' : Standing (State M ⊤)} {t : Tree Depth} {e : E} → DescentFails (recalling means H) errors s t e s' → s.state.rule ≡ m → Some (λ u. IsInside u t) s e s'.counters
      takes_some_descent (inside_failed d) rule = takes_some_inside d rule
      takes_some_descent {s} {s'} (after_failed {s1} {t} {u} {e} w h) rule = ended (λ u. IsInside u t) s s1 e s'.counters h.0 (takes_inside w rule)

      takes_some_inside : {s s' : Standing (State M ⊤)} {t : Tree Depth} {e : E} → InsideFails (recalling means H) errors s t e s' → s.state.rule ≡ m → Some (λ u. IsInside u t) s e s'.counters
      takes_some_inside (in_term_failed d) rule = takes_some_all d rule
      takes_some_inside {s} {s'} (not_built {t} {u} {e} w b) rule = ended (λ u. IsInside u t) s s' e s'.counters refl (takes_inside w rule)

      takes_some_all : {w : Wanted} {s s' : Standing (State M ⊤)} {ts : Forest Depth} {e : E} → FailsAll (recalling means H) errors w s ts e s' → s.state.rule ≡ m → Some (λ u. StandsAmong u ts) s e s'.counters
      takes_some_all {w} {s} {s'} {ts} {e} (stopped h) rule = ended (λ u. StandsAmong u ts) s s e s.counters refl (nothing (λ u. StandsAmong u ts) s rule)
      takes_some_all {w} {s} {s'} {ts} {e} (fails_here {t} d) rule = wider_some (λ u. StandsIn u t) (λ u. StandsAmong u ts) s e s'.counters (λ u h. in_first h) (takes_some d rule)
      takes_some_all {w} {s} {s'} {ts} {e} (no_clause {t} g bad h) rule =
          ended (λ u. StandsAmong u ts) s s' e s'.counters refl (wider (λ u. StandsIn u t) (λ u. StandsAmong u ts) s s' (λ u h. in_first h) (takes g rule))
      takes_some_all {w} {s} {s'} {ts} {e} (later {s1} {t} {ts = rest} g fit d) rule =
          let n = takes g rule in
          first_then (λ u. StandsIn u t) (λ u. StandsAmong u rest) (λ u. StandsAmong u ts) s s1 e s'.counters (λ u h. in_first h) (λ u h. in_later h) n (takes_some_all d n.rule)

    type-of : (t u : Tree Depth) → (is_type_tree u ≡ true) × StandsIn u t → IsTypeOf t u
    type-of t u h = record { is_type = h.0; occurs = h.1 }

    -- no type is taken apart twice
    pub calls_once : {s s' : Standing (State M ⊤)} {t r : Tree Depth} → Walks (recalling means H) s t r s' → s.state.rule ≡ m → CallsOnce H m t s.counters s'.counters
    calls_once {s} {s'} {t} w rule =
        let n = takes w rule in
        record { types = n.types; calls = n.calls; distinct = n.distinct; each = λ u h. type-of t u (n.each u h) }

    last_of : (t : Tree Depth) (c : Counters) (e : E) (c' : Counters) → (c' ≡ c) ⊎ FailsThere (λ u. StandsIn u t) errors.unbuilt c e c' → (c' ≡ c) ⊎ FailsAt H m errors.unbuilt t c e c'
    last_of t c e c' (inl same) = inl same
    last_of t c e c' (inr h) = inr (record { type = h.type; of_tree = record { is_type = h.is_type; occurs = h.place }; end = h.end; fails = h.fails; counters = h.counters })

    -- up to an error too, no type is taken apart twice
    pub fails_once : {s s' : Standing (State M ⊤)} {t : Tree Depth} {e : E} → Fails (recalling means H) errors s t e s' → s.state.rule ≡ m → FailsOnce H m errors.unbuilt t s.counters e s'.counters
    fails_once {s} {s'} {t} {e} f rule =
        let n = takes_some f rule in
        record {
          before = n.before;
          once = record { types = n.types; calls = n.calls; distinct = n.distinct; each = λ u h. type-of t u (n.each u h) };
          last = last_of t n.before e s'.counters n.last;
        }
