-- In one walk each argument is shifted once past as many binders.
use Rattle.std.proofs.Common.{◌≡◌, ℕ, ◌+◌, ◌<◌, ◌≤◌, inl, inr, List, [], ◌∷◌, ◌++◌, length, length-append, refl, ap}
use Rattle.std.proofs.Common.{subst, arith}
use Rattle.std.proofs.lemmas.List.{map-append}
use Rattle.std.specs.Map.{keys_of}
use Rattle.tt_kinds.specs.Tree.{Depth, Tree, Forest, param, bound, term, node, also}
use Rattle.tt_kinds.specs.Count.{TypeAt}
use Rattle.tt_interner.specs.Stored.{Counters}
use Rattle.tt_fold.specs.Counts.{Standing}
use Rattle.tt_fold.specs.Places.{IsIn, AreDistinct}
use Rattle.tt_fold.specs.Remember.{spent, one_more, given, remembered, left_alone, taken_apart, gone_into, AfterTerm}
use Rattle.tt_fold.specs.Remember.{noted, noted_again, not_noted}
use Rattle.tt_fold.specs.Walk.{Walks, Descends, WalksInside, WalksAll, at_region, replaced, kept, descended, passed}
use Rattle.tt_fold.specs.Walk.{rebuilt, at_node, at_binder, in_term, in_param, in_bound, done, next}
use Rattle.tt_fold.proofs.PlaceLaws.{IsIn-append, IsIn-only}
use Rattle.tt_fold.proofs.RememberLaws.{Knows, does}
use Rattle.tt_binder.specs.Shifted.{param_at}
use Rattle.tt_binder.specs.Sharing.{IsParamIn, IsParamAmong, moving_at, CountsShifts}
use Rattle.tt_binder.specs.Instantiation.{Args, Kept, Instantiation, at_first, PutsArgument, as_it_is, shifted_now}
use Rattle.tt_binder.specs.Instantiation.{instantiation, arg_hooks}
use Rattle.tt_binder.specs.declared.shifted.ParamAt.{ParamAt}
use Rattle.tt_binder.proofs.TaggedLaws.{tagged, AreDistinct-append, AreDistinct-tagged, tagged-append, length-tagged}
use Rattle.tt_binder.proofs.TaggedLaws.{IsIn-tagged}
use Rattle.tt_binder.proofs.WalkLaws.{instantiation_laws, knows_first}

-- a shift for a parameter that meets P takes apart distinct types, which have a variable to be shifted
record IsMade (P : ParamAt → Type 0) (args : Args) (e : ParamAt × List TypeAt) : Type 0 where
  place : P e.0
  under_some : 0 < e.0.under
  distinct : AreDistinct e.1
  moving : (u : TypeAt) → IsIn u e.1 → IsIn u (moving_at args e.0.index)

-- the shifts from one state to another: each for a parameter for which none was kept, with what it took apart at most
record Shares (P : ParamAt → Type 0) (s s' : Standing Instantiation) : Type 0 where
  added : List (ParamAt × List TypeAt)
  few : s'.counters.shift_descents ≤ s.counters.shift_descents + length (tagged added)
  distinct : AreDistinct (keys_of added)
  new : (p : ParamAt) → IsIn p (keys_of added) → IsIn p s.state.kept → ⊥
  there : (p : ParamAt) → IsIn p (keys_of added) → IsIn p s'.state.kept
  older : (p : ParamAt) → IsIn p s.state.kept → IsIn p s'.state.kept
  each : (e : ParamAt × List TypeAt) → IsIn e added → IsMade P s.state.rule e

-- where nothing more is kept or counted, nothing was shifted
no_shift : (P : ParamAt → Type 0) (s s' : Standing Instantiation) → s'.state.kept ≡ s.state.kept → s'.counters.shift_descents ≡ s.counters.shift_descents → Shares P s s'
no_shift P s s' keeps count = record {
  added = [];
  few = omega (arith, count);
  distinct = tt;
  new = λ p h g. h;
  there = λ p h. absurd h;
  older = λ p h. rw keeps h;
  each = λ e h. absurd h;
}

-- the same between states that keep and have counted the same
same_ends : (P : ParamAt → Type 0) (s s1 s2 s' : Standing Instantiation) → s1.state.kept ≡ s.state.kept → s1.state.rule ≡ s.state.rule
    → s1.counters.shift_descents ≡ s.counters.shift_descents → s'.state.kept ≡ s2.state.kept → s'.counters.shift_descents ≡ s2.counters.shift_descents → Shares P s1 s2 → Shares P s s'
same_ends P s s1 s2 s' keeps rule count keeps' count' n = record {
  added = n.added;
  few = omega (arith, n.few, count, count');
  distinct = n.distinct;
  new = λ p h g. n.new p h (rw keeps g);
  there = λ p h. rw keeps' (n.there p h);
  older = λ p h. rw keeps' (n.older p (rw keeps h));
  each = λ e h. rw (← rule) (n.each e h);
}

after_kept : {s s' : Standing Instantiation} {t u r : Tree Depth} → AfterTerm instantiation s t u r s' → (s'.state.kept ≡ s.state.kept) × (s'.counters ≡ s.counters)
after_kept (noted is) = (refl, refl)
after_kept (noted_again is there each) = (refl, refl)
after_kept (not_noted is) = (refl, refl)

-- a parameter's place
put_shares : (s : Standing Instantiation) (t r : Tree Depth) (keeps : Kept) (c : Counters) → PutsArgument s.state.rule s.state.under t r s.state.kept s.counters keeps c
    → Shares (λ p. IsParamIn p s.state.under t) s (spent s keeps c)
put_shares s t r keeps c puts = by puts
  where
    by : {keeps' : Kept} {c' : Counters} → PutsArgument s.state.rule s.state.under t r s.state.kept s.counters keeps' c' → Shares (λ p. IsParamIn p s.state.under t) s (spent s keeps' c')
    by (as_it_is is) = no_shift (λ p. IsParamIn p s.state.under t) s (spent s s.state.kept s.counters) refl refl
    by (shifted_now i n is place below now more pairs) = record {
      added = (param_at i s.state.under, pairs.pairs) ∷ [];
      few = omega (arith, pairs.few, length-tagged (param_at i s.state.under) pairs.pairs);
      distinct = (λ h. h, tt);
      new = λ p h. rw (IsIn-only p (param_at i s.state.under) h) now.new;
      there = λ p h. rw (IsIn-only p (param_at i s.state.under) h) now.there;
      older = now.older;
      each = λ e h. rw (IsIn-only e (param_at i s.state.under, pairs.pairs) h) (record { place = place; under_some = below; distinct = pairs.distinct; moving = pairs.each });
    }

-- one after the other
module _ (P Q V : ParamAt → Type 0) (s s1 s' : Standing Instantiation) (rule : s1.state.rule ≡ s.state.rule) (first : (p : ParamAt) → P p → V p) (rest : (p : ParamAt) → Q p → V p) where
  wider : (W : ParamAt → Type 0) (args : Args) (e : ParamAt × List TypeAt) → ((p : ParamAt) → W p → V p) → IsMade W args e → IsMade V args e
  wider W args e f is = record { place = f e.0 is.place; under_some = is.under_some; distinct = is.distinct; moving = is.moving }

  then_shares : Shares P s s1 → Shares Q s1 s' → Shares V s s'
  then_shares m n =
      let keys : keys_of (m.added ++ n.added) ≡ keys_of m.added ++ keys_of n.added = map-append (λ e. e.0) m.added n.added in
      record {
        added = m.added ++ n.added;
        few = omega (arith, n.few, m.few, ap length (tagged-append m.added n.added), length-append (tagged m.added) (tagged n.added));
        distinct = rw keys (AreDistinct-append (keys_of m.added) (keys_of n.added) m.distinct n.distinct (λ p a b. n.new p b (m.there p a)));
        new = λ p h g. elim (IsIn-append p (keys_of m.added) (keys_of n.added) (subst (λ ks. IsIn p ks) keys h)) [ inl a ↦ m.new p a g | inr b ↦ n.new p b (m.older p g) ];
        there = λ p h. elim (IsIn-append p (keys_of m.added) (keys_of n.added) (subst (λ ks. IsIn p ks) keys h)) [ inl a ↦ n.older p (m.there p a) | inr b ↦ n.there p b ];
        older = λ p h. n.older p (m.older p h);
        each = λ e h. elim (IsIn-append e m.added n.added h) [
          | inl a ↦ wider P s.state.rule e first (m.each e a)
          | inr b ↦ wider Q s.state.rule e rest (rw rule at (n.each e b))
        ];
      }

mutual
  shares : {s s' : Standing Instantiation} {t r : Tree Depth} → Walks arg_hooks s t r s' → Knows instantiation instantiation_laws s.state → Shares (λ p. IsParamIn p s.state.under t) s s'
  shares {s} {s'} (at_region {t} is h) knows = no_shift (λ p. IsParamIn p s.state.under t) s s' (ap (λ q. q.state.kept) h.0) (ap (λ q. q.counters.shift_descents) h.0)
  shares {s} (replaced {t} {r} is (given {kept = keeps} {c} g)) knows = put_shares s t r keeps c g
  shares {s} (replaced {t} is (remembered h)) knows = no_shift (λ p. IsParamIn p s.state.under t) s s refl refl
  shares {s} (kept {t} is (left_alone h)) knows = no_shift (λ p. IsParamIn p s.state.under t) s s refl refl
  shares {s} {s'} (descended {t} {r} is (taken_apart taken new) w) knows =
      same_ends (λ p. IsParamIn p s.state.under t) s (one_more instantiation s) s' s' refl refl refl refl refl (shares_descent w knows)
  shares (descended is (gone_into other entered) w) knows = shares_descent w knows
  shares (passed is w) knows = shares_inside w knows
  shares {s} {s'} (at_node {l} {ts} w fit) knows = same_ends (λ p. IsParamIn p s.state.under (node l ts)) s s s' s' refl refl refl refl refl (shares_all w knows)
  shares {s} {s'} (at_binder {s1} {s2} {vs} {t} enter w leave) knows =
      let n = rw enter at (shares w (rw enter knows)) in
      rw leave (record { added = n.added; few = n.few; distinct = n.distinct; new = n.new; there = n.there; older = n.older; each = λ e h. let is = n.each e h in record { place = is.place; under_some = is.under_some; distinct = is.distinct; moving = is.moving } })

  shares_descent : {s s' : Standing Instantiation} {t r : Tree Depth} → Descends arg_hooks s t r s' → Knows instantiation instantiation_laws s.state → Shares (λ p. IsParamIn p s.state.under t) s s'
  shares_descent {s} {s'} (rebuilt {s1} {t} {u} {r} w after) knows =
      let same = after_kept after in
      same_ends (λ p. IsParamIn p s.state.under t) s s s1 s' refl refl refl same.0 (ap (λ c. c.shift_descents) same.1) (shares_inside w knows)

  shares_inside : {s s' : Standing Instantiation} {t u : Tree Depth} → WalksInside arg_hooks s t u s' → Knows instantiation instantiation_laws s.state → Shares (λ p. IsParamIn p s.state.under t) s s'
  shares_inside {s} {s'} (in_term {l} {ts} w fit) knows = same_ends (λ p. IsParamIn p s.state.under (term l ts)) s s s' s' refl refl refl refl refl (shares_all w knows)
  shares_inside {s} (in_param {o} {i} {name}) knows = no_shift (λ p. IsParamIn p s.state.under (param o i name)) s s refl refl
  shares_inside {s} (in_bound {o} {d} {e}) knows = no_shift (λ p. IsParamIn p s.state.under (bound o d e)) s s refl refl

  shares_all : {s s' : Standing Instantiation} {ts us : Forest Depth} → WalksAll arg_hooks s ts us s' → Knows instantiation instantiation_laws s.state
      → Shares (λ p. IsParamAmong p s.state.under ts) s s'
  shares_all {s} done knows = no_shift (λ p. ⊥) s s refl refl
  shares_all {s} {s'} (next {s1} {t} {ts = rest} w more) knows =
      let m = shares w knows in
      let o = (does instantiation instantiation_laws w knows).stays in
      let n = shares_all more o.knows in
      then_shares (λ p. IsParamIn p s.state.under t) (λ p. IsParamAmong p s1.state.under rest) (λ p. IsParamAmong p s.state.under (also t rest)) s s1 s' o.rule
      (λ p h. inl h) (λ p h. inr (rw o.under at h)) m n

-- from outside of each binder, where nothing is kept
pub shifts_counted : (args : Args) (s s' : Standing Instantiation) (t r : Tree Depth) → s.state ≡ at_first args → Walks arg_hooks s t r s'
    → CountsShifts args t s.counters.shift_descents s'.counters.shift_descents
shifts_counted args s s' t r is w = by (shares w (knows_first args s.state is))
  where
    by : Shares (λ p. IsParamIn p s.state.under t) s s' → CountsShifts args t s.counters.shift_descents s'.counters.shift_descents
    by n = record {
      moved = tagged n.added;
      distinct = AreDistinct-tagged n.added n.distinct (λ e h. (n.each e h).distinct);
      each = λ x h.
          let e = IsIn-tagged x n.added h in
          let made = n.each e.0 e.1.0 in
          let place : IsParamIn e.0.0 0 t = subst (λ k. IsParamIn e.0.0 k t) (ap (λ q. q.under) is) made.place in
          let moving : IsIn x.1 (moving_at args e.0.0.index) = subst (λ q. IsIn x.1 (moving_at q e.0.0.index)) (ap (λ q. q.rule) is) (made.moving x.1 e.1.2) in
          rw e.1.1 (record { under_some = made.under_some; param = place; moving = moving });
      few = n.few;
    }

-- no shift is none for any parameters
pub shifts_none : (args : Args) (t : Tree Depth) (n : ℕ) → CountsShifts args t n n
shifts_none args t n = record { moved = []; distinct = tt; each = λ x h. absurd h; few = omega arith }
