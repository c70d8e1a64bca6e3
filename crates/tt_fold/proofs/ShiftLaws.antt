-- The shifter's task, its hooks at regions, and what it does to a whole value.
use Rattle.std.proofs.Common.{zero, List, [], Result, Ok, Err, IfOk, IfErr, MatchResult, ◌≡◌, ℕ, suc, ◌+◌, ◌-◌, ◌<◌}
use Rattle.std.proofs.Common.{◌≤◌, ◌⊎◌, inl, inr, true, false, refl, ap, sym, subst, ◌∙◌, arith}
use Rattle.std.proofs.lemmas.Bool.{cases_lt, le-ltb, lt-ltb}
use Rattle.tt_index.specs.Greatest.{greatest}
use Rattle.tt_index.specs.declared.refusal.Refusal.{Refusal}
use Rattle.tt_index.specs.declared.refusal.Refusal.TheVariants.{Memory, TableFull, GreatestIndex, NotAClause}
use Rattle.tt_kinds.specs.Label.{region_sort, type_sort, const_sort}
use Rattle.tt_kinds.specs.Tree.{Depth, at, canonical, Tree, param, bound, region, term, node, binder}
use Rattle.tt_kinds.specs.Reading.{place, read, move, outer_binder, Fits, FitsAt, FitsUnder}
use Rattle.tt_kinds.specs.Plain.{shifted, shift_tree}
use Rattle.tt_kinds.specs.Count.{TypeAt, moving_types}
use Rattle.std.specs.Prelude.{⊤}
use Rattle.tt_kinds.proofs.OuterLaws.{shift_tree-low, shift_tree-zero}
use Rattle.tt_kinds.proofs.PlainLaws.{shift_tree-shift_tree}
use Rattle.tt_kinds.specs.Matched.{MatchedUnder}
use Rattle.tt_kinds.proofs.MatchedLaws.{MatchedUnder-move}
use Rattle.tt_kinds.proofs.ReadingLaws.{place-own, place-outer, shifted-outer, read-shift_tree, read-injective}
use Rattle.tt_kinds.proofs.ReadingLaws.{move-injective}
use Rattle.tt_kinds.specs.Bound.{depth, IsBelowGreatest}
use Rattle.tt_kinds.specs.RegionKind.{IsShallow}
use Rattle.tt_kinds.specs.Shape.{Shape, Meaning, Sizes, IsPart, fill}
use Rattle.tt_kinds.specs.Kinds.{region_shape}
use Rattle.tt_kinds.specs.declared.bound.BoundVarIndexKind.{BoundVarIndexKind}
use Rattle.tt_kinds.specs.declared.bound.BoundVarIndexKind.TheVariants.{Bound, Canonical}
use Rattle.tt_kinds.specs.declared.region_kind.RegionKind.{RegionKind}
use Rattle.tt_kinds.specs.declared.region_kind.RegionKind.TheVariants.{ReEarlyParam, ReBound, ReLateParam, ReStatic}
use Rattle.tt_kinds.specs.declared.region_kind.RegionKind.TheVariants.{ReVar, RePlaceholder, ReErased, ReError}
use Rattle.tt_interner.specs.Rows.{Row, size, meaning}
use Rattle.tt_interner.specs.Stored.{Terms, Counters, counted, IsUnbuilt}
use Rattle.tt_fold.specs.Walk.{IsPassed, Walks, Fails}
use Rattle.tt_fold.specs.Counts.{Standing}
use Rattle.tt_fold.specs.Steps.{Folds, IsPartOf, tree_in, IsPartBy, tree_by, IsRefused, refusals_of}
use Rattle.tt_fold.proofs.ClauseLaws.{KeepsClauses, never_bad, shift-keeps}
use Rattle.tt_fold.proofs.WantedLaws.{refusals-tell}
use Rattle.tt_fold.specs.Stands.{StandsIn, itself}
use Rattle.tt_fold.specs.Places.{IsIn, CountsPairs, IsPlaceIn}
use Rattle.tt_fold.specs.Remember.{State, Done, IsTaken, remembering}
use Rattle.tt_fold.proofs.PlaceLaws.{IsMoving, moving_types-have}
use Rattle.tt_fold.proofs.TaskLaws.{TaskLaws, Refuses, without, too_far, caused}
use Rattle.tt_fold.proofs.LeafLaws.{moved-shift}
use Rattle.tt_fold.proofs.RememberLaws.{does, refused}
use Rattle.tt_fold.proofs.CountLaws.{knows-nothing, pairs_walked, pairs_failed}
use Rattle.tt_fold.specs.Shift.{Shift, moved_tree, IsTooFar, IsVariable, shifting, shift_of, ShiftsCount, IsTooGreat}
use Rattle.tt_fold.specs.Shift.{moved_index, moved_region, IsShiftedRegion, IsShiftRefusal, ShiftsOn, ComesOf}
use Rattle.tt_fold.specs.Shift.{KeepsMatched}
use Rattle.tt_fold.specs.TypesOnce.{with_counters}

counts-still : (c : Counters) → ShiftsCount c c
counts-still c = record { descents = refl; up = omega arith }

-- a count never falls, and grows by one at most
pub counted-up : (n : ℕ) → n ≤ counted n
counted-up n = grind arith

-- a count grows by one at most
pub counted-one : (n : ℕ) → counted n ≤ suc n
counted-one n = grind arith

-- a term without a hook, and one that is taken apart, is no bound variable
pub passed-other : (t : Tree Depth) → IsPassed t → IsVariable t → ⊥
passed-other (bound region_sort d e) is h = cc
passed-other (bound type_sort d e) is h = cc
passed-other (bound const_sort d e) is h = cc
passed-other (param o i name) is h = h
passed-other (region r) is h = h
passed-other (term l ts) is h = h
passed-other (node l ts) is h = h
passed-other (binder vs t) is h = h

taken-other : (n k : ℕ) (t : Tree Depth) → IsTaken shifting n k t → IsVariable t → ⊥
taken-other n k (bound o d e) h is = h
taken-other n k _ h is = is

-- the shifted tree is what the task makes of a tree
pub shift_done : (n k : ℕ) (t r : Tree Depth) → r ≡ shift_tree k n t → Done shifting n k t r
shift_done n k t r is = record { plain = is ∙ sym (moved-shift n k t); allows = tt }

shift_refused : (unbuilt : Tree Depth → Refusal → Type 0) (n k : ℕ) (t : Tree Depth) (e : Refusal)
    → (let shift : Shift = record { amount = n; under = k } in IsTooGreat e (IsTooFar shift t) ⊎ unbuilt (moved_tree shift t) e) → Refuses shifting unbuilt n k t e
shift_refused unbuilt n k t e (inl far) = too_far far.0 (subst (λ u. FitsUnder k (read k u) → ⊥) (sym (moved-shift n k t)) far.1)
shift_refused unbuilt n k t e (inr u) = without (moved_tree (record { amount = n; under = k }) t) (subst (λ v. StandsIn (shift_tree k n t) v) (sym (moved-shift n k t)) itself) u

-- what the shifter's task meets
pub shifting_laws : TaskLaws shifting
shifting_laws = record {
  passed_entered = λ n k t is. passed-other t is;
  taken_entered = λ n k t h. taken-other n k t h;
  param_stays = λ n k o i name entered. record { plain = refl; allows = tt };
  bound_stays = λ n k o d e entered. absurd (entered tt);
  allows_term = λ n k l ts entered h. tt;
  allows_node = λ n k l ts h. tt;
  allows_binder = λ n k vs t h. tt;
  given = λ s t r kept c g. record {
    is_done = shift_done s.state.rule s.state.under t r g.1;
    rises = rw g.2 (counts-still s.counters);
    amount = rw g.2 (omega arith);
  };
  region_refused = λ unbuilt n k t e h. shift_refused unbuilt n k t e (inl h);
  term_refused = λ unbuilt s t e s' h. record {
    why = shift_refused unbuilt s.state.rule s.state.under t e h.1;
    rises = rw h.0 (counts-still s.counters);
    amount = rw h.0 (omega arith);
  };
  cause_term = λ n k l t ts e entered m h. h;
  cause_node = λ n k l t ts e m h. h;
  cause_binder = λ n k vs t e h. h;
  count_one = λ c. counted-one c.shift_descents;
  rises_one = λ c. record { descents = refl; up = counted-up c.shift_descents };
  rises_still = counts-still;
  rises_then = λ a b c m n. record { descents = n.descents ∙ m.descents; up = omega (arith, m.up, n.up) };
}

-- a type that the shifter takes apart is among those that have a variable to be shifted
taken-moving : (n k : ℕ) (t : Tree Depth) → IsTaken shifting n k t → IsMoving k t
taken-moving n k (term l ts) h = rw (h.0, lt-ltb k (outer_binder (term l ts)) h.1) refl
taken-moving n k (param o i name) h = absurd h
taken-moving n k (bound o d e) h = absurd h
taken-moving n k (region r) h = absurd h
taken-moving n k (node l ts) h = absurd h
taken-moving n k (binder vs t) h = absurd h

taken-listed : (n k : ℕ) (t : Tree Depth) (p : TypeAt) → IsPlaceIn p k t → IsTaken shifting n p.under p.standing → IsIn p (moving_types k t)
taken-listed n k t p place taken = moving_types-have p k t place (taken-moving n p.under p.standing taken)

-- regions
pub index-moved : (n k : ℕ) (i : BoundVarIndexKind) → depth (moved_index n k i) ≡ shifted n k (depth i)
index-moved n k (Bound d) = elim (cases_lt d k) [ inl h ↦ rw (lt-ltb d k h) refl | inr h ↦ rw (le-ltb d k h) refl ]
index-moved n k Canonical = refl

pub region-moved : (f : Meaning) (n k : ℕ) (r : RegionKind) → fill f (region_shape (moved_region n k r)) ≡ shift_tree k n (fill f (region_shape r))
unfolding fill
region-moved f n k (ReEarlyParam p) = refl
region-moved f n k (ReBound i b) = rw (index-moved n k i) refl
region-moved f n k (ReLateParam p) = refl
region-moved f n k ReStatic = refl
region-moved f n k (ReVar v) = refl
region-moved f n k (RePlaceholder p) = refl
region-moved f n k ReErased = refl
region-moved f n k (ReError e) = refl

-- if the name of a region is in range, so is the name of the moved region
pub region-named : (size : Sizes) (n k : ℕ) (r : RegionKind) → IsPart size (region_shape r) → IsPart size (region_shape (moved_region n k r))
region-named size n k (ReEarlyParam p) h = h
region-named size n k (ReBound i b) h = h
region-named size n k (ReLateParam p) h = h
region-named size n k ReStatic h = h
region-named size n k (ReVar v) h = h
region-named size n k (RePlaceholder p) h = h
region-named size n k ReErased h = h
region-named size n k (ReError e) h = h

-- a region that can be built fits, and one that fits can be built
index-fits : (k : ℕ) (d : Depth) → IsBelowGreatest d → FitsAt k (place k d)
index-fits k (at d) h = elim (cases_lt d k) [ inl g ↦ rw (place-own k d g) tt | inr g ↦ let low : d - k + k < greatest = omega arith in rw (place-outer k d g) low ]
index-fits k canonical h = tt

pub region-fits : (f : Meaning) (k : ℕ) (r : RegionKind) → IsShallow r → FitsUnder k (read k (fill f (region_shape r)))
unfolding fill
region-fits f k (ReEarlyParam p) h = tt
region-fits f k (ReBound i b) h = index-fits k (depth i) h
region-fits f k (ReLateParam p) h = tt
region-fits f k ReStatic h = tt
region-fits f k (ReVar v) h = tt
region-fits f k (RePlaceholder p) h = tt
region-fits f k ReErased h = tt
region-fits f k (ReError e) h = tt

index-shallow : (n k : ℕ) (i : BoundVarIndexKind) → IsBelowGreatest (depth i) → FitsAt k (place k (shifted n k (depth i))) → IsBelowGreatest (depth (moved_index n k i))
index-shallow n k (Bound d) low h = elim (cases_lt d k) [ inl g ↦ own g | inr g ↦ outside g ]
  where
    own : d < k → IsBelowGreatest (depth (moved_index n k (Bound d)))
    own g = rw (lt-ltb d k g) low

    outside : k ≤ d → IsBelowGreatest (depth (moved_index n k (Bound d)))
    outside g =
        let past : k ≤ n + d = omega arith in
        let fits : n + d - k + k < greatest = rw (shifted-outer n k d g, place-outer k (n + d) past) at h in
        let below : n + d < greatest = omega arith in
        rw (le-ltb d k g) below
index-shallow n k Canonical low h = tt

-- a moved region's index stays below the greatest if the reading of the shifted region fits
pub region-shallow : (f : Meaning) (n k : ℕ) (r : RegionKind) → IsShallow r → FitsUnder k (read k (shift_tree k n (fill f (region_shape r)))) → IsShallow (moved_region n k r)
unfolding fill
region-shallow f n k (ReEarlyParam p) low h = tt
region-shallow f n k (ReBound i b) low h = index-shallow n k i low h
region-shallow f n k (ReLateParam p) low h = tt
region-shallow f n k ReStatic low h = tt
region-shallow f n k (ReVar v) low h = tt
region-shallow f n k (RePlaceholder p) low h = tt
region-shallow f n k ReErased low h = tt
region-shallow f n k (ReError e) low h = tt

-- the region alone
pub is_shifted : (f : Meaning) (n : ℕ) (r q : RegionKind) → q ≡ moved_region n 0 r → IsShallow q → IsShiftedRegion f n r q
is_shifted f n r q same low =
    let tree : fill f (region_shape q) ≡ shift_tree 0 n (fill f (region_shape r)) = rw same (region-moved f n 0 r) in
    let plain : read 0 (fill f (region_shape q)) ≡ move n (read 0 (fill f (region_shape r))) = ap (read 0) tree ∙ read-shift_tree n 0 (fill f (region_shape r)) in
    record { plain = plain; tree = tree; fits = rw (sym plain) (region-fits f 0 q low) }

pub region-unfit : (f : Meaning) (n : ℕ) (r : RegionKind) → IsShallow r → (IsShallow (moved_region n 0 r) → ⊥) → Fits (move n (read 0 (fill f (region_shape r)))) → ⊥
region-unfit f n r low deep fits = deep (region-shallow f n 0 r low (rw (read-shift_tree n 0 (fill f (region_shape r))) fits))

-- what moving a region answers
abbrev pub IsMoved : ℕ → ℕ → RegionKind → Result RegionKind Refusal → Type 0
IsMoved n k r result = MatchResult result (λ q. (q ≡ moved_region n k r) × IsShallow q) (λ e. (e ≡ GreatestIndex) × (IsShallow (moved_region n k r) → ⊥))

-- if moving a region under no binder answers a region, it is the shifted region
pub moved_ok : (f : Meaning) (n : ℕ) (r : RegionKind) (result : Result RegionKind Refusal) → IsMoved n 0 r result → IfOk result (IsShiftedRegion f n r)
moved_ok f n r (Ok q) h = is_shifted f n r q h.0 h.1
moved_ok f n r (Err e) h = tt

-- if moving a region whose name is in range answers a region, the answer's name is in range
pub moved_named : (size : Sizes) (n k : ℕ) (r : RegionKind) (result : Result RegionKind Refusal) → IsMoved n k r result → IsPart size (region_shape r) → IfOk result (λ q. IsPart size (region_shape q))
moved_named size n k r (Ok q) h part = rw h.0 (region-named size n k r part)
moved_named size n k r (Err e) h part = tt

-- if moving a region under no binder is refused, it is with `GreatestIndex`, and the shifted region doesn't fit
pub moved_err : (f : Meaning) (n : ℕ) (r : RegionKind) (result : Result RegionKind Refusal) → IsShallow r → IsMoved n 0 r result
    → IfErr result (λ e. (e ≡ GreatestIndex) × (Fits (move n (read 0 (fill f (region_shape r)))) → ⊥))
moved_err f n r (Ok q) low h = tt
moved_err f n r (Err e) low h = (h.0, region-unfit f n r low h.1)

-- what the shifter's hook at regions promises
pub region_hook : (rows : List Row) (s : Standing (State ℕ ⊤)) (r : RegionKind) (result : Result RegionKind Refusal) → IsShallow r → IsPartOf rows (region_shape r)
    → IsMoved s.state.rule s.state.under r result
    → MatchResult result
    (λ q. IsPartOf rows (region_shape q) × ((s ≡ s) × Done shifting s.state.rule s.state.under (tree_in rows (region_shape r)) (tree_in rows (region_shape q))))
    (λ e. (s ≡ s) × IsTooGreat e (IsTooFar (shift_of s.state) (tree_in rows (region_shape r))))
region_hook rows s r (Ok q) low part h = (
  rw h.0 (region-named (size rows) s.state.rule s.state.under r part),
  (refl, shift_done s.state.rule s.state.under _ _ (rw h.0 (region-moved (meaning rows) s.state.rule s.state.under r))),
)
region_hook rows s r (Err e) low part h =
    (refl, (h.0, λ fits. h.1 (region-shallow (meaning rows) s.state.rule s.state.under r low fits)))

-- what is not bound outside stays
pub stays : (n : ℕ) (t : Tree Depth) → (n ≡ 0) ⊎ (outer_binder t ≡ 0) → shift_tree 0 n t ≡ t
stays n t (inl none_added) = rw none_added (shift_tree-zero 0 t)
stays n t (inr closed) = shift_tree-low 0 n t (omega (arith, closed))

-- two trees with the same shifted tree are equal
pub keep_apart : (n : ℕ) (t u : Tree Depth) → shift_tree 0 n t ≡ shift_tree 0 n u → t ≡ u
keep_apart n t u e = read-injective 0 t u (move-injective n (read 0 t) (read 0 u) (sym (read-shift_tree n 0 t) ∙ ap (read 0) e ∙ read-shift_tree n 0 u))

-- the laws of a shifted tree
pub shifts_on : (n : ℕ) (t r : Tree Depth) → r ≡ shift_tree 0 n t → ShiftsOn n t r
shifts_on n t r h = λ m. ap (shift_tree 0 m) h ∙ shift_tree-shift_tree 0 m n t

-- no other tree has the same shifted tree
pub comes_of : (n : ℕ) (t r : Tree Depth) → r ≡ shift_tree 0 n t → ComesOf n t r
comes_of n t r h = λ u e. keep_apart n u t (e ∙ h)

-- if a tree's own variables match their binders' lists, so do the shifted tree's
pub keeps_matched : (n : ℕ) (t r : Tree Depth) → r ≡ shift_tree 0 n t → KeepsMatched t r
keeps_matched n t r h = λ m. subst (λ q. MatchedUnder [] q) (sym (ap (read 0) h ∙ read-shift_tree n 0 t)) (MatchedUnder-move n [] (read 0 t) m)

-- what a shift of a whole value promises
pub record IsShift {T : Type 0} (shape : T → Shape) (n : ℕ) (terms : Terms) (x : T) (result : Result T Refusal) (terms' : Terms) : Type 0 where
  pub tree : IfOk result (λ y. tree_by shape terms'.rows y ≡ shift_tree 0 n (tree_by shape terms.rows x))
  pub plain : IfOk result (λ y. read 0 (tree_by shape terms'.rows y) ≡ move n (read 0 (tree_by shape terms.rows x)))
  pub err : IfErr result (IsShiftRefusal terms' n (tree_by shape terms.rows x))
  pub adds_up : IfOk result (λ y. ShiftsOn n (tree_by shape terms.rows x) (tree_by shape terms'.rows y))
  pub tells_apart : IfOk result (λ y. ComesOf n (tree_by shape terms.rows x) (tree_by shape terms'.rows y))
  pub matched : IfOk result (λ y. KeepsMatched (tree_by shape terms.rows x) (tree_by shape terms'.rows y))
  pub counts : ShiftsCount terms.counters terms'.counters
  pub pairs : CountsPairs (moving_types 0 (tree_by shape terms.rows x)) terms.counters.shift_descents terms'.counters.shift_descents

shift_refusal : (terms : Terms) (n : ℕ) (t : Tree Depth) (e : Refusal) → KeepsClauses (shift_tree 0 n t) → Refuses shifting (IsRefused terms) n 0 t e → IsShiftRefusal terms n t e
shift_refusal terms n t e keeps why = by_reason why
  where
    unbuilt : (u : Tree Depth) (r : Refusal) → StandsIn u (shift_tree 0 n t) → IsUnbuilt terms u r → IsShiftRefusal terms n t r
    unbuilt u Memory h b = tt
    unbuilt u TableFull h b = (u, h, b)
    unbuilt u NotAClause h b = absurd (never_bad h keeps b)
    unbuilt u GreatestIndex h b = absurd b
    unbuilt u _ h b = absurd b

    by_reason : Refuses shifting (IsRefused terms) n 0 t e → IsShiftRefusal terms n t e
    by_reason (without u h b) = rw b.1.0 (unbuilt u b.0 (subst (λ v. StandsIn u v) (moved-shift n 0 t) h) b.1.1)
    by_reason (too_far is unfit) = rw is (λ fits. unfit (rw (moved-shift n 0 t, read-shift_tree n 0 t) fits))
    by_reason (caused h) = absurd h

-- the state from which a shift starts
abbrev pub start : ℕ → State ℕ ⊤
start n = record { rule = n; under = 0; kept = tt; memory = [] }

module _ {S T : Type 0} {owned : List Row → S → Type 0} {means : List Row → S → State ℕ ⊤} {shape : T → Shape} {terms terms' : Terms} {s s' : S} {x : T} (n : ℕ) where
  -- a fold by a new shifter keeps all promises of a shift
  pub shift_outcome : (result : Result T Refusal) → means terms.rows s ≡ start n → KeepsClauses (tree_by shape terms.rows x)
      → Folds owned means (IsPartBy shape) (tree_by shape) (Walks (remembering shifting)) (Fails (remembering shifting) (refusals_of terms')) terms s x result terms' s'
      → IsShift shape n terms x result terms'
  shift_outcome (Ok y) is keeps d =
      let t = tree_by shape terms.rows x in
      let from = with_counters (means terms.rows s) terms.counters in
      let to = with_counters (means terms'.rows s') terms'.counters in
      let fresh : from.state.memory ≡ [] = ap (λ q. q.memory) is in
      let w = d.outcome.1 in
      let done = does shifting shifting_laws w (knows-nothing shifting shifting_laws (moving_types from.state.under t) from to t fresh (taken-listed from.state.rule from.state.under t)) in
      let made = rw is at done.is_done.plain in
      let tree : tree_by shape terms'.rows y ≡ shift_tree 0 n t = made ∙ moved-shift n 0 t in
      let pairs = pairs_walked shifting shifting_laws (moving_types from.state.under t) from to t fresh (taken-listed from.state.rule from.state.under t) (tree_by shape terms'.rows y) w in
      record {
        tree = tree;
        plain = ap (read 0) tree ∙ read-shift_tree n 0 t;
        err = tt;
        adds_up = shifts_on n _ _ tree;
        tells_apart = comes_of n _ _ tree;
        matched = keeps_matched n _ _ tree;
        counts = done.stays.rises;
        pairs = rw is at pairs;
      }
  shift_outcome (Err e) is keeps d =
      let t = tree_by shape terms.rows x in
      let from = with_counters (means terms.rows s) terms.counters in
      let to = with_counters (means terms'.rows s') terms'.counters in
      let fresh : from.state.memory ≡ [] = ap (λ q. q.memory) is in
      let f = d.outcome in
      let knows = knows-nothing shifting shifting_laws (moving_types from.state.under t) from to t fresh (taken-listed from.state.rule from.state.under t) in
      let r = refused shifting shifting_laws (refusals_of terms') (refusals-tell terms') f knows in
      let pairs = pairs_failed shifting shifting_laws (moving_types from.state.under t) from to t fresh (taken-listed from.state.rule from.state.under t) (refusals_of terms') e f in
      let why = rw is at r.why in
      record {
        tree = tt;
        plain = tt;
        adds_up = tt;
        tells_apart = tt;
        matched = tt;
        err = shift_refusal terms' n t e (shift-keeps n t keeps) why;
        counts = r.rises;
        pairs = rw is at pairs;
      }

-- two shifts in turn are one shift by the sum
pub add_up : (m n : ℕ) (t : Tree Depth) → shift_tree 0 m (shift_tree 0 n t) ≡ shift_tree 0 (m + n) t
add_up m n t = shift_tree-shift_tree 0 m n t

-- an outer binder that isn't above 0 is 0: nothing is bound outside
pub closed : (n t : ℕ) → (0 < t → false ≡ true) → (n ≡ 0) ⊎ (t ≡ 0)
closed n zero h = inr refl
closed n (suc t) h = absurd (let no : false ≡ true = h (omega arith) in cc)
