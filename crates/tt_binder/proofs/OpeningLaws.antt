-- Opening a binder: what it gives on readings, and the laws of the opening folder's task.
use Rattle.std.proofs.Common.{inl, inr, ◌≡◌, ℕ, suc, ◌+◌, ◌-◌, ◌<◌, ◌≤◌, List, [], refl, sym, ap, arith}
use Rattle.std.proofs.lemmas.Bool.{cases_lt, le-ltb, lt-ltb, eq-eqb, ne_eqb}
use Rattle.std.specs.Prelude.{⊤}
use Rattle.tt_index.specs.declared.refusal.Refusal.{Refusal}
use Rattle.tt_index.specs.declared.refusal.Refusal.TheVariants.{NoArguments, ArgOutOfRange, ArgKind}
use Rattle.tt_kinds.specs.Label.{Name, Sort, VarKind, Entry, Label}
use Rattle.tt_kinds.specs.Tree.{Depth, at, canonical, Tree, Forest, param, bound, region, term, node, binder, none}
use Rattle.tt_kinds.specs.Tree.{also, Each, Each_all}
use Rattle.tt_kinds.specs.Reading.{place, read, read_all, keep, greatest_reach, outer_binder}
use Rattle.tt_kinds.specs.Argument.{given, readings}
use Rattle.tt_kinds.specs.Plain.{given_under}
use Rattle.tt_kinds.proofs.ChildLaws.{Among, here, later}
use Rattle.tt_kinds.proofs.OuterLaws.{IsBelow, each-below, greatest_reach-deeper}
use Rattle.tt_kinds.proofs.PutLaws.{read-inst_tree}
use Rattle.tt_kinds.proofs.ReadingLaws.{place-own, place-outer}
use Rattle.tt_fold.specs.Leaves.{with_leaves_all}
use Rattle.tt_fold.specs.Remember.{IsTaken, Done}
use Rattle.tt_fold.specs.Shift.{IsVariable}
use Rattle.tt_fold.proofs.ShiftLaws.{counted-one, counted-up, passed-other}
use Rattle.tt_fold.proofs.TaskLaws.{AllowsAll, Refuses, without, too_far, caused, TaskLaws}
use Rattle.tt_binder.specs.Instantiation.{Args}
use Rattle.tt_binder.specs.Opening.{put_variable, put_own, open_variable, open_tree, HasVariable, HasVariable_among}
use Rattle.tt_binder.specs.Opening.{EachVariable_among, IsGivenAt, IsGiven, OpeningCause}
use Rattle.tt_binder.specs.BinderOpener.{OpeningRefuses, for_cause, not_built, too_great, opening}

ap2 : {A B C : Type 0} (f : A → B → C) {a a' : A} {b b' : B} → a ≡ a' → b ≡ b' → f a b ≡ f a' b'
ap2 f p q = cc

-- an index is below a number of binders, at it or above it
pub by_place : (P : Type 0) (k d : ℕ) → (d < k → P) → (d ≡ k → P) → (k < d → P) → P
by_place P k d inner at_it outer = elim (cases_lt d k) [
  | inl h ↦ inner h
  | inr h ↦ elim (cases_lt k d) [ inl g ↦ outer g | inr g ↦ at_it (omega arith) ]
]

-- what comes of a variable of an inner binder, of the opened one, and of one outside of it
module _ (args : Args) (k d : ℕ) (s : Sort) (e : Entry Name) where
  -- a variable of a binder inside of the opened one stays as it is
  pub open-inner : d < k → open_variable args k s (at d) e ≡ bound s (at d) e
  open-inner h = rw (lt-ltb d k h) refl

  -- a variable of the opened binder is replaced by its argument
  pub open-own : d ≡ k → open_variable args k s (at d) e ≡ given_under args k s e.var []
  open-own is = rw (le-ltb d k (omega arith), eq-eqb d k is) refl

  -- a variable of a binder outside of the opened one has an index one less
  pub open-outer : k < d → open_variable args k s (at d) e ≡ bound s (at (d - 1)) e
  open-outer h = let other : d ≡ k → ⊥ = λ e. omega arith in rw (le-ltb d k (omega arith), ne_eqb d k other) refl

-- the same on readings
read-open_variable : (args : Args) (k : ℕ) (s : Sort) (d : Depth) (e : Entry Name) → read k (open_variable args k s d e) ≡ put_variable (readings args) k s (place (suc k) d) e
read-open_variable args k s canonical e = refl
read-open_variable args k s (at d) e = by_place (read k (open_variable args k s (at d) e) ≡ put_variable (readings args) k s (place (suc k) (at d)) e) k d inner at_it outer
  where
    inner : d < k → read k (open_variable args k s (at d) e) ≡ put_variable (readings args) k s (place (suc k) (at d)) e
    inner h =
        let other : d ≡ k → ⊥ = λ e. omega arith in
        rw (open-inner args k d s e h, place-own (suc k) d (omega arith), ne_eqb d k other, place-own k d h) refl

    at_it : d ≡ k → read k (open_variable args k s (at d) e) ≡ put_variable (readings args) k s (place (suc k) (at d)) e
    at_it is =
        let given_read : read k (given_under args k s e.var []) ≡ given (readings args) s e.var [] = read-inst_tree k args (param s e.var []) in
        rw (open-own args k d s e is, place-own (suc k) d (omega arith), eq-eqb d k is) given_read

    outer : k < d → read k (open_variable args k s (at d) e) ≡ put_variable (readings args) k s (place (suc k) (at d)) e
    outer h =
        let same : d - 1 - k ≡ d - suc k = omega arith in
        rw (open-outer args k d s e h, place-outer (suc k) d (omega arith), place-outer k (d - 1) (omega arith), same) refl

-- opening is plain
mutual
  -- an opened tree reads as the tree with the arguments in the places of the opened binder's own variables
  pub read-open_tree : (args : Args) (k : ℕ) (t : Tree Depth) → read k (open_tree k args t) ≡ put_own (readings args) k (read (suc k) t)
  read-open_tree args k (param s i name) = refl
  read-open_tree args k (bound s d e) = read-open_variable args k s d e
  read-open_tree args k (region r) = refl
  read-open_tree args k (term l ts) = ap (term l) (read-open_forest args k ts)
  read-open_tree args k (node l ts) = ap (node l) (read-open_forest args k ts)
  read-open_tree args k (binder vs t) = ap (binder vs) (read-open_tree args (suc k) t)

  read-open_forest : (args : Args) (k : ℕ) (ts : Forest Depth)
      → read_all k (with_leaves_all (open_variable args) keep k ts) ≡ with_leaves_all (put_variable (readings args)) keep k (read_all (suc k) ts)
  read-open_forest args k none = refl
  read-open_forest args k (also t ts) = ap2 also (read-open_tree args k t) (read-open_forest args k ts)

-- a tree of which nothing is bound by the opened binder or outside of it is opened to itself
record StaysOpen (args : Args) (k : ℕ) (t : Tree Depth) : Type 0 where
  plain : t ≡ open_tree k args t
  given : IsGiven args k t

record AllStayOpen (args : Args) (k : ℕ) (ts : Forest Depth) : Type 0 where
  plain : ts ≡ with_leaves_all (open_variable args) keep k ts
  given : EachVariable_among (IsGivenAt args) k ts

inner_stays : (args : Args) (k : ℕ) (s : Sort) (d : Depth) (e : Entry Name) → IsBelow (k + 0) d → StaysOpen args k (bound s d e)
inner_stays args k s (at d) e low = let below : d < k = omega arith in record { plain = sym (open-inner args k d s e below); given = λ is. absurd (omega (arith, is, below)) }
inner_stays args k s canonical e low = record { plain = refl; given = λ is. absurd is }

mutual
  stays_open : (args : Args) (k : ℕ) (t : Tree Depth) → Each (λ j d. IsBelow (j + 0) d) (λ j s i name. ⊤) k t → StaysOpen args k t
  stays_open args k (param s i name) h = record { plain = refl; given = tt }
  stays_open args k (bound s d e) h = inner_stays args k s d e h
  stays_open args k (region r) h = record { plain = refl; given = tt }
  stays_open args k (term l ts) h = let n = all_stay_open args k ts h in record { plain = ap (term l) n.plain; given = n.given }
  stays_open args k (node l ts) h = let n = all_stay_open args k ts h in record { plain = ap (node l) n.plain; given = n.given }
  stays_open args k (binder vs t) h = let n = stays_open args (suc k) t h in record { plain = ap (binder vs) n.plain; given = n.given }

  all_stay_open : (args : Args) (k : ℕ) (ts : Forest Depth) → Each_all (λ j d. IsBelow (j + 0) d) (λ j s i name. ⊤) k ts → AllStayOpen args k ts
  all_stay_open args k none h = record { plain = refl; given = tt }
  all_stay_open args k (also t ts) h =
      let n = stays_open args k t h.0 in
      let m = all_stay_open args k ts h.1 in
      record { plain = ap2 also n.plain m.plain; given = (n.given, m.given) }

-- a tree under k binders that reaches at most k is opened to itself
pub low_opens : (args : Args) (k : ℕ) (t : Tree Depth) → outer_binder t ≤ k → Done opening args k t t
low_opens args k t h =
    let deeper : greatest_reach (read (k + 0) t) ≡ greatest_reach (read 0 t) - k = greatest_reach-deeper k 0 t in
    let here_too : k + 0 ≡ k = omega arith in
    let low : greatest_reach (read 0 t) ≤ k = h in
    let still : greatest_reach (read k t) ≡ greatest_reach (read 0 t) - k = rw here_too at deeper in
    let none_left : greatest_reach (read k t) ≤ 0 = omega arith in
    let n = stays_open args k t (each-below 0 k t none_left) in
    record { plain = n.plain; allows = n.given }

-- a variable in a child of a term or a node occurs in the whole
has-among : (P : ℕ → Sort → Depth → Entry Name → Type 0) (k : ℕ) (t : Tree Depth) (ts : Forest Depth) → Among t ts → HasVariable P k t → HasVariable_among P k ts
has-among P k t ts here h = inl h
has-among P k t ts (later {ts = rest} m) h = inr (has-among P k t rest m h)

-- and so a cause in it is one in the whole
cause_term : (args : Args) (k : ℕ) (l : Label Name) (t : Tree Depth) (ts : Forest Depth) (e : Refusal) → Among t ts → OpeningCause args k t e → OpeningCause args k (term l ts) e
cause_term args k l t ts NoArguments m h = (h.0, has-among _ k t ts m h.1)
cause_term args k l t ts (ArgOutOfRange index) m h = (h.0, has-among _ k t ts m h.1, h.2)
cause_term args k l t ts (ArgKind index) m h = has-among _ k t ts m h
cause_term args k l t ts _ m h = absurd h

cause_node : (args : Args) (k : ℕ) (l : Label Name) (t : Tree Depth) (ts : Forest Depth) (e : Refusal) → Among t ts → OpeningCause args k t e → OpeningCause args k (node l ts) e
cause_node args k l t ts NoArguments m h = (h.0, has-among _ k t ts m h.1)
cause_node args k l t ts (ArgOutOfRange index) m h = (h.0, has-among _ k t ts m h.1, h.2)
cause_node args k l t ts (ArgKind index) m h = has-among _ k t ts m h
cause_node args k l t ts _ m h = absurd h

cause_binder : (args : Args) (k : ℕ) (vs : List (VarKind Name)) (t : Tree Depth) (e : Refusal) → OpeningCause args (suc k) t e → OpeningCause args k (binder vs t) e
cause_binder args k vs t NoArguments h = h
cause_binder args k vs t (ArgOutOfRange index) h = h
cause_binder args k vs t (ArgKind index) h = h
cause_binder args k vs t _ h = absurd h

all_given : (args : Args) (k : ℕ) (ts : Forest Depth) → AllowsAll opening args k ts → EachVariable_among (IsGivenAt args) k ts
all_given args k none h = tt
all_given args k (also t ts) h = (h.0, all_given args k ts h.1)

taken_other : (args : Args) (k : ℕ) (t : Tree Depth) → IsTaken opening args k t → IsVariable t → ⊥
taken_other args k (bound o d e) h is = h
taken_other args k _ h is = is

tree_refused : (unbuilt : Tree Depth → Refusal → Type 0) (args : Args) (k : ℕ) (t : Tree Depth) (e : Refusal) → OpeningRefuses unbuilt args k t e → Refuses opening unbuilt args k t e
tree_refused unbuilt args k t e (for_cause h) = caused h
tree_refused unbuilt args k t e (not_built u m h) = without u m h
tree_refused unbuilt args k t e (too_great is unfit) = too_far is unfit

-- the opening folder's task meets the laws of one
pub opening_laws : TaskLaws opening
opening_laws = record {
  passed_entered = λ args k t is. passed-other t is;
  taken_entered = taken_other;
  param_stays = λ args k o i name entered. record { plain = refl; allows = tt };
  bound_stays = λ args k o d e entered. absurd (entered tt);
  allows_term = λ args k l ts entered all. all_given args k ts all;
  allows_node = λ args k l ts all. all_given args k ts all;
  allows_binder = λ args k vs t h. h;
  given = λ s t r kept c g. record {
    is_done = record { plain = g.1.plain; allows = g.1.given };
    rises = record { descents = omega (arith, g.2); shift_descents = g.3 };
    amount = omega (arith, g.2);
  };
  region_refused = tree_refused;
  term_refused = λ unbuilt s t e s' h. record {
    why = tree_refused unbuilt s.state.rule s.state.under t e h.2;
    rises = record { descents = omega (arith, h.0); shift_descents = h.1 };
    amount = omega (arith, h.0);
  };
  cause_term = λ args k l t ts e entered m h. cause_term args k l t ts e m h;
  cause_node = λ args k l t ts e m h. cause_node args k l t ts e m h;
  cause_binder = cause_binder;
  count_one = λ c. counted-one c.descents;
  rises_one = λ c. record { descents = counted-up c.descents; shift_descents = omega arith };
  rises_still = λ c. record { descents = omega arith; shift_descents = omega arith };
  rises_then = λ a b c m n. record { descents = omega (arith, m.descents, n.descents); shift_descents = omega (arith, m.shift_descents, n.shift_descents) };
}
