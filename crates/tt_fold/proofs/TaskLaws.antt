-- What a task has to meet, so that a folder that remembers does it.
use Rattle.std.proofs.Common.{◌≡◌, ℕ, suc, ◌≤◌, List}
use Rattle.std.specs.Prelude.{⊤}
use Rattle.tt_index.specs.declared.refusal.Refusal.{Refusal}
use Rattle.tt_index.specs.declared.refusal.Refusal.TheVariants.{GreatestIndex}
use Rattle.tt_kinds.specs.Label.{Name, Sort, VarKind, Entry, Label}
use Rattle.tt_kinds.specs.Tree.{Depth, Tree, Forest, param, bound, term, node, binder, none, also}
use Rattle.tt_kinds.specs.Reading.{read, read_all, FitsUnder, FitsUnder_all}
use Rattle.tt_kinds.proofs.ChildLaws.{Among}
use Rattle.tt_interner.specs.Stored.{Counters, IsNoClauseList}
use Rattle.tt_fold.specs.Walk.{IsPassed, Wanted, HasUnwanted}
use Rattle.tt_fold.specs.Counts.{Standing}
use Rattle.tt_fold.specs.Stands.{StandsIn, StandsAmong}
use Rattle.tt_fold.specs.Remember.{State, Task, Done, IsTaken, made, made_all}

module _ {R K : Type 0} (T : Task R K) where
  -- each of the trees under k binders is allowed
  abbrev pub AllowsAll : R → ℕ → Forest Depth → Type 0
  AllowsAll q k none = ⊤
  AllowsAll q k (also t ts) = T.Allows q k t × AllowsAll q k ts

  -- the trees were done by the rule under k binders, and these came of them
  pub record DoneAll (q : R) (k : ℕ) (ts us : Forest Depth) : Type 0 where
    pub plain : us ≡ made_all T q k ts
    pub allow : AllowsAll q k ts

  -- a tree under k binders is refused: since a tree that was to stand in what is made of it isn't built, since that
  -- doesn't fit, or for a cause
  pub data Refuses (unbuilt : Tree Depth → Refusal → Type 0) (q : R) (k : ℕ) (t : Tree Depth) (e : Refusal) : Type 0 where
    without : (u : Tree Depth) → StandsIn u (made T q k t) → unbuilt u e → Refuses unbuilt q k t e
    too_far : e ≡ GreatestIndex → (FitsUnder k (read k (made T q k t)) → ⊥) → Refuses unbuilt q k t e
    caused : T.IsCause q k t e → Refuses unbuilt q k t e

  -- the same of trees of which this has to come: or no list with an item that is none of these is built, and one was to
  -- be
  pub data RefusesAll (unbuilt : Tree Depth → Refusal → Type 0) (w : Wanted) (q : R) (k : ℕ) (ts : Forest Depth) (e : Refusal) : Type 0 where
    without_any : ((u : Tree Depth) → unbuilt u e) → RefusesAll unbuilt w q k ts e
    without_one : (u : Tree Depth) → StandsAmong u (made_all T q k ts) → unbuilt u e → RefusesAll unbuilt w q k ts e
    without_lists : HasUnwanted w (made_all T q k ts) → ((u : Tree Depth) → IsNoClauseList u → unbuilt u e) → RefusesAll unbuilt w q k ts e
    too_far_all : e ≡ GreatestIndex → (FitsUnder_all k (read_all k (made_all T q k ts)) → ⊥) → RefusesAll unbuilt w q k ts e
    caused_among : (t : Tree Depth) → Among t ts → T.IsCause q k t e → RefusesAll unbuilt w q k ts e

  -- an answer that is given at once is what the rule makes of the term, and counts no descent
  pub record IsGiven (s : Standing (State R K)) (t r : Tree Depth) (c : Counters) : Type 0 where
    pub is_done : Done T s.state.rule s.state.under t r
    pub rises : T.Rises s.counters c
    pub amount : T.amount c ≤ T.amount s.counters

  -- where none is given, there is a reason, and no descent is counted
  pub record IsRefusedAt (unbuilt : Tree Depth → Refusal → Type 0) (s : Standing (State R K)) (t : Tree Depth) (e : Refusal) (s' : Standing (State R K)) : Type 0 where
    pub why : Refuses unbuilt s.state.rule s.state.under t e
    pub rises : T.Rises s.counters s'.counters
    pub amount : T.amount s'.counters ≤ T.amount s.counters

  -- what a task has to meet, so that a folder that remembers does it
  pub record TaskLaws : Type 1 where
    -- which terms are entered
    pub passed_entered : (q : R) (k : ℕ) (t : Tree Depth) → IsPassed t → T.IsEntered q k t
    pub taken_entered : (q : R) (k : ℕ) (t : Tree Depth) → IsTaken T q k t → T.IsEntered q k t
    -- what comes of leaves that are entered
    pub param_stays : (q : R) (k : ℕ) (o : Sort) (i : ℕ) (name : Name) → T.IsEntered q k (param o i name) → Done T q k (param o i name) (param o i name)
    pub bound_stays : (q : R) (k : ℕ) (o : Sort) (d : Depth) (e : Entry Name) → T.IsEntered q k (bound o d e) → Done T q k (bound o d e) (bound o d e)
    -- what is allowed, from the parts
    pub allows_term : (q : R) (k : ℕ) (l : Label Name) (ts : Forest Depth) → T.IsEntered q k (term l ts) → AllowsAll q k ts → T.Allows q k (term l ts)
    pub allows_node : (q : R) (k : ℕ) (l : Label Name) (ts : Forest Depth) → AllowsAll q k ts → T.Allows q k (node l ts)
    pub allows_binder : (q : R) (k : ℕ) (vs : List (VarKind Name)) (t : Tree Depth) → T.Allows q (suc k) t → T.Allows q k (binder vs t)
    -- what hooks answer at once, and why they fail
    pub given : (s : Standing (State R K)) (t r : Tree Depth) (kept : K) (c : Counters) → T.Gives s t r kept c → IsGiven s t r c
    pub region_refused : (unbuilt : Tree Depth → Refusal → Type 0) (q : R) (k : ℕ) (t : Tree Depth) (e : Refusal) → T.RegionFails unbuilt q k t e → Refuses unbuilt q k t e
    pub term_refused : (unbuilt : Tree Depth → Refusal → Type 0) (s : Standing (State R K)) (t : Tree Depth) (e : Refusal) (s' : Standing (State R K))
        → T.TermFails unbuilt s t e s' → IsRefusedAt unbuilt s t e s'
    -- a cause in a part is one in the whole
    pub cause_term : (q : R) (k : ℕ) (l : Label Name) (t : Tree Depth) (ts : Forest Depth) (e : Refusal) → T.IsEntered q k (term l ts) → Among t ts → T.IsCause q k t e → T.IsCause q k (term l ts) e
    pub cause_node : (q : R) (k : ℕ) (l : Label Name) (t : Tree Depth) (ts : Forest Depth) (e : Refusal) → Among t ts → T.IsCause q k t e → T.IsCause q k (node l ts) e
    pub cause_binder : (q : R) (k : ℕ) (vs : List (VarKind Name)) (t : Tree Depth) (e : Refusal) → T.IsCause q (suc k) t e → T.IsCause q k (binder vs t) e
    -- counts
    pub count_one : (c : Counters) → T.amount (T.count c) ≤ suc (T.amount c)
    pub rises_one : (c : Counters) → T.Rises c (T.count c)
    pub rises_still : (c : Counters) → T.Rises c c
    pub rises_then : (a b c : Counters) → T.Rises a b → T.Rises b c → T.Rises a c
