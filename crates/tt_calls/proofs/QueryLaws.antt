-- The calls that ask about terms, over plain variables.
use Rattle.std.proofs.Common.{◌≡◌, ◌↔◌, ℕ, ◌<◌, List, Bool, Option, Some, None, refl, ap, sym, ◌∙◌, subst}
use Rattle.std.specs.Prelude.{IsSome, IsSomeAnd, MatchResult, Result, Ok, Err, ◌≢◌}
use Rattle.std.proofs.Math.Dec.{eqb}
use Rattle.std.proofs.lemmas.Bool.{eqb-true, eq-eqb}
use Rattle.tt_index.specs.declared.refusal.Refusal.{Refusal}
use Rattle.tt_index.specs.declared.refusal.Refusal.TheVariants.{NoSuchAnswer}
use Rattle.tt_kinds.specs.Tree.{Tree, Depth}
use Rattle.tt_kinds.specs.Handle.{Ty}
use Rattle.tt_kinds.specs.Handle.{Const}
use Rattle.tt_kinds.specs.Handle.{Pat}
use Rattle.tt_kinds.specs.Handle.{Predicate}
use Rattle.tt_kinds.specs.Handle.{Clauses}
use Rattle.tt_kinds.specs.declared.table.Table.{Table}
use Rattle.tt_kinds.specs.declared.table.Table.TheVariants.{Types, Consts, Patterns, Predicates, ClauseLists, ArgLists}
use Rattle.tt_interner.specs.Rows.{Row, size, meaning}
use Rattle.tt_interner.specs.Stored.{Terms}
use Rattle.tt_calls.specs.declared.answer.Answer.{Answer}
use Rattle.tt_calls.specs.declared.answer.Answer.TheVariants as answer
use Rattle.tt_calls.specs.declared.call.Call.{Call}
use Rattle.tt_calls.specs.declared.call.Call.TheVariants as call
use Rattle.tt_calls.specs.CallForm.{as_at}
use Rattle.tt_calls.specs.Told.{told, told_all, truth, term, handle_table, handle_number, IsOwnedAnswer}
use Rattle.tt_calls.specs.Told.{AreOwnedAnswers, Setting}
use Rattle.tt_calls.specs.Told.{setting}
use Rattle.tt_calls.specs.Means.{Term, as_term, term_at, tree_of, table_of, table_at, Suits, IsAllowed, MayRefuse}
use Rattle.tt_calls.specs.Means.{no_term}
use Rattle.tt_calls.specs.Build.{IsAnswerAt, AreOfOneTable, IsInfoOf, MayAnswerCall}

-- what a handle of a table tells
told-handle : (rows : List Row) (a : Answer) (t : Table) → handle_table a ≡ Some t → told rows a ≡ term t (meaning rows t (handle_number a))
told-handle rows (answer.Ty x) t e = let same : Types ≡ t = cc in subst (λ (u : Table). told rows (answer.Ty x) ≡ term u (meaning rows u x.number)) same refl
told-handle rows (answer.Const x) t e = let same : Consts ≡ t = cc in subst (λ (u : Table). told rows (answer.Const x) ≡ term u (meaning rows u x.number)) same refl
told-handle rows (answer.Pat x) t e = let same : Patterns ≡ t = cc in subst (λ (u : Table). told rows (answer.Pat x) ≡ term u (meaning rows u x.number)) same refl
told-handle rows (answer.Predicate x) t e = let same : Predicates ≡ t = cc in subst (λ (u : Table). told rows (answer.Predicate x) ≡ term u (meaning rows u x.number)) same refl
told-handle rows (answer.Clauses x) t e = let same : ClauseLists ≡ t = cc in subst (λ (u : Table). told rows (answer.Clauses x) ≡ term u (meaning rows u x.number)) same refl
told-handle rows (answer.Args x) t e = let same : ArgLists ≡ t = cc in subst (λ (u : Table). told rows (answer.Args x) ≡ term u (meaning rows u x.number)) same refl
told-handle rows _ t e = absurd (cc)

owned-handle : (rows : List Row) (a : Answer) (t : Table) → handle_table a ≡ Some t → IsOwnedAnswer rows a → handle_number a < size rows t
owned-handle rows (answer.Ty x) t e o = let same : Types ≡ t = cc in subst (λ (u : Table). x.number < size rows u) same o
owned-handle rows (answer.Const x) t e o = let same : Consts ≡ t = cc in subst (λ (u : Table). x.number < size rows u) same o
owned-handle rows (answer.Pat x) t e o = let same : Patterns ≡ t = cc in subst (λ (u : Table). x.number < size rows u) same o
owned-handle rows (answer.Predicate x) t e o = let same : Predicates ≡ t = cc in subst (λ (u : Table). x.number < size rows u) same o
owned-handle rows (answer.Clauses x) t e o = let same : ClauseLists ≡ t = cc in subst (λ (u : Table). x.number < size rows u) same o
owned-handle rows (answer.Args x) t e o = let same : ArgLists ≡ t = cc in subst (λ (u : Table). x.number < size rows u) same o
owned-handle rows _ t e o = absurd (cc)

some-of : (o : Option Table) → IsSome o → (t : Table) × (o ≡ Some t)
some-of None h = absurd (cc)
some-of (Some t) h = (t, refl)

-- two answers of one table have one number exactly where they tell one tree
module _ (rows : List Row) (i : (t : Table) (n m : ℕ) → n < size rows t → m < size rows t → (meaning rows t n ≡ meaning rows t m) ↔ (n ≡ m)) where
  pub same-answer : (a b : Answer) → IsOwnedAnswer rows a → IsOwnedAnswer rows b → AreOfOneTable a b
      → (handle_number a ≡ handle_number b) ↔ (tree_of (as_term (Some (told rows a))) ≡ tree_of (as_term (Some (told rows b))))
  same-answer a b h k l =
      let t = some-of (handle_table a) l.0 in
      let u = sym l.1 ∙ t.1 in
      let both = i t.0 (handle_number a) (handle_number b) (owned-handle rows a t.0 t.1 h) (owned-handle rows b t.0 u k) in
      rw (told-handle rows a t.0 t.1, told-handle rows b t.0 u) (both.1, both.0)

-- the table of what an answer tells
pub told-table : (rows : List Row) (a : Answer) → table_of (as_term (Some (told rows a))) ≡ handle_table a
told-table rows (answer.Ty x) = refl
told-table rows (answer.Const x) = refl
told-table rows (answer.Pat x) = refl
told-table rows (answer.Predicate x) = refl
told-table rows (answer.Clauses x) = refl
told-table rows (answer.Args x) = refl
told-table rows _ = refl

-- a position where there is a term of its table
suits-table : (o : Option Term) (t : Option Table) → IsSome (table_of o) → t ≡ table_of o → IsSomeAnd o (λ u. t ≡ Some u.table)
suits-table None t h e = absurd (cc)
suits-table (Some u) t h e = e

suits-any : (o : Option Term) → IsSome (table_of o) → IsSomeAnd o (λ u. Unit {0})
suits-any None h = absurd (cc)
suits-any (Some u) h = tt

table-of-suited : (o : Option Term) (t : Option Table) → IsSomeAnd o (λ u. t ≡ Some u.table) → IsSome t × (t ≡ table_of o)
table-of-suited None t h = absurd h
table-of-suited (Some u) t h = (rw h refl, h)

module _ (rows : List Row) (earlier : List Answer) (p q : ℕ) (a b : Answer) (h : IsAnswerAt earlier p a) (k : IsAnswerAt earlier q b) where
  table-first : table_at (told_all rows earlier) p ≡ handle_table a
  table-first = ap table_of (h.means rows) ∙ told-table rows a

  table-second : table_at (told_all rows earlier) q ≡ handle_table b
  table-second = ap table_of (k.means rows) ∙ told-table rows b

  -- whether the numbers of two handles of one table are equal is an answer to whether their terms are
  pub equal-allowed : (P : Setting) (r : Bool) → AreOwnedAnswers rows earlier → AreOfOneTable a b
      → ((t : Table) (n m : ℕ) → n < size rows t → m < size rows t → (meaning rows t n ≡ meaning rows t m) ↔ (n ≡ m))
      → r ≡ eqb (handle_number a) (handle_number b) → IsAllowed P (told_all rows earlier) (call.Equal p q) (truth r)
  equal-allowed P r o l i e =
      let same = same-answer rows i a b (h.owned rows o) (k.owned rows o) l in
      let first = ap tree_of (h.means rows) in
      let second = ap tree_of (k.means rows) in (
        (
          suits-any (term_at (told_all rows earlier) p) (subst (λ (t : Option Table). IsSome t) (sym table-first) l.0),
          (
            suits-table (term_at (told_all rows earlier) q) (table_at (told_all rows earlier) p)
                (subst (λ (t : Option Table). IsSome t) (l.1 ∙ sym table-second) l.0) (table-first ∙ l.1 ∙ sym table-second),
            tt,
          ),
        ),
        (
          (λ t. first ∙ same.0 (eqb-true (handle_number a) (handle_number b) (sym e ∙ t)) ∙ sym second),
          (λ t. e ∙ eq-eqb (handle_number a) (handle_number b) (same.1 (sym first ∙ t ∙ second))),
        ),
      )

  -- the answers are of two tables, or one of them is no term
  pub unlike-refused : (P : Setting) → (AreOfOneTable a b → ⊥) → MayRefuse P (told_all rows earlier) (call.Equal p q) NoSuchAnswer
  unlike-refused P n =
      no_term (λ m. let s = table-of-suited (term_at (told_all rows earlier) q) (table_at (told_all rows earlier) p) m.1.0 in
      n (subst (λ (t : Option Table). IsSome t) table-first s.0, sym table-first ∙ s.1 ∙ table-second)) refl

-- the second of two positions tells no term
pub second-absent : (P : Setting) (rows : List Row) (earlier : List Answer) (p q : ℕ) → ((rows : List Row) → term_at (told_all rows earlier) q ≡ None)
    → MayRefuse P (told_all rows earlier) (call.Equal p q) NoSuchAnswer
second-absent P rows earlier p q h =
    no_term (λ m. subst (λ (o : Option Term). IsSomeAnd o (Suits (told_all rows earlier) (as_at p))) (h rows) m.1.0) refl

-- what is kept beside a term
pub info-allowed : (P : Setting) (rows : List Row) (earlier : List Answer) (p : ℕ) (t : Table) (u : Tree Depth) (a : Answer)
    → term_at (told_all rows earlier) p ≡ Some (record { table = t; tree = u }) → t ≢ ArgLists → IsInfoOf u a
    → IsAllowed P (told_all rows earlier) (call.Info p) (told rows a)
info-allowed P rows earlier p t u (answer.Info flags outer) at n h =
    ((rw at n, tt), rw at h)
info-allowed P rows earlier p t u _ at n h = absurd h

-- a list of arguments has no flags
pub args-refused : (P : Setting) (rows : List Row) (earlier : List Answer) (p : ℕ) (a : Answer) → IsAnswerAt earlier p a
    → ((u : Term) → as_term (Some (told rows a)) ≡ Some u → u.table ≡ ArgLists) → MayRefuse P (told_all rows earlier) (call.Info p) NoSuchAnswer
args-refused P rows earlier p a at only =
    no_term (λ m. no-flags (as_term (Some (told rows a))) only (subst (λ (o : Option Term). IsSomeAnd o (λ u. u.table ≢ ArgLists)) (at.means rows) m.0)) refl
  where
    no-flags : (o : Option Term) → ((u : Term) → o ≡ Some u → u.table ≡ ArgLists) → IsSomeAnd o (λ u. u.table ≢ ArgLists) → ⊥
    no-flags None f h = h
    no-flags (Some u) f h = h (f u refl)

-- an answer that is none of a type, a constant, a pattern, a predicate and a clause list
pub only-args : (a : Answer)
    → ((h : Ty) → a ≡ answer.Ty h → ⊥)
    → ((h : Const) → a ≡ answer.Const h → ⊥)
    → ((h : Pat) → a ≡ answer.Pat h → ⊥)
    → ((h : Predicate) → a ≡ answer.Predicate h → ⊥)
    → ((h : Clauses) → a ≡ answer.Clauses h → ⊥)
    → (rows : List Row) (u : Term) → as_term (Some (told rows a)) ≡ Some u → u.table ≡ ArgLists
only-args (answer.Ty x) f g h i j rows u e = absurd (f x refl)
only-args (answer.Const x) f g h i j rows u e = absurd (g x refl)
only-args (answer.Pat x) f g h i j rows u e = absurd (h x refl)
only-args (answer.Predicate x) f g h i j rows u e = absurd (i x refl)
only-args (answer.Clauses x) f g h i j rows u e = absurd (j x refl)
only-args (answer.Args x) f g h i j rows u e = let same : record { table = ArgLists; tree = meaning rows ArgLists x.number } ≡ u = cc in sym (ap (λ (t : Term). t.table) same)
only-args _ f g h i j rows u e = absurd (cc)

-- the answer of a call that gives a term
pub answered-allowed : (start terms : Terms) (earlier : List Answer) (rows : List Row) (c : Call) (result : Result Answer Refusal) (a : Answer) → MayAnswerCall start terms (told_all rows earlier) c result
    → MatchResult result (λ b. a ≡ b) (λ e. a ≡ answer.Refused e)
    → IsAllowed (setting start terms) (told_all rows earlier) c (told terms.rows a)
answered-allowed start terms earlier rows c (Ok b) a h e = rw e h.ok
answered-allowed start terms earlier rows c (Err r) a h e = rw e h.err

-- the handle or the id in an answer that is made of a call's result is the interner's
pub answered-owned : (start terms : Terms) (earlier : List Answer) (rows : List Row) (c : Call) (result : Result Answer Refusal) (a : Answer) → MayAnswerCall start terms (told_all rows earlier) c result
    → MatchResult result (λ b. a ≡ b) (λ e. a ≡ answer.Refused e) → IsOwnedAnswer terms.rows a
answered-owned start terms earlier rows c (Ok b) a h e = rw e h.owned
answered-owned start terms earlier rows c (Err r) a h e = rw e tt
