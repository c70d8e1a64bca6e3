-- What is told at a position is what the answer there tells.
use Rattle.std.proofs.Common.{◌≡◌, ℕ, zero, suc, ◌-◌, ◌<◌, List, [], ◌∷◌, Option, Some, None, refl, ap, subst, sym, ◌∙◌}
use Rattle.std.proofs.Common.{arith}
use Rattle.std.specs.List.{slice_get}
use Rattle.std.specs.Option.{option_map}
use Rattle.std.specs.Prelude.{IsSomeAnd}
use Rattle.std.proofs.lemmas.Option.{slice_get-map}
use Rattle.tt_index.specs.declared.refusal.Refusal.{Refusal}
use Rattle.tt_index.specs.declared.refusal.Refusal.TheVariants.{NoSuchAnswer}
use Rattle.tt_kinds.specs.Tree.{Tree, Depth}
use Rattle.tt_kinds.specs.Shape.{fill, stored}
use Rattle.tt_kinds.specs.declared.declaration.DeclarationSort.{DeclarationSort}
use Rattle.tt_kinds.specs.declared.id.DefId.{DefId}
use Rattle.tt_kinds.specs.declared.table.Table.{Table}
use Rattle.tt_kinds.specs.declared.table.Table.TheVariants.{Types, Consts, Patterns, Predicates, ClauseLists, ArgLists}
use Rattle.tt_kinds.specs.Handle.{Ty}
use Rattle.tt_kinds.specs.Handle.{Const}
use Rattle.tt_kinds.specs.Handle.{Pat}
use Rattle.tt_kinds.specs.Handle.{Predicate}
use Rattle.tt_kinds.specs.Handle.{Clauses}
use Rattle.tt_kinds.specs.Handle.{GenericArgs}
use Rattle.tt_interner.specs.Rows.{Row, size, meaning}
use Rattle.tt_interner.specs.Stored.{Terms, Extends}
use Rattle.tt_interner.proofs.Growth.{meaning-grows}
use Rattle.tt_calls.specs.declared.answer.Answer.{Answer}
use Rattle.tt_calls.specs.declared.answer.Answer.TheVariants as answer
use Rattle.tt_calls.specs.declared.call.Call.{Call}
use Rattle.tt_calls.specs.CallForm.{of_table, one, a_term, Named}
use Rattle.tt_calls.specs.Told.{Told, told, told_all, IsOwnedAnswer, AreOwnedAnswers, Setting}
use Rattle.tt_calls.specs.Means as means
use Rattle.tt_calls.specs.Means.{Term, as_term, term_at, Suits, Id, as_id, id_at, positions, AreTerms, TellsWanted}
use Rattle.tt_calls.specs.Means.{MayRefuse}
use Rattle.tt_calls.specs.Build.{IsAnswerAt, IsIdAt, HasNoId, IsHandle, IsOther, IsUnbuiltPart, no_term, IsPartOfCall}

pub term_at-told : (rows : List Row) (earlier : List Answer) (p : ℕ) → (p ≡ 0 → ⊥)
    → term_at (told_all rows earlier) p ≡ as_term (option_map (told rows) (slice_get earlier (p - 1)))
term_at-told rows earlier zero h = absurd (h refl)
term_at-told rows earlier (suc n) h = let e : suc n - 1 ≡ n = omega arith in rw (e, slice_get-map (told rows) earlier n) refl

pub id_at-told : (rows : List Row) (earlier : List Answer) (p : ℕ) → (p ≡ 0 → ⊥)
    → id_at (told_all rows earlier) p ≡ as_id (option_map (told rows) (slice_get earlier (p - 1)))
id_at-told rows earlier zero h = absurd (h refl)
id_at-told rows earlier (suc n) h = let e : suc n - 1 ≡ n = omega arith in rw (e, slice_get-map (told rows) earlier n) refl

owned-at : (rows : List Row) (answers : List Answer) (n : ℕ) (a : Answer) → AreOwnedAnswers rows answers → slice_get answers n ≡ Some a → IsOwnedAnswer rows a
owned-at rows [] n a h e = absurd (cc)
owned-at rows (b ∷ answers) zero a h e = let same : b ≡ a = cc in subst (λ (x : Answer). IsOwnedAnswer rows x) same h.0
owned-at rows (b ∷ answers) (suc n) a h e = owned-at rows answers n a h.1 e

-- the answer at a position, which is counted from 1, is the earlier answer with an index one lower
pub found : (earlier : List Answer) (p : ℕ) (a : Answer) → (p ≡ 0 → ⊥) → slice_get earlier (p - 1) ≡ Some a → IsAnswerAt earlier p a
found earlier p a h e = record {
  means = λ rows. rw (term_at-told rows earlier p h, e) refl;
  is_id = λ rows. rw (id_at-told rows earlier p h, e) refl;
  owned = λ rows o. owned-at rows earlier (p - 1) a o e;
}

-- where there is no earlier answer at a position, no term is told there
pub absent : (earlier : List Answer) (p : ℕ) → (p ≡ 0 → ⊥) → slice_get earlier (p - 1) ≡ None → (rows : List Row) → term_at (told_all rows earlier) p ≡ None
absent earlier p h e rows = rw (term_at-told rows earlier p h, e) refl

-- where there is no earlier answer at a position, no id is told there
pub absent-id : (earlier : List Answer) (p : ℕ) → (p ≡ 0 → ⊥) → slice_get earlier (p - 1) ≡ None → (rows : List Row) → id_at (told_all rows earlier) p ≡ None
absent-id earlier p h e rows = rw (id_at-told rows earlier p h, e) refl

-- the id at a position
pub id-found : (earlier : List Answer) (p : ℕ) (a : Answer) (s : DeclarationSort) (id : DefId) → IsAnswerAt earlier p a → a ≡ answer.Id s id → IsIdAt earlier p s id.number
id-found earlier p a s id at is rows = at.is_id rows ∙ ap (λ (b : Answer). as_id (Some (told rows b))) is

-- no answer at the position
pub no-id-absent : (earlier : List Answer) (p : ℕ) (s : DeclarationSort) → ((rows : List Row) → id_at (told_all rows earlier) p ≡ None) → HasNoId earlier p s
no-id-absent earlier p s none rows h = subst (λ (o : Option Id). IsSomeAnd o (λ i. i.sort ≡ s)) (none rows) h

-- the answer at the position is no id of the sort
other-id : (rows : List Row) (a : Answer) (s : DeclarationSort) → ((id : DefId) → a ≡ answer.Id s id → ⊥) → IsSomeAnd (as_id (Some (told rows a))) (λ i. i.sort ≡ s) → ⊥
other-id rows (answer.Id r id) s not same = not id (ap (λ (t : DeclarationSort). answer.Id t id) same)
other-id rows _ s not h = absurd h

-- where the answer at a position is no id of a sort, there is no id of that sort
pub no-id-other : (earlier : List Answer) (p : ℕ) (a : Answer) (s : DeclarationSort) → IsAnswerAt earlier p a → ((id : DefId) → a ≡ answer.Id s id → ⊥) → HasNoId earlier p s
no-id-other earlier p a s at not rows h = other-id rows a s not (subst (λ (o : Option Id). IsSomeAnd o (λ i. i.sort ≡ s)) (at.is_id rows) h)

-- the handle at a position
module _ (terms : Terms) (earlier : List Answer) (p : ℕ) (a : Answer) (table : Table) (n : ℕ) (at : IsAnswerAt earlier p a) (is : IsHandle a table n) where
  -- what is told there
  pub told-at : (rows : List Row) → term_at (told_all rows earlier) p ≡ Some (record { table = table; tree = meaning rows table n })
  told-at rows = rw (at.means rows, is.told rows) refl

  -- the handle at a position is in range
  pub in_range-at : AreOwnedAnswers terms.rows earlier → n < size terms.rows table
  in_range-at o = is.owned terms.rows (at.owned terms.rows o)

  -- the handle at a position is what a call puts in the place of a child by naming the position
  pub part-at : AreOwnedAnswers terms.rows earlier → IsPartOfCall terms (told_all terms.rows earlier) (one (a_term table p)) (stored table n)
  unfolding fill
  part-at o = record {
    part = in_range-at o;
    means = rw (told-at terms.rows) refl;
    named = (rw (told-at terms.rows) refl, tt);
    shallow = λ d. d;
  }

-- no answer at the position
pub nothing-at : (P : Type 0) (rows : List Row) (earlier : List Answer) (p : ℕ) (table : Table) (r : Refusal) → r ≡ NoSuchAnswer
    → ((rows : List Row) → term_at (told_all rows earlier) p ≡ None) → IsUnbuiltPart P (told_all rows earlier) (record { want = of_table table; position = p } ∷ []) ⊥ r
nothing-at P rows earlier p table r i h =
    no_term (λ a. subst (λ (o : Option Term). IsSomeAnd o (Suits (told_all rows earlier) (of_table table))) (h rows) a.0) i

-- the answer at the position is no handle of the table
pub other-at : (P : Type 0) (rows : List Row) (earlier : List Answer) (p : ℕ) (a : Answer) (table : Table) (r : Refusal) → r ≡ NoSuchAnswer
    → IsAnswerAt earlier p a → IsOther a table → IsUnbuiltPart P (told_all rows earlier) (record { want = of_table table; position = p } ∷ []) ⊥ r
other-at P rows earlier p a table r i at other =
    no_term (λ k. other rows (subst (λ (o : Option Term). IsSomeAnd o (λ u. u.table ≡ table)) (at.means rows) k.0)) i

-- the handles that answers are
pub ty-handle : (a : Answer) (h : Ty) → a ≡ answer.Ty h → IsHandle a Types h.number
ty-handle a h e = rw e (record { told = λ rows. refl; owned = λ rows k. k; owns = λ rows k. k })

-- an answer that is a constant is a handle of the table of constants
pub const-handle : (a : Answer) (h : Const) → a ≡ answer.Const h → IsHandle a Consts h.number
const-handle a h e = rw e (record { told = λ rows. refl; owned = λ rows k. k; owns = λ rows k. k })

-- an answer that is a pattern is a handle of the table of patterns
pub pat-handle : (a : Answer) (h : Pat) → a ≡ answer.Pat h → IsHandle a Patterns h.number
pat-handle a h e = rw e (record { told = λ rows. refl; owned = λ rows k. k; owns = λ rows k. k })

-- an answer that is a predicate is a handle of the table of predicates
pub predicate-handle : (a : Answer) (h : Predicate) → a ≡ answer.Predicate h → IsHandle a Predicates h.number
predicate-handle a h e = rw e (record { told = λ rows. refl; owned = λ rows k. k; owns = λ rows k. k })

-- an answer that is a list of clauses is a handle of the table of these lists
pub clauses-handle : (a : Answer) (h : Clauses) → a ≡ answer.Clauses h → IsHandle a ClauseLists h.number
clauses-handle a h e = rw e (record { told = λ rows. refl; owned = λ rows k. k; owns = λ rows k. k })

-- an answer that is a list of arguments is a handle of the table of these lists
pub args-handle : (a : Answer) (h : GenericArgs) → a ≡ answer.Args h → IsHandle a ArgLists h.number
args-handle a h e = rw e (record { told = λ rows. refl; owned = λ rows k. k; owns = λ rows k. k })

-- an answer that is none
pub no-handle : (a : Answer)
    → ((h : Ty) → a ≡ answer.Ty h → ⊥)
    → ((h : Const) → a ≡ answer.Const h → ⊥)
    → ((h : Pat) → a ≡ answer.Pat h → ⊥)
    → ((h : Predicate) → a ≡ answer.Predicate h → ⊥)
    → ((h : Clauses) → a ≡ answer.Clauses h → ⊥)
    → ((h : GenericArgs) → a ≡ answer.Args h → ⊥)
    → (rows : List Row) → as_term (Some (told rows a)) ≡ None
no-handle (answer.Ty x) f g h i j k rows = absurd (f x refl)
no-handle (answer.Const x) f g h i j k rows = absurd (g x refl)
no-handle (answer.Pat x) f g h i j k rows = absurd (h x refl)
no-handle (answer.Predicate x) f g h i j k rows = absurd (i x refl)
no-handle (answer.Clauses x) f g h i j k rows = absurd (j x refl)
no-handle (answer.Args x) f g h i j k rows = absurd (k x refl)
no-handle (answer.Id s d) f g h i j k rows = refl
no-handle (answer.Truth b) f g h i j k rows = refl
no-handle (answer.Info flags outer) f g h i j k rows = refl
no-handle (answer.Refused r) f g h i j k rows = refl
no-handle answer.Bad f g h i j k rows = refl

-- the term at a position, with its tree in the rows as they are later
pub told-later : (old new : Terms) (e : List Told) (p : ℕ) (table : Table) (n : ℕ) → term_at e p ≡ Some (record { table = table; tree = meaning old.rows table n })
    → Extends old new → n < size old.rows table → term_at e p ≡ Some (record { table = table; tree = meaning new.rows table n })
told-later old new e p table n at x within =
    at ∙ ap (λ (u : Tree Depth). Some (record { table = table; tree = u })) (sym (meaning-grows old.rows new.rows x.rows table n within))

-- where the answer at the position is none
pub nothing-told : (earlier : List Answer) (p : ℕ) (a : Answer) → IsAnswerAt earlier p a → ((rows : List Row) → as_term (Some (told rows a)) ≡ None)
    → (rows : List Row) → term_at (told_all rows earlier) p ≡ None
nothing-told earlier p a at none rows = at.means rows ∙ none rows

-- a call that wants a term at a position without one may be refused
pub absent-refused : (P : Setting) (rows : List Row) (earlier : List Answer) (n : Named) (ns : List Named) (c : Call) → positions (told_all rows earlier) c ≡ n ∷ ns
    → (TellsWanted (told_all rows earlier) n.want n.position → IsSomeAnd (term_at (told_all rows earlier) n.position) (Suits (told_all rows earlier) n.want))
    → (r : Refusal) → r ≡ NoSuchAnswer
    → ((rows : List Row) → term_at (told_all rows earlier) n.position ≡ None) → MayRefuse P (told_all rows earlier) c r
absent-refused P rows earlier n ns c q w r i h =
    means.no_term (λ a. let b = subst (λ (qs : List Named). AreTerms (told_all rows earlier) qs) q a in
    subst (λ (o : Option Term). IsSomeAnd o (Suits (told_all rows earlier) n.want)) (h rows) (w b.0)) i
