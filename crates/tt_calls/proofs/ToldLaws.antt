-- What was told stays told while rows grow, and what is allowed stays allowed.
use Rattle.std.proofs.Common.{◌≡◌, ℕ, ◌≤◌, List, [], ◌∷◌, ◌++◌, refl, ap, ◌∙◌, arith, inl, inr}
use Rattle.tt_index.specs.declared.refusal.Refusal.{Refusal}
use Rattle.tt_kinds.specs.Tree.{Tree, Depth}
use Rattle.tt_kinds.specs.declared.table.Table.{Table}
use Rattle.tt_kinds.specs.declared.table.Table.TheVariants.{Types, Consts, Patterns, Predicates, ClauseLists, ArgLists}
use Rattle.tt_kinds.specs.declared.table.Table.TheVariants.{Declarations}
use Rattle.tt_kinds.specs.declared.declaration.Declaration.{Declaration}
use Rattle.tt_kinds.specs.declared.declaration.DeclarationSort.{DeclarationSort}
use Rattle.tt_kinds.specs.Declaration.{sort_of}
use Rattle.tt_interner.specs.Rows.{Row, Grows}
use Rattle.tt_interner.specs.Stored.{Terms, Extends}
use Rattle.tt_interner.proofs.Growth.{size-grows, in_range-grows, meaning-grows}
use Rattle.tt_interner.proofs.DeclarationLaws.{declared_at-grows}
use Rattle.tt_calls.specs.declared.call.Call.{Call}
use Rattle.tt_calls.specs.declared.call.Call.TheVariants as call
use Rattle.tt_calls.specs.declared.answer.Answer.{Answer}
use Rattle.tt_calls.specs.declared.answer.Answer.TheVariants as answer
use Rattle.tt_calls.specs.Told.{Told, term, declared, truth, info, refused, bad, told, told_all, IsOwnedAnswer}
use Rattle.tt_calls.specs.Told.{AreOwnedAnswers}
use Rattle.tt_calls.specs.Told.{HasFullTable, IsStored, Setting}
use Rattle.tt_calls.specs.Means.{AddsNothing, MayGrow, MayRefuse, want_of_memory, full_table, no_term}
use Rattle.tt_calls.specs.Means.{too_deep, unfit, unsuited, NamesDeclaration, IsAllowed, Means}

module _ (old new : List Row) (g : Grows old new) where
  pub told-grows : (a : Answer) → IsOwnedAnswer old a → told new a ≡ told old a
  told-grows (answer.Ty t) h = ap (term Types) (meaning-grows old new g Types t.number h)
  told-grows (answer.Const t) h = ap (term Consts) (meaning-grows old new g Consts t.number h)
  told-grows (answer.Pat t) h = ap (term Patterns) (meaning-grows old new g Patterns t.number h)
  told-grows (answer.Predicate t) h = ap (term Predicates) (meaning-grows old new g Predicates t.number h)
  told-grows (answer.Clauses t) h = ap (term ClauseLists) (meaning-grows old new g ClauseLists t.number h)
  told-grows (answer.Args t) h = ap (term ArgLists) (meaning-grows old new g ArgLists t.number h)
  told-grows (answer.Id s d) h = ap (declared s d.number) (meaning-grows old new g Declarations d.number h.0)
  told-grows (answer.Truth b) h = refl
  told-grows (answer.Info flags outer) h = refl
  told-grows (answer.Refused r) h = refl
  told-grows answer.Bad h = refl

  -- where rows grow, answers whose handles are in range tell what they told
  pub told_all-grows : (answers : List Answer) → AreOwnedAnswers old answers → told_all new answers ≡ told_all old answers
  told_all-grows [] h = refl
  told_all-grows (a ∷ answers) h = rw (told-grows a h.0, told_all-grows answers h.1) refl

module _ (old new : List Row) (g : Grows old new) where
  pub IsOwnedAnswer-grows : (a : Answer) → IsOwnedAnswer old a → IsOwnedAnswer new a
  IsOwnedAnswer-grows (answer.Ty t) h = in_range-grows old new g Types t.number h
  IsOwnedAnswer-grows (answer.Const t) h = in_range-grows old new g Consts t.number h
  IsOwnedAnswer-grows (answer.Pat t) h = in_range-grows old new g Patterns t.number h
  IsOwnedAnswer-grows (answer.Predicate t) h = in_range-grows old new g Predicates t.number h
  IsOwnedAnswer-grows (answer.Clauses t) h = in_range-grows old new g ClauseLists t.number h
  IsOwnedAnswer-grows (answer.Args t) h = in_range-grows old new g ArgLists t.number h
  IsOwnedAnswer-grows (answer.Id s d) h =
      (in_range-grows old new g Declarations d.number h.0, ap (λ (x : Declaration). sort_of x.kind) (declared_at-grows old new g (record { number = d.number }) h.0) ∙ h.1)
  IsOwnedAnswer-grows (answer.Truth b) h = tt
  IsOwnedAnswer-grows (answer.Info flags outer) h = tt
  IsOwnedAnswer-grows (answer.Refused r) h = tt
  IsOwnedAnswer-grows answer.Bad h = tt

  -- where rows grow, the handles and ids in answers stay in range
  pub AreOwnedAnswers-grows : (answers : List Answer) → AreOwnedAnswers old answers → AreOwnedAnswers new answers
  AreOwnedAnswers-grows [] h = tt
  AreOwnedAnswers-grows (a ∷ answers) h = (IsOwnedAnswer-grows a h.0, AreOwnedAnswers-grows answers h.1)

  -- where rows grow, a tree that is stored stays stored
  pub IsStored-grows : (t : Table) (u : Tree Depth) → IsStored old t u → IsStored new t u
  IsStored-grows t u h = record {
    number = h.number;
    within = in_range-grows old new g t h.number h.within;
    means = meaning-grows old new g t h.number h.within ∙ h.means;
  }

-- a full table stays full
pub HasFullTable-extends : (old new : Terms) → Extends old new → HasFullTable old → HasFullTable new
HasFullTable-extends old new e h =
    let more = size-grows old.rows new.rows e.rows h.table in
    record { table = h.table; full = rw e.limit (omega (arith, h.full)) }

-- what is allowed stays allowed with more full tables, and with fewer declarations and terms before the calls
module _ (s t : Setting) (full : s.full → t.full) (fewer : t.declarations ≤ s.declarations) (stored : (table : Table) (u : Tree Depth) → t.stored table u → s.stored table u) where
  AddsNothing-fewer : (e : List Told) (c : Call) → AddsNothing t e c → AddsNothing s e c
  AddsNothing-fewer e (call.Ty k) h = (h.0, elim h.1 [ inl a ↦ inl (stored _ _ a) | inr b ↦ inr b ])
  AddsNothing-fewer e (call.Const k) h = (h.0, elim h.1 [ inl a ↦ inl (stored _ _ a) | inr b ↦ inr b ])
  AddsNothing-fewer e (call.Pat k) h = (h.0, elim h.1 [ inl a ↦ inl (stored _ _ a) | inr b ↦ inr b ])
  AddsNothing-fewer e (call.Predicate k) h = (h.0, elim h.1 [ inl a ↦ inl (stored _ _ a) | inr b ↦ inr b ])
  AddsNothing-fewer e (call.Clauses ps) h = (h.0, elim h.1 [ inl a ↦ inl (stored _ _ a) | inr b ↦ inr b ])
  AddsNothing-fewer e (call.Args args) h = (h.0, elim h.1 [ inl a ↦ inl (stored _ _ a) | inr b ↦ inr b ])
  AddsNothing-fewer e (call.Declare d) h = absurd h
  AddsNothing-fewer e (call.Shift p n) h = h
  AddsNothing-fewer e (call.EraseRegions p) h = h
  AddsNothing-fewer e (call.Instantiate p args) h = h
  AddsNothing-fewer e (call.Equal p q) h = absurd h
  AddsNothing-fewer e (call.Info p) h = absurd h
  AddsNothing-fewer e call.Bad h = absurd h

  grows-more : (e : List Told) (c : Call) → MayGrow s e c → MayGrow t e c
  grows-more e c h = (h.0, λ a. h.1 (AddsNothing-fewer e c a))

  MayRefuse-wider : (e : List Told) (c : Call) (r : Refusal) → MayRefuse s e c r → MayRefuse t e c r
  MayRefuse-wider e c r (want_of_memory b i) = want_of_memory (grows-more e c b) i
  MayRefuse-wider e c r (full_table b p i) = full_table (grows-more e c b) (full p) i
  MayRefuse-wider e c r (no_term n i) = no_term n i
  MayRefuse-wider e c r (too_deep d i) = too_deep d i
  MayRefuse-wider e c r (unfit n u i) = unfit n u i
  MayRefuse-wider e c r (unsuited n h) = unsuited n h

  NamesDeclaration-wider : (e : List Told) (c : Call) (sort : DeclarationSort) (n : ℕ) (u : Tree Depth) → NamesDeclaration s e c sort n u → NamesDeclaration t e c sort n u
  NamesDeclaration-wider e (call.Declare d) sort n u h = record {
    sorted = h.sorted;
    declares = h.declares;
    new = let above = h.new in omega (arith, fewer);
    later = h.later;
  }
  NamesDeclaration-wider e _ sort n u h = absurd h

  -- an answer stays allowed with more full tables, and with fewer declarations and terms before the calls
  pub IsAllowed-wider : (e : List Told) (c : Call) (u : Told) → IsAllowed s e c u → IsAllowed t e c u
  IsAllowed-wider e c (term table v) h = h
  IsAllowed-wider e c (declared sort n v) h = (h.0, NamesDeclaration-wider e c sort n v h.1)
  IsAllowed-wider e c (truth b) h = h
  IsAllowed-wider e c (info flags outer) h = h
  IsAllowed-wider e c (refused r) h = MayRefuse-wider e c r h
  IsAllowed-wider e c bad h = h

  pub Means-wider : (e : List Told) (cs : List Call) (ts : List Told) → Means s e cs ts → Means t e cs ts
  Means-wider e [] [] h = tt
  Means-wider e [] (u ∷ ts) h = absurd h
  Means-wider e (c ∷ cs) [] h = absurd h
  Means-wider e (c ∷ cs) (u ∷ ts) h = (IsAllowed-wider e c u h.0, Means-wider (e ++ u ∷ []) cs ts h.1)
