-- The steps of a building call, over plain variables.
use Rattle.std.proofs.Common.{◌≡◌, ℕ, ◌<◌, List, [], ◌∷◌, Result, Ok, Err, refl, ap, sym, ◌∙◌, subst, arith, inl, inr}
use Rattle.std.specs.Prelude.{IsErrAnd, ◌⊎◌}
use Rattle.tt_index.specs.declared.refusal.Refusal.{Refusal}
use Rattle.tt_index.specs.declared.refusal.Refusal.TheVariants.{Memory, TableFull, GreatestIndex, NoArguments}
use Rattle.tt_index.specs.declared.refusal.Refusal.TheVariants.{ArgOutOfRange, ArgKind, RegionVariable, NotAClause}
use Rattle.tt_index.specs.declared.refusal.Refusal.TheVariants.{NoSuchAnswer}
use Rattle.std.proofs.lemmas.Bool.{cases_lt}
use Rattle.tt_index.specs.Greatest.{greatest}
use Rattle.tt_kinds.specs.Label.{Name, region_sort, list_label}
use Rattle.tt_kinds.specs.Tree as tree
use Rattle.tt_kinds.specs.Tree.{Tree, Forest, Depth, node}
use Rattle.tt_kinds.specs.Bound.{depth, IsBelowGreatest}
use Rattle.tt_kinds.specs.RegionKind.{IsShallow}
use Rattle.tt_kinds.specs.Shape as shape
use Rattle.tt_kinds.specs.Shape.{Shape, Shapes, stored, fill, name_of, IsPart, IsTooDeep, IsGreatest}
use Rattle.tt_kinds.specs.Kinds.{text_row_shape, region_shape}
use Rattle.tt_kinds.specs.declared.bound.BoundVarIndexKind.{BoundVarIndexKind}
use Rattle.tt_kinds.specs.declared.bound.BoundVarIndexKind.TheVariants as index
use Rattle.tt_kinds.specs.declared.bound.BoundRegion.{BoundRegion}
use Rattle.tt_kinds.specs.declared.region_kind.RegionKind.TheVariants.{ReBound}
use Rattle.tt_kinds.specs.declared.region_kind.RegionKind.{RegionKind}
use Rattle.tt_kinds.specs.declared.table.Table.{Table}
use Rattle.tt_kinds.specs.declared.table.Table.TheVariants.{Types, Consts, Patterns, Predicates, ClauseLists, ArgLists}
use Rattle.tt_kinds.specs.declared.table.Table.TheVariants.{Symbols, Declarations}
use Rattle.tt_interner.specs.Rows.{Row, row_table, row_shape, size, meaning, AreRows}
use Rattle.tt_interner.proofs.Growth.{size-grows}
use Rattle.tt_interner.specs.Stored.{Terms, Extends, Builds, IsCause}
use Rattle.tt_calls.specs.declared.answer.Answer.{Answer}
use Rattle.tt_calls.specs.declared.answer.Answer.TheVariants as answer
use Rattle.tt_calls.specs.declared.call.RegionNameCall.{RegionNameCall}
use Rattle.tt_calls.specs.declared.call.Call.{Call}
use Rattle.tt_calls.specs.CallForm as call_forms
use Rattle.tt_calls.specs.CallForm.{CallForm, Named, Item, a_list, items_positions, AreItemsTooDeep, form_positions}
use Rattle.tt_calls.specs.Told.{Told, term, refused, told, told_all, AreOwnedAnswers, HasFullTable, IsStored, Setting}
use Rattle.tt_calls.specs.Told.{setting}
use Rattle.tt_calls.specs.Means as means
use Rattle.tt_calls.specs.Means.{number_at, tree_at, AreTerms, NamesTerms, BuildsOrFolds, IsTold, IsKnown, IsThere}
use Rattle.tt_calls.specs.Means.{AddsNothing, IsAllowed, MayRefuse, want_of_memory, full_table, no_term, too_deep}
use Rattle.tt_calls.specs.Build as build
use Rattle.tt_calls.specs.Build.{IsUnbuiltPart, no_memory, no_row, no_index, IsNameOf, GivesRegion, ArePlaced}
use Rattle.tt_calls.specs.Build.{AreItemsOf}
use Rattle.tt_calls.specs.Build.{GivesPart, GivesPlaced, IsKindOf, MayAnswerCall}
use Rattle.tt_calls.specs.Room.{IsRefusalForRoom, HasValue, NeedsRoom, FormNeedsRoom}
use Rattle.tt_calls.proofs.ValueLaws.{new-lacks}
use Rattle.tt_calls.proofs.RoomLaws.{stored-value}
use Rattle.tt_calls.proofs.ToldLaws.{HasFullTable-extends, IsStored-grows, IsAllowed-wider}

-- why a row was not stored is such a reason
pub unstored : (old new : Terms) → Extends old new → (row : Row) (e : List Told) (ps : List Named) (deep : Type 0) → (IsTooDeep (row_shape row) → deep)
    → (r : Refusal) → IsCause old row r → IsUnbuiltPart (HasFullTable new) e ps deep r
unstored old new x row e ps deep d Memory h = build.no_memory refl
unstored old new x row e ps deep d TableFull h =
    build.no_row (HasFullTable-extends old new x (record { table = row_table row; full = h.1 })) refl
unstored old new x row e ps deep d GreatestIndex h = build.no_index (d h) refl
unstored old new x row e ps deep d NoArguments h = absurd h
unstored old new x row e ps deep d (ArgOutOfRange i) h = absurd h
unstored old new x row e ps deep d (ArgKind i) h = absurd h
unstored old new x row e ps deep d (RegionVariable v) h = absurd h
unstored old new x row e ps deep d NotAClause h = absurd h
unstored old new x row e ps deep d NoSuchAnswer h = absurd h

-- what a call adds extends the terms
pub Builds-extends : {H : Type 0} (result : Result H Refusal) (number : H → ℕ) (old new : Terms) (row : Row)
    → Builds result number old new row → Extends old new
Builds-extends result number old new row b = record { rows = b.grows; limit = b.limit }

-- the stored list of items
pub list-built : {H : Type 0} (number : H → ℕ) (old new : Terms) (e : List Told) (t : Table) (is : List Item) (ss : Shapes) (row : Row) (result : Result H Refusal)
    → AreItemsOf old e is ss → row_table row ≡ t → row_shape row ≡ shape.node (list_label t) ss → Builds result number old new row
    → GivesPart new e (a_list t is) (λ h. stored t (number h)) result
unfolding fill
list-built number old new e t is ss row (Ok l) h same is_node b = record {
  ok = record {
    part = rw (← same) b.in_range;
    means = rw (← same) b.means ∙ ap (λ s. fill (meaning old.rows) s) is_node ∙ ap (λ ts. node (list_label t) ts) h.means;
    named = h.named;
    shallow = h.shallow;
  };
  err = tt;
}
list-built number old new e t is ss row (Err r) h same is_node b = record {
  ok = tt;
  err = unstored old new (Builds-extends (Err r) number old new row b) row e (items_positions is) (AreItemsTooDeep is)
      (λ d. absurd (subst (λ (s : Shape). IsTooDeep s) is_node d)) r b.cause;
}

-- the stored list of values with these trees
pub list-placed : {H : Type 0} (number : H → ℕ) (old new : Terms) (e : List Told) (t : Table) (ts : Forest Depth) (ns : List Named) (deep : Type 0) (ss : Shapes) (row : Row) (result : Result H Refusal)
    → ArePlaced old e ts ns deep ss → row_table row ≡ t → row_shape row ≡ shape.node (list_label t) ss → Builds result number old new row
    → GivesPlaced new e (node (list_label t) ts) ns deep (λ h. stored t (number h)) result
unfolding fill
list-placed number old new e t ts ns deep ss row (Ok l) h same is_node b = record {
  ok = record {
    part = rw (← same) b.in_range;
    means = rw (← same) b.means ∙ ap (λ s. fill (meaning old.rows) s) is_node ∙ ap (λ us. node (list_label t) us) h.means;
    named = h.named;
    shallow = h.shallow;
  };
  err = tt;
}
list-placed number old new e t ts ns deep ss row (Err r) h same is_node b = record {
  ok = tt;
  err = unstored old new (Builds-extends (Err r) number old new row b) row e ns deep
      (λ d. absurd (subst (λ (s : Shape). IsTooDeep s) is_node d)) r b.cause;
}

-- the stored term of a kind
pub term-placed : {H : Type 0} (number : H → ℕ) (old new : Terms) (e : List Told) (form : CallForm) (row : Row) (result : Result H Refusal)
    → IsKindOf old e form (row_shape row) → Builds result number old new row
    → GivesPlaced new e (call_forms.form_tree (number_at e) (tree_at e) form) (form_positions form) (call_forms.IsFormTooDeep form) (λ h. stored (row_table row) (number h)) result
unfolding fill
term-placed number old new e form row (Ok l) h b = record {
  ok = record {
    part = b.in_range;
    means = b.means ∙ h.means;
    named = h.named;
    shallow = λ d. let y = b.deep (h.deep.1 d) in absurd (cc);
  };
  err = tt;
}
term-placed number old new e form row (Err r) h b = record {
  ok = tt;
  err = unstored old new (Builds-extends (Err r) number old new row b) row e (form_positions form) (call_forms.IsFormTooDeep form) h.deep.0 r b.cause;
}

-- the term at the number has the tree
stored-as : (rows : List Row) (table t : Table) (n : ℕ) (u : Tree Depth) → n < size rows table → (table ≡ t) × (meaning rows table n ≡ u) → IsStored rows t u
stored-as rows table t n u within h = subst (λ (x : Table). IsStored rows x u) h.0 (record { number = n; within = within; means = h.1 })

-- a reason why a part was not built is one why the call is refused
pub unbuilt-refused : (s : Setting) (e : List Told) (c : Call) (ns : List Named) (deep : Type 0) (r : Refusal)
    → BuildsOrFolds c → (AddsNothing s e c → IsRefusalForRoom r → ⊥) → (NamesTerms e c → AreTerms e ns) → (deep → means.IsCallTooDeep e c)
    → IsUnbuiltPart s.full e ns deep r → MayRefuse s e c r
unbuilt-refused s e c ns deep r b g n d (build.no_memory i) = want_of_memory (b, λ a. g a (subst IsRefusalForRoom (sym i) tt)) i
unbuilt-refused s e c ns deep r b g n d (build.no_row p i) = full_table (b, λ a. g a (subst IsRefusalForRoom (sym i) tt)) p i
unbuilt-refused s e c ns deep r b g n d (build.no_term h i) = no_term (λ a. h (n a)) i
unbuilt-refused s e c ns deep r b g n d (build.no_index h i) = too_deep (d h) i

-- a term that was told is stored
told-stored : (rows : List Row) (answers : List Answer) (t : Table) (u : Tree Depth) → AreOwnedAnswers rows answers → IsTold (told_all rows answers) t u → IsStored rows t u
told-stored rows [] t u o h = absurd h
told-stored rows (answer.Ty x ∷ answers) t u o h = elim h [ inl k ↦ stored-as rows Types t x.number u o.0 k | inr k ↦ told-stored rows answers t u o.1 k ]
told-stored rows (answer.Const x ∷ answers) t u o h = elim h [ inl k ↦ stored-as rows Consts t x.number u o.0 k | inr k ↦ told-stored rows answers t u o.1 k ]
told-stored rows (answer.Pat x ∷ answers) t u o h = elim h [ inl k ↦ stored-as rows Patterns t x.number u o.0 k | inr k ↦ told-stored rows answers t u o.1 k ]
told-stored rows (answer.Predicate x ∷ answers) t u o h = elim h [ inl k ↦ stored-as rows Predicates t x.number u o.0 k | inr k ↦ told-stored rows answers t u o.1 k ]
told-stored rows (answer.Clauses x ∷ answers) t u o h = elim h [ inl k ↦ stored-as rows ClauseLists t x.number u o.0 k | inr k ↦ told-stored rows answers t u o.1 k ]
told-stored rows (answer.Args x ∷ answers) t u o h = elim h [ inl k ↦ stored-as rows ArgLists t x.number u o.0 k | inr k ↦ told-stored rows answers t u o.1 k ]
told-stored rows (answer.Id x d ∷ answers) t u o h = told-stored rows answers t u o.1 h
told-stored rows (answer.Truth x ∷ answers) t u o h = told-stored rows answers t u o.1 h
told-stored rows (answer.Info x y ∷ answers) t u o h = told-stored rows answers t u o.1 h
told-stored rows (answer.Refused x ∷ answers) t u o h = told-stored rows answers t u o.1 h
told-stored rows (answer.Bad ∷ answers) t u o h = told-stored rows answers t u o.1 h

-- what is there is stored
known-stored : (start old new : Terms) → Extends start old → (answers : List Answer) → AreOwnedAnswers start.rows answers → (t : Table) (u : Tree Depth)
    → IsKnown (setting start new) (told_all start.rows answers) t u → IsStored old.rows t u
known-stored start old new x answers o t u h = IsStored-grows start.rows old.rows x.rows t u (elim h [ inl k ↦ k | inr k ↦ told-stored start.rows answers t u o k ])

-- what is there isn't refused for want of room
pub known-refused : (start old new : Terms) → Extends start old → (answers : List Answer) → AreOwnedAnswers start.rows answers → AreRows old.rows → (t : Table) (short : Type 0) (u : Tree Depth) (r : Refusal)
    → NeedsRoom old.rows short u r → short × IsKnown (setting start new) (told_all start.rows answers) t u → IsRefusalForRoom r → ⊥
known-refused start old new x answers o are t short u r needs known room =
    needs room known.0 are (stored-value old.rows t u (known-stored start old new x answers o t u known.1))

-- a call isn't refused for want of room if its term has no long list and is there already
pub there-refused : (start old new : Terms) → Extends start old → (answers : List Answer) → AreOwnedAnswers start.rows answers → AreRows old.rows → (t : Table) (f : CallForm) (r : Refusal)
    → FormNeedsRoom old.rows (told_all start.rows answers) f r → IsThere (setting start new) (told_all start.rows answers) t f → IsRefusalForRoom r → ⊥
there-refused start old new x answers o are t f r needs there room =
    let e = told_all start.rows answers in
    known-refused start old new x answers o are t (call_forms.IsOfShortLists f) (call_forms.form_tree (number_at e) (tree_at e) f) r needs there room

-- the term of the kind that the call names is its answer
module _ (start old new : Terms) (e : List Told) (c : Call) (form : CallForm) (row : Row) (h : IsKindOf old e form (row_shape row)) where
  -- if the kind that a call names is built, the call may have the term as its answer
  pub kind-allowed : {H : Type 0} (number : H → ℕ) (x : H) (a : Answer) → Builds (Ok x) number old new row
      → told new.rows a ≡ term (row_table row) (meaning new.rows (row_table row) (number x))
      → (AreTerms e (form_positions form) → (call_forms.IsFormTooDeep form → ⊥) → IsAllowed (setting start new) e c (term (row_table row) (call_forms.form_tree (number_at e) (tree_at e) form)))
      → IsAllowed (setting start new) e c (told new.rows a)
  kind-allowed number x a b t allowed =
      rw (t, b.means, h.means) (allowed h.named (λ d. let y = b.deep (h.deep.1 d) in absurd (cc)))

  -- if the kind that a call names isn't built, the call may be refused as the building was
  pub kind-refused : {H : Type 0} (number : H → ℕ) (r : Refusal) → Builds {H = H} (Err r) number old new row
      → BuildsOrFolds c → (AddsNothing (setting start new) e c → ⊥)
      → (NamesTerms e c → AreTerms e (form_positions form)) → (call_forms.IsFormTooDeep form → means.IsCallTooDeep e c)
      → MayRefuse (setting start new) e c r
  kind-refused number r b builds g n d =
      unbuilt-refused (setting start new) e c (form_positions form) (call_forms.IsFormTooDeep form) r builds (λ a. absurd (g a)) n d
      (unstored old new (Builds-extends (Err r) number old new row b) row e (form_positions form) (call_forms.IsFormTooDeep form) h.deep.0 r b.cause)

-- what is there isn't refused
pub there-built : {H : Type 0} (number : H → ℕ) (start old new : Terms) (answers : List Answer) (form : CallForm) (row : Row) (r : Refusal)
    → IsKindOf old (told_all start.rows answers) form (row_shape row) → Builds {H = H} (Err r) number old new row → AreRows old.rows → Extends start old → AreOwnedAnswers start.rows answers
    → IsThere (setting start new) (told_all start.rows answers) (row_table row) form → ⊥
there-built number start old new answers form row r h b are x o there =
    let e = told_all start.rows answers in
    let s = known-stored start old new x answers o (row_table row) (call_forms.form_tree (number_at e) (tree_at e) form) there.1 in
    new-lacks old.rows are row h.parts b.absent (subst (λ (t : Tree Depth). HasValue old.rows t) (sym h.means) (stored-value old.rows (row_table row) _ s))

-- what an answer is from later terms it is from earlier ones
pub MayAnswerCall-earlier : (start old new : Terms) (e : List Told) (c : Call) (result : Result Answer Refusal) → Extends start old → MayAnswerCall old new e c result → MayAnswerCall start new e c result
MayAnswerCall-earlier start old new e c (Ok a) x h = record {
  owned = h.owned;
  ok = IsAllowed-wider (setting old new) (setting start new) (λ f. f) (size-grows start.rows old.rows x.rows Declarations) (IsStored-grows start.rows old.rows x.rows) e c (told new.rows a) h.ok;
  err = tt;
}
MayAnswerCall-earlier start old new e c (Err r) x h = record {
  owned = tt;
  ok = tt;
  err = IsAllowed-wider (setting old new) (setting start new) (λ f. f) (size-grows start.rows old.rows x.rows Declarations) (IsStored-grows start.rows old.rows x.rows) e c (refused r) h.err;
}

-- what a question mark passes on
pub region-passed : (terms : Terms) (t : Tree Depth) (deep : Type 0) (result : Result RegionKind Refusal) (r : Refusal) → IsErrAnd result (λ x. x ≡ r)
    → IsUnbuiltPart (HasFullTable terms) [] [] deep r → GivesRegion terms t deep result
region-passed terms t deep (Ok k) r h u = absurd h
region-passed terms t deep (Err x) r h u = record { ok = tt; err = rw h u }

-- an error that is passed on may be the answer of the call, if the call may be refused with it
pub answer-passed : (start terms : Terms) (e : List Told) (c : Call) (result : Result Answer Refusal) (r : Refusal) → IsErrAnd result (λ x. x ≡ r)
    → MayRefuse (setting start terms) e c r → MayAnswerCall start terms e c result
answer-passed start terms e c (Ok k) r h u = absurd h
answer-passed start terms e c (Err x) r h u = record { owned = tt; ok = tt; err = rw h u }

-- a region's index is below the greatest, or it isn't
pub IsBelowGreatest-or-not : (i : BoundVarIndexKind) → IsBelowGreatest (depth i) ⊎ IsGreatest (depth i)
IsBelowGreatest-or-not (index.Bound d) = cases_lt d greatest
IsBelowGreatest-or-not index.Canonical = inl tt

-- a region that is shallow
pub region-shallow : (terms : Terms) (k : RegionKind) (t : Tree Depth) (deep : Type 0) (result : Result RegionKind Refusal)
    → (IsShallow k → result ≡ Ok k) → IsShallow k → (deep → ⊥) → IsPart (size terms.rows) (region_shape k)
    → fill (meaning terms.rows) (region_shape k) ≡ t → GivesRegion terms t deep result
region-shallow terms k t deep result ok s n p m =
    rw (ok s) (record { ok = record { part = p; means = m; shallow = n }; err = tt })

-- no index is both below the greatest and the greatest
pub not_both : (i : BoundVarIndexKind) → IsBelowGreatest (depth i) → IsGreatest (depth i) → ⊥
not_both (index.Bound d) s g = omega arith
not_both index.Canonical s g = g

-- a bound region
pub region-bound : (terms : Terms) (ids : ℕ → ℕ) (i : BoundVarIndexKind) (b : BoundRegion) (name : RegionNameCall) (result : Result RegionKind Refusal)
    → IsNameOf terms ids name b.kind
    → (IsBelowGreatest (depth i) → result ≡ Ok (ReBound i b)) → ((IsBelowGreatest (depth i) → ⊥) → result ≡ Err GreatestIndex)
    → GivesRegion terms (tree.bound region_sort (depth i) (call_forms.region_call_entry ids b.var name)) (IsGreatest (depth i)) result
unfolding fill
region-bound terms ids i b name result n ok deep = elim (IsBelowGreatest-or-not i) [
  | inl s ↦
      rw (ok s) (record {
        ok = record {
          part = (refl, n.part);
          means = rw (n.means) refl;
          shallow = not_both i s;
        };
        err = tt;
      })
  | inr g ↦ rw (deep (λ s. not_both i s g)) (record { ok = tt; err = build.no_index g refl })
]

-- the name of a symbol that was stored
pub symbol-named : (old new : Terms) (bytes : Name) (n : ℕ) → meaning new.rows Symbols n ≡ fill (meaning old.rows) (text_row_shape bytes)
    → name_of (meaning new.rows) n ≡ bytes
unfolding fill
symbol-named old new bytes n h = rw h refl
