-- The lists of clauses of calls, over plain variables.
use Rattle.std.proofs.Common.{◌≡◌, ℕ, ◌<◌, length, List, [], ◌∷◌, ◌++◌, Option, Some, Result, Ok, Err, ap, ◌∙◌, inl}
use Rattle.std.proofs.Common.{inr, arith}
use Rattle.std.specs.Prelude.{IsSomeAnd, IfErr, IsTrue}
use Rattle.tt_index.specs.declared.refusal.Refusal.{Refusal}
use Rattle.tt_index.specs.declared.refusal.Refusal.TheVariants.{NoSuchAnswer}
use Rattle.tt_kinds.specs.Label.{clause_list_label}
use Rattle.tt_kinds.specs.Tree as tree
use Rattle.tt_kinds.specs.Shape.{fill, stored}
use Rattle.tt_kinds.specs.Kinds.{clause_shape, clauses_shape}
use Rattle.tt_kinds.specs.Handle.{Clause}
use Rattle.tt_kinds.specs.Handle.{Clauses}
use Rattle.tt_kinds.specs.declared.table.Table.TheVariants.{Predicates}
use Rattle.tt_interner.specs.Clauses.{is_clause_tree}
use Rattle.tt_interner.specs.Rows.{Row, clauses_row, IsClause, AreClauses}
use Rattle.tt_interner.specs.Stored.{Terms, Builds, most_in_place}
use Rattle.tt_calls.specs.CallForm.{of_table, of_clause, one, a_term, a_clause, clause_items, clauses_tree}
use Rattle.tt_calls.specs.CallForm.{items_positions, AreItemsTooDeep}
use Rattle.tt_calls.specs.Told.{Told}
use Rattle.tt_calls.specs.Means.{Term, term_at, tree_of, Suits, number_at, tree_at}
use Rattle.tt_calls.specs.Build.{AreClausesAt, IsPartOfCall, GivesPlaced, IsUnbuiltPart, no_term}
use Rattle.tt_calls.specs.Room.{ClausesNeedRoom}
use Rattle.tt_calls.proofs.PartLaws.{items-none, items-more, IsUnbuiltPart-weaker}
use Rattle.tt_calls.proofs.BuildLaws.{unstored, Builds-extends}
use Rattle.tt_calls.proofs.RoomLaws.{refused-lacks}

suits : (e : List Told) (o : Option Term) → IsSomeAnd o (Suits e (of_table Predicates)) → IsTrue (is_clause_tree (tree_of o)) → IsSomeAnd o (Suits e of_clause)
suits e (Some u) h k = (h, k)
suits e _ h k = absurd h

only_table : (e : List Told) (o : Option Term) → IsSomeAnd o (Suits e of_clause) → IsSomeAnd o (Suits e (of_table Predicates)) × IsTrue (is_clause_tree (tree_of o))
only_table e (Some u) h = (h.0, h.1)
only_table e _ h = absurd h

-- the predicate at the position is a clause
pub clause-part : (terms : Terms) (e : List Told) (p n : ℕ) → IsPartOfCall terms e (one (a_term Predicates p)) (stored Predicates n) → IsClause terms.rows n
    → IsPartOfCall terms e (one (a_clause p)) (stored Predicates n)
unfolding fill
clause-part terms e p n h k = record {
  part = h.part;
  means = h.means;
  named = (suits e (term_at e p) h.named.0 (rw (← h.means) k.clause), tt);
  shallow = h.shallow;
}

-- it is none
pub no-clause : (P : Type 0) (terms : Terms) (e : List Told) (p n : ℕ) (r : Refusal) → IsPartOfCall terms e (one (a_term Predicates p)) (stored Predicates n) → (IsClause terms.rows n → ⊥)
    → r ≡ NoSuchAnswer → IsUnbuiltPart P e (record { want = of_clause; position = p } ∷ []) ⊥ r
unfolding fill
no-clause P terms e p n r h k i =
    no_term (λ a. k (record { within = h.part; clause = rw (h.means) (only_table e (term_at e p) a.0).1 })) i

-- no predicate is there
pub no-predicate : (P : Type 0) (e : List Told) (p : ℕ) (r : Refusal) → IsUnbuiltPart P e (record { want = of_table Predicates; position = p } ∷ []) ⊥ r
    → IsUnbuiltPart P e (record { want = of_clause; position = p } ∷ []) ⊥ r
no-predicate P e p r h = IsUnbuiltPart-weaker P e e _ _ ⊥ ⊥ r (λ a. ((only_table e (term_at e p) a.0).0, tt)) (λ d. d) h

-- the clauses at no positions are an empty list
pub clauses-none : (terms : Terms) (e : List Told) → AreClausesAt terms e [] []
clauses-none terms e = record { items = items-none a_clause clause_shape terms e; clauses = tt }

clauses-append : (rows : List Row) (cs : List Clause) (c : Clause) → AreClauses rows cs → IsClause rows c.number → AreClauses rows (cs ++ c ∷ [])
clauses-append rows [] c h k = (k, tt)
clauses-append rows (d ∷ cs) c h k = (h.0, clauses-append rows cs c h.1 k)

-- the clauses at some positions, and the clause at one more, are the clauses at all of these positions
pub clauses-more : (terms : Terms) (e : List Told) (ps : List ℕ) (cs : List Clause) (p : ℕ) (c : Clause) → AreClausesAt terms e ps cs
    → IsPartOfCall terms e (one (a_clause p)) (clause_shape c) → IsClause terms.rows c.number → AreClausesAt terms e (ps ++ p ∷ []) (cs ++ c ∷ [])
clauses-more terms e ps cs p c h k i = record {
  items = items-more a_clause clause_shape terms e ps cs p c h.items k;
  clauses = clauses-append terms.rows cs c h.clauses i;
}

-- the stored list of clauses
pub clauses-placed : (old new : Terms) (e : List Told) (ps : List ℕ) (cs : List Clause) (result : Result Clauses Refusal)
    → AreClausesAt old e ps cs → Builds result (λ l. l.number) old new (clauses_row cs)
    → GivesPlaced new e (clauses_tree (number_at e) (tree_at e) ps) (items_positions (clause_items ps)) (AreItemsTooDeep (clause_items ps)) clauses_shape result
unfolding fill
clauses-placed old new e ps cs (Ok l) h b = record {
  ok = record {
    part = b.in_range;
    means = b.means ∙ ap (λ ts. tree.term clause_list_label ts) h.items.means;
    named = h.items.named;
    shallow = h.items.shallow;
  };
  err = tt;
}
clauses-placed old new e ps cs (Err r) h b = record {
  ok = tt;
  err = unstored old new (Builds-extends (Err r) (λ l. l.number) old new (clauses_row cs) b) (clauses_row cs) e (items_positions (clause_items ps)) (AreItemsTooDeep (clause_items ps))
      (λ d. absurd d) r b.cause;
}

-- a list of clauses that is refused is new
pub clauses-room : (old new : Terms) (e : List Told) (ps : List ℕ) (cs : List Clause) (result : Result Clauses Refusal)
    → AreClausesAt old e ps cs → Builds result (λ l. l.number) old new (clauses_row cs) → IfErr result (ClausesNeedRoom new.rows e ps)
unfolding fill
clauses-room old new e ps cs (Ok l) h b = tt
clauses-room old new e ps cs (Err r) h b = λ room short.
    refused-lacks (λ (l : Clauses). l.number) old new (clauses_row cs) (clauses_tree (number_at e) (tree_at e) ps) r (tt, h.items.parts) (ap (λ ts. tree.term clause_list_label ts) h.items.means) b

-- a long list may be refused though it is there
pub long-clauses-room : (rows : List Row) (e : List Told) (ps : List ℕ) (result : Result Clauses Refusal) → most_in_place < length ps → IfErr result (ClausesNeedRoom rows e ps)
long-clauses-room rows e ps (Ok l) long = tt
long-clauses-room rows e ps (Err r) long = λ room short. absurd (omega (arith, long, short))

-- no clause is deep
pub clauses-shallow : (ps : List ℕ) → AreItemsTooDeep (clause_items ps) → ⊥
clauses-shallow [] d = d
clauses-shallow (p ∷ ps) d = elim d [ inl x ↦ x | inr x ↦ clauses-shallow ps x ]
