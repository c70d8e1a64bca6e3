-- Clauses, and lists of them.
use Rattle.std.proofs.Common.{◌≡◌, ℕ, ◌<◌, Bool, true, false, ⊎_elim, inl, inr, List, [], ◌∷◌, get_or, drop, length}
use Rattle.std.proofs.Common.{◌+◌, ◌≤◌, arith, refl, sym, ap, subst, ◌∙◌}
use Rattle.std.specs.Prelude.{map, not}
use Rattle.std.proofs.lemmas.Bool.{false≢true}
use Rattle.std.proofs.lemmas.Option.{none-some, same_Some, slice_get_within}
use Rattle.std.proofs.Math.Numerals.{add-one}
use Rattle.std.proofs.Math.Seq.{drop-cons}
use Rattle.std.proofs.Math.ListN.{drop_of_length-le}
use Rattle.tt_kinds.specs.declared.binder.Binder.{Binder}
use Rattle.tt_kinds.specs.Handle.{Clause}
use Rattle.tt_kinds.specs.declared.predicate_kind.ClauseKind.{ClauseKind}
use Rattle.tt_kinds.specs.declared.predicate_kind.ClauseKind.TheVariants as clause
use Rattle.tt_kinds.specs.declared.predicate_kind.PredicateKind.{PredicateKind}
use Rattle.tt_kinds.specs.declared.predicate_kind.PredicateKind.TheVariants as predicate
use Rattle.tt_kinds.specs.declared.table.Table.TheVariants.{Predicates, ClauseLists}
use Rattle.tt_kinds.specs.Label.{Name, is_clause_record}
use Rattle.tt_kinds.specs.Predicate.{is_clause_kind}
use Rattle.tt_kinds.specs.Shape.{item_shapes, name_of, rename_record, fill, fill_all, AreParts}
use Rattle.tt_kinds.specs.Kinds.{clause_shape, children_shapes, clause_form, predicate_form}
use Rattle.tt_interner.specs.Rows.{Row, predicate_row, clauses_row, table, size, meaning, AreRows, IsClause, AreClauses}
use Rattle.tt_interner.specs.Rows.{IsWellFormed}
use Rattle.tt_interner.specs.Clauses.{is_clause_tree, HasOther}
use Rattle.tt_kinds.specs.Parts.{child_in}
use Rattle.tt_kinds.specs.declared.table.TermTable.TheVariants as terms_of
use Rattle.tt_interner.specs.Stored.{IsAt}
use Rattle.tt_interner.proofs.RowLaws.{place_cases, row-old, size-more, meaning-old}
use Rattle.tt_interner.proofs.Trees.{Means-row, row_at_newest}

-- clauses are in range
pub clauses_in_range : (rows : List Row) (cs : List Clause) → AreClauses rows cs → AreParts (size rows) (item_shapes clause_shape cs)
clauses_in_range rows [] h = tt
clauses_in_range rows (c ∷ cs) h = (h.0.within, clauses_in_range rows cs h.1)

-- none of them is another predicate
pub no_other : (rows : List Row) (cs : List Clause) → AreClauses rows cs → HasOther (fill_all (meaning rows) (children_shapes (map (child_in terms_of.Predicates) cs))) → ⊥
unfolding fill
no_other rows [] h o = o
no_other rows (c ∷ cs) h o = ⊎_elim (λ bad. false≢true (sym (ap not h.0.clause) ∙ bad)) (no_other rows cs h.1) o

-- where not all are clauses, one is another predicate
pub other_there : (rows : List Row) (cs : List Clause) → AreParts (size rows) (item_shapes clause_shape cs) → (AreClauses rows cs → ⊥) → HasOther (fill_all (meaning rows) (children_shapes (map (child_in terms_of.Predicates) cs)))
unfolding fill
other_there rows [] p not_all = absurd (not_all tt)
other_there rows (c ∷ cs) p not_all = by (is_clause_tree (meaning rows Predicates c.number)) refl (other_there rows cs p.1)
  where
    by : (b : Bool) → is_clause_tree (meaning rows Predicates c.number) ≡ b → ((AreClauses rows cs → ⊥) → HasOther (fill_all (meaning rows) (children_shapes (map (child_in terms_of.Predicates) cs))))
        → HasOther (fill_all (meaning rows) (children_shapes (map (child_in terms_of.Predicates) (c ∷ cs))))
    by false e rest = inl (ap not e)
    by true e rest = inr (rest (λ h. not_all (record { within = p.0; clause = e }, h)))

-- clauses stay clauses where a row comes
AreClauses-more : (r : Row) (rows : List Row) (cs : List Clause) → AreClauses rows cs → AreClauses (r ∷ rows) cs
AreClauses-more r rows [] h = tt
AreClauses-more r rows (c ∷ cs) h =
    let within = h.0.within in
    let more = size-more r rows Predicates in
    (record { within = omega arith; clause = rw (meaning-old r rows Predicates c.number within) h.0.clause }, AreClauses-more r rows cs h.1)

-- a stored list of clauses holds clauses alone
pub clauses_stored : (rows : List Row) → AreRows rows → (cs : List Clause) (n : ℕ) → IsAt rows (clauses_row cs) n → AreClauses rows cs
unfolding table AreRows
clauses_stored [] are cs n at = absurd (none-some (clauses_row cs) at)
clauses_stored (r ∷ rows) are cs n at = AreClauses-more r rows cs (⊎_elim
    (λ old. clauses_stored rows are.4 cs n (sym (row-old r rows ClauseLists n old) ∙ at))
    (λ newest. subst (IsWellFormed rows) (same_Some r (clauses_row cs) (sym (row_at_newest r rows ClauseLists n newest) ∙ at)) are.3)
    (place_cases r rows ClauseLists n (slice_get_within (table ClauseLists (r ∷ rows)) n (clauses_row cs) at)))

clause_label : (name : ℕ → Name) (k : ClauseKind) → is_clause_record (rename_record name (clause_form k).label) ≡ true
clause_label name (clause.Trait p) = refl
clause_label name (clause.RegionOutlives p) = refl
clause_label name (clause.TypeOutlives p) = refl
clause_label name (clause.Projection p) = refl
clause_label name (clause.ConstArgHasType c t) = refl
clause_label name (clause.WellFormed t) = refl
clause_label name (clause.ConstEvaluatable c) = refl
clause_label name (clause.HostEffect p) = refl
clause_label name (clause.UnstableFeature s) = refl

predicate_label_clause : (name : ℕ → Name) (k : PredicateKind) → is_clause_record (rename_record name (predicate_form k).label) ≡ is_clause_kind k
predicate_label_clause name (predicate.Clause c) = clause_label name c
predicate_label_clause name (predicate.DynCompatible d) = refl
predicate_label_clause name (predicate.Subtype p) = refl
predicate_label_clause name (predicate.Coerce p) = refl
predicate_label_clause name (predicate.ConstEquate a b) = refl
predicate_label_clause name predicate.Ambiguous = refl
predicate_label_clause name (predicate.NormalizesTo p) = refl
predicate_label_clause name (predicate.AliasRelate a b r) = refl

-- a predicate's tree says whether it is a clause
pub clause_at : (rows : List Row) → AreRows rows → (b : Binder PredicateKind) (n : ℕ) → IsAt rows (predicate_row b) n → is_clause_tree (meaning rows Predicates n) ≡ is_clause_kind b.value
unfolding fill
clause_at rows are b n at =
    ap is_clause_tree (Means-row rows are Predicates n (predicate_row b) at).tree ∙ predicate_label_clause (name_of (meaning rows)) b.value

-- a predicate that is no clause isn't told as one
pub no-clause : (k : PredicateKind) → ((c : ClauseKind) → k ≡ predicate.Clause c → ⊥) → is_clause_kind k ≡ true → ⊥
no-clause (predicate.Clause c) other is = other c refl
no-clause (predicate.DynCompatible t) other is = false≢true is
no-clause (predicate.Subtype p) other is = false≢true is
no-clause (predicate.Coerce p) other is = false≢true is
no-clause (predicate.ConstEquate a b) other is = false≢true is
no-clause predicate.Ambiguous other is = false≢true is
no-clause (predicate.NormalizesTo p) other is = false≢true is
no-clause (predicate.AliasRelate a b r) other is = false≢true is

-- a loop over clauses: the rest decides
pub clauses_step : (rows : List Row) (cs : List Clause) (i : ℕ) (d : Clause) → i < length cs → AreClauses rows (drop i cs) → IsClause rows (get_or cs i d).number × AreClauses rows (drop (i + 1) cs)
clauses_step rows cs i d h all = rw add-one (subst (AreClauses rows) (drop-cons cs i d h) all)

-- the items from a place on are clauses, if the item there is one and the items after it are
pub clauses_unstep : (rows : List Row) (cs : List Clause) (i : ℕ) (d : Clause) → i < length cs → IsClause rows (get_or cs i d).number → AreClauses rows (drop (i + 1) cs) → AreClauses rows (drop i cs)
clauses_unstep rows cs i d h first rest = subst (AreClauses rows) (sym (drop-cons cs i d h)) (first, (rw add-one at rest))

-- past the end of a list, no item is left that isn't a clause
pub clauses_past : (rows : List Row) (cs : List Clause) (i : ℕ) → length cs ≤ i → AreClauses rows (drop i cs)
clauses_past rows cs i h = rw (drop_of_length-le cs {i = i} h) tt
