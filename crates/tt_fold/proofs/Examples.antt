-- Walks of a small term, and what the definitions say of them.
use Rattle.std.proofs.Common.{inl, ◌≡◌, ◌∙◌, ℕ, suc, [], refl, ap}
use Rattle.tt_index.specs.declared.refusal.Refusal.{Refusal}
use Rattle.tt_index.specs.declared.refusal.Refusal.TheVariants.{NotAClause}
use Rattle.tt_kinds.specs.Label.{Name, RecordLabel, region_outlives_record, ambiguous_record, predicate_label}
use Rattle.tt_kinds.specs.Label.{clause_list_label, record_label}
use Rattle.tt_kinds.specs.Tree.{Depth, Tree, term, node, binder, none, also}
use Rattle.tt_fold.specs.Walk.{Errors, Answer, replace, descend, Hooks, Walks, at_region, replaced, kept, descended}
use Rattle.tt_fold.specs.Walk.{passed, rebuilt, next, in_term, Fails, region_failed, term_failed, descent_failed}
use Rattle.tt_fold.specs.Walk.{passed_failed, inside_failed, not_built, after_failed, in_term_failed, stopped, here}
use Rattle.tt_fold.specs.Walk.{no_clause, later}

-- a predicate without parts
abbrev predicate : RecordLabel Name → Tree Depth
predicate m = term predicate_label (also (binder [] (node (record_label m) none)) none)

-- a predicate that is none of the clauses
abbrev ambiguous : Tree Depth
ambiguous = predicate ambiguous_record

-- two clauses
abbrev two_clauses : Tree Depth
two_clauses = term clause_list_label (also (predicate region_outlives_record) (also (predicate region_outlives_record) none))

-- it answers `ambiguous` for each predicate
abbrev answer : Tree Depth → Answer
answer (term predicate_label ts) = replace ambiguous
answer _ = descend

-- it counts the predicates that it meets
abbrev count : Tree Depth → ℕ → ℕ
count (term predicate_label ts) n = suc n
count _ n = n

-- the folder that answers so, and counts so
abbrev replacing : Hooks ℕ Refusal
replacing = record {
  on_region = λ s t r s'. ⊥;
  region_fails = λ unbuilt s t e s'. ⊥;
  on_term = λ s t a s'. (a ≡ answer t) × (s' ≡ count t s);
  term_fails = λ unbuilt s t e s'. ⊥;
  after_term = λ s t u r s'. (r ≡ u) × (s' ≡ s);
  after_fails = λ unbuilt s t u e s'. ⊥;
  enter = λ s vs s'. s' ≡ s;
  enter_fails = λ unbuilt s vs e s'. ⊥;
  leave = λ s vs s'. s' ≡ s;
  leave_fails = λ unbuilt s vs e s'. ⊥;
}

-- with memory for all, and room in each table: only an item of a list of clauses can be wrong
abbrev errors : Errors Refusal
errors = record { unbuilt = λ u e. ⊥; unwanted = λ e. e ≡ NotAClause }

-- a clause becomes `ambiguous`, and is counted
one_replaced : {s s' : ℕ} {m : RecordLabel Name} {u : Tree Depth} → Walks replacing s (predicate m) u s' → (u ≡ ambiguous) × (s' ≡ suc s)
one_replaced (at_region is h) = absurd h
one_replaced (replaced {r} is h) = let same : replace r ≡ replace ambiguous = h.0 in (cc, h.1)
one_replaced (kept is h) = absurd (cc (h.0))
one_replaced (descended is h d) = absurd (cc (h.0))
one_replaced (passed is w) = absurd (cc)

-- no walk of a clause fails
none_fails : {s s' : ℕ} {m : RecordLabel Name} {e : Refusal} → Fails replacing errors s (predicate m) e s' → ⊥
none_fails (region_failed is h) = h
none_fails (term_failed is h) = h
none_fails (descent_failed is h d) = cc (h.0)
none_fails (passed_failed is d) = cc

-- a folder that replaces each predicate by one that is no clause never gets through two clauses
never_walks : {s' : ℕ} {r : Tree Depth} → Walks replacing 0 two_clauses r s' → ⊥
never_walks (at_region is h) = h
never_walks (replaced is h) = cc (h.0)
never_walks (kept is h) = cc (h.0)
never_walks (descended is h (rebuilt (in_term (next w more) fit) after)) = fit (inl (rw (one_replaced w).0 refl))
never_walks (passed is w) = cc

-- such a folder ends with `NotAClause` at the first clause, for which it was asked once
ends_at_first : {s' : ℕ} {e : Refusal} → Fails replacing errors 0 two_clauses e s' → (e ≡ NotAClause) × (s' ≡ 1)
ends_at_first (region_failed is h) = absurd h
ends_at_first (term_failed is h) = absurd h
ends_at_first (descent_failed is h (inside_failed (in_term_failed (stopped b)))) = absurd (b ambiguous)
ends_at_first (descent_failed is h (inside_failed (in_term_failed (here f)))) = absurd (none_fails f)
ends_at_first (descent_failed is h (inside_failed (in_term_failed (no_clause w bad b)))) = (b, (one_replaced w).1 ∙ ap suc h.1)
ends_at_first (descent_failed is h (inside_failed (in_term_failed (later w fit f)))) = absurd (fit (inl (rw (one_replaced w).0 refl)))
ends_at_first (descent_failed is h (inside_failed (not_built (in_term (next w more) fit) b))) = absurd (fit (inl (rw (one_replaced w).0 refl)))
ends_at_first (descent_failed is h (after_failed w f)) = absurd f
ends_at_first (passed_failed is d) = absurd (cc)
