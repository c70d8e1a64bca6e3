-- Clauses among predicates.
use Rattle.std.specs.Prelude.{Bool, true, false, Option, Some, None}
use Rattle.tt_kinds.specs.declared.predicate_kind.ClauseKind.{ClauseKind}
use Rattle.tt_kinds.specs.declared.predicate_kind.PredicateKind.{PredicateKind}
use Rattle.tt_kinds.specs.declared.predicate_kind.PredicateKind.TheVariants.{Clause as AClause}

-- the predicate may be in a list of assumptions
abbrev pub is_clause_kind : PredicateKind → Bool
is_clause_kind (AClause c) = true
is_clause_kind _ = false

-- the clause, if the predicate is a clause
abbrev pub clause_of : PredicateKind → Option ClauseKind
clause_of (AClause c) = Some c
clause_of _ = None
