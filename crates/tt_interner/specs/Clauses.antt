-- Which predicates are clauses, as their trees say.
use Rattle.std.specs.Prelude.{Bool, false, ◌⊎◌, IsTrue, not}
use Rattle.tt_kinds.specs.Label.{predicate_label, record_label, is_clause_record}
use Rattle.tt_kinds.specs.declared.binder.Binder.{Binder}
use Rattle.tt_kinds.specs.declared.predicate_kind.ClauseKind.{ClauseKind}
use Rattle.tt_kinds.specs.declared.predicate_kind.PredicateKind.{PredicateKind}
use Rattle.tt_kinds.specs.declared.predicate_kind.PredicateKind.TheVariants as predicate
use Rattle.tt_kinds.specs.Tree.{Tree, Forest, term, node, binder, none, also}

-- the kind under a predicate's binder is a clause
abbrev pub is_clause_part : {I : Type 0} → Tree I → Bool
is_clause_part (node (record_label m) ts) = is_clause_record m
is_clause_part _ = false

-- the contents of a predicate are a clause under a binder
abbrev pub is_clause_inside : {I : Type 0} → Forest I → Bool
is_clause_inside (also (binder vs t) none) = is_clause_part t
is_clause_inside _ = false

-- the tree is a predicate that is a clause
abbrev pub is_clause_tree : {I : Type 0} → Tree I → Bool
is_clause_tree (term predicate_label ts) = is_clause_inside ts
is_clause_tree _ = false

-- one of the trees is not a clause
abbrev pub HasOther : {I : Type 0} → Forest I → Type 0
HasOther none = ⊥
HasOther (also t ts) = IsTrue (not (is_clause_tree t)) ⊎ HasOther ts

-- the predicate that a clause is, under the same binder
abbrev pub clause_predicate : Binder ClauseKind → Binder PredicateKind
clause_predicate c = record { value = predicate.Clause c.value; bound_vars = c.bound_vars }
