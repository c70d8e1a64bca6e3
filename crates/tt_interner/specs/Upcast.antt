-- Values as clauses, and which of them an interner can store.
use Rattle.std.specs.Prelude.{◌≡◌, List}
use Rattle.tt_kinds.specs.Handle.{handle}
use Rattle.tt_kinds.specs.Kinds.{binder_shape}
use Rattle.tt_kinds.specs.Reading.{outer_binder}
use Rattle.tt_kinds.specs.Values.{clause_record_shape}
use Rattle.tt_kinds.specs.declared.binder.Binder.{Binder}
use Rattle.tt_kinds.specs.declared.predicate_kind.ClauseKind.{ClauseKind}
use Rattle.tt_interner.specs.Owned.{IsPartBy, tree_by}
use Rattle.tt_interner.specs.Rows.{Row}

-- the clause under a binder of no variables
abbrev pub unbound_clause : ClauseKind → Binder ClauseKind
unbound_clause k = record { value = k; bound_vars = handle 0 }

-- the clause that the value is, under the same binder
abbrev pub clause_under : {T : Type 0} → (T → ClauseKind) → Binder T → Binder ClauseKind
clause_under kind b = record { value = kind b.value; bound_vars = b.bound_vars }

-- the handles and names of the clause are of the interner, and no variable escapes it that a binder would capture
pub record IsClosedClause (rows : List Row) (k : ClauseKind) : Type 0 where
  pub parts : IsPartBy clause_record_shape rows k
  pub closed : outer_binder (tree_by clause_record_shape rows k) ≡ 0

-- the handles and names of the clause and of its binder are of the interner
abbrev pub IsOwnClause : List Row → Binder ClauseKind → Type 0
IsOwnClause rows c = IsPartBy (binder_shape clause_record_shape) rows c
