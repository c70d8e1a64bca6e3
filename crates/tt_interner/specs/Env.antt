-- The types that an environment gives a placeholder constant.
use Rattle.std.specs.Prelude.{◌≡◌, ℕ, ◌==◌, ◌≤◌, Bool, false, ◌&&◌, Option, Some, None, List, [], ◌∷◌, ◌++◌, length}
use Rattle.std.specs.Prelude.{get_or, if◌then◌else◌, ⊤, Result, MatchResult}
use Rattle.tt_kinds.specs.Reading.{outer_binder}
use Rattle.tt_kinds.specs.Handle.{Ty}
use Rattle.tt_kinds.specs.Handle.{Const}
use Rattle.tt_kinds.specs.Handle.{Clause}
use Rattle.tt_kinds.specs.declared.bound.BoundConst.{BoundConst}
use Rattle.tt_kinds.specs.declared.placeholder.Placeholder.{Placeholder}
use Rattle.tt_kinds.specs.declared.predicate.ParamEnv.{ParamEnv}
use Rattle.tt_kinds.specs.declared.const_kind.ConstKind.TheVariants as const
use Rattle.tt_kinds.specs.declared.predicate_kind.ClauseKind.{ClauseKind}
use Rattle.tt_kinds.specs.declared.predicate_kind.ClauseKind.TheVariants as clause
use Rattle.tt_kinds.specs.declared.predicate_kind.PredicateKind.{PredicateKind}
use Rattle.tt_kinds.specs.declared.predicate_kind.PredicateKind.TheVariants as predicate
use Rattle.tt_kinds.specs.declared.table.Table.{Table}
use Rattle.tt_kinds.specs.declared.table.Table.TheVariants.{Types, Consts, Predicates, ClauseLists}
use Rattle.tt_interner.specs.declared.env.ConstTyFault.{ConstTyFault}
use Rattle.tt_interner.specs.declared.env.ConstTyFault.TheVariants as fault
use Rattle.tt_interner.specs.Rows.{Row, const_row, predicate_row, clauses_row, text_row, table, meaning}

-- the row of a handle
abbrev pub row_at : List Row → Table → ℕ → Row
row_at rows t n = get_or (table t rows) n (text_row [])

-- the two placeholder constants have the same universe and the same variable
abbrev pub is_same : Placeholder BoundConst → Placeholder BoundConst → Bool
is_same p q = (q.universe == p.universe) && (q.bound.var == p.bound.var)

-- the row is the placeholder constant p
abbrev pub is_row_of : Placeholder BoundConst → Row → Bool
is_row_of p (const_row (const.Placeholder q)) = is_same p q
is_row_of p _ = false

-- the constant and the type of a clause that gives a constant its type
abbrev pub bound_of_clause : ClauseKind → Option (Const × Ty)
bound_of_clause (clause.ConstArgHasType c t) = Some (c, t)
bound_of_clause _ = None

-- the constant and the type of a predicate that gives a constant its type
abbrev pub bound_of_predicate : PredicateKind → Option (Const × Ty)
bound_of_predicate (predicate.Clause k) = bound_of_clause k
bound_of_predicate _ = None

-- the constant and the type of a stored predicate that gives a constant its type, without the predicate's binder
abbrev pub bound_of_row : Row → Option (Const × Ty)
bound_of_row (predicate_row b) = bound_of_predicate b.value
bound_of_row _ = None

-- the constant and the type of the clause of a handle, if it gives a constant its type
abbrev pub bound_at : List Row → Clause → Option (Const × Ty)
bound_at rows c = bound_of_row (row_at rows Predicates c.number)

-- the type, if the constant is the placeholder constant p
abbrev pub types_of_bound : List Row → Placeholder BoundConst → Option (Const × Ty) → List Ty
types_of_bound rows p None = []
types_of_bound rows p (Some b) = if is_row_of p (row_at rows Consts b.0.number) then b.1 ∷ [] else []

-- the types that the clauses give the placeholder constant p, in order
abbrev pub types_of : List Row → Placeholder BoundConst → List Clause → List Ty
types_of rows p [] = []
types_of rows p (c ∷ cs) = types_of_bound rows p (bound_at rows c) ++ types_of rows p cs

-- the clauses of the list of this row
abbrev pub clauses_of : Row → List Clause
clauses_of (clauses_row cs) = cs
clauses_of _ = []

-- the clauses of an environment, in order
abbrev pub env_clauses : List Row → ParamEnv → List Clause
env_clauses rows env = clauses_of (row_at rows ClauseLists env.caller_bounds.number)

-- the types that the environment's clauses give the placeholder constant p, in order
unfoldable pub clause_types : List Row → Placeholder BoundConst → ParamEnv → List Ty
clause_types rows p env = types_of rows p (env_clauses rows env)

-- why the types aren't exactly one: there is none, or there are two or more
abbrev pub IsFault : List Ty → ConstTyFault → Type 0
IsFault types fault.Missing = types ≡ []
IsFault types fault.Duplicate = 2 ≤ length types

-- the result is the one type, or why there isn't one
abbrev pub IsOneType : List Ty → Result Ty ConstTyFault → Type 0
IsOneType types result = MatchResult result (λ t. types ≡ t ∷ []) (IsFault types)

-- no variable escapes the constant or the type
abbrev pub IsClosedBound : List Row → Option (Const × Ty) → Type 0
IsClosedBound rows None = ⊤
IsClosedBound rows (Some b) = (outer_binder (meaning rows Consts b.0.number) ≡ 0)
    × (outer_binder (meaning rows Types b.1.number) ≡ 0)

-- no variable escapes the constant or the type of any of the clauses that give a constant its type
abbrev pub AreClosed : List Row → List Clause → Type 0
AreClosed rows [] = ⊤
AreClosed rows (c ∷ cs) = IsClosedBound rows (bound_at rows c) × AreClosed rows cs

-- no variable escapes the constant or the type of any of the environment's clauses that give a constant its type
unfoldable pub AreBoundsClosed : List Row → ParamEnv → Type 0
AreBoundsClosed rows env = AreClosed rows (env_clauses rows env)
