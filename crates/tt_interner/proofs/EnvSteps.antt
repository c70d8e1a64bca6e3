-- The types that an environment gives a placeholder constant.
use Rattle.std.proofs.Common.{◌≡◌, ℕ, ◌<◌, Bool, true, false, if◌then◌else◌, Option, Some, None, Result, Ok, Err, IfOk}
use Rattle.std.proofs.Common.{All, List, [], ◌∷◌, get_or, drop, length, subst, arith}
use Rattle.std.specs.Prelude.{IfSome}
use Rattle.std.proofs.lemmas.Option.{get_or_from_slice_get}
use Rattle.std.proofs.lemmas.List.Elements.{All-nil, All-cons, All-append}
use Rattle.tt_kinds.specs.declared.binder.Binder.{Binder}
use Rattle.tt_kinds.specs.declared.bound.BoundConst.{BoundConst}
use Rattle.tt_kinds.specs.Handle.{Ty}
use Rattle.tt_kinds.specs.Handle.{Const}
use Rattle.tt_kinds.specs.Handle.{Clause}
use Rattle.tt_kinds.specs.declared.placeholder.Placeholder.{Placeholder}
use Rattle.tt_kinds.specs.declared.predicate.ParamEnv.{ParamEnv}
use Rattle.tt_kinds.specs.declared.predicate_kind.ClauseKind.{ClauseKind}
use Rattle.tt_kinds.specs.declared.predicate_kind.ClauseKind.TheVariants as clause
use Rattle.tt_kinds.specs.declared.predicate_kind.PredicateKind.{PredicateKind}
use Rattle.tt_kinds.specs.declared.predicate_kind.PredicateKind.TheVariants as predicate
use Rattle.tt_kinds.specs.declared.table.Table.TheVariants.{Types, Consts, Predicates, ClauseLists}
use Rattle.tt_kinds.specs.Shape.{item_shapes, AreParts, HasParts}
use Rattle.tt_kinds.specs.Kinds.{clause_shape, predicate_kind_shape}
use Rattle.tt_kinds.specs.Reading.{outer_binder}
use Rattle.tt_interner.specs.Rows.{Row, predicate_row, clauses_row, text_row, table, size, meaning, AreRows}
use Rattle.tt_interner.specs.Stored.{IsAt}
use Rattle.tt_interner.specs.declared.env.ConstTyFault.{ConstTyFault}
use Rattle.tt_interner.specs.Env.{row_at, is_row_of, bound_of_clause, bound_of_predicate, bound_at, types_of_bound}
use Rattle.tt_interner.specs.Env.{types_of, IsOneType, IsClosedBound, AreClosed}
use Rattle.tt_interner.proofs.Trees.{Means-row}
use Rattle.tt_interner.proofs.InfoLaws.{parts_at}

-- the clauses of a stored list
pub env_clauses_at : (rows : List Row) (cs : List Clause) (env : ParamEnv) → IsAt rows (clauses_row cs) env.caller_bounds.number → row_at rows ClauseLists env.caller_bounds.number ≡ clauses_row cs
env_clauses_at rows cs env at = get_or_from_slice_get (table ClauseLists rows) env.caller_bounds.number (clauses_row cs) (text_row []) at

-- a stored list's clauses are in range
pub stored_clauses : (rows : List Row) → AreRows rows → (cs : List Clause) (n : ℕ) → IsAt rows (clauses_row cs) n → AreParts (size rows) (item_shapes clause_shape cs)
stored_clauses rows are cs n at = (Means-row rows are ClauseLists n (clauses_row cs) at).parts.1

-- a clause's constant and type are in range
pub bound_in_range : (rows : List Row) → AreRows rows → (b : Binder PredicateKind) (n : ℕ) → IsAt rows (predicate_row b) n → IfSome (bound_of_predicate b.value) (λ e. (e.0.number < size rows Consts) × (e.1.number < size rows Types))
bound_in_range rows are b n at = by b.value (Means-row rows are Predicates n (predicate_row b) at).parts
  where
    of_clause : (k : ClauseKind) → HasParts (size rows) (predicate_kind_shape (record { value = predicate.Clause k; bound_vars = b.bound_vars }))
        → IfSome (bound_of_clause k) (λ e. (e.0.number < size rows Consts) × (e.1.number < size rows Types))
    of_clause (clause.ConstArgHasType c t) parts = (parts.1.0.1.2.0, parts.1.0.1.2.1.0)
    of_clause _ parts = tt

    by : (v : PredicateKind) → HasParts (size rows) (predicate_kind_shape (record { value = v; bound_vars = b.bound_vars }))
        → IfSome (bound_of_predicate v) (λ e. (e.0.number < size rows Consts) × (e.1.number < size rows Types))
    by (predicate.Clause k) parts = of_clause k parts
    by _ parts = tt

-- the next clause is in range
pub clause_at_place : (rows : List Row) (cs : List Clause) (i : ℕ) (d : Clause) → i < length cs → AreParts (size rows) (item_shapes clause_shape cs) → (get_or cs i d).number < size rows Predicates
clause_at_place rows cs i d h parts = parts_at clause_shape (size rows) cs i d h parts

module _ (rows : List Row) (p : Placeholder BoundConst) where
  -- the types so far are the one that was found, and the rest of the clauses gives the others
  abbrev pub IsSoFar : List Clause → Option Ty → ℕ → Type 0
  IsSoFar cs None i = types_of rows p cs ≡ types_of rows p (drop i cs)
  IsSoFar cs (Some t) i = types_of rows p cs ≡ t ∷ types_of rows p (drop i cs)

-- no variable escapes a type that a clause gives
closed_bound : (rows : List Row) (p : Placeholder BoundConst) (b : Option (Const × Ty)) → IsClosedBound rows b → All (λ t. outer_binder (meaning rows Types t.number) ≡ 0) (types_of_bound rows p b)
closed_bound rows p None h = All-nil (λ t. outer_binder (meaning rows Types t.number) ≡ 0)
closed_bound rows p (Some e) h = by (is_row_of p (row_at rows Consts e.0.number))
  where
    by : (is : Bool) → All (λ t. outer_binder (meaning rows Types t.number) ≡ 0) (if is then e.1 ∷ [] else [])
    by true = All-cons (λ t. outer_binder (meaning rows Types t.number) ≡ 0) e.1 [] h.1 (All-nil (λ t. outer_binder (meaning rows Types t.number) ≡ 0))
    by false = All-nil (λ t. outer_binder (meaning rows Types t.number) ≡ 0)

-- nor one of the types that the clauses give
pub closed_types : (rows : List Row) (p : Placeholder BoundConst) (cs : List Clause) → AreClosed rows cs → All (λ t. outer_binder (meaning rows Types t.number) ≡ 0) (types_of rows p cs)
closed_types rows p [] h = All-nil (λ t. outer_binder (meaning rows Types t.number) ≡ 0)
closed_types rows p (c ∷ cs) h =
    All-append (λ t. outer_binder (meaning rows Types t.number) ≡ 0) (types_of_bound rows p (bound_at rows c)) (types_of rows p cs) (closed_bound rows p (bound_at rows c) h.0) (closed_types rows p cs h.1)

-- nor the one that is answered
pub closed_answer : (rows : List Row) (p : Placeholder BoundConst) (cs : List Clause) (result : Result Ty ConstTyFault) → IsOneType (types_of rows p cs) result → AreClosed rows cs
    → IfOk result (λ t. outer_binder (meaning rows Types t.number) ≡ 0)
closed_answer rows p cs (Ok t) one h = (subst (All (λ t. outer_binder (meaning rows Types t.number) ≡ 0)) one (closed_types rows p cs h)) 0 t (omega arith)
closed_answer rows p cs (Err e) one h = tt
