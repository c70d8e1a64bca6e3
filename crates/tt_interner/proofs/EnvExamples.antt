-- What small environments say of a placeholder constant.
use Rattle.std.proofs.Common.{◌≡◌, ℕ, List, [], ◌∷◌, refl, arith}
use Rattle.tt_index.specs.declared.numeric.UintTy.TheVariants.{Usize}
use Rattle.tt_kinds.specs.declared.bound.BoundConst.{BoundConst}
use Rattle.tt_kinds.specs.declared.bound.BoundTyKind.TheVariants.{Anon}
use Rattle.tt_kinds.specs.declared.bound.BoundVarIndexKind.TheVariants.{Bound}
use Rattle.tt_kinds.specs.declared.const_kind.ConstKind.TheVariants as const
use Rattle.tt_kinds.specs.declared.placeholder.Placeholder.{Placeholder}
use Rattle.tt_kinds.specs.declared.predicate.ParamEnv.{ParamEnv}
use Rattle.tt_kinds.specs.declared.predicate_kind.ClauseKind.TheVariants.{ConstArgHasType}
use Rattle.tt_kinds.specs.declared.predicate_kind.PredicateKind.TheVariants.{Clause}
use Rattle.tt_kinds.specs.declared.ty_kind.TyKind.TheVariants as ty
use Rattle.tt_kinds.specs.Handle.{handle, Const, Ty}
use Rattle.tt_kinds.specs.Shape.{fill}
use Rattle.tt_interner.specs.Env.{clause_types, AreBoundsClosed}
use Rattle.tt_interner.specs.Rows.{Row, type_row, const_row, predicate_row, clauses_row, vars_row, table, meaning}

-- two placeholder constants, which are the constants 0 and 1
abbrev placeholder : ℕ → Placeholder BoundConst
placeholder var = record { universe = 1; bound = record { var = var } }

abbrev asked : Const
asked = handle 0

abbrev other : Const
other = handle 1

-- `usize`, `bool` and a type that the binder outside binds, which are the types 0, 1 and 2
abbrev usize : Ty
usize = handle 0

abbrev truth : Ty
truth = handle 1

abbrev variable : Ty
variable = handle 2

-- the clause that the constant has the type
abbrev typed : Const → Ty → Row
typed c t = predicate_row (record { value = Clause (ConstArgHasType c t); bound_vars = handle 0 })

-- an interner's rows, the newest first: each list of clauses has the next number
abbrev rows : List Row
rows = clauses_row (handle 3 ∷ [])
    ∷ clauses_row (handle 0 ∷ handle 2 ∷ [])
    ∷ clauses_row (handle 0 ∷ handle 0 ∷ [])
    ∷ clauses_row (handle 1 ∷ handle 0 ∷ [])
    ∷ clauses_row (handle 1 ∷ [])
    ∷ clauses_row []
    ∷ typed asked variable
    ∷ typed asked truth
    ∷ typed other truth
    ∷ typed asked usize
    ∷ type_row (ty.Bound (Bound 0) (record { var = 0; kind = Anon }))
    ∷ type_row ty.Bool
    ∷ type_row (ty.Uint Usize)
    ∷ const_row (const.Placeholder (placeholder 1))
    ∷ const_row (const.Placeholder (placeholder 0))
    ∷ vars_row []
    ∷ []

-- the environment of the list of this number, and the types that it gives the first placeholder
abbrev environment : ℕ → ParamEnv
environment n = record { caller_bounds = handle n }

abbrev types : ℕ → List Ty
types n = clause_types rows (placeholder 0) (environment n)

-- without a clause, or with one on another constant, an environment gives no type
no_types : (types 0 ≡ []) × (types 1 ≡ [])
unfolding clause_types table
no_types = (refl, refl)

-- a clause on the constant gives its type
one_type : types 2 ≡ usize ∷ []
unfolding clause_types table
one_type = refl

-- each clause counts, the same one twice too
two_types : (types 3 ≡ usize ∷ usize ∷ []) × (types 4 ≡ usize ∷ truth ∷ [])
unfolding clause_types table
two_types = (refl, refl)

-- no variable escapes the constants and the types of bounds
closed_bounds : AreBoundsClosed rows (environment 4)
unfolding AreBoundsClosed table meaning fill
closed_bounds = ((refl, refl), ((refl, refl), tt))

-- a variable escapes from a type that is bound outside
open_bounds : AreBoundsClosed rows (environment 5) → ⊥
unfolding AreBoundsClosed table meaning fill
open_bounds h = let never : ◌≡◌ {A = ℕ} 1 0 = h.0.1 in omega arith
