-- What is known around the expressions of a body, with types as trees.
use Rattle.std.specs.Prelude.{◌≡◌, ◌<◌, ℕ, Bool, true, List, [], Some, length, map, slice_get, MatchOption}
use Rattle.tt_kinds.specs.Argument.{Argument}
use Rattle.tt_kinds.specs.Handle.{Ty, GenericArgs}
use Rattle.tt_kinds.specs.Kinds.{ty_shape}
use Rattle.tt_kinds.specs.Tree.{Depth, Tree}
use Rattle.tt_interner.specs.Owned.{AreOwned, IsOwned}
use Rattle.tt_interner.specs.Rows.{Row}
use Rattle.tt_interner.specs.Stored.{Terms}
use Rattle.tt_fold.specs.Steps.{tree_in}
use Rattle.tt_interner.specs.Arguments.{arguments, args_at}
use Rattle.checker.specs.Formed.{IsParameter}
use Rattle.checker.specs.Items.{IsDeclared, ids_of}
use Rattle.checker.specs.Typing.{Around, IsFormed, IsTypedBody}
use Rattle.checker.specs.Written.{AreDistinct}
use Rattle.checker_syntax.specs.declared.program.Body.{Body}
use Rattle.checker_syntax.specs.declared.program.Function.{Function}
use Rattle.checker_syntax.specs.declared.program.Program.{Program}
use Rattle.std.specs.declared.alloc.Global.{Global}
use Rattle.std.specs.declared.vec.Vec.{Vec}
use Rattle.checker.specs.declared.scope.Scope.{Scope}

-- what is declared is what the program says, and the types of the expressions are the interner's
pub record IsScope (terms : Terms) (scope : Scope) : Type 0 where
  pub declared : IsDeclared terms scope.program.now scope.declared.now
  pub types : AreOwned ty_shape terms scope.types.now

-- the trees of the types
abbrev pub trees : List Row → List Ty → List (Tree Depth)
trees rows types = map (λ ty. tree_in rows (ty_shape ty)) types

-- what is around the expressions of a body, with types as trees
abbrev pub body_around : Terms → Program → List ℕ → Function → Body → List Ty → Around
body_around terms program ids function body types = record {
  program = program;
  function = function;
  body = body;
  ids = ids;
  types = trees terms.rows types;
}

-- what is around the expressions of a scope
abbrev pub around : Terms → Scope → Around
around terms scope = body_around terms scope.program.now
    (ids_of scope.declared.now) scope.function.now scope.body.now scope.types.now

-- the types are the function's first type parameters in order
pub record AreParameters (terms : Terms) (program : Program) (function : Function) (types : List Ty) : Type 0 where
  pub owned : AreOwned ty_shape terms types
  pub each : (k : ℕ) (ty : Ty) → slice_get types k ≡ Some ty
      → IsParameter program function k (tree_in terms.rows (ty_shape ty))

-- the type's number is marked
abbrev pub IsMarked : List Bool → Ty → Type 0
IsMarked marks ty = slice_get marks ty.number ≡ Some true

-- each type whose number is marked is the interner's, and well formed within the scope's function
pub record AreMarked (terms : Terms) (scope : Scope) (marks : List Bool) : Type 0 where
  pub each : (ty : Ty) → IsMarked marks ty
      → IsOwned ty_shape terms ty × IsFormed (around terms scope) (tree_in terms.rows (ty_shape ty))

-- if the function has a body, its expressions have these types by the rules; otherwise there are no types
abbrev pub IsTypedFunction : Terms → Program → List ℕ → Function → List Ty → Type 0
IsTypedFunction terms program ids function types = MatchOption function.body (types ≡ [])
    (λ body. IsTypedBody (body_around terms program ids function body types))

-- there are this many lists of types, and each of the first functions has the types in its place by the rules
pub record AreTypedFirst (terms : Terms) (program : Program) (ids : List ℕ) (bodies : List (Vec Ty Global)) (count : ℕ)
    : Type 0 where
  pub counted : length bodies ≡ count
  pub each : (f : ℕ) (function : Function) → f < count → slice_get program.functions.items f ≡ Some function
      → (types : Vec Ty Global) × (slice_get bodies f ≡ Some types)
      × IsTypedFunction terms program ids function types.items

-- each function has the types in its place by the rules
abbrev pub AreTypedBodies : Terms → Program → List ℕ → List (Vec Ty Global) → Type 0
AreTypedBodies terms program ids bodies = AreTypedFirst terms program ids bodies (length program.functions.items)

-- each data type of the program has an id of its own, and with these ids each function has its types by the rules
pub record IsTypedProgram (terms : Terms) (program : Program) (ids : List ℕ) (bodies : List (Vec Ty Global))
    : Type 0 where
  pub counted : length ids ≡ length program.«data».items
  pub distinct : AreDistinct ids
  pub typed : AreTypedBodies terms program ids bodies

-- the program has types by the rules
abbrev pub HasTyping : Terms → Program → Type 0
HasTyping terms program = (ids : List ℕ) × (bodies : List (Vec Ty Global)) × IsTypedProgram terms program ids bodies

-- the arguments in a stored list, as trees
abbrev pub argument_trees : Terms → GenericArgs → List (Argument Depth)
argument_trees terms args = arguments terms.rows (args_at terms.rows args)
