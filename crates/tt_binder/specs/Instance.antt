-- The promise of an instantiation, for a result and for a refusal.
use Rattle.std.specs.Prelude.{ℕ, List, [], false, ◌≡◌, ◌⊎◌, ⊤}
use Rattle.tt_index.specs.declared.refusal.Refusal.{Refusal}
use Rattle.tt_index.specs.declared.refusal.Refusal.TheVariants.{Memory, TableFull, GreatestIndex}
use Rattle.tt_kinds.specs.Tree.{Depth, Place, Tree}
use Rattle.tt_kinds.specs.Reading.{read, move, Fits}
use Rattle.tt_kinds.specs.Argument.{Argument, put, readings, change_values}
use Rattle.tt_kinds.specs.Plain.{inst_tree}
use Rattle.tt_kinds.specs.Matched.{MatchedUnder, ArgumentsMatched}
use Rattle.tt_kinds.specs.Param.{holds_param, IsAnswered, ArgumentsHoldNone}
use Rattle.tt_kinds.specs.Cause.{HidesRegionVars, Cause}
use Rattle.tt_kinds.specs.declared.table.Table.{Table}
use Rattle.tt_kinds.specs.declared.table.Table.TheVariants.{Predicates, ClauseLists}
use Rattle.tt_interner.specs.Stored.{Terms}
use Rattle.tt_fold.specs.Stands.{IsPartUnbuilt}

-- the result reads as the value does, with each parameter replaced by its argument's reading
abbrev pub IsPlain : List (Argument Depth) → Tree Depth → Tree Depth → Type 0
IsPlain args t r = read 0 r ≡ put (readings args) (read 0 t)

-- no cause of a refusal holds
abbrev pub HasNoCause : List (Argument Depth) → Tree Depth → Type 0
HasNoCause args t = (e : Refusal) → Cause t args e → ⊥

-- to put later arguments into the result is to put the arguments, with the later ones put into them, into the value
abbrev pub Composes : List (Argument Depth) → Tree Depth → Tree Depth → Type 0
Composes args t r = (later : List (Argument Place)) → put later (read 0 r)
    ≡ put (change_values (put later) (readings args)) (read 0 t)

-- the result, moved, is the moved value with the moved arguments put into it
abbrev pub Commutes : List (Argument Depth) → Tree Depth → Tree Depth → Type 0
Commutes args t r = (n : ℕ) → move n (read 0 r) ≡ put (change_values (move n) (readings args)) (move n (read 0 t))

-- if the variables of the value and of the arguments match their binders' lists, the variables of the result do
abbrev pub StaysMatched : List (Argument Depth) → Tree Depth → Tree Depth → Type 0
StaysMatched args t r = ArgumentsMatched (readings args) → MatchedUnder [] (read 0 t) → MatchedUnder [] (read 0 r)

-- if no argument holds a parameter, the result holds none
abbrev pub LeavesNoParam : List (Argument Depth) → Tree Depth → Type 0
LeavesNoParam args r = ArgumentsHoldNone (readings args) → holds_param (read 0 r) ≡ false

-- r is an instance of t
pub record IsInstance (args : List (Argument Depth)) (t r : Tree Depth) : Type 0 where
  pub plain : IsPlain args t r
  pub answered : IsAnswered args t
  pub no_cause : HasNoCause args t

-- why an instantiation is refused, in the interner at the end of the call: memory was refused, a term or a list of the
-- plain result would be a new row of a table that is full, the plain result doesn't fit, or a cause holds
abbrev pub IsReason : Terms → List (Argument Depth) → Tree Depth → Refusal → Type 0
IsReason terms args t Memory = ⊤
IsReason terms args t TableFull = IsPartUnbuilt terms (inst_tree 0 args t) TableFull
IsReason terms args t GreatestIndex = Fits (put (readings args) (read 0 t)) → ⊥
IsReason terms args t e = Cause t args e

-- the table holds predicates, or lists of clauses
abbrev pub IsOfClauses : Table → Type 0
IsOfClauses Predicates = ⊤
IsOfClauses ClauseLists = ⊤
IsOfClauses _ = ⊥

-- there is nothing to replace and nothing to refuse: no parameter occurs, and there are no arguments or no region
-- variable is exposed
pub record ComesBack (args : List (Argument Depth)) (t : Tree Depth) : Type 0 where
  pub no_param : holds_param t ≡ false
  pub hides : (args ≡ []) ⊎ HidesRegionVars t
