-- Handles by what they name.
use Rattle.std.specs.Prelude.{ℕ}
use Rattle.tt_kinds.specs.declared.handle.Handle.{Handle}
use Rattle.tt_kinds.specs.declared.handle.AnyHandle.{AnyHandle}
use Rattle.tt_kinds.specs.declared.table.TermTable.{TermTable}
use Rattle.tt_kinds.specs.declared.handle.TypeRow.{TypeRow}
use Rattle.tt_kinds.specs.declared.handle.ConstRow.{ConstRow}
use Rattle.tt_kinds.specs.declared.handle.PatternRow.{PatternRow}
use Rattle.tt_kinds.specs.declared.handle.PredicateRow.{PredicateRow}
use Rattle.tt_kinds.specs.declared.handle.ClauseRow.{ClauseRow}
use Rattle.tt_kinds.specs.declared.handle.ExistentialRow.{ExistentialRow}
use Rattle.tt_kinds.specs.declared.handle.ClauseListRow.{ClauseListRow}
use Rattle.tt_kinds.specs.declared.handle.ArgListRow.{ArgListRow}
use Rattle.tt_kinds.specs.declared.handle.TypeListRow.{TypeListRow}
use Rattle.tt_kinds.specs.declared.handle.ConstListRow.{ConstListRow}
use Rattle.tt_kinds.specs.declared.handle.PatternListRow.{PatternListRow}
use Rattle.tt_kinds.specs.declared.handle.VarListRow.{VarListRow}
use Rattle.tt_kinds.specs.declared.handle.ExistentialListRow.{ExistentialListRow}
use Rattle.tt_kinds.specs.declared.handle.AssumptionListRow.{AssumptionListRow}
use Rattle.tt_kinds.specs.declared.handle.SymbolRow.{SymbolRow}

-- the handle of a number
abbrev pub handle : {K : Type 0} → ℕ → Handle K
handle n = record { number = n; of = record {} }

-- the row that a handle of the table names
abbrev pub any_handle : {K : Type 0} → TermTable → Handle K → AnyHandle
any_handle t h = record { table = t; number = h.number }

-- a type
abbrev pub Ty : Type 0
Ty = Handle TypeRow

-- a constant
abbrev pub Const : Type 0
Const = Handle ConstRow

-- a pattern
abbrev pub Pat : Type 0
Pat = Handle PatternRow

-- a predicate
abbrev pub Predicate : Type 0
Predicate = Handle PredicateRow

-- a clause
abbrev pub Clause : Type 0
Clause = Handle ClauseRow

-- an existential predicate under its binder
abbrev pub PolyExistentialPredicate : Type 0
PolyExistentialPredicate = Handle ExistentialRow

-- a list of clauses
abbrev pub Clauses : Type 0
Clauses = Handle ClauseListRow

-- a list of generic arguments
abbrev pub GenericArgs : Type 0
GenericArgs = Handle ArgListRow

-- a list of types
abbrev pub Tys : Type 0
Tys = Handle TypeListRow

-- a list of constants
abbrev pub Consts : Type 0
Consts = Handle ConstListRow

-- a list of patterns
abbrev pub PatList : Type 0
PatList = Handle PatternListRow

-- a list of a binder's variables
abbrev pub BoundVarKinds : Type 0
BoundVarKinds = Handle VarListRow

-- a list of existential predicates
abbrev pub BoundExistentialPredicates : Type 0
BoundExistentialPredicates = Handle ExistentialListRow

-- a list of assumptions on regions
abbrev pub RegionAssumptions : Type 0
RegionAssumptions = Handle AssumptionListRow

-- a name
abbrev pub Symbol : Type 0
Symbol = Handle SymbolRow
