-- The children of a stored list.
use Rattle.std.specs.Prelude.{ℕ, List, [], map, get_or}
use Rattle.tt_kinds.specs.Handle.{handle}
use Rattle.tt_kinds.specs.Parts.{child_in}
use Rattle.tt_kinds.specs.TermTable.{term_table}
use Rattle.tt_kinds.specs.declared.handle.AnyHandle.{AnyHandle}
use Rattle.tt_kinds.specs.declared.handle.Handle.{Handle}
use Rattle.tt_kinds.specs.declared.generic_arg.GenericArgKind.{GenericArgKind}
use Rattle.tt_kinds.specs.declared.generic_arg.GenericArgKind.TheVariants as arg
use Rattle.tt_kinds.specs.declared.table.TermTable.{TermTable}
use Rattle.tt_kinds.specs.declared.table.TermTable.TheVariants as terms_of
use Rattle.tt_kinds.specs.declared.parts.Child.{Child}
use Rattle.tt_kinds.specs.declared.parts.Child.TheVariants as child
use Rattle.tt_interner.specs.Rows.{Row, clauses_row, tys_row, consts_row, args_row, pats_row, existentials_row}
use Rattle.tt_interner.specs.Rows.{text_row, table}

-- a generic argument, as a child
abbrev pub arg_child : GenericArgKind → Child
arg_child (arg.Lifetime r) = child.Region r
arg_child (arg.«Type» t) = child_in terms_of.Types t
arg_child (arg.Const c) = child_in terms_of.Consts c

-- the children of the list of this row; a clause is there as a predicate
abbrev pub children_of : Row → List Child
children_of (clauses_row clauses) = map (child_in terms_of.Predicates) clauses
children_of (tys_row tys) = map (child_in terms_of.Types) tys
children_of (consts_row consts) = map (child_in terms_of.Consts) consts
children_of (args_row args) = map arg_child args
children_of (pats_row pats) = map (child_in terms_of.Patterns) pats
children_of (existentials_row ps) = map (child_in terms_of.Existentials) ps
children_of _ = []

-- the children of a stored list
unfoldable pub children_at : List Row → AnyHandle → List Child
children_at rows l = children_of (get_or (table (term_table l.table) rows) l.number (text_row []))

-- the handle that a child is
abbrev pub child_handle : {K : Type 0} → Child → Handle K
child_handle (child.Stored h) = handle h.number
child_handle _ = handle 0

-- the generic argument that a stored term is
abbrev pub term_arg : TermTable → ℕ → GenericArgKind
term_arg terms_of.Consts n = arg.Const (handle n)
term_arg _ n = arg.«Type» (handle n)

-- the generic argument that a child is
abbrev pub child_arg : Child → GenericArgKind
child_arg (child.Region r) = arg.Lifetime r
child_arg (child.Stored h) = term_arg h.table h.number
child_arg child.Absent = arg.«Type» (handle 0)

-- the row of the list of these children
abbrev pub items_row : TermTable → List Child → Row
items_row terms_of.TypeLists cs = tys_row (map child_handle cs)
items_row terms_of.ConstLists cs = consts_row (map child_handle cs)
items_row terms_of.ArgLists cs = args_row (map child_arg cs)
items_row terms_of.PatternLists cs = pats_row (map child_handle cs)
items_row terms_of.ExistentialLists cs = existentials_row (map child_handle cs)
items_row _ cs = clauses_row (map child_handle cs)
