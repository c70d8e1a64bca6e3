-- The arguments of an instantiation, with the trees that an interner's rows give them.
use Rattle.std.specs.Prelude.{List, [], map, Option, Some, None, slice_get}
use Rattle.tt_kinds.specs.Label.{Sort, region_sort, type_sort, const_sort}
use Rattle.tt_kinds.specs.Tree.{Depth}
use Rattle.tt_kinds.specs.Argument.{Argument}
use Rattle.tt_kinds.specs.Shape.{AreParts, item_shapes}
use Rattle.tt_kinds.specs.Kinds.{arg_shape}
use Rattle.tt_kinds.specs.declared.table.Table.TheVariants.{ArgLists}
use Rattle.tt_kinds.specs.Handle.{GenericArgs}
use Rattle.tt_kinds.specs.declared.generic_arg.GenericArgKind.{GenericArgKind}
use Rattle.tt_kinds.specs.declared.generic_arg.GenericArgKind.TheVariants as arg
use Rattle.tt_interner.specs.Rows.{Row, args_row, table, size}
use Rattle.tt_interner.specs.Owned.{tree_in}

-- the sort of an argument
abbrev pub arg_sort : GenericArgKind → Sort
arg_sort (arg.Lifetime r) = region_sort
arg_sort (arg.«Type» t) = type_sort
arg_sort (arg.Const c) = const_sort

-- an argument with its tree
abbrev pub argument_of : List Row → GenericArgKind → Argument Depth
argument_of rows a = record { sort = arg_sort a; value = tree_in rows (arg_shape a) }

-- the arguments with their trees
abbrev pub arguments : List Row → List GenericArgKind → List (Argument Depth)
arguments rows args = map (argument_of rows) args

-- the handles in the arguments name rows
abbrev pub AreArguments : List Row → List GenericArgKind → Type 0
AreArguments rows args = AreParts (size rows) (item_shapes arg_shape args)

-- the arguments of the list in a row; other rows have none
abbrev pub row_args : Option Row → List GenericArgKind
row_args None = []
row_args (Some (args_row args)) = args
row_args (Some _) = []

-- the arguments in a stored list
abbrev pub args_at : List Row → GenericArgs → List GenericArgKind
args_at rows args = row_args (slice_get (table ArgLists rows) args.number)
