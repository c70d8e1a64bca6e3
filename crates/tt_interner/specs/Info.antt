-- The tables whose rows have cached information.
use Rattle.std.specs.Prelude.{Bool, true, false}
use Rattle.tt_kinds.specs.declared.table.Table.{Table}
use Rattle.tt_kinds.specs.declared.table.Table.TheVariants.{Symbols, Declarations, Definitions}

-- the table's rows have cached information
abbrev pub keeps_info : Table → Bool
keeps_info Symbols = false
keeps_info Declarations = false
keeps_info Definitions = false
keeps_info _ = true
