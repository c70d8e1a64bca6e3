-- Faults by their causes.
use Rattle.std.specs.Prelude.{⊤}
use Rattle.tt_index.specs.declared.refusal.Refusal.TheVariants.{Memory, TableFull}
use Rattle.unify.specs.declared.fault.Fault.{Fault}
use Rattle.unify.specs.declared.fault.Fault.TheVariants.{Escapes, Mismatch, Occurs, Refused}

-- memory is short, or a table is full
abbrev pub IsForRoom : Fault → Type 0
IsForRoom (Refused Memory) = ⊤
IsForRoom (Refused TableFull) = ⊤
IsForRoom _ = ⊥

-- a variable would be bound to a type that holds it
abbrev pub IsOccurs : Fault → Type 0
IsOccurs (Occurs v t) = ⊤
IsOccurs _ = ⊥

-- the types differ, whatever their variables are bound to
abbrev pub IsMismatch : Fault → Type 0
IsMismatch Mismatch = ⊤
IsMismatch _ = ⊥

-- a variable would be bound to a type that has a variable of a binder around it
abbrev pub IsEscapes : Fault → Type 0
IsEscapes (Escapes v t) = ⊤
IsEscapes _ = ⊥
