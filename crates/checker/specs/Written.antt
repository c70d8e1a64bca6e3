-- The types that a program writes, as trees.
use Rattle.std.specs.Prelude.{◌≡◌, ◌-◌, ℕ, List, [], ◌∷◌, length, Some, drop, slice_get, take}
use Rattle.std.specs.String.{string_bytes}
use Rattle.std.specs.declared.alloc.Global.{Global}
use Rattle.std.specs.declared.string.String.{String}
use Rattle.tt_index.specs.declared.numeric.IntTy.TheVariants.{I32}
use Rattle.tt_kinds.specs.Label.{bool_type, char_type, int_type, str_type}
use Rattle.tt_kinds.specs.Tree.{Depth, Tree}
use Rattle.checker_syntax.specs.declared.program.DataType.{DataType}
use Rattle.checker_syntax.specs.declared.program.Program.{Program}
use Rattle.checker_syntax.specs.declared.program.Span.{Span}
use Rattle.checker_syntax.specs.declared.program.WrittenType.{WrittenType}
use Rattle.checker_syntax.specs.declared.program.WrittenType.TheVariants as written_as
use Rattle.checker.specs.TypeTrees.{data_type_of, parameter_of, reference_to, simple, tuple_of}

-- the numbers of this part of a list
abbrev pub part : List ℕ → Span → List ℕ
part numbers span = take (span.end - span.start) (drop span.start numbers)

-- no number is at two places
abbrev pub AreDistinct : List ℕ → Type 0
AreDistinct ns = (j k n : ℕ) → slice_get ns j ≡ Some n → slice_get ns k ≡ Some n → j ≡ k

-- the program's data types have these ids
module _ (program : Program) (ids : List ℕ) where
  mutual
    -- what is written denotes this type
    pub data IsWritten : WrittenType → Tree Depth → Type 0 where
      int : IsWritten written_as.Int (simple (int_type I32))
      bool : IsWritten written_as.Bool (simple bool_type)
      char : IsWritten written_as.Char (simple char_type)
      text : IsWritten written_as.Str (simple str_type)
      -- a type parameter of the item around the written type, by its number and its name
      parameter : {index name : ℕ} {s : String Global} → slice_get program.names.items name ≡ Some s
          → IsWritten (written_as.Param index name) (parameter_of index (string_bytes s))
      -- a data type has as many arguments as parameters
      data_type : {k id : ℕ} {s : Span} {item : DataType} {ts : List (Tree Depth)}
          → slice_get program.«data».items k ≡ Some item → slice_get ids k ≡ Some id
          → AreWritten (part program.parts.items s) ts → length ts ≡ length item.params.items
          → IsWritten (written_as.Data k s) (data_type_of id ts)
      tuple : {s : Span} {ts : List (Tree Depth)} → AreWritten (part program.parts.items s) ts
          → IsWritten (written_as.Tuple s) (tuple_of ts)
      reference : {n : ℕ} {t : Tree Depth} → Writes n t → IsWritten (written_as.Reference n) (reference_to t)

    -- the written type of this number denotes this type
    pub data Writes : ℕ → Tree Depth → Type 0 where
      at : {n : ℕ} {w : WrittenType} {t : Tree Depth} → slice_get program.types.items n ≡ Some w → IsWritten w t
          → Writes n t

    -- the written types of these numbers denote these types, in order
    pub data AreWritten : List ℕ → List (Tree Depth) → Type 0 where
      done : AreWritten [] []
      next : {n : ℕ} {t : Tree Depth} {ns : List ℕ} {ts : List (Tree Depth)} → Writes n t → AreWritten ns ts
          → AreWritten (n ∷ ns) (t ∷ ts)
