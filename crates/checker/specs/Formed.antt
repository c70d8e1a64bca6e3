-- The types that are well formed within a function, as trees.
use Rattle.std.specs.Prelude.{◌≡◌, ℕ, List, [], ◌∷◌, length, Some, slice_get}
use Rattle.std.specs.String.{string_bytes}
use Rattle.std.specs.declared.alloc.Global.{Global}
use Rattle.std.specs.declared.string.String.{String}
use Rattle.tt_index.specs.declared.numeric.IntTy.TheVariants.{I32}
use Rattle.tt_kinds.specs.Label.{bool_type, char_type, int_type, str_type}
use Rattle.tt_kinds.specs.Tree.{Depth, Tree}
use Rattle.checker_syntax.specs.declared.program.DataType.{DataType}
use Rattle.checker_syntax.specs.declared.program.Function.{Function}
use Rattle.checker_syntax.specs.declared.program.Program.{Program}
use Rattle.checker.specs.TypeTrees.{data_type_of, parameter_of, reference_to, simple, tuple_of}

-- the type is the function's type parameter of this number
pub record IsParameter (program : Program) (function : Function) (index : ℕ) (t : Tree Depth) : Type 0 where
  pub name : ℕ
  pub text : String Global
  pub there : slice_get function.params.items index ≡ Some name
  pub named : slice_get program.names.items name ≡ Some text
  pub is : t ≡ parameter_of index (string_bytes text)

-- the program's data types have these ids
module _ (program : Program) (ids : List ℕ) (function : Function) where
  mutual
    -- the type is made of the language's own types, the function's type parameters, and data types with an argument for
    -- each parameter
    pub data IsFormed : Tree Depth → Type 0 where
      int : IsFormed (simple (int_type I32))
      bool : IsFormed (simple bool_type)
      char : IsFormed (simple char_type)
      text : IsFormed (simple str_type)
      parameter : {index : ℕ} {t : Tree Depth} → IsParameter program function index t → IsFormed t
      data_type : (k : ℕ) {id : ℕ} {item : DataType} {ts : List (Tree Depth)}
          → slice_get program.«data».items k ≡ Some item → slice_get ids k ≡ Some id → AreFormed ts
          → length ts ≡ length item.params.items → IsFormed (data_type_of id ts)
      tuple : {ts : List (Tree Depth)} → AreFormed ts → IsFormed (tuple_of ts)
      reference : {t : Tree Depth} → IsFormed t → IsFormed (reference_to t)

    -- each of the types is
    pub data AreFormed : List (Tree Depth) → Type 0 where
      done : AreFormed []
      next : {t : Tree Depth} {ts : List (Tree Depth)} → IsFormed t → AreFormed ts → AreFormed (t ∷ ts)
