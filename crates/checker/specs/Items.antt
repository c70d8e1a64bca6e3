-- The items of a program, as they are declared in the interner.
use Rattle.std.specs.Prelude.{◌≡◌, ◌<◌, ℕ, List, [], ◌∷◌, ◌++◌, length, map, None, Some, false, slice_get}
use Rattle.std.specs.List.{All}
use Rattle.std.specs.String.{string_bytes}
use Rattle.std.specs.declared.alloc.Global.{Global}
use Rattle.std.specs.declared.string.String.{String}
use Rattle.std.specs.declared.vec.Vec.{Vec}
use Rattle.tt_index.specs.declared.abi.ExternAbi.TheVariants.{Rust}
use Rattle.tt_index.specs.declared.qualifier.Safety.TheVariants.{Safe}
use Rattle.tt_kinds.specs.FnSig.{packed}
use Rattle.tt_kinds.specs.Handle.{BoundVarKinds, Symbol, Ty, Tys}
use Rattle.tt_kinds.specs.Kinds.{ty_shape}
use Rattle.tt_kinds.specs.declared.binder.Binder.{Binder}
use Rattle.tt_kinds.specs.declared.binder.EarlyBinder.{EarlyBinder}
use Rattle.tt_kinds.specs.declared.declaration.DeclarationKind.TheVariants as kind
use Rattle.tt_kinds.specs.declared.field.FieldInfo.{FieldInfo}
use Rattle.tt_kinds.specs.declared.fn_sig.FnSig.{FnSig}
use Rattle.tt_kinds.specs.declared.table.Table.TheVariants.{Declarations}
use Rattle.tt_interner.specs.Declarations.{declared_at}
use Rattle.tt_interner.specs.Rows.{Row, size, text_row, tys_row, vars_row}
use Rattle.tt_kinds.specs.declared.id.DataType.{DataType}
use Rattle.tt_kinds.specs.declared.id.Function.{Function as FunctionMark}
use Rattle.tt_kinds.specs.declared.id.Id.{Id}
use Rattle.tt_interner.specs.Owned.{AreOwned, IsOwned}
use Rattle.tt_interner.specs.Stored.{IsAt, Terms}
use Rattle.tt_fold.specs.Steps.{tree_in}
use Rattle.checker_syntax.specs.declared.program.Function.{Function}
use Rattle.checker_syntax.specs.declared.program.Program.{Program}
use Rattle.checker.specs.Written.{AreDistinct, Writes}
use Rattle.checker.specs.declared.declared.Declared.{Declared}

-- the id of a data type
abbrev pub AdtId : Type 0
AdtId = Id DataType

-- the id of a function
abbrev pub FunctionId : Type 0
FunctionId = Id FunctionMark

-- ids, as numbers
abbrev pub numbers : {S : Type 0} → List (Id S) → List ℕ
numbers ids = map (λ id. id.number) ids

-- the ids of the declared data types, as numbers
abbrev pub ids_of : Declared → List ℕ
ids_of d = numbers d.data_types.items

-- the types are the interner's, and are what this many of the first written types denote
pub record AreWrittenTypes (terms : Terms) (program : Program) (ids : List ℕ) (types : List Ty) (count : ℕ)
    : Type 0 where
  pub owned : AreOwned ty_shape terms types
  pub counted : length types ≡ count
  pub each : (n : ℕ) (ty : Ty) → slice_get types n ≡ Some ty → Writes program ids n (tree_in terms.rows (ty_shape ty))

-- there are as many types as numbers, and each is the type of the number in its place, which is below the limit
pub record AreTypesBefore (types : List Ty) (limit : ℕ) (ns : List ℕ) (found : List Ty) : Type 0 where
  pub counted : length ns ≡ length found
  pub each : (k n : ℕ) → slice_get ns k ≡ Some n → (ty : Ty) × (slice_get found k ≡ Some ty) × (n < limit)
      × (slice_get types n ≡ Some ty)

-- the types are the ones that are written for the function's inputs, in order, and last for its output
pub record AreOfSignature (written : List Ty) (item : Function) (types : List Ty) : Type 0 where
  pub inputs : List Ty
  pub output : Ty
  pub are : types ≡ inputs ++ output ∷ []
  pub taken : AreTypesBefore written (length written) item.inputs.items inputs
  pub returned : slice_get written item.output ≡ Some output

-- the types that are written for the function are in the list
pub record ListsSignature (terms : Terms) (written : List Ty) (item : Function) (list : Tys) : Type 0 where
  pub types : List Ty
  pub stored : IsAt terms.rows (tys_row types) list.number
  pub are : AreOfSignature written item types

-- the symbol is the program's name of this number
abbrev pub IsNameOf : Terms → Program → ℕ → Symbol → Type 0
IsNameOf terms program number symbol = (name : String Global) × (slice_get program.names.items number ≡ Some name)
    × IsAt terms.rows (text_row (string_bytes name)) symbol.number

-- the signature with these types and bound variables of a function that is safe, of Rust's ABI and not variadic
abbrev pub signature_of : Tys → BoundVarKinds → EarlyBinder (Binder FnSig)
signature_of types vars = record {
  value = record {
    value = record { inputs_and_output = types; fn_sig_kind = packed Rust Safe false None };
    bound_vars = vars;
  };
}

-- the function of this id is declared with this name and the types in the list, and has no bound variables
pub record IsFunctionOf (rows : List Row) (name : Symbol) (types : Tys) (id : FunctionId) : Type 0 where
  pub vars : BoundVarKinds
  pub empty : IsAt rows (vars_row []) vars.number
  pub declared : declared_at rows (record { number = id.number })
      ≡ record { kind = kind.Fn (signature_of types vars); name = name }

-- the function of this id is declared with the name and the types that are written
pub record HasSignature (terms : Terms) (program : Program) (written : List Ty) (item : Function) (id : FunctionId)
    : Type 0 where
  pub in_range : id.number < size terms.rows Declarations
  pub name : Symbol
  pub named : IsNameOf terms program item.name name
  pub list : Tys
  pub declared : IsFunctionOf terms.rows name list id
  pub listed : ListsSignature terms written item list

-- this many of the first functions are declared with the names and the types that are written
pub record AreFunctions (terms : Terms) (program : Program) (written : List Ty) (ids : List FunctionId) (count : ℕ)
    : Type 0 where
  pub counted : length ids ≡ count
  pub each : (f : ℕ) (id : FunctionId) (item : Function) → slice_get ids f ≡ Some id
      → slice_get program.functions.items f ≡ Some item
      → HasSignature terms program written item id

-- what is declared is what the program says: each data type and each function has an id of its own, each written type
-- is declared as what it denotes, and each function has the name and the types that are written for it
pub record IsDeclared (terms : Terms) (program : Program) (d : Declared) : Type 0 where
  pub counted : length d.data_types.items ≡ length program.«data».items
  pub distinct : AreDistinct (ids_of d)
  pub distinct_functions : AreDistinct (numbers d.functions.items)
  pub written : AreWrittenTypes terms program (ids_of d) d.written.items (length program.types.items)
  pub functions : AreFunctions terms program d.written.items d.functions.items (length program.functions.items)

-- the types of each body are the interner's
abbrev pub AreTyped : Terms → List (Vec Ty Global) → Type 0
AreTyped terms bodies = All (λ types. AreOwned ty_shape terms types.items) bodies

-- the types of the fields are the interner's
abbrev pub AreOwnedFields : Terms → List FieldInfo → Type 0
AreOwnedFields terms fields = (i : ℕ) (field : FieldInfo) → slice_get fields i ≡ Some field
    → IsOwned ty_shape terms field.ty
