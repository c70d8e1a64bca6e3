-- The typing rules of the language, on plain trees of types.
use Rattle.std.specs.Prelude.{◌≡◌, ◌<◌, ℕ, List, length, Option, Some, map, slice_get, IfSome}
use Rattle.tt_flags.specs.TypeFlags.{has_infer}
use Rattle.tt_index.specs.declared.numeric.IntTy.TheVariants.{I32}
use Rattle.tt_kinds.specs.Label.{type_sort, int_type, bool_type, char_type, str_type}
use Rattle.tt_kinds.specs.Scan.{scan}
use Rattle.tt_kinds.specs.Tree.{Depth, Tree}
use Rattle.tt_kinds.specs.Argument.{Argument}
use Rattle.tt_visit.specs.HasTypeFlags.{Misses}
use Rattle.tt_binder.specs.Instance.{IsPlain}
use Rattle.checker_syntax.specs.declared.program.Program.{Program}
use Rattle.checker_syntax.specs.declared.program.Function.{Function}
use Rattle.checker_syntax.specs.declared.program.DataType.{DataType}
use Rattle.checker_syntax.specs.declared.program.Field.{Field}
use Rattle.checker_syntax.specs.declared.program.Body.{Body}
use Rattle.checker_syntax.specs.declared.program.Span.{Span}
use Rattle.checker_syntax.specs.declared.program.Literal.{Literal}
use Rattle.checker_syntax.specs.declared.program.Literal.TheVariants as literal_of
use Rattle.checker_syntax.specs.declared.program.Expression.{Expression}
use Rattle.checker_syntax.specs.declared.program.Expression.TheVariants as of
use Rattle.checker.specs.Formed as formed
use Rattle.checker.specs.TypeTrees.{data_type_of, reference_by, reference_to, simple, tuple_of}
use Rattle.checker.specs.Written as written
use Rattle.checker.specs.Written.{part}

-- the type of a literal
abbrev pub literal_type : Literal → Tree Depth
literal_type literal_of.Int = simple (int_type I32)
literal_type literal_of.Bool = simple bool_type
literal_type literal_of.Char = simple char_type
literal_type literal_of.Str = reference_to (simple str_type)

-- the second type is the first one, with any number of the shared references around it taken off
pub data Reaches : Tree Depth → Tree Depth → Type 0 where
  itself : {t : Tree Depth} → Reaches t t
  through : {r t u : Tree Depth} → Reaches t u → Reaches (reference_by r t) u

-- the type is a tuple, and t is its item of this number
abbrev pub IsItemOf : ℕ → Tree Depth → Tree Depth → Type 0
IsItemOf k whole t = (ts : List (Tree Depth)) × (whole ≡ tuple_of ts) × (slice_get ts k ≡ Some t)

-- n is below i, and this is the type of number n among these types
abbrev pub Before : List (Tree Depth) → ℕ → ℕ → Tree Depth → Type 0
Before types i n t = (n < i) × (slice_get types n ≡ Some t)

-- there are as many numbers as types, and each number is below i and has the type in its place
pub record AllBefore (types : List (Tree Depth)) (i : ℕ) (ns : List ℕ) (ts : List (Tree Depth)) : Type 0 where
  pub counted : length ns ≡ length ts
  pub each : (k n : ℕ) → slice_get ns k ≡ Some n → (t : Tree Depth) × (slice_get ts k ≡ Some t) × Before types i n t

-- no inference variable occurs in the type
abbrev pub IsKnown : Tree Depth → Type 0
IsKnown t = Misses has_infer (scan t)

-- there are this many arguments, and each is a known type
pub record AreTypeArguments (args : List (Argument Depth)) (count : ℕ) : Type 0 where
  pub counted : length args ≡ count
  pub types : (i : ℕ) (a : Argument Depth) → slice_get args i ≡ Some a → a.sort ≡ type_sort
  pub known : (i : ℕ) (a : Argument Depth) → slice_get args i ≡ Some a → IsKnown a.value

-- the trees of arguments
abbrev pub values : List (Argument Depth) → List (Tree Depth)
values args = map (λ a. a.value) args

-- What is known around the expressions of a body.
pub record Around : Type 0 where
  pub program : Program
  pub function : Function
  pub body : Body
  -- the ids of the data types
  pub ids : List ℕ
  -- each expression's type
  pub types : List (Tree Depth)

module _ (A : Around) where
  -- the written type of this number denotes this type
  abbrev pub Writes : ℕ → Tree Depth → Type 0
  Writes w t = written.Writes A.program A.ids w t

  -- the type is well formed within the function
  abbrev pub IsFormed : Tree Depth → Type 0
  IsFormed t = formed.IsFormed A.program A.ids A.function t

  -- each of the types is
  abbrev pub AreFormed : List (Tree Depth) → Type 0
  AreFormed ts = formed.AreFormed A.program A.ids A.function ts

  -- the operand comes before the expression, and has this type
  abbrev pub Operand : ℕ → ℕ → Tree Depth → Type 0
  Operand i n t = Before A.types i n t

  -- each operand comes before the expression, and has the type in its place
  abbrev pub Operands : ℕ → List ℕ → List (Tree Depth) → Type 0
  Operands i ns ts = AllBefore A.types i ns ts

  -- the expression of this number is a `let`
  abbrev pub IsLet : ℕ → Type 0
  IsLet n = (value : ℕ) × (a : Option ℕ) × (slice_get A.body.expressions.items n ≡ Some (of.Let value a))

  -- the operand's type is the instance of the written type at these arguments
  abbrev pub Fits : ℕ → List (Argument Depth) → ℕ → ℕ → Type 0
  Fits i args w n = (d : Tree Depth) × (t : Tree Depth) × Writes w d × Operand i n t × IsPlain args d t

  -- there are as many operands as written types, and each fits the written type in its place
  pub record Fit (i : ℕ) (args : List (Argument Depth)) (ws ns : List ℕ) : Type 0 where
    pub counted : length ws ≡ length ns
    pub each : (k w n : ℕ) → slice_get ws k ≡ Some w → slice_get ns k ≡ Some n → Fits i args w n

  -- the type is the data type of this number and item at these arguments, one for each parameter
  pub record IsInstance (k : ℕ) (item : DataType) (args : List (Argument Depth)) (t : Tree Depth) : Type 0 where
    pub id : ℕ
    pub there : slice_get A.program.«data».items k ≡ Some item
    pub named : slice_get A.ids k ≡ Some id
    pub arguments : AreTypeArguments args (length item.params.items)
    pub is : t ≡ data_type_of id (values args)

  -- the data type has a field of this name, whose type at these arguments is t
  pub record HasField (item : DataType) (args : List (Argument Depth)) (name : ℕ) (t : Tree Depth) : Type 0 where
    pub number : ℕ
    pub field : Field
    pub declared : Tree Depth
    pub there : slice_get item.fields.items number ≡ Some field
    pub named : field.name ≡ name
    pub written : Writes field.ty declared
    pub plain : IsPlain args declared t

  -- the expression of number i may have the type t
  pub data IsTyped (i : ℕ) (t : Tree Depth) : Expression → Type 0 where
    literal : {l : Literal} → t ≡ literal_type l → IsTyped i t (of.Literal l)
    argument : {k w : ℕ} → slice_get A.function.inputs.items k ≡ Some w → Writes w t → IsTyped i t (of.Argument k)
    binding : {n : ℕ} {a : Option ℕ} → Operand i n t → IfSome a (λ w. Writes w t) → IsTyped i t (of.Let n a)
    -- a use of the variable of a `let` before it
    variable : {n : ℕ} → IsLet n → Operand i n t → IsTyped i t (of.Local n)
    tuple : {s : Span} {ts : List (Tree Depth)} → Operands i (part A.body.operands.items s) ts → t ≡ tuple_of ts
        → IsTyped i t (of.Tuple s)
    reference : {n : ℕ} {u : Tree Depth} → Operand i n u → t ≡ reference_to u → IsTyped i t (of.Reference n)
    dereference : {n : ℕ} → Operand i n (reference_to t) → IsTyped i t (of.Dereference n)
    -- a call: the arguments' types are instances of the written inputs, and the call's is the written output's
    call : {f : ℕ} {s : Span} {item : Function} {args : List (Argument Depth)} {d : Tree Depth}
        → slice_get A.program.functions.items f ≡ Some item → AreTypeArguments args (length item.params.items)
        → AreFormed (values args) → Fit i args item.inputs.items (part A.body.operands.items s)
        → Writes item.output d → IsPlain args d t → IsTyped i t (of.Call f s)
    -- a data type expression: the values' types are instances of the written fields
    data_type : {k : ℕ} {s : Span} {item : DataType} {args : List (Argument Depth)}
        → IsInstance k item args t → Fit i args (map (λ f. f.ty) item.fields.items) (part A.body.operands.items s)
        → IsTyped i t (of.Data k s)
    -- a field of a value of a data type, or of a reference to one
    field : {n name k : ℕ} {u whole : Tree Depth} {item : DataType} {args : List (Argument Depth)}
        → Operand i n u → Reaches u whole → IsInstance k item args whole → HasField item args name t
        → IsTyped i t (of.Field n name)
    -- an item of a tuple, or of a reference to one
    item : {n k : ℕ} {u whole : Tree Depth} → Operand i n u → Reaches u whole → IsItemOf k whole t
        → IsTyped i t (of.Item n k)

  -- the expression of number i has its type by a rule, and the type is known and well formed
  pub record HasType (i : ℕ) (e : Expression) : Type 0 where
    pub type : Tree Depth
    pub there : slice_get A.types i ≡ Some type
    pub known : IsKnown type
    pub formed : IsFormed type
    pub typed : IsTyped i type e

  -- there are as many types as expressions, each expression of the body has a known and well-formed type by a rule, and
  -- the result has the written output type
  pub record IsTypedBody : Type 0 where
    pub counted : length A.types ≡ length A.body.expressions.items
    pub each : (i : ℕ) (e : Expression) → slice_get A.body.expressions.items i ≡ Some e → HasType i e
    pub result : Tree Depth
    pub returned : slice_get A.types A.body.result ≡ Some result
    pub output : Writes A.function.output result
