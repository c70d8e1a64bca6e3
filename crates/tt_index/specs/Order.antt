-- Which order a comparison gives.
use Rattle.std.specs.Prelude.{◌≡◌, ℕ}
use Rattle.std.specs.Ordering.{nat_cmp}
use Rattle.std.specs.declared.cmp.Ordering.{Ordering}
use Rattle.tt_index.specs.declared.numeric.IntTy.{IntTy}
use Rattle.tt_index.specs.declared.numeric.IntTy.TheVariants.{Isize, I8, I16, I32, I64, I128}
use Rattle.tt_index.specs.declared.numeric.UintTy.{UintTy}
use Rattle.tt_index.specs.declared.numeric.UintTy.TheVariants.{Usize, U8, U16, U32, U64, U128}
use Rattle.tt_index.specs.declared.numeric.FloatTy.{FloatTy}
use Rattle.tt_index.specs.declared.numeric.FloatTy.TheVariants.{F16, F32, F64, F128}
use Rattle.tt_index.specs.declared.qualifier.Mutability.{Mutability}
use Rattle.tt_index.specs.declared.qualifier.Mutability.TheVariants.{Not, Mut}
use Rattle.tt_index.specs.declared.qualifier.Safety.{Safety}
use Rattle.tt_index.specs.declared.qualifier.Safety.TheVariants.{Safe, Unsafe}

-- the comparison orders two values as it orders their numbers
abbrev pub OrdersBy : {A : Type 0} → (A → ℕ) → (A → A → Ordering) → Type 0
OrdersBy {A} number cmp = (a b : A) → cmp a b ≡ nat_cmp (number a) (number b)

-- the place of a signed integer type among them
abbrev pub int_place : IntTy → ℕ
int_place Isize = 0
int_place I8 = 1
int_place I16 = 2
int_place I32 = 3
int_place I64 = 4
int_place I128 = 5

-- the place of an unsigned integer type among them
abbrev pub uint_place : UintTy → ℕ
uint_place Usize = 0
uint_place U8 = 1
uint_place U16 = 2
uint_place U32 = 3
uint_place U64 = 4
uint_place U128 = 5

-- the place of a floating point type among them
abbrev pub float_place : FloatTy → ℕ
float_place F16 = 0
float_place F32 = 1
float_place F64 = 2
float_place F128 = 3

-- shared comes before mutable
abbrev pub mutability_place : Mutability → ℕ
mutability_place Not = 0
mutability_place Mut = 1

-- safe comes before unsafe
abbrev pub safety_place : Safety → ℕ
safety_place Safe = 0
safety_place Unsafe = 1
