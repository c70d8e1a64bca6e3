-- Aliases with few arguments: other self types, and the arguments of a projection's trait and its own ones.
use Rattle.std.proofs.Common.{◌≡◌, List, [], ◌∷◌, take, Some, None, refl}
use Rattle.tt_kinds.specs.Handle.{handle, Ty}
use Rattle.tt_kinds.specs.declared.generic_arg.GenericArgKind.{GenericArgKind}
use Rattle.tt_kinds.specs.declared.generic_arg.GenericArgKind.TheVariants as arg
use Rattle.tt_kinds.specs.declared.region_kind.RegionKind.TheVariants.{ReStatic, ReEarlyParam}
use Rattle.tt_interner.specs.Alias.{first_type, with_self_ty, viewed}

-- `T` and `u8`, which are the types 0 and 1
abbrev parameter : Ty
parameter = handle 0

abbrev byte : Ty
byte = handle 1

-- `'static`, and the region parameter of index 1
abbrev static : GenericArgKind
static = arg.Lifetime ReStatic

abbrev own_region : GenericArgKind
own_region = arg.Lifetime (ReEarlyParam (record { index = 1; name = handle 0 }))

-- the first argument is the self type if it is a type, and without arguments there is none
self_types : (first_type (arg.«Type» parameter ∷ static ∷ []) ≡ Some parameter) × (first_type (static ∷ []) ≡ None) × (first_type [] ≡ None)
self_types = (refl, refl, refl)

-- `[T, 'static]` with `u8` for the self type is `[u8, 'static]`
replaced : with_self_ty byte (arg.«Type» parameter ∷ static ∷ []) ≡ arg.«Type» byte ∷ static ∷ []
replaced = refl

-- without arguments the new self type is the only argument
replaced_none : with_self_ty byte [] ≡ arg.«Type» byte ∷ []
replaced_none = refl

-- `[T, 'p]`, and a trait of one parameter
abbrev both : List GenericArgKind
both = arg.«Type» parameter ∷ own_region ∷ []

-- the trait has the first argument, `[T]`
trait_part : take 1 both ≡ arg.«Type» parameter ∷ []
trait_part = refl

-- the associated type's own arguments are the others, `['p]`
own_part : viewed both (record { args = handle 0; start = 1; len = 1 }) ≡ own_region ∷ []
own_part = refl
