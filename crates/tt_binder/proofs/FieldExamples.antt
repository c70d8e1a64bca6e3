-- Data types with few fields: the names and places of their variants and fields.
use Rattle.std.proofs.Common.{◌≡◌, ℕ, [], ◌∷◌, Option, Some, None, refl}
use Rattle.tt_kinds.specs.Handle.{handle, Symbol, Ty}
use Rattle.tt_kinds.specs.declared.field.FieldInfo.{FieldInfo}
use Rattle.tt_kinds.specs.declared.variant.FieldDef.{FieldDef}
use Rattle.tt_binder.specs.Fields.{fields_among}

-- the data type, and the types `T`, `(T, u8)` and `List<T>`
abbrev base : Ty
base = handle 0

abbrev parameter : Ty
parameter = handle 1

abbrev pair : Ty
pair = handle 2

abbrev list : Ty
list = handle 3

-- the field of the symbol and the type
abbrev field : ℕ → Ty → FieldDef
field n t = record { name = handle n; ty = t }

-- the field of a name and a type, at the places of its variant and in it
abbrev placed : Option Symbol → ℕ → ℕ → ℕ → Ty → FieldInfo
placed variant v i n t = record { base = base; ty = t; variant = variant; variant_idx = v; name = handle n; field_idx = i }

-- a struct: a of `T`, and b of `(T, u8)`
pair_fields : fields_among base 0 (record { name = None; fields = field 1 parameter ∷ field 2 pair ∷ [] } ∷ [])
    ≡ placed None 0 0 1 parameter ∷ placed None 0 1 2 pair ∷ []
pair_fields = refl

-- an enum: a variant without fields, and the variant 4 with the field 5 of `T`
opt_fields : fields_among base 0 (record { name = Some (handle 3); fields = [] } ∷ record { name = Some (handle 4); fields = field 5 parameter ∷ [] } ∷ [])
    ≡ placed (Some (handle 4)) 1 0 5 parameter ∷ []
opt_fields = refl

-- a struct that names itself: head of `T`, and tail of `List<T>`
list_fields : fields_among base 0 (record { name = None; fields = field 6 parameter ∷ field 7 list ∷ [] } ∷ [])
    ≡ placed None 0 0 6 parameter ∷ placed None 0 1 7 list ∷ []
list_fields = refl

-- three variants, of which the one between has no fields
several_fields : fields_among base 0
    (record { name = Some (handle 8); fields = field 1 pair ∷ field 2 pair ∷ [] } ∷ record { name = Some (handle 9); fields = [] }
    ∷ record { name = Some (handle 10); fields = field 1 list ∷ [] } ∷ [])
    ≡ placed (Some (handle 8)) 0 0 1 pair ∷ placed (Some (handle 8)) 0 1 2 pair ∷ placed (Some (handle 10)) 2 0 1 list ∷ []
several_fields = refl

-- no variants, and a struct without fields
no_fields : (fields_among base 0 [] ≡ []) × (fields_among base 0 (record { name = None; fields = [] } ∷ []) ≡ [])
no_fields = (refl, refl)
