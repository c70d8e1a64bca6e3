-- The fields of data types, instantiated.
use Rattle.std.specs.Prelude.{◌≡◌, ◌≢◌, ℕ, ◌+◌, ◌<◌, ◌⊎◌, List, [], ◌∷◌, ◌++◌, Option, Some, None, Result, Ok, Err}
use Rattle.std.specs.Prelude.{IfOk, IsOkAnd, ⊤}
use Rattle.std.specs.declared.alloc.Global.{Global}
use Rattle.std.specs.declared.vec.Vec.{Vec}
use Rattle.tt_index.specs.declared.refusal.Refusal.{Refusal}
use Rattle.tt_index.specs.declared.refusal.Refusal.TheVariants.{Memory}
use Rattle.tt_kinds.specs.Handle.{Ty, GenericArgs, Symbol}
use Rattle.tt_kinds.specs.Kinds.{ty_shape}
use Rattle.tt_kinds.specs.Variant.{Variant}
use Rattle.tt_kinds.specs.declared.binder.Unnormalized.{Unnormalized}
use Rattle.tt_kinds.specs.declared.field.FieldInfo.{FieldInfo}
use Rattle.tt_kinds.specs.declared.id.DataType.{DataType}
use Rattle.tt_kinds.specs.declared.id.Id.{Id}
use Rattle.tt_kinds.specs.declared.table.Table.TheVariants.{Types}
use Rattle.tt_kinds.specs.declared.ty_kind.TyKind.TheVariants as ty
use Rattle.tt_kinds.specs.declared.variant.FieldDef.{FieldDef}
use Rattle.tt_interner.specs.Definitions.{variants_of}
use Rattle.tt_interner.specs.Rows.{Row, type_row, size, meaning}
use Rattle.tt_interner.specs.Stored.{Terms, Extends, IsAt}
use Rattle.tt_interner.specs.Arguments.{arguments, args_at}
use Rattle.tt_binder.specs.Instance.{IsPlain}
use Rattle.tt_binder.specs.Promise.{InstancePromise}

-- the type is the data type of this id with these arguments
abbrev pub IsAdtOf : List Row → Ty → Id DataType → GenericArgs → Type 0
IsAdtOf rows t id args = IsAt rows (type_row (ty.Adt id args)) t.number

-- the type is a data type
abbrev pub IsAdt : List Row → Ty → Type 0
IsAdt rows t = (id : Id DataType) × (args : GenericArgs) × IsAdtOf rows t id args

-- a field as it is declared, with its place
abbrev pub declared_field : Ty → Option Symbol → ℕ → ℕ → FieldDef → FieldInfo
declared_field base variant v i f = record {
  base = base;
  ty = f.ty;
  variant = variant;
  variant_idx = v;
  name = f.name;
  field_idx = i;
}

-- the fields of a variant, from the place i on
abbrev pub fields_from : Ty → Option Symbol → ℕ → ℕ → List FieldDef → List FieldInfo
fields_from base variant v i [] = []
fields_from base variant v i (f ∷ fs) = declared_field base variant v i f ∷ fields_from base variant v (i + 1) fs

-- the fields of the variants, from the place v on
abbrev pub fields_among : Ty → ℕ → List Variant → List FieldInfo
fields_among base v [] = []
fields_among base v (x ∷ xs) = fields_from base x.name v 0 x.fields ++ fields_among base (v + 1) xs

-- the variants, or none if there is no definition
abbrev pub variants_or_none : Option (List Variant) → List Variant
variants_or_none None = []
variants_or_none (Some vs) = vs

-- the fields of the data type of an id, as they are declared
abbrev pub declared_fields : List Row → Ty → Id DataType → List FieldInfo
declared_fields rows base id = fields_among base 0 (variants_or_none (variants_of rows id.number))

-- a result with a type, as an instantiation returns it
abbrev pub unnormalized : Result Ty Refusal → Result (Unnormalized Ty) Refusal
unnormalized (Ok t) = Ok (record { value = t })
unnormalized (Err e) = Err e

-- the type was instantiated with the arguments, with this result
abbrev pub InstantiatesTy : GenericArgs → Ty → Terms → Result Ty Refusal → Terms → Type 0
InstantiatesTy args t old result new = InstancePromise ty_shape (arguments old.rows (args_at old.rows args)) t old
    (unnormalized result) new

-- the field with another type
abbrev pub with_ty : FieldInfo → Ty → FieldInfo
with_ty f t = record f { ty = t }

-- the types of the fields were instantiated in turn, and these are the fields with the instances
abbrev pub AreInstances : GenericArgs → List FieldInfo → List FieldInfo → Terms → Terms → Type 0
AreInstances args [] [] old new = new ≡ old
AreInstances args (f ∷ fs) (i ∷ is) old new =
    (i ≡ with_ty f i.ty) × ((between : Terms) × InstantiatesTy args f.ty old (Ok i.ty) between
    × AreInstances args fs is between new)
AreInstances args _ _ old new = ⊥

-- the types of the fields were instantiated in turn, until one was refused with e
abbrev pub StopsAtField : GenericArgs → List FieldInfo → Refusal → Terms → Terms → Type 0
StopsAtField args [] e old new = ⊥
StopsAtField args (f ∷ fs) e old new =
    InstantiatesTy args f.ty old (Err e) new
    ⊎ ((t : Ty) × (between : Terms) × InstantiatesTy args f.ty old (Ok t) between × StopsAtField args fs e between new)

-- the fields have their instances; or an instance was refused; or the memory for a list that is not empty was refused,
-- and nothing changed
abbrev pub GivesInstances : GenericArgs → List FieldInfo → Terms → Result (Vec FieldInfo Global) Refusal → Terms
    → Type 0
GivesInstances args fs old (Ok fields) new = AreInstances args fs fields.items old new
GivesInstances args fs old (Err e) new = StopsAtField args fs e old new ⊎ ((e ≡ Memory) × (fs ≢ []) × (new ≡ old))

-- the type of each field is in range, and is plain replacement in the declared type
abbrev pub ArePlain : GenericArgs → List FieldInfo → List FieldInfo → List Row → List Row → Type 0
ArePlain args [] [] old new = ⊤
ArePlain args (f ∷ fs) (i ∷ is) old new =
    (i.ty.number < size new Types)
    × IsPlain (arguments old (args_at old args)) (meaning old Types f.ty.number) (meaning new Types i.ty.number)
    × ArePlain args fs is old new
ArePlain args _ _ old new = ⊥

-- the result is the data type's fields, instantiated with its arguments
pub record GivesFields (base : Ty) (old : Terms) (result : Result (Vec FieldInfo Global) Refusal) (new : Terms)
    : Type 0 where
  pub id : Id DataType
  pub args : GenericArgs
  pub stored : IsAdtOf old.rows base id args
  -- the fields were instantiated in turn
  pub instances : GivesInstances args (declared_fields old.rows base id) old result new
  -- every earlier handle keeps its meaning
  pub extends : Extends old new
  -- each field's type is plain replacement
  pub plain : IfOk result (λ fields. ArePlain args (declared_fields old.rows base id) fields.items old.rows new.rows)
  -- without fields the list is empty, and nothing changes
  pub none : declared_fields old.rows base id ≡ [] → IsOkAnd result (λ fields. fields.items ≡ []) × (new ≡ old)
