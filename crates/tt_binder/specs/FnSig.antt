-- The signatures of types.
use Rattle.std.specs.Prelude.{◌≡◌, List, Result, Ok, Err, ⊤}
use Rattle.tt_index.specs.declared.refusal.Refusal.{Refusal}
use Rattle.tt_kinds.specs.Handle.{GenericArgs, handle}
use Rattle.tt_kinds.specs.FnSig.{joined, plain_header}
use Rattle.tt_kinds.specs.Kinds.{binder_shape}
use Rattle.tt_kinds.specs.Values.{fn_sig_shape}
use Rattle.tt_kinds.specs.declared.binder.Binder.{Binder}
use Rattle.tt_kinds.specs.declared.binder.EarlyBinder.{EarlyBinder}
use Rattle.tt_kinds.specs.declared.binder.Unnormalized.{Unnormalized}
use Rattle.tt_kinds.specs.declared.declaration.DeclarationKind.TheVariants as kind
use Rattle.tt_kinds.specs.declared.declaration.DeclarationSort.TheVariants as sort
use Rattle.tt_kinds.specs.declared.fn_sig.FnSig.{FnSig}
use Rattle.tt_kinds.specs.declared.id.DefId.{DefId}
use Rattle.tt_kinds.specs.declared.ty_kind.TyKind.{TyKind}
use Rattle.tt_kinds.specs.declared.ty_kind.TyKind.TheVariants as ty
use Rattle.tt_interner.specs.Rows.{Row}
use Rattle.tt_interner.specs.Stored.{Terms}
use Rattle.tt_interner.specs.Declarations.{declared_at, IsOfSort}
use Rattle.tt_interner.specs.Arguments.{arguments, args_at}
use Rattle.tt_binder.specs.Promise.{InstancePromise}

-- the type is a function pointer, the item of a declared function, or an error
abbrev pub HasFnSig : List Row → TyKind → Type 0
HasFnSig rows (ty.FnPtr types header) = ⊤
HasFnSig rows (ty.FnDef id args) = IsOfSort rows sort.Fn id.number
HasFnSig rows (ty.Error e) = ⊤
HasFnSig rows _ = ⊥

-- the signature of a safe function of Rust's convention, without types, under a binder without variables
abbrev pub no_sig : Binder FnSig
no_sig = record {
  value = record { inputs_and_output = handle 0; fn_sig_kind = plain_header.fn_sig_kind };
  bound_vars = handle 0;
}

-- the value in a result of an instantiation
abbrev pub instance : {T : Type 0} → Result (Unnormalized T) Refusal → Result T Refusal
instance (Ok u) = Ok u.value
instance (Err e) = Err e

-- the result of instantiating the function's declared signature with the arguments: the instance or the refusal
pub record InstantiatesSig (id : DefId) (args : GenericArgs) (old : Terms) (result : Result (Binder FnSig) Refusal)
    (new : Terms) : Type 0 where
  pub sig : EarlyBinder (Binder FnSig)
  pub declared : (declared_at old.rows id).kind ≡ kind.Fn sig
  pub instantiated : Result (Unnormalized (Binder FnSig)) Refusal
  pub promise : InstancePromise (binder_shape fn_sig_shape)
      (arguments old.rows (args_at old.rows args)) sig.value old instantiated new
  pub is : result ≡ instance instantiated

-- the signature of a type: a pointer's joined parts, a function's instantiated declaration, or, for an error, a
-- signature without types
abbrev pub GivesFnSig : TyKind → Terms → Result (Binder FnSig) Refusal → Terms → Type 0
GivesFnSig (ty.FnPtr types header) old result new = (result ≡ Ok (joined types header)) × (new ≡ old)
GivesFnSig (ty.FnDef id args) old result new = InstantiatesSig (record { number = id.number }) args old result new
GivesFnSig (ty.Error e) old result new = (result ≡ Ok no_sig) × (new ≡ old)
GivesFnSig _ old result new = ⊥
