-- What a signature keeps besides its types: a byte, and the index of a splatted argument.
use Rattle.std.specs.Prelude.{◌≡◌, ℕ, ◌+◌, ◌%◌, ◌<◌, ◌==◌, nat_le, Bool, true, false, Option, Some, None, unwrap_or}
use Rattle.std.specs.Prelude.{if◌then◌else◌, ⊤}
use Rattle.tt_index.specs.Abi.{abi_number, abi_of}
use Rattle.tt_index.specs.declared.abi.ExternAbi.{ExternAbi}
use Rattle.tt_index.specs.declared.abi.ExternAbi.TheVariants.{Rust}
use Rattle.tt_index.specs.declared.qualifier.Safety.{Safety}
use Rattle.tt_index.specs.declared.qualifier.Safety.TheVariants.{Safe, Unsafe}
use Rattle.tt_kinds.specs.declared.binder.Binder.{Binder}
use Rattle.tt_kinds.specs.declared.fn_sig.FnHeader.{FnHeader}
use Rattle.tt_kinds.specs.declared.fn_sig.FnSig.{FnSig}
use Rattle.tt_kinds.specs.declared.fn_sig.FnSigKind.{FnSigKind}
use Rattle.tt_kinds.specs.declared.fn_sig.FnSigTys.{FnSigTys}

-- bit 6, which is set for a safe function
abbrev pub safety_bits : Safety → ℕ
safety_bits Safe = 64
safety_bits Unsafe = 0

-- bit 7, which is set for a variadic function
abbrev pub variadic_bits : Bool → ℕ
variadic_bits true = 128
variadic_bits false = 0

-- these parts, packed: the convention, whether the function is safe and variadic, and the index of the splatted
-- argument
abbrev pub packed : ExternAbi → Safety → Bool → Option ℕ → FnSigKind
packed abi safety variadic splat = record {
  flags = abi_number abi + safety_bits safety + variadic_bits variadic;
  splat = unwrap_or splat 65535;
}

-- the convention
abbrev pub abi_in : FnSigKind → ExternAbi
abi_in k = abi_of (k.flags % 64)

-- whether the function is safe
abbrev pub is_safe_in : FnSigKind → Bool
is_safe_in k = nat_le 64 (k.flags % 128)

-- whether the function is safe, as a tag
abbrev pub safety_in : FnSigKind → Safety
safety_in k = if is_safe_in k then Safe else Unsafe

-- whether the function is variadic
abbrev pub is_variadic_in : FnSigKind → Bool
is_variadic_in k = nat_le 128 k.flags

-- the index of the splatted argument, if there is one
abbrev pub splat_in : FnSigKind → Option ℕ
splat_in k = if k.splat == 65535 then None else Some k.splat

-- there is no index, or it can be kept
abbrev pub FitsSplat : Option ℕ → Type 0
FitsSplat None = ⊤
FitsSplat (Some n) = n < 65535

-- these parts, packed, are read as they were
pub record AreRead (a : ExternAbi) (s : Safety) (v : Bool) (i : Option ℕ) : Type 0 where
  pub abi : abi_in (packed a s v i) ≡ a
  pub safety : safety_in (packed a s v i) ≡ s
  pub c_variadic : is_variadic_in (packed a s v i) ≡ v
  pub splat : FitsSplat i → splat_in (packed a s v i) ≡ i

-- the function can be called as the closure traits call it: it is safe, of Rust's convention and not variadic
abbrev pub IsCompatible : FnSigKind → Type 0
IsCompatible k = (is_variadic_in k ≡ false) × (is_safe_in k ≡ true) × (abi_in k ≡ Rust)

-- the header of a safe function of Rust's convention that is not variadic and splats no argument
abbrev pub plain_header : FnHeader
plain_header = record { fn_sig_kind = packed Rust Safe false None }

-- the types of a signature, under its binder
abbrev pub types_in : Binder FnSig → Binder FnSigTys
types_in sig = record {
  value = record { inputs_and_output = sig.value.inputs_and_output };
  bound_vars = sig.bound_vars;
}

-- the other parts of a signature
abbrev pub header_in : Binder FnSig → FnHeader
header_in sig = record { fn_sig_kind = sig.value.fn_sig_kind }

-- the signature of these types and these other parts
abbrev pub joined : Binder FnSigTys → FnHeader → Binder FnSig
joined types header = record {
  value = record {
    inputs_and_output = types.value.inputs_and_output;
    fn_sig_kind = header.fn_sig_kind;
  };
  bound_vars = types.bound_vars;
}
