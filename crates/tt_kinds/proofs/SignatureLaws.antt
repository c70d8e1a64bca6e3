-- What was packed in a signature's kind is read back.
use Rattle.std.proofs.Common.{refl, arith, ◌≡◌}
use Rattle.std.specs.Prelude.{ℕ, ◌==◌, Bool, true, false, Option, Some, None, unwrap_or, if◌then◌else◌}
use Rattle.std.proofs.lemmas.Bool.Decides.{nat_tests}
use Rattle.tt_index.specs.declared.abi.ExternAbi.{ExternAbi}
use Rattle.tt_index.specs.declared.abi.ExternAbi.TheVariants.{Rust, C, System, RustCall, Unadjusted}
use Rattle.tt_index.specs.declared.qualifier.Safety.{Safety}
use Rattle.tt_index.specs.declared.qualifier.Safety.TheVariants.{Safe, Unsafe}
use Rattle.tt_kinds.specs.FnSig.{packed, abi_in, safety_in, is_variadic_in, FitsSplat, AreRead}

-- the parts of the byte are read back
abbrev BytePartsAreRead : ExternAbi → Safety → Bool → Type 0
BytePartsAreRead a s v = (abi_in (packed a s v None) ≡ a) × (safety_in (packed a s v None) ≡ s) × (is_variadic_in (packed a s v None) ≡ v)

-- what holds for each safety, variadic or not, holds for all
by_cases : (P : Safety → Bool → Type 0) → P Safe true → P Safe false → P Unsafe true → P Unsafe false → (s : Safety) (v : Bool) → P s v
by_cases P a b c d Safe true = a
by_cases P a b c d Safe false = b
by_cases P a b c d Unsafe true = c
by_cases P a b c d Unsafe false = d

byte_parts : (a : ExternAbi) (s : Safety) (v : Bool) → BytePartsAreRead a s v
byte_parts Rust = by_cases (BytePartsAreRead Rust) (refl, refl, refl) (refl, refl, refl) (refl, refl, refl) (refl, refl, refl)
byte_parts (C false) = by_cases (BytePartsAreRead (C false)) (refl, refl, refl) (refl, refl, refl) (refl, refl, refl) (refl, refl, refl)
byte_parts (C true) = by_cases (BytePartsAreRead (C true)) (refl, refl, refl) (refl, refl, refl) (refl, refl, refl) (refl, refl, refl)
byte_parts (System false) = by_cases (BytePartsAreRead (System false)) (refl, refl, refl) (refl, refl, refl) (refl, refl, refl) (refl, refl, refl)
byte_parts (System true) = by_cases (BytePartsAreRead (System true)) (refl, refl, refl) (refl, refl, refl) (refl, refl, refl) (refl, refl, refl)
byte_parts RustCall = by_cases (BytePartsAreRead RustCall) (refl, refl, refl) (refl, refl, refl) (refl, refl, refl) (refl, refl, refl)
byte_parts Unadjusted = by_cases (BytePartsAreRead Unadjusted) (refl, refl, refl) (refl, refl, refl) (refl, refl, refl) (refl, refl, refl)

-- a kept index is read back
index_read : (i : Option ℕ) → FitsSplat i → (if unwrap_or i 65535 == 65535 then None else Some (unwrap_or i 65535)) ≡ i
index_read None fits = refl
index_read (Some n) fits = grind (arith, nat_tests)

-- a convention, a safety, a variadic mark and an index that can be kept are read back as they were packed
pub packed_read : (a : ExternAbi) (s : Safety) (v : Bool) (i : Option ℕ) → AreRead a s v i
packed_read a s v i = record {
  abi = (byte_parts a s v).0;
  safety = (byte_parts a s v).1;
  c_variadic = (byte_parts a s v).2;
  splat = index_read i;
}
