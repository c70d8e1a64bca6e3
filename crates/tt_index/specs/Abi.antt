-- Calling conventions and their numbers.
use Rattle.std.specs.Prelude.{ℕ, zero, suc, true, false}
use Rattle.tt_index.specs.declared.abi.ExternAbi.{ExternAbi}
use Rattle.tt_index.specs.declared.abi.ExternAbi.TheVariants.{Rust, C, System, RustCall, Unadjusted}

-- the number of a convention
abbrev pub abi_number : ExternAbi → ℕ
abi_number Rust = 0
abi_number (C false) = 1
abi_number (C true) = 2
abi_number (System false) = 3
abi_number (System true) = 4
abi_number RustCall = 5
abi_number Unadjusted = 6

-- the convention of a number, which is at most 6
abbrev pub abi_of : ℕ → ExternAbi
abi_of zero = Rust
abi_of (suc zero) = C false
abi_of (suc (suc zero)) = C true
abi_of (suc (suc (suc zero))) = System false
abi_of (suc (suc (suc (suc zero)))) = System true
abi_of (suc (suc (suc (suc (suc zero))))) = RustCall
abi_of (suc (suc (suc (suc (suc (suc _)))))) = Unadjusted
