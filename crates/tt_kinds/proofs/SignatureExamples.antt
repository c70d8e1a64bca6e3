-- Signatures with splatted arguments.
use Rattle.std.proofs.Common.{◌≡◌, ◌≢◌, ℕ, [], false, Option, Some, None, refl, ap, unwrap_or, arith}
use Rattle.tt_index.specs.declared.abi.ExternAbi.TheVariants.{Rust}
use Rattle.tt_index.specs.declared.numeric.UintTy.TheVariants as uint
use Rattle.tt_index.specs.declared.qualifier.Safety.TheVariants.{Safe}
use Rattle.tt_kinds.specs.FnSig.{FitsSplat, packed}
use Rattle.tt_kinds.specs.declared.table.Table.TheVariants.{TypeLists}
use Rattle.tt_kinds.specs.Label.{uint_type, tuple_type, fn_ptr_type, type_label, list_label, record_label}
use Rattle.tt_kinds.specs.Label.{fn_sig_tys_record}
use Rattle.tt_kinds.specs.Tree.{Depth, Tree, term, node, binder, none, also}
use Rattle.tt_kinds.specs.Scan.{scan}
use Rattle.tt_kinds.specs.declared.fn_sig.FnHeader.{FnHeader}

-- the index 65534 of a splatted argument can be kept, and 65535 can't
splatted_fit : FitsSplat (Some 65534) × (FitsSplat (Some 65535) → ⊥)
splatted_fit = (omega arith, λ h. omega arith)

-- `fn(u8)` with a splatted argument
abbrev splatted : Option ℕ → Tree Depth
splatted i = term (type_label (fn_ptr_type (record { fn_sig_kind = packed Rust Safe false i })))
    (also (binder [] (node (record_label fn_sig_tys_record) (also (node (list_label TypeLists)
    (also (term (type_label (uint_type uint.U8)) none) (also (term (type_label tuple_type) (also (node (list_label TypeLists) none) none)) none))) none))) none)

-- equal pointers have equal arguments
splat_said : (i j : Option ℕ) → splatted i ≡ splatted j → unwrap_or i 65535 ≡ unwrap_or j 65535
splat_said i j e =
    let headers : ◌≡◌ {A = FnHeader} (record { fn_sig_kind = packed Rust Safe false i }) (record { fn_sig_kind = packed Rust Safe false j }) = cc in
    ap (λ h. h.fn_sig_kind.splat) headers

-- pointers that differ in the splatted argument alone are three
splatted_differ : (splatted None ≢ splatted (Some 0)) × (splatted (Some 0) ≢ splatted (Some 65534)) × (splatted None ≢ splatted (Some 65534))
splatted_differ = (λ e. differ (splat_said None (Some 0) e), λ e. differ' (splat_said (Some 0) (Some 65534) e), λ e. differ'' (splat_said None (Some 65534) e)) where
  differ : ◌≡◌ {A = ℕ} 65535 0 → ⊥
  differ e = omega arith

  differ' : ◌≡◌ {A = ℕ} 0 65534 → ⊥
  differ' e = omega arith

  differ'' : ◌≡◌ {A = ℕ} 65535 65534 → ⊥
  differ'' e = omega arith

-- a splatted argument adds no flag
splatted_flags : (scan (splatted None) ≡ 0) × (scan (splatted (Some 0)) ≡ 0) × (scan (splatted (Some 65534)) ≡ 0)
splatted_flags = (refl, refl, refl)
