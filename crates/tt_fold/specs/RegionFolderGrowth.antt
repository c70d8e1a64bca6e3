-- If no symbol is added, a folder of regions means the same, and its closure still meets its condition.
use Rattle.std.proofs.Common.{◌≡◌, ℕ, List, ap, subst, sym}
use std.Path.{fun_ext}
use Rattle.tt_kinds.specs.declared.region_kind.RegionKind.{RegionKind}
use Rattle.tt_kinds.specs.declared.table.Table.TheVariants.{Symbols}
use Rattle.tt_interner.specs.Rows.{Row, size}
use Rattle.tt_fold.specs.Growth.{AddsTerms}
use Rattle.tt_fold.specs.RegionFolder.{Asking, names_in, AnswersRegions}
use Rattle.tt_fold.specs.GrowthLaws.{name-stays, symbols-stay}

-- a folder's state with the names
abbrev asking : {F : Type 0} (f : F) (k : ℕ) (rows : List Row) → Asking F
asking f k rows = record { closure = f; under = k; names = names_in rows }

pub names-stay : {F : Type 0} (old new : List Row) (f : F) (k : ℕ) → AddsTerms old new → asking f k new ≡ asking f k old
names-stay old new f k a =
    let same : names_in new ≡ names_in old = fun_ext (name-stays old new a) in
    ap (λ names. record { closure = f; under = k; names = names }) same

pub answers-stay : {F : Type 0} {step : F → RegionKind → ℕ → RegionKind → F → Type 0} {f : F} (old new : List Row)
    → AddsTerms old new
    → AnswersRegions step (size old Symbols) f → AnswersRegions step (size new Symbols) f
answers-stay {step} {f} old new a h = subst (λ n. AnswersRegions step n f) (sym (symbols-stay old new a)) h
