-- More rows change nothing for the folder that opens a binder.
use Rattle.std.proofs.Common.{◌≡◌, ℕ, List, ap, ◌∙◌}
use Rattle.tt_kinds.specs.Label.{type_sort, const_sort}
use Rattle.tt_kinds.specs.Kinds.{ty_shape, const_shape}
use Rattle.tt_kinds.specs.Handle.{Ty, Const}
use Rattle.tt_kinds.specs.declared.generic_arg.GenericArgKind.{GenericArgKind}
use Rattle.tt_interner.specs.Rows.{Row, Grows}
use Rattle.tt_fold.specs.Memory.{memos, OwnsMemos}
use Rattle.tt_fold.proofs.MemoryLaws.{memos-still, OwnsMemos-still}
use Rattle.tt_fold.specs.declared.memory.Place.{Place}
use Rattle.tt_interner.specs.Arguments.{arguments, AreArguments}
use Rattle.tt_binder.specs.Shifted.{OwnsShifts}
use Rattle.tt_binder.specs.BinderOpener.{Opening, opening_state, OwnsOpener}
use Rattle.tt_binder.specs.ArgumentLaws.{AreArguments-still, arguments-still, OwnsShifts-still}
use Rattle.tt_binder.specs.declared.shifted.ParamAt.{ParamAt}

-- the folder's state keeps its meaning
pub opening-still : (old new : List Row) (xs ys : List GenericArgKind) (k : ℕ) (es : List (Place × Ty)) → Grows old new
    → ys ≡ xs → AreArguments old xs → OwnsMemos old es
    → opening_state new ys k es ≡ opening_state old xs k es
opening-still old new xs ys k es g same h all =
    ap (λ args. let state : Opening = record { rule = args; under = k; kept = tt; memory = memos new es } in state)
    (arguments-still old new xs ys g same h)
    ∙ ap (λ m. record { rule = arguments old xs; under = k; kept = tt; memory = m }) (memos-still old new es g all)

-- the folder's handles stay among the rows, also with the shifts that it remembers afterwards
module _ {S : Type 0} {items : List Row → S → List GenericArgKind} {owns : List Row → S → Type 0}
    (still_owned : (old new : List Row) (x : S) → Grows old new → owns old x → owns new x)
    (still_items : (old new : List Row) (x : S) → Grows old new → owns old x → items new x ≡ items old x)
    (old new : List Row) (x : S) (es : List (Place × Ty)) (types : List (ParamAt × Ty))
    (consts : List (ParamAt × Const)) where
  pub opener-kept : (types' : List (ParamAt × Ty)) (consts' : List (ParamAt × Const)) → Grows old new
      → OwnsOpener items owns old x es types consts
      → OwnsShifts ty_shape new (arguments old (items old x)) type_sort types'
      → OwnsShifts const_shape new (arguments old (items old x)) const_sort consts'
      → OwnsOpener items owns new x es types' consts'
  opener-kept types' consts' g h of_types of_consts =
      let same = still_items old new x g h.0 in
      let args = arguments-still old new (items old x) (items new x) g same h.1 in (
        still_owned old new x g h.0,
        AreArguments-still old new (items old x) (items new x) g same h.1,
        OwnsMemos-still old new es g h.2,
        rw args of_types,
        rw args of_consts,
      )

  pub opener-still : Grows old new → OwnsOpener items owns old x es types consts
      → OwnsOpener items owns new x es types consts
  opener-still g h = opener-kept types consts g h (OwnsShifts-still ty_shape old new _ type_sort types g h.3)
      (OwnsShifts-still const_shape old new _ const_sort consts g h.4)
