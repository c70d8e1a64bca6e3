-- The memory keeps its meaning when terms and lists are stored.
use Rattle.std.proofs.Common.{◌≡◌, ℕ, List, [], ◌∷◌, refl, ap}
use Rattle.tt_kinds.specs.Kinds.{ty_shape}
use Rattle.tt_kinds.specs.Handle.{Ty}
use Rattle.tt_kinds.specs.declared.table.Table.TheVariants.{Types}
use Rattle.tt_interner.specs.Rows.{Row, Grows}
use Rattle.tt_interner.proofs.Growth.{in_range-grows, fill-grows}
use Rattle.tt_fold.specs.Memory.{memos, OwnsMemos}
use Rattle.tt_fold.specs.Shift.{shift_state}
use Rattle.tt_fold.specs.declared.memory.Place.{Place}

pub memos-still : (old new : List Row) (es : List (Place × Ty)) → Grows old new → OwnsMemos old es
    → memos new es ≡ memos old es
memos-still old new [] g owns = refl
memos-still old new (e ∷ es) g owns = rw (
  memos-still old new es g owns.2,
  fill-grows old new g
      (ty_shape e.0.ty) owns.0,
  fill-grows old new g (ty_shape e.1) owns.1,
) refl

pub OwnsMemos-still : (old new : List Row) (es : List (Place × Ty)) → Grows old new → OwnsMemos old es
    → OwnsMemos new es
OwnsMemos-still old new [] g owns = tt
OwnsMemos-still old new (e ∷ es) g owns = (
  in_range-grows old new g Types e.0.ty.number owns.0,
  in_range-grows old new g
      Types e.1.number owns.1,
  OwnsMemos-still old new es g owns.2,
)

-- the shifter's state keeps its meaning
pub shift_state-still : (n k : ℕ) (old new : List Row) (es : List (Place × Ty)) → Grows old new → OwnsMemos old es
    → shift_state n k new es ≡ shift_state n k old es
shift_state-still n k old new es g owns = ap (λ ms. record { rule = n; under = k; kept = tt; memory = ms })
    (memos-still old new es g owns)
