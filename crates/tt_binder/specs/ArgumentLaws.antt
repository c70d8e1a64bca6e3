-- More rows change no argument.
use Rattle.std.proofs.Common.{◌≡◌, ℕ, ◌<◌, List, [], ◌∷◌, ◌++◌, refl, sym, ap, ◌∙◌, arith}
use Rattle.std.specs.Prelude.{◌≢◌, slice_get}
use Rattle.tt_kinds.specs.Label.{Sort, type_sort, const_sort}
use Rattle.tt_kinds.specs.Tree.{Depth}
use Rattle.tt_kinds.specs.Argument.{Argument}
use Rattle.tt_kinds.specs.Shape.{Shape, item_shapes}
use Rattle.tt_kinds.specs.Kinds.{arg_shape, ty_shape, const_shape}
use Rattle.tt_kinds.specs.declared.table.Table.{Table}
use Rattle.tt_kinds.specs.declared.table.Table.TheVariants.{ArgLists}
use Rattle.tt_kinds.specs.Handle.{GenericArgs}
use Rattle.tt_kinds.specs.declared.generic_arg.GenericArgKind.{GenericArgKind}
use Rattle.tt_interner.specs.Rows.{Row, table, size, Grows}
use Rattle.tt_interner.proofs.RowLaws.{row-old, size-more}
use Rattle.tt_interner.proofs.Growth.{AreParts-grows, IsPart-grows, fill-grows}
use Rattle.tt_kinds.specs.Handle.{Const}
use Rattle.tt_kinds.specs.Handle.{Ty}
use Rattle.tt_fold.specs.Memory.{memos, OwnsMemos}
use Rattle.tt_fold.proofs.MemoryLaws.{memos-still, OwnsMemos-still}
use Rattle.tt_fold.specs.declared.memory.Place.{Place}
use Rattle.tt_interner.specs.Arguments.{arguments, AreArguments, row_args, args_at}
use Rattle.tt_binder.specs.Shifted.{OwnsShifts, OwnsArguments}
use Rattle.tt_binder.specs.Instantiation.{Kept, Instantiation}
use Rattle.tt_binder.specs.declared.shifted.ParamAt.{ParamAt}

-- new rows leave a table's rows in their places
slice_get-more : (more rows : List Row) (t : Table) (n : ℕ) → n < size rows t → (n < size (more ++ rows) t)
    × (slice_get (table t (more ++ rows)) n ≡ slice_get (table t rows) n)
slice_get-more [] rows t n h = (h, refl)
slice_get-more (r ∷ more) rows t n h =
    let older = slice_get-more more rows t n h in
    (omega (arith, older.0, size-more r (more ++ rows) t), row-old r (more ++ rows) t n older.0 ∙ older.1)

pub args_at-grows : (old new : List Row) (args : GenericArgs) → Grows old new → args.number < size old ArgLists
    → args_at new args ≡ args_at old args
args_at-grows old new args g h =
    let same : slice_get (table ArgLists new) args.number ≡ slice_get (table ArgLists old) args.number =
    rw g.kept (slice_get-more g.more old ArgLists args.number h).1 in
    ap row_args same

pub AreArguments-still : (old new : List Row) (xs ys : List GenericArgKind) → Grows old new → ys ≡ xs
    → AreArguments old xs → AreArguments new ys
AreArguments-still old new xs ys g same h = rw same (AreParts-grows old new g (item_shapes arg_shape xs) h)

pub some-still : (xs ys : List GenericArgKind) → ys ≡ xs → xs ≢ [] → ys ≢ []
some-still xs ys same h = λ e. h (sym same ∙ e)

arguments-grows : (old new : List Row) (xs : List GenericArgKind) → Grows old new → AreArguments old xs
    → arguments new xs ≡ arguments old xs
arguments-grows old new [] g h = refl
arguments-grows old new (x ∷ xs) g h = rw (fill-grows old new g (arg_shape x) h.0, arguments-grows old new xs g h.1)
    refl

pub arguments-still : (old new : List Row) (xs ys : List GenericArgKind) → Grows old new → ys ≡ xs → AreArguments old xs
    → arguments new ys ≡ arguments old xs
arguments-still old new xs ys g same h = rw same (arguments-grows old new xs g h)

-- the remembered shifts keep their meaning
pub OwnsShifts-still : {T : Type 0} (shape : T → Shape) (old new : List Row) (args : List (Argument Depth))
    (sort : Sort) (es : List (ParamAt × T)) → Grows old new
    → OwnsShifts shape old args sort es → OwnsShifts shape new args sort es
OwnsShifts-still shape old new args sort [] g h = tt
OwnsShifts-still shape old new args sort (e ∷ es) g h = (
  record {
    value = h.0.value;
    given = h.0.given;
    part = IsPart-grows old new g (shape e.1) h.0.part;
    shifted = fill-grows old new g (shape e.1) h.0.part ∙ h.0.shifted;
  },
  OwnsShifts-still shape old new args sort es g h.1,
)

pub state-still : (old new : List Row) (xs ys : List GenericArgKind) (k : ℕ) (kept : Kept) (es : List (Place × Ty))
    → Grows old new → ys ≡ xs → AreArguments old xs → OwnsMemos old es
    → (let state : Instantiation = record { rule = arguments new ys; under = k; kept = kept; memory = memos new es } in
    state)
    ≡ record { rule = arguments old xs; under = k; kept = kept; memory = memos old es }
state-still old new xs ys k kept es g same h all =
    ap (λ args. record { rule = args; under = k; kept = kept; memory = memos new es })
    (arguments-still old new xs ys g same h)
    ∙ ap (λ m. record { rule = arguments old xs; under = k; kept = kept; memory = m }) (memos-still old new es g all)

-- the handles of a folder with arguments stay among the rows, also with the shifts that it remembers afterwards
module _ {S : Type 0} {items : List Row → S → List GenericArgKind} {owns : List Row → S → Type 0}
    (still_owned : (old new : List Row) (x : S) → Grows old new → owns old x → owns new x)
    (still_items : (old new : List Row) (x : S) → Grows old new → owns old x → items new x ≡ items old x)
    (old new : List Row) (x : S) (es : List (Place × Ty)) (types : List (ParamAt × Ty))
    (consts : List (ParamAt × Const)) where
  pub owned-kept : (types' : List (ParamAt × Ty)) (consts' : List (ParamAt × Const)) → Grows old new
      → OwnsArguments items owns old x es types consts
      → OwnsShifts ty_shape new (arguments old (items old x)) type_sort types'
      → OwnsShifts const_shape new (arguments old (items old x)) const_sort consts'
      → OwnsArguments items owns new x es types' consts'
  owned-kept types' consts' g h of_types of_consts =
      let same = still_items old new x g h.0 in
      let args = arguments-still old new (items old x) (items new x) g same h.1 in (
        still_owned old new x g h.0,
        AreArguments-still old new (items old x) (items new x) g same h.1,
        some-still (items old x) (items new x) same h.2,
        OwnsMemos-still old new es g h.3,
        rw args of_types,
        rw args of_consts,
      )

  pub owned-still : Grows old new → OwnsArguments items owns old x es types consts
      → OwnsArguments items owns new x es types consts
  owned-still g h = owned-kept types consts g h (OwnsShifts-still ty_shape old new _ type_sort types g h.4)
      (OwnsShifts-still const_shape old new _ const_sort consts g h.5)
