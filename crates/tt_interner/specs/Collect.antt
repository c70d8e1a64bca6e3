-- The promises of calls that collect the items of an iterator.
use Rattle.std.specs.Prelude.{◌≡◌, ◌⊎◌, ℕ, ◌*◌, ◌<◌, ◌^◌, List, Option, Some, Result, Ok, Err, MatchOption, length, map}
use Rattle.std.specs.Prelude.{take}
use Rattle.std.specs.Iterator.{Drains, Yields, YieldsThen}
use Rattle.std.specs.Mem.{type_size}
use denote.RattleType.{RattleType}
use Rattle.tt_index.specs.declared.refusal.Refusal.{Refusal}
use Rattle.tt_index.specs.declared.refusal.Refusal.TheVariants.{Memory}
use Rattle.tt_interner.specs.Rows.{Row}
use Rattle.tt_interner.specs.Stored.{Terms, Builds, LacksItems, most_in_place}

-- as many items as are collected without allocation fit into memory side by side, as they do in any Rust array
abbrev pub FewFit : RattleType → Type 0
FewFit T = most_in_place * type_size T < 2 ^ 63

-- the iterator yields more items than are collected without allocation
abbrev pub YieldsMany : {I A : Type 0} → (I → Option A → I → Type 0) → I → Type 0
YieldsMany {I} {A} gives it = (items : List A) × (rest : I) × Yields gives it items rest
    × (most_in_place < length items)

-- the iterator yields more values than are collected without allocation, and no error before them
abbrev pub YieldsManyOk : {I T E : Type 0} → (I → Option (Result T E) → I → Type 0) → I → Type 0
YieldsManyOk {I} {T} gives it =
    (values : List T) × (rest : I) × Yields gives it (map Ok values) rest × (most_in_place < length values)

-- the iterator yields some values, and then the error
abbrev pub YieldsErr : {I T E : Type 0} → (I → Option (Result T E) → I → Type 0) → I → E → Type 0
YieldsErr {I} {T} gives it e = (values : List T) × (rest : I) × YieldsThen gives it (map Ok values) (Some (Err e)) rest

-- the first `count` places hold all items of the iterator, or all places hold items and the next item comes after them
abbrev pub Fills : {I A : Type 0} → (I → Option A → I → Type 0) → I → I → List A → ℕ → Option A → Type 0
Fills {I} gives it rest places count next =
    MatchOption next (Drains gives it (take count places)) (λ item. YieldsThen gives it places (Some item) rest)

-- the result is the list of these items, as a building call returns it, or `Memory` for more items than `most_in_place`,
-- and nothing changes
abbrev pub BuildsCollected : {H A : Type 0} → Result H Refusal → (H → ℕ) → Terms → Terms → (List A → Row) → List A
    → Type 0
BuildsCollected result number old new row items =
    Builds result number old new (row items) ⊎ (LacksItems result items × (new ≡ old))

-- the result is the list of all items, as a building call returns it, or `Memory` for more items than `most_in_place`
abbrev pub BuildsFrom : {H I A : Type 0} → Result H Refusal → (H → ℕ) → Terms → Terms → (List A → Row)
    → (I → Option A → I → Type 0) → I → Type 0
BuildsFrom {A} result number old new row gives it =
    ((items : List A) × Drains gives it items × Builds result number old new (row items))
    ⊎ (YieldsMany gives it × (result ≡ Err Memory) × (new ≡ old))
