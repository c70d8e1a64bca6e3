-- The contents of a folder's memory, and its meaning.
use Rattle.std.specs.Prelude.{ℕ, List, [], ◌∷◌, map, Bool, ◌&&◌, nat_eq, ⊤}
use Rattle.tt_kinds.specs.Count.{TypeAt}
use Rattle.tt_kinds.specs.Kinds.{ty_shape}
use Rattle.tt_kinds.specs.Handle.{Ty}
use Rattle.tt_interner.specs.Rows.{Row}
use Rattle.tt_fold.specs.Steps.{IsPartOf, tree_in}
use Rattle.tt_fold.specs.Remember.{Memo}
use Rattle.tt_fold.specs.declared.memory.Place.{Place}

-- a type under a number of binders
abbrev pub place_of : Ty → ℕ → Place
place_of ty k = record { ty = ty; under = k }

-- the places are the same
abbrev pub same_place : Place → Place → Bool
same_place p q = nat_eq p.ty.number q.ty.number && nat_eq p.under q.under

-- a place, seen as a tree
abbrev pub type_at : List Row → Ty → ℕ → TypeAt
type_at rows ty k = record { standing = tree_in rows (ty_shape ty); under = k }

-- a place and its result, seen as trees
abbrev pub memo_at : List Row → Ty → ℕ → Ty → Memo
memo_at rows before k after = record { place = type_at rows before k; result = tree_in rows (ty_shape after) }

-- the remembered results, seen as trees
abbrev pub memos : List Row → List (Place × Ty) → List Memo
memos rows es = map (λ e. memo_at rows e.0.ty e.0.under e.1) es

-- the handles in the memory name rows
abbrev pub OwnsMemos : List Row → List (Place × Ty) → Type 0
OwnsMemos rows [] = ⊤
OwnsMemos rows (e ∷ es) = IsPartOf rows (ty_shape e.0.ty) × IsPartOf rows (ty_shape e.1) × OwnsMemos rows es
