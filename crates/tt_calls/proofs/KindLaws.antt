-- The kinds that calls name, over plain variables.
use Rattle.std.proofs.Common.{◌≡◌, ℕ, ◌<◌, List, ap}
use Rattle.tt_kinds.specs.Label.{Name, Sort}
use Rattle.tt_kinds.specs.Tree as tree
use Rattle.tt_kinds.specs.Tree.{Depth}
use Rattle.tt_kinds.specs.Label.{Entry}
use Rattle.tt_kinds.specs.Shape as shape
use Rattle.tt_kinds.specs.Shape.{fill, name_of, rename_entry, IsNamedKind}
use Rattle.tt_kinds.specs.declared.table.Table.TheVariants.{Symbols}
use Rattle.tt_interner.specs.Rows.{size, meaning}
use Rattle.tt_interner.specs.Stored.{Terms}
use Rattle.tt_calls.specs.CallForm.{param, bound}
use Rattle.tt_calls.specs.Told.{Told}
use Rattle.tt_calls.specs.Build.{IsKindOf}

-- a parameter
pub param-kind : (terms : Terms) (e : List Told) (s : Sort) (i n : ℕ) (bytes : Name) → n < size terms.rows Symbols
    → name_of (meaning terms.rows) n ≡ bytes → IsKindOf terms e (param s i bytes) (shape.param s i n)
unfolding fill
param-kind terms e s i n bytes h m =
    record { parts = h; means = ap (tree.param s i) m; named = tt; deep = (λ d. d, λ d. d) }

-- a bound variable
pub bound-kind : (terms : Terms) (e : List Told) (s : Sort) (d : Depth) (x : Entry ℕ) (y : Entry Name) → IsNamedKind (size terms.rows) x.kind
    → rename_entry (name_of (meaning terms.rows)) x ≡ y → IsKindOf terms e (bound s d y) (shape.bound s d x)
unfolding fill
bound-kind terms e s d x y h m =
    record { parts = h; means = ap (tree.bound s d) m; named = tt; deep = (λ g. g, λ g. g) }
