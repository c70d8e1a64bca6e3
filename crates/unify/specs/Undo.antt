-- Entries, and what they were when fewer variables were there, and fewer of them were bound.
use Rattle.std.specs.Prelude.{ℕ, List, [], ◌∷◌, Option, None, set, take, drop}

module _ {T : Type 0} where
  -- the entries without what these variables are bound to
  abbrev pub unbound : List ℕ → List (Option T) → List (Option T)
  unbound [] es = es
  unbound (v ∷ vs) es = set (unbound vs es) v None

  -- the entries when n variables were there, and k of them were bound: `bound` lists the bound ones, in this order
  abbrev pub entries_at : ℕ → ℕ → List ℕ → List (Option T) → List (Option T)
  entries_at n k bound es = take n (unbound (drop k bound) es)
