-- What opening a binder gives: the binder's own variables are replaced by arguments, and other variables have their
-- indices outside of the binder.
use Rattle.std.specs.Prelude.{ℕ, suc, ◌-◌, List, [], length, nat_eq, nat_lt, if◌then◌else◌, ◌≡◌, ◌≢◌, ◌≤◌, ◌⊎◌, ⊤}
use Rattle.std.specs.Prelude.{IsSome}
use Rattle.tt_index.specs.declared.refusal.Refusal.{Refusal}
use Rattle.tt_index.specs.declared.refusal.Refusal.TheVariants.{Memory, TableFull, GreatestIndex, NoArguments}
use Rattle.tt_index.specs.declared.refusal.Refusal.TheVariants.{ArgOutOfRange, ArgKind}
use Rattle.tt_kinds.specs.Label.{Name, Sort, Entry}
use Rattle.tt_kinds.specs.Tree.{Depth, at, canonical, Place, own, outer, apart, Tree, param, bound, region, term, node}
use Rattle.tt_kinds.specs.Tree.{binder, Forest, none, also}
use Rattle.tt_kinds.specs.Reading.{read, keep, Fits}
use Rattle.tt_kinds.specs.Argument.{Argument, argument, given, readings}
use Rattle.tt_kinds.specs.Plain.{given_under}
use Rattle.tt_kinds.specs.Cause.{HasOtherSort}
use Rattle.tt_interner.specs.Stored.{Terms}
use Rattle.tt_fold.specs.Leaves.{with_leaves}
use Rattle.tt_fold.specs.Stands.{IsPartUnbuilt}

-- A variable as it is read, under k binders of a binder's contents: if it is the binder's own, its argument's reading
-- takes its place, as for a parameter of the variable's number.
abbrev pub put_variable : List (Argument Place) → ℕ → Sort → Place → Entry Name → Tree Place
put_variable args k s (own d) e = if nat_eq d k then given args s e.var [] else bound s (own d) e
put_variable args k s (outer j) e = bound s (outer j) e
put_variable args k s apart e = bound s apart e

-- the reading of a binder's contents, under k binders in them, with each of the binder's own variables replaced by its
-- argument's reading
abbrev pub put_own : List (Argument Place) → ℕ → Tree Place → Tree Place
put_own args k r = with_leaves (put_variable args) keep k r

-- The same for a variable as it is written: if it is the binder's own, its argument takes its place, shifted past the k
-- binders. A variable of one of these k binders stays. The index of a variable that is bound outside of the binder is
-- one less.
abbrev pub open_variable : List (Argument Depth) → ℕ → Sort → Depth → Entry Name → Tree Depth
open_variable args k s (at d) e = if nat_lt d k then bound s
    (at d) e else if nat_eq d k then given_under args k s e.var [] else bound s (at (d - 1)) e
open_variable args k s canonical e = bound s canonical e

-- a tree under k binders of a binder's contents, without the binder
abbrev pub open_tree : ℕ → List (Argument Depth) → Tree Depth → Tree Depth
open_tree k args t = with_leaves (open_variable args) keep k t

-- the result reads as the contents do under the binder, with the arguments' readings for the binder's own variables
abbrev pub IsOpened : List (Argument Depth) → Tree Depth → Tree Depth → Type 0
IsOpened args t r = read 0 r ≡ put_own (readings args) 0 (read 1 t)

module _ (P : ℕ → Sort → Depth → Entry Name → Type 0) where
  abbrev mutual
    -- a bound variable that meets P occurs in the tree, which is under k binders
    pub HasVariable : ℕ → Tree Depth → Type 0
    HasVariable k (param s i name) = ⊥
    HasVariable k (bound s d e) = P k s d e
    HasVariable k (region r) = ⊥
    HasVariable k (term l ts) = HasVariable_among k ts
    HasVariable k (node l ts) = HasVariable_among k ts
    HasVariable k (binder vs t) = HasVariable (suc k) t

    pub HasVariable_among : ℕ → Forest Depth → Type 0
    HasVariable_among k none = ⊥
    HasVariable_among k (also t ts) = HasVariable k t ⊎ HasVariable_among k ts

module _ (P : ℕ → Sort → Depth → Entry Name → Type 0) where
  abbrev mutual
    -- each bound variable of the tree, which is under k binders, meets P
    pub EachVariable : ℕ → Tree Depth → Type 0
    EachVariable k (param s i name) = ⊤
    EachVariable k (bound s d e) = P k s d e
    EachVariable k (region r) = ⊤
    EachVariable k (term l ts) = EachVariable_among k ts
    EachVariable k (node l ts) = EachVariable_among k ts
    EachVariable k (binder vs t) = EachVariable (suc k) t

    pub EachVariable_among : ℕ → Forest Depth → Type 0
    EachVariable_among k none = ⊤
    EachVariable_among k (also t ts) = EachVariable k t × EachVariable_among k ts

-- the variable, under k binders of a binder's contents, is the binder's own
abbrev pub IsOwn : ℕ → Depth → Type 0
IsOwn k (at d) = d ≡ k
IsOwn k canonical = ⊥

-- if the variable is the binder's own, it has an argument of its sort
abbrev pub IsGivenAt : List (Argument Depth) → ℕ → Sort → Depth → Entry Name → Type 0
IsGivenAt args k s d e = IsOwn k d → IsSome (argument args s e.var)

-- each of the binder's own variables in a tree under k binders of the contents has an argument of its sort
abbrev pub IsGiven : List (Argument Depth) → ℕ → Tree Depth → Type 0
IsGiven args k t = EachVariable (IsGivenAt args) k t

-- the refusal's cause is in a tree under k binders of the contents, and in the arguments: one of the binder's own
-- variables has no argument, or an argument of another sort
abbrev pub OpeningCause : List (Argument Depth) → ℕ → Tree Depth → Refusal → Type 0
OpeningCause args k t NoArguments = (args ≡ []) × HasVariable (λ j s d e. IsOwn j d) k t
OpeningCause args k t (ArgOutOfRange index) = (args ≢ []) × HasVariable (λ j s d e. IsOwn j d × (e.var ≡ index)) k t
    × (length args ≤ index)
OpeningCause args k t (ArgKind index) = HasVariable (λ j s d e. IsOwn j d × (e.var ≡ index) × HasOtherSort args s e.var)
    k t
OpeningCause args k t _ = ⊥

-- why a binder isn't opened, in the interner at the end of the call: memory was refused, a term or a list of the plain
-- result would be a new row of a table that is full, the plain result doesn't fit, or a cause holds
abbrev pub IsOpeningReason : Terms → List (Argument Depth) → Tree Depth → Refusal → Type 0
IsOpeningReason terms args t Memory = ⊤
IsOpeningReason terms args t TableFull = IsPartUnbuilt terms (open_tree 0 args t) TableFull
IsOpeningReason terms args t GreatestIndex = Fits (put_own (readings args) 0 (read 1 t)) → ⊥
IsOpeningReason terms args t e = OpeningCause args 0 t e
