-- Triangular bindings, whose entries may hold bound variables, and the one substitution that they are.
-- A variable that stands for another one has that variable's tree as its entry.
use Rattle.std.specs.Prelude.{◌≡◌, ◌+◌, ◌<◌, ◌≤◌, ◌⊎◌, ℕ, zero, suc, List, Option, Some, None}
use Rattle.tt_kinds.specs.Label.{Name, VarKind, Label}
use Rattle.tt_kinds.specs.Tree.{Depth, Tree, param, bound, region, term, node, binder, Forest, none, also}
use Rattle.tt_kinds.specs.Reading.{outer_binder}
use Rattle.unify.specs.Substitution.{Substitution, Assignment, apply, assign, variable_in, IsWithout, Solves}

-- the entry with σ applied to it
abbrev pub resolved : Substitution → Option (Tree Depth) → Option (Tree Depth)
resolved σ (Some t) = Some (apply σ t)
resolved σ None = None

-- σ binds each variable to its entry, with σ applied to it
abbrev pub Represents : Substitution → Substitution → Type 0
Represents entries σ = (v : ℕ) → σ v ≡ resolved σ (entries v)

-- each variable in the tree has a rank below k
abbrev pub IsBelow : (ℕ → ℕ) → ℕ → Tree Depth → Type 0
IsBelow rank k t = (w : ℕ) → k ≤ rank w → IsWithout w t

-- each variable in an entry ranks below the entry's own variable
abbrev pub IsRanked : (ℕ → ℕ) → Substitution → Type 0
IsRanked rank entries = (v : ℕ) (t : Tree Depth) → entries v ≡ Some t → IsBelow rank (rank v) t

-- the variables can be ranked, so none is within itself
pub record IsAcyclic (entries : Substitution) : Type 0 where
  pub rank : ℕ → ℕ
  pub falls : IsRanked rank entries

-- only the first n variables are bound
abbrev pub BindsBelow : ℕ → Substitution → Type 0
BindsBelow n entries = (v : ℕ) → n ≤ v → entries v ≡ None

-- the entries, resolved n times: for n variables, the substitution that the entries are
abbrev pub model : ℕ → Substitution → Substitution
model zero entries v = None
model (suc n) entries v = resolved (model n entries) (entries v)

-- the later entries bind one more variable, to this tree
pub record Binds (entries : Substitution) (v : ℕ) (t : Tree Depth) (later : Substitution) : Type 0 where
  pub free : entries v ≡ None
  pub own : later v ≡ Some t
  pub others : (w : ℕ) → (w ≡ v → ⊥) → later w ≡ entries w

-- the entry, if it is a variable itself
abbrev pub link_of : Option ℕ → Tree Depth → Option (Tree Depth)
link_of (Some w) t = Some t
link_of None t = None

-- the same for an entry that may have no tree
abbrev pub only_link : Option (Tree Depth) → Option (Tree Depth)
only_link (Some t) = link_of (variable_in t) t
only_link None = None

-- the entries that are variables themselves
abbrev pub links : Substitution → Substitution
links entries v = only_link (entries v)

-- the variable is in the tree
abbrev pub Holds : ℕ → Tree Depth → Type 0
Holds u t = IsWithout u t → ⊥

-- u is in what v is bound to
abbrev pub IsChild : Substitution → ℕ → ℕ → Type 0
IsChild entries v u = (t : Tree Depth) × ((entries v ≡ Some t) × Holds u t)

-- a variable that stands for another one comes after it, in this order
abbrev pub StandsBelow : (ℕ → ℕ) → Substitution → Type 0
StandsBelow order entries = (v w : ℕ) (t : Tree Depth) → entries v ≡ Some t → variable_in t ≡ Some w
    → order w < order v

-- no variable of a binder around the tree is in it
abbrev pub IsClosed : Tree Depth → Type 0
IsClosed t = outer_binder t ≡ 0

-- each binding is so
abbrev pub AreClosed : Substitution → Type 0
AreClosed entries = (v : ℕ) (t : Tree Depth) → entries v ≡ Some t → IsClosed t

abbrev mutual
  -- how many nodes a tree has
  pub weight : Tree Depth → ℕ
  weight (param s i name) = 0
  weight (bound s d e) = 0
  weight (region r) = 0
  weight (term l ts) = suc (weights ts)
  weight (node l ts) = suc (weights ts)
  weight (binder vs t) = suc (weight t)

  -- the same for trees in order
  pub weights : Forest Depth → ℕ
  weights none = 0
  weights (also t ts) = weight t + weights ts

-- pairs of trees
abbrev pub Pairs : Type 1
Pairs = Tree Depth → Tree Depth → Type 0

-- the assignment makes each pair equal whose left tree becomes one of fewer than n nodes
abbrev pub Below : Assignment → ℕ → Pairs → Type 0
Below ρ n P = (t u : Tree Depth) → P t u → weight (assign ρ t) < n → assign ρ t ≡ assign ρ u

-- if all pairs of fewer than n nodes become equal, so do the compared ones of n nodes, since their parts are smaller
abbrev pub Rests : Substitution → Pairs → Pairs → Type 0
Rests entries pending compared = (ρ : Assignment) → Solves ρ entries → (n : ℕ)
    → Below ρ n pending → Below ρ n compared → Below ρ (suc n) compared

module _ (entries : Substitution) (pending compared : Pairs) where
  mutual
    -- two trees that what solves the entries makes equal, if it makes the pending and the compared pairs equal
    pub data Linked : Tree Depth → Tree Depth → Type 0 where
      is_pending : {t u : Tree Depth} → pending t u → Linked t u
      is_compared : {t u : Tree Depth} → compared t u → Linked t u
      is_equal : {t u : Tree Depth} → ((ρ : Assignment) → Solves ρ entries → assign ρ t ≡ assign ρ u) → Linked t u
      looked_up : {t u : Tree Depth} (a b : Tree Depth)
          → ((ρ : Assignment) → Solves ρ entries → assign ρ t ≡ assign ρ a)
          → ((ρ : Assignment) → Solves ρ entries → assign ρ u ≡ assign ρ b) → Linked a b → Linked t u
      by_parts : {t u : Tree Depth} → HasParts t u → Linked t u

    -- two trees of one label, whose parts are linked, or one tree
    pub data HasParts : Tree Depth → Tree Depth → Type 0 where
      are_one : {t : Tree Depth} → HasParts t t
      in_term : {l : Label Name} {ts us : Forest Depth} → AreLinked ts us → HasParts (term l ts) (term l us)
      in_node : {l : Label Name} {ts us : Forest Depth} → AreLinked ts us → HasParts (node l ts) (node l us)
      in_binder : {vs : List (VarKind Name)} {t u : Tree Depth} → Linked t u → HasParts (binder vs t) (binder vs u)

    -- trees in order that are linked
    pub data AreLinked : Forest Depth → Forest Depth → Type 0 where
      done : AreLinked none none
      next : {t u : Tree Depth} {ts us : Forest Depth} → Linked t u → AreLinked ts us
          → AreLinked (also t ts) (also u us)

-- a step of the loop adds equations, keeps pending pairs linked, and links the parts of the pairs that it compares
pub record Steps (entries : Substitution) (pending compared : Pairs)
    (later : Substitution) (pending' compared' : Pairs) : Type 0 where
  pub solves : (ρ : Assignment) → Solves ρ later → Solves ρ entries
  pub kept : (t u : Tree Depth) → compared t u → compared' t u
  pub linked : (t u : Tree Depth) → pending t u → Linked later pending' compared' t u
  pub noted : (t u : Tree Depth) → compared' t u → compared t u ⊎ HasParts later pending' compared' t u

-- what a search found: ranks below `next` for the variables that it met, each above those in its entry
pub record Searched (entries : Substitution) (found : ℕ → Option ℕ) (next : ℕ) : Type 0 where
  pub below : (v r : ℕ) → found v ≡ Some r → r < next
  pub above : (v r : ℕ) → found v ≡ Some r → (u : ℕ) → IsChild entries v u → (q : ℕ) × ((found u ≡ Some q) × (q < r))
