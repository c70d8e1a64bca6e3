-- What the answers to a goal mean, if it holds inference variables.
use Rattle.std.specs.Prelude.{◌≡◌, ℕ, List, map, Option, Some, None}
use Rattle.tt_kinds.specs.Tree.{Place, Tree, param, bound, region, term, node, binder, Forest, none, also}
use Rattle.tt_kinds.specs.Reading.{read}
use Rattle.unify.specs.Substitution.{Assignment, GivesClosed, GivesTypes, variable_of}
use Rattle.solver.specs.Derivations.{Implementation, Derives}

-- a type for each variable, in which no variable is bound outside of it
pub record IsAssignment (ρ : Assignment) : Type 0 where
  pub types : GivesTypes ρ
  pub closed : GivesClosed ρ

-- the reading of the variable's tree, or the given one where there is no variable
abbrev pub at_variable : Assignment → Option ℕ → Tree Place → Tree Place
at_variable ρ (Some v) r = read 0 (ρ v)
at_variable ρ None r = r

module _ (ρ : Assignment) where
  abbrev mutual
    -- the reading with each variable replaced by the reading of the variable's tree
    pub assigned : Tree Place → Tree Place
    assigned (param s i name) = param s i name
    assigned (bound s p e) = bound s p e
    assigned (region r) = region r
    assigned (term l rs) = at_variable ρ (variable_of l) (term l (all_assigned rs))
    assigned (node l rs) = node l (all_assigned rs)
    assigned (binder vs r) = binder vs (assigned r)

    -- the same for readings in order
    pub all_assigned : Forest Place → Forest Place
    all_assigned none = none
    all_assigned (also r rs) = also (assigned r) (all_assigned rs)

-- the goal is derived once the variables are replaced, in the assumptions too
abbrev pub DerivesAt : List Implementation → List (Tree Place) → Assignment → Tree Place → Type 0
DerivesAt impls assumptions ρ goal = Derives impls (map (assigned ρ) assumptions) (assigned ρ goal)

-- yes: the goal is derived, whatever types replace the variables
abbrev pub IsYes : List Implementation → List (Tree Place) → Tree Place → Type 0
IsYes impls assumptions goal = (ρ : Assignment) → IsAssignment ρ → DerivesAt impls assumptions ρ goal

-- no: the goal isn't derived, whatever types replace the variables
abbrev pub IsNo : List Implementation → List (Tree Place) → Tree Place → Type 0
IsNo impls assumptions goal = (ρ : Assignment) → IsAssignment ρ → DerivesAt impls assumptions ρ goal → ⊥

-- only: where types replace the variables so that the goal is derived, the goal becomes an instance of the answer
abbrev pub IsOnly : List Implementation → List (Tree Place) → Tree Place → Tree Place → Type 0
IsOnly impls assumptions goal answer = (ρ : Assignment) → IsAssignment ρ → DerivesAt impls assumptions ρ goal
    → (τ : Assignment) × IsAssignment τ × (assigned ρ goal ≡ assigned τ answer)
