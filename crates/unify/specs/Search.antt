-- A search in depth: the order that the search makes, and how far the search is.
use Rattle.std.specs.Prelude.{◌≡◌, ◌⊎◌, ◌++◌, ℕ, List, [], ◌∷◌, Contains, Option, Some, None, ⊤, map}
use Rattle.unify.specs.declared.search.Action.{Action}
use Rattle.unify.specs.declared.search.Action.TheVariants as action
use Rattle.unify.specs.declared.search.Step as code

-- a step of a search: to enter a variable, or to leave it
pub data Step : Type 0 where
  Enter : ℕ → Step
  Leave : ℕ → Step

-- the step of this action
abbrev pub step_by : Action → ℕ → Step
step_by action.Enter v = Enter v
step_by action.Leave v = Leave v

-- the steps that the code keeps
abbrev pub steps_in : List code.Step → List Step
steps_in ss = map (λ s. step_by s.action s.variable) ss

-- the steps that enter the variables
abbrev pub entering : List ℕ → List Step
entering vs = map (λ v. Enter v) vs

-- the variable of the step
abbrev pub step_variable : Step → ℕ
step_variable (Enter v) = v
step_variable (Leave v) = v

-- the variable is in one of the steps
abbrev pub IsPending : List Step → ℕ → Type 0
IsPending [] v = ⊥
IsPending (s ∷ above) v = (v ≡ step_variable s) ⊎ IsPending above v

-- one of the steps leaves the variable
abbrev pub IsOpen : List Step → ℕ → Type 0
IsOpen [] v = ⊥
IsOpen (Enter w ∷ above) v = IsOpen above v
IsOpen (Leave w ∷ above) v = (v ≡ w) ⊎ IsOpen above v

-- `Child v u` says that u is a child of v
module _ (Child : ℕ → ℕ → Type 0) where
  -- u is reached from v, in one step or more
  pub data Reaches : ℕ → ℕ → Type 0 where
    child : {v u : ℕ} → Child v u → Reaches v u
    further : {v w u : ℕ} → Reaches v w → Child w u → Reaches v u

  -- each child of a variable in the list is in front of this variable
  abbrev pub IsOrder : List ℕ → Type 0
  IsOrder xs = (before after : List ℕ) (v u : ℕ) → xs ≡ before ++ v ∷ after → Child v u → Contains before u

  -- the variable is one of the starts, or is reached from one
  abbrev pub IsReached : List ℕ → ℕ → Type 0
  IsReached starts v = Contains starts v ⊎ ((s : ℕ) × Contains starts s × Reaches s v)

  -- the variable is a child of the parent, if there is a parent
  abbrev pub IsChildOf : Option ℕ → ℕ → Type 0
  IsChildOf None u = ⊤
  IsChildOf (Some p) u = Child p u

  -- each variable is a child of the nearest one below that is to be left, or of the parent (the next step is last)
  abbrev pub IsPath : Option ℕ → List Step → Type 0
  IsPath parent [] = ⊤
  IsPath parent (Enter u ∷ above) = IsChildOf parent u × IsPath parent above
  IsPath parent (Leave v ∷ above) = IsChildOf parent v × IsPath (Some v) above

  -- the children of each variable that is to be left are done, or are pending above this variable
  abbrev pub IsKept : List ℕ → List Step → Type 0
  IsKept done [] = ⊤
  IsKept done (Enter u ∷ above) = IsKept done above
  IsKept done (Leave v ∷ above) = ((u : ℕ) → Child v u → Contains done u ⊎ IsPending above u) × IsKept done above

  -- how far the search is: which steps are pending, which variables were entered, and which ones are done
  pub record Searches (starts : List ℕ) (pending : List Step) (entered done : List ℕ) : Type 0 where
    pub order : IsOrder done
    pub path : IsPath None pending
    pub kept : IsKept done pending
    pub opens : (v : ℕ) → Contains entered v → Contains done v ⊎ IsOpen pending v
    pub begins : (v : ℕ) → Contains starts v → Contains done v ⊎ IsPending pending v
    pub only_done : (v : ℕ) → Contains done v → IsReached starts v
    pub only_pending : (v : ℕ) → IsPending pending v → IsReached starts v
