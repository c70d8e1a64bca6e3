-- The pending steps of a search in depth, where steps are added or taken away.
use Rattle.std.proofs.Common.{◌≡◌, refl, ℕ, zero, suc, ◌<◌, List, [], ◌∷◌, ◌++◌, Option, Some, Contains}
use Rattle.std.proofs.Common.{length, get_or, sym, subst, ◌⊎◌, inl, inr, arith}
use Rattle.std.proofs.lemmas.List.Elements.{Contains-append_right}
use Rattle.unify.specs.Search as search_of
use Rattle.unify.specs.Search.{Step, Enter, Leave, entering, step_variable, IsPending, IsOpen, Reaches, IsChildOf, IsPath, IsKept}

-- a variable in a list is the first one, or in the rest
pub contains_cases : (x : ℕ) (xs : List ℕ) (v : ℕ) → Contains (x ∷ xs) v → (v ≡ x) ⊎ Contains xs v
contains_cases x xs v at = by at.0 at.1 at.2
  where
    by : (k : ℕ) → k < length (x ∷ xs) → get_or (x ∷ xs) k v ≡ v → (v ≡ x) ⊎ Contains xs v
    by zero within is = inl (sym is)
    by (suc k) within is = inr (k, omega (arith, within), is)

-- a variable is in some steps with more steps above just if the variable is in the lower or in the upper ones
pub pending_left : (ss ts : List Step) (v : ℕ) → IsPending ss v → IsPending (ss ++ ts) v
pending_left [] ts v at = absurd at
pending_left (s ∷ ss) ts v (inl is) = inl is
pending_left (s ∷ ss) ts v (inr at) = inr (pending_left ss ts v at)

pub pending_right : (ss ts : List Step) (v : ℕ) → IsPending ts v → IsPending (ss ++ ts) v
pending_right [] ts v at = at
pending_right (s ∷ ss) ts v at = inr (pending_right ss ts v at)

pub pending_cases : (ss ts : List Step) (v : ℕ) → IsPending (ss ++ ts) v → IsPending ss v ⊎ IsPending ts v
pending_cases [] ts v at = inr at
pending_cases (s ∷ ss) ts v (inl is) = inl (inl is)
pending_cases (s ∷ ss) ts v (inr at) = elim (pending_cases ss ts v at) [ inl old ↦ inl (inr old) | inr own ↦ inr own ]

-- the variables of steps that enter are the ones that were given
pub pending_entering : (us : List ℕ) (v : ℕ) → Contains us v → IsPending (entering us) v
pending_entering [] v at = absurd (omega (arith, at.1))
pending_entering (u ∷ us) v at = elim (contains_cases u us v at) [
  | inl is ↦ inl is
  | inr rest ↦ inr (pending_entering us v rest)
]

pub entering_pending : (us : List ℕ) (v : ℕ) → IsPending (entering us) v → Contains us v
entering_pending [] v at = absurd at
entering_pending (u ∷ us) v (inl is) = (0, omega arith, sym is)
entering_pending (u ∷ us) v (inr at) = Contains-append_right (u ∷ []) us v (entering_pending us v at)

-- the same for the variables that steps leave
pub open_left : (ss ts : List Step) (v : ℕ) → IsOpen ss v → IsOpen (ss ++ ts) v
open_left [] ts v at = absurd at
open_left (Enter w ∷ ss) ts v at = open_left ss ts v at
open_left (Leave w ∷ ss) ts v (inl is) = inl is
open_left (Leave w ∷ ss) ts v (inr at) = inr (open_left ss ts v at)

pub open_right : (ss ts : List Step) (v : ℕ) → IsOpen ts v → IsOpen (ss ++ ts) v
open_right [] ts v at = at
open_right (Enter w ∷ ss) ts v at = open_right ss ts v at
open_right (Leave w ∷ ss) ts v at = inr (open_right ss ts v at)

pub open_cases : (ss ts : List Step) (v : ℕ) → IsOpen (ss ++ ts) v → IsOpen ss v ⊎ IsOpen ts v
open_cases [] ts v at = inr at
open_cases (Enter w ∷ ss) ts v at = open_cases ss ts v at
open_cases (Leave w ∷ ss) ts v (inl is) = inl (inl is)
open_cases (Leave w ∷ ss) ts v (inr at) = elim (open_cases ss ts v at) [ inl old ↦ inl (inr old) | inr own ↦ inr own ]

-- if one of the steps leaves a variable, then one below the last step does, or the variable is the last step's
pub open_popped : (ss : List Step) (s : Step) (v : ℕ) → IsOpen (ss ++ s ∷ []) v → IsOpen ss v ⊎ (v ≡ step_variable s)
open_popped ss (Enter w) v at = elim (open_cases ss (Enter w ∷ []) v at) [ inl old ↦ inl old | inr none ↦ absurd none ]
open_popped ss (Leave w) v at = elim (open_cases ss (Leave w ∷ []) v at) [
  | inl old ↦ inl old
  | inr own ↦ elim own [ inl is ↦ inr is | inr none ↦ absurd none ]
]

module _ (Child : ℕ → ℕ → Type 0) where
  -- the lower steps of a path are a path
  pub path_left : (parent : Option ℕ) (ss ts : List Step) → IsPath Child parent (ss ++ ts) → IsPath Child parent ss
  path_left parent [] ts path = tt
  path_left parent (Enter u ∷ ss) ts path = (path.0, path_left parent ss ts path.1)
  path_left parent (Leave u ∷ ss) ts path = (path.0, path_left (Some u) ss ts path.1)

  -- steps that enter children of the parent are a path
  pub path_entering : (parent : Option ℕ) (us : List ℕ) → ((u : ℕ) → Contains us u → IsChildOf Child parent u)
      → IsPath Child parent (entering us)
  path_entering parent [] all = tt
  path_entering parent (u ∷ us) all =
      (all u (0, omega arith, refl), path_entering parent us (λ w at. all w (Contains-append_right (u ∷ []) us w at)))

  -- a path whose last step enters a variable goes on with this variable's children
  pub path_pushed : (parent : Option ℕ) (ss : List Step) (v : ℕ) (us : List ℕ)
      → IsPath Child parent (ss ++ Enter v ∷ []) → ((u : ℕ) → Contains us u → Child v u)
      → IsPath Child parent (ss ++ Leave v ∷ entering us)
  path_pushed parent [] v us path all = (path.0, path_entering (Some v) us all)
  path_pushed parent (Enter u ∷ ss) v us path all = (path.0, path_pushed parent ss v us path.1 all)
  path_pushed parent (Leave u ∷ ss) v us path all = (path.0, path_pushed (Some u) ss v us path.1 all)

  -- a variable v that the last step enters is reached from itself if v is the parent p, or reaches p
  path_back : (p : ℕ) (ss : List Step) (v : ℕ) → IsPath Child (Some p) (ss ++ Enter v ∷ [])
      → (p ≡ v) ⊎ Reaches Child v p → Reaches Child v v
  path_back p [] v path (inl same) = search_of.child (subst (λ x. Child x v) same path.0)
  path_back p [] v path (inr reaches) = search_of.further reaches path.0
  path_back p (Enter u ∷ ss) v path from = path_back p ss v path.1 from
  path_back p (Leave u ∷ ss) v path (inl same) =
      path_back u ss v path.1 (inr (search_of.child (subst (λ x. Child x u) same path.0)))
  path_back p (Leave u ∷ ss) v path (inr reaches) = path_back u ss v path.1 (inr (search_of.further reaches path.0))

  -- a variable is reached from itself if the last step enters the variable and a step below leaves the variable
  pub path_cycle : (parent : Option ℕ) (ss : List Step) (v : ℕ) → IsPath Child parent (ss ++ Enter v ∷ [])
      → IsOpen ss v → Reaches Child v v
  path_cycle parent [] v path at = absurd at
  path_cycle parent (Enter u ∷ ss) v path at = path_cycle parent ss v path.1 at
  path_cycle parent (Leave u ∷ ss) v path (inl is) = path_back u ss v path.1 (inl (sym is))
  path_cycle parent (Leave u ∷ ss) v path (inr at) = path_cycle (Some u) ss v path.1 at

  -- the last step is taken away, and the step's variable is done
  pub kept_popped : (done later : List ℕ) (ss : List Step) (s : Step) → ((u : ℕ) → Contains done u → Contains later u)
      → Contains later (step_variable s) → IsKept Child done (ss ++ s ∷ []) → IsKept Child later ss
  kept_popped done later [] s more own kept = tt
  kept_popped done later (Enter w ∷ ss) s more own kept = kept_popped done later ss s more own kept
  kept_popped done later (Leave w ∷ ss) s more own kept =
      (λ u c. by u (kept.0 u c), kept_popped done later ss s more own kept.1)
    where
      popped : (u : ℕ) → IsPending ss u ⊎ IsPending (s ∷ []) u → Contains later u ⊎ IsPending ss u
      popped u (inl old) = inr old
      popped u (inr (inl is)) = inl (subst (Contains later) (sym is) own)
      popped u (inr (inr none)) = absurd none

      by : (u : ℕ) → Contains done u ⊎ IsPending (ss ++ s ∷ []) u → Contains later u ⊎ IsPending ss u
      by u (inl at) = inl (more u at)
      by u (inr at) = popped u (pending_cases ss (s ∷ []) u at)

  -- where no step leaves a variable, no children are waited for
  pub kept_entering : (done us : List ℕ) → IsKept Child done (entering us)
  kept_entering done [] = tt
  kept_entering done (u ∷ us) = kept_entering done us

  -- a variable is to be left, with the variable's children pending above
  pub kept_pushed : (done : List ℕ) (ss : List Step) (v : ℕ) (us : List ℕ) → ((u : ℕ) → Child v u → Contains us u)
      → IsKept Child done (ss ++ Enter v ∷ []) → IsKept Child done (ss ++ Leave v ∷ entering us)
  kept_pushed done [] v us all kept = (λ u c. inr (pending_entering us u (all u c)), kept_entering done us)
  kept_pushed done (Enter w ∷ ss) v us all kept = kept_pushed done ss v us all kept
  kept_pushed done (Leave w ∷ ss) v us all kept = (λ u c. by u (kept.0 u c), kept_pushed done ss v us all kept.1)
    where
      still : (u : ℕ) → IsPending ss u ⊎ IsPending (Enter v ∷ []) u → IsPending (ss ++ Leave v ∷ entering us) u
      still u (inl old) = pending_left ss (Leave v ∷ entering us) u old
      still u (inr (inl is)) = pending_right ss (Leave v ∷ entering us) u (inl is)
      still u (inr (inr none)) = absurd none

      by : (u : ℕ) → Contains done u ⊎ IsPending (ss ++ Enter v ∷ []) u
          → Contains done u ⊎ IsPending (ss ++ Leave v ∷ entering us) u
      by u (inl at) = inl at
      by u (inr at) = inr (still u (pending_cases ss (Enter v ∷ []) u at))

  -- the children of the variable that the last step leaves are done
  pub kept_top : (done : List ℕ) (ss : List Step) (v : ℕ) → IsKept Child done (ss ++ Leave v ∷ [])
      → (u : ℕ) → Child v u → Contains done u
  kept_top done [] v kept u c = elim (kept.0 u c) [ inl at ↦ at | inr none ↦ absurd none ]
  kept_top done (Enter w ∷ ss) v kept u c = kept_top done ss v kept u c
  kept_top done (Leave w ∷ ss) v kept u c = kept_top done ss v kept.1 u c
