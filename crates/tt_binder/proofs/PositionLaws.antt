-- The argument folder's walk takes apart each type that holds a parameter and is none, at most once under as many
-- binders.
use Rattle.std.proofs.Common.{◌≡◌, ℕ, refl, ap, subst, Bool, true, false}
use Rattle.tt_kinds.specs.Label.{Name, Label}
use Rattle.tt_kinds.specs.Tree.{Depth, Tree, Forest, term, node}
use Rattle.tt_kinds.specs.Param.{holds_param_among, IsGeneric_among}
use Rattle.tt_kinds.specs.Count.{TypeAt, generic_types}
use Rattle.tt_kinds.proofs.ParamLaws.{IsGeneric-never}
use Rattle.tt_fold.specs.Counts.{Standing}
use Rattle.tt_fold.specs.Places.{CountsPairs, IsIn, IsPlaceIn}
use Rattle.tt_fold.specs.Remember.{IsTaken}
use Rattle.tt_fold.specs.Walk.{Walks}
use Rattle.tt_fold.proofs.PlaceLaws.{IsGeneric, generic_types-have}
use Rattle.tt_fold.proofs.CountLaws.{pairs_walked}
use Rattle.tt_binder.specs.Instantiation.{Args, Instantiation, at_first, instantiation, arg_hooks}
use Rattle.tt_binder.proofs.WalkLaws.{instantiation_laws}

-- a parameter among the children is found
found : (l : Label Name) (ts : Forest Depth) → IsGeneric_among ts → holds_param_among ts ≡ true
found l ts g = by (holds_param_among ts) refl
  where
    by : (b : Bool) → b ≡ holds_param_among ts → holds_param_among ts ≡ true
    by true e = rw (← e) refl
    by false e = absurd (IsGeneric-never (node l ts) (rw (← e) refl) g)

taken-generic : (args : Args) (k : ℕ) (t : Tree Depth) → IsTaken instantiation args k t → IsGeneric t
taken-generic args k (term l ts) taken = rw (taken.0, found l ts taken.1) refl
taken-generic args k _ taken = absurd taken

-- from outside of each binder
pub pairs_counted : (args : Args) (s s' : Standing Instantiation) (t r : Tree Depth) → s.state ≡ at_first args → Walks arg_hooks s t r s'
    → CountsPairs (generic_types 0 t) s.counters.descents s'.counters.descents
pairs_counted args s s' t r is w = pairs_walked instantiation instantiation_laws (generic_types 0 t) s s' t (ap (λ q. q.memory) is) among r w
  where
    among : (p : TypeAt) → IsPlaceIn p s.state.under t → IsTaken instantiation s.state.rule p.under p.standing → IsIn p (generic_types 0 t)
    among p place taken =
        generic_types-have p 0 t (subst (λ k. IsPlaceIn p k t) (ap (λ q. q.under) is) place) (taken-generic s.state.rule p.under p.standing taken)
