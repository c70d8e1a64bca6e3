-- Variables of the binder just outside of a value, and whether they agree with the binder's list.
use Rattle.std.specs.Prelude.{◌≡◌, ◌⊎◌, ℕ, suc, ◌+◌, ◌-◌, ◌≤◌, List, ⊤}
use Rattle.tt_index.specs.Greatest.{greatest}
use Rattle.tt_kinds.specs.Count.{TypeAt}
use Rattle.tt_kinds.specs.Handle.{BoundVarKinds}
use Rattle.tt_kinds.specs.Label.{Name, VarKind}
use Rattle.tt_kinds.specs.Matched.{IsEntryOf}
use Rattle.tt_kinds.specs.Range.{IndicesFit}
use Rattle.tt_kinds.specs.Shape.{vars_of}
use Rattle.tt_kinds.specs.Tree.{Depth, at, Tree, Forest, param, bound, region, term, node, binder, none, also}
use Rattle.tt_kinds.specs.declared.table.Table.TheVariants.{VarLists}
use Rattle.tt_interner.specs.Rows.{Row, meaning}
use Rattle.tt_visit.specs.Visit.{Visits, GoesOver, Breaks}
use Rattle.tt_visit.specs.declared.visitor.Next.{Next}
use Rattle.tt_visit.specs.declared.visitor.Next.TheVariants.{Skip, Descend}
use Rattle.tt_fold.specs.Places.{IsIn}
use Rattle.tt_binder.specs.declared.validate_bound_vars.WrongBoundVar.{WrongBoundVar}

abbrev mutual
  -- under k binders of a tree: each variable of the binder just outside of the tree has its entry in the list
  pub Agrees : List (VarKind Name) → ℕ → Tree Depth → Type 0
  Agrees vs k (param s i name) = ⊤
  Agrees vs k (bound s d e) = d ≡ at k → IsEntryOf vs e
  Agrees vs k (region r) = ⊤
  Agrees vs k (term l ts) = Agrees_all vs k ts
  Agrees vs k (node l ts) = Agrees_all vs k ts
  Agrees vs k (binder ws t) = Agrees vs (suc k) t

  pub Agrees_all : List (VarKind Name) → ℕ → Forest Depth → Type 0
  Agrees_all vs k none = ⊤
  Agrees_all vs k (also t ts) = Agrees vs k t × Agrees_all vs k ts

-- the variables of a stored list
abbrev pub vars_at : List Row → BoundVarKinds → List (VarKind Name)
vars_at rows vars = vars_of (meaning rows VarLists vars.number)

-- the state of a validation: the list of the binder just outside of the value, and how many binders of the value it
-- entered
pub record Validation : Type 0 where
  pub vars : List (VarKind Name)
  pub depth : ℕ
  -- the types that were entered and are remembered, with the number of binders above each
  pub seen : List TypeAt

-- a term under the binders that the validation entered
abbrev pub validation_place : Validation → Tree Depth → TypeAt
validation_place s t = record { standing = t; under = s.depth }

-- the remembered types agree
abbrev pub SeenAgree : Validation → Type 0
SeenAgree s = (p : TypeAt) → IsIn p s.seen → Agrees s.vars p.under p.standing

-- the term itself is no variable that disagrees
abbrev pub RootAgrees : List (VarKind Name) → ℕ → Tree Depth → Type 0
RootAgrees vs k (bound s d e) = Agrees vs k (bound s d e)
RootAgrees vs k _ = ⊤

-- each place of the new list is p or in the old list
abbrev pub AddsPlace : TypeAt → List TypeAt → List TypeAt → Type 0
AddsPlace p old new = (q : TypeAt) → IsIn q new → (q ≡ p) ⊎ IsIn q old

-- a term is entered, and perhaps remembered
pub record ValidationDescends (s : Validation) (t : Tree Depth) (s' : Validation) : Type 0 where
  pub agrees : RootAgrees s.vars s.depth t
  pub vars : s'.vars ≡ s.vars
  pub depth : s'.depth ≡ s.depth
  pub seen : AddsPlace (validation_place s t) s.seen s'.seen

-- a skipped term agrees, or was entered before; an entered term is no variable that disagrees
abbrev pub ValidationLooks : Validation → Tree Depth → Next → Validation → Type 0
ValidationLooks s t Skip s' = (Agrees s.vars s.depth t ⊎ IsIn (validation_place s t) s.seen) × (s' ≡ s)
ValidationLooks s t Descend s' = ValidationDescends s t s'

-- a skipped place is remembered; an entered place may be remembered from then on
abbrev pub EntersOnce : TypeAt → List TypeAt → Next → List TypeAt → Type 0
EntersOnce p old Skip new = IsIn p old × (new ≡ old)
EntersOnce p old Descend new = AddsPlace p old new

-- an entered binder is counted; a binder is skipped only if no index can count it
abbrev pub ValidationEnters : Validation → Next → Validation → Type 0
ValidationEnters s Descend s' = s' ≡ record { vars = s.vars; depth = s.depth + 1; seen = s.seen }
ValidationEnters s Skip s' = (greatest ≤ s.depth) × (s' ≡ s)

-- the visitor's hooks, which break only at a region or a term that disagrees, and then change nothing
abbrev pub validate_hooks : Visits Validation WrongBoundVar
validate_hooks = record {
  on_region = λ s t s'. (s' ≡ s) × Agrees s.vars s.depth t;
  region_breaks = λ s t b s'. (s' ≡ s) × (Agrees s.vars s.depth t → ⊥);
  on_error = λ s e s'. s' ≡ s;
  error_breaks = λ s e b s'. ⊥;
  on_term = ValidationLooks;
  term_breaks = λ s t b s'. (s' ≡ s) × (Agrees s.vars s.depth t → ⊥);
  enter = λ s vs next s'. ValidationEnters s next s';
  enter_breaks = λ s vs b s'. ⊥;
  leave = λ s vs s'. s' ≡ record { vars = s.vars; depth = s.depth - 1; seen = s.seen };
}

-- the same list, and the same number of binders
abbrev pub IsSamePlace : Validation → Validation → Type 0
IsSamePlace s s' = (s'.vars ≡ s.vars) × (s'.depth ≡ s.depth)

-- If a visit goes to its end, the indices in the tree are in range and the types that were remembered before agree,
-- then all variables agree, and so do the types that are remembered afterwards. A new visitor remembers nothing. If a
-- visit breaks, a variable disagrees, and the list and the number of binders are the ones that the visit began with.
abbrev pub ValidationIsExact : Type 0
ValidationIsExact = (s s' : Validation) (t : Tree Depth)
    → (GoesOver validate_hooks s t s' → IndicesFit t → SeenAgree s → Agrees s.vars s.depth t × SeenAgree s')
    × ((b : WrongBoundVar) → Breaks validate_hooks s t b s' → Agrees s.vars s.depth t → ⊥)
    × ((b : WrongBoundVar) → Breaks validate_hooks s t b s' → IsSamePlace s s')
