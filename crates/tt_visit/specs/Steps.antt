-- The promises of the calls of a visit.
use Rattle.std.specs.Prelude.{◌≡◌, ℕ, ◌<◌, List, Option, Some, None, ⊤}
use Rattle.std.specs.ControlFlow.{MatchControlFlow}
use Rattle.std.specs.declared.ops.ControlFlow.{ControlFlow}
use Rattle.tt_kinds.specs.Label.{Name, RecordLabel, record_label, Label}
use Rattle.tt_kinds.specs.Tree.{Depth, Tree, Forest, node, binder}
use Rattle.tt_kinds.specs.Shape.{Meaning, Sizes, vars_of}
use Rattle.tt_kinds.specs.Kinds.{Form, param, bound, plain, under, kind_form}
use Rattle.tt_kinds.specs.declared.table.Table.TheVariants.{VarLists}
use Rattle.tt_kinds.specs.Handle.{BoundVarKinds}
use Rattle.tt_kinds.specs.declared.parts.Kind.{Kind}
use Rattle.tt_interner.specs.Rows.{Row}
use Rattle.tt_visit.specs.Root.{Root, hooked, unhooked, error_of}
use Rattle.tt_visit.specs.declared.visitor.Next.{Next}
use Rattle.tt_visit.specs.declared.visitor.Next.TheVariants.{Descend}
use Rattle.tt_visit.specs.Visit.{Visits, GoesOver, GoesOverAll, Breaks, BreaksAll}

-- the token of the error of a form's label, if it has one
abbrev pub form_error : Form (Label ℕ) → Option ℕ
form_error (param i name) = None
form_error (bound d e) = None
form_error (plain l p) = error_of l
form_error (under l vars m p) = error_of l

-- the token of a kind's error, if it has one
abbrev pub kind_error : Kind → Option ℕ
kind_error k = form_error (kind_form k)

-- the variables of a binder, if there is one, are stored
abbrev pub AreVarsStored : Sizes → Option BoundVarKinds → Type 0
AreVarsStored size None = ⊤
AreVarsStored size (Some vars) = vars.number < size VarLists

module _ {M B : Type 0} (V : Visits M B) where
  -- the answer of a term's hook; a term without a hook is entered
  abbrev pub AsksVisitor : Root → M → Tree Depth → Next → M → Type 0
  AsksVisitor hooked s t next s' = V.on_term s t next s'
  AsksVisitor unhooked s t next s' = (next ≡ Descend) × (s' ≡ s)
  AsksVisitor _ s t next s' = ⊥

  -- the hook of a term breaks
  abbrev pub AskingBreaks : Root → M → Tree Depth → B → M → Type 0
  AskingBreaks hooked s t b s' = V.term_breaks s t b s'
  AskingBreaks _ s t b s' = ⊥

module _ {M B : Type 0} (V : Visits M B) (f : Meaning) where
  -- the visitor visits trees, which are in a record under a binder if there is one
  abbrev pub GoesUnder : M → Option BoundVarKinds → Forest Depth → M → Type 0
  GoesUnder s None ts s' = GoesOverAll V s ts s'
  GoesUnder s (Some vars) ts s' = (m : RecordLabel Name)
      → GoesOver V s (binder (vars_of (f VarLists vars.number)) (node (record_label m) ts)) s'

  -- the same for a visit that breaks
  abbrev pub BreaksUnder : M → Option BoundVarKinds → Forest Depth → B → M → Type 0
  BreaksUnder s None ts b s' = BreaksAll V s ts b s'
  BreaksUnder s (Some vars) ts b s' = (m : RecordLabel Name)
      → Breaks V s (binder (vars_of (f VarLists vars.number)) (node (record_label m) ts)) b s'

-- the break value of a visit, if there is one, is owned in an interner with these rows
abbrev pub OwnsBreak : {B U : Type 0} → (List Row → B → Type 0) → List Row → ControlFlow B U → Type 0
OwnsBreak owned rows r = MatchControlFlow r (λ _. ⊤) (owned rows)

module _ {M B S X : Type 0} (means : List Row → S → M) where
  -- A call at x took the visitor's state s to s' and returned r: one relation holds if it goes on, one if it breaks.
  abbrev pub Ends : {U : Type 0} → (M → X → M → Type 0) → (M → X → B → M → Type 0) → List Row → S → X → ControlFlow B U
      → S → Type 0
  Ends goes breaks rows s x r s' = MatchControlFlow r
      (λ _. goes (means rows s) x (means rows s'))
      (λ b. breaks (means rows s) x b (means rows s'))

  -- the same for a call that also returns what comes next
  abbrev pub Answers : (M → X → Next → M → Type 0) → (M → X → B → M → Type 0) → List Row → S → X → ControlFlow B Next
      → S → Type 0
  Answers goes breaks rows s x r s' = MatchControlFlow r
      (λ next. goes (means rows s) x next (means rows s'))
      (λ b. breaks (means rows s) x b (means rows s'))
