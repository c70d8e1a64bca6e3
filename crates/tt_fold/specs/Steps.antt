-- The promises of the calls of a fold.
use Rattle.std.specs.Prelude.{◌≡◌, ◌<◌, List, Result, MatchResult, ⊤}
use Rattle.tt_index.specs.declared.refusal.Refusal.{Refusal}
use Rattle.tt_index.specs.declared.refusal.Refusal.TheVariants.{NotAClause}
use Rattle.tt_kinds.specs.Label.{Name, VarKind}
use Rattle.tt_kinds.specs.Tree.{Depth, Tree}
use Rattle.tt_kinds.specs.Shape.{Shape, vars_of}
use Rattle.tt_kinds.specs.Kinds.{region_shape}
use Rattle.tt_kinds.specs.Handle.{BoundVarKinds}
use Rattle.tt_kinds.specs.declared.region_kind.RegionKind.{RegionKind}
use Rattle.tt_kinds.specs.declared.table.Table.TheVariants.{VarLists}
use Rattle.tt_interner.specs.Rows.{Row, size, meaning}
pub use Rattle.tt_interner.specs.Owned.{IsPartOf, IsPartBy, tree_in, tree_by}
use Rattle.tt_interner.specs.Stored.{Terms, Extends, IsUnbuilt}
use Rattle.tt_fold.specs.Walk.{Answer, replace, keep, descend, Hooks, Errors}
use Rattle.tt_fold.specs.Counts.{Standing, stands}
use Rattle.tt_fold.specs.declared.folder.Step.{Step}
use Rattle.tt_fold.specs.declared.folder.Step.TheVariants as step

-- the list of a binder's variables is one of the rows
abbrev pub HasVars : List Row → BoundVarKinds → Type 0
HasVars rows vars = vars.number < size rows VarLists

-- a binder's variables
abbrev pub vars_in : List Row → BoundVarKinds → List (VarKind Name)
vars_in rows vars = vars_of (meaning rows VarLists vars.number)

-- what a hook's answer means, where `shape` is the shape of a term
abbrev pub answer_of : {T : Type 0} → (T → Shape) → List Row → Step T → Answer
answer_of shape rows (step.Replace x) = replace (tree_in rows (shape x))
answer_of shape rows step.Keep = keep
answer_of shape rows step.Descend = descend

-- the handle in a hook's answer is among the rows
abbrev pub OwnsStep : {T : Type 0} → (T → Shape) → List Row → Step T → Type 0
OwnsStep shape rows (step.Replace x) = IsPartOf rows (shape x)
OwnsStep shape rows step.Keep = ⊤
OwnsStep shape rows step.Descend = ⊤

-- the error comes from a refusal that says that the tree is not built
abbrev pub IsErrorOfUnbuilt : {E : Type 0} → (Refusal → E → Type 0) → Terms → Tree Depth → E → Type 0
IsErrorOfUnbuilt gives terms u e = (r : Refusal) × (gives r e × IsUnbuilt terms u r)

-- the meaning of errors, where `gives` says which errors a refusal may give
abbrev pub errors_of : {E : Type 0} → (Refusal → E → Type 0) → Terms → Errors E
errors_of gives terms = record { unbuilt = IsErrorOfUnbuilt gives terms; unwanted = gives NotAClause }

-- the error is the refusal
abbrev pub IsItself : Refusal → Refusal → Type 0
IsItself r e = e ≡ r

-- the meaning of refusals, as errors
abbrev pub refusals_of : Terms → Errors Refusal
refusals_of terms = errors_of IsItself terms

-- the refusal says that the tree is not built
abbrev pub IsRefused : Terms → Tree Depth → Refusal → Type 0
IsRefused terms = IsErrorOfUnbuilt IsItself terms

-- The answer r of a hook. Before the call the interner is `terms` and the folder's state is s; afterwards they are
-- terms' and s'. `gives` says which errors a refusal may give.
module _ {M E S : Type 0} (means : List Row → S → M) (H : Hooks (Standing M) E) (gives : Refusal → E → Type 0) where
  -- at a region
  abbrev pub AnswersRegion : Terms → S → RegionKind → Result RegionKind E → Terms → S → Type 0
  AnswersRegion terms s x r terms' s' = MatchResult r
      (λ y. IsPartOf terms'.rows (region_shape y)
      × H.on_region (stands means terms s) (tree_in terms.rows (region_shape x)) (tree_in terms'.rows (region_shape y))
      (stands means terms' s'))
      (λ e. H.region_fails (IsErrorOfUnbuilt gives terms') (stands means terms s)
      (tree_in terms.rows (region_shape x)) e (stands means terms' s'))

  -- at a term, before its contents
  abbrev pub AnswersTerm : {T : Type 0} → (T → Shape) → Terms → S → T → Result (Step T) E → Terms → S → Type 0
  AnswersTerm shape terms s x r terms' s' = MatchResult r
      (λ step. OwnsStep shape terms'.rows step
      × H.on_term (stands means terms s) (tree_in terms.rows (shape x)) (answer_of shape terms'.rows step)
      (stands means terms' s'))
      (λ e. H.term_fails (IsErrorOfUnbuilt gives terms') (stands means terms s) (tree_in terms.rows (shape x)) e
      (stands means terms' s'))

  -- at the term x, after its contents: z is x with its contents folded
  abbrev pub RebuildsTerm : {T : Type 0} → (T → Shape) → Terms → S → T → T → Result T E → Terms → S → Type 0
  RebuildsTerm shape terms s x z r terms' s' = MatchResult r
      (λ y. IsPartOf terms'.rows (shape y)
      × H.after_term (stands means terms s) (tree_in terms.rows (shape x)) (tree_in terms.rows (shape z))
      (tree_in terms'.rows (shape y)) (stands means terms' s'))
      (λ e. H.after_fails (IsErrorOfUnbuilt gives terms') (stands means terms s) (tree_in terms.rows (shape x))
      (tree_in terms.rows (shape z)) e (stands means terms' s'))

  -- before a binder's value
  abbrev pub EntersBinder : {U : Type 0} → Terms → S → BoundVarKinds → Result U E → Terms → S → Type 0
  EntersBinder terms s vars r terms' s' = MatchResult r
      (λ _. H.enter (stands means terms s) (vars_in terms.rows vars) (stands means terms' s'))
      (λ e. H.enter_fails (IsErrorOfUnbuilt gives terms') (stands means terms s) (vars_in terms.rows vars) e
      (stands means terms' s'))

  -- after a binder's value
  abbrev pub LeavesBinder : {U : Type 0} → Terms → S → BoundVarKinds → Result U E → Terms → S → Type 0
  LeavesBinder terms s vars r terms' s' = MatchResult r
      (λ _. H.leave (stands means terms s) (vars_in terms.rows vars) (stands means terms' s'))
      (λ e. H.leave_fails (IsErrorOfUnbuilt gives terms') (stands means terms s) (vars_in terms.rows vars) e
      (stands means terms' s'))

-- The result r of a call. Before it the interner is `terms` and the folder's state is s; afterwards they are terms' and
-- s'. On success `good` holds of the returned value and the states, and otherwise `fails` of the error and the states.
pub record Goes {M E S T : Type 0} (owned : List Row → S → Type 0) (means : List Row → S → M)
    (good : List Row → T → Standing M → Standing M → Type 0) (fails : Standing M → E → Standing M → Type 0)
    (terms : Terms) (s : S) (r : Result T E) (terms' : Terms) (s' : S) : Type 0 where
  pub extends : Extends terms terms'
  pub is_owned : owned terms'.rows s'
  pub outcome : MatchResult r
      (λ y. good terms'.rows y (stands means terms s) (stands means terms' s'))
      (λ e. fails (stands means terms s) e (stands means terms' s'))

-- The same for a fold of the value x: on success `walks` holds of the trees of x and of the result and of the states,
-- and otherwise `fails` of the tree of x, the error and the states.
pub record Folds {M E S T X : Type 0} (owned : List Row → S → Type 0) (means : List Row → S → M)
    (owns : List Row → T → Type 0) (tree : List Row → T → X)
    (walks : Standing M → X → X → Standing M → Type 0) (fails : Standing M → X → E → Standing M → Type 0)
    (terms : Terms) (s : S) (x : T) (r : Result T E) (terms' : Terms) (s' : S) : Type 0 where
  pub extends : Extends terms terms'
  pub is_owned : owned terms'.rows s'
  pub outcome : MatchResult r
      (λ y. owns terms'.rows y × walks (stands means terms s) (tree terms.rows x) (tree terms'.rows y)
      (stands means terms' s'))
      (λ e. fails (stands means terms s) (tree terms.rows x) e (stands means terms' s'))
