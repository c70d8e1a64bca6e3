-- The hooks of a folder that replaces types alone.
use Rattle.std.specs.Prelude.{◌≡◌, List, Result, MatchResult, true, false, ⊤}
use Rattle.tt_index.specs.declared.refusal.Refusal.{Refusal}
use Rattle.tt_kinds.specs.Tree.{Depth, Tree}
use Rattle.tt_kinds.specs.Shape.{Shape}
use Rattle.tt_kinds.specs.Kinds.{ty_shape}
use Rattle.tt_kinds.specs.Handle.{Ty}
use Rattle.tt_interner.specs.Rows.{Row}
use Rattle.tt_interner.specs.Stored.{Terms}
use Rattle.tt_visit.specs.Types.{is_type_tree}
use Rattle.tt_fold.specs.Walk.{Hooks, Answer, descend}
use Rattle.tt_fold.specs.Counts.{Standing, stands}
use Rattle.tt_fold.specs.Steps.{IsErrorOfUnbuilt, OwnsStep, answer_of, tree_in}
use Rattle.tt_fold.specs.declared.folder.Step.{Step}

-- What the one hook of such a folder may do: M is the meaning of the folder's state, and E the type of its errors. The
-- relation that `type_fails` takes says which errors mean that which tree is not built.
pub record TypeHooks (M E : Type 0) : Type 1 where
  -- state, type, answer, state
  pub on_type : M → Tree Depth → Answer → M → Type 0
  pub type_fails : (Tree Depth → E → Type 0) → M → Tree Depth → E → M → Type 0

-- the hook without a promise
abbrev pub no_type_promise : {M E : Type 0} → TypeHooks M E
no_type_promise = record {
  on_type = λ s t a s'. ⊤;
  type_fails = λ unbuilt s t e s'. ⊤;
}

-- the hook that never fails: the relation holds of the state, the type and the answer, and the state stays
abbrev pub never_fails : {M E : Type 0} → (M → Tree Depth → Answer → Type 0) → TypeHooks M E
never_fails R = record {
  on_type = λ s t a s'. R s t a × (s' ≡ s);
  type_fails = λ unbuilt s t e s'. ⊥;
}

-- the hooks of a folder that replaces types, keeps regions and rebuilt terms, enters other terms, and keeps
-- its state at binders
abbrev pub only_types : {M E : Type 0} → TypeHooks M E → Hooks M E
only_types H = record {
  on_region = λ s t r s'. (r ≡ t) × (s' ≡ s);
  region_fails = λ unbuilt s t e s'. ⊥;
  on_term = λ s t a s'. (is_type_tree t ≡ true → H.on_type s t a s')
      × (is_type_tree t ≡ false → (a ≡ descend) × (s' ≡ s));
  term_fails = λ unbuilt s t e s'. (is_type_tree t ≡ true) × H.type_fails unbuilt s t e s';
  after_term = λ s t u r s'. (r ≡ u) × (s' ≡ s);
  after_fails = λ unbuilt s t u e s'. ⊥;
  enter = λ s vs s'. s' ≡ s;
  enter_fails = λ unbuilt s vs e s'. ⊥;
  leave = λ s vs s'. s' ≡ s;
  leave_fails = λ unbuilt s vs e s'. ⊥;
}

-- The answer r of the hook at the term x. Before the call the interner is `terms` and the folder's state is s;
-- afterwards they are terms' and s'. `gives` says which errors a refusal may give.
module _ {M E S : Type 0} (means : List Row → S → M) (H : TypeHooks (Standing M) E) (gives : Refusal → E → Type 0) where
  -- at a term of any sort
  abbrev pub AnswersStep : {T : Type 0} → (T → Shape) → Terms → S → T → Result (Step T) E → Terms → S → Type 0
  AnswersStep shape terms s x r terms' s' = MatchResult r
      (λ step. OwnsStep shape terms'.rows step
      × H.on_type (stands means terms s) (tree_in terms.rows (shape x)) (answer_of shape terms'.rows step)
      (stands means terms' s'))
      (λ e. H.type_fails (IsErrorOfUnbuilt gives terms') (stands means terms s) (tree_in terms.rows (shape x)) e
      (stands means terms' s'))

  -- at a type
  abbrev pub AnswersType : Terms → S → Ty → Result (Step Ty) E → Terms → S → Type 0
  AnswersType terms s x r terms' s' = AnswersStep ty_shape terms s x r terms' s'
