-- The hooks of a folder that replaces types, regions and constants, and sees binders.
use Rattle.std.specs.Prelude.{◌≡◌, List, Option, Some, None, ⊤}
use Rattle.tt_kinds.specs.Label.{Name, VarKind, label_table}
use Rattle.tt_kinds.specs.Shape.{sort_table}
use Rattle.tt_kinds.specs.Tree.{Depth, Tree, param, bound, term}
use Rattle.tt_kinds.specs.declared.table.Table.{Table}
use Rattle.tt_kinds.specs.declared.table.Table.TheVariants.{Types, Consts}
use Rattle.tt_fold.specs.Walk.{Hooks, Answer, descend}
use Rattle.tt_fold.specs.Types.{TypeHooks, no_type_promise}
use Rattle.tt_fold.specs.Regions.{RegionHooks, no_region_promise}

-- What the hooks of such a folder may do: M is the meaning of the folder's state, and E the type of its errors. The
-- relation that `enter_fails` and `leave_fails` take says which errors mean that which tree is not built.
pub record ReplacerHooks (M E : Type 0) : Type 1 where
  pub types : TypeHooks M E
  pub regions : RegionHooks M E
  -- at constants, what a `TypeHooks` says at types
  pub consts : TypeHooks M E
  -- state, the binder's variables, state
  pub enter : M → List (VarKind Name) → M → Type 0
  pub enter_fails : (Tree Depth → E → Type 0) → M → List (VarKind Name) → E → M → Type 0
  pub leave : M → List (VarKind Name) → M → Type 0
  pub leave_fails : (Tree Depth → E → Type 0) → M → List (VarKind Name) → E → M → Type 0

-- the hooks without a promise
abbrev pub no_promise : {M E : Type 0} → ReplacerHooks M E
no_promise = record {
  types = no_type_promise;
  regions = no_region_promise;
  consts = no_type_promise;
  enter = λ s vs s'. ⊤;
  enter_fails = λ unbuilt s vs e s'. ⊤;
  leave = λ s vs s'. ⊤;
  leave_fails = λ unbuilt s vs e s'. ⊤;
}

-- the table of a stored term, as the root of its tree says
abbrev pub hook_table : Tree Depth → Option Table
hook_table (param s i name) = sort_table s
hook_table (bound s d e) = sort_table s
hook_table (term l ts) = label_table l
hook_table _ = None

-- what the hooks may answer at a term of the table: a term that is no type and no constant is entered
abbrev pub AnswersIn : {M E : Type 0} → ReplacerHooks M E → Option Table → M → Tree Depth → Answer → M → Type 0
AnswersIn H (Some Types) s t a s' = H.types.on_type s t a s'
AnswersIn H (Some Consts) s t a s' = H.consts.on_type s t a s'
AnswersIn H _ s t a s' = (a ≡ descend) × (s' ≡ s)

-- with which error the hooks may end the walk at a term of the table
abbrev pub FailsIn : {M E : Type 0} → ReplacerHooks M E → Option Table → (Tree Depth → E → Type 0) → M → Tree Depth → E
    → M → Type 0
FailsIn H (Some Types) unbuilt s t e s' = H.types.type_fails unbuilt s t e s'
FailsIn H (Some Consts) unbuilt s t e s' = H.consts.type_fails unbuilt s t e s'
FailsIn H _ unbuilt s t e s' = ⊥

-- the hooks of a folder that replaces types, regions and constants, enters other terms and keeps rebuilt terms
abbrev pub walk_hooks : {M E : Type 0} → ReplacerHooks M E → Hooks M E
walk_hooks H = record {
  on_region = H.regions.on_region;
  region_fails = H.regions.region_fails;
  on_term = λ s t a s'. AnswersIn H (hook_table t) s t a s';
  term_fails = λ unbuilt s t e s'. FailsIn H (hook_table t) unbuilt s t e s';
  after_term = λ s t u r s'. (r ≡ u) × (s' ≡ s);
  after_fails = λ unbuilt s t u e s'. ⊥;
  enter = H.enter;
  enter_fails = H.enter_fails;
  leave = H.leave;
  leave_fails = H.leave_fails;
}
