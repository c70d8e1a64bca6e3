-- The answers of a folder that applies a substitution.
use Rattle.std.specs.Prelude.{◌≡◌, ◌⊎◌, ℕ, Option, Some, None}
use Rattle.tt_kinds.specs.declared.ty_kind.TyKind.{TyKind}
use Rattle.tt_kinds.specs.declared.ty_kind.TyKind.TheVariants.{Infer}
use Rattle.tt_kinds.specs.declared.ty_kind.InferTy.TheVariants.{TyVar}
use Rattle.tt_kinds.specs.Tree.{Depth, Tree, term}
use Rattle.tt_fold.specs.Walk.{Answer, replace, keep, descend}
use Rattle.unify.specs.Search.{Reaches}
use Rattle.unify.specs.Substitution.{Substitution, bound_to, apply, variable_in}
use Rattle.unify.specs.Triangular.{links, IsChild}
use Rattle.unify.specs.Bindings.{read}

-- the number of the variable that a kind is
abbrev pub kind_variable : TyKind → Option ℕ
kind_variable (Infer (TyVar v)) = Some v
kind_variable _ = None

-- what a tree is bound to, if it is a bound variable
abbrev pub binding : Substitution → Tree Depth → Option (Tree Depth)
binding σ (term l ts) = bound_to σ l
binding σ _ = None

-- the variable that the tree is, if there is a tree
abbrev pub linked_variable : Option (Tree Depth) → Option ℕ
linked_variable (Some t) = variable_in t
linked_variable None = None

-- w is v, or is reached from v through variables of which each is bound to the next one
abbrev pub IsLinked : Substitution → ℕ → ℕ → Type 0
IsLinked entries v w = (w ≡ v) ⊎ Reaches (IsChild (links entries)) v w

-- the folder may replace a bound variable by its binding, keep an unchanged tree, and enter a tree that isn't bound
pub data Resolves (table t : Tree Depth) : Answer → Type 0 where
  put : {r : Tree Depth} → binding (read table) t ≡ Some r → Resolves table t (replace r)
  kept : apply (read table) t ≡ t → Resolves table t keep
  entered : binding (read table) t ≡ None → Resolves table t descend
