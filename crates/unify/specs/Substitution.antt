-- Substitution of types for inference variables, on plain trees. A bound variable is one that has a binding.
use Rattle.std.specs.Prelude.{◌≡◌, ◌≤◌, ℕ, Option, Some, None, ⊤, IsTrue}
use Rattle.tt_kinds.specs.Label.{Name, Label, type_label, infer_type, type_sort, is_type}
use Rattle.tt_kinds.specs.declared.ty_kind.InferTy.TheVariants.{TyVar}
use Rattle.tt_kinds.specs.Reading.{outer_binder}
use Rattle.tt_kinds.specs.Tree.{Depth, Tree, param, bound, region, term, node, binder, Forest, none, also}

-- what each variable is bound to, by the variable's number
abbrev pub Substitution : Type 0
Substitution = ℕ → Option (Tree Depth)

-- the number of the variable that a term of this label is
abbrev pub variable_of : Label Name → Option ℕ
variable_of (type_label (infer_type (TyVar v))) = Some v
variable_of _ = None

-- the number of the variable that a tree is
abbrev pub variable_in : Tree Depth → Option ℕ
variable_in (term l ts) = variable_of l
variable_in _ = None

-- what a term of this label is bound to
abbrev pub bound_to : Substitution → Label Name → Option (Tree Depth)
bound_to σ (type_label (infer_type (TyVar v))) = σ v
bound_to σ _ = None

-- the binding, or the tree itself if there is none
abbrev pub or_else : Option (Tree Depth) → Tree Depth → Tree Depth
or_else (Some r) t = r
or_else None t = t

module _ (σ : Substitution) where
  abbrev mutual
    -- the tree with each bound variable replaced by its binding
    pub apply : Tree Depth → Tree Depth
    apply (param o i name) = param o i name
    apply (bound o d e) = bound o d e
    apply (region r) = region r
    apply (term l ts) = or_else (bound_to σ l) (term l (apply_all ts))
    apply (node l ts) = node l (apply_all ts)
    apply (binder vs t) = binder vs (apply t)

    -- the same for trees in order
    pub apply_all : Forest Depth → Forest Depth
    apply_all none = none
    apply_all (also t ts) = also (apply t) (apply_all ts)

module _ (v : ℕ) where
  abbrev mutual
    -- the variable is nowhere in the tree
    pub IsWithout : Tree Depth → Type 0
    IsWithout (param o i name) = ⊤
    IsWithout (bound o d e) = ⊤
    IsWithout (region r) = ⊤
    IsWithout (term l ts) = (variable_of l ≡ Some v → ⊥) × AreWithout ts
    IsWithout (node l ts) = AreWithout ts
    IsWithout (binder vs t) = IsWithout t

    -- the same for trees in order
    pub AreWithout : Forest Depth → Type 0
    AreWithout none = ⊤
    AreWithout (also t ts) = IsWithout t × AreWithout ts

-- no bound variable is in the tree
abbrev pub IsResolved : Substitution → Tree Depth → Type 0
IsResolved σ t = (v : ℕ) (r : Tree Depth) → σ v ≡ Some r → IsWithout v t

-- no bound variable is in what a variable is bound to
abbrev pub IsIdempotent : Substitution → Type 0
IsIdempotent σ = (v : ℕ) (r : Tree Depth) → σ v ≡ Some r → IsResolved σ r

-- a bound variable stays bound, to its old binding with the new bindings put in: bindings only grow
abbrev pub Refines : Substitution → Substitution → Type 0
Refines σ σ' = (v : ℕ) (r : Tree Depth) → σ v ≡ Some r → σ' v ≡ Some (apply σ' r)

-- the variable alone is bound, to this tree
pub record BindsOnly (σ : Substitution) (v : ℕ) (r : Tree Depth) : Type 0 where
  pub own : σ v ≡ Some r
  pub others : (w : ℕ) (b : Tree Depth) → σ w ≡ Some b → (w ≡ v) × (b ≡ r)

-- what the binding becomes if τ is applied to it, or τ's binding if there is none
abbrev pub then : Option (Tree Depth) → Substitution → ℕ → Option (Tree Depth)
then (Some b) τ v = Some (apply τ b)
then None τ v = τ v

-- σ' applies first σ, then τ
abbrev pub IsComposition : Substitution → Substitution → Substitution → Type 0
IsComposition σ τ σ' = (v : ℕ) → σ' v ≡ then (σ v) τ v

-- a tree for each variable, by the variable's number
abbrev pub Assignment : Type 0
Assignment = ℕ → Tree Depth

-- the substitution that binds each variable to its tree
abbrev pub every : Assignment → Substitution
every ρ v = Some (ρ v)

-- the tree with each variable replaced by the variable's tree
abbrev pub assign : Assignment → Tree Depth → Tree Depth
assign ρ t = apply (every ρ) t

-- the same for trees in order
abbrev pub assign_all : Assignment → Forest Depth → Forest Depth
assign_all ρ ts = apply_all (every ρ) ts

-- each bound variable and its binding become one tree
abbrev pub Solves : Assignment → Substitution → Type 0
Solves ρ σ = (v : ℕ) (r : Tree Depth) → σ v ≡ Some r → ρ v ≡ assign ρ r

-- whatever solves the old bindings and makes the two trees equal solves the new bindings
abbrev pub IsMostGeneral : Substitution → Tree Depth → Tree Depth → Substitution → Type 0
IsMostGeneral σ t u σ' = (ρ : Assignment) → Solves ρ σ → assign ρ t ≡ assign ρ u → Solves ρ σ'

-- nothing that solves the bindings makes the two trees equal
abbrev pub HasNoUnifier : Substitution → Tree Depth → Tree Depth → Type 0
HasNoUnifier σ t u = (ρ : Assignment) → Solves ρ σ → assign ρ t ≡ assign ρ u → ⊥

-- the tree of the variable of this number
abbrev pub variable_tree : ℕ → Tree Depth
variable_tree v = term (type_label (infer_type (TyVar v))) none

-- the tree is a type
abbrev pub IsType : Tree Depth → Type 0
IsType (param s i name) = s ≡ type_sort
IsType (bound s d e) = s ≡ type_sort
IsType (term l ts) = IsTrue (is_type l)
IsType _ = ⊥

-- the assignment gives each variable a type
abbrev pub GivesTypes : Assignment → Type 0
GivesTypes ρ = (v : ℕ) → IsType (ρ v)

-- the assignment leaves the tree as it is, if the tree is a variable
abbrev pub LeavesRoot : Assignment → Tree Depth → Type 0
LeavesRoot ρ t = (v : ℕ) → variable_in t ≡ Some v → ρ v ≡ variable_tree v

-- the assignment is to the first n variables alone: it gives each variable a type, and leaves all others as they are
pub record IsOwn (n : ℕ) (ρ : Assignment) : Type 0 where
  pub types : GivesTypes ρ
  pub leaves : (v : ℕ) → n ≤ v → ρ v ≡ variable_tree v

-- the assignment gives each variable a tree without a variable of a binder around it
abbrev pub GivesClosed : Assignment → Type 0
GivesClosed ρ = (v : ℕ) → outer_binder (ρ v) ≡ 0

-- no assignment to the first n variables alone that solves the bindings makes the two trees equal
abbrev pub HasNoOwnUnifier : ℕ → Substitution → Tree Depth → Tree Depth → Type 0
HasNoOwnUnifier n σ t u = (ρ : Assignment) → IsOwn n ρ → Solves ρ σ → assign ρ t ≡ assign ρ u → ⊥

-- the bindings as an assignment: a variable without a binding stays itself
abbrev pub as_assignment : Substitution → Assignment
as_assignment σ v = or_else (σ v) (variable_tree v)

-- no assignment of trees without variables of a binder around them solves the bindings and makes the two trees equal
abbrev pub HasNoClosedUnifier : Substitution → Tree Depth → Tree Depth → Type 0
HasNoClosedUnifier σ t u = (ρ : Assignment) → GivesClosed ρ → Solves ρ σ → assign ρ t ≡ assign ρ u → ⊥
