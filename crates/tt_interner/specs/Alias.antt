-- Aliases of types: their self types, and the traits and own arguments of projections.
use Rattle.std.specs.Prelude.{◌≡◌, ℕ, ◌-◌, ◌<◌, ◌≤◌, List, [], ◌∷◌, ◌++◌, take, drop, length, Option, Some, None}
use Rattle.std.specs.Prelude.{Result, IfOk}
use Rattle.tt_index.specs.declared.refusal.Refusal.{Refusal}
use Rattle.tt_kinds.specs.Alias.{alias_sort, alias_number}
use Rattle.tt_kinds.specs.GenericArg.{type_of}
use Rattle.tt_kinds.specs.Handle.{GenericArgs, Ty}
use Rattle.tt_kinds.specs.declared.alias.AliasTy.{AliasTy}
use Rattle.tt_kinds.specs.declared.alias.AliasTyKind.{AliasTyKind}
use Rattle.tt_kinds.specs.declared.declaration.DeclarationKind.TheVariants as declaration
use Rattle.tt_kinds.specs.declared.declaration.DeclarationSort.TheVariants as sort
use Rattle.tt_kinds.specs.declared.generic_arg.GenericArgKind.{GenericArgKind}
use Rattle.tt_kinds.specs.declared.generic_arg.GenericArgKind.TheVariants as arg
use Rattle.tt_kinds.specs.declared.id.Id.{Id}
use Rattle.tt_kinds.specs.declared.id.Trait.{Trait}
use Rattle.tt_kinds.specs.declared.predicate.TraitRef.{TraitRef}
use Rattle.tt_kinds.specs.declared.table.Table.TheVariants.{Declarations}
use Rattle.tt_kinds.specs.declared.view.GenericArgsSlice.{GenericArgsSlice}
use Rattle.tt_interner.specs.Rows.{Row, args_row, size}
use Rattle.tt_interner.specs.Stored.{Terms, IsAt}
use Rattle.tt_interner.specs.Collect.{BuildsCollected}
use Rattle.tt_interner.specs.Declarations.{declared_at, IsOfSort}

-- the first of the arguments, if there is one and it is a type
abbrev pub first_type : List GenericArgKind → Option Ty
first_type [] = None
first_type (a ∷ others) = type_of a

-- the list is stored, and its first argument is the type
pub record IsSelfTy (rows : List Row) (args : GenericArgs) (ty : Ty) : Type 0 where
  pub items : List GenericArgKind
  pub stored : IsAt rows (args_row items) args.number
  pub first : first_type items ≡ Some ty

-- the list is stored, and its first argument is a type
abbrev pub HasSelfTy : List Row → GenericArgs → Type 0
HasSelfTy rows args = (ty : Ty) × IsSelfTy rows args ty

-- the arguments with the type in place of the first, or the type alone if there are none
abbrev pub with_self_ty : Ty → List GenericArgKind → List GenericArgKind
with_self_ty ty items = arg.«Type» ty ∷ drop 1 items

-- the result is the list of these arguments with the type in place of the first, or a refusal
pub record ReplacesSelfTy {H : Type 0} (result : Result H Refusal) (number : H → ℕ) (old new : Terms)
    (args : GenericArgs) (ty : Ty) : Type 0 where
  pub items : List GenericArgKind
  pub stored : IsAt old.rows (args_row items) args.number
  pub builds : BuildsCollected result number old new args_row (with_self_ty ty items)

-- the alias is a projection, and its id names a declared associated type
abbrev pub HasTraitDefId : List Row → AliasTyKind → Type 0
HasTraitDefId rows kind = (alias_sort kind ≡ sort.AssocTy) × IsOfSort rows sort.AssocTy (alias_number kind)

-- the alias's declaration is an associated type of the trait
abbrev pub IsInTrait : List Row → AliasTyKind → Id Trait → Type 0
IsInTrait rows kind parent = (declared_at rows (record { number = alias_number kind })).kind
    ≡ declaration.AssocTy parent

-- the id names a trait that is declared with this number of parameters
abbrev pub HasParams : List Row → Id Trait → ℕ → Type 0
HasParams rows parent params =
    (parent.number < size rows Declarations) × ((declared_at rows (record { number = parent.number })).kind
    ≡ declaration.Trait params)

-- the alias is a projection of the trait, which is declared with this number of parameters; the items are the alias's
-- arguments, at least one for each parameter and at most `u32::MAX`
pub record TraitArgs (rows : List Row) (alias : AliasTy) (parent : Id Trait) (params : ℕ) (items : List GenericArgKind)
    : Type 0 where
  pub projection : HasTraitDefId rows alias.kind
  pub in_trait : IsInTrait rows alias.kind parent
  pub declared : HasParams rows parent params
  pub stored : IsAt rows (args_row items) alias.args.number
  pub enough : params ≤ length items
  pub countable : length items ≤ 4294967295

-- the alias is a projection of a declared trait, with an argument for each of its parameters
abbrev pub HasTraitArgs : List Row → AliasTy → Type 0
HasTraitArgs rows alias = (parent : Id Trait) × (params : ℕ) × (items : List GenericArgKind)
    × TraitArgs rows alias parent params items

-- the view is of the alias's arguments beyond those of its trait
pub record IsOwnArgs (rows : List Row) (alias : AliasTy) (parent : Id Trait) (own : GenericArgsSlice) : Type 0 where
  pub params : ℕ
  pub items : List GenericArgKind
  pub args : TraitArgs rows alias parent params items
  pub is : own ≡ record { args = alias.args; start = params; len = length items - params }

-- the result is the alias's trait with the first of the alias's arguments, one for each parameter, or a refusal
pub record BuildsTraitRef {H : Type 0} (result : Result H Refusal) (trait_ref : H → TraitRef) (old new : Terms)
    (alias : AliasTy) : Type 0 where
  pub parent : Id Trait
  pub params : ℕ
  pub items : List GenericArgKind
  pub args : TraitArgs old.rows alias parent params items
  pub of_trait : IfOk result (λ h. (trait_ref h).def_id ≡ parent)
  pub builds : BuildsCollected result (λ h. (trait_ref h).args.number) old new args_row (take params items)

-- the arguments at the view's places, from the arguments of its list
abbrev pub viewed : List GenericArgKind → GenericArgsSlice → List GenericArgKind
viewed items view = take view.len (drop view.start items)

-- the stored arguments of the trait reference, followed by the arguments at the view's places in the alias's list, are
-- all of the alias's stored arguments
abbrev pub AreJoined : List Row → AliasTy → TraitRef → GenericArgsSlice → Type 0
AreJoined rows alias trait_ref own =
    (firsts items : List GenericArgKind) → IsAt rows (args_row firsts) trait_ref.args.number
    → IsAt rows (args_row items) alias.args.number → firsts ++ viewed items own ≡ items

-- the arguments that `trait_ref_and_own_args` returns, joined, are the alias's arguments
abbrev pub JoinsTraitArgs : Type 0
JoinsTraitArgs = (old new : Terms) (alias : AliasTy) (result : Result (TraitRef × GenericArgsSlice) Refusal)
    → BuildsTraitRef result (λ both. both.0) old new alias
    → IfOk result (λ both. IsOwnArgs old.rows alias both.0.def_id both.1)
    → IfOk result (λ both. AreJoined new.rows alias both.0 both.1)
