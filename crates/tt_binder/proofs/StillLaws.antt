-- A value that is itself a parameter leaves the interner as it is.
use Rattle.std.proofs.Common.{◌≡◌, ℕ, List, refl, sym, ap, subst, ◌∙◌}
use Rattle.tt_kinds.specs.Label.{Name, Sort, region_sort, type_sort, const_sort}
use Rattle.tt_kinds.specs.Tree as tree
use Rattle.tt_kinds.specs.Tree.{Depth, Tree}
use Rattle.tt_kinds.specs.Shape.{Shape, param, bound, region, term, node, binder, stored, part_of, fill}
use Rattle.tt_kinds.specs.declared.table.Table.{Table}
use Rattle.tt_kinds.specs.declared.table.Table.TheVariants.{Types, Consts, Patterns, Predicates, Existentials}
use Rattle.tt_kinds.specs.declared.table.Table.TheVariants.{ClauseLists, TypeLists, ConstLists, ArgLists, PatternLists}
use Rattle.tt_kinds.specs.declared.table.Table.TheVariants.{VarLists, ExistentialLists, AssumptionLists, Symbols}
use Rattle.tt_kinds.specs.declared.table.Table.TheVariants.{Declarations, Definitions}
use Rattle.tt_interner.specs.Rows.{Row}
use Rattle.tt_visit.specs.Root.{a_region, hooked, root, sort_root, table_root}
use Rattle.tt_visit.proofs.VisitSteps.{root-meaning}
use Rattle.tt_fold.specs.Counts.{Standing}
use Rattle.tt_fold.specs.Steps.{IsPartOf, tree_in}
use Rattle.tt_fold.specs.Still.{EndsAt, IsAlone}
use Rattle.tt_fold.specs.Walk.{descend}
use Rattle.tt_fold.specs.Remember.{OnTerm, taken_apart, gone_into}
use Rattle.tt_binder.specs.Instantiation.{Instantiation, instantiation, arg_hooks, IsOpenParam}
use Rattle.tt_kinds.specs.Param.{IsParam}
use Rattle.tt_binder.proofs.RowArguments.{IsTypeTree}

-- at an open parameter no binder is passed
pub open_unpassed : (k : ℕ) (t : Tree Depth) → IsOpenParam k t → k ≡ 0
open_unpassed k (tree.param o i name) h = h
open_unpassed k _ h = absurd h

-- a type that is no type parameter is no parameter
pub not_open : (k : ℕ) (t : Tree Depth) → IsTypeTree t → ((i : ℕ) → IsParam type_sort i t → ⊥) → IsOpenParam k t → ⊥
not_open k (tree.param o i name) is other h = other i (is, refl)
not_open k _ is other h = h

-- the hook at a parameter doesn't answer `descend`
never_descends : {s s' : Standing Instantiation} {t : Tree Depth} → OnTerm instantiation s t descend s' → (o : Sort) (i : ℕ) (name : Name) → t ≡ tree.param o i name → ⊥
never_descends (taken_apart taken fresh) o i name same = rw same at taken
never_descends (gone_into other entered) o i name same = rw same at entered

-- so outside of each binder the walk ends at it
pub param_ends : (s : Standing Instantiation) (k : ℕ) (t : Tree Depth) → k ≡ 0 → (o : Sort) (i : ℕ) (name : Name) → t ≡ tree.param o i name → EndsAt arg_hooks (IsOpenParam k) s t
param_ends s k t none o i name is = record { ends = λ s' h. never_descends h o i name is; still = subst (IsOpenParam k) (sym is) none }

-- no table holds regions
no_regions : (t : Table) → table_root t ≡ a_region → ⊥
no_regions Types h = cc
no_regions Consts h = cc
no_regions Patterns h = cc
no_regions Predicates h = cc
no_regions Existentials h = cc
no_regions ClauseLists h = cc
no_regions TypeLists h = cc
no_regions ConstLists h = cc
no_regions ArgLists h = cc
no_regions PatternLists h = cc
no_regions VarLists h = cc
no_regions ExistentialLists h = cc
no_regions AssumptionLists h = cc
no_regions Symbols h = cc
no_regions Declarations h = cc
no_regions Definitions h = cc

sort_hooked : (t : Table) (o : Sort) → table_root t ≡ sort_root o → table_root t ≡ hooked
sort_hooked t region_sort h = absurd (no_regions t h)
sort_hooked t type_sort h = h
sort_hooked t const_sort h = h

-- a value whose tree is a parameter is one region or one term
pub param_alone : (rows : List Row) (s : Shape) → IsPartOf rows s → (o : Sort) (i : ℕ) (name : Name) → tree_in rows s ≡ tree.param o i name → IsAlone s
unfolding fill
param_alone rows (param p j n) h o i name is = tt
param_alone rows (bound p d e) h o i name is = tt
param_alone rows (region r) h o i name is = tt
param_alone rows (term l ss) h o i name is = absurd (cc)
param_alone rows (node l ss) h o i name is = absurd (cc)
param_alone rows (binder n u) h o i name is = absurd (cc)
param_alone rows (part_of t n e) h o i name is = absurd (cc)
param_alone rows (stored t n) h o i name is = sort_hooked t o (sym (root-meaning rows t n h) ∙ ap root is)
