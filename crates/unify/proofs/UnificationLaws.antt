-- What a caller of the unifier may use.
use Rattle.std.proofs.Common.{◌≡◌, ℕ, length, Some, ◌↔◌, sym, subst, ap, ◌∙◌}
use Rattle.tt_kinds.specs.Tree.{Depth, Tree}
use Rattle.tt_kinds.specs.Handle.{Ty}
use Rattle.tt_kinds.specs.Shape.{fill}
use Rattle.tt_kinds.specs.Kinds.{ty_shape}
use Rattle.tt_interner.specs.Owned.{IsOwned}
use Rattle.tt_interner.specs.Rows.{AreRows}
use Rattle.tt_interner.specs.Stored.{Terms, Extends}
use Rattle.tt_interner.proofs.Growth.{fill-grows}
use Rattle.tt_fold.specs.Steps.{tree_in}
use Rattle.unify.specs.Substitution.{Substitution, Assignment, apply, assign, IsWithout, IsResolved, Refines, Solves}
use Rattle.unify.specs.Substitution.{IsMostGeneral, IsOwn, HasNoOwnUnifier, as_assignment}
use Rattle.unify.specs.Bindings.{no_table, substitution, with_variable, IsTable, IsRefined, Table}
use Rattle.unify.proofs.SubstitutionLaws.{applied_once, refines_further, refines_itself, resolved_stays, trees_refined}
use Rattle.unify.proofs.TableLaws.{entries_stay, no_entries, pushed_same, resolved_unify, table_idempotent, values_own}
use Rattle.unify.proofs.TableLaws.{values_solve, values_stay}
-- what solves bindings makes of a resolved type what it makes of the type; what solves bindings solved the earlier ones
pub use Rattle.unify.proofs.GeneralLaws.{solution_factors, solves_earlier}
-- a table keeps what it was, and what it was before, where the later table does
pub use Rattle.unify.proofs.ComparisonLaws.{earlier_itself, earlier_further}

-- whatever the interner builds, a table stays a table
pub table_stays : (terms new : Terms) (b : Table) → Extends terms new → IsTable terms b → IsTable new b
table_stays terms new b extends table = entries_stay terms new b.entries extends table

-- and the same substitution
pub substitution_stays : (terms new : Terms) (b : Table) → Extends terms new → IsTable terms b
    → substitution new b ≡ substitution terms b
substitution_stays terms new b extends table = values_stay terms new b.entries extends table.owned

-- a table without variables is a table
pub empty_table : (terms : Terms) → IsTable terms no_table
empty_table terms = no_entries terms

-- whatever the interner builds, a table refines itself
pub refined_grown : (terms new : Terms) (b : Table) → Extends terms new → IsTable terms b → IsRefined terms b new b
refined_grown terms new b extends table = record {
  table = table_stays terms new b extends table;
  refines = subst (Refines (substitution terms b)) (sym (substitution_stays terms new b extends table))
      (refines_itself (substitution terms b) (table_idempotent terms b.entries table));
}

-- bindings of several calls in turn only grow
pub refined_further : (a b c : Terms) (x y z : Table) → IsRefined a x b y → IsRefined b y c z → IsRefined a x c z
refined_further a b c x y z first second = record {
  table = second.table;
  refines = refines_further (substitution a x) (substitution b y) (substitution c z) first.refines second.refines;
}

-- a table's bindings, as an assignment, solve the table, so there is a solution
pub bindings_solve : (terms : Terms) (b : Table) → AreRows terms.rows → IsTable terms b
    → Solves (as_assignment (substitution terms b)) (substitution terms b)
bindings_solve terms b are table = values_solve terms b.entries are table

-- and it is one to the table's variables alone
pub bindings_own : (terms : Terms) (b : Table) → AreRows terms.rows → IsTable terms b
    → IsOwn (length b.entries) (as_assignment (substitution terms b))
bindings_own terms b are table = values_own terms b.entries are table

-- no variable occurs in what it is bound to
pub never_within_itself : (terms : Terms) (b : Table) → IsTable terms b → (v : ℕ) (t : Tree Depth)
    → substitution terms b v ≡ Some t → IsWithout v t
never_within_itself terms b table v t is = table_idempotent terms b.entries table v t is v t is

-- a type without bound variables resolves to itself
pub resolved_is_itself : (terms : Terms) (entries : Table) (t : Tree Depth) → IsResolved (substitution terms entries) t → apply (substitution terms entries) t ≡ t
resolved_is_itself terms entries t resolved = resolved_stays (substitution terms entries) t resolved

-- what was resolved resolves to itself
pub resolved_once : (terms : Terms) (entries : Table) (t : Tree Depth) → IsTable terms entries
    → apply (substitution terms entries) (apply (substitution terms entries) t) ≡ apply (substitution terms entries) t
resolved_once terms entries t table = applied_once (substitution terms entries) t (table_idempotent terms entries.entries table)

-- what was resolved before and is resolved again is what is resolved now
pub resolved_again : (σ σ' : Substitution) (t : Tree Depth) → Refines σ σ' → apply σ' (apply σ t) ≡ apply σ' t
resolved_again σ σ' t refines = trees_refined σ σ' refines t

-- types that are unified stay unified, whatever is bound later
pub unified_stay : (σ σ' : Substitution) (t u : Tree Depth) → Refines σ σ' → apply σ t ≡ apply σ u → apply σ' t ≡ apply σ' u
unified_stay σ σ' t u refines same = sym (trees_refined σ σ' refines t) ∙ ap (apply σ') same ∙ trees_refined σ σ' refines u

-- each assignment that solves the old bindings and makes the two types equal factors through the new bindings
pub unifier_factors : (ρ : Assignment) (σ σ' : Substitution) (t u : Tree Depth) → IsMostGeneral σ t u σ' → Solves ρ σ → assign ρ t ≡ assign ρ u
    → (x : Tree Depth) → assign ρ (apply σ' x) ≡ assign ρ x
unifier_factors ρ σ σ' t u general solves same x = solution_factors ρ σ' (general ρ solves same) x

-- what solves bindings that unify two types makes the types equal
pub solution_unifies : (ρ : Assignment) (σ : Substitution) (t u : Tree Depth) → Solves ρ σ → apply σ t ≡ apply σ u → assign ρ t ≡ assign ρ u
solution_unifies ρ σ t u solves same = sym (solution_factors ρ σ solves t) ∙ ap (assign ρ) same ∙ solution_factors ρ σ solves u

-- from the promises of `unify`: the new bindings are solved exactly by what solves the old ones and makes the two types
-- equal
pub solved_exactly : (ρ : Assignment) (old new : Terms) (entries later : Table) (left right : Ty) → Extends old new
    → IsOwned ty_shape old left → IsOwned ty_shape old right → IsRefined old entries new later
    → apply (substitution new later) (tree_in new.rows (ty_shape left)) ≡ apply (substitution new later) (tree_in new.rows (ty_shape right))
    → IsMostGeneral (substitution old entries) (tree_in old.rows (ty_shape left)) (tree_in old.rows (ty_shape right)) (substitution new later)
    → Solves ρ (substitution new later) ↔ (Solves ρ (substitution old entries) × (assign ρ (tree_in old.rows (ty_shape left)) ≡ assign ρ (tree_in old.rows (ty_shape right))))
solved_exactly ρ old new entries later left right extends l r refined same general = (
  λ solves. (
    solves_earlier ρ (substitution old entries) (substitution new later) refined.refines solves,
    ap (assign ρ) (sym (fill-grows old.rows new.rows extends.rows (ty_shape left) l))
        ∙ solution_unifies ρ (substitution new later) (tree_in new.rows (ty_shape left)) (tree_in new.rows (ty_shape right)) solves same
        ∙ ap (assign ρ) (fill-grows old.rows new.rows extends.rows (ty_shape right) r),
  ),
  λ both. general ρ both.0 both.1,
)

-- each assignment solves a table without variables
pub empty_solved : (ρ : Assignment) (terms : Terms) → Solves ρ (substitution terms no_table)
unfolding fill
empty_solved ρ terms v r is = absurd (cc)

-- what solves a table solves it with one more variable
pub pushed_solved : (ρ : Assignment) (terms new : Terms) (entries : Table) → Extends terms new → IsTable terms entries
    → Solves ρ (substitution terms entries) → Solves ρ (substitution new (with_variable entries))
pushed_solved ρ terms new entries extends table solves v r is =
    solves v r (sym (ap (λ σ. σ v) (substitution_stays terms new entries extends table))
    ∙ sym (pushed_same new entries.entries (table_stays terms new entries extends table) v) ∙ is)

-- types mismatch exactly where the types do that they resolve to
pub mismatch_resolved : (n : ℕ) (σ : Substitution) (t u : Tree Depth) → HasNoOwnUnifier n σ (apply σ t) (apply σ u) ↔ HasNoOwnUnifier n σ t u
mismatch_resolved n σ t u = (
  λ never ρ own solves same. never ρ own solves (solution_factors ρ σ solves t ∙ same ∙ sym (solution_factors ρ σ solves u)),
  λ never ρ own solves same. never ρ own solves (sym (solution_factors ρ σ solves t) ∙ same ∙ solution_factors ρ σ solves u),
)

-- types that mismatch still do after more was bound
pub mismatch_stays : (n : ℕ) (σ σ' : Substitution) (t u : Tree Depth) → Refines σ σ' → HasNoOwnUnifier n σ t u → HasNoOwnUnifier n σ' t u
mismatch_stays n σ σ' t u refines never ρ own solves same = never ρ own (solves_earlier ρ σ σ' refines solves) same

-- types that resolve to one type don't mismatch
pub resolved_match : (terms : Terms) (entries : Table) (left right : Ty) → AreRows terms.rows → IsTable terms entries
    → apply (substitution terms entries) (tree_in terms.rows (ty_shape left)) ≡ apply (substitution terms entries) (tree_in terms.rows (ty_shape right))
    → HasNoOwnUnifier (length entries.entries) (substitution terms entries) (tree_in terms.rows (ty_shape left)) (tree_in terms.rows (ty_shape right)) → ⊥
resolved_match terms entries left right are table same never =
    never (as_assignment (substitution terms entries)) (bindings_own terms entries are table) (bindings_solve terms entries are table)
    (resolved_unify terms entries.entries are table left right same)
