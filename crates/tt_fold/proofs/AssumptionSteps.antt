-- The fold of a list of assumptions, from the fold of a vector of them.
use Rattle.std.proofs.Common.{◌≡◌, List, Ok, Err, refl, ap}
use Rattle.tt_index.specs.declared.refusal.Refusal.{Refusal}
use Rattle.tt_index.specs.declared.refusal.Refusal.TheVariants.{Memory, TableFull, NotAClause}
use Rattle.tt_kinds.specs.Label.{list_label, record_label, sequence_record}
use Rattle.tt_kinds.specs.Tree as tree
use Rattle.tt_kinds.specs.Tree.{Depth, Tree, Forest}
use Rattle.tt_kinds.specs.Shape.{AreParts, fill, item_shapes}
use Rattle.tt_kinds.specs.Values.{assumption_shape, assumptions_shape, sequence_shape}
use Rattle.tt_kinds.specs.declared.generic_arg.GenericArgKind.{GenericArgKind}
use Rattle.tt_kinds.specs.Handle.{RegionAssumptions}
use Rattle.tt_kinds.specs.declared.predicate.OutlivesPredicate.{OutlivesPredicate}
use Rattle.tt_kinds.specs.declared.table.Table.TheVariants.{AssumptionLists}
use Rattle.tt_interner.specs.Rows.{Row, assumptions_row, size, meaning, AreRows}
use Rattle.tt_interner.specs.Stored.{Terms, IsAt, IsCause, IsUnbuilt, Builds}
use Rattle.tt_interner.proofs.Fill.{tree_table}
use Rattle.tt_interner.proofs.Growth.{Extends-refl, Extends-trans}
use Rattle.tt_interner.proofs.ShapeLaws.{root_of_row}
use Rattle.tt_interner.proofs.Trees.{Means-row}
use Rattle.tt_fold.specs.Walk.{Errors, Hooks, Walks, WalksAll, Fails, at_region, replaced, kept, descended, passed}
use Rattle.tt_fold.specs.Walk.{at_node, region_failed, term_failed, descent_failed, passed_failed, node_failed}
use Rattle.tt_fold.specs.Walk.{node_not_built, clause_lost, stopped}
use Rattle.tt_fold.specs.Counts.{Standing, stands}
use Rattle.tt_fold.specs.Steps.{Folds, IsPartOf, IsPartBy, tree_in, tree_by, IsErrorOfUnbuilt}
use Rattle.tt_fold.specs.Parts.{trees_in}

-- several assumptions
abbrev Assumptions : Type 0
Assumptions = List (OutlivesPredicate GenericArgKind)

-- the tree of a vector of values, and of a list of assumptions
abbrev sequence : Forest Depth → Tree Depth
sequence ts = tree.node (record_label sequence_record) ts

abbrev listed : Forest Depth → Tree Depth
listed ts = tree.node (list_label AssumptionLists) ts

-- the trees of the assumptions
abbrev trees_of : List Row → Assumptions → Forest Depth
trees_of rows ps = trees_in rows (item_shapes assumption_shape ps)

list-is : (rows : List Row) → AreRows rows → (l : RegionAssumptions) (ps : Assumptions) → IsAt rows (assumptions_row ps) l.number → tree_in rows (assumptions_shape l) ≡ listed (trees_of rows ps)
unfolding fill
list-is rows are l ps at = (Means-row rows are AssumptionLists l.number (assumptions_row ps) at).tree

-- the vector of a stored list's assumptions has only handles that name rows
pub sequence-part : (rows : List Row) → AreRows rows → (l : RegionAssumptions) (ps : Assumptions) → IsAt rows (assumptions_row ps) l.number → IsPartOf rows (sequence_shape assumption_shape ps)
sequence-part rows are l ps at = (refl, tt, (Means-row rows are AssumptionLists l.number (assumptions_row ps) at).parts.1)

-- if the handles in a vector of assumptions name rows, so do the handles in each assumption
pub sequence-parts : (rows : List Row) (ps : Assumptions) → IsPartOf rows (sequence_shape assumption_shape ps) → AreParts (size rows) (item_shapes assumption_shape ps)
sequence-parts rows ps h = h.2

-- the walk of a vector is the walk of its values
values-walked : {M E : Type 0} {H : Hooks M E} {s s' : M} {ts us : Forest Depth} → Walks H s (sequence ts) (sequence us) s' → WalksAll H s ts us s'
values-walked (at_region is h) = absurd (let never = is in cc)
values-walked (replaced is h) = absurd (let never = is in cc)
values-walked (kept is h) = absurd (let never = is in cc)
values-walked (descended is h d) = absurd (let never = is in cc)
values-walked (passed is w) = absurd (let never = is in cc)
values-walked (at_node w fit) = w

values-failed : {M E : Type 0} {H : Hooks M E} {errors : Errors E} {s s' : M} {ts : Forest Depth} {e : E}
    → ((us : Forest Depth) → errors.unbuilt (sequence us) e → errors.unbuilt (listed us) e) → Fails H errors s (sequence ts) e s' → Fails H errors s (listed ts) e s'
values-failed same (region_failed is h) = absurd (let never = is in cc)
values-failed same (term_failed is h) = absurd (let never = is in cc)
values-failed same (descent_failed is h d) = absurd (let never = is in cc)
values-failed same (passed_failed is d) = absurd (let never = is in cc)
values-failed same (node_failed d) = node_failed d
values-failed same (node_not_built {us} w b) = node_not_built w (same us b)
values-failed same (clause_lost w lost b) = absurd lost

-- a vector is never stored: only for want of memory is it not built, and then nothing is
vector-unbuilt : (terms : Terms) (us : Forest Depth) (u : Tree Depth) (r : Refusal) → IsUnbuilt terms (sequence us) r → IsUnbuilt terms u r
vector-unbuilt terms us u Memory h = tt
vector-unbuilt terms us u TableFull h = let root = root_of_row (meaning terms.rows) h.row in let same = ap tree_table h.fills in absurd (cc)
vector-unbuilt terms us u NotAClause h = absurd h
vector-unbuilt terms us u _ h = absurd h

-- an error that says that a vector of trees is not built says the same of the list of these trees
pub vector-error : {E : Type 0} (gives : Refusal → E → Type 0) (terms : Terms) (e : E) (us : Forest Depth) → IsErrorOfUnbuilt gives terms (sequence us) e → IsErrorOfUnbuilt gives terms (listed us) e
vector-error gives terms e us h = (h.0, (h.1.0, vector-unbuilt terms us (listed us) h.0 h.1.1))

-- why a list of assumptions was not stored
pub not_stored : (terms : Terms) (ps : Assumptions) (r : Refusal) → AreParts (size terms.rows) (item_shapes assumption_shape ps) → IsCause terms (assumptions_row ps) r → IsUnbuilt terms (listed (trees_of terms.rows ps)) r
unfolding fill
not_stored terms ps Memory parts h = tt
not_stored terms ps TableFull parts h = record { row = assumptions_row ps; fills = refl; parts = (tt, parts); new = h.0; full = h.1 }
not_stored terms ps _ parts h = absurd h

module _ {M E S : Type 0} {owned : List Row → S → Type 0} {means : List Row → S → M} {H : Hooks (Standing M) E} {errors : Errors E} (l : RegionAssumptions) where
  -- the memory for the copy was refused
  pub copy_stops : {terms : Terms} {s : S} (ps : Assumptions) {e : E} → AreRows terms.rows → IsAt terms.rows (assumptions_row ps) l.number → owned terms.rows s → ((u : Tree Depth) → errors.unbuilt u e)
      → Folds owned means (IsPartBy assumptions_shape) (tree_by assumptions_shape) (Walks H) (Fails H errors) terms s l (Err e) terms s
  unfolding fill
  copy_stops {terms} ps are at o b = record { extends = Extends-refl terms; is_owned = o; outcome = rw (list-is terms.rows are l ps at) (node_failed (stopped b)) }

  module _ {V : Type 0} (items : V → Assumptions) {terms terms1 : Terms} {s s1 : S} {v : V} (are : AreRows terms.rows) (at : IsAt terms.rows (assumptions_row (items v)) l.number) where
    -- an assumption was not folded
    pub assumptions_fail : {e : E} → ((us : Forest Depth) → errors.unbuilt (sequence us) e → errors.unbuilt (listed us) e)
        → Folds owned means (IsPartBy (λ v. sequence_shape assumption_shape (items v))) (tree_by (λ v. sequence_shape assumption_shape (items v))) (Walks H) (Fails H errors) terms s v (Err e) terms1 s1
        → Folds owned means (IsPartBy assumptions_shape) (tree_by assumptions_shape) (Walks H) (Fails H errors) terms s l (Err e) terms1 s1
    unfolding fill
    assumptions_fail same d = record { extends = d.extends; is_owned = d.is_owned; outcome = rw (list-is terms.rows are l (items v) at) (values-failed same d.outcome) }

    -- all were, and the list of what came of them is not stored
    pub assumptions_not_stored : {terms2 : Terms} {w : V} {e : E} {other : Errors E}
        → Folds owned means (IsPartBy (λ v. sequence_shape assumption_shape (items v))) (tree_by (λ v. sequence_shape assumption_shape (items v))) (Walks H) (Fails H other) terms s v (Ok w) terms1 s1
        → terms2 ≡ terms1 → errors.unbuilt (listed (trees_of terms1.rows (items w))) e
        → Folds owned means (IsPartBy assumptions_shape) (tree_by assumptions_shape) (Walks H) (Fails H errors) terms s l (Err e) terms2 s1
    unfolding fill
    assumptions_not_stored d same b =
        rw same (record { extends = d.extends; is_owned = d.is_owned; outcome = rw (list-is terms.rows are l (items v) at) (node_not_built (values-walked d.outcome.1) b) })

    -- or it is
    pub assumptions_stored : {terms2 : Terms} {w : V} {other : Errors E} (h : RegionAssumptions)
        → Folds owned means (IsPartBy (λ v. sequence_shape assumption_shape (items v))) (tree_by (λ v. sequence_shape assumption_shape (items v))) (Walks H) (Fails H other) terms s v (Ok w) terms1 s1
        → Builds (Ok h) (λ l. l.number) terms1 terms2 (assumptions_row (items w)) → owned terms2.rows s1 → stands means terms2 s1 ≡ stands means terms1 s1
        → Folds owned means (IsPartBy assumptions_shape) (tree_by assumptions_shape) (Walks H) (Fails H errors) terms s l (Ok h) terms2 s1
    unfolding fill
    assumptions_stored h d b o still = record {
      extends = Extends-trans d.extends (record { rows = b.grows; limit = b.limit });
      is_owned = o;
      outcome = (b.in_range, rw (list-is terms.rows are l (items v) at, b.means, still) (at_node (values-walked d.outcome.1) (λ h. h)));
    }
