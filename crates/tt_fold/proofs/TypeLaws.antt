-- At which stored terms a folder of types is asked.
use Rattle.std.proofs.Common.{◌≡◌, ℕ, List, true, false, Result, Ok, Err, MatchResult, refl, sym, ◌∙◌}
use Rattle.std.proofs.lemmas.Bool.{true≢false}
use Rattle.tt_kinds.specs.Tree.{Depth, Tree}
use Rattle.tt_kinds.specs.Shape.{stored}
use Rattle.tt_kinds.specs.Kinds.{handle_shape, ty_shape}
use Rattle.tt_kinds.specs.TermTable.{term_table}
use Rattle.tt_kinds.specs.Handle.{Ty}
use Rattle.tt_kinds.specs.declared.handle.AnyHandle.{AnyHandle}
use Rattle.tt_kinds.specs.declared.table.TermTable.{TermTable}
use Rattle.tt_kinds.specs.declared.table.TermTable.TheVariants as terms_of
use Rattle.tt_kinds.specs.declared.table.Table.{Table}
use Rattle.tt_kinds.specs.declared.table.Table.TheVariants.{Types}
use Rattle.tt_interner.specs.Rows.{Row}
use Rattle.tt_visit.specs.Types.{is_type_tree}
use Rattle.tt_visit.proofs.TypeTrees.{is_types, stored-type}
use Rattle.tt_fold.specs.Walk.{descend}
use Rattle.tt_fold.specs.Parts.{handle_tree}
use Rattle.tt_fold.specs.Steps.{IsPartOf, OwnsStep, answer_of, tree_in}
use Rattle.tt_fold.specs.Types.{TypeHooks}
use Rattle.tt_fold.specs.declared.folder.Step.{Step}
use Rattle.tt_fold.proofs.PartLaws.{in_range, stored_tree}

-- the tree of a handle that names a row is a type's exactly if the handle is of the table of types
pub part-type : (rows : List Row) (t : Table) (n : ℕ) → IsPartOf rows (stored t n) → is_type_tree (tree_in rows (stored t n)) ≡ is_types t
part-type rows t n h = rw (stored_tree rows t n) (stored-type rows t n (in_range rows t n h))

-- a type is one
pub is-type : (rows : List Row) (x : Ty) → IsPartOf rows (ty_shape x) → is_type_tree (tree_in rows (ty_shape x)) ≡ true
is-type rows x h = part-type rows Types x.number h

-- the table of types is the one whose rows are types
no-types : (l : TermTable) → (l ≡ terms_of.Types → ⊥) → is_types (term_table l) ≡ false
no-types terms_of.Types other = absurd (other refl)
no-types terms_of.Consts other = refl
no-types terms_of.Patterns other = refl
no-types terms_of.Predicates other = refl
no-types terms_of.Existentials other = refl
no-types terms_of.ClauseLists other = refl
no-types terms_of.TypeLists other = refl
no-types terms_of.ConstLists other = refl
no-types terms_of.ArgLists other = refl
no-types terms_of.PatternLists other = refl
no-types terms_of.ExistentialLists other = refl

-- and nothing else is
pub no-type : (rows : List Row) (x : AnyHandle) → (x.table ≡ terms_of.Types → ⊥) → IsPartOf rows (handle_shape x) → is_type_tree (handle_tree rows x) ≡ false
no-type rows x other h = part-type rows (term_table x.table) x.number h ∙ no-types x.table other

-- the answer at a type, as one at a term
pub answers-type : {M E : Type 0} (H : TypeHooks M E) (unbuilt : Tree Depth → E → Type 0) (rows : List Row) (m m1 : M) (t : Tree Depth) (r : Result (Step Ty) E)
    → is_type_tree t ≡ true
    → MatchResult r
    (λ p. OwnsStep ty_shape rows p × H.on_type m t (answer_of ty_shape rows p) m1)
    (λ e. H.type_fails unbuilt m t e m1)
    → MatchResult r
    (λ p. OwnsStep ty_shape rows p × ((is_type_tree t ≡ true → H.on_type m t (answer_of ty_shape rows p) m1) × (is_type_tree t ≡ false → (answer_of ty_shape rows p ≡ descend) × (m1 ≡ m))))
    (λ e. (is_type_tree t ≡ true) × H.type_fails unbuilt m t e m1)
answers-type H unbuilt rows m m1 t (Ok p) is h = (h.0, ((λ yes. h.1), λ no. absurd (true≢false (sym is ∙ no))))
answers-type H unbuilt rows m m1 t (Err e) is h = (is, h)
