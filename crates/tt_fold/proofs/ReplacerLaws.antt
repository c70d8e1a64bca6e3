-- At which stored terms a folder of types, regions and constants is asked.
use Rattle.std.proofs.Common.{◌≡◌, ℕ, ◌<◌, List, [], ◌∷◌, Option, Some, Result, MatchResult, inl, inr, refl, sym, ap, subst}
use Rattle.std.proofs.Common.{◌∙◌, arith}
use Rattle.tt_kinds.specs.Tree as tree
use Rattle.tt_kinds.specs.Tree.{Depth, Tree}
use Rattle.tt_kinds.specs.Shape.{Shape, fill}
use Rattle.tt_kinds.specs.Kinds.{handle_shape}
use Rattle.tt_kinds.specs.TermTable.{term_table}
use Rattle.tt_kinds.specs.declared.handle.AnyHandle.{AnyHandle}
use Rattle.tt_kinds.specs.declared.table.TermTable.{TermTable}
use Rattle.tt_kinds.specs.declared.table.TermTable.TheVariants as terms_of
use Rattle.tt_kinds.specs.declared.table.Table.{Table}
use Rattle.tt_interner.specs.Rows.{Row, row_shape, table, size, meaning}
use Rattle.tt_interner.proofs.Fill.{tree_table}
use Rattle.tt_interner.proofs.RowLaws.{IsNewest, place_cases, meaning-old, meaning-new}
use Rattle.tt_interner.proofs.ShapeLaws.{root_of_row}
use Rattle.tt_visit.specs.Root.{root, hooked}
use Rattle.tt_visit.proofs.HasEscapingVarsLaws.{no-leaf}
use Rattle.tt_fold.specs.Walk.{descend}
use Rattle.tt_fold.specs.Parts.{handle_tree, HasHook}
use Rattle.tt_fold.specs.Steps.{IsPartOf, OwnsStep, answer_of}
use Rattle.tt_fold.specs.Replacers.{ReplacerHooks, AnswersIn, FailsIn, hook_table}
use Rattle.tt_fold.specs.declared.folder.Step.{Step}
use Rattle.tt_fold.proofs.ItemSteps.{item_root}
use Rattle.tt_fold.proofs.PartLaws.{in_range, stored_tree}

newest-table : (r : Row) (rows : List Row) (t : Table) (n : ℕ) → IsNewest r rows t n → tree_table (meaning (r ∷ rows) t n) ≡ Some t
newest-table r rows t n newest =
    let same : meaning (r ∷ rows) t n ≡ fill (meaning rows) (row_shape r) = rw (newest.last, ← newest.same_table) (meaning-new r rows) in
    rw same (root_of_row (meaning rows) r ∙ ap Some newest.same_table)

-- the root of a handle's tree tells the handle's table
handle-table : (rows : List Row) (t : Table) (n : ℕ) → n < size rows t → tree_table (meaning rows t n) ≡ Some t
unfolding table
handle-table [] t n h = absurd (omega (arith, h))
handle-table (r ∷ rows) t n h = elim (place_cases r rows t n h) [
  | inl old ↦ rw (meaning-old r rows t n old) (handle-table rows t n old)
  | inr newest ↦ newest-table r rows t n newest
]

hooked-table : (t : Tree Depth) → root t ≡ hooked → hook_table t ≡ tree_table t
hooked-table (tree.param s i name) h = refl
hooked-table (tree.bound s d e) h = refl
hooked-table (tree.region r) h = refl
hooked-table (tree.term l ts) h = refl
hooked-table (tree.node l ts) h = absurd (no-leaf l (inr h))
hooked-table (tree.binder vs t) h = refl

-- the tree of a stored term with a hook tells the term's table
pub hook-table : (rows : List Row) (x : AnyHandle) → HasHook x → IsPartOf rows (handle_shape x) → hook_table (handle_tree rows x) ≡ Some (term_table x.table)
hook-table rows x has h =
    hooked-table (handle_tree rows x) (item_root rows x h ∙ has)
    ∙ ap tree_table (stored_tree rows (term_table x.table) x.number)
    ∙ handle-table rows (term_table x.table) x.number (in_range rows (term_table x.table) x.number h)

module _ {M E : Type 0} (H : ReplacerHooks M E) (m : M) (t : Tree Depth) where
  -- the answer of a hook at a term of the table, as an answer in the walk
  pub answers-in : {T : Type 0} (shape : T → Shape) (unbuilt : Tree Depth → E → Type 0) (rows : List Row) (m1 : M) (k : Option Table) (r : Result (Step T) E)
      → hook_table t ≡ k
      → MatchResult r
      (λ p. OwnsStep shape rows p × AnswersIn H k m t (answer_of shape rows p) m1)
      (λ e. FailsIn H k unbuilt m t e m1)
      → MatchResult r
      (λ p. OwnsStep shape rows p × AnswersIn H (hook_table t) m t (answer_of shape rows p) m1)
      (λ e. FailsIn H (hook_table t) unbuilt m t e m1)
  answers-in shape unbuilt rows m1 k r is h = subst
      (λ j. MatchResult r
      (λ p. OwnsStep shape rows p × AnswersIn H j m t (answer_of shape rows p) m1)
      (λ e. FailsIn H j unbuilt m t e m1))
      (sym is) h

  enters : (l : TermTable) → (l ≡ terms_of.Types → ⊥) → (l ≡ terms_of.Consts → ⊥) → AnswersIn H (Some (term_table l)) m t descend m
  enters terms_of.Types no_type no_const = absurd (no_type refl)
  enters terms_of.Consts no_type no_const = absurd (no_const refl)
  enters terms_of.Patterns no_type no_const = (refl, refl)
  enters terms_of.Predicates no_type no_const = (refl, refl)
  enters terms_of.Existentials no_type no_const = (refl, refl)
  enters terms_of.ClauseLists no_type no_const = (refl, refl)
  enters terms_of.TypeLists no_type no_const = (refl, refl)
  enters terms_of.ConstLists no_type no_const = (refl, refl)
  enters terms_of.ArgLists no_type no_const = (refl, refl)
  enters terms_of.PatternLists no_type no_const = (refl, refl)
  enters terms_of.ExistentialLists no_type no_const = (refl, refl)

  -- what is no type and no constant is entered
  pub enters-other : (x : AnyHandle) → (x.table ≡ terms_of.Types → ⊥) → (x.table ≡ terms_of.Consts → ⊥)
      → hook_table t ≡ Some (term_table x.table) → AnswersIn H (hook_table t) m t descend m
  enters-other x no_type no_const is = subst (λ j. AnswersIn H j m t descend m) (sym is) (enters x.table no_type no_const)
