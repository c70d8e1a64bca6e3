use Rattle.std.proofs.Common.{◌≡◌, ◌<◌, List, inl, inr, Bool, true, false, refl, ap, ◌∙◌}
use Rattle.std.specs.Prelude.{IsTrue, not}
use Rattle.tt_kinds.specs.Tree as tree
use Rattle.tt_kinds.specs.Kinds.{child_shapes, handle_shape}
use Rattle.tt_kinds.specs.Handle.{Predicate, any_handle}
use Rattle.tt_kinds.specs.declared.parts.Child.{Child}
use Rattle.tt_kinds.specs.declared.parts.Child.TheVariants as child
use Rattle.tt_kinds.specs.declared.table.Table.TheVariants.{Predicates}
use Rattle.tt_kinds.specs.declared.table.TermTable.TheVariants as terms_of
use Rattle.tt_interner.specs.Clauses.{is_clause_tree, HasOther}
use Rattle.tt_interner.specs.Rows.{Row, size, meaning, IsClause}
use Rattle.tt_fold.specs.Parts.{ArePartsOf, child_trees}
use Rattle.tt_fold.proofs.PartLaws.{in_range, only_part, one_tree, stored_tree}
use Rattle.tt_fold.proofs.items.check_clause.Goals as goal

module _ (rows : List Row) (x : Child) (p : Predicate) (is : x ≡ child.Stored (any_handle terms_of.Predicates p)) where
  trees : child_trees rows x ≡ tree.also (meaning rows Predicates p.number) tree.none
  trees = rw is (one_tree rows (handle_shape (any_handle terms_of.Predicates p)) ∙ ap (λ t. tree.also t tree.none) (stored_tree rows Predicates p.number))

  inside : ArePartsOf rows (child_shapes x) → p.number < size rows Predicates
  inside h = in_range rows Predicates p.number (only_part rows (handle_shape (any_handle terms_of.Predicates p)) (rw is at h))

  clause : IsClause rows p.number → HasOther (child_trees rows x) → ⊥
  clause is_clause h = elim (rw trees at h) [ inl a ↦ (let never = rw is_clause.clause at a in cc) | inr b ↦ b ]

  other : p.number < size rows Predicates → (IsClause rows p.number → ⊥) → HasOther (child_trees rows x)
  other lt never = rw trees (inl (by (is_clause_tree (meaning rows Predicates p.number)) refl))
    where
      by : (b : Bool) → is_clause_tree (meaning rows Predicates p.number) ≡ b → IsTrue (not (is_clause_tree (meaning rows Predicates p.number)))
      by true e = absurd (never (record { within = lt; clause = e }))
      by false e = rw e refl

pub typed-requires : goal.typed-requires
typed-requires c = rw c.in-Stored.is at c.requires.fit

pub as_clause-requires : goal.as_clause-requires
as_clause-requires c = inside _ _ c.typed.result (c.in-Stored.is ∙ ap child.Stored c.typed.ensures) c.requires.item

pub returns-in-Some-clause-ok : goal.returns-in-Some-clause-ok
returns-in-Some-clause-ok c =
    clause _ _ c.typed.result (c.in-Stored.is ∙ ap child.Stored c.typed.ensures) (rw c.in-Some.ensures.0 at c.in-Some.ensures.1)

pub returns-in-None-clause-err : goal.returns-in-None-clause-err
returns-in-None-clause-err c =
    let is = c.in-Stored.is ∙ ap child.Stored c.typed.ensures in
    other _ _ c.typed.result is (inside _ _ c.typed.result is c.requires.item) c.in-None.ensures
