-- by the predicate's tree
use Rattle.std.proofs.Common.{◌≡◌, Bor, refl, sym, ap, subst, ◌∙◌}
use Rattle.tt_kinds.specs.declared.table.Table.TheVariants.{Predicates}
use Rattle.tt_kinds.specs.declared.predicate_kind.PredicateKind.{PredicateKind}
use Rattle.tt_kinds.specs.Predicate.{is_clause_kind}
use Rattle.tt_kinds.specs.declared.binder.Binder.{Binder}
use Rattle.tt_kinds.specs.declared.predicate_kind.PredicateKind.TheVariants as predicate
use Rattle.tt_interner.specs.Rows.{meaning, predicate_row}
use Rattle.tt_interner.specs.Clauses.{is_clause_tree, clause_predicate}
use Rattle.tt_interner.specs.Stored.{IsAt}
use Rattle.tt_interner.proofs.ReadsLaws.{reads}
use Rattle.tt_interner.proofs.ClauseLaws.{clause_at, no-clause}
use Rattle.tt_interner.proofs.interner.predicates.ClauseAsPredicate.kind.Goals as goal

pub unreachable-requires : goal.unreachable-requires
unreachable-requires c =
    let rows = c.args.cx.now.rows in
    let same : c.as_predicate.result.number ≡ c.args.self.number = c.as_predicate.ensures in
    let tree = clause_at rows c.are_rows.ensures.are c.kind-predicate.result.now c.as_predicate.result.number c.kind-predicate.ensures.row in
    let lent : c.skip_binder.result.now ≡ c.kind-predicate.result.now.value = ap (λ (b : Bor PredicateKind). b.now) c.skip_binder.ensures ∙ c.as_ref.ensures.value in
    no-clause c.skip_binder.result.now c.in_default.not-Clause
    (ap is_clause_kind lent ∙ sym tree ∙ ap (λ n. is_clause_tree (meaning rows Predicates n)) same ∙ c.requires.clause)

pub returns : goal.returns
returns c =
    let rows = c.args.cx.now.rows in
    let b = c.kind-predicate.result.now in
    let same : c.as_predicate.result.number ≡ c.args.self.number = c.as_predicate.ensures in
    let lent : c.skip_binder.result.now ≡ b.value = ap (λ (b : Bor PredicateKind). b.now) c.skip_binder.ensures ∙ c.as_ref.ensures.value in
    let kind : b.value ≡ predicate.Clause c.in-Clause.kind = sym lent ∙ c.in-Clause.is in
    let stored : b ≡ clause_predicate c.bind_with_vars.result =
    (λ i. record { value = kind i; bound_vars = b.bound_vars }) ∙ (λ i. record { value = predicate.Clause c.in-Clause.kind; bound_vars = sym c.bound_vars.ensures i })
    ∙ ap clause_predicate (sym c.bind_with_vars.ensures) in
    reads rows c.are_rows.ensures.are Predicates _ _ refl
    (subst (IsAt rows (predicate_row (clause_predicate c.bind_with_vars.result))) same
    (subst (λ (d : Binder PredicateKind). IsAt rows (predicate_row d) c.as_predicate.result.number) stored c.kind-predicate.ensures.row))
