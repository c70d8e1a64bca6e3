-- by the predicate's tree
use Rattle.std.proofs.Common.{◌≡◌, ◌<◌, Bor, refl, sym, ap, subst, ◌∙◌}
use Rattle.tt_kinds.specs.declared.predicate_kind.PredicateKind.{PredicateKind}
use Rattle.tt_kinds.specs.declared.table.Table.TheVariants.{Predicates}
use Rattle.tt_kinds.specs.Handle.{Predicate}
use Rattle.tt_kinds.specs.Predicate.{is_clause_kind}
use Rattle.tt_interner.specs.Rows.{size, meaning}
use Rattle.tt_interner.specs.Clauses.{is_clause_tree}
use Rattle.tt_interner.proofs.ClauseLaws.{clause_at}
use Rattle.tt_interner.proofs.interner.Interner.owns_clause.Goals as goal

pub returns : goal.returns
returns c =
    let rows = c.args.self.now.rows in
    let same : c.from_number-predicate.result.number ≡ c.args.clause.number = ap (λ (p : Predicate). p.number) c.from_number-predicate.ensures ∙ c.number.ensures in
    let tree = clause_at rows c.are_rows.ensures.are c.kind.result.now c.from_number-predicate.result.number c.kind.ensures.row in
    let answer : c.is_clause.result ≡ is_clause_tree (meaning rows Predicates c.args.clause.number) =
    c.is_clause.ensures ∙ ap (λ (b : Bor PredicateKind). is_clause_kind b.now) c.skip_binder.ensures ∙ ap is_clause_kind c.as_ref.ensures.value ∙ sym tree ∙ ap (λ n. is_clause_tree (meaning rows Predicates n)) same in
    (λ is. record { within = subst (λ n. n < size rows Predicates) same (c.if-not-owns.ensures.0 refl); clause = sym answer ∙ is }, λ h. answer ∙ h.clause)
