-- the row that was stored is a clause's
use Rattle.std.proofs.Common.{ap, ◌∙◌}
use Rattle.tt_kinds.specs.Predicate.{is_clause_kind}
use Rattle.tt_interner.proofs.ClauseLaws.{clause_at}
use Rattle.tt_interner.proofs.upcast.BinderUpcast.upcast.Goals as goal

pub returns-clause-clause : goal.returns-clause-clause
returns-clause-clause g c = rw c.from_predicate.ensures (record {
  within = c.in_ok-predicate.ensures.in_range;
  clause = clause_at c.mk_predicate.new.self.rows c.are_rows.ensures.are c.bind_with_vars.result c.in_ok-predicate.predicate.number c.in_ok-predicate.ensures.stored.stored ∙ ap (λ b. is_clause_kind b.value) c.bind_with_vars.ensures;
})
