use Rattle.std.proofs.Common.{get_or, None, sym, subst, ap, ◌∙◌}
use Rattle.tt_interner.specs.Rows.{meaning}
use Rattle.unify.specs.Bindings.{stored}
use Rattle.unify.specs.Resolver.{linked_variable, IsLinked}
use Rattle.unify.specs.Substitution.{Solves}
use Rattle.unify.proofs.BindingsLaws.{bound_tree, reads}
use Rattle.unify.proofs.ChainLaws.{ends_at}
use Rattle.unify.proofs.TableLaws.{stored_solved}
use Rattle.unify.proofs.bindings.Bindings.root.Goals as goal

pub returns-clause-same : goal.returns-clause-same
returns-clause-same c = λ ρ solves.
    let terms = c.args.cx.now in
    let is = c.as_slice.ensures.value ∙ ap (λ b. b.entries) c.self.view_is in
    c.last_variable.ensures.same ρ (subst (λ xs. Solves ρ (stored terms xs)) (sym is)
    (stored_solved terms c.args.self.now.entries c.requires ρ solves))

pub returns-clause-chain : goal.returns-clause-chain
returns-clause-chain c =
    let is = c.as_slice.ensures.value ∙ ap (λ b. b.entries) c.self.view_is in
    subst (λ xs. IsLinked (stored c.args.cx.now xs) c.args.variable c.last_variable.result) is
    c.last_variable.ensures.chain

pub returns-clause-end : goal.returns-clause-end
returns-clause-end c =
    let terms = c.args.cx.now in
    let is = c.as_slice.ensures.value ∙ ap (λ b. b.entries) c.self.view_is in
    let root = c.last_variable.result in
    ends_at terms (get_or c.args.self.now.entries root None)
    (ap linked_variable (sym (reads terms c.args.self.now.entries root))
    ∙ ap (λ xs. linked_variable (stored terms xs root)) (sym is) ∙ c.last_variable.ensures.end)
