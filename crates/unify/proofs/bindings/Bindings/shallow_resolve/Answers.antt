use Rattle.std.proofs.Common.{sym, subst, ap, ◌∙◌}
use Rattle.unify.specs.Bindings.{stored}
use Rattle.unify.specs.Substitution.{Solves}
use Rattle.unify.proofs.TableLaws.{resolve_alike}
use Rattle.unify.proofs.bindings.Bindings.shallow_resolve.Goals as goal

pub returns-clause-same : goal.returns-clause-same
returns-clause-same c =
    let terms = c.args.cx.now in
    let is = c.as_slice.ensures.value ∙ ap (λ b. b.entries) c.self.view_is in
    resolve_alike terms c.args.self.now.entries c.are_rows.ensures.are c.requires.table c.args.ty
    c.shallow_resolved.result
    (λ ρ solves. c.shallow_resolved.ensures.same ρ (subst (λ ys. Solves ρ (stored terms ys)) (sym is) solves))
