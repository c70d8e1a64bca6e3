use Rattle.std.proofs.Common.{Contains, arith, subst, sym}
use Rattle.std.proofs.lemmas.List.{take_all}
use Rattle.unify.specs.Bindings.{stored}
use Rattle.unify.specs.Triangular.{IsChild}
use Rattle.unify.proofs.SearchSteps.{none_further}
use Rattle.unify.proofs.search.have_children.Goals as goal

pub loop-variable-preserved : goal.loop-variable-preserved
loop-variable-preserved c =
    none_further (IsChild (stored c.args.cx.now c.args.entries.now)) c.args.variables.now c.loop-variable.variable-index
    c.variable-item.result c.loop-variable-test.true (sym c.variable-item.is) c.loop-variable.invariant
    (c.is_parent.ensures c.if-is_parent.false)

pub returns : goal.returns
returns c = λ none v u at.
    c.loop-variable.invariant v u
    (subst (λ vs. Contains vs v) (sym (take_all c.loop-variable.variable-index c.args.variables.now
    (omega (arith, c.loop-variable-test.false)))) at)
