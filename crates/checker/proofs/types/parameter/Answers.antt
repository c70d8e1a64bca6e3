use Rattle.std.proofs.Common.{Ok, ap, ◌∙◌}
use Rattle.checker.specs.TypeTrees.{parameter_of}
use Rattle.checker.proofs.TreeLaws.{param_built}
use Rattle.checker.proofs.types.parameter.Goals as goal

pub returns-clause-extends : goal.returns-clause-extends
returns-clause-extends c = c.mk_param.ensures.extends

pub returns-clause-is : goal.returns-clause-is
returns-clause-is c =
    let name = c.args.name.now in
    let is = param_built c.in-Ok.index name c.args.cx.now c.mk_param.new.self (Ok c.in_ok-mk_param.field-0) c.in_ok-mk_param.ensures.builds in
    is ∙ ap (λ i. parameter_of i name) c.in-Ok.ensures.1
