use Rattle.checker.proofs.BuiltLaws.{reference_built_by}
use Rattle.checker.proofs.types.reference_to.Goals as goal

pub returns-clause-is : goal.returns-clause-is
returns-clause-is c =
    reference_built_by c.args.cx.now c.mk_ref.new.self c.new_erased.result c.args.referent c.in_ok-mk_ref.field-0 c.mk_ref.result
    c.new_erased.ensures c.in_ok-mk_ref.was c.mk_ref.ensures
