use Rattle.std.proofs.Common.{Ok}
use Rattle.tt_interner.proofs.Growth.{Extends-trans}
use Rattle.checker.specs.Scope.{trees}
use Rattle.checker.proofs.TreeLaws.{data_type_built}
use Rattle.checker.proofs.types.data_type_of.Goals as goal

pub returns-clause-extends : goal.returns-clause-extends
returns-clause-extends c =
    Extends-trans c.type_arguments.ensures.extends (record { rows = c.mk_ty.ensures.grows; limit = c.mk_ty.ensures.limit })

pub returns-clause-is : goal.returns-clause-is
returns-clause-is c =
    data_type_built c.type_arguments.new.cx c.mk_ty.new.self c.args.id c.in_ok-args.args (trees c.args.cx.now.rows c.args.types.now)
    (Ok c.in_ok-mk_ty.field-0) c.in_ok-args.ensures.is c.in_ok-mk_ty.ensures
