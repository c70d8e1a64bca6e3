use Rattle.tt_kinds.specs.Kinds.{arg_shape}
use Rattle.tt_interner.specs.Owned.{tree_in}
use Rattle.unify.specs.Bindings.{substitution}
use Rattle.solver.proofs.SearchLaws.{unresolved}
use Rattle.solver.proofs.goals.resolved_arg.Goals as goal

pub returns-in_default-clause-plain : goal.returns-in_default-clause-plain
returns-in_default-clause-plain c =
    unresolved (substitution c.args.cx.now c.args.bindings.now) (tree_in c.args.cx.now.rows (arg_shape c.args.arg))
    c.has_infer_types.result c.has_infer_types.ensures c.if-has_infer_types.false
