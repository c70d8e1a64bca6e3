use Rattle.std.proofs.Common.{Ok, sym, subst, ◌∙◌}
use Rattle.tt_kinds.specs.Kinds.{arg_shape}
use Rattle.tt_interner.specs.Owned.{AreOwned}
use Rattle.checker.proofs.TreeLaws.{arguments_built, arguments_owned}
use Rattle.checker.proofs.types.type_arguments.Goals as goal

pub mk_args-requires : goal.mk_args-requires
mk_args-requires c =
    subst (AreOwned arg_shape c.args.cx.now) (sym (c.as_slice.ensures.value ∙ c.in_ok-args.ensures))
    (arguments_owned c.args.cx.now c.args.types.now c.requires)

pub returns-clause-is : goal.returns-clause-is
returns-clause-is c =
    arguments_built c.args.cx.now c.mk_args.new.self c.args.types.now c.as_slice.result.now (Ok c.in_ok-mk_args.field-0)
    (c.as_slice.ensures.value ∙ c.in_ok-args.ensures) c.in_ok-mk_args.ensures
