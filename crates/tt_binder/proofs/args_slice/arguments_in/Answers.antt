-- by the row of the view's list
use Rattle.std.proofs.Common.{◌≡◌, refl, sym, ap, ◌∙◌}
use Rattle.tt_kinds.specs.Kinds.{arg_shape}
use Rattle.tt_interner.proofs.OwnedLaws.{take_owned, drop_owned}
use Rattle.tt_interner.specs.Arguments.{row_args, args_at}
use Rattle.tt_binder.proofs.args_slice.arguments_in.Goals as goal

pub returns-clause-items : goal.returns-clause-items
returns-clause-items c =
    let there : args_at c.args.cx.now.rows c.args.view.args ≡ c.as_slice-all.result.now =
    ap (args_at c.args.cx.now.rows) (sym c.args-2.ensures) ∙ ap row_args c.as_slice-all.ensures.row in
    rw (c.span.ensures, c.start.ensures, c.count.ensures, there) refl

pub returns-clause-are : goal.returns-clause-are
returns-clause-are c =
    rw c.span.ensures
    (take_owned arg_shape c.args.cx.now _ _ (drop_owned arg_shape c.args.cx.now _ _ c.as_slice-all.ensures.parts.1))
