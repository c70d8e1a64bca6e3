use Rattle.tt_interner.specs.Rows.{meaning}
use Rattle.tt_binder.proofs.RowArguments.{const_kind_tree, const_within}
use Rattle.tt_binder.proofs.HookLaws.{const_param_found, const_param_none}
use Rattle.tt_binder.proofs.arg_folder.const_parameter.Goals as goal

pub kind-requires : goal.kind-requires
kind-requires c = const_within c.args.cx.now.rows c.args.constant c.requires

pub returns-in-Param : goal.returns-in-Param
returns-in-Param c =
    let e = const_kind_tree c.args.cx.now.rows c.args.constant _ c.are_rows.ensures.are c.kind.ensures.row in
    rw (e, c.in-Param.is) (const_param_found (meaning c.args.cx.now.rows) c.in-Param.parameter)

pub returns-in_default : goal.returns-in_default
returns-in_default c =
    let e = const_kind_tree c.args.cx.now.rows c.args.constant _ c.are_rows.ensures.are c.kind.ensures.row in
    λ i h. const_param_none (meaning c.args.cx.now.rows) _ c.in_default.not-Param i (rw e at h)
