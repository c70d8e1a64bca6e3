use Rattle.tt_kinds.specs.Kinds.{const_shape}
use Rattle.tt_fold.specs.Steps.{tree_in}
use Rattle.tt_binder.specs.Untouched.{entered}
use Rattle.tt_binder.proofs.RowArguments.{const_is, inner_const}
use Rattle.tt_binder.proofs.untouched.TouchedVisitorTypeVisitor.visit_const.Goals as goal

pub returns-in-None-clause-result : goal.returns-in-None-clause-result
returns-in-None-clause-result c = entered (inner_const (tree_in c.args.cx.now.rows (const_shape c.args.constant)) (const_is c.args.cx.now.rows c.args.constant c.requires.constant) c.in-None.ensures)
