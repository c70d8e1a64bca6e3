use Rattle.tt_kinds.specs.Kinds.{clauses_shape}
use Rattle.tt_fold.specs.Steps.{tree_in}
use Rattle.tt_binder.specs.Validate.{vars_at}
use Rattle.tt_binder.proofs.RowArguments.{clauses_is}
use Rattle.tt_binder.proofs.ValidateLaws.{validation, looks_skip, looks_enter, clause_other}
use Rattle.tt_binder.proofs.validate_bound_vars.ValidateBoundVarsTypeVisitor.visit_clauses.Goals as goal

pub returns-then-is_below-clause-result : goal.returns-then-is_below-clause-result
returns-then-is_below-clause-result c =
    let rows = c.args.cx.now.rows in
    let self = c.args.self.now in
    looks_skip (validation rows self.bound_vars self.binder_index self.visited) (tree_in rows (clauses_shape c.args.clauses)) c.outer_exclusive_binder.result c.outer_exclusive_binder.ensures (c.is_below.ensures.0 c.if-is_below.true)

pub returns-else-is_below-clause-result : goal.returns-else-is_below-clause-result
returns-else-is_below-clause-result c =
    let rows = c.args.cx.now.rows in
    let self = c.args.self.now in
    let tree = tree_in rows (clauses_shape c.args.clauses) in
    looks_enter (validation rows self.bound_vars self.binder_index self.visited) tree (clause_other (vars_at rows self.bound_vars) self.binder_index tree (clauses_is rows c.args.clauses c.requires.clauses))
