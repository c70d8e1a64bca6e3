use Rattle.std.proofs.lemmas.Result.{err_from_is_err_and}
use Rattle.std.proofs.Common.{refl}
use Rattle.tt_interner.specs.Nodes.{stored_kind}
use Rattle.tt_fold.proofs.FormLaws.{is_inner}
use Rattle.tt_fold.proofs.ItemSteps.{open_leaf, open_fails, open_ok, term_made}
use Rattle.tt_fold.proofs.stack.open_term.Goals as goal

pub node_parts-contents-requires : goal.node_parts-contents-requires
node_parts-contents-requires g c = record { owned = c.requires.handle; has_kind = c.requires.term }

pub returns-then-is_leaf : goal.returns-then-is_leaf
returns-then-is_leaf g c =
    let is = c.node_parts-contents.ensures in
    let leaf = rw (is.bound_vars, is.children) at (c.if-is_leaf.ensures.0 refl) in
    open_leaf c.args.handle c.requires.owned is.means leaf

pub returns-in_err-enter : goal.returns-in_err-enter
returns-in_err-enter g c =
    let p = err_from_is_err_and c.from_residual.result c.from_residual.ensures.1 in
    let is = c.node_parts-contents.ensures in
    let k = stored_kind c.args.cx.now.rows c.args.handle in
    let inner = is_inner k (rw (is.bound_vars, is.children) at c.if-is_leaf.ensures.1) in
    let t = term_made c.args.handle c.requires.handle is.table is.parts inner refl in
    rw (p.1, p.2) (open_fails c.args.handle _ c.requires.handle c.requires.term is.bound_vars t is.means c.in_err-enter.ensures)

pub returns : goal.returns
returns g c =
    let is = c.node_parts-contents.ensures in
    let k = stored_kind c.args.cx.now.rows c.args.handle in
    let inner = is_inner k (rw (is.bound_vars, is.children) at c.if-is_leaf.ensures.1) in
    let counted = rw is.children at c.walked_count.ensures in
    let t = term_made c.args.handle c.requires.handle is.table is.parts inner counted in
    open_ok c.args.handle _ c.requires.handle c.requires.term is.bound_vars t is.means c.in_ok-enter.ensures
