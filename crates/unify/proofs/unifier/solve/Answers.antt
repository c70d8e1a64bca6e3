use Rattle.std.proofs.Common.{◌≡◌, Contains, arith, drop, length, subst, sym}
use Rattle.std.proofs.lemmas.Result.{err_from_is_err_and}
use Rattle.unify.specs.Bindings.{stored, table_of}
use Rattle.unify.specs.Search.{Reaches}
use Rattle.unify.specs.Triangular.{IsChild}
use Rattle.unify.proofs.TableLaws.{stored_solved}
use Rattle.unify.proofs.UndoLaws.{rest_is}
use Rattle.unify.proofs.TriangularUnify.{cycle_occurs, solved_generally, solved_refines, solved_unifies}
use Rattle.unify.proofs.unifier.solve.Goals as goal

pub returns-in_err-compare-clause-mismatch : goal.returns-in_err-compare-clause-mismatch
returns-in_err-compare-clause-mismatch c =
    let p = err_from_is_err_and c.from_residual.result c.from_residual.ensures.1 in
    rw (p.1, p.2) (λ mismatch ρ own solves equal.
    c.in_err-compare.ensures.mismatch mismatch ρ own
    (stored_solved c.args.cx.now c.args.table.now.entries.items c.requires.table ρ solves) equal)

pub returns-in_err-compare-clause-escapes : goal.returns-in_err-compare-clause-escapes
returns-in_err-compare-clause-escapes c =
    let p = err_from_is_err_and c.from_residual.result c.from_residual.ensures.1 in
    rw (p.1, p.2) (λ escapes ρ closed solves equal.
    c.in_err-compare.ensures.escapes escapes ρ closed
    (stored_solved c.args.cx.now c.args.table.now.entries.items c.requires.table ρ solves) equal)

len_is : (c : goal.After-drop-order) → c.len-first.result ≡ length c.args.table.now.bound.items
len_is c = omega (arith, c.len-first.ensures, c.args.table.now.bound.ok)

pub returns-in-Ok-clause-refined : goal.returns-in-Ok-clause-refined
returns-in-Ok-clause-refined c =
    solved_refines c.args.cx.now (table_of c.args.table.now) (table_of c.compare.new.table) c.are_rows.ensures.are
    c.requires.table c.args.left c.args.right c.in_ok-compare.ensures.compared c.in-Ok._order.items
    (rw c.as_slice.ensures.value at c.in-Ok.ensures.order) (λ v at.
    (rw c.deref.ensures.value at c.in-Ok.ensures.starts) v
    (subst (λ vs. Contains vs v) (sym (rest_is c.len-first.result c.compare.new.table.bound.items))
    (subst (λ k. Contains (drop k c.compare.new.table.bound.items) v) (sym (len_is c)) at)))

pub returns-in-Ok-clause-unified : goal.returns-in-Ok-clause-unified
returns-in-Ok-clause-unified c =
    solved_unifies c.args.cx.now (table_of c.args.table.now) (table_of c.compare.new.table) c.are_rows.ensures.are
    c.requires.table c.args.left c.args.right c.in_ok-compare.ensures.compared c.in-Ok._order.items
    (rw c.as_slice.ensures.value at c.in-Ok.ensures.order) (λ v at.
    (rw c.deref.ensures.value at c.in-Ok.ensures.starts) v
    (subst (λ vs. Contains vs v) (sym (rest_is c.len-first.result c.compare.new.table.bound.items))
    (subst (λ k. Contains (drop k c.compare.new.table.bound.items) v) (sym (len_is c)) at)))

pub returns-in-Ok-clause-general : goal.returns-in-Ok-clause-general
returns-in-Ok-clause-general c =
    solved_generally c.args.cx.now (table_of c.args.table.now) (table_of c.compare.new.table) c.are_rows.ensures.are
    c.requires.table c.args.left c.args.right c.in_ok-compare.ensures.compared c.in-Ok._order.items
    (rw c.as_slice.ensures.value at c.in-Ok.ensures.order) (λ v at.
    (rw c.deref.ensures.value at c.in-Ok.ensures.starts) v
    (subst (λ vs. Contains vs v) (sym (rest_is c.len-first.result c.compare.new.table.bound.items))
    (subst (λ k. Contains (drop k c.compare.new.table.bound.items) v) (sym (len_is c)) at)))

pub returns-in-Err-clause-occurs : goal.returns-in-Err-clause-occurs
returns-in-Err-clause-occurs c = λ is.
    let reached = c.fault_of.ensures.occurs is in
    cycle_occurs c.args.cx.now (table_of c.args.table.now) (table_of c.compare.new.table) c.are_rows.ensures.are
    c.requires.table c.args.left c.args.right c.in_ok-compare.ensures.compared reached.0
    (subst (λ xs. Reaches (IsChild (stored c.args.cx.now xs)) reached.0 reached.0) c.as_slice-in-Err.ensures.value reached.1)
