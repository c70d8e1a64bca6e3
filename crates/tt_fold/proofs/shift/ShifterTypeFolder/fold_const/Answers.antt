use Rattle.std.proofs.Common.{refl, sym, ◌∙◌}
use Rattle.std.proofs.lemmas.Result.{err_from_is_err_and}
use Rattle.tt_kinds.specs.Label.{const_sort}
use Rattle.tt_kinds.specs.Bound.{const_entry}
use Rattle.tt_kinds.specs.declared.table.Table.TheVariants.{Consts}
use Rattle.tt_kinds.specs.Handle.{any_handle}
use Rattle.tt_kinds.specs.declared.table.TermTable.TheVariants as terms_of
use Rattle.tt_kinds.specs.Kinds.{const_shape}
use Rattle.tt_interner.specs.Rows.{meaning}
use Rattle.tt_interner.proofs.Growth.{Extends-refl}
use Rattle.tt_fold.specs.Steps.{tree_in, IsRefused}
use Rattle.tt_fold.specs.Remember.{left_alone, gone_into}
use Rattle.tt_fold.specs.MemoryGrowth.{OwnsMemos-still}
use Rattle.tt_fold.proofs.PartLaws.{in_range}
use Rattle.tt_fold.proofs.TypeLaws.{part-type}
use Rattle.tt_fold.proofs.FoldSteps.{stored_is_kind}
use Rattle.tt_fold.proofs.BoundLaws.{const_tree, const_other, term_kept, term_given, term_refused, bound_outer}
use Rattle.tt_fold.proofs.ShiftSteps.{moved_given, moved_refused}
use Rattle.tt_fold.proofs.shift.ShifterTypeFolder.fold_const.Goals as goal

pub returns-then-not-moves-clause-result : goal.returns-then-not-moves-clause-result
returns-then-not-moves-clause-result c =
    (tt, left_alone (term_kept c.args.self.now.amount c.args.self.now.current_index _ (rw c.outer_exclusive_binder.ensures at c.if-not-moves.ensures.1)))

pub node_kind-kind-requires-clause-owned : goal.node_kind-kind-requires-clause-owned
node_kind-kind-requires-clause-owned c = rw c.any.ensures (in_range c.args.cx.now.rows Consts c.args.constant.number c.requires.constant)

pub node_kind-kind-requires-clause-has_kind : goal.node_kind-kind-requires-clause-has_kind
node_kind-kind-requires-clause-has_kind c = rw c.any.ensures refl

pub shift_bound_const-requires : goal.shift_bound_const-requires
shift_bound_const-requires c =
    let tree = stored_is_kind c.args.cx.now.rows (any_handle terms_of.Consts c.args.constant) c.node_kind-kind.result (rw c.any.ensures at c.node_kind-kind.ensures.means) in
    let far = rw c.outer_exclusive_binder.ensures at (c.if-not-moves.ensures.0 refl) in
    let is = const_tree (meaning c.args.cx.now.rows) c.node_kind-kind.result c.in-Some.index c.in-Some.bound_const (sym c.bound_const.ensures ∙ c.in-Some.is) in
    bound_outer (meaning c.args.cx.now.rows) (record { amount = c.args.self.now.amount; under = c.args.self.now.current_index }) const_sort c.in-Some.index (const_entry c.in-Some.bound_const) (tree_in c.args.cx.now.rows (const_shape c.args.constant)) (tree ∙ is) far

pub returns-in_err-shifted-in-Some-clause-owned : goal.returns-in_err-shifted-in-Some-clause-owned
returns-in_err-shifted-in-Some-clause-owned c = OwnsMemos-still _ _ c.args.self.now.memory c.in_err-shifted-in-Some.ensures.extends.rows c.requires.owned

pub returns-in_err-shifted-in-Some-clause-result : goal.returns-in_err-shifted-in-Some-clause-result
returns-in_err-shifted-in-Some-clause-result c =
    let p = err_from_is_err_and c.from_residual.result c.from_residual.ensures.1 in
    let tree = stored_is_kind c.args.cx.now.rows (any_handle terms_of.Consts c.args.constant) c.node_kind-kind.result (rw c.any.ensures at c.node_kind-kind.ensures.means) in
    let is = const_tree (meaning c.args.cx.now.rows) c.node_kind-kind.result c.in-Some.index c.in-Some.bound_const (sym c.bound_const.ensures ∙ c.in-Some.is) in
    let h = c.in_err-shifted-in-Some.ensures in
    rw (p.1, p.2) (
    moved_refused c.args.self.now.amount c.args.self.now.current_index c.args.cx.now c.shift_bound_const.new.cx c.args.self.now.memory h.extends c.requires.owned h.counters (tree_in c.args.cx.now.rows (const_shape c.args.constant)) _
    (term_refused (meaning c.args.cx.now.rows) (record { amount = c.args.self.now.amount; under = c.args.self.now.current_index }) const_sort c.in-Some.index (const_entry c.in-Some.bound_const) (IsRefused c.shift_bound_const.new.cx) (tree_in c.args.cx.now.rows (const_shape c.args.constant)) _ (tree ∙ is) h.result)
    )

pub returns-in_ok-shifted-in-Some-clause-owned : goal.returns-in_ok-shifted-in-Some-clause-owned
returns-in_ok-shifted-in-Some-clause-owned c = OwnsMemos-still _ _ c.args.self.now.memory c.in_ok-shifted-in-Some.ensures.extends.rows c.requires.owned

pub returns-in_ok-shifted-in-Some-clause-result : goal.returns-in_ok-shifted-in-Some-clause-result
returns-in_ok-shifted-in-Some-clause-result c =
    let tree = stored_is_kind c.args.cx.now.rows (any_handle terms_of.Consts c.args.constant) c.node_kind-kind.result (rw c.any.ensures at c.node_kind-kind.ensures.means) in
    let is = const_tree (meaning c.args.cx.now.rows) c.node_kind-kind.result c.in-Some.index c.in-Some.bound_const (sym c.bound_const.ensures ∙ c.in-Some.is) in
    let h = c.in_ok-shifted-in-Some.ensures in (
      h.result.0,
      moved_given c.args.self.now.amount c.args.self.now.current_index c.args.cx.now c.shift_bound_const.new.cx c.args.self.now.memory h.extends c.requires.owned h.counters (tree_in c.args.cx.now.rows (const_shape c.args.constant)) _
          (term_given (meaning c.args.cx.now.rows) (record { amount = c.args.self.now.amount; under = c.args.self.now.current_index }) const_sort c.in-Some.index (const_entry c.in-Some.bound_const) (tree_in c.args.cx.now.rows (const_shape c.args.constant)) _ (tree ∙ is) h.result.1),
    )

pub returns-in-None-clause-result : goal.returns-in-None-clause-result
returns-in-None-clause-result c =
    let tree = stored_is_kind c.args.cx.now.rows (any_handle terms_of.Consts c.args.constant) c.node_kind-kind.result (rw c.any.ensures at c.node_kind-kind.ensures.means) in
    let other = const_other (meaning c.args.cx.now.rows) c.node_kind-kind.result (rw c.any.ensures at c.node_kind-kind.ensures.table) (sym c.bound_const.ensures ∙ c.in-None.is) in
    (tt, gone_into (part-type c.args.cx.now.rows Consts c.args.constant.number c.requires.constant) (rw tree other))

pub returns-then-not-moves-clause-extends : goal.returns-then-not-moves-clause-extends
returns-then-not-moves-clause-extends c = Extends-refl _

pub returns-in_err-shifted-in-Some-clause-extends : goal.returns-in_err-shifted-in-Some-clause-extends
returns-in_err-shifted-in-Some-clause-extends c = c.in_err-shifted-in-Some.ensures.extends

pub returns-in_ok-shifted-in-Some-clause-extends : goal.returns-in_ok-shifted-in-Some-clause-extends
returns-in_ok-shifted-in-Some-clause-extends c = c.in_ok-shifted-in-Some.ensures.extends
