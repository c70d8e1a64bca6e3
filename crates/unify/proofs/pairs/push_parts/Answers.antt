use Rattle.std.proofs.Common.{◌++◌, ◌∷◌, [], ap, sym, subst}
use Rattle.tt_kinds.specs.Shape.{AreParts}
use Rattle.tt_kinds.specs.Kinds.{child_shapes, handle_shape, kind_form, kind_sort, parts_shapes}
use Rattle.tt_interner.specs.Rows.{size}
use Rattle.tt_interner.proofs.InfoLaws.{AreParts-append, form_has_parts}
use Rattle.unify.proofs.PairLaws.{pairs_pushed}
use Rattle.tt_interner.specs.Rows.{meaning}
use Rattle.std.proofs.Common.{◌∙◌}
use Rattle.std.proofs.lemmas.Bool.{true≢false}
use Rattle.unify.proofs.FormEqualities.{parts_met}
use Rattle.unify.proofs.MismatchLaws.{other_kind, terms_alike}
use Rattle.unify.proofs.PairLaws.{equates_pushed}
use Rattle.unify.proofs.SolutionLaws.{stored_tree}
use Rattle.unify.proofs.pairs.push_parts.Goals.{then-not-are_like-via-then-not-are_like}
use Rattle.unify.proofs.pairs.push_parts.Goals.{then-not-are_like-via-else-not-are_like+then-ne}
use Rattle.tt_fold.specs.Steps.{tree_in}
use Rattle.unify.specs.Comparison.{NoPairs, PendingIn}
use Rattle.unify.specs.Triangular.{HasParts}
use Rattle.unify.proofs.TriangularLoop.{pair_of, parts_pushed, pushed_kept}
use Rattle.unify.proofs.pairs.push_parts.Goals as goal

pub returns-clause-owned : goal.returns-clause-owned
returns-clause-owned c =
    let rows = c.args.cx.now.rows in
    let left = form_has_parts (kind_sort c.node_kind-left.result) (size rows) (kind_form c.node_kind-left.result) c.node_kind-left.ensures.parts in
    let right = form_has_parts (kind_sort c.node_kind-right.result) (size rows) (kind_form c.node_kind-right.result) c.node_kind-right.ensures.parts in
    let old = AreParts-append (size rows) (child_shapes c.parts-old.result.first) (child_shapes c.parts-old.result.second)
    (subst (λ p. AreParts (size rows) (parts_shapes p)) (sym c.parts-old.ensures) left) in
    let new = AreParts-append (size rows) (child_shapes c.parts-new.result.first) (child_shapes c.parts-new.result.second)
    (subst (λ p. AreParts (size rows) (parts_shapes p)) (sym c.parts-new.ensures) right) in
    let first = pairs_pushed c.args.cx.now c.args.pairs.now.items c.push.new.self.items c.parts-old.result.second c.parts-new.result.second c.in_ok-push.ensures.items c.requires.pairs old.1 new.1 in
    pairs_pushed c.args.cx.now c.push.new.self.items c.push-2.new.self.items c.parts-old.result.first c.parts-new.result.first c.in_ok-push-2.ensures.items first old.0 new.0

pub returns-clause-general : goal.returns-clause-general
returns-clause-general c = λ ρ same equates.
    let m = meaning c.args.cx.now.rows in
    let both = parts_met ρ m c.args.left c.args.right c.node_kind-left.result c.node_kind-right.result c.with_parts.result c.parts-old.result c.parts-new.result
    c.parts-old.ensures c.parts-new.ensures (c.are_like.ensures.0 c.if-not-are_like.false) c.with_parts.ensures.form (sym c.ne.ensures ∙ c.if-ne.false)
    (stored_tree m c.args.left _ c.node_kind-left.ensures.means) (stored_tree m c.args.right _ c.node_kind-right.ensures.means) same in
    let first = equates_pushed ρ c.args.cx.now c.args.pairs.now.items c.push.new.self.items c.parts-old.result.second c.parts-new.result.second c.in_ok-push.ensures.items equates both.1 in
    equates_pushed ρ c.args.cx.now c.push.new.self.items c.push-2.new.self.items c.parts-old.result.first c.parts-new.result.first c.in_ok-push-2.ensures.items first both.0

pub returns-then-not-are_like-clause-mismatch : goal.returns-then-not-are_like-clause-mismatch
returns-then-not-are_like-clause-mismatch c = λ is ρ types leaves leaves' same.
    let m = meaning c.args.cx.now.rows in
    let alike = terms_alike c.args.cx.now.rows c.are_rows.ensures.are ρ types c.args.left c.args.right c.node_kind-left.result c.node_kind-right.result c.parts-old.result c.parts-new.result
    c.parts-old.ensures c.parts-new.ensures c.node_kind-left.ensures.parts c.node_kind-right.ensures.parts
    (stored_tree m c.args.left _ c.node_kind-left.ensures.means) (stored_tree m c.args.right _ c.node_kind-right.ensures.means) leaves leaves' same in
    elim c.then-not-are_like.branch [
      | then-not-are_like-via-then-not-are_like w ↦ true≢false (sym (c.are_like.ensures.1 alike.0) ∙ w.if-not-are_like.true)
      | then-not-are_like-via-else-not-are_like+then-ne w ↦
          other_kind w.with_parts.result c.node_kind-right.result (sym w.ne.ensures ∙ w.if-ne.true) (alike.1 w.with_parts.result w.with_parts.ensures.table w.with_parts.ensures.form)
    ]

pub returns-clause-others : goal.returns-clause-others
returns-clause-others c = λ t u at.
    let terms = c.args.cx.now in
    let all = c.in_ok-push-2.ensures.items ∙ ap (λ ps. ps ++ pair_of c.parts-old.result.first c.parts-new.result.first ∷ []) c.in_ok-push.ensures.items in
    subst (λ ps. PendingIn terms ps t u) (sym all)
    (pushed_kept terms (c.args.pairs.now.items ++ pair_of c.parts-old.result.second c.parts-new.result.second ∷ []) (pair_of c.parts-old.result.first c.parts-new.result.first) t u
    (pushed_kept terms c.args.pairs.now.items (pair_of c.parts-old.result.second c.parts-new.result.second) t u at))

pub returns-clause-parts : goal.returns-clause-parts
returns-clause-parts c = λ entries.
    let terms = c.args.cx.now in
    let m = meaning terms.rows in
    let all = c.in_ok-push-2.ensures.items ∙ ap (λ ps. ps ++ pair_of c.parts-old.result.first c.parts-new.result.first ∷ []) c.in_ok-push.ensures.items in
    subst (λ ps. HasParts entries (PendingIn terms ps) NoPairs (tree_in terms.rows (handle_shape c.args.left)) (tree_in terms.rows (handle_shape c.args.right))) (sym all)
    (parts_pushed terms entries NoPairs c.args.pairs.now.items c.args.left c.args.right c.node_kind-left.result c.node_kind-right.result c.with_parts.result c.parts-old.result c.parts-new.result
    c.parts-old.ensures (c.are_like.ensures.0 c.if-not-are_like.false) c.with_parts.ensures.table c.with_parts.ensures.form (sym c.ne.ensures ∙ c.if-ne.false)
    (stored_tree m c.args.left _ c.node_kind-left.ensures.means) (stored_tree m c.args.right _ c.node_kind-right.ensures.means))
