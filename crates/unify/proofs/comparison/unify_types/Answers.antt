use Rattle.std.proofs.Common.{◌≡◌, Bool, true, false, not, OnOk, refl, sym, subst, ap, ◌∙◌}
use Rattle.std.proofs.lemmas.Bool.{eq-eqb, true≢false}
use Rattle.tt_kinds.proofs.EqualityLaws.{handle_exact}
use Rattle.unify.specs.Bindings.{stored}
use Rattle.unify.specs.Comparison.{types_pair, ComparedIn, PendingIn, Takes}
use Rattle.unify.specs.Faults.{IsEscapes, IsMismatch}
use Rattle.unify.specs.Substitution.{Solves}
use Rattle.unify.proofs.ComparisonLaws.{compared_exact, on_err, on_ok, on_ok_one, other_side, side_escapes}
use Rattle.unify.proofs.ComparisonLaws.{takes_bound, takes_known, takes_same, takes_types}
use Rattle.unify.proofs.PairMismatches.{types_mismatch}
use Rattle.unify.proofs.TriangularLoop.{parts_more}
use Rattle.unify.proofs.comparison.unify_types.Goals as goal

known_by : (b : Bool) → not b ≡ false → b ≡ true
known_by true is = refl
known_by false is = absurd (cc)

pub returns-then-eq-clause-takes : goal.returns-then-eq-clause-takes
returns-then-eq-clause-takes c =
    takes_same c.args.cx.now c.args.table.now.entries.items c.args.comparison.now.pairs.items
    c.args.comparison.now.compared.keys c.args.left c.args.right c.shallow_resolved-left.result
    c.shallow_resolved-right.result
    (λ ρ solves. c.shallow_resolved-left.ensures.same ρ
    (subst (λ xs. Solves ρ (stored c.args.cx.now xs)) (sym c.as_slice.ensures.value) solves))
    (λ ρ solves. c.shallow_resolved-right.ensures.same ρ
    (subst (λ xs. Solves ρ (stored c.args.cx.now xs)) (sym c.as_slice-2.ensures.value) solves))
    c.requires.pairs
    (handle_exact c.shallow_resolved-left.result c.shallow_resolved-right.result (sym c.eq.ensures ∙ c.if-eq.true))

pub bind-requires-clause-other : goal.bind-requires-clause-other
bind-requires-clause-other c =
    other_side c.args.cx.now c.are_rows.ensures.are c.are_interned.ensures c.shallow_resolved-left.result
    c.shallow_resolved-right.result c.shallow_resolved-left.ensures.owned c.shallow_resolved-right.ensures.owned
    (λ same. true≢false (sym (eq-eqb c.shallow_resolved-left.result.number c.shallow_resolved-right.result.number same)
    ∙ (sym c.eq.ensures ∙ c.if-eq.false))) _ _ c.in-Some.ensures.side

pub returns-in-Some-clause-takes : goal.returns-in-Some-clause-takes
returns-in-Some-clause-takes c =
    let unbound = rw c.as_slice-3.ensures.value at c.in-Some.ensures.unbound in
    on_ok_one c.bind.result c.bind.ensures.put (λ put.
    takes_bound c.args.cx.now c.args.table.now.entries.items c.args.comparison.now.pairs.items
    c.args.comparison.now.compared.keys c.args.left c.args.right c.shallow_resolved-left.result
    c.shallow_resolved-right.result
    (λ ρ solves. c.shallow_resolved-left.ensures.same ρ
    (subst (λ xs. Solves ρ (stored c.args.cx.now xs)) (sym c.as_slice.ensures.value) solves))
    (λ ρ solves. c.shallow_resolved-right.ensures.same ρ
    (subst (λ xs. Solves ρ (stored c.args.cx.now xs)) (sym c.as_slice-2.ensures.value) solves))
    c.requires.pairs _ _ c.bind.new.table.entries.items c.in-Some.ensures.side unbound.0 unbound.1 put)

pub returns-in-Some-clause-escapes : goal.returns-in-Some-clause-escapes
returns-in-Some-clause-escapes c =
    on_err IsEscapes c.bind.result (λ escapes.
    side_escapes c.args.cx.now c.args.table.now.entries.items c.args.comparison.now.pairs.items
    c.args.comparison.now.compared.keys c.args.left c.args.right c.shallow_resolved-left.result
    c.shallow_resolved-right.result
    (λ ρ solves. c.shallow_resolved-left.ensures.same ρ
    (subst (λ xs. Solves ρ (stored c.args.cx.now xs)) (sym c.as_slice.ensures.value) solves))
    (λ ρ solves. c.shallow_resolved-right.ensures.same ρ
    (subst (λ xs. Solves ρ (stored c.args.cx.now xs)) (sym c.as_slice-2.ensures.value) solves))
    c.are_rows.ensures.are _ _ c.in-Some.ensures.side escapes) c.bind.ensures.escapes

pub returns-then-not-branch-clause-takes : goal.returns-then-not-branch-clause-takes
returns-then-not-branch-clause-takes c =
    subst (λ ks. Takes c.args.cx.now c.args.table.now.entries.items c.args.comparison.now.pairs.items
    c.args.comparison.now.compared.keys (types_pair c.args.left c.args.right) c.args.table.now.entries.items
    c.args.comparison.now.pairs.items ks) (sym c.in_ok-insert.ensures.keys)
    (takes_known c.args.cx.now c.args.table.now.entries.items c.args.comparison.now.pairs.items
    c.args.comparison.now.compared.keys c.args.left c.args.right c.shallow_resolved-left.result
    c.shallow_resolved-right.result
    (λ ρ solves. c.shallow_resolved-left.ensures.same ρ
    (subst (λ xs. Solves ρ (stored c.args.cx.now xs)) (sym c.as_slice.ensures.value) solves))
    (λ ρ solves. c.shallow_resolved-right.ensures.same ρ
    (subst (λ xs. Solves ρ (stored c.args.cx.now xs)) (sym c.as_slice-2.ensures.value) solves))
    _ compared_exact c.requires.pairs (known_by _ (sym c.in_ok-insert.ensures.added ∙ c.if-not-branch.true)))

pub returns-clause-takes : goal.returns-clause-takes
returns-clause-takes c =
    let terms = c.args.cx.now in
    let ys = c.args.table.now.entries.items in
    let qs = c.push_parts.new.pairs.items in
    subst (λ ks. OnOk c.push_parts.result (Takes terms ys c.args.comparison.now.pairs.items
    c.args.comparison.now.compared.keys (types_pair c.args.left c.args.right) ys qs ks)) (sym c.in_ok-insert.ensures.keys)
    (on_ok c.push_parts.result c.push_parts.ensures.owned c.push_parts.ensures.others
    (rw (c.any.ensures, c.any-2.ensures) at c.push_parts.ensures.parts)
    (rw (c.any.ensures, c.any-2.ensures) at c.push_parts.ensures.general)
    (λ owned others parts general.
    takes_types c.args.cx.now c.args.table.now.entries.items c.args.comparison.now.pairs.items
    c.args.comparison.now.compared.keys c.args.left c.args.right c.shallow_resolved-left.result
    c.shallow_resolved-right.result
    (λ ρ solves. c.shallow_resolved-left.ensures.same ρ
    (subst (λ xs. Solves ρ (stored c.args.cx.now xs)) (sym c.as_slice.ensures.value) solves))
    (λ ρ solves. c.shallow_resolved-right.ensures.same ρ
    (subst (λ xs. Solves ρ (stored c.args.cx.now xs)) (sym c.as_slice-2.ensures.value) solves))
    _ compared_exact qs owned others (parts_more (stored terms ys) (PendingIn terms qs) _ (parts (stored terms ys)))
    general))

pub returns-clause-mismatch : goal.returns-clause-mismatch
returns-clause-mismatch c =
    on_err IsMismatch c.push_parts.result (λ apart.
    types_mismatch c.args.cx.now c.args.table.now.entries.items c.args.comparison.now.pairs.items c.args.left
    c.args.right c.shallow_resolved-left.result c.shallow_resolved-right.result apart
    (λ v is. (rw c.as_slice-3.ensures.value at c.in_default.ensures.foreign) v is
    (rw c.as_slice.ensures.value at c.shallow_resolved-left.ensures.unbound))
    (λ v is. (rw c.as_slice-3.ensures.value at c.in_default.ensures.other) v is
    (rw c.as_slice-2.ensures.value at c.shallow_resolved-right.ensures.unbound))
    (λ ρ solves equal. sym (c.shallow_resolved-left.ensures.same ρ
    (subst (λ xs. Solves ρ (stored c.args.cx.now xs)) (sym c.as_slice.ensures.value) solves)) ∙ equal
    ∙ c.shallow_resolved-right.ensures.same ρ
    (subst (λ xs. Solves ρ (stored c.args.cx.now xs)) (sym c.as_slice-2.ensures.value) solves)))
    (rw (c.any.ensures, c.any-2.ensures) at c.push_parts.ensures.mismatch)
