use Rattle.std.proofs.Common.{◌≡◌, None, Bool, true, false, not, refl, sym, subst, ap, ◌∙◌}
use Rattle.tt_flags.specs.TypeFlags.{has_ty_infer}
use Rattle.tt_kinds.specs.Scan.{scan}
use Rattle.tt_kinds.specs.Kinds.{handle_shape, ty_shape}
use Rattle.tt_kinds.proofs.EqualityLaws.{handle_exact}
use Rattle.tt_fold.specs.Steps.{tree_in}
use Rattle.tt_fold.proofs.KeptLaws.{misses}
use Rattle.unify.specs.Substitution.{variable_in, IsWithout}
use Rattle.unify.proofs.ComparisonLaws.{on_ok_one}
use Rattle.unify.proofs.FlagLaws.{unflagged_without}
use Rattle.unify.proofs.MismatchLaws.{other_table}
use Rattle.unify.proofs.OccursLaws.{type_proper}
use Rattle.unify.proofs.VariableSteps.{other_plain, visits_again, visits_over, visits_parts, visits_row, visits_variable}
use Rattle.unify.proofs.variables.visit_row.Goals as goal

known_by : (b : Bool) → not b ≡ false → b ≡ true
known_by true is = refl
known_by false is = absurd (cc)

pub push_parts-requires-clause-plain : goal.push_parts-requires-clause-plain
push_parts-requires-clause-plain c =
    other_plain c.args.cx.now.rows c.are_rows.ensures.are c.args.handle c.requires.own (other_table _ _ (sym c.ne.ensures ∙ c.if-ne.true))

pub returns-then-ne-clause-visits : goal.returns-then-ne-clause-visits
returns-then-ne-clause-visits c =
    let search = c.args.search.now in
    on_ok_one c.push_parts.result c.push_parts.ensures (λ pushed root visits.
    visits_row c.args.cx.now root search.pending.items c.args.handle search.seen.keys search.found.items
    c.push_parts.new.pending.items pushed visits)

pub returns-then-not-has_infer_types-clause-visits : goal.returns-then-not-has_infer_types-clause-visits
returns-then-not-has_infer_types-clause-visits c = λ root visits.
    let rows = c.args.cx.now.rows in
    let same = ap (λ h. tree_in rows (handle_shape h)) c.typed-ty.ensures in
    let none = misses has_ty_infer (scan (tree_in rows (ty_shape c.typed-ty.result))) c.has_infer_types.result c.has_infer_types.ensures c.if-not-has_infer_types.true in
    visits_over c.args.cx.now root c.args.search.now.pending.items c.args.handle c.args.search.now.seen.keys c.args.search.now.found.items
    (λ v. subst (IsWithout v) (sym same) (unflagged_without (tree_in rows (ty_shape c.typed-ty.result)) v none)) visits

pub returns-then-not-branch-clause-visits : goal.returns-then-not-branch-clause-visits
returns-then-not-branch-clause-visits c = λ root visits.
    let rows = c.args.cx.now.rows in
    let same = ap (λ h. tree_in rows (handle_shape h)) c.typed-ty.ensures in
    rw c.in_ok-insert.ensures.keys
    (visits_again c.args.cx.now _ handle_exact c.typed-ty.result root c.args.search.now.pending.items c.args.handle c.args.search.now.seen.keys
    c.args.search.now.found.items same visits (known_by _ (sym c.in_ok-insert.ensures.added ∙ c.if-not-branch.true)))

pub returns-in_ok-push-in-Some-clause-visits : goal.returns-in_ok-push-in-Some-clause-visits
returns-in_ok-push-in-Some-clause-visits c = λ root visits.
    let rows = c.args.cx.now.rows in
    let same = ap (λ h. tree_in rows (handle_shape h)) c.typed-ty.ensures in
    rw (c.in_ok-insert.ensures.keys, c.in_ok-push-in-Some.ensures.items)
    (visits_variable c.args.cx.now _ handle_exact c.typed-ty.result root c.args.search.now.pending.items c.args.handle c.args.search.now.seen.keys
    c.args.search.now.found.items same visits c.in-Some.variable (type_proper rows c.are_rows.ensures.are c.typed-ty.result)
    (sym c.variable_of.ensures ∙ c.in-Some.is))

pub push_parts-requires-in-None-clause-plain : goal.push_parts-requires-in-None-clause-plain
push_parts-requires-in-None-clause-plain c =
    let rows = c.args.cx.now.rows in
    let same = ap (λ h. tree_in rows (handle_shape h)) c.typed-ty.ensures in
    subst (λ t. variable_in t ≡ None) (sym same) (sym c.variable_of.ensures ∙ c.in-None.is)

pub returns-in-None-clause-visits : goal.returns-in-None-clause-visits
returns-in-None-clause-visits c =
    let search = c.args.search.now in
    let same = ap (λ h. tree_in c.args.cx.now.rows (handle_shape h)) c.typed-ty.ensures in
    on_ok_one c.push_parts-in-None.result c.push_parts-in-None.ensures (λ pushed root visits.
    rw c.in_ok-insert.ensures.keys
    (visits_parts c.args.cx.now _ handle_exact c.typed-ty.result root search.pending.items c.args.handle
    search.seen.keys search.found.items same visits c.push_parts-in-None.new.pending.items pushed))
