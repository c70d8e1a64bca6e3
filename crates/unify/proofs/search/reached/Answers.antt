use Rattle.std.proofs.Common.{◌≡◌, ◌∙◌, List, [], ◌∷◌, Contains, length, refl, sym, subst, ap, arith}
use Rattle.std.proofs.lemmas.Result.{err_from_is_err_and}
use Rattle.unify.specs.Bindings.{stored}
use Rattle.unify.specs.Search.{steps_in, IsOrder, Searches}
use Rattle.unify.specs.Triangular.{IsChild}
use Rattle.unify.proofs.SearchSteps.{childless_order, search_begins, search_ends}
use Rattle.unify.proofs.search.reached.Goals as goal

none_left : {T : Type 0} (xs : List T) → length xs ≡ 0 → xs ≡ []
none_left [] h = refl
none_left (x ∷ xs) h = absurd (omega (arith, h))

pub loop-init : goal.loop-init
loop-init c =
    let pushed = c.in_ok-push_entering.ensures in
    rw (pushed, c.new.ensures.items, c.new-2.ensures.empty, c.new-3.ensures.empty)
    (search_begins (IsChild (stored c.args.cx.now c.args.entries.now)) c.args.starts.now)

pub loop-preserved : goal.loop-preserved
loop-preserved c =
    c.in_ok-take_step.ensures.searches c.args.starts.now (rw (← c.in-Some.ensures.items) c.loop.invariant)

pub returns-in_default-clause-order : goal.returns-in_default-clause-order
returns-in_default-clause-order c =
    let same = sym (c.in_ok-from_slice-2.ensures.items ∙ c.as_slice.ensures.keys) in
    subst (IsOrder (IsChild (stored c.args.cx.now c.args.entries.now))) same c.loop.invariant.order

pub returns-in_default-clause-starts : goal.returns-in_default-clause-starts
returns-in_default-clause-starts c = λ v at.
    let search = c.loop.search in
    let few : length search.pending.items ≡ 0 = omega (arith, search.pending.ok, c.in_default.ensures.cases.0) in
    let none = none_left search.pending.items few in
    let Child = IsChild (stored c.args.cx.now c.args.entries.now) in
    subst (λ xs. Contains xs v) (sym (c.in_ok-from_slice-2.ensures.items ∙ c.as_slice.ensures.keys))
    (search_ends Child c.args.starts.now search.entered.keys search.done.keys
    (subst (λ ss. Searches Child c.args.starts.now ss search.entered.keys search.done.keys) (ap steps_in none)
    c.loop.invariant) v at)

pub returns-in_default-clause-only : goal.returns-in_default-clause-only
returns-in_default-clause-only c = λ v at.
    let same = c.in_ok-from_slice-2.ensures.items ∙ c.as_slice.ensures.keys in
    c.loop.invariant.only_done v (subst (λ xs. Contains xs v) same at)

pub returns-in_err-take_step-clause-cycle : goal.returns-in_err-take_step-clause-cycle
returns-in_err-take_step-clause-cycle c =
    let failed = c.from_residual-in_err-take_step in
    let p = err_from_is_err_and failed.result failed.ensures.1 in
    rw (p.1, p.2)
    (λ v is. c.in_err-take_step.ensures.cycle c.args.starts.now v (rw (← c.in-Some.ensures.items) c.loop.invariant) is)

pub returns-then-not-have_children-clause-order : goal.returns-then-not-have_children-clause-order
returns-then-not-have_children-clause-order c =
    let Child = IsChild (stored c.args.cx.now c.args.entries.now) in
    subst (IsOrder Child) (sym c.in_ok-from_slice.ensures.items)
    (childless_order Child c.args.starts.now (c.have_children.ensures c.if-not-have_children.true))
