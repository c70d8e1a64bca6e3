use Rattle.std.proofs.Common.{◌≡◌, ◌<◌, ◌++◌, ◌∷◌, [], ◌∙◌, List, ℕ, Contains, arith, length, vec_len, sym, subst, ap}
use Rattle.std.specs.Cmp.{nat_eq_equiv}
use Rattle.std.proofs.lemmas.Bool.{eqb-true, not-false}
use Rattle.unify.specs.Bindings.{stored}
use Rattle.unify.specs.Search.{entering, steps_in, step_by, Leave, Reaches, Searches}
use Rattle.unify.specs.Triangular.{IsChild}
use Rattle.unify.specs.declared.search.Action.{Action}
use Rattle.unify.specs.declared.search.Step as code
use Rattle.unify.proofs.SearchSteps.{search_cycle, search_enters, search_finishes, search_leaves, search_passes, steps_push}
use Rattle.unify.proofs.search.take_step.Goals as goal

last_is : (Child : ℕ → ℕ → Type 0) (starts : List ℕ) (rest : List code.Step) (s : code.Step) (a : Action)
    (entered done : List ℕ) → s.action ≡ a → Searches Child starts (steps_in (rest ++ s ∷ [])) entered done
    → Searches Child starts (steps_in rest ++ step_by a s.variable ∷ []) entered done
last_is Child starts rest s a entered done is searches =
    subst (λ ss. Searches Child starts ss entered done)
    (steps_push rest s ∙ ap (λ x. steps_in rest ++ step_by x s.variable ∷ []) is) searches

pub returns-then-contains-clause-searches : goal.returns-then-contains-clause-searches
returns-then-contains-clause-searches c = λ starts searches.
    let search = c.args.search.now in
    let Child = IsChild (stored c.args.cx.now c.args.entries.now) in
    search_passes Child starts _ eqb-true (steps_in search.pending.items) search.entered.keys search.done.keys
    c.args.step.variable
    (last_is Child starts search.pending.items c.args.step _ search.entered.keys search.done.keys c.in-Enter.is searches)
    (sym c.contains.ensures ∙ c.if-contains.true)

none_inside : (xs : List ℕ) (u : ℕ) → length xs ≡ 0 → Contains xs u → ⊥
none_inside xs u none at = let inside : at.0 < length xs = at.1 in omega (arith, none, inside)

pub returns-then-is_empty-clause-searches : goal.returns-then-is_empty-clause-searches
returns-then-is_empty-clause-searches c = λ starts searches.
    let search = c.args.search.now in
    let Child = IsChild (stored c.args.cx.now c.args.entries.now) in
    let children = c.in_ok-children-in-Enter in
    let few : vec_len children.children ≡ 0 = eqb-true _ _ (sym c.is_empty.ensures ∙ c.if-is_empty.true) in
    let none : length children.children.items ≡ 0 = omega (arith, few, children.children.ok) in
    rw c.in_ok-insert-in-Enter.ensures.keys
    (search_finishes Child starts _ eqb-true (steps_in search.pending.items) search.entered.keys search.done.keys
    c.args.step.variable (λ u child. none_inside children.children.items u none (children.ensures.all u child))
    (last_is Child starts search.pending.items c.args.step _ search.entered.keys search.done.keys c.in-Enter.is searches))

pub returns-then-not-branch-clause-cycle : goal.returns-then-not-branch-clause-cycle
returns-then-not-branch-clause-cycle c = λ starts v searches is.
    let search = c.args.search.now in
    let Child = IsChild (stored c.args.cx.now c.args.entries.now) in
    let same : c.args.step.variable ≡ v = cc in
    subst (λ w. Reaches Child w w) same
    (search_cycle Child starts _ eqb-true (steps_in search.pending.items) search.entered.keys search.done.keys
    nat_eq_equiv.refl c.args.step.variable
    (last_is Child starts search.pending.items c.args.step _ search.entered.keys search.done.keys c.in-Enter.is searches)
    (sym c.contains.ensures ∙ c.if-contains.false)
    (not-false _ (sym c.in_ok-insert-in-Enter-2.ensures.added ∙ c.if-not-branch.true)))

pub returns-in_ok-push_entering-in-Enter-clause-searches : goal.returns-in_ok-push_entering-in-Enter-clause-searches
returns-in_ok-push_entering-in-Enter-clause-searches c = λ starts searches.
    let search = c.args.search.now in
    let Child = IsChild (stored c.args.cx.now c.args.entries.now) in
    let children = c.in_ok-children-in-Enter in
    let pushed = c.in_ok-push_entering-in-Enter.ensures
    ∙ ap (λ vs. steps_in c.push.new.self.items ++ entering vs) c.deref.ensures.value
    ∙ ap (λ ss. steps_in ss ++ entering children.children.items) c.in_ok-push-in-Enter.ensures.items
    ∙ ap (λ ss. ss ++ entering children.children.items) (steps_push search.pending.items _) in
    subst (λ ss. Searches Child starts ss c.insert-in-Enter.new.self.keys search.done.keys) (sym pushed)
    (subst (λ ks. Searches Child starts ((steps_in search.pending.items ++ Leave c.args.step.variable ∷ [])
    ++ entering children.children.items) ks search.done.keys) (sym c.in_ok-insert-in-Enter-2.ensures.keys)
    (search_enters Child starts _ eqb-true (steps_in search.pending.items) search.entered.keys search.done.keys
    c.args.step.variable children.children.items
    (last_is Child starts search.pending.items c.args.step _ search.entered.keys search.done.keys c.in-Enter.is searches)
    children.ensures.all children.ensures.only))

pub returns-in_ok-insert-in-Leave-clause-searches : goal.returns-in_ok-insert-in-Leave-clause-searches
returns-in_ok-insert-in-Leave-clause-searches c = λ starts searches.
    let search = c.args.search.now in
    let Child = IsChild (stored c.args.cx.now c.args.entries.now) in
    rw c.in_ok-insert-in-Leave.ensures.keys
    (search_leaves Child starts _ eqb-true (steps_in search.pending.items) search.entered.keys search.done.keys
    c.args.step.variable
    (last_is Child starts search.pending.items c.args.step _ search.entered.keys search.done.keys c.in-Leave.is searches))
