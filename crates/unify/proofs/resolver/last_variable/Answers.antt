use Rattle.std.proofs.Common.{length, get_or, None, inl, refl, sym, ◌∙◌, arith}
use Rattle.unify.specs.Bindings.{stored}
use Rattle.unify.proofs.ChainLaws.{link_assigned, linked_on, linked_tree, unlinked}
use Rattle.unify.proofs.LinkLaws.{chain_begins, chain_goes}
use Rattle.unify.proofs.OwnSolution.{entry_proper}
use Rattle.unify.proofs.TableLaws.{few}
use Rattle.unify.proofs.resolver.last_variable.Goals as goal

pub loop-init : goal.loop-init
loop-init c =
    let terms = c.args.cx.now in
    let xs = c.args.entries.now in
    record {
      same = λ ρ solves. refl;
      chain = inl refl;
      below = λ acyclic r at.
          let less = chain_begins (stored terms xs) acyclic
          (λ w q there. entry_proper terms xs c.are_rows.ensures.are w (get_or xs w None) refl q there) (length xs)
          (few terms xs) c.args.variable r at in
          omega (arith, less);
    }

pub loop-preserved : goal.loop-preserved
loop-preserved c =
    let terms = c.args.cx.now in
    let xs = c.args.entries.now in
    let v = c.loop.variable in
    let next = c.in-Some.next in
    let link = linked_tree (stored terms xs v) next (sym c.linked_variable.ensures ∙ c.in-Some.is) in
    record {
      same = λ ρ solves.
          link_assigned (stored terms xs) v next link.0 link.1.0 link.1.1
          (λ w q there. entry_proper terms xs c.are_rows.ensures.are w (get_or xs w None) refl q there) ρ solves
          ∙ c.loop.invariant.same ρ solves;
      chain = linked_on (stored terms xs) v next link.0 link.1.0 link.1.1 c.args.variable c.loop.invariant.chain;
      below = λ acyclic r at.
          let less = chain_goes (stored terms xs) acyclic
          (λ w q there. entry_proper terms xs c.are_rows.ensures.are w (get_or xs w None) refl q there) (length xs)
          (few terms xs) v next c.loop.counter link.0 r link.1.0 link.1.1 at
          (c.loop.invariant.below acyclic link.0 link.1.0) in
          omega (arith, less);
    }

pub returns-in_default-clause-end : goal.returns-in_default-clause-end
returns-in_default-clause-end c = sym c.linked_variable.ensures ∙ c.in_default.is

pub returns-clause-end : goal.returns-clause-end
returns-clause-end c =
    unlinked (stored c.args.cx.now c.args.entries.now c.loop.variable)
    (λ r at. let less = c.loop.invariant.below c.requires.links r at in omega (arith, less, c.loop-test.false))
