use Rattle.std.proofs.Common.{length, get_or, None, refl, ◌∙◌, arith}
use Rattle.tt_kinds.specs.Kinds.{ty_shape}
use Rattle.tt_fold.specs.Steps.{tree_in}
use Rattle.unify.specs.Bindings.{stored}
use Rattle.unify.proofs.GeneralLaws.{binding_assigned}
use Rattle.unify.proofs.LinkLaws.{binding_variable, bound_none, chain_begins, chain_goes}
use Rattle.unify.proofs.OwnSolution.{entry_proper}
use Rattle.unify.proofs.TableLaws.{few}
use Rattle.unify.proofs.resolver.shallow_resolved.Goals as goal

pub loop-init : goal.loop-init
loop-init c =
    let terms = c.args.cx.now in
    let xs = c.args.entries.now in
    record {
      owned = c.requires.ty;
      same = λ ρ solves. refl;
      below = λ acyclic v r is at.
          let less = chain_begins (stored terms xs) acyclic
          (λ w q there. entry_proper terms xs c.are_rows.ensures.are w (get_or xs w None) refl q there) (length xs)
          (few terms xs) v r at in
          omega (arith, less);
    }

pub loop-preserved : goal.loop-preserved
loop-preserved c =
    let terms = c.args.cx.now in
    let xs = c.args.entries.now in
    let t = tree_in terms.rows (ty_shape c.loop.ty) in
    let u = tree_in terms.rows (ty_shape c.in-Some.bound) in
    let link = binding_variable (stored terms xs) t u c.in-Some.ensures.is in
    record {
      owned = c.in-Some.ensures.owned;
      same = λ ρ solves.
          c.loop.invariant.same ρ solves ∙ binding_assigned ρ (stored terms xs) solves t u c.in-Some.ensures.is;
      below = λ acyclic v r is at.
          let less = chain_goes (stored terms xs) acyclic
          (λ w q there. entry_proper terms xs c.are_rows.ensures.are w (get_or xs w None) refl q there) (length xs)
          (few terms xs) link.0 v c.loop.counter u r link.1.1 is at
          (c.loop.invariant.below acyclic link.0 u link.1.0 link.1.1) in
          omega (arith, less);
    }

pub returns-clause-unbound : goal.returns-clause-unbound
returns-clause-unbound c =
    bound_none (stored c.args.cx.now c.args.entries.now) (tree_in c.args.cx.now.rows (ty_shape c.loop.ty))
    (λ v r is at. let less = c.loop.invariant.below c.requires.links v r is at in omega (arith, less, c.loop-test.false))
