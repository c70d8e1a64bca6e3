-- The equality of contents, by the one of their children.
use Rattle.std.proofs.Common.{◌≡◌, true, eqb, refl, ap, rules}
use Rattle.std.proofs.lemmas.Bool.{eqb-true, false≢true}
use Rattle.std.specs.Prelude.{Some, None}
use Rattle.std.specs.Option.{option_eq}
use Rattle.std.specs.declared.option.Option.{Option}
use Rattle.tt_index.specs.Equality.{IsSameness}
use Rattle.tt_kinds.specs.Handle.{BoundVarKinds, handle}
use Rattle.tt_kinds.specs.declared.parts.Parts.{Parts}
use Rattle.tt_kinds.specs.contracts.parts.ChildPartialEq.TheImpl as children
use Rattle.tt_kinds.specs.contracts.parts.PartsPartialEq.TheImpl as pairs
use Rattle.tt_kinds.proofs.EqualityLaws.{sameness, two_exact}
use Rattle.tt_interner.specs.contracts.nodes.ContentsPartialEq.TheImpl as contents
use Rattle.tt_interner.specs.contracts.nodes.ContentsEq.TheImpl.Laws as contents_laws
use Rattle.tt_interner.proofs.equality.equal_contents_are_same.Goals as goal

child : IsSameness (children.ghosts).eq
child = search rules

parts_exact : (a b : Parts) → (pairs.ghosts).eq a b ≡ true → a ≡ b
parts_exact a b = two_exact (λ x y. record { first = x; second = y }) ((children.ghosts).eq a.first b.first) ((children.ghosts).eq a.second b.second) (child a.first b.first).0 (child a.second b.second).0

vars_exact : (a b : Option BoundVarKinds) → option_eq (λ n m. eqb n.number m.number) a b ≡ true → a ≡ b
vars_exact None None e = refl
vars_exact (Some n) (Some m) e = ap (λ k. Some (handle k)) (eqb-true n.number m.number e)
vars_exact _ _ e = absurd (false≢true e)

pub returns-clause-contents : goal.returns-clause-contents
returns-clause-contents c = sameness (contents.ghosts).eq
    (λ a b. two_exact (λ vars parts. record { bound_vars = vars; parts = parts }) (option_eq (λ n m. eqb n.number m.number) a.bound_vars b.bound_vars) ((pairs.ghosts).eq a.parts b.parts) (vars_exact a.bound_vars b.bound_vars) (parts_exact a.parts b.parts))
    (contents_laws.laws-law).refl
