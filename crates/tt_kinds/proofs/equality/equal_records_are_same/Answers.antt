-- The equality of pairs of children by the one of children, and of what outlives by the one of regions.
use Rattle.std.proofs.Common.{rules, ◌&&◌, refl}
use Rattle.tt_index.specs.Equality.{IsSameness}
use Rattle.tt_kinds.specs.contracts.parts.ChildPartialEq.TheImpl as children
use Rattle.tt_kinds.specs.contracts.parts.PartsPartialEq.TheImpl as pairs
use Rattle.tt_kinds.specs.contracts.parts.PartsEq.TheImpl.Laws as pair_laws
use Rattle.tt_kinds.specs.contracts.region_kind.RegionKindPartialEq.TheImpl as regions
use Rattle.tt_kinds.specs.contracts.region_kind.RegionKindEq.TheImpl.Laws as region_laws
use Rattle.tt_kinds.proofs.EqualityLaws.{sameness, two_exact, region_exact}
use Rattle.tt_kinds.proofs.equality.equal_records_are_same.Goals as goal

child : IsSameness (children.ghosts).eq
child = search rules

pub returns-clause-parts : goal.returns-clause-parts
returns-clause-parts g c = sameness (pairs.ghosts).eq
    (λ a b. two_exact (λ x y. record { first = x; second = y }) ((children.ghosts).eq a.first b.first) ((children.ghosts).eq a.second b.second) (child a.first b.first).0 (child a.second b.second).0)
    (pair_laws.laws-law).refl

pub returns-clause-outlives_predicate : goal.returns-clause-outlives_predicate
returns-clause-outlives_predicate g c same = sameness (λ a b. g.T.PartialEq.eq a.0 b.0 && (regions.ghosts).eq a.1 b.1)
    (λ a b. two_exact (λ x r. record { 0 = x; 1 = r }) (g.T.PartialEq.eq a.0 b.0) ((regions.ghosts).eq a.1 b.1) (same a.0 b.0).0 (region_exact a.1 b.1))
    (λ a. let first = (same a.0 a.0).1 refl in let second = (region_laws.laws-law).refl a.1 in cc)
