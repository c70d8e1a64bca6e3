-- The equality of the great kinds, by the lemma of each.
use Rattle.tt_kinds.specs.contracts.parts.KindPartialEq.TheImpl as any_kinds
use Rattle.tt_kinds.specs.contracts.parts.KindEq.TheImpl.Laws as any_kind_laws
use Rattle.tt_kinds.specs.contracts.predicate_kind.ClauseKindPartialEq.TheImpl as clause_kinds
use Rattle.tt_kinds.specs.contracts.predicate_kind.ClauseKindEq.TheImpl.Laws as clause_kind_laws
use Rattle.tt_kinds.specs.contracts.predicate_kind.PredicateKindPartialEq.TheImpl as predicate_kinds
use Rattle.tt_kinds.specs.contracts.predicate_kind.PredicateKindEq.TheImpl.Laws as predicate_kind_laws
use Rattle.tt_kinds.specs.contracts.ty_kind.TyKindPartialEq.TheImpl as ty_kinds
use Rattle.tt_kinds.specs.contracts.ty_kind.TyKindEq.TheImpl.Laws as ty_kind_laws
use Rattle.tt_kinds.proofs.EqualityLaws.{sameness, kind_exact}
use Rattle.tt_kinds.proofs.KindEqualityLaws.{clause_kind_exact, predicate_kind_exact, any_kind_exact}
use Rattle.tt_kinds.proofs.equality.equal_kinds_are_same.Goals as goal

pub returns-clause-kind : goal.returns-clause-kind
returns-clause-kind c = sameness (any_kinds.ghosts).eq any_kind_exact (any_kind_laws.laws-law).refl

pub returns-clause-clause_kind : goal.returns-clause-clause_kind
returns-clause-clause_kind c = sameness (clause_kinds.ghosts).eq clause_kind_exact (clause_kind_laws.laws-law).refl

pub returns-clause-predicate_kind : goal.returns-clause-predicate_kind
returns-clause-predicate_kind c = sameness (predicate_kinds.ghosts).eq predicate_kind_exact (predicate_kind_laws.laws-law).refl

pub returns-clause-ty_kind : goal.returns-clause-ty_kind
returns-clause-ty_kind c = sameness (ty_kinds.ghosts).eq kind_exact (ty_kind_laws.laws-law).refl
