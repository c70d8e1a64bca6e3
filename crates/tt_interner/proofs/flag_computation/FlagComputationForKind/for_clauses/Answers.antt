-- a list has no flags of its own
use Rattle.std.proofs.Common.{refl}
use Rattle.tt_kinds.specs.Label.{clause_list_label}
use Rattle.tt_interner.proofs.InfoLaws.{info_term}
use Rattle.tt_interner.proofs.flag_computation.FlagComputationForKind.for_clauses.Goals as goal

pub returns : goal.returns
returns c = info_term _ _ clause_list_label _ refl c.items_info.ensures
