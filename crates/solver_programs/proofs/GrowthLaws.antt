-- What stays as the interner grows.
use Rattle.std.proofs.Common.{◌≡◌, subst, sym}
use Rattle.tt_interner.specs.Stored.{Terms}
use Rattle.tt_interner.proofs.Growth.{Extends-trans}
use Rattle.tt_interner.proofs.OwnedLaws.{owned_laws}
use Rattle.unify.specs.Bindings.{IsTable, Table, no_table}
use Rattle.unify.proofs.UnificationLaws.{empty_table}
use Rattle.solver.proofs.ProgramLaws.{program_stays}

-- a new table is one of any interner's types
pub new_table : (terms : Terms) (b : Table) → b ≡ no_table → IsTable terms b
new_table terms b is = subst (IsTable terms) (sym is) (empty_table terms)

-- the laws of growth, for `using`
pub ruleset growth_laws = (Extends-trans, owned_laws, program_stays, new_table)
