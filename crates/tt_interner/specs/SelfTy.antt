-- Values with other generic arguments.
use Rattle.tt_kinds.specs.Handle.{GenericArgs}
use Rattle.tt_kinds.specs.declared.alias.AliasTerm.{AliasTerm}
use Rattle.tt_kinds.specs.declared.predicate.TraitRef.{TraitRef}

-- the same trait with these arguments
abbrev pub trait_ref_with : TraitRef → GenericArgs → TraitRef
trait_ref_with t args = record { def_id = t.def_id; args = args }

-- the alias of the same declaration with these arguments
abbrev pub alias_term_with : AliasTerm → GenericArgs → AliasTerm
alias_term_with a args = record { args = args; def_id = a.def_id }
