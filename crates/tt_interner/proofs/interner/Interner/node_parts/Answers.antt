-- by the row of the term
use Rattle.tt_interner.proofs.NodeSteps.{stored_table, stored_is_node}
use Rattle.tt_interner.proofs.interner.Interner.node_parts.Goals as goal

pub returns-clause-table : goal.returns-clause-table
returns-clause-table c = stored_table _ c.are_rows.ensures.are c.args.handle c.requires.owned c.requires.has_kind

pub returns-clause-parts : goal.returns-clause-parts
returns-clause-parts c = (stored_is_node _ c.are_rows.ensures.are c.args.handle c.requires.owned c.requires.has_kind).parts

pub returns-clause-means : goal.returns-clause-means
returns-clause-means c = (stored_is_node _ c.are_rows.ensures.are c.args.handle c.requires.owned c.requires.has_kind).means

pub returns-clause-older : goal.returns-clause-older
returns-clause-older c = (stored_is_node _ c.are_rows.ensures.are c.args.handle c.requires.owned c.requires.has_kind).older
