-- by the row of the term
use Rattle.std.proofs.Common.{sym}
use Rattle.tt_interner.proofs.NodeSteps.{is_node, kind_there}
use Rattle.tt_interner.proofs.interner.Interner.node_kind.Goals as goal

pub returns-clause-parts : goal.returns-clause-parts
returns-clause-parts c = (is_node _ c.are_rows.ensures.are c.args.handle c.kind_at.result c.kind_at.ensures.table c.kind_at.ensures.row).parts

pub returns-clause-means : goal.returns-clause-means
returns-clause-means c = (is_node _ c.are_rows.ensures.are c.args.handle c.kind_at.result c.kind_at.ensures.table c.kind_at.ensures.row).means

pub returns-clause-older : goal.returns-clause-older
returns-clause-older c = (is_node _ c.are_rows.ensures.are c.args.handle c.kind_at.result c.kind_at.ensures.table c.kind_at.ensures.row).older

pub returns-clause-kind : goal.returns-clause-kind
returns-clause-kind c = sym (kind_there _ c.args.handle c.kind_at.result c.kind_at.ensures.table c.kind_at.ensures.row)
