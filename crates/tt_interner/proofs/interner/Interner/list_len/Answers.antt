-- by the row of the list
use Rattle.tt_interner.proofs.NodeSteps.{is_listed}
use Rattle.tt_interner.proofs.interner.Interner.list_len.Goals as goal

pub returns-clause-means : goal.returns-clause-means
returns-clause-means c = (is_listed _ c.are_rows.ensures.are c.args.list c.requires.is_list c.requires.owned).means

pub returns-clause-parts : goal.returns-clause-parts
returns-clause-parts c = (is_listed _ c.are_rows.ensures.are c.args.list c.requires.is_list c.requires.owned).parts

pub returns-clause-fit : goal.returns-clause-fit
returns-clause-fit c = (is_listed _ c.are_rows.ensures.are c.args.list c.requires.is_list c.requires.owned).fit

pub returns-clause-older : goal.returns-clause-older
returns-clause-older c = (is_listed _ c.are_rows.ensures.are c.args.list c.requires.is_list c.requires.owned).older
