-- a key that is not there goes last
use Rattle.std.proofs.Common.{◌∙◌}
use Rattle.indexmap.proofs.CallerLemmas.{insert_entry-new}
use Rattle.tt_interner.proofs.tables.add.Goals as goal

pub returns-clause-entries : goal.returns-clause-entries
returns-clause-entries g c =
    c.in-Ok-insert.ensures.entries ∙ insert_entry-new g.K.PartialEq.eq c.args.entries.now c.args.key c.args.value c.requires
