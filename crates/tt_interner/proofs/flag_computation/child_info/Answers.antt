-- by the table
use Rattle.tt_kinds.specs.TermTable.{term_table}
use Rattle.tt_interner.specs.Rows.{meaning}
use Rattle.tt_interner.proofs.InfoLaws.{infos_stored, terms_keep_info}
use Rattle.tt_interner.proofs.flag_computation.child_info.Goals as goal

pub info_in-requires-clause-kept : goal.info_in-requires-clause-kept
info_in-requires-clause-kept c = rw c.table.ensures (terms_keep_info c.in-Stored.stored.table)

pub returns-in-Stored : goal.returns-in-Stored
returns-in-Stored c = let stored = c.in-Stored.stored in
    rw c.in-Stored.is (infos_stored (meaning c.args.cx.now.rows) _ (term_table stored.table) stored.number (rw c.table.ensures at c.info_in.ensures))
