-- an entry that is there stays, and another goes last
use Rattle.std.proofs.Common.{◌≡◌, Some, Ok, ap, sym, refl, ◌∙◌}
use Rattle.indexmap.specs.IndexMap.{get}
use Rattle.indexmap.proofs.CallerLemmas.{insert_entry-new}
use Rattle.indexmap.proofs.MapLemmas.{Found-position, or_len-first}
use Rattle.tt_interner.proofs.FoundLaws.{no_place, no_value, insert_entry-same}
use Rattle.tt_interner.proofs.tables.find_or_insert.Goals as goal
use Rattle.tt_interner.proofs.tables.find_or_insert.Goals.{then-len-capacity+in-Err+in-Ok-reserve, else-len-capacity}

pub returns-in_default-Some-clause-found : goal.returns-in_default-Some-clause-found
returns-in_default-Some-clause-found g c n place =
    let there : get g.K.PartialEq.eq c.args.entries.now c.args.key ≡ Some c.in_default-Some.field-0-1 = sym c.in-Ok-insert_full.ensures.old ∙ c.in_default-Some.is-1 in
    let same : get g.K.PartialEq.eq c.args.entries.now c.args.key ≡ Some c.args.info = there ∙ ap Some (c.requires.same _ there) in
    let first = (Found-position (g.K.PartialEq.eq c.args.key) c.args.entries.now.entries n place).first in (
      ap Ok (c.in-Ok-insert_full.ensures.index ∙ or_len-first (g.K.PartialEq.eq c.args.key) c.args.entries.now.entries n first),
      elim c.if-len-capacity.branch [ then-len-capacity+in-Err+in-Ok-reserve w ↦ rw w.order-is w.reserve.ensures.items | else-len-capacity w ↦ rw w.order-is refl ],
      c.in-Ok-insert_full.ensures.entries ∙ insert_entry-same g.K.PartialEq.eq c.args.key c.args.info c.args.entries.now.entries same,
    )

pub returns-in-Ok-push-clause-found : goal.returns-in-Ok-push-clause-found
returns-in-Ok-push-clause-found g c n place =
    absurd (no_place (g.K.PartialEq.eq c.args.key) c.args.entries.now.entries n (sym c.in-Ok-insert_full.ensures.old ∙ c.in_default-None.is-1) place)

pub returns-in-Ok-push-clause-entries : goal.returns-in-Ok-push-clause-entries
returns-in-Ok-push-clause-entries g c none =
    c.in-Ok-insert_full.ensures.entries ∙ insert_entry-new g.K.PartialEq.eq c.args.entries.now c.args.key c.args.info (no_value (g.K.PartialEq.eq c.args.key) c.args.entries.now.entries none)

pub returns-in-Err-insert_full-clause-found : goal.returns-in-Err-insert_full-clause-found
returns-in-Err-insert_full-clause-found g c n place =
    absurd (no_place (g.K.PartialEq.eq c.args.key) c.args.entries.now.entries n c.in-Err-insert_full.ensures.absent place)
