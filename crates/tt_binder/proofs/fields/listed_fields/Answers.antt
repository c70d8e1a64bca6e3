use Rattle.tt_binder.proofs.FieldLaws.{own-among}
use Rattle.tt_binder.proofs.fields.listed_fields.Goals as goal

pub returns-then-is_defined-clause-own : goal.returns-then-is_defined-clause-own
returns-then-is_defined-clause-own c = rw c.adt_variants.ensures.is (own-among c.args.cx.now.rows c.args.base 0 c.adt_variants.result.value.now c.adt_variants.ensures.own)
