-- the fields so far have their instances
use Rattle.tt_binder.proofs.FieldLaws.{AreInstancesTo}
use Rattle.tt_binder.proofs.fields.instantiate_fields.Given as goal

abbrev pub invariant-loop-field : goal.invariant-loop-field
invariant-loop-field l = AreInstancesTo l.args l.initial.fields l.field-index l.fields l.initial.cx l.cx
