use Rattle.std.proofs.Common.{◌≡◌, map, take}
use Rattle.checker.proofs.verify.instances.field_types.Given as goal

-- the types of the first fields
abbrev pub invariant-loop-field : goal.invariant-loop-field
invariant-loop-field l = l.types.items ≡ map (λ f. f.ty) (take l.field-index l.item.fields.items)
