-- The shapes of containers of one value.
use Rattle.tt_kinds.specs.Label.{present_record}
use Rattle.tt_kinds.specs.Shape.{Shape}
use Rattle.tt_kinds.specs.Values.{one_record}

-- a value in a box
abbrev pub boxed_shape : {T : Type 0} → (T → Shape) → T → Shape
boxed_shape of_value x = one_record present_record (of_value x)

-- a value that may have several owners
abbrev pub shared_shape : {T : Type 0} → (T → Shape) → T → Shape
shared_shape of_value x = one_record present_record (of_value x)
