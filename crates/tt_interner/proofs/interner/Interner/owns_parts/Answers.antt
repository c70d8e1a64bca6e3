-- the children one after another
use Rattle.std.proofs.Common.{refl, sym, ◌∙◌}
use Rattle.std.proofs.lemmas.Bool.{false≢true}
use Rattle.tt_kinds.specs.Kinds.{child_shapes}
use Rattle.tt_interner.proofs.InfoLaws.{AreParts-append, AreParts-join}
use Rattle.tt_interner.proofs.interner.Interner.owns_parts.Goals as goal

pub returns-then-owns_child : goal.returns-then-owns_child
returns-then-owns_child c = (
  λ second. AreParts-join _ (child_shapes c.args.parts.now.first) (child_shapes c.args.parts.now.second) (c.if-owns_child.ensures.0 refl) (c.owns_child-then-owns_child.ensures.0 second),
  λ h. c.owns_child-then-owns_child.ensures.1 (AreParts-append _ (child_shapes c.args.parts.now.first) (child_shapes c.args.parts.now.second) h).1,
)

pub returns-else-owns_child : goal.returns-else-owns_child
returns-else-owns_child c = (
  λ is. absurd (false≢true (sym c.if-owns_child.false ∙ is)),
  λ h. absurd (false≢true (c.if-owns_child.ensures.1 (AreParts-append _ (child_shapes c.args.parts.now.first) (child_shapes c.args.parts.now.second) h).0)),
)
