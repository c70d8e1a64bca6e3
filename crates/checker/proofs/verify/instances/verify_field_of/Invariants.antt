use Rattle.std.proofs.Common.{◌≡◌}
use Rattle.checker.proofs.verify.instances.verify_field_of.Given as goal

-- nothing was built
abbrev pub invariant-loop-index : goal.invariant-loop-index
invariant-loop-index l = l.cx ≡ l.initial.cx
