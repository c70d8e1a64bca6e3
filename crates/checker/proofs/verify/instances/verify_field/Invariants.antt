use Rattle.std.proofs.Common.{◌≡◌}
use Rattle.checker.proofs.verify.instances.verify_field.Given as goal

-- nothing was built
abbrev pub invariant-loop-data : goal.invariant-loop-data
invariant-loop-data l = l.cx ≡ l.initial.cx
