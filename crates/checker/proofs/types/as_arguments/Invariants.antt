use Rattle.std.proofs.Common.{◌≡◌, map, take}
use Rattle.tt_kinds.specs.declared.generic_arg.GenericArgKind.TheVariants as arg
use Rattle.checker.proofs.types.as_arguments.Given as goal

-- the first types as arguments
abbrev pub invariant-loop-ty : goal.invariant-loop-ty
invariant-loop-ty l = l.args.items ≡ map (λ ty. arg.«Type» ty) (take l.ty-index l.types)
