use Rattle.std.proofs.Common.{rules}
use Rattle.checker.specs.Typing.{itself}
use Rattle.checker.proofs.BuiltLaws.{reaches_read}
use Rattle.checker.proofs.types.without_references.Goals as goal

pub loop-init : goal.loop-init
loop-init c = record { owned = c.requires; reaches = itself }

pub loop-preserved : goal.loop-preserved
loop-preserved c =
    let arm = c.in-Ref in
    record {
      owned = search rules;
      reaches = reaches_read c.args.cx.now c.loop.inner arm.referent arm.field-0 arm.mutability _ c.kind.ensures arm.is c.in-Not.is
          c.loop.invariant.reaches;
    }
