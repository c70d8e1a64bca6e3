use Rattle.std.proofs.Common.{◌∙◌}
use Rattle.checker.specs.Items.{AdtId}
use Rattle.checker.proofs.ListLaws.{length_mapped}
use Rattle.checker.proofs.ScopeLaws.{declared_stay}
use Rattle.checker.proofs.programs.check.Goals as goal

pub returns-clause-declared : goal.returns-clause-declared
returns-clause-declared c =
    declared_stay c.declare.new.cx c.typed_bodies.new.cx c.args.program.now c.in_ok-declared.declared c.typed_bodies.ensures.extends
    c.in_ok-declared.ensures.declared

pub returns-clause-typed : goal.returns-clause-typed
returns-clause-typed c =
    let items = c.in_ok-declared.ensures.declared in
    record {
      counted = length_mapped (λ (id : AdtId). id.number) c.in_ok-declared.declared.data_types.items ∙ items.counted;
      distinct = items.distinct;
      typed = c.in_ok-bodies.ensures.typed;
    }
