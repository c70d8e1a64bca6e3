use Rattle.tt_kinds.specs.declared.table.Table.TheVariants.{Declarations}
use Rattle.tt_interner.specs.Rows.{size}
use Rattle.tt_interner.specs.Stored.{Extends}
use Rattle.checker.specs.Items.{AreFunctions, numbers}
use Rattle.checker.specs.Written.{AreDistinct}
use Rattle.checker.proofs.WrittenLaws.{AreBelow}
use Rattle.checker.proofs.declared.functions.Given as goal

-- the first functions are declared, and their ids are distinct and among the declarations
abbrev pub invariant-loop-number : goal.invariant-loop-number
invariant-loop-number l = record {
  extends : Extends l.initial.cx l.cx;
  declared : AreFunctions l.cx l.program l.written l.ids.items l.number;
  distinct : AreDistinct (numbers l.ids.items);
  below : AreBelow (numbers l.ids.items) (size l.cx.rows Declarations);
}
