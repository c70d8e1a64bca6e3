use Rattle.std.proofs.Common.{arith}
use Rattle.tt_kinds.specs.declared.table.Table.TheVariants.{Declarations}
use Rattle.checker.proofs.BuiltLaws.{for_ok}
use Rattle.checker.proofs.declared.data_type.Goals as goal

pub returns-clause-after : goal.returns-clause-after
returns-clause-after c =
    let grown = c.symbol_of.ensures.extends.rows.in_range Declarations in
    for_ok c.declared_adt.result (λ id next. omega (arith, grown, next)) c.declared_adt.ensures.next
