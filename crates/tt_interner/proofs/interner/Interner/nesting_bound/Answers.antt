-- no table has more rows than the limit
use Rattle.std.proofs.Common.{arith}
use Rattle.tt_kinds.specs.declared.table.Table.TheVariants.{Types, Predicates, Existentials}
use Rattle.tt_interner.proofs.interner.Interner.nesting_bound.Goals as goal

pub overflow_add-result : goal.overflow_add-result
overflow_add-result c =
    let types = c.are_rows.ensures.within Types in let predicates = c.are_rows.ensures.within Predicates in
    let fits = c.limit-limit.type_inv in let limit = c.limit-limit.ensures in omega arith

pub overflow_add-result-2 : goal.overflow_add-result-2
overflow_add-result-2 c =
    let types = c.are_rows.ensures.within Types in let predicates = c.are_rows.ensures.within Predicates in
    let existentials = c.are_rows.ensures.within Existentials in let fits = c.limit-limit.type_inv in let limit = c.limit-limit.ensures in omega arith
