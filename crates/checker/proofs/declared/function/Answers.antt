use Rattle.std.proofs.Common.{arith}
use Rattle.tt_kinds.specs.declared.table.Table.TheVariants.{Declarations}
use Rattle.tt_interner.proofs.Growth.{Extends-trans}
use Rattle.checker.proofs.BuiltLaws.{for_ok, for_ok_both}
use Rattle.checker.proofs.SignatureLaws.{list_stays, name_stays}
use Rattle.checker.proofs.declared.function.Goals as goal

pub returns-clause-extends : goal.returns-clause-extends
returns-clause-extends c =
    Extends-trans c.signature_list.ensures.extends (Extends-trans c.symbol_of.ensures.extends c.declared_fn.ensures.extends)

pub returns-clause-after : goal.returns-clause-after
returns-clause-after c =
    let listed = c.signature_list.ensures.extends.rows.in_range Declarations in
    let named = c.symbol_of.ensures.extends.rows.in_range Declarations in
    for_ok c.declared_fn.result (λ id next. omega (arith, listed, named, next)) c.declared_fn.ensures.next

pub returns-clause-declared : goal.returns-clause-declared
returns-clause-declared c =
    let list = c.in_ok-list.list in
    let name = c.in_ok-name.name in
    let after = c.declared_fn.ensures.extends in
    let later = Extends-trans c.symbol_of.ensures.extends after in
    let new = c.declared_fn.new.cx in
    let listed = list_stays c.signature_list.new.cx new c.args.written.now c.args.item.now list later
    c.in_ok-list.ensures.listed in
    let named = name_stays c.symbol_of.new.cx new c.args.program.now c.args.item.now.name name after c.in_ok-name.ensures.named in
    for_ok_both c.declared_fn.result
    (λ id before declared. record {
      in_range = before;
      name = name;
      named = named;
      list = list;
      declared = declared;
      listed = listed;
    })
    c.declared_fn.ensures.before c.declared_fn.ensures.declared
