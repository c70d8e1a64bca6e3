-- what is left is what was there before
use Rattle.std.proofs.Common.{◌-◌, refl, arith}
use Rattle.tt_interner.specs.Kept.{tables}
use Rattle.tt_interner.proofs.TakeBackSteps.{few_tables, few_entries, back_kept, back_rows}
use Rattle.tt_interner.proofs.interner.Interner.take_back.Goals as goal

pub overflow_sub-rows : goal.overflow_sub-rows
overflow_sub-rows c = let few = few_tables c.self.inside.order.items (tables c.self.inside) _ _ _ c.self.view_is c.self.invariant c.self.inside.existentials.entries refl c.args.added c.requires in omega arith

pub overflow_sub-predicates : goal.overflow_sub-predicates
overflow_sub-predicates c = let few = few_entries c.self.inside.order.items (tables c.self.inside) _ _ _ c.self.view_is c.self.invariant c.self.inside.existentials.entries refl c.args.added c.requires in omega arith

pub invariant_of-self : goal.invariant_of-self
invariant_of-self c =
    let few = few_tables c.self.inside.order.items (tables c.self.inside) _ _ _ c.self.view_is c.self.invariant c.self.inside.existentials.entries refl c.args.added c.requires in
    let few' = few_entries c.self.inside.order.items (tables c.self.inside) _ _ _ c.self.view_is c.self.invariant c.self.inside.existentials.entries refl c.args.added c.requires in
    back_kept c.self.inside.order.items (tables c.self.inside) _ _ _ c.self.view_is c.self.invariant c.self.inside.existentials.entries refl c.args.added c.requires
    (c.len.result - c.args.added) (c.len-2.result - c.args.added) (omega arith) (omega arith) _ _ c.truncate.ensures.items c.truncate-2.ensures.entries

pub returns-clause-rows : goal.returns-clause-rows
returns-clause-rows c =
    let few = few_tables c.self.inside.order.items (tables c.self.inside) _ _ _ c.self.view_is c.self.invariant c.self.inside.existentials.entries refl c.args.added c.requires in
    let few' = few_entries c.self.inside.order.items (tables c.self.inside) _ _ _ c.self.view_is c.self.invariant c.self.inside.existentials.entries refl c.args.added c.requires in
    back_rows c.self.inside.order.items (tables c.self.inside) _ _ _ c.self.view_is c.self.invariant c.self.inside.existentials.entries refl c.args.added c.requires
    (c.len.result - c.args.added) (c.len-2.result - c.args.added) (omega arith) (omega arith) _ _ c.truncate.ensures.items c.truncate-2.ensures.entries
