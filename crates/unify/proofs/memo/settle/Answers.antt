use Rattle.std.proofs.Common.{◌≡◌, ◌∙◌, sym}
use Rattle.std.proofs.lemmas.Bool.{eqb-true}
use Rattle.std.specs.Cmp.{nat_eq_equiv}
use Rattle.tt_interner.proofs.Growth.{Extends-refl}
use Rattle.unify.specs.Memo.{entries_in}
use Rattle.unify.proofs.MemoLaws.{inserted, settled_bound, settled_unbound}
use Rattle.unify.proofs.OwnSolution.{entry_inside}
use Rattle.unify.proofs.memo.settle.Goals as goal

pub returns-in_default-clause-settled : goal.returns-in_default-clause-settled
returns-in_default-clause-settled c =
    settled_unbound c.args.cx.now c.args.cx.now c.args.entries.now (entries_in c.args.memo.now.entries)
    (Extends-refl c.args.cx.now) c.requires.table c.requires.settles c.args.variable
    (sym c.entry_at.ensures ∙ c.in_default.is)

pub replaced-requires-clause-ty : goal.replaced-requires-clause-ty
replaced-requires-clause-ty c =
    entry_inside c.args.cx.now c.args.entries.now c.args.variable c.in-Some.ty (sym c.entry_at.ensures ∙ c.in-Some.is)
    c.requires.table.owned.2

pub returns-clause-settled : goal.returns-clause-settled
returns-clause-settled c =
    let terms = c.args.cx.now in
    let binding = c.in_ok-binding in
    let updates = c.in_ok-insert.ensures.updates in
    settled_bound terms c.replaced.new.cx c.args.entries.now (entries_in c.args.memo.now.entries)
    binding.ensures.extends c.requires.table c.requires.settles c.args.variable c.in-Some.ty binding.binding
    (entries_in c.insert.new.self.entries)
    (inserted _ nat_eq_equiv.refl eqb-true c.args.memo.now.entries c.insert.new.self.entries c.args.variable
    binding.binding updates.1 updates.2)
    (sym c.entry_at.ensures ∙ c.in-Some.is) c.requires.ready binding.ensures.owned binding.ensures.plain
