use Rattle.std.proofs.Common.{◌∙◌, ap}
use Rattle.std.proofs.lemmas.Bool.{eqb-true}
use Rattle.std.specs.Cmp.{nat_eq_equiv}
use Rattle.unify.specs.Memo.{entries_in}
use Rattle.unify.specs.Substitution.{variable_tree}
use Rattle.unify.proofs.MemoLaws.{inserted}
use Rattle.canonical.proofs.NumberSteps.{number_tree, put_binds, put_owned}
use Rattle.canonical.proofs.numbers.add_number.Goals as goal

pub returns-clause-owned : goal.returns-clause-owned
returns-clause-owned c =
    let updates = c.in_ok-insert.ensures.updates in
    put_owned c.args.cx.now c.mk_ty.new.self (entries_in c.args.numbers.now.entries)
    (entries_in c.insert.new.self.entries)
    c.args.variable c.args.number c.in_ok-ty.ty
    (record { rows = c.mk_ty.ensures.grows; limit = c.mk_ty.ensures.limit }) c.requires
    (inserted _ nat_eq_equiv.refl eqb-true c.args.numbers.now.entries c.insert.new.self.entries c.args.variable
    c.in_ok-ty.ty
    updates.1 updates.2) c.in_ok-ty.ensures.in_range

pub returns-clause-binds : goal.returns-clause-binds
returns-clause-binds c =
    let updates = c.in_ok-insert.ensures.updates in
    put_binds c.args.cx.now c.mk_ty.new.self (entries_in c.args.numbers.now.entries)
    (entries_in c.insert.new.self.entries)
    c.args.variable c.args.number c.in_ok-ty.ty
    (record { rows = c.mk_ty.ensures.grows; limit = c.mk_ty.ensures.limit }) c.requires
    (inserted _ nat_eq_equiv.refl eqb-true c.args.numbers.now.entries c.insert.new.self.entries c.args.variable
    c.in_ok-ty.ty
    updates.1 updates.2)
    (number_tree c.args.cx.now.rows c.mk_ty.new.self.rows c.in_ok-ty.ty c.from_usize.result c.in_ok-ty.ensures.means
    ∙ ap variable_tree c.from_usize.ensures)
