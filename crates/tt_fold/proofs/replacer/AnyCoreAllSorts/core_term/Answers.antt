use Rattle.std.proofs.Common.{Some}
use Rattle.tt_kinds.specs.Kinds.{const_shape, ty_shape}
use Rattle.tt_kinds.specs.declared.table.Table.TheVariants.{Types, Consts}
use Rattle.tt_kinds.specs.declared.table.TermTable.TheVariants as terms_of
use Rattle.tt_interner.proofs.Growth.{Extends-refl}
use Rattle.tt_fold.specs.Replacers.{walk_hooks}
use Rattle.tt_fold.proofs.CoreSteps.{asks}
use Rattle.tt_fold.proofs.ReplacerLaws.{answers-in, enters-other, hook-table}
use Rattle.tt_fold.proofs.replacer.AnyCoreAllSorts.core_term.Goals as goal

pub returns-in-Types-clause-goes : goal.returns-in-Types-clause-goes
returns-in-Types-clause-goes g c =
    let is = rw c.typed.ensures at (hook-table c.args.cx.now.rows c.args.handle c.requires.hooked c.requires.handle) in
    let h = c.replace_ty.ensures in
    rw c.step_of.ensures (asks terms_of.Types (walk_hooks g.F.Replacer.hooks) c.typed.result c.replace_ty.result c.typed.ensures h.extends h.owned
    (answers-in g.F.Replacer.hooks _ _ ty_shape _ c.replace_ty.new.cx.rows _ (Some Types) c.replace_ty.result is h.result))

pub returns-in-Consts-clause-goes : goal.returns-in-Consts-clause-goes
returns-in-Consts-clause-goes g c =
    let is = rw c.typed-in-Consts.ensures at (hook-table c.args.cx.now.rows c.args.handle c.requires.hooked c.requires.handle) in
    let h = c.replace_const.ensures in
    rw c.step_of-in-Consts.ensures (asks terms_of.Consts (walk_hooks g.F.Replacer.hooks) c.typed-in-Consts.result c.replace_const.result c.typed-in-Consts.ensures h.extends h.owned
    (answers-in g.F.Replacer.hooks _ _ const_shape _ c.replace_const.new.cx.rows _ (Some Consts) c.replace_const.result is h.result))

pub returns-in_default-clause-goes : goal.returns-in_default-clause-goes
returns-in_default-clause-goes g c =
    let is = hook-table c.args.cx.now.rows c.args.handle c.requires.hooked c.requires.handle in
    record { extends = Extends-refl _; is_owned = c.requires.owned; outcome = (tt, enters-other g.F.Replacer.hooks _ _ c.args.handle c.in_default.not-Types c.in_default.not-Consts is) }
