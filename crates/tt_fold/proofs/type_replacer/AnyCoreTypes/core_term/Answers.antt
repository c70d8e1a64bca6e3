use Rattle.std.proofs.Common.{refl, sym, ◌∙◌}
use Rattle.std.proofs.lemmas.Bool.{true≢false}
use Rattle.tt_kinds.specs.declared.table.TermTable.TheVariants as terms_of
use Rattle.tt_interner.proofs.Growth.{Extends-refl}
use Rattle.tt_fold.specs.Types.{only_types}
use Rattle.tt_fold.proofs.CoreSteps.{asks}
use Rattle.tt_fold.proofs.TypeLaws.{is-type, no-type, answers-type}
use Rattle.tt_fold.proofs.type_replacer.AnyCoreTypes.core_term.Goals as goal

pub returns-in-Types-clause-goes : goal.returns-in-Types-clause-goes
returns-in-Types-clause-goes g c =
    let is = is-type c.args.cx.now.rows c.typed.result (rw c.typed.ensures at c.requires.handle) in
    let h = c.replace_ty.ensures in
    rw c.step_of.ensures (asks terms_of.Types (only_types g.F.TypeReplacer.hooks) c.typed.result c.replace_ty.result c.typed.ensures h.extends h.owned
    (answers-type g.F.TypeReplacer.hooks _ c.replace_ty.new.cx.rows _ _ _ c.replace_ty.result is h.result))

pub returns-in_default-clause-goes : goal.returns-in_default-clause-goes
returns-in_default-clause-goes g c =
    let other = no-type c.args.cx.now.rows c.args.handle c.in_default.not-Types c.requires.handle in
    record { extends = Extends-refl _; is_owned = c.requires.owned; outcome = (tt, ((λ yes. absurd (true≢false (sym yes ∙ other))), λ no. (refl, refl))) }
