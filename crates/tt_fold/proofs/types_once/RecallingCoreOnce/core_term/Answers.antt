use Rattle.std.proofs.Common.{◌≡◌, Ok, ap, refl, sym, ◌∙◌}
use Rattle.std.proofs.lemmas.Bool.{true≢false}
use Rattle.tt_kinds.specs.declared.handle.AnyHandle.{AnyHandle}
use Rattle.tt_kinds.specs.declared.table.TermTable.TheVariants as terms_of
use Rattle.tt_interner.proofs.Growth.{Extends-refl}
use Rattle.tt_fold.specs.MemoryGrowth.{OwnsMemos-still}
use Rattle.tt_fold.specs.Steps.{tree_by}
use Rattle.tt_fold.specs.TypesOnce.{recalled, recalling}
use Rattle.tt_fold.specs.declared.folder.Step.TheVariants as step
use Rattle.tt_fold.proofs.CoreSteps.{asks}
use Rattle.tt_fold.proofs.TypeLaws.{is-type, no-type}
use Rattle.tt_fold.proofs.TypesOnceSteps.{own_answer}
use Rattle.tt_fold.proofs.types_once.RecallingCoreOnce.core_term.Goals as goal

pub returns-in-Some-clause-goes : goal.returns-in-Some-clause-goes
returns-in-Some-clause-goes g c =
    let is = is-type c.args.cx.now.rows c.typed.result (rw c.typed.ensures at c.requires.handle) in
    let known = c.in-Some.ensures.trees in
    rw c.any.ensures (asks terms_of.Types (recalling (tree_by g.F.TypeReplacer.shape) g.F.TypeReplacer.hooks) c.typed.result (Ok (step.Replace c.in-Some.after)) c.typed.ensures (Extends-refl _) c.requires.owned
    (known.0, (λ _. recalled known.1, λ other. absurd (true≢false (sym is ∙ other)))))

pub returns-in-None-clause-goes : goal.returns-in-None-clause-goes
returns-in-None-clause-goes g c =
    let ty = c.typed-in-None.result in
    let is = is-type c.args.cx.now.rows ty (rw c.typed-in-None.ensures at c.requires.handle) in
    let h = c.replace_ty.ensures in
    -- the type that was looked up is this one
    let same : c.typed.result.number ≡ ty.number = ap (λ (x : AnyHandle). x.number) (sym c.typed.ensures ∙ c.typed-in-None.ensures) in
    rw c.step_of.ensures (asks terms_of.Types (recalling (tree_by g.F.TypeReplacer.shape) g.F.TypeReplacer.hooks) ty c.replace_ty.result c.typed-in-None.ensures h.extends
    (h.owned, OwnsMemos-still _ _ c.args.self.now.memory h.extends.rows c.requires.owned.1)
    (own_answer (tree_by g.F.TypeReplacer.shape) g.F.TypeReplacer.hooks _ c.args.cx.now c.replace_ty.new.cx c.args.self.now.folder c.replace_ty.new.self c.args.self.now.memory ty c.replace_ty.result
    h.extends c.requires.owned.1 (rw same at c.in-None.ensures.trees) is h.result))

pub returns-in_default-clause-goes : goal.returns-in_default-clause-goes
returns-in_default-clause-goes g c =
    let other = no-type c.args.cx.now.rows c.args.handle c.in_default.not-Types c.requires.handle in
    record { extends = Extends-refl _; is_owned = c.requires.owned; outcome = (tt, ((λ is_ty. absurd (true≢false (sym is_ty ∙ other))), λ _. (refl, refl))) }
