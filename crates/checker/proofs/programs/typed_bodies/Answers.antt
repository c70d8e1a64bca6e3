use Rattle.std.proofs.Common.{refl, suc, length, sym, subst, ap, ◌∙◌, add-one}
use Rattle.std.specs.Prelude.{slice_get}
use Rattle.std.proofs.lemmas.Option.{slice_get_read}
use Rattle.checker.specs.Scope.{AreTypedFirst}
use Rattle.tt_interner.proofs.Growth.{Extends-trans}
use Rattle.checker.specs.Items.{AreTyped, ids_of}
use Rattle.checker.proofs.ProgramLaws.{all_pushed, all_stay, typed_function_next}
use Rattle.checker.proofs.ScopeLaws.{declared_stay}
use Rattle.checker.proofs.programs.typed_bodies.Goals as goal

pub types_of-requires : goal.types_of-requires
types_of-requires c =
    declared_stay c.args.cx.now c.loop-number.cx c.args.program.now c.args.declared.now c.loop-number.invariant.extends c.requires

pub returns-in_err-types-clause-extends : goal.returns-in_err-types-clause-extends
returns-in_err-types-clause-extends c = Extends-trans c.loop-number.invariant.extends c.types_of.ensures.extends

pub loop-number-preserved : goal.loop-number-preserved
loop-number-preserved c =
    let old = c.loop-number.cx in
    let new = c.types_of.new.cx in
    let program = c.args.program.now in
    let ids = ids_of c.args.declared.now in
    let n = c.loop-number.number in
    let inv = c.loop-number.invariant in
    let bodies = c.loop-number.bodies.items in
    let types = c.in_ok-types.types in
    let function = c.in-Some.function.now in
    let pushed = c.in_ok-push.ensures.items in
    let extends = c.types_of.ensures.extends in
    let lookup = c.in-Some.ensures.lookup in
    let read = slice_get_read c.deref.result.now (length c.deref.result.now) n function refl lookup.3.0 lookup.1 in
    let there = sym (ap (λ xs. slice_get xs n) c.deref.ensures.value) ∙ read in
    let next = typed_function_next old new program ids bodies n function types extends inv.owned inv.typed there
    c.in_ok-types.ensures.typed in
    record {
      extends = Extends-trans inv.extends extends;
      owned = subst (AreTyped new) (sym pushed)
          (all_pushed new bodies types (all_stay old new bodies extends inv.owned) c.in_ok-types.ensures.owned);
      typed = subst (λ m. AreTypedFirst new program ids c.push.new.self.items m) (sym (add-one n))
          (subst (λ xs. AreTypedFirst new program ids xs (suc n)) (sym pushed) next);
    }
