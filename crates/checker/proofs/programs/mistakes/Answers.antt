use Rattle.std.proofs.Common.{◌≡◌, length, refl, ap, sym, subst, add-one, arith, ◌∙◌}
use Rattle.std.specs.Prelude.{slice_get}
use Rattle.std.proofs.lemmas.Option.{slice_get_read}
use Rattle.tt_interner.proofs.Growth.{Extends-refl, Extends-trans}
use Rattle.checker.specs.Items.{AdtId, ids_of}
use Rattle.checker.specs.Scope.{AreTypedFirst}
use Rattle.checker.proofs.ListLaws.{length_mapped}
use Rattle.checker.proofs.ProgramLaws.{HaveTypes, none_have, types_next}
use Rattle.checker.proofs.ScopeLaws.{declared_stay}
use Rattle.checker.proofs.programs.mistakes.Goals as goal

pub loop-number-init : goal.loop-number-init
loop-number-init c = record {
  extends = Extends-refl c.declare.new.cx;
  typed = λ empty. none_have c.declare.new.cx c.args.program.now (ids_of c.in_ok-declared.declared);
}

pub types_of-checked-requires : goal.types_of-checked-requires
types_of-checked-requires c =
    declared_stay c.declare.new.cx c.loop-number.cx c.args.program.now c.in_ok-declared.declared c.loop-number.invariant.extends
    c.in_ok-declared.ensures.declared

pub loop-number-preserved : goal.loop-number-preserved
loop-number-preserved c =
    let old = c.loop-number.cx in
    let new = c.types_of-checked.new.cx in
    let program = c.args.program.now in
    let ids = ids_of c.in_ok-declared.declared in
    let n = c.loop-number.number in
    let inv = c.loop-number.invariant in
    let function = c.in-Some.function.now in
    let extends = c.types_of-checked.ensures.extends in
    let lookup = c.in-Some.ensures.lookup in
    let read = slice_get_read c.deref.result.now (length c.deref.result.now) n function refl lookup.3.0 lookup.1 in
    let there = sym (ap (λ xs. slice_get xs n) c.deref.ensures.value) ∙ read in
    record {
      extends = Extends-trans inv.extends extends;
      typed = λ empty.
          let none = c.in_ok-note_mistake.ensures.none empty in
          subst (HaveTypes new program ids) (sym (add-one n))
          (types_next old new program ids n function c.types_of-checked.result extends there none.1
          c.types_of-checked.ensures.owned c.types_of-checked.ensures.typed (inv.typed none.0));
    }

pub returns-in_err-note_mistake-clause-extends : goal.returns-in_err-note_mistake-clause-extends
returns-in_err-note_mistake-clause-extends c =
    Extends-trans c.declare.ensures.extends (Extends-trans c.loop-number.invariant.extends c.types_of-checked.ensures.extends)

pub returns-clause-typed : goal.returns-clause-typed
returns-clause-typed c = λ empty.
    let program = c.args.program.now in
    let declared = c.in_ok-declared.declared in
    let items = c.in_ok-declared.ensures.declared in
    let types = c.loop-number.invariant.typed empty in
    let end = c.len-number-end.ensures ∙ program.functions.ok.0 in
    let all : c.loop-number.number ≡ length program.functions.items =
    omega (arith, c.loop-number-test.false, c.loop-number.auto.number-end, end) in (
      ids_of declared,
      types.0,
      record {
        counted = length_mapped (λ (id : AdtId). id.number) declared.data_types.items ∙ items.counted;
        distinct = items.distinct;
        typed = subst (AreTypedFirst c.loop-number.cx program (ids_of declared) types.0) all types.2;
      },
    )
