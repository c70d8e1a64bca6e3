use Rattle.std.proofs.Common.{refl, suc, length, add-one, sym, subst, ◌∙◌}
use Rattle.std.proofs.lemmas.Option.{slice_get_read}
use Rattle.tt_interner.proofs.Growth.{Extends-trans}
use Rattle.checker.specs.Items.{AreWrittenTypes, numbers}
use Rattle.checker.proofs.WrittenLaws.{written_next, written_stay}
use Rattle.checker.proofs.declared.written_types.Goals as goal

pub written_type-requires : goal.written_type-requires
written_type-requires c =
    let written = c.loop-index.invariant.written in
    let cx = c.loop-index.cx in
    subst (λ xs. AreWrittenTypes cx c.args.program.now (numbers c.args.ids.now) xs (length xs)) (sym c.as_slice.ensures.value)
    (record { owned = written.owned; counted = refl; each = written.each })

pub returns-in_err-ty-clause-extends : goal.returns-in_err-ty-clause-extends
returns-in_err-ty-clause-extends c = Extends-trans c.loop-index.invariant.extends c.written_type.ensures.extends

pub loop-index-preserved : goal.loop-index-preserved
loop-index-preserved c =
    let inv = c.loop-index.invariant in
    let program = c.args.program.now in
    let ids = numbers c.args.ids.now in
    let old = c.loop-index.cx in
    let new = c.written_type.new.cx in
    let types = c.loop-index.types.items in
    let index = c.loop-index.index in
    let ty = c.in_ok-ty.ty in
    let written = c.index-written.result.now in
    let extends = c.written_type.ensures.extends in
    let there = slice_get_read program.types.items c.len-index-end.result index written (c.len-index-end.ensures ∙ program.types.ok.0)
    c.loop-index-test.true c.index-written.ensures in
    let next = written_next new program ids types index written ty
    (written_stay old new program ids types index extends inv.written) there c.in_ok-ty.ensures.owned c.in_ok-ty.ensures.is in
    record {
      extends = Extends-trans inv.extends extends;
      written = subst (AreWrittenTypes new program ids c.push.new.self.items) (sym (add-one index))
          (subst (λ xs. AreWrittenTypes new program ids xs (suc index)) (sym c.in_ok-push.ensures.items) next);
    }

pub returns-in_err-push-clause-extends : goal.returns-in_err-push-clause-extends
returns-in_err-push-clause-extends c = Extends-trans c.loop-index.invariant.extends c.written_type.ensures.extends
