use Rattle.std.proofs.Common.{refl, ◌∙◌, arith}
use Rattle.std.proofs.lemmas.List.{length-set}
use Rattle.tt_kinds.specs.Kinds.{ty_shape}
use Rattle.tt_interner.proofs.Growth.{Extends-trans}
use Rattle.tt_interner.proofs.OwnedLaws.{get_owned, set_owned, list_still_owned}
use Rattle.guide_tests.proofs.tests.bindings.shift_all.Goals as goal

pub shift_vars-requires : goal.shift_vars-requires
shift_vars-requires c =
    get_owned ty_shape c.loop-place.cx c.loop-place.types.items c.loop-place.types.items c.loop-place.place c.index.result.now refl (omega arith) c.index.ensures c.loop-place.invariant.owned

pub returns-in_err-shifted-clause-extends : goal.returns-in_err-shifted-clause-extends
returns-in_err-shifted-clause-extends c = Extends-trans c.loop-place.invariant.extends c.shift_vars.ensures.extends

pub loop-place-preserved : goal.loop-place-preserved
loop-place-preserved c =
    let still = list_still_owned ty_shape c.loop-place.cx c.shift_vars.new.cx c.loop-place.types.items c.shift_vars.ensures.extends c.loop-place.invariant.owned in
    record {
      extends = Extends-trans c.loop-place.invariant.extends c.shift_vars.ensures.extends;
      owned = set_owned ty_shape c.shift_vars.new.cx c.loop-place.types.items c.loop-place.place _ still c.in_ok-shifted.ensures.in_range;
      len = length-set c.loop-place.types.items c.loop-place.place _ ∙ c.loop-place.invariant.len;
    }
