use Rattle.std.proofs.Common.{refl, sym, ◌∙◌}
use Rattle.tt_interner.specs.Rows.{meaning}
use Rattle.tt_interner.proofs.Growth.{Extends-refl}
use Rattle.tt_kinds.specs.declared.region_kind.RegionKind.TheVariants.{ReBound}
use Rattle.tt_interner.specs.Arguments.{arguments}
use Rattle.tt_binder.specs.BinderOpener.{opening_state}
use Rattle.tt_binder.proofs.OpeningSteps.{at_state, region_answered, region_stays}
use Rattle.tt_binder.proofs.binder_opener.BinderOpenerTypeFolder.fold_region.Goals as goal

pub returns-in-ReBound-clause-result : goal.returns-in-ReBound-clause-result
returns-in-ReBound-clause-result g c =
    let self = c.args.self.now in
    let rows = c.args.cx.now.rows in
    region_answered _ rows (at_state (opening_state rows (g.S.SliceLike.items rows self.args) self.binders_passed self.memory) c.args.cx.now.counters) c.args.region (ReBound c.in-ReBound.index c.in-ReBound.bound_region)
    c.opened_region.result (sym c.kind.ensures.kind ∙ c.in-ReBound.is) c.opened_region.ensures

pub returns-in_default : goal.returns-in_default
returns-in_default g c =
    let self = c.args.self.now in
    let rows = c.args.cx.now.rows in
    let stays = region_stays (meaning rows) (arguments rows (g.S.SliceLike.items rows self.args)) self.binders_passed c.args.region (λ i b is. c.in_default.not-ReBound i b (c.kind.ensures.kind ∙ is)) in
    record {
      extends = Extends-refl c.args.cx.now;
      still = λ h. refl;
      owned = c.requires.owned;
      result = (c.requires.region, (refl, stays));
    }
