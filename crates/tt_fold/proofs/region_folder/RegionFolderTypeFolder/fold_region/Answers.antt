use Rattle.std.proofs.Common.{refl, sym, ◌∙◌}
use denote.Param.Always.{mut_next}
use Rattle.tt_kinds.specs.declared.table.Table.TheVariants.{Symbols}
use Rattle.tt_interner.specs.Rows.{size}
use Rattle.tt_fold.proofs.RegionFolderSteps.{part-named, named-part, asked_again, region_asked, region_kept}
use Rattle.tt_fold.proofs.region_folder.RegionFolderTypeFolder.fold_region.Goals as goal

pub returns-then-meets-clause-result : goal.returns-then-meets-clause-result
returns-then-meets-clause-result g c =
    let named = part-named c.args._cx.now.rows c.args.region c.requires.region in
    let step = c.f-answer.ensures in
    let is = sym c.meets.ensures ∙ c.if-meets.true in
    let again = asked_again _ (size c.args._cx.now.rows Symbols) c.args.self.now.current_index c.args.self.now.f c.f-answer.new.self c.args.region c.f-answer.result c.requires.owned.1 named step in
    (named-part c.args._cx.now.rows c.f-answer.result again.0, (region_asked _ c.args._cx.now.rows c.args.self.now.current_index c.args.self.now.f c.f-answer.new.self c.args.region c.f-answer.result is step, refl))

pub returns-else-meets-clause-result : goal.returns-else-meets-clause-result
returns-else-meets-clause-result g c =
    (c.requires.region, (region_kept _ c.args._cx.now.rows c.args.self.now.current_index c.args.self.now.f c.args.region (sym c.meets.ensures ∙ c.if-meets.false), refl))

pub returns-then-meets-clause-owned : goal.returns-then-meets-clause-owned
returns-then-meets-clause-owned g c =
    let named = part-named c.args._cx.now.rows c.args.region c.requires.region in
    let step = c.f-answer.ensures in
    let again = asked_again _ (size c.args._cx.now.rows Symbols) c.args.self.now.current_index c.args.self.now.f c.f-answer.new.self c.args.region c.f-answer.result c.requires.owned.1 named step in
    (mut_next g.F.FnMut _ _ _ _ _ step refl c.requires.owned.0, again.1)
