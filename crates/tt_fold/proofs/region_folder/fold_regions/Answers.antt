use Rattle.tt_fold.proofs.LentLaws.{some-last}
use Rattle.tt_fold.proofs.region_folder.fold_regions.Goals as goal

pub returns-clause-placed : goal.returns-clause-placed
returns-clause-placed g c =
    (some-last (λ p r k a q. goal.F-step g p r k a q) g.T.TypeVisitable.shape c.args.f c.args.cx.now c.args.value c.fold_regions_with.result c.fold_regions_with.new.cx c.fold_regions_with.new.f
    (record { placed = c.fold_regions_with.ensures.placed; err = c.fold_regions_with.ensures.err })).0

pub returns-clause-err : goal.returns-clause-err
returns-clause-err g c =
    (some-last (λ p r k a q. goal.F-step g p r k a q) g.T.TypeVisitable.shape c.args.f c.args.cx.now c.args.value c.fold_regions_with.result c.fold_regions_with.new.cx c.fold_regions_with.new.f
    (record { placed = c.fold_regions_with.ensures.placed; err = c.fold_regions_with.ensures.err })).1
