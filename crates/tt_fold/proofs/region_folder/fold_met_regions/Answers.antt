use borrow.Author.Rules.{of_calls}
use Rattle.std.proofs.Common.{refl}
use denote.Param.Always.{always_mut, mut_by, mut_next}
use Rattle.tt_fold.proofs.ClauseLaws.{value_keeps}
use Rattle.tt_fold.proofs.CounterLaws.{fold-keeps_counters}
use Rattle.tt_fold.proofs.RegionFolderSteps.{folded}
use Rattle.tt_fold.proofs.LentLaws.{answers-passed, fold-passed}
use Rattle.tt_fold.proofs.RegionAnswers.{after_calls}
use Rattle.tt_fold.proofs.region_folder.fold_met_regions.Goals as goal

pub fold_with-requires-clause-state : goal.fold_with-requires-clause-state
fold_with-requires-clause-state g c = rw c.new-folder.ensures.closure (
  mut_by _ (λ p. always_mut g.F.FnMut p.0.now) (λ p a i. i) (λ p a r q i e. e.met.2.1.0) _ c.requires.callable,
  answers-passed _ _ (λ p. p.0.now) (λ p. p.0.ghost_name) (λ p r k a q e. (e.met.2.1.1, e.met.2.0)) _ _ c.requires.answers,
)

pub returns-clause-counters : goal.returns-clause-counters
returns-clause-counters g c = fold-keeps_counters _ _ _ _ _ _ _ _ _ _ _ _ c.fold_with.ensures.folds

pub returns-clause-placed : goal.returns-clause-placed
returns-clause-placed g c =
    let d = fold-passed (λ p r k a q. goal.F-step g p r k a q) _ (λ p. p.0.now) (λ p. p.0.ghost_name) (λ p r k a q e. (e.met.2.1.1, e.met.2.0)) g.T.TypeVisitable.shape
    c.new-folder.result.f _ _ _ _ _ c.fold_with.result c.new-folder.ensures.closure
    (folded g.T.TypeVisitable.shape c.new-folder.result.f c.fold_with.result c.fold_with.ensures.folds (rw c.new-folder.ensures.innermost refl) (value_keeps _ c.are_rows.ensures.are (g.T.TypeVisitable.shape c.args.value) c.requires.value)) in
    search (of_calls, d.folded.placed, d.same_name)

pub returns-clause-err : goal.returns-clause-err
returns-clause-err g c =
    let d = fold-passed (λ p r k a q. goal.F-step g p r k a q) _ (λ p. p.0.now) (λ p. p.0.ghost_name) (λ p r k a q e. (e.met.2.1.1, e.met.2.0)) g.T.TypeVisitable.shape
    c.new-folder.result.f _ _ _ _ _ c.fold_with.result c.new-folder.ensures.closure
    (folded g.T.TypeVisitable.shape c.new-folder.result.f c.fold_with.result c.fold_with.ensures.folds (rw c.new-folder.ensures.innermost refl) (value_keeps _ c.are_rows.ensures.are (g.T.TypeVisitable.shape c.args.value) c.requires.value)) in
    search (of_calls, d.folded.err, d.same_name)

pub returns-clause-callable : goal.returns-clause-callable
returns-clause-callable g c =
    let d = fold-passed (λ p r k a q. goal.F-step g p r k a q) _ (λ p. p.0.now) (λ p. p.0.ghost_name) (λ p r k a q e. (e.met.2.1.1, e.met.2.0)) g.T.TypeVisitable.shape
    c.new-folder.result.f _ _ _ _ _ c.fold_with.result c.new-folder.ensures.closure
    (folded g.T.TypeVisitable.shape c.new-folder.result.f c.fold_with.result c.fold_with.ensures.folds (rw c.new-folder.ensures.innermost refl) (value_keeps _ c.are_rows.ensures.are (g.T.TypeVisitable.shape c.args.value) c.requires.value)) in
    let kept = after_calls _ (λ calls p. always_mut g.F.FnMut p) (λ before call p q i e. mut_next g.F.FnMut _ _ _ _ _ e refl i) d.calls _ _ c.requires.callable d.made in
    search (of_calls, kept, d.same_name)
