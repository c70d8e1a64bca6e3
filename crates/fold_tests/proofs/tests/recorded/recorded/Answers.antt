-- the log at the end is the one behind the closure's reference, which is still the same
use Rattle.std.proofs.Common.{◌≡◌, Bool, List, false, Result, IfOk, refl, rules}
use Rattle.tt_fold.specs.Steps.{tree_by}
use Rattle.tt_fold.specs.RegionFolder.{names_in, region_tree}
use Rattle.tt_fold.proofs.RegionAnswers.{answers_always}
use Rattle.std.specs.Prelude.{map}
use Rattle.tt_index.specs.declared.refusal.Refusal.{Refusal}
use Rattle.tt_kinds.specs.Met.{Met}
use Rattle.fold_tests.specs.declared.tests.recorded.Asked.{Asked}
use Rattle.fold_tests.proofs.RecordLaws.{fold-noted}
use Rattle.fold_tests.proofs.tests.recorded.recorded.Goals as goal

at_last : {T : Type 0} (result : Result T Refusal) (seen : Asked → Met) (all : List Met) (lost was_lost : Bool) (items were : List Asked)
    → IfOk result (λ y. was_lost ≡ false → map seen were ≡ all) → lost ≡ was_lost → items ≡ were → IfOk result (λ y. lost ≡ false → map seen items ≡ all)
at_last result seen all lost was_lost items were h a b = rw (a, b) h

pub fold_regions_with-requires-clause-answers : goal.fold_regions_with-requires-clause-answers
fold_regions_with-requires-clause-answers g c = answers_always _ _ _ (λ p r k a q named s. rw s.met.2.1.0 named)

pub returns : goal.returns
returns g c =
    let n = fold-noted _ (λ p. p.0.ghost_name) (λ p. p.0.now.calls.items) (λ p. p.0.now.is_lost) (λ r k. record { region = r; depth = k }) (λ p r k a q e. (e.met.2.0, e.met.2.1.1))
    (names_in c.args.cx.now.rows) (λ c'. record { standing = region_tree (names_in c.args.cx.now.rows) c'.region; under = c'.depth }) (λ r k. refl)
    _ c.fold_regions_with.new.f _ c.fold_regions_with.new.cx (tree_by g.T.TypeVisitable.shape c.fold_regions_with.new.cx.rows) c.fold_regions_with.result c.fold_regions_with.ensures.placed c.fold_regions_with.ensures.err in
    let same_reference = n.0 in record { exact = at_last _ _ _ _ _ _ _ n.1 (search rules) (search rules) }
