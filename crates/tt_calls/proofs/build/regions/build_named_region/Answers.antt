use Rattle.std.proofs.Common.{[], refl, ap}
use Rattle.tt_kinds.specs.Label.{placeholder_region}
use Rattle.tt_kinds.specs.Tree as tree
use Rattle.tt_kinds.specs.Bound.{depth}
use Rattle.tt_kinds.specs.Shape.{fill, IsGreatest}
use Rattle.tt_calls.specs.Told.{told_all, HasFullTable}
use Rattle.tt_calls.specs.Means.{number_at}
use Rattle.tt_calls.proofs.PartLaws.{unbuilt-always}
use Rattle.tt_calls.proofs.BuildLaws.{region-bound, region-passed, region-shallow, symbol-named}
use Rattle.tt_calls.proofs.build.regions.build_named_region.Goals as goal

pub returns-in_ok-name-in-ReEarlyParam-clause-region : goal.returns-in_ok-name-in-ReEarlyParam-clause-region
unfolding fill
returns-in_ok-name-in-ReEarlyParam-clause-region c =
    let named = c.in_ok-name-in-ReEarlyParam in
    rw (c.in-ReEarlyParam.is)
    (λ rows. region-shallow c.symbol.new.self _ _ ⊥ c.new.result c.new.ensures.ok tt (λ d. d) (refl, named.ensures.in_range)
    (rw (symbol-named c.args.cx.now c.symbol.new.self _ named.name.number named.ensures.means, c.as_str.ensures.value) refl))

pub returns-in_err-kind-in-ReBound-clause-region : goal.returns-in_err-kind-in-ReBound-clause-region
returns-in_err-kind-in-ReBound-clause-region c =
    let refused = c.in_err-kind-in-ReBound in
    let deep = IsGreatest (depth c.in-ReBound.index) in
    rw (c.in-ReBound.is)
    (λ rows. region-passed c.build_name.new.cx _ deep c.from_residual-in_err-kind-in-ReBound.result refused.field-0.0 c.from_residual-in_err-kind-in-ReBound.ensures.1
    (unbuilt-always (HasFullTable c.build_name.new.cx) [] [] deep refused.field-0.0 (refused.ensures.name rows).err))

pub returns-in_ok-kind-in-ReBound-clause-region : goal.returns-in_ok-kind-in-ReBound-clause-region
returns-in_ok-kind-in-ReBound-clause-region c =
    let named = c.in_ok-kind-in-ReBound in
    rw (c.in-ReBound.is)
    (λ rows. region-bound c.build_name.new.cx (number_at (told_all rows c.args.earlier.now)) c.in-ReBound.index (record { var = c.in-ReBound.var; kind = named.kind })
    c.in-ReBound.name c.new-in-ReBound.result (named.ensures.name rows).ok c.new-in-ReBound.ensures.ok c.new-in-ReBound.ensures.deep)

pub returns-in_err-kind-in-ReLateParam-clause-region : goal.returns-in_err-kind-in-ReLateParam-clause-region
returns-in_err-kind-in-ReLateParam-clause-region c =
    let refused = c.in_err-kind-in-ReLateParam in
    rw (c.in-ReLateParam.is)
    (λ rows. region-passed c.build_name-in-ReLateParam.new.cx _ ⊥ c.from_residual-in_err-kind-in-ReLateParam.result refused.field-0.0 c.from_residual-in_err-kind-in-ReLateParam.ensures.1
    (refused.ensures.name rows).err)

pub returns-in_ok-kind-in-ReLateParam-clause-region : goal.returns-in_ok-kind-in-ReLateParam-clause-region
unfolding fill
returns-in_ok-kind-in-ReLateParam-clause-region c =
    let named = c.in_ok-kind-in-ReLateParam in
    rw (c.in-ReLateParam.is)
    (λ rows. region-shallow c.build_name-in-ReLateParam.new.cx _ _ ⊥ c.new-in-ReLateParam.result c.new-in-ReLateParam.ensures.ok tt (λ d. d) (named.ensures.name rows).ok.part
    (rw (c.def_at-scope.ensures rows, (named.ensures.name rows).ok.means) refl))

pub returns-in_err-kind-in-RePlaceholder-clause-region : goal.returns-in_err-kind-in-RePlaceholder-clause-region
returns-in_err-kind-in-RePlaceholder-clause-region c =
    let refused = c.in_err-kind-in-RePlaceholder in
    rw (c.in-RePlaceholder.is)
    (λ rows. region-passed c.build_name-in-RePlaceholder.new.cx _ ⊥ c.from_residual-in_err-kind-in-RePlaceholder.result refused.field-0.0 c.from_residual-in_err-kind-in-RePlaceholder.ensures.1
    (refused.ensures.name rows).err)

pub returns-in_ok-kind-in-RePlaceholder-clause-region : goal.returns-in_ok-kind-in-RePlaceholder-clause-region
unfolding fill
returns-in_ok-kind-in-RePlaceholder-clause-region c =
    let named = c.in_ok-kind-in-RePlaceholder in
    rw (c.in-RePlaceholder.is)
    (λ rows. region-shallow c.build_name-in-RePlaceholder.new.cx _ _ ⊥ c.new-in-RePlaceholder.result c.new-in-RePlaceholder.ensures.ok tt (λ d. d) (named.ensures.name rows).ok.part
    (ap (λ n. tree.region (placeholder_region c.in-RePlaceholder.universe c.in-RePlaceholder.var n)) (named.ensures.name rows).ok.means))
