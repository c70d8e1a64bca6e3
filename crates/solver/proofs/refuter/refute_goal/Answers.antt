use Rattle.unify.proofs.UnificationLaws.{table_stays}
use Rattle.solver.proofs.SearchLaws.{continues_further, continues_grown, continues_itself}
use Rattle.solver.proofs.refuter.refute_goal.Goals as goal

pub returns-then-contains : goal.returns-then-contains
returns-then-contains c = continues_itself c.requires

pub loop-number-init : goal.loop-number-init
loop-number-init c = continues_itself c.requires

pub returns-in_err-conditions : goal.returns-in_err-conditions
returns-in_err-conditions c =
    continues_further c.loop-number.invariant (continues_grown c.conditions_of.ensures c.loop-number.invariant.refined.table)

pub loop-number-preserved-in_default : goal.loop-number-preserved-in_default
loop-number-preserved-in_default c =
    continues_further c.loop-number.invariant (continues_grown c.conditions_of.ensures c.loop-number.invariant.refined.table)

pub refute_one-requires : goal.refute_one-requires
refute_one-requires c =
    table_stays c.loop-number.cx c.conditions_of.new.cx c.loop-number.search.bindings c.conditions_of.ensures
    c.loop-number.invariant.refined.table

pub returns-in_err-refute_one : goal.returns-in_err-refute_one
returns-in_err-refute_one c =
    continues_further c.loop-number.invariant
    (continues_further (continues_grown c.conditions_of.ensures c.loop-number.invariant.refined.table) c.refute_one.ensures)

pub returns-then-not-branch : goal.returns-then-not-branch
returns-then-not-branch c =
    continues_further c.loop-number.invariant
    (continues_further (continues_grown c.conditions_of.ensures c.loop-number.invariant.refined.table) c.refute_one.ensures)

pub loop-number-preserved : goal.loop-number-preserved
loop-number-preserved c =
    continues_further c.loop-number.invariant
    (continues_further (continues_grown c.conditions_of.ensures c.loop-number.invariant.refined.table) c.refute_one.ensures)
