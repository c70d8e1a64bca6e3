use Rattle.std.proofs.Common.{◌≡◌, List, [], ◌∷◌, inr, length, refl, sym, subst, arith, ◌∙◌}
use Rattle.tt_flags.specs.TypeFlags.{has_ty_infer}
use Rattle.tt_kinds.specs.Kinds.{ty_shape}
use Rattle.tt_kinds.specs.Scan.{scan}
use Rattle.tt_fold.specs.Steps.{tree_in}
use Rattle.tt_fold.proofs.KeptLaws.{misses}
use Rattle.unify.specs.Variables.{AreStored, Visits}
use Rattle.unify.proofs.FlagLaws.{unflagged_without}
use Rattle.unify.proofs.OccursLaws.{type_proper}
use Rattle.unify.proofs.VariableSteps.{single_held, single_listed, stored_popped, visits_last}
use Rattle.unify.proofs.variables.variables_in.Goals as goal

none_left : {T : Type 0} (xs : List T) → length xs ≡ 0 → xs ≡ []
none_left [] h = refl
none_left (x ∷ xs) h = absurd (omega (arith, h))

pub returns-then-not-has_infer_types-clause-all : goal.returns-then-not-has_infer_types-clause-all
returns-then-not-has_infer_types-clause-all c = λ v.
    let t = tree_in c.args.cx.now.rows (ty_shape c.args.ty) in
    inr (unflagged_without t v (misses has_ty_infer (scan t) c.has_infer_types.result c.has_infer_types.ensures
    c.if-not-has_infer_types.true))

pub returns-in_default-pop-clause-all : goal.returns-in_default-pop-clause-all
returns-in_default-pop-clause-all c =
    let root = tree_in c.args.cx.now.rows (ty_shape c.args.ty) in
    visits_last c.args.cx.now root c.loop.search.seen.keys c.loop.search.found.items
    (subst (λ ps. Visits c.args.cx.now root ps c.loop.search.seen.keys c.loop.search.found.items)
    (none_left c.loop.search.pending.items (omega (arith, c.loop.search.pending.ok, c.in_default-pop.ensures.cases.0))) c.loop.invariant.visits)

pub visit_row-requires-clause-pending : goal.visit_row-requires-clause-pending
visit_row-requires-clause-pending c =
    (stored_popped c.args.cx.now c.pop.new.self.items c.in-Some-pop.handle (subst (AreStored c.args.cx.now) c.in-Some-pop.ensures.items c.loop.invariant.stored)).0

pub visit_row-requires-clause-own : goal.visit_row-requires-clause-own
visit_row-requires-clause-own c =
    (stored_popped c.args.cx.now c.pop.new.self.items c.in-Some-pop.handle (subst (AreStored c.args.cx.now) c.in-Some-pop.ensures.items c.loop.invariant.stored)).1

pub returns-in-Some-clause-all : goal.returns-in-Some-clause-all
returns-in-Some-clause-all c =
    let rows = c.args.cx.now.rows in
    single_listed (λ f. f.items) (tree_in rows (ty_shape c.args.ty)) c.in-Some.variable
    (type_proper rows c.are_rows.ensures.are c.args.ty) (sym c.variable_of.ensures ∙ c.in-Some.is) c.single.result
    c.single.ensures

pub returns-in-Some-clause-only : goal.returns-in-Some-clause-only
returns-in-Some-clause-only c =
    let rows = c.args.cx.now.rows in
    single_held (λ f. f.items) (tree_in rows (ty_shape c.args.ty)) c.in-Some.variable
    (type_proper rows c.are_rows.ensures.are c.args.ty) (sym c.variable_of.ensures ∙ c.in-Some.is) c.single.result
    c.single.ensures
