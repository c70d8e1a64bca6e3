use Rattle.std.proofs.Common.{◌≡◌, ◌+◌, [], ◌∷◌, length, sym, ap, ◌∙◌, subst, add-one, arith}
use Rattle.std.proofs.lemmas.List.{length-append}
use Rattle.std.specs.Prelude.{None}
use Rattle.tt_kinds.specs.Kinds.{arg_shape}
use Rattle.tt_interner.specs.Arguments.{arguments}
use Rattle.tt_interner.specs.Owned.{AreOwned}
use Rattle.tt_interner.specs.Rows.{args_row}
use Rattle.tt_interner.specs.Stored.{Extends, IsAt}
use Rattle.tt_interner.proofs.OwnedLaws.{list_still_owned, push_owned}
use Rattle.unify.specs.Bindings.{substitution, with_variable}
use Rattle.unify.specs.Substitution.{Solves}
use Rattle.unify.proofs.UnificationLaws.{pushed_solved, substitution_stays}
use Rattle.solver.specs.Refutation.{variables_from}
use Rattle.solver.proofs.EquationLaws.{variables_made, variables_next}
use Rattle.solver.proofs.SearchLaws.{continues_further, continues_grown, continues_itself}
use Rattle.solver.proofs.goals.fresh_args.Goals as goal

pub loop-init : goal.loop-init
loop-init c = record {
  continues = continues_itself c.requires;
  owned = subst (AreOwned arg_shape c.args.cx.now) (sym c.new-items.ensures.items) tt;
  counted = omega arith;
  are = ap (arguments c.args.cx.now.rows) c.new-items.ensures.items;
  within = omega arith;
  solved = λ ρ solves. solves;
}

pub returns-in_err-variable-clause-continues : goal.returns-in_err-variable-clause-continues
returns-in_err-variable-clause-continues c = continues_further c.loop.invariant.continues c.new_variable.ensures.continues

pub returns-in_err-push-clause-continues : goal.returns-in_err-push-clause-continues
returns-in_err-push-clause-continues c = continues_further c.loop.invariant.continues c.new_variable.ensures.continues

pub loop-preserved : goal.loop-preserved
loop-preserved c =
    let inv = c.loop.invariant in
    let later = c.new_variable.new.cx in
    let items = c.loop.items.items in
    let made = c.in_ok-variable.variable in
    let on = c.new_variable.ensures.continues in
    let pushed = c.in_ok-push.ensures.items in
    let longer : c.new_variable.new.bindings ≡ with_variable c.loop.bindings = c.in_ok-variable.ensures.pushed in
    let grown = list_still_owned arg_shape c.loop.cx later items on.extends inv.owned in
    let start = length c.args.bindings.now.entries in
    let many = inv.counted in
    let one-more : length c.new_variable.new.bindings.entries ≡ length c.loop.bindings.entries + 1 =
    ap (λ b. length b.entries) longer ∙ length-append c.loop.bindings.entries (None ∷ []) in
    record {
      continues = continues_further inv.continues on;
      owned = subst (AreOwned arg_shape later) (sym pushed) (push_owned arg_shape later items made grown c.in_ok-variable.ensures.owned);
      counted = omega (arith, many, one-more);
      are = ap (arguments later.rows) pushed
          ∙ variables_next c.loop.cx later start c.loop.counter (length c.loop.bindings.entries) items made on.extends inv.owned inv.are
          inv.counted c.in_ok-variable.ensures.is ∙ ap (variables_from start) (sym (add-one c.loop.counter));
      within = let test = c.loop-test.true in omega (arith, test);
      solved = λ ρ solves. subst (λ b. Solves ρ (substitution later b)) (sym longer)
          (pushed_solved ρ c.loop.cx later c.loop.bindings on.extends inv.continues.refined.table (inv.solved ρ solves));
    }

pub returns-clause-continues : goal.returns-clause-continues
returns-clause-continues c =
    continues_further c.loop.invariant.continues
    (continues_grown (record { rows = c.mk_args.ensures.grows; limit = c.mk_args.ensures.limit }) c.loop.invariant.continues.refined.table)

pub returns-clause-are : goal.returns-clause-are
returns-clause-are c =
    let inv = c.loop.invariant in
    let items = c.loop.items.items in
    let read : c.as_slice.result.now ≡ items = c.as_slice.ensures.value in
    let at = subst (λ xs. IsAt c.mk_args.new.self.rows (args_row xs) c.in_ok-mk_args.field-0.number) read c.in_ok-mk_args.ensures.stored.stored in
    let same : c.loop.counter ≡ c.args.count = let past = c.loop-test.false in let within = inv.within in omega (arith, past, within) in
    variables_made c.loop.cx c.mk_args.new.self c.in_ok-mk_args.field-0 items (length c.args.bindings.now.entries) c.loop.counter
    (record { rows = c.mk_args.ensures.grows; limit = c.mk_args.ensures.limit }) inv.owned at inv.are
    ∙ ap (variables_from (length c.args.bindings.now.entries)) same

pub returns-clause-solved : goal.returns-clause-solved
returns-clause-solved c = λ ρ solves.
    let extends : Extends c.loop.cx c.mk_args.new.self = record { rows = c.mk_args.ensures.grows; limit = c.mk_args.ensures.limit } in
    subst (Solves ρ) (sym (substitution_stays c.loop.cx c.mk_args.new.self c.loop.bindings extends c.loop.invariant.continues.refined.table))
    (c.loop.invariant.solved ρ solves)

pub returns-clause-counted : goal.returns-clause-counted
returns-clause-counted c =
    let past = c.loop-test.false in
    let within = c.loop.invariant.within in
    let many = c.loop.invariant.counted in
    omega (arith, past, within, many)
