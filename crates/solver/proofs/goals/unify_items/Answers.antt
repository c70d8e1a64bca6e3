use Rattle.std.proofs.Common.{◌<◌, length, refl, arith}
use Rattle.std.proofs.lemmas.Option.{slice_get_read}
use Rattle.tt_kinds.specs.Kinds.{arg_shape}
use Rattle.tt_interner.proofs.OwnedLaws.{found_owned, still_owned}
use Rattle.unify.specs.Bindings.{substitution}
use Rattle.solver.proofs.EquationLaws.{item_forced}
use Rattle.solver.proofs.SearchLaws.{continues_further, continues_itself}
use Rattle.solver.proofs.goals.unify_items.Goals as goal

pub returns-then-lefts-rights-clause-continues : goal.returns-then-lefts-rights-clause-continues
returns-then-lefts-rights-clause-continues c = continues_itself c.requires.table

pub loop-index-init : goal.loop-index-init
loop-index-init c = record { continues = continues_itself c.requires.table; forces = λ tl tr ρ is equates. is.solves }

pub unify_arg-requires-clause-left : goal.unify_arg-requires-clause-left
unify_arg-requires-clause-left c =
    let items = c.args.lefts.now in
    let item = c.index-lefts-index.result in
    let there = slice_get_read items (length items) c.loop-index.index item refl c.loop-index-test.true c.index-lefts-index.is in
    still_owned arg_shape c.args.cx.now c.loop-index.cx item c.loop-index.invariant.continues.extends
    (found_owned arg_shape c.args.cx.now items c.loop-index.index item there c.requires.lefts)

pub unify_arg-requires-clause-right : goal.unify_arg-requires-clause-right
unify_arg-requires-clause-right c =
    let items = c.args.rights.now in
    let item = c.index-rights-index.result in
    let within : c.loop-index.index < length items = omega (arith, c.loop-index-test.true, c.if-lefts-rights.false) in
    let there = slice_get_read items (length items) c.loop-index.index item refl within c.index-rights-index.is in
    still_owned arg_shape c.args.cx.now c.loop-index.cx item c.loop-index.invariant.continues.extends
    (found_owned arg_shape c.args.cx.now items c.loop-index.index item there c.requires.rights)

pub returns-in_err-unify_arg-clause-continues : goal.returns-in_err-unify_arg-clause-continues
returns-in_err-unify_arg-clause-continues c = continues_further c.loop-index.invariant.continues c.unify_arg.ensures.continues

pub returns-then-not-branch-clause-continues : goal.returns-then-not-branch-clause-continues
returns-then-not-branch-clause-continues c = continues_further c.loop-index.invariant.continues c.unify_arg.ensures.continues

pub returns-then-not-branch-clause-forced : goal.returns-then-not-branch-clause-forced
returns-then-not-branch-clause-forced c = λ tl tr same ρ is equates.
    let i = c.loop-index.index in
    let lefts = c.args.lefts.now in
    let rights = c.args.rights.now in
    let a = c.index-lefts-index.result in
    let b = c.index-rights-index.result in
    let within : i < length rights = omega (arith, c.loop-index-test.true, c.if-lefts-rights.false) in
    let forced = item_forced c.args.cx.now c.loop-index.cx (length c.args.bindings.now.entries) (length c.loop-index.bindings.entries)
    (substitution c.args.cx.now c.args.bindings.now) (substitution c.loop-index.cx c.loop-index.bindings)
    (substitution c.unify_arg.new.cx c.unify_arg.new.bindings) lefts rights i a b c.in_ok-unify_arg.field-0
    c.loop-index.invariant.continues.extends c.loop-index.invariant.continues.earlier.variables c.requires.lefts c.requires.rights
    (slice_get_read lefts (length lefts) i a refl c.loop-index-test.true c.index-lefts-index.is)
    (slice_get_read rights (length rights) i b refl within c.index-rights-index.is)
    c.loop-index.invariant.forces c.in_ok-unify_arg.ensures.forced tl tr ρ is equates in
    absurd (let found = forced.0 in let not_found = c.if-not-branch.true in cc)

pub loop-index-preserved : goal.loop-index-preserved
loop-index-preserved c =
    let i = c.loop-index.index in
    let lefts = c.args.lefts.now in
    let rights = c.args.rights.now in
    let a = c.index-lefts-index.result in
    let b = c.index-rights-index.result in
    let within : i < length rights = omega (arith, c.loop-index-test.true, c.if-lefts-rights.false) in
    record {
      continues = continues_further c.loop-index.invariant.continues c.unify_arg.ensures.continues;
      forces = λ tl tr ρ is equates.
          (item_forced c.args.cx.now c.loop-index.cx (length c.args.bindings.now.entries) (length c.loop-index.bindings.entries)
          (substitution c.args.cx.now c.args.bindings.now) (substitution c.loop-index.cx c.loop-index.bindings)
          (substitution c.unify_arg.new.cx c.unify_arg.new.bindings) lefts rights i a b c.in_ok-unify_arg.field-0
          c.loop-index.invariant.continues.extends c.loop-index.invariant.continues.earlier.variables c.requires.lefts c.requires.rights
          (slice_get_read lefts (length lefts) i a refl c.loop-index-test.true c.index-lefts-index.is)
          (slice_get_read rights (length rights) i b refl within c.index-rights-index.is)
          c.loop-index.invariant.forces c.in_ok-unify_arg.ensures.forced tl tr ρ is equates).1;
    }
