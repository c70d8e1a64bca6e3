use Rattle.std.proofs.Common.{length, ap, ◌∙◌, sym, subst, OnOk}
use Rattle.tt_kinds.specs.declared.parts.Child.TheVariants as child
use Rattle.tt_kinds.specs.declared.table.TermTable.TheVariants as terms_of
use Rattle.tt_kinds.specs.Handle.{any_handle}
use Rattle.unify.specs.Bindings.{stored}
use Rattle.unify.specs.Comparison.{ComparedIn, PendingIn, Takes}
use Rattle.unify.specs.Faults.{IsEscapes, IsMismatch}
use Rattle.unify.specs.Pairs.{Equates, EquatesTypes}
use Rattle.unify.specs.Substitution.{GivesClosed, IsOwn}
use Rattle.unify.proofs.ComparisonLaws.{on_err, on_ok, takes_parts}
use Rattle.unify.proofs.SolutionLaws.{stored_met, never_under}
use Rattle.unify.proofs.PairMismatches.{left_mismatch, on_condition, right_mismatch, stored_mismatch}
use Rattle.unify.proofs.TriangularLoop.{parts_more}
use Rattle.unify.proofs.comparison.unify_terms.Goals as goal

pub returns-in_default-clause-mismatch : goal.returns-in_default-clause-mismatch
returns-in_default-clause-mismatch c = λ mismatch other.
    left_mismatch c.args.cx.now c.args.table.now.entries.items c.args.comparison.now.pairs.items c.are_rows.ensures.are
    c.args.pair c.requires.pair c.requires.left c.requires.right other c.in_default.ensures

pub returns-in_default-as_stored-clause-mismatch : goal.returns-in_default-as_stored-clause-mismatch
returns-in_default-as_stored-clause-mismatch c = λ mismatch other.
    right_mismatch c.args.cx.now c.args.table.now.entries.items c.args.comparison.now.pairs.items c.are_rows.ensures.are
    c.args.pair c.requires.pair c.requires.left c.requires.right other c.in_default-as_stored.ensures

pub returns-in-Some-as_types-clause-takes : goal.returns-in-Some-as_types-clause-takes
returns-in-Some-as_types-clause-takes c =
    let left = c.in-Some.ensures ∙ ap child.Stored c.in-Some-as_types.ensures.0 in
    let right = c.in-Some-as_stored.ensures ∙ ap child.Stored c.in-Some-as_types.ensures.1 in
    subst (λ p. OnOk c.unify_types.result (Takes c.args.cx.now c.args.table.now.entries.items
    c.args.comparison.now.pairs.items c.args.comparison.now.compared.keys p c.unify_types.new.table.entries.items
    c.unify_types.new.comparison.pairs.items c.unify_types.new.comparison.compared.keys))
    (λ i. record { left = sym left i; right = sym right i }) c.unify_types.ensures.takes

pub returns-in-Some-as_types-clause-mismatch : goal.returns-in-Some-as_types-clause-mismatch
returns-in-Some-as_types-clause-mismatch c =
    let left = c.in-Some.ensures ∙ ap child.Stored c.in-Some-as_types.ensures.0 in
    let right = c.in-Some-as_stored.ensures ∙ ap child.Stored c.in-Some-as_types.ensures.1 in
    let n = length c.args.table.now.entries.items in
    on_condition _ _ c.unify_types.result
    (never_under c.args.cx.now c.args.table.now.entries.items IsMismatch c.unify_types.result
    c.args.comparison.now.pairs.items
    (λ ρ. IsOwn n ρ × EquatesTypes ρ c.args.cx.now c.in-Some-as_types.types.0 c.in-Some-as_types.types.1)
    (λ ρ. IsOwn n ρ × Equates ρ c.args.cx.now c.args.pair)
    (λ ρ met. (
      met.0,
      stored_met ρ c.args.cx.now c.args.pair (any_handle terms_of.Types c.in-Some-as_types.types.0)
          (any_handle terms_of.Types c.in-Some-as_types.types.1) left right met.1,
    ))
    c.unify_types.ensures.mismatch)

pub returns-in-Some-as_types-clause-escapes : goal.returns-in-Some-as_types-clause-escapes
returns-in-Some-as_types-clause-escapes c =
    let left = c.in-Some.ensures ∙ ap child.Stored c.in-Some-as_types.ensures.0 in
    let right = c.in-Some-as_stored.ensures ∙ ap child.Stored c.in-Some-as_types.ensures.1 in
    never_under c.args.cx.now c.args.table.now.entries.items IsEscapes c.unify_types.result
    c.args.comparison.now.pairs.items
    (λ ρ. GivesClosed ρ × EquatesTypes ρ c.args.cx.now c.in-Some-as_types.types.0 c.in-Some-as_types.types.1)
    (λ ρ. GivesClosed ρ × Equates ρ c.args.cx.now c.args.pair)
    (λ ρ met. (
      met.0,
      stored_met ρ c.args.cx.now c.args.pair (any_handle terms_of.Types c.in-Some-as_types.types.0)
          (any_handle terms_of.Types c.in-Some-as_types.types.1) left right met.1,
    ))
    c.unify_types.ensures.escapes

pub returns-clause-takes : goal.returns-clause-takes
returns-clause-takes c =
    let terms = c.args.cx.now in
    let ys = c.args.table.now.entries.items in
    let qs = c.push_parts.new.pairs.items in
    let keys = c.args.comparison.now.compared.keys in
    on_ok c.push_parts.result c.push_parts.ensures.owned c.push_parts.ensures.others c.push_parts.ensures.parts
    c.push_parts.ensures.general
    (λ owned others parts general.
    takes_parts terms ys c.args.comparison.now.pairs.items keys c.args.pair qs c.in-Some.left c.in-Some-as_stored.right
    c.in-Some.ensures c.in-Some-as_stored.ensures owned others
    (parts_more (stored terms ys) (PendingIn terms qs) (ComparedIn terms keys) (parts (stored terms ys))) general)

pub returns-clause-mismatch : goal.returns-clause-mismatch
returns-clause-mismatch c =
    on_err IsMismatch c.push_parts.result (λ apart other.
    stored_mismatch c.args.cx.now c.args.table.now.entries.items c.args.comparison.now.pairs.items c.are_rows.ensures.are
    c.args.pair c.requires.pair c.in-Some.left c.in-Some-as_stored.right c.in-Some.ensures c.in-Some-as_stored.ensures
    c.in_default-as_types.ensures apart) c.push_parts.ensures.mismatch
