use Rattle.std.proofs.Common.{◌≡◌, [], ◌++◌, ◌∷◌, List, length, refl, sym, subst, ap, ◌∙◌, arith}
use Rattle.std.proofs.lemmas.Result.{err_from_is_err_and}
use Rattle.tt_interner.specs.Owned.{AreOwned}
use Rattle.unify.specs.Bindings.{table_of, KeepsEarlier}
use Rattle.unify.specs.Comparison.{types_pair, IsComparing}
use Rattle.unify.specs.Pairs.{pair_shape, EquatesAll}
use Rattle.unify.specs.Substitution.{IsOwn}
use Rattle.unify.proofs.ComparisonLaws.{comparison_begins, comparison_goes, earlier_itself}
use Rattle.unify.proofs.PairLaws.{equates_popped, pairs_popped}
use Rattle.unify.proofs.comparison.compare.Goals as goal

none_left : {T : Type 0} (xs : List T) → length xs ≡ 0 → xs ≡ []
none_left [] h = refl
none_left (x ∷ xs) h = absurd (omega (arith, h))

pub loop-init : goal.loop-init
loop-init c =
    let first = table_of c.args.table.now in
    comparison_goes c.args.cx.now first c.args.left c.args.right first (table_of c.unify_types.new.table) []
    c.unify_types.new.comparison.pairs.items (types_pair c.args.left c.args.right) []
    c.unify_types.new.comparison.compared.keys
    (comparison_begins c.args.cx.now first c.args.left c.args.right c.requires.entries c.requires.left c.requires.right
    c.requires.links)
    c.in_ok-unify_types.ensures.grown
    (rw (c.new.ensures.items, c.new-2.ensures.empty) at c.in_ok-unify_types.ensures.takes)

pub returns-in_err-unify_types-clause-earlier : goal.returns-in_err-unify_types-clause-earlier
returns-in_err-unify_types-clause-earlier c =
    let first = table_of c.args.table.now in
    subst (KeepsEarlier first) (sym c.in_err-unify_types.ensures.same) (earlier_itself first)

pub returns-in_err-unify_types-clause-mismatch : goal.returns-in_err-unify_types-clause-mismatch
returns-in_err-unify_types-clause-mismatch c =
    let failed = c.from_residual in
    let p = err_from_is_err_and failed.result failed.ensures.1 in
    rw (p.1, p.2) (λ mismatch ρ own solves equal.
    (c.in_err-unify_types.ensures.mismatch mismatch).never ρ (own, equal)
    (record { solves = solves; equates = rw c.new.ensures.items tt }))

pub returns-in_err-unify_types-clause-escapes : goal.returns-in_err-unify_types-clause-escapes
returns-in_err-unify_types-clause-escapes c =
    let failed = c.from_residual in
    let p = err_from_is_err_and failed.result failed.ensures.1 in
    rw (p.1, p.2) (λ escapes ρ closed solves equal.
    (c.in_err-unify_types.ensures.escapes escapes).never ρ (closed, equal)
    (record { solves = solves; equates = rw c.new.ensures.items tt }))

pub loop-preserved : goal.loop-preserved
loop-preserved c =
    comparison_goes c.args.cx.now (table_of c.args.table.now) c.args.left c.args.right (table_of c.loop.table)
    (table_of c.unify_pair.new.table) c.pop.new.self.items c.unify_pair.new.comparison.pairs.items c.in-Some.pair
    c.loop.comparison.compared.keys c.unify_pair.new.comparison.compared.keys
    (rw (← c.in-Some.ensures.items) c.loop.invariant) c.in_ok-unify_pair.ensures.grown c.in_ok-unify_pair.ensures.takes

pub unify_pair-requires-clause-pairs : goal.unify_pair-requires-clause-pairs
unify_pair-requires-clause-pairs c =
    (pairs_popped c.args.cx.now c.pop.new.self.items c.in-Some.pair
    (subst (AreOwned pair_shape c.args.cx.now) c.in-Some.ensures.items c.loop.invariant.owned)).0

pub unify_pair-requires-clause-pair : goal.unify_pair-requires-clause-pair
unify_pair-requires-clause-pair c =
    (pairs_popped c.args.cx.now c.pop.new.self.items c.in-Some.pair
    (subst (AreOwned pair_shape c.args.cx.now) c.in-Some.ensures.items c.loop.invariant.owned)).1

pub returns-in_err-unify_pair-clause-mismatch : goal.returns-in_err-unify_pair-clause-mismatch
returns-in_err-unify_pair-clause-mismatch c =
    let failed = c.from_residual-in_err-unify_pair in
    let p = err_from_is_err_and failed.result failed.ensures.1 in
    rw (p.1, p.2) (λ mismatch ρ own solves equal.
    let before = c.loop.invariant.compares.keeps ρ solves equal in
    let popped = equates_popped ρ c.args.cx.now c.pop.new.self.items c.in-Some.pair
    (subst (EquatesAll ρ c.args.cx.now) c.in-Some.ensures.items before.1) in
    (c.in_err-unify_pair.ensures.mismatch mismatch).never ρ
    (subst (λ n. IsOwn n ρ) (sym c.loop.invariant.compares.len) own, popped.1)
    (record { solves = before.0; equates = popped.0 }))

pub returns-in_err-unify_pair-clause-escapes : goal.returns-in_err-unify_pair-clause-escapes
returns-in_err-unify_pair-clause-escapes c =
    let failed = c.from_residual-in_err-unify_pair in
    let p = err_from_is_err_and failed.result failed.ensures.1 in
    rw (p.1, p.2) (λ escapes ρ closed solves equal.
    let before = c.loop.invariant.compares.keeps ρ solves equal in
    let popped = equates_popped ρ c.args.cx.now c.pop.new.self.items c.in-Some.pair
    (subst (EquatesAll ρ c.args.cx.now) c.in-Some.ensures.items before.1) in
    (c.in_err-unify_pair.ensures.escapes escapes).never ρ (closed, popped.1)
    (record { solves = before.0; equates = popped.0 }))
