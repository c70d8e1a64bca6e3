use Rattle.std.proofs.Common.{inr, sym, subst, ap, ◌∙◌}
use Rattle.tt_flags.specs.TypeFlags.{has_ty_infer}
use Rattle.tt_kinds.specs.Kinds.{handle_shape, ty_shape}
use Rattle.tt_kinds.specs.Scan.{scan}
use Rattle.tt_kinds.proofs.EqualityLaws.{handle_exact}
use Rattle.tt_interner.specs.Owned.{tree_in}
use Rattle.tt_fold.proofs.KeptLaws.{misses}
use Rattle.unify.proofs.FlagLaws.{unflagged_without}
use Rattle.unify.proofs.MismatchLaws.{other_table}
use Rattle.unify.proofs.OccursLaws.{type_proper}
use Rattle.unify.proofs.VariableSteps.{other_plain}
use Rattle.canonical.specs.Canonical.{collect}
use Rattle.canonical.specs.Search.{collect_pending, AreGood, Pushes}
use Rattle.canonical.proofs.CollectLaws.{collect_stays}
use Rattle.canonical.proofs.SearchSteps.{collected_variable, known_noted, on_ok, pushes_leaving, seen_known}
use Rattle.canonical.proofs.search.enter.Goals as goal

pub push_parts-requires-clause-plain : goal.push_parts-requires-clause-plain
push_parts-requires-clause-plain c =
    other_plain c.args.cx.now.rows c.are_rows.ensures.are c.args.handle c.requires.own
    (other_table _ _ (sym c.ne.ensures ∙ c.if-ne.true))

pub returns-then-not-has_infer_types-clause-good : goal.returns-then-not-has_infer_types-clause-good
returns-then-not-has_infer_types-clause-good c =
    let rows = c.args.cx.now.rows in
    let found = c.args.search.now.found.keys in
    let same = ap (λ h. collect (tree_in rows (handle_shape h)) found) c.typed-ty.ensures in
    let t = tree_in rows (ty_shape c.typed-ty.result) in
    let none = misses has_ty_infer (scan t) c.has_infer_types.result c.has_infer_types.ensures
    c.if-not-has_infer_types.true in
    subst (AreGood c.args.cx.now c.args.pending.now.items)
    (same ∙ collect_stays t found (λ v. inr (unflagged_without t v none)))
    c.requires.good

pub returns-then-not-has_infer_types-clause-all : goal.returns-then-not-has_infer_types-clause-all
returns-then-not-has_infer_types-clause-all c =
    let rows = c.args.cx.now.rows in
    let found = c.args.search.now.found.keys in
    let same = ap (λ h. collect (tree_in rows (handle_shape h)) found) c.typed-ty.ensures in
    let t = tree_in rows (ty_shape c.typed-ty.result) in
    let none = misses has_ty_infer (scan t) c.has_infer_types.result c.has_infer_types.ensures
    c.if-not-has_infer_types.true in
    sym (ap (collect_pending c.args.cx.now c.args.pending.now.items)
    (same ∙ collect_stays t found (λ v. inr (unflagged_without t v none))))

pub returns-then-contains-clause-good : goal.returns-then-contains-clause-good
returns-then-contains-clause-good c =
    let rows = c.args.cx.now.rows in
    let found = c.args.search.now.found.keys in
    let same = ap (λ h. collect (tree_in rows (handle_shape h)) found) c.typed-ty.ensures in
    let known = seen_known rows _ handle_exact c.args.search.now.seen.keys c.typed-ty.result found c.requires.known
    (sym c.contains.ensures ∙ c.if-contains.true) in
    subst (AreGood c.args.cx.now c.args.pending.now.items)
    (same ∙ collect_stays (tree_in rows (ty_shape c.typed-ty.result)) found known) c.requires.good

pub returns-then-contains-clause-all : goal.returns-then-contains-clause-all
returns-then-contains-clause-all c =
    let rows = c.args.cx.now.rows in
    let found = c.args.search.now.found.keys in
    let same = ap (λ h. collect (tree_in rows (handle_shape h)) found) c.typed-ty.ensures in
    let known = seen_known rows _ handle_exact c.args.search.now.seen.keys c.typed-ty.result found c.requires.known
    (sym c.contains.ensures ∙ c.if-contains.true) in
    sym (ap (collect_pending c.args.cx.now c.args.pending.now.items)
    (same ∙ collect_stays (tree_in rows (ty_shape c.typed-ty.result)) found known))

pub returns-in_ok-insert-in-Some-clause-known : goal.returns-in_ok-insert-in-Some-clause-known
returns-in_ok-insert-in-Some-clause-known c =
    rw c.in_ok-insert-in-Some.ensures.keys
    (known_noted c.args.cx.now.rows c.args.search.now.seen.keys c.args.search.now.found.keys c.in-Some.variable
    c.requires.known)

pub returns-in_ok-insert-in-Some-clause-good : goal.returns-in_ok-insert-in-Some-clause-good
returns-in_ok-insert-in-Some-clause-good c =
    let rows = c.args.cx.now.rows in
    let found = c.args.search.now.found.keys in
    let same = ap (λ h. collect (tree_in rows (handle_shape h)) found) c.typed-ty.ensures in
    let one = collected_variable (tree_in rows (ty_shape c.typed-ty.result)) c.in-Some.variable found
    (type_proper rows c.are_rows.ensures.are c.typed-ty.result) (sym c.variable_of.ensures ∙ c.in-Some.is) in
    rw c.in_ok-insert-in-Some.ensures.keys
    (subst (AreGood c.args.cx.now c.args.pending.now.items) (same ∙ one) c.requires.good)

pub returns-in_ok-insert-in-Some-clause-all : goal.returns-in_ok-insert-in-Some-clause-all
returns-in_ok-insert-in-Some-clause-all c =
    let rows = c.args.cx.now.rows in
    let found = c.args.search.now.found.keys in
    let same = ap (λ h. collect (tree_in rows (handle_shape h)) found) c.typed-ty.ensures in
    let one = collected_variable (tree_in rows (ty_shape c.typed-ty.result)) c.in-Some.variable found
    (type_proper rows c.are_rows.ensures.are c.typed-ty.result) (sym c.variable_of.ensures ∙ c.in-Some.is) in
    rw c.in_ok-insert-in-Some.ensures.keys
    (sym (ap (collect_pending c.args.cx.now c.args.pending.now.items) (same ∙ one)))

pub returns-in_ok-push-in-None-clause-good : goal.returns-in_ok-push-in-None-clause-good
returns-in_ok-push-in-None-clause-good c =
    let terms = c.args.cx.now in
    let pending = c.args.pending.now.items in
    let t = tree_in terms.rows (handle_shape c.args.handle) in
    let new = c.push_parts-in-None.new.pending.items in
    let same = ap (λ h. tree_in terms.rows (handle_shape h)) c.typed-ty.ensures in
    on_ok c.push_parts-in-None.result c.push_parts-in-None.ensures (λ pushed.
    (pushes_leaving terms pending new c.typed-ty.result t same
    (subst (λ ps. Pushes terms ps (collect t) new) c.in_ok-push-in-None.ensures.items pushed)).good
    c.args.search.now.found.keys c.requires.good)

pub returns-in_ok-push-in-None-clause-all : goal.returns-in_ok-push-in-None-clause-all
returns-in_ok-push-in-None-clause-all c =
    let terms = c.args.cx.now in
    let pending = c.args.pending.now.items in
    let t = tree_in terms.rows (handle_shape c.args.handle) in
    let new = c.push_parts-in-None.new.pending.items in
    let same = ap (λ h. tree_in terms.rows (handle_shape h)) c.typed-ty.ensures in
    on_ok c.push_parts-in-None.result c.push_parts-in-None.ensures (λ pushed.
    (pushes_leaving terms pending new c.typed-ty.result t same
    (subst (λ ps. Pushes terms ps (collect t) new) c.in_ok-push-in-None.ensures.items pushed)).all
    c.args.search.now.found.keys)
