use Rattle.std.proofs.Common.{◌++◌, ◌∷◌, [], sym, subst, ap, ◌∙◌}
use Rattle.tt_kinds.proofs.EqualityLaws.{handle_eq}
use Rattle.canonical.specs.Search.{collect_pending, AreGood}
use Rattle.canonical.specs.declared.search.Visit.TheVariants.{Enter, Leave}
use Rattle.canonical.proofs.SearchSteps.{good_last, known_inserted, on_ok, pending_more}
use Rattle.canonical.proofs.search.make_visit.Goals as goal

pub enter-requires-clause-own : goal.enter-requires-clause-own
enter-requires-clause-own c =
    let pending = c.args.pending.now.items in
    let found = c.args.search.now.found.keys in
    (good_last c.args.cx.now pending (Enter c.in-Enter.handle) found
    (subst (λ v. AreGood c.args.cx.now (pending ++ v ∷ []) found) c.in-Enter.is c.requires.good)).0

pub enter-requires-clause-good : goal.enter-requires-clause-good
enter-requires-clause-good c =
    let pending = c.args.pending.now.items in
    let found = c.args.search.now.found.keys in
    (good_last c.args.cx.now pending (Enter c.in-Enter.handle) found
    (subst (λ v. AreGood c.args.cx.now (pending ++ v ∷ []) found) c.in-Enter.is c.requires.good)).1

pub returns-in-Enter-clause-all : goal.returns-in-Enter-clause-all
returns-in-Enter-clause-all c =
    let pending = c.args.pending.now.items in
    let found = c.args.search.now.found.keys in
    on_ok c.enter.result c.enter.ensures.all (λ all. all
    ∙ sym (pending_more c.args.cx.now pending (Enter c.in-Enter.handle) found)
    ∙ ap (λ v. collect_pending c.args.cx.now (pending ++ v ∷ []) found) (sym c.in-Enter.is))

pub returns-in_ok-insert-in-Leave-clause-known : goal.returns-in_ok-insert-in-Leave-clause-known
returns-in_ok-insert-in-Leave-clause-known c =
    let pending = c.args.pending.now.items in
    let search = c.args.search.now in
    let own = (good_last c.args.cx.now pending (Leave c.in-Leave.ty) search.found.keys
    (subst (λ v. AreGood c.args.cx.now (pending ++ v ∷ []) search.found.keys) c.in-Leave.is c.requires.good)).0 in
    rw c.in_ok-insert-in-Leave.ensures.keys
    (known_inserted c.args.cx.now.rows handle_eq search.seen.keys c.in-Leave.ty search.found.keys c.requires.known own)

pub returns-in_ok-insert-in-Leave-clause-good : goal.returns-in_ok-insert-in-Leave-clause-good
returns-in_ok-insert-in-Leave-clause-good c =
    let pending = c.args.pending.now.items in
    let found = c.args.search.now.found.keys in
    (good_last c.args.cx.now pending (Leave c.in-Leave.ty) found
    (subst (λ v. AreGood c.args.cx.now (pending ++ v ∷ []) found) c.in-Leave.is c.requires.good)).1

pub returns-in_ok-insert-in-Leave-clause-all : goal.returns-in_ok-insert-in-Leave-clause-all
returns-in_ok-insert-in-Leave-clause-all c =
    let pending = c.args.pending.now.items in
    let found = c.args.search.now.found.keys in
    sym (pending_more c.args.cx.now pending (Leave c.in-Leave.ty) found)
    ∙ ap (λ v. collect_pending c.args.cx.now (pending ++ v ∷ []) found) (sym c.in-Leave.is)
