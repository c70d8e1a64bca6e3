use Rattle.std.proofs.Common.{◌≡◌, ◌∙◌, subst}
use Rattle.solver.specs.Answers.{IsNo, IsYes}
use Rattle.solver.specs.Derivations.{Derives}
use Rattle.solver.specs.Program.{goals_in, impls_in}
use Rattle.solver.specs.Search.{Continues, IsNoAnswer, IsYesAnswer, goal_under}
use Rattle.solver.proofs.DerivationLaws.{stable}
use Rattle.solver.proofs.OutcomeLaws.{if_ok}
use Rattle.solver.proofs.SearchLaws.{any_err, any_ok, continues_back, turned_back}
use Rattle.solver.proofs.solver.solve.Goals as goal

pub returns-in-Ok-Yes-clause-yes : goal.returns-in-Ok-Yes-clause-yes
returns-in-Ok-Yes-clause-yes c =
    let old = c.args.cx.now in
    let impls = impls_in old c.args.program.now in
    let assumptions = goals_in old c.args.assumptions.now in
    let goal = goal_under c.answer_of-answer.new.cx c.answer_of-answer.new.search.bindings old c.args.goal in
    if_ok (λ answer. IsYesAnswer answer → Derives impls assumptions goal) (λ answer. IsYesAnswer answer → IsYes impls assumptions goal)
    c.answer_of-answer.result
    (λ answer derives yes. (stable impls c.requires.program.written).variables assumptions goal (derives yes)) c.answer_of-answer.ensures.yes

pub returns-clause-refined : goal.returns-clause-refined
returns-clause-refined c =
    let later = c.answer_of-answer.new.cx in
    let found = c.answer_of-answer.new.search.bindings in
    let begins : c.new-search.result.bindings ≡ c.args.bindings.now = c.new-search.ensures ∙ c.replace-taken.ensures.value in
    let on : Continues c.args.cx.now c.args.bindings.now later found =
    subst (λ t. Continues c.args.cx.now t later found) begins c.answer_of-answer.ensures.continues in
    (continues_back c.snapshot-mark.result.variables c.snapshot-mark.result.bindings c.requires.table on
    c.snapshot-mark.ensures.variables c.snapshot-mark.ensures.bindings c.rollback_to.ensures.at).refined

pub returns-clause-earlier : goal.returns-clause-earlier
returns-clause-earlier c =
    let later = c.answer_of-answer.new.cx in
    let found = c.answer_of-answer.new.search.bindings in
    let begins : c.new-search.result.bindings ≡ c.args.bindings.now = c.new-search.ensures ∙ c.replace-taken.ensures.value in
    let on : Continues c.args.cx.now c.args.bindings.now later found =
    subst (λ t. Continues c.args.cx.now t later found) begins c.answer_of-answer.ensures.continues in
    (continues_back c.snapshot-mark.result.variables c.snapshot-mark.result.bindings c.requires.table on
    c.snapshot-mark.ensures.variables c.snapshot-mark.ensures.bindings c.rollback_to.ensures.at).earlier

pub returns-clause-no : goal.returns-clause-no
returns-clause-no c =
    let old = c.args.cx.now in
    let impls = c.args.program.now in
    let assumptions = c.args.assumptions.now in
    let begins : c.new-search.result.bindings ≡ c.args.bindings.now = c.new-search.ensures ∙ c.replace-taken.ensures.value in
    if_ok (λ answer. IsNoAnswer answer → IsNo (impls_in old impls) (goals_in old assumptions)
    (goal_under old c.new-search.result.bindings old c.args.goal))
    (λ answer. IsNoAnswer answer → IsNo (impls_in old impls) (goals_in old assumptions) (goal_under old c.args.bindings.now old c.args.goal))
    c.answer_of-answer.result
    (λ answer holds no. subst (λ b. IsNo (impls_in old impls) (goals_in old assumptions) (goal_under old b old c.args.goal)) begins (holds no))
    c.answer_of-answer.ensures.no

pub returns-clause-same : goal.returns-clause-same
returns-clause-same c =
    let later = c.answer_of-answer.new.cx in
    let found = c.answer_of-answer.new.search.bindings in
    let begins : c.new-search.result.bindings ≡ c.args.bindings.now = c.new-search.ensures ∙ c.replace-taken.ensures.value in
    let on : Continues c.args.cx.now c.args.bindings.now later found =
    subst (λ t. Continues c.args.cx.now t later found) begins c.answer_of-answer.ensures.continues in
    any_ok _ _ (turned_back c.snapshot-mark.result.variables c.snapshot-mark.result.bindings on
    c.snapshot-mark.ensures.variables c.snapshot-mark.ensures.bindings c.rollback_to.ensures.at)

pub returns-clause-undone : goal.returns-clause-undone
returns-clause-undone c =
    let later = c.answer_of-answer.new.cx in
    let found = c.answer_of-answer.new.search.bindings in
    let begins : c.new-search.result.bindings ≡ c.args.bindings.now = c.new-search.ensures ∙ c.replace-taken.ensures.value in
    let on : Continues c.args.cx.now c.args.bindings.now later found =
    subst (λ t. Continues c.args.cx.now t later found) begins c.answer_of-answer.ensures.continues in
    any_err _ (turned_back c.snapshot-mark.result.variables c.snapshot-mark.result.bindings on
    c.snapshot-mark.ensures.variables c.snapshot-mark.ensures.bindings c.rollback_to.ensures.at)
