use Rattle.std.proofs.Common.{◌∷◌, [], refl}
use Rattle.tt_calls.specs.declared.call.Call.TheVariants as call
use Rattle.tt_calls.specs.CallForm.{as_at}
use Rattle.tt_calls.specs.Means.{any}
use Rattle.tt_calls.specs.Told.{setting}
use Rattle.tt_calls.proofs.LookupLaws.{absent-refused}
use Rattle.tt_calls.proofs.QueryLaws.{equal-allowed, unlike-refused, second-absent}
use Rattle.tt_calls.proofs.answers.queries.equal_at.Goals as goal

pub returns-in_default : goal.returns-in_default
returns-in_default c =
    absent-refused (setting c.args.cx.now c.args.cx.now) c.args.cx.now.rows c.args.earlier.now (any c.args.first) (record { want = as_at c.args.first; position = c.args.second } ∷ []) (call.Equal c.args.first c.args.second) refl (λ h. h) _ refl
    c.in_default.ensures.absent

pub returns-in_default-answer_at : goal.returns-in_default-answer_at
returns-in_default-answer_at c =
    second-absent (setting c.args.cx.now c.args.cx.now) c.args.cx.now.rows c.args.earlier.now c.args.first c.args.second c.in_default-answer_at.ensures.absent

pub returns-then-not-are_alike : goal.returns-then-not-are_alike
returns-then-not-are_alike c =
    unlike-refused c.args.cx.now.rows c.args.earlier.now c.args.first c.args.second c.in-Ok.first.now c.in-Ok-answer_at.second.now c.in-Ok.ensures.ok c.in-Ok-answer_at.ensures.ok
    (setting c.args.cx.now c.args.cx.now) (λ l. let yes = c.are_alike.ensures.1 l in let no = c.if-not-are_alike.true in absurd (cc))

pub returns : goal.returns
returns c =
    equal-allowed c.args.cx.now.rows c.args.earlier.now c.args.first c.args.second c.in-Ok.first.now c.in-Ok-answer_at.second.now c.in-Ok.ensures.ok c.in-Ok-answer_at.ensures.ok
    (setting c.args.cx.now c.args.cx.now) _ c.requires (c.are_alike.ensures.0 c.if-not-are_alike.false) c.are_interned.ensures (rw (c.number_of.ensures, c.number_of-2.ensures) refl)
