-- The answers to calls that are answered one after another.
use Rattle.std.specs.Prelude.{◌≡◌, List, [], ◌∷◌, ◌++◌}
use Rattle.tt_interner.specs.Stored.{Terms, Extends}
use Rattle.tt_calls.specs.declared.answer.Answer.{Answer}
use Rattle.tt_calls.specs.declared.call.Call.{Call}
use Rattle.tt_calls.specs.Told.{told, told_all, setting, IsOwnedAnswer}
use Rattle.tt_calls.specs.Means.{IsAllowed}

-- the answers are the ones before and one more, which the call may have
pub record AddsAnswer (old new : Terms) (before : List Answer) (call : Call) (after : List Answer) : Type 0 where
  pub answer : Answer
  pub added : after ≡ before ++ answer ∷ []
  pub allowed : IsAllowed (setting old new) (told_all old.rows before) call (told new.rows answer)

-- the interner grows from the old terms to the new ones, and this is an answer that the call may have there
pub record AnswersCall (old new : Terms) (earlier : List Answer) (call : Call) (answer : Answer) : Type 0 where
  pub extends : Extends old new
  pub owned : IsOwnedAnswer new.rows answer
  pub allowed : IsAllowed (setting old new) (told_all old.rows earlier) call (told new.rows answer)

-- each call has an answer that it may have in the interner as the calls before it left it
abbrev pub AnswersInTurn : Terms → Terms → List Answer → List Call → List Answer → Type 0
AnswersInTurn old new earlier [] [] = new ≡ old
AnswersInTurn old new earlier [] (a ∷ answers) = ⊥
AnswersInTurn old new earlier (c ∷ calls) [] = ⊥
AnswersInTurn old new earlier (c ∷ calls) (a ∷ answers) =
    (between : Terms) × AnswersCall old between earlier c a
    × AnswersInTurn between new (earlier ++ a ∷ []) calls answers
