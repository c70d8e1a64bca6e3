-- a replacement keeps variables matched, by the law
use Rattle.std.proofs.Common.{List, [], sym, subst}
use Rattle.std.specs.Prelude.{Result, Ok, Err, IfOk}
use Rattle.tt_index.specs.declared.refusal.Refusal.{Refusal}
use Rattle.tt_kinds.specs.Argument.{Argument, readings}
use Rattle.tt_kinds.specs.Laws.{PutKeepsMatched}
use Rattle.tt_kinds.specs.Matched.{ArgumentsMatched, MatchedUnder}
use Rattle.tt_kinds.specs.Reading.{read}
use Rattle.tt_kinds.specs.Tree.{Depth, Tree}
use Rattle.tt_binder.specs.Instance.{IsPlain}
use Rattle.laws.proofs.replacement.matched_instance.Goals as goal

keeps : {T : Type 0} → PutKeepsMatched → (result : Result T Refusal) (u : T → Tree Depth) (args : List (Argument Depth)) (t : Tree Depth)
    → ArgumentsMatched (readings args) → MatchedUnder [] (read 0 t) → IfOk result (λ r. IsPlain args t (u r)) → IfOk result (λ r. MatchedUnder [] (read 0 (u r)))
keeps law (Ok r) u args t given matched h = subst (MatchedUnder []) (sym h) (law (readings args) given [] (read 0 t) matched)
keeps law (Err e) u args t given matched h = tt

pub returns : goal.returns
returns c = keeps c.replacement_keeps_matched.ensures c.instance.result _ _ _ c.requires.args c.requires.ty c.instance.ensures.plain
