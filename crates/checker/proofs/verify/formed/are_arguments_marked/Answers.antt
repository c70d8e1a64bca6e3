use Rattle.std.proofs.Common.{IsTrue, length, refl, rules, add-one, sym, subst, ◌∙◌}
use Rattle.std.proofs.lemmas.Option.{slice_get_read}
use Rattle.checker.proofs.FormedLaws.{AllBelow, IsMarkedArgument, arguments_formed, below_also}
use Rattle.checker.proofs.verify.formed.are_arguments_marked.Goals as goal

pub loop-index-preserved : goal.loop-index-preserved
loop-index-preserved c =
    let items = c.as_slice-items.result.now in
    let marks = c.args.marks.now in
    let i = c.loop-index.index in
    let x = c.index-items-index in
    let there = slice_get_read items (length items) i x.result refl c.loop-index-test.true x.is in
    let is : IsTrue c.is_marked.result = search rules in
    subst (AllBelow (IsMarkedArgument marks) items) (sym (add-one i))
    (below_also (IsMarkedArgument marks) items i x.result c.loop-index.invariant there
    (c.in-Some.ty, sym c.as_type.ensures ∙ c.in-Some.is, c.is_marked.ensures is))

pub returns : goal.returns
returns c = λ _. arguments_formed c.args.cx.now c.args.scope c.args.marks.now c.requires.marks c.args.args c.as_slice-items.result.now
    c.loop-index.index c.as_slice-items.ensures c.loop-index.invariant c.loop-index-test.false
