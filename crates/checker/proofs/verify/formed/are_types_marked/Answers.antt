use Rattle.std.proofs.Common.{IsTrue, rules, add-one, sym, subst}
use Rattle.checker.specs.Scope.{IsMarked}
use Rattle.checker.proofs.FormedLaws.{AllBelow, below_also, types_formed}
use Rattle.checker.proofs.verify.formed.are_types_marked.Goals as goal

pub loop-index-preserved : goal.loop-index-preserved
loop-index-preserved c =
    let types = c.args.types.now in
    let marks = c.args.marks.now in
    let i = c.loop-index.index in
    let is : IsTrue c.is_marked.result = search rules in
    subst (AllBelow (IsMarked marks) types) (sym (add-one i))
    (below_also (IsMarked marks) types i c.in-Ok.ty c.loop-index.invariant c.in-Ok.ensures (c.is_marked.ensures is))

pub returns : goal.returns
returns c = λ _. types_formed c.args.cx.now c.args.scope c.args.marks.now c.requires c.args.types.now c.loop-index.index
    c.loop-index.invariant c.loop-index-test.false
