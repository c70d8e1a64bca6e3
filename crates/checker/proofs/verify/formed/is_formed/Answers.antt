use Rattle.std.proofs.Common.{sym, ◌∙◌}
use Rattle.checker.proofs.FormedLaws.{bool_formed, char_formed, instance_formed, int_formed, marked_formed, parameter_formed}
use Rattle.checker.proofs.FormedLaws.{reference_formed, str_formed, tuple_formed}
use Rattle.checker.proofs.verify.formed.is_formed.Goals as goal

pub returns-in-I32 : goal.returns-in-I32
returns-in-I32 c = λ _. int_formed c.args.cx.now c.args.scope c.args.ty _ c.kind.ensures c.in-Int.int c.in-Int.is c.in-I32.is

pub returns-in-Bool : goal.returns-in-Bool
returns-in-Bool c = λ _. bool_formed c.args.cx.now c.args.scope c.args.ty _ c.kind.ensures c.in-Bool.is

pub returns-in-Char : goal.returns-in-Char
returns-in-Char c = λ _. char_formed c.args.cx.now c.args.scope c.args.ty _ c.kind.ensures c.in-Char.is

pub returns-in-Str : goal.returns-in-Str
returns-in-Str c = λ _. str_formed c.args.cx.now c.args.scope c.args.ty _ c.kind.ensures c.in-Str.is

pub returns-in-Param : goal.returns-in-Param
returns-in-Param c = λ is.
    parameter_formed c.args.cx.now c.args.scope c.args.params.now c.in-Param.param.index c.args.ty c.requires.params (c.is_at.ensures is)

pub returns-in-Some-2 : goal.returns-in-Some-2
returns-in-Some-2 c = λ is.
    let found = rw c.in-Some-2.is at c.in_ok-args-in-Adt.ensures.is in
    instance_formed c.args.cx.now c.args.scope c.index_of-number.result c.in-Some.item.now _ _ found (c.are_arguments_marked.ensures is)

pub returns-in-Tuple : goal.returns-in-Tuple
returns-in-Tuple c = λ is.
    tuple_formed c.args.cx.now c.args.scope c.args.ty _ c.kind.ensures c.in-Tuple.items c.as_slice.result.now c.in-Tuple.is c.as_slice.ensures
    (c.are_types_marked.ensures is)

pub returns-in-Not : goal.returns-in-Not
returns-in-Not c = λ is.
    let arm = c.in-Ref in
    let erased = sym c.kind-in-Ref.ensures.kind ∙ c.in-ReErased.is in
    reference_formed c.args.cx.now c.args.scope c.args.ty _ c.kind.ensures arm.region arm.referent arm.mutability arm.is erased c.in-Not.is
    (marked_formed c.args.cx.now c.args.scope c.args.marks.now c.requires.marks arm.referent (c.is_marked.ensures is))
