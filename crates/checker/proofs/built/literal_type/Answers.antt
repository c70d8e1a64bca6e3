use Rattle.std.proofs.Common.{Ok, ap, sym, ◌∙◌}
use Rattle.tt_index.specs.declared.numeric.IntTy.TheVariants.{I32}
use Rattle.checker.specs.TypeTrees.{reference_to}
use Rattle.checker.specs.Typing.{literal_type as type_of_literal}
use Rattle.checker.proofs.BuiltLaws.{for_ok}
use Rattle.checker.proofs.TreeLaws.{bool_built, char_built, int_built, str_built}
use Rattle.checker.proofs.built.literal_type.Goals as goal

pub returns-in_ok-mk_ty-in-Int-clause-is : goal.returns-in_ok-mk_ty-in-Int-clause-is
returns-in_ok-mk_ty-in-Int-clause-is c =
    let is = int_built I32 c.args.cx.now c.mk_ty.new.self (Ok c.in_ok-mk_ty-in-Int.field-0) c.in_ok-mk_ty-in-Int.ensures in
    is ∙ ap type_of_literal (sym c.in-Int.is)

pub returns-in_ok-mk_ty-in-Bool-clause-is : goal.returns-in_ok-mk_ty-in-Bool-clause-is
returns-in_ok-mk_ty-in-Bool-clause-is c =
    let is = bool_built c.args.cx.now c.mk_ty-in-Bool.new.self (Ok c.in_ok-mk_ty-in-Bool.field-0) c.in_ok-mk_ty-in-Bool.ensures in
    is ∙ ap type_of_literal (sym c.in-Bool.is)

pub returns-in_ok-mk_ty-in-Char-clause-is : goal.returns-in_ok-mk_ty-in-Char-clause-is
returns-in_ok-mk_ty-in-Char-clause-is c =
    let is = char_built c.args.cx.now c.mk_ty-in-Char.new.self (Ok c.in_ok-mk_ty-in-Char.field-0) c.in_ok-mk_ty-in-Char.ensures in
    is ∙ ap type_of_literal (sym c.in-Char.is)

pub returns-in_ok-text-in-Str-clause-is : goal.returns-in_ok-text-in-Str-clause-is
returns-in_ok-text-in-Str-clause-is c =
    let inner = str_built c.args.cx.now c.mk_ty-in-Str.new.self (Ok c.in_ok-text-in-Str.text) c.in_ok-text-in-Str.ensures in
    let named = ap type_of_literal (sym c.in-Str.is) in
    for_ok c.reference_to.result (λ ty is. is ∙ ap reference_to inner ∙ named) c.reference_to.ensures.is
