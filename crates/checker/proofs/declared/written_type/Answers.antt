use Rattle.std.proofs.Common.{Ok, length, refl, ap, sym, subst, ◌∙◌}
use Rattle.std.specs.Prelude.{slice_get}
use Rattle.std.proofs.lemmas.Option.{slice_get_read}
use Rattle.tt_index.specs.declared.numeric.IntTy.TheVariants.{I32}
use Rattle.tt_kinds.specs.Kinds.{ty_shape}
use Rattle.tt_fold.specs.Steps.{tree_in}
use Rattle.checker_syntax.specs.declared.program.WrittenType.TheVariants as written_as
use Rattle.checker.specs.Items.{numbers}
use Rattle.checker.specs.Scope.{trees}
use Rattle.checker.specs.TypeTrees.{data_type_of, tuple_of}
use Rattle.checker.specs.Written.{IsWritten, bool, char, int, part, text}
use Rattle.checker.proofs.BuiltLaws.{for_ok}
use Rattle.checker.proofs.TreeLaws.{bool_built, char_built, int_built, str_built}
use Rattle.checker.proofs.WrittenLaws.{data_type_written, number_at, parameter_written, reference_written}
use Rattle.checker.proofs.WrittenLaws.{tuple_written}
use Rattle.checker.proofs.declared.written_type.Goals as goal

pub returns-in_ok-mk_ty-in-Int-clause-is : goal.returns-in_ok-mk_ty-in-Int-clause-is
returns-in_ok-mk_ty-in-Int-clause-is c =
    let is = int_built I32 c.args.cx.now c.mk_ty.new.self (Ok c.in_ok-mk_ty-in-Int.field-0) c.in_ok-mk_ty-in-Int.ensures in
    rw c.in-Int.is (subst (IsWritten c.args.program.now (numbers c.args.ids.now) written_as.Int) (sym is) int)

pub returns-in_ok-mk_ty-in-Bool-clause-is : goal.returns-in_ok-mk_ty-in-Bool-clause-is
returns-in_ok-mk_ty-in-Bool-clause-is c =
    let is = bool_built c.args.cx.now c.mk_ty-in-Bool.new.self (Ok c.in_ok-mk_ty-in-Bool.field-0) c.in_ok-mk_ty-in-Bool.ensures in
    rw c.in-Bool.is (subst (IsWritten c.args.program.now (numbers c.args.ids.now) written_as.Bool) (sym is) bool)

pub returns-in_ok-mk_ty-in-Char-clause-is : goal.returns-in_ok-mk_ty-in-Char-clause-is
returns-in_ok-mk_ty-in-Char-clause-is c =
    let is = char_built c.args.cx.now c.mk_ty-in-Char.new.self (Ok c.in_ok-mk_ty-in-Char.field-0) c.in_ok-mk_ty-in-Char.ensures in
    rw c.in-Char.is (subst (IsWritten c.args.program.now (numbers c.args.ids.now) written_as.Char) (sym is) char)

pub returns-in_ok-mk_ty-in-Str-clause-is : goal.returns-in_ok-mk_ty-in-Str-clause-is
returns-in_ok-mk_ty-in-Str-clause-is c =
    let is = str_built c.args.cx.now c.mk_ty-in-Str.new.self (Ok c.in_ok-mk_ty-in-Str.field-0) c.in_ok-mk_ty-in-Str.ensures in
    rw c.in-Str.is (subst (IsWritten c.args.program.now (numbers c.args.ids.now) written_as.Str) (sym is) text)

pub returns-in_ok-name_of-in-Param-clause-is : goal.returns-in_ok-name_of-in-Param-clause-is
returns-in_ok-name_of-in-Param-clause-is c =
    let arm = c.in-Param in
    let name = c.in_ok-name_of-in-Param in
    rw arm.is (for_ok c.parameter.result (λ ty is.
    parameter_written c.args.program.now (numbers c.args.ids.now) arm.index arm.name name.ensures.0 name.field-0.now
    (tree_in c.parameter.new.cx.rows (ty_shape ty)) name.ensures.1 name.ensures.2 is) c.parameter.ensures.is)

pub returns-in_ok-items-in-Tuple-clause-is : goal.returns-in_ok-items-in-Tuple-clause-is
returns-in_ok-items-in-Tuple-clause-is c =
    let cx = c.args.cx.now in
    let items = c.in_ok-items-in-Tuple in
    let found = c.in_ok-numbers-in-Tuple in
    let same = found.ensures ∙ ap (λ xs. part xs c.in-Tuple.items) c.as_slice-in-Tuple.ensures.value in
    let lent = ap (λ xs. tuple_of (trees cx.rows xs)) c.as_slice-in-Tuple-2.ensures.value in
    rw c.in-Tuple.is (for_ok c.tuple_of.result (λ ty is.
    tuple_written cx c.args.program.now (numbers c.args.ids.now) c.args.earlier.now c.requires c.in-Tuple.items found.numbers.now
    (length c.args.earlier.now) items.items.items (tree_in c.tuple_of.new.cx.rows (ty_shape ty)) same items.ensures.are (is ∙ lent))
    c.tuple_of.ensures.is)

pub returns-else-len-clause-is : goal.returns-else-len-clause-is
returns-else-len-clause-is c =
    let cx = c.args.cx.now in
    let arm = c.in-Data in
    let item = c.in-Some.item.now in
    let lookup = c.in-Some.ensures.lookup in
    let read = slice_get_read c.deref.result.now (length c.deref.result.now) arm.number item refl lookup.3.0 lookup.1 in
    let there = sym (ap (λ xs. slice_get xs arm.number) c.deref.ensures.value) ∙ read in
    let id = c.in_ok-id-in-Data in
    let found = c.in_ok-numbers-in-Data in
    let args = c.in_ok-args-in-Data in
    let same = found.ensures ∙ ap (λ xs. part xs arm.args) c.as_slice.ensures.value in
    let lent = ap (λ xs. data_type_of id.id.number (trees cx.rows xs)) c.as_slice-in-Data.ensures.value in
    let counted = sym (c.len.ensures ∙ args.args.ok.0) ∙ c.if-len.false ∙ (c.len-in-Data.ensures ∙ item.params.ok.0) in
    rw arm.is (for_ok c.data_type_of.result (λ ty is.
    data_type_written cx c.args.program.now (numbers c.args.ids.now) c.args.earlier.now c.requires arm.number id.id.number arm.args item
    found.numbers.now (length c.args.earlier.now) args.args.items (tree_in c.data_type_of.new.cx.rows (ty_shape ty)) there
    (number_at c.args.ids.now arm.number id.id id.ensures) same args.ensures.are counted (is ∙ lent)) c.data_type_of.ensures.is)

pub returns-in_ok-referent-in-Reference-clause-is : goal.returns-in_ok-referent-in-Reference-clause-is
returns-in_ok-referent-in-Reference-clause-is c =
    let referent = c.in_ok-referent-in-Reference in
    rw c.in-Reference.is (for_ok c.reference_to.result (λ ty is.
    reference_written c.args.cx.now c.args.program.now (numbers c.args.ids.now) c.args.earlier.now c.requires c.in-Reference.referent
    referent.referent (tree_in c.reference_to.new.cx.rows (ty_shape ty)) referent.ensures.is is) c.reference_to.ensures.is)
