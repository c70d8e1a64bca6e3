use Rattle.std.proofs.Common.{List, length, sym, subst}
use Rattle.tt_kinds.specs.Kinds.{ty_shape}
use Rattle.tt_interner.specs.Owned.{AreOwned}
use Rattle.tt_interner.proofs.Growth.{Extends-trans}
use Rattle.tt_interner.proofs.OwnedLaws.{list_still_owned}
use Rattle.checker.specs.Items.{AdtId, AreFunctions, AreWrittenTypes, numbers}
use Rattle.checker.proofs.WrittenLaws.{written_stay}
use Rattle.checker.proofs.declared.declare.Goals as goal

pub define_all-requires : goal.define_all-requires
define_all-requires c = subst (AreOwned ty_shape c.written_types.new.cx) (sym c.as_slice-3.ensures.value) c.in_ok-written.ensures.written.owned

pub returns-in_err-define_all-clause-extends : goal.returns-in_err-define_all-clause-extends
returns-in_err-define_all-clause-extends c =
    Extends-trans c.data_types.ensures.extends (Extends-trans c.written_types.ensures.extends c.define_all.ensures)

pub functions-requires : goal.functions-requires
functions-requires c = subst (AreOwned ty_shape c.define_all.new.cx) (sym c.as_slice-4.ensures.value)
    (list_still_owned ty_shape c.written_types.new.cx c.define_all.new.cx c.in_ok-written.written.items c.define_all.ensures
    c.in_ok-written.ensures.written.owned)

pub returns-in_err-functions-clause-extends : goal.returns-in_err-functions-clause-extends
returns-in_err-functions-clause-extends c =
    Extends-trans c.data_types.ensures.extends
    (Extends-trans c.written_types.ensures.extends (Extends-trans c.define_all.ensures c.functions.ensures.extends))

pub returns-clause-extends : goal.returns-clause-extends
returns-clause-extends c =
    Extends-trans c.data_types.ensures.extends
    (Extends-trans c.written_types.ensures.extends (Extends-trans c.define_all.ensures c.functions.ensures.extends))

pub returns-clause-declared : goal.returns-clause-declared
returns-clause-declared c =
    let program = c.args.program.now in
    let ids = c.in_ok-data_types.data_types.items in
    let types = c.in_ok-written.written.items in
    let between = c.written_types.new.cx in
    let count = length program.types.items in
    let written = subst (λ (xs : List AdtId). AreWrittenTypes between program (numbers xs) types count) c.as_slice.ensures.value
    c.in_ok-written.ensures.written in
    record {
      counted = c.in_ok-data_types.ensures.counted;
      distinct = c.in_ok-data_types.ensures.distinct;
      distinct_functions = c.in_ok-functions.ensures.distinct;
      written = written_stay between c.functions.new.cx program (numbers ids) types count
          (Extends-trans c.define_all.ensures c.functions.ensures.extends) written;
      functions = subst (λ xs. AreFunctions c.functions.new.cx program xs c.in_ok-functions.functions.items (length program.functions.items))
          c.as_slice-4.ensures.value c.in_ok-functions.ensures.declared;
    }
