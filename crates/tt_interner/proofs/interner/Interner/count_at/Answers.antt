-- by the row of the list
use Rattle.std.proofs.Common.{sym}
use Rattle.tt_kinds.specs.Handle.{any_handle}
use Rattle.tt_kinds.specs.Parts.{child_in}
use Rattle.tt_kinds.specs.declared.table.TermTable.TheVariants as terms_of
use Rattle.tt_interner.specs.Rows.{clauses_row, tys_row, consts_row, args_row, pats_row, existentials_row}
use Rattle.tt_interner.specs.Children.{arg_child}
use Rattle.tt_interner.proofs.NodeSteps.{is_row_of_tys, is_row_of_consts, is_row_of_args, is_row_of_pats}
use Rattle.tt_interner.proofs.NodeSteps.{is_row_of_existentials, is_row_of_clauses, len_here}
use Rattle.tt_interner.proofs.interner.Interner.count_at.Goals as goal

pub returns-in-TypeLists : goal.returns-in-TypeLists
returns-in-TypeLists c = rw c.typed.ensures (sym (len_here _ (any_handle terms_of.TypeLists c.typed.result) (tys_row c.as_slice.result.now) (child_in terms_of.Types) c.as_slice.result.now (is_row_of_tys c.as_slice.result.now) c.as_slice.ensures.row))

pub returns-in-ConstLists : goal.returns-in-ConstLists
returns-in-ConstLists c = rw c.typed-in-ConstLists.ensures (sym (len_here _ (any_handle terms_of.ConstLists c.typed-in-ConstLists.result) (consts_row c.as_slice-in-ConstLists.result.now) (child_in terms_of.Consts) c.as_slice-in-ConstLists.result.now (is_row_of_consts c.as_slice-in-ConstLists.result.now) c.as_slice-in-ConstLists.ensures.row))

pub returns-in-ArgLists : goal.returns-in-ArgLists
returns-in-ArgLists c = rw c.typed-in-ArgLists.ensures (sym (len_here _ (any_handle terms_of.ArgLists c.typed-in-ArgLists.result) (args_row c.as_slice-in-ArgLists.result.now) arg_child c.as_slice-in-ArgLists.result.now (is_row_of_args c.as_slice-in-ArgLists.result.now) c.as_slice-in-ArgLists.ensures.row))

pub returns-in-PatternLists : goal.returns-in-PatternLists
returns-in-PatternLists c = rw c.typed-in-PatternLists.ensures (sym (len_here _ (any_handle terms_of.PatternLists c.typed-in-PatternLists.result) (pats_row c.as_slice-in-PatternLists.result.now) (child_in terms_of.Patterns) c.as_slice-in-PatternLists.result.now (is_row_of_pats c.as_slice-in-PatternLists.result.now) c.as_slice-in-PatternLists.ensures.row))

pub returns-in-ExistentialLists : goal.returns-in-ExistentialLists
returns-in-ExistentialLists c = rw c.typed-in-ExistentialLists.ensures (sym (len_here _ (any_handle terms_of.ExistentialLists c.typed-in-ExistentialLists.result) (existentials_row c.as_slice-in-ExistentialLists.result.now) (child_in terms_of.Existentials) c.as_slice-in-ExistentialLists.result.now (is_row_of_existentials c.as_slice-in-ExistentialLists.result.now) c.as_slice-in-ExistentialLists.ensures.row))

pub returns-in-ClauseLists : goal.returns-in-ClauseLists
returns-in-ClauseLists c = rw c.typed-in-ClauseLists.ensures (sym (len_here _ (any_handle terms_of.ClauseLists c.typed-in-ClauseLists.result) (clauses_row c.as_slice-in-ClauseLists.result.now) (child_in terms_of.Predicates) c.as_slice-in-ClauseLists.result.now (is_row_of_clauses c.as_slice-in-ClauseLists.result.now) c.as_slice-in-ClauseLists.ensures.row))
