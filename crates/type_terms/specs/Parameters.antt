-- Terms that are themselves parameters, and their arguments.
use Rattle.std.specs.Prelude.{◌≡◌, ℕ, List, Some, None, slice_get}
use Rattle.tt_index.specs.declared.refusal.Refusal.{Refusal}
use Rattle.tt_index.specs.declared.refusal.Refusal.TheVariants.{NoSuchAnswer}
use Rattle.tt_kinds.specs.Label.{Name, Sort, type_sort, const_sort}
use Rattle.tt_kinds.specs.Tree.{param}
use Rattle.tt_kinds.specs.Cause.{Cause}
use Rattle.tt_interner.specs.Rows.{Row}
use Rattle.tt_calls.specs.declared.answer.Answer.{Answer}
use Rattle.type_terms.specs.declared.run.answers.parameters.Parameter.{Parameter}
use Rattle.type_terms.specs.declared.run.answers.parameters.Parameter.TheVariants as parameter
use Rattle.tt_calls.specs.declared.call.ArgCall.{ArgCall}
use Rattle.tt_calls.specs.declared.call.ArgCall.TheVariants as arg
use Rattle.tt_calls.specs.Told.{Told, told_all}
use Rattle.tt_calls.specs.Means.{told_arguments, term_at}
use Rattle.tt_calls.specs.Build.{IsAnswerAt}

-- the sort of a parameter
abbrev pub parameter_sort : Parameter → Sort
parameter_sort (parameter.«Type» i) = type_sort
parameter_sort (parameter.Const i) = const_sort

-- the index of a parameter
abbrev pub parameter_index : Parameter → ℕ
parameter_index (parameter.«Type» i) = i
parameter_index (parameter.Const i) = i

-- the argument of the parameter's sort that names the term at a position
abbrev pub term_arg : Parameter → ℕ → ArgCall
term_arg (parameter.«Type» i) p = arg.«Type» p
term_arg (parameter.Const i) p = arg.Const p

-- the answer is the one that the argument at the parameter's index names
pub record IsArgumentAt (earlier : List Answer) (args : List ArgCall) (p : Parameter) (a : Answer) : Type 0 where
  pub position : ℕ
  pub given : slice_get args (parameter_index p) ≡ Some (term_arg p position)
  pub at : IsAnswerAt earlier position a

-- the parameter has no argument: none of its sort is at its index, or the one there names no term
pub data LacksArgument (earlier : List Answer) (args : List ArgCall) (p : Parameter) (r : Refusal) : Type 0 where
  none_given : ((e : List Told) (name : Name) → Cause (param (parameter_sort p) (parameter_index p) name)
      (told_arguments e args) r) → LacksArgument earlier args p r
  not_told : (position : ℕ) → slice_get args (parameter_index p) ≡ Some (term_arg p position)
      → ((rows : List Row) → term_at (told_all rows earlier) position ≡ None) → r ≡ NoSuchAnswer
      → LacksArgument earlier args p r
