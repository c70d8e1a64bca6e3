use Rattle.std.proofs.Common.{refl, subst, sym}
use Rattle.std.specs.Prelude.{List}
use Rattle.tt_kinds.specs.Kinds.{args_shape}
use Rattle.tt_kinds.specs.Shape.{fill}
use Rattle.tt_kinds.specs.declared.table.Table.TheVariants.{ArgLists}
use Rattle.tt_calls.specs.declared.call.ArgCall.{ArgCall}
use Rattle.tt_calls.specs.declared.call.Call.TheVariants as call
use Rattle.tt_calls.specs.CallForm.{args_ids, args_part, part_positions, part_tree, IsPartTooDeep, IsShort}
use Rattle.tt_calls.specs.Told.{told_all, HasFullTable, setting}
use Rattle.tt_calls.specs.Means.{number_at, tree_at}
use Rattle.tt_calls.specs.Build.{IsPartOfCall, IsUnbuiltPart}
use Rattle.tt_calls.specs.Room.{PartNeedsRoom}
use Rattle.tt_calls.proofs.PartLaws.{AreTerms-append, AreTerms-second}
use Rattle.tt_calls.proofs.BuildLaws.{unbuilt-refused, known-refused}
use Rattle.tt_calls.proofs.build.consts.build_args_answer.Goals as goal

pub returns-in-Ok-clause-answers : goal.returns-in-Ok-clause-answers
unfolding fill
returns-in-Ok-clause-answers c = λ list same ids.
    let e = told_all c.args.cx.now.rows c.args.earlier.now in
    let k = subst (λ (cs : List ArgCall). IsPartOfCall c.build_arg_list.new.cx e (args_part cs) (args_shape c.in-Ok.args)) (sym same) c.in-Ok.ensures.list.ok in
    record {
      owned = k.part;
      ok = (AreTerms-append e (args_ids list.items) (part_positions (args_part list.items)) ids k.named, k.shallow, refl, k.means, λ r x. x);
      err = tt;
    }

pub returns-in-Err-clause-answers : goal.returns-in-Err-clause-answers
returns-in-Err-clause-answers c = λ list same ids.
    let e = told_all c.args.cx.now.rows c.args.earlier.now in
    let terms = c.build_arg_list.new.cx in
    let r = c.in-Err.refusal in
    let why = subst (λ (cs : List ArgCall). IsUnbuiltPart (HasFullTable terms) e (part_positions (args_part cs)) (IsPartTooDeep (args_part cs)) r) (sym same) c.in-Err.ensures.list.err in
    let needs = subst (λ (cs : List ArgCall). PartNeedsRoom terms.rows e (args_part cs) r) (sym same) c.in-Err.ensures.room in
    record {
      owned = tt;
      ok = tt;
      err = unbuilt-refused (setting c.args.cx.now terms) e (call.Args list) (part_positions (args_part list.items)) (IsPartTooDeep (args_part list.items)) r tt
          (known-refused c.args.cx.now terms terms c.build_arg_list.ensures.extends c.args.earlier.now c.requires c.are_rows.ensures.are ArgLists (IsShort (args_part list.items)) (part_tree (number_at e) (tree_at e) (args_part list.items)) r needs)
          (AreTerms-second e (args_ids list.items) (part_positions (args_part list.items))) (λ d. d) why;
    }
