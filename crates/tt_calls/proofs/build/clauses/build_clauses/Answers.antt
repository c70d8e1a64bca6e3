use Rattle.std.proofs.Common.{refl, sym, subst}
use Rattle.std.specs.Prelude.{List, ℕ, ◌≤◌, length}
use Rattle.tt_kinds.specs.Kinds.{clauses_shape}
use Rattle.tt_kinds.specs.Shape.{fill}
use Rattle.tt_kinds.specs.declared.table.Table.TheVariants.{ClauseLists}
use Rattle.tt_interner.specs.Stored.{most_in_place}
use Rattle.tt_calls.specs.declared.call.Call.TheVariants as call
use Rattle.tt_calls.specs.CallForm.{clause_items, clauses_tree, items_positions, AreItemsTooDeep}
use Rattle.tt_calls.specs.Told.{told_all, HasFullTable, setting}
use Rattle.tt_calls.specs.Means.{number_at, tree_at}
use Rattle.tt_calls.specs.Build.{IsPlaced, IsUnbuiltPart}
use Rattle.tt_calls.specs.Room.{ClausesNeedRoom}
use Rattle.tt_calls.proofs.BuildLaws.{unbuilt-refused, known-refused}
use Rattle.tt_calls.proofs.ClauseLaws.{clauses-shallow}
use Rattle.tt_calls.proofs.build.clauses.build_clauses.Goals as goal

pub returns-in-Ok-clause-answers : goal.returns-in-Ok-clause-answers
unfolding fill
returns-in-Ok-clause-answers c = λ list same.
    let e = told_all c.args.cx.now.rows c.args.earlier.now in
    let k = subst (λ (ps : List ℕ). IsPlaced c.clause_list.new.cx e (clauses_tree (number_at e) (tree_at e) ps) (items_positions (clause_items ps)) (AreItemsTooDeep (clause_items ps)) (clauses_shape c.in-Ok.list)) (sym same) c.in-Ok.ensures.list.ok in
    record {
      owned = k.part;
      ok = (k.named, (λ d. d), refl, k.means, λ r x. x);
      err = tt;
    }

pub returns-in-Err-clause-answers : goal.returns-in-Err-clause-answers
returns-in-Err-clause-answers c = λ list same.
    let e = told_all c.args.cx.now.rows c.args.earlier.now in
    let terms = c.clause_list.new.cx in
    let r = c.in-Err.refusal in
    let why = subst (λ (ps : List ℕ). IsUnbuiltPart (HasFullTable terms) e (items_positions (clause_items ps)) (AreItemsTooDeep (clause_items ps)) r) (sym same) c.in-Err.ensures.list.err in
    let needs = subst (λ (ps : List ℕ). ClausesNeedRoom terms.rows e ps r) (sym same) c.in-Err.ensures.room in
    record {
      owned = tt;
      ok = tt;
      err = unbuilt-refused (setting c.args.cx.now terms) e (call.Clauses list) (items_positions (clause_items list.items)) (AreItemsTooDeep (clause_items list.items)) r tt
          (known-refused c.args.cx.now terms terms c.clause_list.ensures.extends c.args.earlier.now c.requires c.are_rows.ensures.are ClauseLists (length list.items ≤ most_in_place) (clauses_tree (number_at e) (tree_at e) list.items) r needs)
          (λ n. n) (clauses-shallow list.items) why;
    }
