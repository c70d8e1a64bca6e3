use Rattle.std.proofs.Common.{◌≡◌, ◌≤◌, ◌∙◌, arith}
use Rattle.tt_kinds.specs.declared.table.Table.TheVariants.{Declarations}
use Rattle.tt_interner.specs.Rows.{size}
use Rattle.tt_interner.proofs.Growth.{Extends-trans, size-grows, AreParts-grows}
use Rattle.tt_kinds.specs.Values.{declared_shapes}
use Rattle.tt_calls.specs.declared.call.Call.TheVariants as call
use Rattle.tt_calls.specs.CallForm.{declared_ids, declared_item, declared_positions, declared_trees}
use Rattle.tt_calls.specs.Told.{told_all}
use Rattle.tt_calls.specs.Means.{number_at, tree_at}
use Rattle.tt_calls.proofs.BuildLaws.{answer-passed}
use Rattle.tt_calls.proofs.PartLaws.{AreTerms-append}
use Rattle.tt_calls.proofs.DeclareLaws.{new-id, declared-owned, declared-tree, declare-refused}
use Rattle.tt_calls.proofs.build.declarations.declare_at.Goals as goal

pub returns-in_err-kind-clause-answers : goal.returns-in_err-kind-clause-answers
returns-in_err-kind-clause-answers c =
    let e = told_all c.args.cx.now.rows c.args.earlier.now in
    answer-passed c.args.cx.now c.declared_kind.new.cx e (call.Declare c.args.call.now) c.from_residual.result c.in_err-kind.field-0.0 c.from_residual.ensures.1
    (declare-refused c.args.cx.now c.declared_kind.new.cx e c.args.call.now c.in_err-kind.field-0.0 c.in_err-kind.ensures.kind.err)

pub declare-requires-clause-terms : goal.declare-requires-clause-terms
declare-requires-clause-terms c =
    AreParts-grows c.declared_kind.new.cx.rows c.symbol.new.self.rows c.symbol.ensures.grows (declared_shapes c.in_ok-kind.kind) c.in_ok-kind.ensures.kind.ok.parts

pub returns-in_err-id-clause-extends : goal.returns-in_err-id-clause-extends
returns-in_err-id-clause-extends c =
    Extends-trans c.declared_kind.ensures.extends
    (Extends-trans (record { rows = c.symbol.ensures.grows; limit = c.symbol.ensures.limit })
    c.declare.ensures.extends)

pub returns-clause-extends : goal.returns-clause-extends
returns-clause-extends c =
    Extends-trans c.declared_kind.ensures.extends
    (Extends-trans (record { rows = c.symbol.ensures.grows; limit = c.symbol.ensures.limit })
    c.declare.ensures.extends)

pub returns-clause-answers : goal.returns-clause-answers
returns-clause-answers c =
    let e = told_all c.args.cx.now.rows c.args.earlier.now in
    let what = c.args.call.now.kind in
    let built = c.in_ok-kind.ensures.kind.ok in
    let last : c.in_ok-id.id.number ≡ size c.symbol.new.self.rows Declarations = c.in_ok-id.ensures.adds.last in
    let first = size-grows c.args.cx.now.rows c.declared_kind.new.cx.rows c.declared_kind.ensures.extends.rows Declarations in
    let more = size-grows c.declared_kind.new.cx.rows c.symbol.new.self.rows c.symbol.ensures.grows Declarations in
    let above : size c.args.cx.now.rows Declarations ≤ c.in_ok-id.id.number = omega arith in
    record {
      owned = declared-owned c.symbol.new.self c.declare.new.self c.in_ok-kind.kind c.in_ok-name.name c.sort.result c.in_ok-id.id c.in_ok-id.ensures c.sort.ensures;
      ok = (
        AreTerms-append e (declared_ids what) (declared_positions what) c.requires.ids built.named,
        record {
          sorted = c.sort.ensures ∙ built.sorted;
          declares = rw (← c.as_str.ensures.value)
              (declared-tree c.declared_kind.new.cx c.symbol.new.self c.declare.new.self c.in_ok-kind.kind c.in_ok-name.name _ c.in_ok-id.id (declared_item (number_at e) what) (declared_trees (number_at e) (tree_at e) what)
              c.in_ok-name.ensures c.in_ok-id.ensures built.item built.parts built.means);
          new = above;
          later = new-id c.args.cx.now.rows c.args.earlier.now c.in_ok-id.id.number c.requires.owned above;
        },
      );
      err = tt;
    }
