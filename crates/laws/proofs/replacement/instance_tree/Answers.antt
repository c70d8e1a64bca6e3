-- the result reads as the walk's tree does, so it is that tree
use Rattle.std.proofs.Common.{◌≡◌, List, sym, ◌∙◌}
use Rattle.std.specs.Prelude.{Result, Ok, Err, IfOk}
use Rattle.tt_index.specs.declared.refusal.Refusal.{Refusal}
use Rattle.tt_kinds.specs.Argument.{Argument}
use Rattle.tt_kinds.specs.Laws.{InstancesRead, ReadingsTellTrees}
use Rattle.tt_kinds.specs.Plain.{inst_tree}
use Rattle.tt_kinds.specs.Tree.{Depth, Tree}
use Rattle.tt_binder.specs.Instance.{IsPlain}
use Rattle.tt_kinds.specs.Kinds.{ty_shape}
use Rattle.tt_interner.specs.Arguments.{arguments}
use Rattle.tt_interner.specs.Owned.{tree_in}
use Rattle.laws.proofs.replacement.instance_tree.Goals as goal

walked : {T : Type 0} → InstancesRead → ReadingsTellTrees → (result : Result T Refusal) (u : T → Tree Depth) (args : List (Argument Depth)) (t : Tree Depth)
    → IfOk result (λ r. IsPlain args t (u r)) → IfOk result (λ r. u r ≡ inst_tree 0 args t)
walked read_as tell (Ok r) u args t h = tell 0 (u r) (inst_tree 0 args t) (h ∙ sym (read_as 0 args t))
walked read_as tell (Err e) u args t h = tt

pub returns : goal.returns
returns c = walked c.instances_read_as_replaced.ensures c.readings_tell_trees.ensures c.instance.result (λ r. tree_in c.instance.new.cx.rows (ty_shape r)) (arguments c.args.cx.now.rows c.args.args.now) (tree_in c.args.cx.now.rows (ty_shape c.args.ty)) c.instance.ensures.plain
